-- Receipts and volumes that are looked at one by one.
use Rattle.std.proofs.Common.{◌≡◌, ◌⊎◌, inl, inr, ⊎_elim, ℕ, zero, suc, ◌+◌, ◌<◌, ◌≤◌, List, [], ◌∷◌, length, get_or, refl, sym, ap, subst, ◌∙◌, arith}
use Rattle.std.specs.Prelude.{slice_get, Some, Err}
use Rattle.std.proofs.lemmas.Bool.{cases_lt}
use Rattle.std.proofs.lemmas.Option.{slice_get_read, slice_get_within}
use Rattle.rk_record.specs.HallNumbers.{hall_number}
use Rattle.rk_record.specs.Record.{HallShown}
use Rattle.rk_record.specs.Turns.{Noted}
use Rattle.rk_record.specs.Volumes.{VolumeShown}
use Rattle.rk_record.specs.declared.hall_no.HallNo.TheVariants.{Zero, One, Two, Three}
use Rattle.rk_hall.specs.declared.settling.SettleFault.{SettleFault}
use Rattle.rk_hall.specs.declared.settling.SettleFault.TheVariants.{Uneven, Missing, Forged}
use Rattle.rk_record.specs.declared.hall_no.HallNo.{HallNo}
use Rattle.rk_hall.proofs.WhatIsSeen.{same_hall}
use Rattle.rk_hall.specs.Seats.{SeatShown}
use Rattle.rk_hall.specs.Closed.{FourShown, closed_of, turns_of, with_seats}
use Rattle.rk_hall.specs.Settle.{StandsIn, IsHandedIn, Stands, IsGenuine, AreGenuine, FirstAtFault, HasFault, AreGenuineBelow, HasFirstFault, total_of, IsEven, Settles}

-- an item of a loop is that of its place
pub at_place : {A : Type 0} (xs : List A) (i : ℕ) (x : A) → i < length xs → x ≡ get_or xs i x → slice_get xs i ≡ Some x
at_place xs i x lt is = slice_get_read xs (length xs) i x refl lt is

-- two items of one place
pub same_item : {A : Type 0} (xs : List A) (i : ℕ) (x y : A) → slice_get xs i ≡ Some x → slice_get xs i ≡ Some y → x ≡ y
same_item xs i x y a b = cc

pub same_here : {A : Type 0} (xs : List A) (k i : ℕ) (x y : A) → k ≡ i → slice_get xs k ≡ Some x → slice_get xs i ≡ Some y → x ≡ y
same_here xs k i x y e a b = same_item xs i x y (subst (λ (n : ℕ). slice_get xs n ≡ Some x) e a) b

-- below the next place: below this one, or here
pub here_or_before : (k i : ℕ) → k < i + 1 → (k < i) ⊎ (k ≡ i)
here_or_before k i lt = ⊎_elim (λ (l : k < i). inl l) (λ (g : i ≤ k). inr (omega arith)) (cases_lt k i)

-- ---- receipts

-- the receipts of a hall before a place are genuine, and this is the greatest of their numbers
pub record AreHeard (h : HallShown) (volumes : List VolumeShown) (receipts : List Noted) (place last : ℕ) : Type 0 where
  pub genuine : AreGenuine h volumes receipts place
  pub above : (k : ℕ) (s : Noted) → k < place → slice_get receipts k ≡ Some s → s.hall ≡ h.no → s.number ≤ last
  pub reached : 0 < last → (k : ℕ) × (s : Noted) × (k < place) × (slice_get receipts k ≡ Some s) × (s.hall ≡ h.no) × (s.number ≡ last)

-- before any receipt is looked at, none is at fault, and no number was heard
pub heard_none : (h : HallShown) (volumes : List VolumeShown) (receipts : List Noted) → AreHeard h volumes receipts 0 0
heard_none h volumes receipts = record {
  genuine = λ k s lt at hall. absurd (omega (arith, lt));
  above = λ k s lt at hall. absurd (omega (arith, lt));
  reached = λ lt. absurd (omega (arith, lt));
}

-- a receipt of another hall
pub heard_other : (h : HallShown) (volumes : List VolumeShown) (receipts : List Noted) (i last : ℕ) (r : Noted)
    → AreHeard h volumes receipts i last → slice_get receipts i ≡ Some r → (r.hall ≡ h.no → ⊥) → AreHeard h volumes receipts (i + 1) last
heard_other h volumes receipts i last r heard at other = record {
  genuine = λ k s lt found hall.
      ⊎_elim (λ (b : k < i). heard.genuine k s b found hall)
      (λ (e : k ≡ i). absurd (other (subst (λ (x : Noted). x.hall ≡ h.no) (same_here receipts k i s r e found at) hall)))
      (here_or_before k i lt);
  above = λ k s lt found hall.
      ⊎_elim (λ (b : k < i). heard.above k s b found hall)
      (λ (e : k ≡ i). absurd (other (subst (λ (x : Noted). x.hall ≡ h.no) (same_here receipts k i s r e found at) hall)))
      (here_or_before k i lt);
  reached = λ lt. let w = heard.reached lt in (w.0, w.1, omega (arith, w.2), w.3, w.4, w.5);
}

-- a genuine receipt of the hall
pub heard_more : (h : HallShown) (volumes : List VolumeShown) (receipts : List Noted) (i last : ℕ) (r : Noted)
    → AreHeard h volumes receipts i last → slice_get receipts i ≡ Some r → r.hall ≡ h.no → last < r.number → Stands h volumes r
    → AreHeard h volumes receipts (i + 1) r.number
heard_more h volumes receipts i last r heard at hall rises stands =
    let here : IsGenuine h volumes receipts i r = record {
      rises = λ k s lt found same. let le = heard.above k s lt found (same ∙ hall) in omega (arith, le, rises);
      stands = stands;
    } in
    record {
      genuine = λ k s lt found is.
          ⊎_elim (λ (b : k < i). heard.genuine k s b found is)
          (λ (e : k ≡ i).
          let same = sym (same_here receipts k i s r e found at) in
          subst (λ (x : Noted). IsGenuine h volumes receipts k x) same (subst (λ (n : ℕ). IsGenuine h volumes receipts n r) (sym e) here))
          (here_or_before k i lt);
      above = λ k s lt found is.
          ⊎_elim (λ (b : k < i). let le = heard.above k s b found is in let most : s.number ≤ r.number = omega (arith, le, rises) in most)
          (λ (e : k ≡ i).
          let same = sym (same_here receipts k i s r e found at) in
          subst (λ (x : Noted). x.number ≤ r.number) same (omega arith))
          (here_or_before k i lt);
      reached = λ lt. (i, r, omega arith, at, hall, refl);
    }

-- what stands has a number
numbered : (h : HallShown) (volumes : List VolumeShown) (r : Noted) → Stands h volumes r → 0 < r.number
numbered h volumes r (inl here) = let e = here.1.number in omega (arith, e)
numbered h volumes r (inr there) = let e = there.2.number in omega (arith, e)

-- the first that is not genuine
pub at_fault : (h : HallShown) (volumes : List VolumeShown) (receipts : List Noted) (i last : ℕ) (r : Noted)
    → AreHeard h volumes receipts i last → slice_get receipts i ≡ Some r → r.hall ≡ h.no → (last < r.number → Stands h volumes r → ⊥)
    → FirstAtFault h volumes receipts r
at_fault h volumes receipts i last r heard at hall unlike =
    let above : IsGenuine h volumes receipts i r → last < r.number =
    λ g. ⊎_elim
    (λ (some : 0 < last).
    let w = heard.reached some in
    let lt = g.rises w.0 w.1 w.2 w.3 (w.4 ∙ sym hall) in
    let e = w.5 in let more : last < r.number = omega (arith, lt, e) in more)
    (λ (none : last ≤ 0). let lt = numbered h volumes r g.stands in omega (arith, lt, none))
    (cases_lt 0 last) in
    record { place = i; found = at; hall = hall; first = heard.genuine; fault = λ g. unlike (above g) g.stands }

-- past the last one all are genuine
pub genuine_end : (h : HallShown) (volumes : List VolumeShown) (receipts : List Noted) (i last : ℕ)
    → AreHeard h volumes receipts i last → length receipts ≤ i → AreGenuine h volumes receipts (length receipts)
genuine_end h volumes receipts i last heard le k s lt found hall = heard.genuine k s (omega (arith, lt, le)) found hall

-- ---- hall by hall

-- below hall 0 there is no hall whose receipts could be at fault
pub below_none : (k : FourShown) (volumes : List VolumeShown) (receipts : List Noted) → AreGenuineBelow k volumes receipts 0
below_none k volumes receipts hall lt = absurd (omega (arith, lt))

-- the receipts of the halls up to this one are genuine, where its own and those of the halls below it are
pub below_more : (k : FourShown) (volumes : List VolumeShown) (receipts : List Noted) (n : ℕ) (hall : HallNo) → hall_number hall ≡ n
    → AreGenuineBelow k volumes receipts n → AreGenuine (closed_of hall k).hall volumes receipts (length receipts)
    → AreGenuineBelow k volumes receipts (n + 1)
below_more k volumes receipts n hall is below here other lt =
    ⊎_elim (λ (b : hall_number other < n). below other b)
    (λ (e : hall_number other ≡ n).
    subst (λ (h : HallNo). AreGenuine (closed_of h k).hall volumes receipts (length receipts)) (same_hall hall other (is ∙ sym e)) here)
    (here_or_before (hall_number other) n lt)

-- all four, by rising number
abbrev pub all_halls : List HallNo
all_halls = Zero ∷ One ∷ Two ∷ Three ∷ []

-- the number of the hall at a place among all four is that place
pub number_at : (i : ℕ) (other : HallNo) → i < 4 → hall_number (get_or all_halls i other) ≡ i
number_at zero other lt = refl
number_at (suc zero) other lt = refl
number_at (suc (suc zero)) other lt = refl
number_at (suc (suc (suc zero))) other lt = refl
number_at (suc (suc (suc (suc i)))) other lt = absurd (omega (arith, lt))

-- what is said of one hall is said of another that is the same
pub genuine_there : (h h' : HallShown) (volumes : List VolumeShown) (receipts : List Noted) → h ≡ h' → AreGenuine h volumes receipts (length receipts)
    → AreGenuine h' volumes receipts (length receipts)
genuine_there h h' volumes receipts is all = subst (λ (x : HallShown). AreGenuine x volumes receipts (length receipts)) is all

-- a receipt's fault in a hall is one in an equal hall
pub fault_there : (h h' : HallShown) (volumes : List VolumeShown) (receipts : List Noted) (fault : SettleFault) → h ≡ h'
    → HasFault h volumes receipts fault → HasFault h' volumes receipts fault
fault_there h h' volumes receipts fault is has = subst (λ (x : HallShown). HasFault x volumes receipts fault) is has

-- a fault of a receipt is one of two kinds
pub settles_fault : (k : FourShown) (volumes : List VolumeShown) (receipts : List Noted) (fault : SettleFault) → IsEven (total_of k)
    → HasFirstFault k volumes receipts fault → Settles k volumes receipts (Err fault)
settles_fault k volumes receipts (Uneven steps held) even found = absurd found.2.2
settles_fault k volumes receipts (Missing hall volume) even found = (even, found)
settles_fault k volumes receipts (Forged hall number) even found = (even, found)

-- ---- seats

-- halls to which no turn was handed in have those of the seats
pub turns_in : (k k' : FourShown) (seats : List SeatShown) → k' ≡ with_seats k seats
    → (k.zero.live ≡ 0) × (k.one.live ≡ 0) × (k.two.live ≡ 0) × (k.three.live ≡ 0)
    → (hall : HallNo) → (closed_of hall k').live ≡ turns_of hall seats
turns_in k k' seats is none Zero = let e = ap (λ (x : FourShown). x.zero.live) is in let n = none.0 in omega (arith, e, n)
turns_in k k' seats is none One = let e = ap (λ (x : FourShown). x.one.live) is in let n = none.1 in omega (arith, e, n)
turns_in k k' seats is none Two = let e = ap (λ (x : FourShown). x.two.live) is in let n = none.2 in omega (arith, e, n)
turns_in k k' seats is none Three = let e = ap (λ (x : FourShown). x.three.live) is in let n = none.3 in omega (arith, e, n)

-- ---- volumes

-- no volume before a place is named by the receipt
abbrev pub NoneNamed : List VolumeShown → Noted → ℕ → Type 0
NoneNamed volumes r i = (v : VolumeShown) (m : IsHandedIn volumes r v) → m.place < i → ⊥

-- a volume of the receipt's hall and index is handed in for it
pub one_named : (volumes : List VolumeShown) (r : Noted) (i : ℕ) (v : VolumeShown) → slice_get volumes i ≡ Some v
    → (v.hall ≡ r.hall) × (v.index ≡ r.volume) → IsHandedIn volumes r v
one_named volumes r i v at named = record { place = i; found = at; hall = named.0; index = named.1 }

-- a volume before the next place that is not the one here is before this place
handed_in_before : (P : VolumeShown → Type 0) (volumes : List VolumeShown) (r : Noted) (i : ℕ) (v : VolumeShown) → slice_get volumes i ≡ Some v
    → ((v.hall ≡ r.hall) × (v.index ≡ r.volume) → P v → ⊥) → (u : VolumeShown) (m : IsHandedIn volumes r u) → m.place < i + 1
    → P u → m.place < i
handed_in_before P volumes r i v at other u m lt holds =
    ⊎_elim (λ (b : m.place < i). b)
    (λ (e : m.place ≡ i).
    let same = same_here volumes m.place i u v e m.found at in
    absurd (other (subst (λ (x : VolumeShown). (x.hall ≡ r.hall) × (x.index ≡ r.volume)) same (m.hall, m.index)) (subst P same holds)))
    (here_or_before m.place i lt)

-- if no volume so far is the receipt's, nor the next, none up to that one is
pub none_named_more : (volumes : List VolumeShown) (r : Noted) (i : ℕ) (v : VolumeShown) → NoneNamed volumes r i → slice_get volumes i ≡ Some v
    → ((v.hall ≡ r.hall) × (v.index ≡ r.volume) → ⊥) → NoneNamed volumes r (i + 1)
none_named_more volumes r i v none at other u m lt =
    none u m (handed_in_before (λ x. Unit {0}) volumes r i v at (λ n t. other n) u m lt tt)

-- if none of all volumes is the receipt's, none is handed in for it
pub none_named_end : (volumes : List VolumeShown) (r : Noted) (i : ℕ) → NoneNamed volumes r i → length volumes ≤ i
    → (v : VolumeShown) × IsHandedIn volumes r v → ⊥
none_named_end volumes r i none le w = let lt = slice_get_within volumes w.1.place w.0 w.1.found in none w.0 w.1 (omega (arith, lt, le))

-- the receipt stands in no volume before a place
abbrev pub StandsInNone : List VolumeShown → Noted → ℕ → Type 0
StandsInNone volumes r i = (v : VolumeShown) (m : IsHandedIn volumes r v) → m.place < i → StandsIn v.before v.steps r → ⊥

-- if the receipt stands in none of the volumes so far, nor in the next, it stands in none up to that one
pub stands_in_none_more : (volumes : List VolumeShown) (r : Noted) (i : ℕ) (v : VolumeShown) → StandsInNone volumes r i → slice_get volumes i ≡ Some v
    → (((v.hall ≡ r.hall) × (v.index ≡ r.volume)) × StandsIn v.before v.steps r → ⊥) → StandsInNone volumes r (i + 1)
stands_in_none_more volumes r i v none at other u m lt stands =
    none u m (handed_in_before (λ x. StandsIn x.before x.steps r) volumes r i v at (λ n t. other (n, t)) u m lt stands) stands

-- if the receipt stands in none of all volumes, it stands in none that is handed in
pub stands_in_none_end : (volumes : List VolumeShown) (r : Noted) (i : ℕ) → StandsInNone volumes r i → length volumes ≤ i
    → (v : VolumeShown) × IsHandedIn volumes r v × StandsIn v.before v.steps r → ⊥
stands_in_none_end volumes r i none le w =
    let lt = slice_get_within volumes w.1.place w.0 w.1.found in none w.0 w.1 (omega (arith, lt, le)) w.2
