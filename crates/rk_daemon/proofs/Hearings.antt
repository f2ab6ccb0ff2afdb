-- Clients that are read and written to.
use Rattle.std.proofs.Common.{◌≡◌, ◌≢◌, ℕ, Bool, true, false, List, [], ◌∷◌, ◌++◌, ◌-◌, ◌==◌, drop, length, take, Option, Some, None, Result, Ok, Err, rules, sym, subst}
use Rattle.std.proofs.Math.Seq.{take-length}
use Rattle.std.proofs.lemmas.List.{append_assoc, length-drop, nil_from_length}
use Rattle.std.specs.declared.io.ErrorKind.{ErrorKind}
use Rattle.std.specs.declared.io.ErrorKind.TheVariants.{Interrupted, WouldBlock, WriteZero}
use Rattle.rk_daemon.specs.declared.lull.Lull.{Lull}
use Rattle.rk_daemon.specs.Hearing as hearing
use Rattle.rk_daemon.specs.Hearing.{Hears, HearsOnce, Sends, SendsOnce, Watches}
use Rattle.rk_daemon.specs.Line.{Act, HasRead, HasWritten, Looked}
use Rattle.rk_daemon.specs.Lull.{begun, heard, is_over, is_timed, looked}
use Rattle.rk_daemon.specs.Story.{Does, and_then}
use Rattle.rk_daemon.proofs.Stories.{more, still}

abbrev Told : Type 0
Told = Option (List Act)

-- ---- the clock

pub not_watched : (l : Lull) (late : Bool) (s : Told) → late ≡ false → is_timed l ≡ false → Does (Watches l late l) s s
not_watched l late s not is = subst (λ x. Does (Watches l x l) s s) (sym not) ([], still s, hearing.unwatched l is)

pub was_watched : (l m : Lull) (now : ℕ) (late : Bool) (s t : Told) → is_timed l ≡ true → t ≡ and_then s (Looked now ∷ []) → late ≡ is_over now l
    → m ≡ looked now l → Does (Watches l late m) s t
was_watched l m now late s t is e over after =
    subst (λ x. Does (Watches l x m) s t) (sym over) (subst (λ y. Does (Watches l (is_over now l) y) s t) (sym after) (Looked now ∷ [], e, hearing.watched l now is))

-- ---- one read

module _ (l m : Lull) where
  pub heard_late : (kind : ErrorKind) (s t : Told) → kind ≡ WouldBlock → Does (Watches l true m) s t → Does (HearsOnce l (Some (Err kind)) m) s t
  heard_late kind s t is (acts, e, w) = subst (λ k. Does (HearsOnce l (Some (Err k)) m) s t) (sym is) (acts, e, hearing.HearsOnce.late m acts w)

  pub heard_some : (o : Lull) (n : ℕ) (s t u : Told) → Does (Watches l false m) s t → u ≡ and_then t (HasRead (Ok n) ∷ []) → o ≡ heard m
      → Does (HearsOnce l (Some (Ok n)) o) s u
  heard_some o n s t u (acts, e, w) f after = subst (λ p. Does (HearsOnce l (Some (Ok n)) p) s u) (sym after)
      (acts ++ HasRead (Ok n) ∷ [], more s t u acts (HasRead (Ok n) ∷ []) e f, hearing.came m acts n w)

  pub heard_again : (o : Lull) (kind : ErrorKind) (s t u : Told) → kind ≡ Interrupted → Does (Watches l false m) s t → u ≡ and_then t (HasRead (Err kind) ∷ [])
      → o ≡ begun m → Does (HearsOnce l None o) s u
  heard_again o kind s t u is (acts, e, w) f after =
      let g : u ≡ and_then t (HasRead (Err Interrupted) ∷ []) = subst (λ k. u ≡ and_then t (HasRead (Err k) ∷ [])) is f in
      subst (λ p. Does (HearsOnce l None p) s u) (sym after)
      (acts ++ HasRead (Err Interrupted) ∷ [], more s t u acts (HasRead (Err Interrupted) ∷ []) e g, hearing.HearsOnce.interrupted m acts w)

  pub heard_fault : (kind : ErrorKind) (s t u : Told) → kind ≢ Interrupted → Does (Watches l false m) s t → u ≡ and_then t (HasRead (Err kind) ∷ [])
      → Does (HearsOnce l (Some (Err kind)) m) s u
  heard_fault kind s t u not (acts, e, w) f =
      (acts ++ HasRead (Err kind) ∷ [], more s t u acts (HasRead (Err kind) ∷ []) e f, hearing.HearsOnce.failed m acts kind not w)

-- ---- all reads

-- what was done so far: whatever is done from there on, with this outcome, all of it reads
abbrev pub Listens : Lull → Told → Told → Lull → Type 0
Listens l s t m = (acts : List Act) × (t ≡ and_then s acts) × ((r : Result ℕ ErrorKind) (o : Lull) (rest : List Act) → Hears m r o rest → Hears l r o (acts ++ rest))

pub listens_first : (l : Lull) (s : Told) → Listens l s s l
listens_first l s = ([], still s, λ r o rest h. h)

pub listens_on : (l m o : Lull) (s t u : Told) → Listens l s t m → Does (HearsOnce m None o) t u → Listens l s u o
listens_on l m o s t u (acts, e, f) (one, g, h) = (
  acts ++ one,
  more s t u acts one e g,
  λ r p rest a. subst (Hears l r p) (sym (append_assoc acts one rest)) (f r p (one ++ rest) (hearing.Hears.goes m o p r one rest h a)),
)

pub listens_last : (l m o : Lull) (r : Result ℕ ErrorKind) (s t u : Told) → Listens l s t m → Does (HearsOnce m (Some r) o) t u → Does (Hears l r o) s u
listens_last l m o r s t u (acts, e, f) (one, g, h) = (acts ++ one, more s t u acts one e g, f r o one (hearing.Hears.ends m o r one h))

-- ---- one write

module _ (bytes : List ℕ) (l m : Lull) where
  pub sent_late : (kind : ErrorKind) (s t : Told) → kind ≡ WouldBlock → Does (Watches l true m) s t → Does (SendsOnce bytes l (Err kind) m) s t
  sent_late kind s t is (acts, e, w) = subst (λ k. Does (SendsOnce bytes l (Err k) m) s t) (sym is) (acts, e, hearing.SendsOnce.late m acts w)

  pub sent_none : (o : Lull) (kind : ErrorKind) (s t u : Told) → kind ≡ WriteZero → Does (Watches l false m) s t → u ≡ and_then t (HasWritten bytes (Ok 0) ∷ [])
      → o ≡ begun m → Does (SendsOnce bytes l (Err kind) o) s u
  sent_none o kind s t u is (acts, e, w) f after =
      subst (λ k. Does (SendsOnce bytes l (Err k) o) s u) (sym is) (subst (λ p. Does (SendsOnce bytes l (Err WriteZero) p) s u) (sym after)
      (acts ++ HasWritten bytes (Ok 0) ∷ [], more s t u acts (HasWritten bytes (Ok 0) ∷ []) e f, hearing.refused m acts w))

  pub sent_some : (o : Lull) (n : ℕ) (s t u : Told) → n ≢ 0 → Does (Watches l false m) s t → u ≡ and_then t (HasWritten bytes (Ok n) ∷ [])
      → o ≡ begun m → Does (SendsOnce bytes l (Ok n) o) s u
  sent_some o n s t u not (acts, e, w) f after = subst (λ p. Does (SendsOnce bytes l (Ok n) p) s u) (sym after)
      (acts ++ HasWritten bytes (Ok n) ∷ [], more s t u acts (HasWritten bytes (Ok n) ∷ []) e f, hearing.taken m acts n not w)

  pub sent_again : (o : Lull) (kind : ErrorKind) (s t u : Told) → kind ≡ Interrupted → Does (Watches l false m) s t
      → u ≡ and_then t (HasWritten bytes (Err kind) ∷ []) → o ≡ begun m → Does (SendsOnce bytes l (Ok 0) o) s u
  sent_again o kind s t u is (acts, e, w) f after =
      let g : u ≡ and_then t (HasWritten bytes (Err Interrupted) ∷ []) = subst (λ k. u ≡ and_then t (HasWritten bytes (Err k) ∷ [])) is f in
      subst (λ p. Does (SendsOnce bytes l (Ok 0) p) s u) (sym after)
      (acts ++ HasWritten bytes (Err Interrupted) ∷ [], more s t u acts (HasWritten bytes (Err Interrupted) ∷ []) e g, hearing.SendsOnce.interrupted m acts w)

  pub sent_fault : (o : Lull) (kind : ErrorKind) (s t u : Told) → kind ≢ Interrupted → Does (Watches l false m) s t
      → u ≡ and_then t (HasWritten bytes (Err kind) ∷ []) → o ≡ begun m → Does (SendsOnce bytes l (Err kind) o) s u
  sent_fault o kind s t u not (acts, e, w) f after = subst (λ p. Does (SendsOnce bytes l (Err kind) p) s u) (sym after)
      (acts ++ HasWritten bytes (Err kind) ∷ [], more s t u acts (HasWritten bytes (Err kind) ∷ []) e f, hearing.SendsOnce.failed m acts kind not w)

-- ---- all writes

pub none_left : (bytes : List ℕ) → true ≡ (length bytes == 0) → bytes ≡ []
none_left bytes e = nil_from_length bytes (search rules)

-- those after so many, as a slice has them
pub all_after : (n : ℕ) (bytes : List ℕ) → take (length bytes - n) (drop n bytes) ≡ drop n bytes
all_after n bytes = subst (λ k. take k (drop n bytes) ≡ drop n bytes) (length-drop n bytes) (take-length (drop n bytes))

-- what was done so far: whatever is done from there on with the bytes that are left, all of it sends them all
abbrev pub Leaves : List ℕ → Lull → Told → Told → List ℕ → Lull → Type 0
Leaves bytes l s t rest m = (acts : List Act) × (t ≡ and_then s acts)
    × ((r : Result Unit ErrorKind) (others : List Act) → Sends rest m r others → Sends bytes l r (acts ++ others))

pub leaves_all : (bytes : List ℕ) (l : Lull) (s : Told) → Leaves bytes l s s bytes l
leaves_all bytes l s = ([], still s, λ r others h. h)

pub leaves_less : (bytes rest : List ℕ) (l m o : Lull) (n : ℕ) (s t u : Told) → Leaves bytes l s t rest m → rest ≢ [] → Does (SendsOnce rest m (Ok n) o) t u
    → Leaves bytes l s u (drop n rest) o
leaves_less bytes rest l m o n s t u (acts, e, f) some (one, g, h) = (
  acts ++ one,
  more s t u acts one e g,
  λ r others a. subst (Sends bytes l r) (sym (append_assoc acts one others)) (f r (one ++ others) (hearing.Sends.goes rest m o n r one others some h a)),
)

pub leaves_none : (bytes rest : List ℕ) (l m : Lull) (r : Result Unit ErrorKind) (x : Unit) (s t : Told) → Leaves bytes l s t rest m → rest ≡ [] → r ≡ Ok x
    → Does (Sends bytes l r) s t
leaves_none bytes rest l m r x s t (acts, e, f) none is =
    subst (λ q. Does (Sends bytes l q) s t) (sym is) (
      acts ++ [],
      more s t t acts [] e (still t),
      f (Ok x) [] (subst (λ bs. Sends bs m (Ok x) []) (sym none) (hearing.sent m x)),
    )

pub leaves_some : (bytes rest : List ℕ) (l m o : Lull) (kind : ErrorKind) (s t u : Told) → Leaves bytes l s t rest m → rest ≢ []
    → Does (SendsOnce rest m (Err kind) o) t u → Does (Sends bytes l (Err kind)) s u
leaves_some bytes rest l m o kind s t u (acts, e, f) some (one, g, h) =
    (acts ++ one, more s t u acts one e g, f (Err kind) one (hearing.Sends.fails rest m o kind one some h))
