-- What a settlement of some halls says of the seats, volumes and receipts that were handed in.
use Rattle.std.proofs.Common.{◌≡◌, ◌⊎◌, inl, inr, ℕ, ◌<◌, List, sym, ap, subst, ◌∙◌, arith}
use Rattle.std.specs.Prelude.{slice_get, Some, Result, Ok, Err}
use Rattle.std.proofs.lemmas.Option.{slice_get_within}
use Rattle.rk_record.specs.declared.hall_no.HallNo.{HallNo}
use Rattle.rk_record.specs.declared.hall_no.HallNo.TheVariants.{Zero, One, Two, Three}
use Rattle.rk_record.specs.HallNumbers.{hall_number}
use Rattle.rk_record.specs.Record.{HallShown}
use Rattle.rk_record.specs.Turns.{Noted}
use Rattle.rk_record.specs.Volumes.{VolumeShown}
use Rattle.rk_hall.specs.declared.settling.Total.{Total}
use Rattle.rk_hall.specs.declared.settling.SettleFault.{SettleFault}
use Rattle.rk_hall.specs.declared.settling.SettleFault.TheVariants.{Uneven, Missing, Forged}
use Rattle.rk_hall.specs.Seats.{SeatShown}
use Rattle.rk_hall.specs.Closed.{FourShown, closed_of}
use Rattle.rk_hall.specs.Settle.{Stands, IsGenuine, AreGenuineBelow, HasFirstFault, AreSound, SettlesSome, total_of, all_turns, StandsInOne, AddsUp, IsNamed, Says}

-- there are four halls
below_four : (hall : HallNo) → hall_number hall < 4
below_four Zero = omega arith
below_four One = omega arith
below_four Two = omega arith
below_four Three = omega arith

-- the live turns of all halls are those of the seats
live_turns : (volumes : List VolumeShown) (seats : List SeatShown) (receipts : List Noted) (result : Result Total SettleFault)
    (s : SettlesSome volumes seats receipts result) → (total_of s.halls).live ≡ all_turns seats
live_turns volumes seats receipts result s =
    let zero = s.turns Zero in let one = s.turns One in let two = s.turns Two in let three = s.turns Three in omega arith

-- a receipt of a hall whose receipts are all genuine is
genuine_in : (k : FourShown) (volumes : List VolumeShown) (receipts : List Noted) (n place : ℕ) (r : Noted) → AreSound k
    → AreGenuineBelow k volumes receipts n → slice_get receipts place ≡ Some r → hall_number r.hall < n
    → IsGenuine (closed_of r.hall k).hall volumes receipts place r
genuine_in k volumes receipts n place r sound all found below =
    all r.hall below place r (slice_get_within receipts place r found) found (sym (sound.numbers r.hall))

-- what stands in its volume does so in one that was handed in, or names the one that the hall records
stands_where : (h : HallShown) (volumes : List VolumeShown) (r : Noted) → Stands h volumes r → (r.volume ≡ h.index) ⊎ StandsInOne volumes r
stands_where h volumes r (inl here) = inl here.0
stands_where h volumes r (inr there) = inr there

-- all adds up
adds_up : (volumes : List VolumeShown) (seats : List SeatShown) (receipts : List Noted) (total : Total)
    → SettlesSome volumes seats receipts (Ok total) → AddsUp volumes seats receipts total
adds_up volumes seats receipts total s =
    let k = s.halls in
    let genuine : (place : ℕ) (r : Noted) → slice_get receipts place ≡ Some r → IsGenuine (closed_of r.hall k).hall volumes receipts place r =
    λ place r found. genuine_in k volumes receipts 4 place r s.sound s.settles.2 found (below_four r.hall) in
    record {
      even = s.settles.1;
      live = ap (λ (t : Total). t.live) s.settles.0 ∙ live_turns volumes seats receipts (Ok total) s;
      rise = λ place r found. (genuine place r found).rises;
      index = λ hall. (closed_of hall k).hall.index;
      stand = λ place r found. stands_where (closed_of r.hall k).hall volumes r (genuine place r found).stands;
    }

-- the receipt that has the first fault of a hall
named : (k : FourShown) (volumes : List VolumeShown) (receipts : List Noted) (fault : SettleFault) (hall : HallNo) → AreSound k
    → (first : HasFirstFault k volumes receipts fault) → hall ≡ first.2.0.hall → IsNamed receipts hall first.2.1.place first.2.0
named k volumes receipts fault hall sound first is =
    let at = first.2.1 in
    let own : hall ≡ first.0 = is ∙ at.hall ∙ sound.numbers first.0 in
    record {
      found = at.found;
      of_hall = sym is;
      below = λ place s found lt.
          (genuine_in k volumes receipts (hall_number first.0) place s sound first.1 found (subst (λ (h : HallNo). hall_number s.hall < hall_number h) own lt)).rises;
      before = λ place s lt found same. (at.first place s lt found (same ∙ is ∙ at.hall)).rises;
    }

-- what some halls settle is said of what was handed in
pub says : (volumes : List VolumeShown) (seats : List SeatShown) (receipts : List Noted) (result : Result Total SettleFault)
    → SettlesSome volumes seats receipts result → Says volumes seats receipts result
says volumes seats receipts (Ok total) s = adds_up volumes seats receipts total s
says volumes seats receipts (Err (Uneven steps held)) s =
    (s.settles.2, (let live = live_turns volumes seats receipts (Err (Uneven steps held)) s in let all = s.settles.1 in omega arith))
says volumes seats receipts (Err (Missing hall volume)) s =
    let first : HasFirstFault s.halls volumes receipts (Missing hall volume) = s.settles.1 in
    let fault = first.2.2 in
    (first.2.1.place, first.2.0, named s.halls volumes receipts (Missing hall volume) hall s.sound first fault.0, sym fault.1, λ handed. fault.2 (inr handed))
says volumes seats receipts (Err (Forged hall number)) s =
    let first : HasFirstFault s.halls volumes receipts (Forged hall number) = s.settles.1 in
    let fault = first.2.2 in (
      first.2.1.place,
      first.2.0,
      named s.halls volumes receipts (Forged hall number) hall s.sound first fault.0,
      sym fault.1,
      λ rises stands. first.2.1.fault (record { rises = rises; stands = inr stands }),
    )
