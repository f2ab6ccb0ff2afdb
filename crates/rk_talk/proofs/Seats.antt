-- What a seat keeps over calls.
use Rattle.std.proofs.Common.{◌≡◌, ◌≤◌, ◌<◌, ℕ, ◌+◌, refl, sym, ap, ◌∙◌, subst, arith}
use Rattle.std.specs.Prelude.{Result, Ok, Err}
use Rattle.rk_machine.specs.Event.{Event}
use Rattle.rk_record.specs.declared.hall_no.HallNo.{HallNo}
use Rattle.rk_record.specs.declared.hall_no.HallNo.TheVariants.{Zero, One, Two, Three}
use Rattle.rk_record.specs.Turns.{Noted}
use Rattle.rk_hall.specs.declared.lapse.Lapse.{Lapse}
use Rattle.rk_hall.specs.declared.lapse.Lapse.TheVariants as lapse
use Rattle.rk_hall.specs.Seats.{PartShown, SeatShown, part, with_part, after_call, opens, OwedSeen}
use Rattle.rk_talk.specs.Stays.{Stays, clients_at, SeesOn}

-- nothing was done
pub stays_same : (s : SeatShown) → Stays s s
stays_same s = record { clients = refl; seen = λ h. omega arith }

-- one after the other
pub stays_on : (a b c : SeatShown) → Stays a b → Stays b c → Stays a c
stays_on a b c f g = record {
  clients = g.clients ∙ f.clients;
  seen = λ h. let one = f.seen h in let two = g.seen h in omega arith;
}

-- a part that has seen no less
pub sees_part : (h : HallNo) (s : SeatShown) (p : PartShown) → (part h s).seen ≤ p.seen → SeesOn s (with_part h s p)
sees_part Zero s p le Zero = le
sees_part Zero s p le One = omega arith
sees_part Zero s p le Two = omega arith
sees_part Zero s p le Three = omega arith
sees_part One s p le Zero = omega arith
sees_part One s p le One = le
sees_part One s p le Two = omega arith
sees_part One s p le Three = omega arith
sees_part Two s p le Zero = omega arith
sees_part Two s p le One = omega arith
sees_part Two s p le Two = le
sees_part Two s p le Three = omega arith
sees_part Three s p le Zero = omega arith
sees_part Three s p le One = omega arith
sees_part Three s p le Two = omega arith
sees_part Three s p le Three = le

-- a part with as many clients, which has seen no less
pub stays_part : (h : HallNo) (s : SeatShown) (p : PartShown) → p.clients ≡ (part h s).clients → (part h s).seen ≤ p.seen → Stays s (with_part h s p)
stays_part Zero s p e le = record { clients = ap (λ n. record (clients_at s) { zero = n }) e; seen = sees_part Zero s p le }
stays_part One s p e le = record { clients = ap (λ n. record (clients_at s) { one = n }) e; seen = sees_part One s p le }
stays_part Two s p e le = record { clients = ap (λ n. record (clients_at s) { two = n }) e; seen = sees_part Two s p le }
stays_part Three s p e le = record { clients = ap (λ n. record (clients_at s) { three = n }) e; seen = sees_part Three s p le }

plus_none : (n : ℕ) → n + 0 ≡ n
plus_none n = omega arith

less : {a b : ℕ} → a < b → a ≤ b
less lt = omega (arith, lt)

-- a call that opened no client
pub call_stays : (h : HallNo) (old new : SeatShown) (e : Event) (r : Noted) → opens e r.answer ≡ 0 → (part h old).seen < r.number
    → new ≡ with_part h old (after_call (part h old) e r) → Stays old new
call_stays h old new e r none lt is =
    subst (Stays old) (sym is)
    (stays_part h old (after_call (part h old) e r) (ap (λ n. (part h old).clients + n) none ∙ plus_none (part h old).clients) (less lt))

-- a turn that was owed
pub owed_stays : (h : HallNo) (now : ℕ) (e : Event) (old new : SeatShown) (r : Result Noted Lapse) → OwedSeen h now e old new r → Stays old new
owed_stays h now e old new (Ok r) seen =
    let is : (part h new).seen ≡ r.number = ap (λ (p : PartShown). p.seen) seen.0.5 in
    subst (Stays old) (sym seen.1) (stays_part h old (part h new) (ap (λ (p : PartShown). p.clients) seen.0.5) (omega (arith, seen.0.4, is)))
owed_stays h now e old new (Err (lapse.Behind n found)) seen =
    let is : (part h new).seen ≡ (part h old).seen = ap (λ (p : PartShown). p.seen) seen.0.3 in
    subst (Stays old) (sym seen.1) (stays_part h old (part h new) (ap (λ (p : PartShown). p.clients) seen.0.3) (omega (arith, is)))
owed_stays h now e old new (Err lapse.Stray) seen =
    let is : (part h new).seen ≡ (part h old).seen = ap (λ (p : PartShown). p.seen) seen.0 in
    subst (Stays old) (sym seen.1) (stays_part h old (part h new) (ap (λ (p : PartShown). p.clients) seen.0) (omega (arith, is)))
