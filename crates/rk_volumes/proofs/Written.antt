-- What a call leaves where it is done.
use Rattle.rk_volumes.proofs.Words.{◌≡◌, ℕ, List, Err, Result, Ok, OnOk, is_ok, if◌then◌else◌}

-- what a write appends, where it is done
pub where_done : {A E : Type 0} (r : Result A E) (P : Type 0) (x y z : List ℕ) → x ≡ (if is_ok r then y else z) → (x ≡ y → P) → OnOk r P
where_done (Ok a) P x y z is more = more is
where_done (Err e) P x y z is more = tt

-- what follows of it
pub follows : {A E : Type 0} (r : Result A E) (P Q : Type 0) → OnOk r P → (P → Q) → OnOk r Q
follows (Ok a) P Q is more = more is
follows (Err e) P Q is more = tt
