-- Counts that rise.
use Rattle.std.proofs.Common.{◌≡◌, ◌≤◌, ◌<◌, ◌+◌, ◌-◌, ℕ, Bool, true, false, inl, inr, arith, refl, sym, ap, ◌∙◌, append_assoc, append-nil}
use Rattle.std.specs.Prelude.{List, [], ◌++◌, Option, Some, None, nat_lt, if◌then◌else◌, Result, Ok, Err}
use Rattle.std.proofs.lemmas.Bool.Decides.{nat_tests}
use Rattle.rk_devices.specs.declared.device.DeviceFault.{DeviceFault}
use Rattle.rk_devices.specs.declared.reading.ReadFault.{ReadFault}
use Rattle.rk_devices.specs.declared.reading.ReadFault.TheVariants.{Failed, UsedUp}
use Rattle.rk_devices.specs.Counts.{most, Rose, raised, raised_by, IsRaised}
use Rattle.rk_devices.specs.Shown.{ChildShown, GoesOn, ReadsUpTo, Writes, Reads, and_then, closed}

-- a count that rose is no smaller
pub rose_up : (a b : ℕ) → Rose a b → a ≤ b
rose_up a b (inl lt) = omega arith
rose_up a b (inr same) = omega (arith, same.0, same.1)

-- nor is one after a call
pub raised_up : {A : Type 0} (r : Result A DeviceFault) (a b : ℕ) → IsRaised r a b → a ≤ b
raised_up (Ok x) a b same = omega (arith, same)
raised_up (Err e) a b rose = rose_up a b rose

-- what rose from a later count on, rose from an earlier one on
pub rose_from : (a b c : ℕ) → a ≤ b → Rose b c → Rose a c
rose_from a b c le (inl lt) = inl (omega arith)
rose_from a b c le (inr same) = by_test (nat_lt a most) refl
  where
    by_test : (t : Bool) → nat_lt a most ≡ t → Rose a c
    by_test true h = let lt : a < most = grind (arith, nat_tests) in inl (omega (arith, same.1))
    by_test false h = let ge : most ≤ a = grind (arith, nat_tests) in inr (omega (arith, same.0), same.1)

-- what rose up to an earlier count, rose up to a later one
pub rose_to : (a b c : ℕ) → Rose a b → b ≤ c → Rose a c
rose_to a b c (inl lt) le = inl (omega arith)
rose_to a b c (inr same) le = by_test (nat_lt b c) refl
  where
    by_test : (t : Bool) → nat_lt b c ≡ t → Rose a c
    by_test true h = let lt : b < c = grind (arith, nat_tests) in inl (omega (arith, same.0, same.1))
    by_test false h = let ge : c ≤ b = grind (arith, nat_tests) in inr (same.0, omega (arith, same.1, le))

-- one read more
pub one_read : (n r : ℕ) → n ≤ r → n < 1048576 → n + 1 ≤ raised r
one_read n r le lt = by_test (nat_lt r most) refl
  where
    by_test : (t : Bool) → nat_lt r most ≡ t → n + 1 ≤ (if t then r + 1 else r)
    by_test true h = omega (arith, le)
    by_test false h = let ge : most ≤ r = grind (arith, nat_tests) in omega (arith, lt)

-- a count that is raised is no smaller
more_reads : (r : ℕ) → r ≤ raised r
more_reads r = by_test (nat_lt r most)
  where
    by_test : (t : Bool) → r ≤ (if t then r + 1 else r)
    by_test true = omega arith
    by_test false = omega arith

-- nothing was done
pub goes_same : (a : ChildShown) → GoesOn a a
goes_same a = record { count = omega arith; reads = omega arith; waited = refl; hasty = refl }

-- one after the other
pub goes_further : (a b c : ChildShown) → GoesOn a b → GoesOn b c → GoesOn a c
goes_further a b c f g = record {
  count = let x = f.count in let y = g.count in omega arith;
  reads = let x = f.reads in let y = g.reads in omega arith;
  waited = g.waited ∙ f.waited;
  hasty = g.hasty ∙ f.hasty;
}

-- a write
pub write_goes : (r : Result Unit DeviceFault) (bytes : List ℕ) (a b : ChildShown) → Writes r bytes a b → GoesOn a b
write_goes (Ok u) bytes a b w = record {
  count = let is : b.count ≡ a.count = ap (λ (c : ChildShown). c.count) w in omega (arith, is);
  reads = let is : b.reads ≡ a.reads = ap (λ (c : ChildShown). c.reads) w in omega (arith, is);
  waited = ap (λ (c : ChildShown). c.waited) w;
  hasty = ap (λ (c : ChildShown). c.hasty) w;
}
write_goes (Err e) bytes a b (rose, first, others, cut, is) = record {
  count = rose_up a.count b.count rose;
  reads = let same : b.reads ≡ a.reads = ap (λ (c : ChildShown). c.reads) is in omega (arith, same);
  waited = ap (λ (c : ChildShown). c.waited) is;
  hasty = ap (λ (c : ChildShown). c.hasty) is;
}

-- its input was closed
pub close_goes : (a : ChildShown) → GoesOn a (closed a)
close_goes a = record { count = omega arith; reads = omega arith; waited = refl; hasty = refl }

-- a read
pub read_goes : (room : ℕ) (r : Result ℕ DeviceFault) (buf : List ℕ) (a b : ChildShown) → Reads room r buf a b → GoesOn a b
read_goes room r buf a b w = record {
  count = raised_up r a.count b.count w.0;
  reads = let is : b.reads ≡ raised a.reads = ap (λ (c : ChildShown). c.reads) w.1 in let more = more_reads a.reads in omega (arith, is, more);
  waited = ap (λ (c : ChildShown). c.waited) w.1;
  hasty = ap (λ (c : ChildShown). c.hasty) w.1;
}

-- what is told with nothing more is the same
pub and_none : {A : Type 0} (t : Option (List A)) → t ≡ and_then t []
and_none None = refl
and_none (Some t) = ap Some (sym (append-nil t))

-- what is told with more, and more again
pub and_more : {A : Type 0} (t : Option (List A)) (x y : List A) → and_then (and_then t x) y ≡ and_then t (x ++ y)
and_more None x y = refl
and_more (Some t) x y = ap Some (append_assoc t x y)

-- so many reads, and then so many more
pub raised_twice : (k m n : ℕ) → raised_by k (raised_by m n) ≡ raised_by (m + k) n
raised_twice k m n = grind (arith, nat_tests)

all_reads : (k a b : ℕ) → k ≤ 1048576 → b ≡ raised_by k a → raised_by (1048576 - k) b ≡ raised_by 1048576 a
all_reads k a b le is =
    ap (raised_by (1048576 - k)) is ∙ raised_twice (1048576 - k) k a
    ∙ ap (λ n. raised_by n a) (let e : k + (1048576 - k) ≡ 1048576 = omega (arith, le) in e)

same : {a b : ℕ} → a ≡ b → a ≤ b
same is = omega (arith, is)

at_most : {a b c : ℕ} → a ≤ b → b ≤ c → a ≤ c
at_most le more = omega (arith, le, more)

-- reads after so many others
pub reads_after : (k : ℕ) (r : Result Unit ReadFault) (a b c : ChildShown) → k ≤ 1048576 → b.reads ≡ raised_by k a.reads → ReadsUpTo (1048576 - k) r b c
    → ReadsUpTo 1048576 r a c
reads_after k (Ok u) a b c le is reads = at_most reads (same (all_reads k a.reads b.reads le is))
reads_after k (Err Failed) a b c le is reads = at_most reads (same (all_reads k a.reads b.reads le is))
reads_after k (Err UsedUp) a b c le is reads = reads ∙ all_reads k a.reads b.reads le is
