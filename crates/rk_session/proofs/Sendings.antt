-- What is written and sent, and the count of a wire.
use Rattle.rk_session.proofs.Words.{◌≡◌, ◌≤◌, ◌+◌, ℕ, List, inl, inr, refl, sym, ap, subst, ◌∙◌, arith, Bool, true, false, nat_lt, if◌then◌else◌, Result, Ok}
use Rattle.rk_session.proofs.Words.{Err, false≢true, DeviceFault, Rose, most, raised, rose_from, rose_up, Noted, Counts, Notes, Sends, WireShown, Writes, Hears}
use Rattle.rk_session.proofs.Words.{IsEndInTurns, Parts, Pushes, EndCounts, Served, Ended, NotOpened, ReadFault, WriteFault, Malformed, TurnsUsed, Behind}

-- where count and cut are as before
same_counts : (old new : WireShown) → new.count ≡ old.count → new.cut ≡ old.cut → Counts old new
same_counts old new count cut = record { least = omega (arith, count); whole = λ whole. (sym cut ∙ whole, count) }

-- a wire that is cut
cut_counts : (old new : WireShown) → Rose old.count new.count → new.cut ≡ true → Counts old new
cut_counts old new rose cut = record { least = rose_up old.count new.count rose; whole = λ whole. absurd (false≢true (sym whole ∙ cut)) }

-- nothing was done on the wire
pub counts_same : (w : WireShown) → Counts w w
counts_same w = same_counts w w refl refl

-- one thing after another
pub counts_then : (a b c : WireShown) → Counts a b → Counts b c → Counts a c
counts_then a b c f g = record {
  least = omega (arith, f.least, g.least);
  whole = λ whole. let late = g.whole whole in let soon = f.whole late.0 in (soon.0, late.1 ∙ soon.1);
}

-- a receipt that is noted leaves the count of faults
pub notes_counts : (n : Noted) (old new : WireShown) → Notes n old new → Counts old new
notes_counts n old new is = same_counts old new (ap (λ (w : WireShown). w.count) is) (ap (λ (w : WireShown). w.cut) is)

-- a write leaves it, or fails and cuts the wire
pub writes_counts : (r : Result Unit DeviceFault) (bytes : List ℕ) (old new : WireShown) → Writes r bytes old new → Counts old new
writes_counts (Ok u) bytes old new (whole, is) = same_counts old new (ap (λ (w : WireShown). w.count) is) (ap (λ (w : WireShown). w.cut) is)
writes_counts (Err e) bytes old new (rose, first, others, parts, is) = cut_counts old new rose (ap (λ (w : WireShown). w.cut) is)

sends_counts : (r : Result Unit DeviceFault) (old new : WireShown) → Sends r old new → Counts old new
sends_counts (Ok u) old new (whole, is) = same_counts old new (ap (λ (w : WireShown). w.count) is) (ap (λ (w : WireShown). w.cut) is)
sends_counts (Err e) old new (rose, is) = cut_counts old new rose (ap (λ (w : WireShown). w.cut) is)

-- whether it was sent or not, nothing is kept
pub sends_kept : (r : Result Unit DeviceFault) (old new : WireShown) → Sends r old new → new.kept ≡ false
sends_kept (Ok u) old new (whole, is) = ap (λ (w : WireShown). w.kept) is
sends_kept (Err e) old new (rose, is) = ap (λ (w : WireShown). w.kept) is

pub sends_pushes : (r : Result Unit DeviceFault) (old new : WireShown) → Sends r old new → Pushes old new
sends_pushes (Ok u) old new (whole, is) = record {
  story = ap (λ (w : WireShown). w.story) is;
  reads = ap (λ (w : WireShown). w.reads) is;
  counts = sends_counts (Ok u) old new (whole, is);
}
sends_pushes (Err e) old new (rose, is) = record {
  story = ap (λ (w : WireShown). w.story) is;
  reads = ap (λ (w : WireShown). w.reads) is;
  counts = sends_counts (Err e) old new (rose, is);
}

-- nothing had to be sent
pub pushes_same : (w : WireShown) → Pushes w w
pushes_same w = record { story = refl; reads = refl; counts = counts_same w }

-- the count where a session ends at a read
pub hears_ends : (served : Served) (buf : List ℕ) (begun old new : WireShown) → Counts begun old → Hears (Err served) buf old new
    → EndCounts served begun.count new.count
hears_ends Ended buf begun old new counts (whole, is) = ap (λ (w : WireShown). w.count) is ∙ (counts.whole whole).1
hears_ends ReadFault buf begun old new counts (whole, rose, is) = rose_from begun.count old.count new.count counts.least rose
hears_ends WriteFault buf begun old new counts (rose, is) = rose_from begun.count old.count new.count counts.least rose
hears_ends NotOpened buf begun old new counts none = absurd none
hears_ends Malformed buf begun old new counts none = absurd none
hears_ends TurnsUsed buf begun old new counts none = absurd none
hears_ends Behind buf begun old new counts none = absurd none

-- an end at which the session parts: at a message, or with its last read
abbrev pub IsToPart : Served → WireShown → Type 0
IsToPart WriteFault w = w.cut ≡ true
IsToPart Malformed w = Unit {0}
IsToPart Behind w = Unit {0}
IsToPart TurnsUsed w = Unit {0}
IsToPart _ w = ⊥

-- each end of a session in its turns is one to part by
pub parts_in_turns : (served : Served) (w : WireShown) → IsEndInTurns served w → IsToPart served w
parts_in_turns WriteFault w is = is
parts_in_turns Malformed w is = tt
parts_in_turns Behind w is = tt
parts_in_turns Ended w is = absurd is
parts_in_turns ReadFault w is = absurd is
parts_in_turns NotOpened w is = absurd is
parts_in_turns TurnsUsed w is = absurd is

-- the count where nothing was lost
whole_ends : (served : Served) (w : WireShown) (before after : ℕ) → IsToPart served w → w.cut ≡ false → after ≡ before → EndCounts served before after
whole_ends WriteFault w before after cut whole same = absurd (false≢true (sym whole ∙ cut))
whole_ends Malformed w before after is whole same = same
whole_ends Behind w before after is whole same = same
whole_ends TurnsUsed w before after is whole same = same
whole_ends Ended w before after is whole same = absurd is
whole_ends ReadFault w before after is whole same = absurd is
whole_ends NotOpened w before after is whole same = absurd is

-- the count where a session parts
pub parts_ends : (served told : Served) (begun old new : WireShown) → IsToPart served old → Counts begun old → Parts served told old new
    → EndCounts told begun.count new.count
parts_ends served told begun old new is counts (inl (same, whole, sent)) =
    subst (λ s. EndCounts s begun.count new.count) (sym same)
    (whole_ends served old begun.count new.count is whole (ap (λ (w : WireShown). w.count) sent ∙ (counts.whole whole).1))
parts_ends served told begun old new is counts (inr (fault, rose, cut)) =
    subst (λ s. EndCounts s begun.count new.count) (sym fault) (rose_from begun.count old.count new.count counts.least rose)

-- after the parting the wire keeps nothing back
pub parts_kept : (served told : Served) (old new : WireShown) → Parts served told old new → new.kept ≡ false
parts_kept served told old new (inl (same, whole, sent)) = ap (λ (w : WireShown). w.kept) sent
parts_kept served told old new (inr (fault, rose, cut)) = ap (λ (w : WireShown). w.kept) cut

-- parting reads nothing
pub parts_reads : (served told : Served) (old new : WireShown) → Parts served told old new → new.reads ≡ old.reads
parts_reads served told old new (inl (same, whole, sent)) = ap (λ (w : WireShown). w.reads) sent
parts_reads served told old new (inr (fault, rose, cut)) = ap (λ (w : WireShown). w.reads) cut

more_reads : (n : ℕ) → raised n ≤ n + 1
more_reads n = by_test (nat_lt n most)
  where
    by_test : (t : Bool) → (if t then n + 1 else n) ≤ n + 1
    by_test true = omega arith
    by_test false = omega arith

one_more : (old new : ℕ) → new ≡ raised old → new ≤ old + 1
one_more old new is = subst (λ n. n ≤ old + 1) (sym is) (more_reads old)

-- at most one read if a session ends at one
pub hears_reads : (served : Served) (buf : List ℕ) (old new : WireShown) → Hears (Err served) buf old new → new.reads ≤ old.reads + 1
hears_reads Ended buf old new (whole, is) = one_more old.reads new.reads (ap (λ (w : WireShown). w.reads) is)
hears_reads ReadFault buf old new (whole, rose, is) = one_more old.reads new.reads (ap (λ (w : WireShown). w.reads) is)
hears_reads WriteFault buf old new (rose, is) = let same : new.reads ≡ old.reads = ap (λ (w : WireShown). w.reads) is in omega (arith, same)
hears_reads NotOpened buf old new none = absurd none
hears_reads Malformed buf old new none = absurd none
hears_reads TurnsUsed buf old new none = absurd none
hears_reads Behind buf old new none = absurd none

-- a piece that came leaves the count as it is
pub hears_counts : (n : ℕ) (buf : List ℕ) (old new : WireShown) → Hears (Ok n) buf old new → Counts old new
hears_counts n buf old new (some, whole, is) = same_counts old new (ap (λ (w : WireShown). w.count) is) (ap (λ (w : WireShown). w.cut) is)

abbrev IsWriteFault : Served → Type 0
IsWriteFault WriteFault = Unit {0}
IsWriteFault _ = ⊥

-- and is one read more
pub hears_more : (n : ℕ) (buf : List ℕ) (old new : WireShown) → Hears (Ok n) buf old new → new.reads ≡ raised old.reads
hears_more n buf old new (some, whole, is) = ap (λ (w : WireShown). w.reads) is

-- a session that ended at a message has not used its reads up
pub parts_unused : (served told : Served) (old new : WireShown) → IsEndInTurns served old → Parts served told old new → told ≡ TurnsUsed → ⊥
parts_unused served told old new is (inl (same, whole, sent)) used = subst (λ s. IsEndInTurns s old) (sym same ∙ used) is
parts_unused served told old new is (inr (fault, rose, cut)) used = subst IsWriteFault (sym fault ∙ used) tt

-- after a read that ended the session the wire keeps nothing back
pub hears_kept : (served : Served) (buf : List ℕ) (old new : WireShown) → Hears (Err served) buf old new → new.kept ≡ false
hears_kept Ended buf old new (whole, is) = ap (λ (w : WireShown). w.kept) is
hears_kept ReadFault buf old new (whole, rose, is) = ap (λ (w : WireShown). w.kept) is
hears_kept WriteFault buf old new (rose, is) = ap (λ (w : WireShown). w.kept) is
hears_kept NotOpened buf old new none = absurd none
hears_kept Malformed buf old new none = absurd none
hears_kept TurnsUsed buf old new none = absurd none
hears_kept Behind buf old new none = absurd none
