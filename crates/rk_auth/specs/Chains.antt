-- Chains of waiters through their slots.
use Rattle.std.specs.Prelude.{◌≡◌, ℕ, Bool, false, ◌||◌, List, [], ◌∷◌, Option, Some, None, nat_eq, cond, option_map, option_and_then}
use Rattle.std.specs.Ordering.{nat_cmp}
use Rattle.std.specs.FinMap as map
use Rattle.rk_table.specs.Maps.{changed_at}
use Rattle.rk_auth.specs.declared.slot.Slot.{Slot}
use Rattle.rk_auth.specs.declared.slot.Link.{Link}
use Rattle.rk_auth.specs.declared.slot.Standing.{Standing}

-- ---- lists of places

-- the place is one of them
abbrev pub has : List ℕ → ℕ → Bool
has [] q = false
has (x ∷ xs) q = nat_eq x q || has xs q

-- none stands twice
abbrev pub EachOnce : List ℕ → Type 0
EachOnce [] = Unit {0}
EachOnce (x ∷ xs) = (has xs x ≡ false) × EachOnce xs

-- it is this place
abbrev pub names : Option ℕ → ℕ → Bool
names None q = false
names (Some x) q = nat_eq x q

-- one after the other by next, and back by before, from this place on; the one before the first is given
abbrev pub IsChain : (ℕ → Option ℕ) → (ℕ → Option ℕ) → Option ℕ → Option ℕ → List ℕ → Type 0
IsChain next before from at [] = at ≡ None
IsChain next before from at (x ∷ xs) = (at ≡ Some x) × (before x ≡ from) × IsChain next before (Some x) (next x) xs

-- ---- what the slots have

-- who stands in the slot, if it is one
abbrev pub standing_in : Option Slot → Option Standing
standing_in o = option_map (λ s. s.standing) o

-- the first of those who wait there, if it is a slot and somebody does
abbrev pub first_in : Option Slot → Option ℕ
first_in o = option_and_then (λ s. s.first) o

-- its place in a chain, if it is a slot and waits
abbrev pub link_in : Option Slot → Option Link
link_in o = option_and_then (λ s. s.link) o

-- the slot whose chain it stands in, if it does
abbrev pub home_in : Option Slot → Option ℕ
home_in o = option_map (λ l. l.home) (link_in o)

-- the one after it in its chain, if there is one
abbrev pub next_in : Option Slot → Option ℕ
next_in o = option_and_then (λ l. l.next) (link_in o)

-- the one before it in its chain, if there is one
abbrev pub before_in : Option Slot → Option ℕ
before_in o = option_and_then (λ l. l.before) (link_in o)

-- who stands at the place
abbrev pub standing_at : map.FinMap nat_cmp Slot → ℕ → Option Standing
standing_at m q = standing_in (map.get m q)

-- the first of the chain that the place heads
abbrev pub first_at : map.FinMap nat_cmp Slot → ℕ → Option ℕ
first_at m q = first_in (map.get m q)

-- the place that heads the chain in which this one is
abbrev pub home_at : map.FinMap nat_cmp Slot → ℕ → Option ℕ
home_at m q = home_in (map.get m q)

-- the place after it in its chain
abbrev pub next_at : map.FinMap nat_cmp Slot → ℕ → Option ℕ
next_at m q = next_in (map.get m q)

-- the place before it in its chain
abbrev pub before_at : map.FinMap nat_cmp Slot → ℕ → Option ℕ
before_at m q = before_in (map.get m q)

-- these are the places of the chain that h heads, in its order: all of them and no other, each once
pub record IsChainOf (m : map.FinMap nat_cmp Slot) (h : ℕ) (xs : List ℕ) : Type 0 where
  pub linked : IsChain (next_at m) (before_at m) None (first_at m h) xs
  pub once : EachOnce xs
  pub exact : (q : ℕ) → has xs q ≡ names (home_at m q) h

-- each place heads a chain
abbrev pub AreChained : map.FinMap nat_cmp Slot → Type 0
AreChained m = (h : ℕ) → (xs : List ℕ) × IsChainOf m h xs

-- who stood under one place stands under another
abbrev pub rehomed : ℕ → ℕ → Option ℕ → Option ℕ
rehomed h other o = cond (names o h) (Some other) o

-- ---- changes of slots

-- this one is the first of those who wait there, or nobody is
abbrev pub with_first : Option ℕ → Slot → Slot
with_first o s = record s { first = o }

-- it has this place in a chain, or none
abbrev pub with_link : Option Link → Slot → Slot
with_link l s = record s { link = l }

-- this one stands before it in its chain, or none does
abbrev pub with_before : Option ℕ → Slot → Slot
with_before o s = record s { link = option_map {T = Link} (λ l. record l { before = o }) s.link }

-- this one stands after it in its chain, or none does
abbrev pub with_next : Option ℕ → Slot → Slot
with_next o s = record s { link = option_map {T = Link} (λ l. record l { next = o }) s.link }

-- its chain is that of another slot
abbrev pub with_home : ℕ → Slot → Slot
with_home h s = record s { link = option_map {T = Link} (λ l. record l { home = h }) s.link }

-- who stands there is changed
abbrev pub in_standing : (Standing → Standing) → Slot → Slot
in_standing f s = record s { standing = f s.standing }

-- the slot at the place is changed, if there is a place
abbrev pub changed_if : Option ℕ → (Slot → Slot) → map.FinMap nat_cmp Slot → map.FinMap nat_cmp Slot
changed_if None f m = m
changed_if (Some q) f m = changed_at q f m

-- what follows the place before is next; if there is none before, it is the first of h
abbrev pub led_to : ℕ → Option ℕ → Option ℕ → map.FinMap nat_cmp Slot → map.FinMap nat_cmp Slot
led_to h None next m = changed_at h (with_first next) m
led_to h (Some q) next m = changed_at q (with_next next) m

-- the slots at these places are changed, one after the other
abbrev pub changed_each_at : (Slot → Slot) → List ℕ → map.FinMap nat_cmp Slot → map.FinMap nat_cmp Slot
changed_each_at f [] m = m
changed_each_at f (x ∷ xs) m = changed_each_at f xs (changed_at x f m)
