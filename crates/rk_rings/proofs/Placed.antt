-- The keys of names as the entries of a map whose places last.
use Rattle.rk_rings.proofs.Words.{◌∙◌, ap, sym, ◌≡◌, arith, ℕ, cond, ◌≤◌, false, ◌+◌, refl, true, Bool, ◌-◌, length, List, [], ◌∷◌, inl, inr, fold, cases_eq}
use Rattle.rk_rings.proofs.Words.{none-some, same_Some, nat_cmp_total, unsigned_tied, get, len, insert, remove, empty, FinMap, get-empty, len-remove}
use Rattle.rk_rings.proofs.Words.{len-insert, entries, same_map, nat_cmp-IsAntisymmetric, len-empty, find, get-entries, AllByRecursion, lookup, nat_cmp}
use Rattle.rk_rings.proofs.Words.{eq_by_cmp, None, Some, nat_eq, is_some, Option, tie, of_choice, get_inserted, at_new, at_other, get_removed, HasEachOnce}
use Rattle.rk_rings.proofs.Words.{entries_once, serial_of, named, AreByName, turned_more, with_name, AreSerials}
use Rattle.rk_rings.proofs.Finds.{tied, tied_itself}
use Rattle.rk_rings.proofs.Turned.{nothing_out}

-- ---- what the entries tell

-- a place that holds none is as good as none
abbrev pub held : Option (Option ℕ) → Option ℕ
held None = None
held (Some o) = o

get_with_name : (m : FinMap nat_cmp ℕ) (n : ℕ) (o : Option ℕ) (q : ℕ) → get (with_name m n o) q ≡ cond (nat_eq n q) o (get m q)
get_with_name m n None q = get_removed m n q
get_with_name m n (Some k) q = get_inserted m n k q

-- the key of a name is the one in the first place of that name, if it holds any
pub get_named : (es : List (ℕ × Option ℕ)) (q : ℕ) → get (named es) q ≡ held (lookup (nat_eq q) es)
get_named [] q = get-empty nat_cmp q
get_named (e ∷ es) q =
    get_with_name (named es) e.0 e.1 q ∙ ap (cond (nat_eq e.0 q) e.1) (get_named es q)
    ∙ sym (of_choice held (nat_eq e.0 q) (Some e.1) (lookup (nat_eq q) es))
    ∙ ap (λ b. held (cond b (Some e.1) (lookup (nat_eq q) es))) (sym (tie q e.0) ∙ unsigned_tied q e.0)

-- one place is written
pub named_put : (old new : List (ℕ × Option ℕ)) (n : ℕ) (o : Option ℕ)
    → ((q : ℕ) → lookup (nat_eq q) new ≡ cond (nat_eq n q) (Some o) (lookup (nat_eq q) old)) → named new ≡ with_name (named old) n o
named_put old new n o h = same_map nat_cmp_total nat_cmp-IsAntisymmetric _ _ (λ q.
    get_named new q ∙ ap held (h q) ∙ of_choice held (nat_eq n q) (Some o) (lookup (nat_eq q) old)
    ∙ ap (cond (nat_eq n q) o) (sym (get_named old q)) ∙ sym (get_with_name (named old) n o q))

-- if there is no place, there is no key
pub named_without : (es : List (ℕ × Option ℕ)) (n : ℕ) → lookup (nat_eq n) es ≡ None → named es ≡ remove (named es) n
named_without es n none = nothing_out (named es) n (get_named es n ∙ ap held none)

-- ---- no more keys than places

more_by_one : (b : Bool) (n : ℕ) → cond b n (n + 1) ≤ n + 1
more_by_one true n = omega arith
more_by_one false n = omega arith

fewer_or_same : (b : Bool) (n : ℕ) → cond b (n - 1) n ≤ n + 1
fewer_or_same true n = omega arith
fewer_or_same false n = omega arith

len_with_name : (m : FinMap nat_cmp ℕ) (n : ℕ) (o : Option ℕ) → len (with_name m n o) ≤ len m + 1
len_with_name m n None = rw (len-remove nat_cmp_total m n) (fewer_or_same (is_some (get m n)) (len m))
len_with_name m n (Some k) = rw (len-insert nat_cmp_total m n k) (more_by_one (is_some (get m n)) (len m))

-- there are at most as many named keys as places
pub len_named : (es : List (ℕ × Option ℕ)) → len (named es) ≤ length es
len_named [] = omega (arith, len-empty nat_cmp ℕ)
len_named (e ∷ es) = omega (arith, len_with_name (named es) e.0 e.1, len_named es)

-- ---- links are put back

-- one more key stands at its name
abbrev put_more : FinMap nat_cmp ℕ → ℕ × ℕ → FinMap nat_cmp ℕ
put_more m e = insert m e.1 e.0

-- what stands in one map stands in the other
abbrev IsIn : FinMap nat_cmp ℕ → FinMap nat_cmp ℕ → Type 0
IsIn m b = (q k : ℕ) → get m q ≡ Some k → get b q ≡ Some k

-- each link stands in the map the other way round
abbrev AreTurned : FinMap nat_cmp ℕ → List (ℕ × ℕ) → Type 0
AreTurned b es = AllByRecursion (λ e. get b e.1 ≡ Some e.0) es

more_in : (b m : FinMap nat_cmp ℕ) (e : ℕ × ℕ) → get b e.1 ≡ Some e.0 → IsIn m b → IsIn (put_more m e) b
more_in b m e is h q k there = elim (cases_eq q e.1) [
  | inl same ↦ ap (get b) same ∙ is ∙ sym (at_new m e.1 e.0 q same) ∙ there
  | inr ne ↦ h q k (sym (at_other m e.1 e.0 q ne) ∙ there)
]

all_in : (b : FinMap nat_cmp ℕ) (es : List (ℕ × ℕ)) (m : FinMap nat_cmp ℕ) → AreTurned b es → IsIn m b → IsIn (fold put_more m es) b
all_in b [] m all h = h
all_in b (e ∷ es) m all h = all_in b es (put_more m e) all.1 (more_in b m e all.0 h)

stays : (b : FinMap nat_cmp ℕ) (es : List (ℕ × ℕ)) (m : FinMap nat_cmp ℕ) (q k : ℕ) → AreTurned b es → get b q ≡ Some k → get m q ≡ Some k
    → get (fold put_more m es) q ≡ Some k
stays b [] m q k all is there = there
stays b (e ∷ es) m q k all is there = stays b es (put_more m e) q k all.1 is (elim (cases_eq q e.1) [
  | inl same ↦ at_new m e.1 e.0 q same ∙ sym (ap (get b) same ∙ all.0) ∙ is
  | inr ne ↦ at_other m e.1 e.0 q ne ∙ there
])

is_put : (b : FinMap nat_cmp ℕ) (es : List (ℕ × ℕ)) (m : FinMap nat_cmp ℕ) (q k : ℕ) → AreTurned b es → find nat_cmp k es ≡ Some q
    → get b q ≡ Some k → get (fold put_more m es) q ≡ Some k
is_put b [] m q k all there is = absurd (cc)
is_put b (e ∷ es) m q k all there is =
    elim (eq_by_cmp nat_cmp k e.0) as (λ t. eq_by_cmp nat_cmp k e.0 ≡ t → cond t (Some e.1) (find nat_cmp k es) ≡ Some q → get (fold put_more (put_more m e) es) q ≡ Some k) [
      | true ↦ λ t there.
          let key : k ≡ e.0 = tied k e.0 t in
          let name : e.1 ≡ q = same_Some e.1 q there in
          stays b es (put_more m e) q k all.1 is (at_new m e.1 e.0 q (sym name) ∙ ap (λ x. Some x) (sym key))
      | false ↦ λ _ there. is_put b es (put_more m e) q k all.1 there is
    ] refl there

all_found : (P : ℕ × ℕ → Type 0) (es : List (ℕ × ℕ)) → HasEachOnce es → ((k n : ℕ) → find nat_cmp k es ≡ Some n → P (k, n)) → AllByRecursion P es
all_found P [] once h = tt
all_found P (e ∷ es) once h = (
  h e.0 e.1 (ap (λ t. cond t (Some e.1) (find nat_cmp e.0 es)) (tied_itself e.0)),
  all_found P es once.1 (λ k n there. h k n (later k n there)),
)
  where
    later : (k n : ℕ) → find nat_cmp k es ≡ Some n → find nat_cmp k (e ∷ es) ≡ Some n
    later k n there = elim (eq_by_cmp nat_cmp k e.0) as (λ t. eq_by_cmp nat_cmp k e.0 ≡ t → cond t (Some e.1) (find nat_cmp k es) ≡ Some n) [
      | true ↦ λ t. absurd (none-some n (sym (ap (λ x. find nat_cmp x es) (tied k e.0 t) ∙ once.0) ∙ there))
      | false ↦ λ _. there
    ] refl

-- keys that are serials stand at their names
as_put : (es : List (ℕ × ℕ)) (m : FinMap nat_cmp ℕ) → AllByRecursion (λ e. serial_of e.0 ≡ Some e.0) es → fold turned_more m es ≡ fold put_more m es
as_put [] m all = refl
as_put (e ∷ es) m all = as_put es (turned_more m e) all.1 ∙ ap (λ o. fold put_more (with_name m e.1 o) es) all.0

each_serial : (links : FinMap nat_cmp ℕ) → AreSerials links → (es : List (ℕ × ℕ)) → HasEachOnce es
    → ((k n : ℕ) → find nat_cmp k es ≡ Some n → get links k ≡ Some n) → AllByRecursion (λ e. serial_of e.0 ≡ Some e.0) es
each_serial links all es once h = all_found (λ e. serial_of e.0 ≡ Some e.0) es once (λ k n there. all k (ap is_some (h k n there)))

links_put : (links by_name : FinMap nat_cmp ℕ) → AreByName links by_name → fold put_more empty (entries links) ≡ by_name
links_put links by_name index = same_map nat_cmp_total nat_cmp-IsAntisymmetric _ _ (λ q. at q (get by_name q) refl)
  where
    all : AreTurned by_name (entries links)
    all = all_found (λ e. get by_name e.1 ≡ Some e.0) (entries links) (entries_once links) (λ k n there. index.found k n (get-entries links k ∙ there))

    within : IsIn (fold put_more empty (entries links)) by_name
    within = all_in by_name (entries links) empty all none
      where
        none : IsIn empty by_name
        none q k there = absurd (none-some k (sym (get-empty nat_cmp q) ∙ there))

    at : (q : ℕ) (o : Option ℕ) → get by_name q ≡ o → get (fold put_more empty (entries links)) q ≡ get by_name q
    at q (Some k) is = is_put by_name (entries links) empty q k all (sym (get-entries links k) ∙ index.linked q k is) is ∙ sym is
    at q None is = empty_there (get (fold put_more empty (entries links)) q) refl
      where
        empty_there : (o : Option ℕ) → get (fold put_more empty (entries links)) q ≡ o → get (fold put_more empty (entries links)) q ≡ get by_name q
        empty_there None e = e ∙ sym is
        empty_there (Some k) e = absurd (none-some k (sym is ∙ within q k e))

-- the links, put back, give what there was
pub put_back_all : (links by_name : FinMap nat_cmp ℕ) → AreSerials links → AreByName links by_name → fold turned_more empty (entries links) ≡ by_name
put_back_all links by_name serials index =
    as_put (entries links) empty (each_serial links serials (entries links) (entries_once links) (λ k n there. get-entries links k ∙ there))
    ∙ links_put links by_name index
