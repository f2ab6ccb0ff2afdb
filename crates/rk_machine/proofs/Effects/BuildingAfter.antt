-- Which keys are under construction, after each thing that a step may do.
use Rattle.rk_machine.proofs.Words.{◌≡◌, ℕ, ◌∙◌, ◌||◌, Bool, true, false, cond, refl, ap, sym, option_map_or, nat_cmp, Option, Some, None, nat_eq, option_map}
use Rattle.rk_machine.proofs.Words.{unwrap_or, changed_at, kept_where, key_passes, is_building, builds, concluded, Condition, Building, Positive, Negative, Key}
use Rattle.rk_machine.proofs.Words.{Ring, has_link, World, get_inserted, get_changed_at, get_kept_where, of_choice}
use Rattle.std.specs.FinMap as map
use Rattle.rk_machine.proofs.Effects.KindsOfStep.{is_final, IsMild}

-- the key is there and under construction
abbrev pub built_at : map.FinMap nat_cmp Key → ℕ → Bool
built_at keys k = key_passes keys k is_building

-- the same, of the keys of a world
abbrev pub is_built : World → ℕ → Bool
is_built w k = built_at w.keys k

-- the same, of what is found of a key
abbrev pub built_in : Option Key → Bool
built_in o = unwrap_or (option_map is_building o) false

-- such a key is there
pub key_there : (keys : map.FinMap nat_cmp Key) (k : ℕ) → built_at keys k ≡ true → (key : Key) × (map.get keys k ≡ Some key)
key_there keys k h = found (map.get keys k) h
  where
    found : (o : Option Key) → built_in o ≡ true → (key : Key) × (o ≡ Some key)
    found None h = absurd (cc)
    found (Some key) h = (key, refl)

-- what is tidied away was not under construction
kept_key : (linked : Bool) (key : Key) (b : Bool) → is_building key ≡ b → built_in (cond (linked || b) (Some key) None) ≡ is_building key
kept_key true key b e = refl
kept_key false key true e = refl
kept_key false key false e = sym e

kept_in : (linked : Bool) (o : Option Key) → built_in (cond (option_map_or (λ key. linked || is_building key) o false) o None) ≡ built_in o
kept_in linked None = refl
kept_in linked (Some key) = kept_key linked key (is_building key) refl

-- keys without a link that are dropped leave which keys are under construction
pub built_tidied : (rings : map.FinMap nat_cmp Ring) (keys : map.FinMap nat_cmp Key) (k : ℕ)
    → built_at (kept_where (λ k key. has_link rings k || is_building key) keys) k ≡ built_at keys k
built_tidied rings keys k = ap built_in (get_kept_where (λ k key. has_link rings k || is_building key) keys k) ∙ kept_in (has_link rings k) (map.get keys k)

-- a new key
pub built_put : (k : ℕ) (key : Key) (keys : map.FinMap nat_cmp Key) (j : ℕ)
    → built_at (map.insert keys k key) j ≡ cond (nat_eq k j) (is_building key) (built_at keys j)
built_put k key keys j = ap built_in (get_inserted keys k key j) ∙ of_choice built_in (nat_eq k j) (Some key) (map.get keys j)

-- a change that leaves its condition
mild_in : (b : Bool) (f : Key → Key) (o : Option Key) → IsMild f → built_in (cond b (option_map f o) o) ≡ built_in o
mild_in true f None mild = refl
mild_in true f (Some key) mild = ap builds (mild.condition key)
mild_in false f o mild = refl

-- a change that leaves a key's condition leaves which keys are under construction
pub built_marked : (k : ℕ) (f : Key → Key) → IsMild f → (keys : map.FinMap nat_cmp Key) (j : ℕ) → built_at (changed_at k f keys) j ≡ built_at keys j
built_marked k f mild keys j = ap built_in (get_changed_at k f keys j) ∙ mild_in (nat_eq k j) f (map.get keys j) mild

-- it gets its condition
final_key : (condition : Condition) (end : Option ℕ) (key : Key) → is_final condition ≡ true → is_building (concluded condition end key) ≡ false
final_key Building end key h = absurd (cc)
final_key (Positive payload) None key h = refl
final_key (Positive payload) (Some t) key h = refl
final_key (Negative error) None key h = refl
final_key (Negative error) (Some t) key h = refl

final_in : (b : Bool) (condition : Condition) (end : Option ℕ) (o : Option Key) → is_final condition ≡ true
    → built_in (cond b (option_map (concluded condition end) o) o) ≡ cond b false (built_in o)
final_in true condition end None h = refl
final_in true condition end (Some key) h = final_key condition end key h
final_in false condition end o h = refl

-- a key with a final condition is not under construction any more, and every other key is as before
pub built_concluded : (k : ℕ) (condition : Condition) (end : Option ℕ) → is_final condition ≡ true → (keys : map.FinMap nat_cmp Key) (j : ℕ)
    → built_at (changed_at k (concluded condition end) keys) j ≡ cond (nat_eq k j) false (built_at keys j)
built_concluded k condition end final keys j =
    ap built_in (get_changed_at k (concluded condition end) keys j) ∙ final_in (nat_eq k j) condition end (map.get keys j) final
