-- Which keys the number of a name stands for.
use Rattle.rk_core.proofs.Words.{◌≡◌, ℕ, Bool, true, false, not, ◌&&◌, List, refl, sym, ap, ◌∙◌, Option, Some, None, IfSome, nat_eq, option_map, unwrap_or}
use Rattle.rk_core.proofs.Words.{is_some, bytes_eq, option_map_or, nat_cmp, and_parts, both_ways, bytes_eq-Decides, Key, is_named, has_name, is_rival, Known}
use Rattle.rk_core.proofs.Words.{IsNaming}
use Rattle.std.specs.FinMap as map

-- a key has the name where its number is that of the name, None for a name that no key has
abbrev pub IsNameOf : Known → List ℕ → List ℕ → Option ℕ → Type 0
IsNameOf known typ description name =
    (k m : ℕ) → map.get known.numbers k ≡ Some m → has_name known.keys k typ description ≡ option_map_or (λ n. nat_eq m n) name false

some_there : {A : Type 0} (o : Option A) → is_some o ≡ true → (x : A) × (o ≡ Some x)
some_there None h = absurd (both_ways false refl h)
some_there (Some x) h = (x, refl)

-- what has a number is a key
pub key_of : (known : Known) (k m : ℕ) → IsNaming known.keys known.numbers → map.get known.numbers k ≡ Some m → (key : Key) × (map.get known.keys k ≡ Some key)
key_of known k m naming is = some_there (map.get known.keys k) (sym (naming.each k) ∙ ap is_some is)

passing : (p : Key → Bool) (o : Option Key) → unwrap_or (option_map p o) false ≡ true → (a : Key) × (o ≡ Some a) × (p a ≡ true)
passing p None e = absurd (both_ways false refl e)
passing p (Some a) e = (a, refl, e)

named_so : (keys : map.FinMap nat_cmp Key) (k : ℕ) (key : Key) (typ description : List ℕ) → map.get keys k ≡ Some key
    → has_name keys k typ description ≡ is_named typ description key
named_so keys k key typ description is = ap (λ o. unwrap_or (option_map (is_named typ description) o) false) is

-- the number of one key of the name
pub by_namesake : (known : Known) (typ description : List ℕ) (q n : ℕ) → IsNaming known.keys known.numbers → has_name known.keys q typ description ≡ true
    → map.get known.numbers q ≡ Some n
    → IsNameOf known typ description (Some n)
by_namesake known typ description q n naming named number = λ k m is.
    let b = key_of known k m naming is in
    let a = passing (is_named typ description) (map.get known.keys q) named in
    let same = and_parts (bytes_eq a.0.typ typ) (bytes_eq a.0.description description) a.2 in
    named_so known.keys k b.0 typ description b.1
    ∙ (λ i. is_named (sym ((bytes_eq-Decides a.0.typ typ).0 same.0) i) (sym ((bytes_eq-Decides a.0.description description).0 same.1) i) b.0)
    ∙ sym (naming.shared k q b.0 a.0 m n b.1 a.1 is number)

-- the number of the key itself
pub by_key : (known : Known) (k n : ℕ) (key : Key) → IsNaming known.keys known.numbers → map.get known.keys k ≡ Some key → map.get known.numbers k ≡ Some n
    → IsNameOf known key.typ key.description (Some n)
by_key known k n key naming is number = λ j m there.
    let b = key_of known j m naming there in
    named_so known.keys j b.0 key.typ key.description b.1 ∙ sym (naming.shared j k b.0 key m n b.1 is there number)

-- what a look-up of the name tells
pub by_name : (known : Known) (typ description : List ℕ) (name : Option ℕ) → IsNaming known.keys known.numbers
    → (name ≡ None → (k : ℕ) → has_name known.keys k typ description ≡ false)
    → IfSome name (λ n. (k : ℕ) × (has_name known.keys k typ description ≡ true) × (map.get known.numbers k ≡ Some n))
    → IsNameOf known typ description name
by_name known typ description None naming none some = λ k m is. none refl k
by_name known typ description (Some n) naming none some = by_namesake known typ description some.0 n naming some.1 some.2

-- a key gives way to another where it has its number
pub gives_way_by : (known : Known) (k n j m : ℕ) → IsNaming known.keys known.numbers → map.get known.numbers k ≡ Some n → map.get known.numbers j ≡ Some m
    → is_rival known.keys k j ≡ (not (nat_eq j k) && nat_eq m n)
gives_way_by known k n j m naming number there =
    let a = key_of known k n naming number in
    ap (λ o. not (nat_eq j k) && unwrap_or (option_map (λ (key : Key). has_name known.keys j key.typ key.description) o) false) a.1
    ∙ ap (λ b. not (nat_eq j k) && b) (by_key known k n a.0 naming a.1 number j m there)
