-- A volume has one file, and a file one volume.
use Rattle.rk_volumes.proofs.Words.{◌++◌, ap, ◌≡◌, ℕ, List, length, ◌∙◌, arith, sym, refl, ◌+◌, [], append_assoc, ◌<◌, ◌∷◌, Option, Some, None, take, ◌≤◌}
use Rattle.rk_volumes.proofs.Words.{subst, append-nil, get_or, append_cancel_left, take_more, to_be_bytes, w32, w64, Appends, flat_map, AllByRecursion}
use Rattle.rk_volumes.proofs.Words.{Recorded, title, head_bytes, IsHead, file_bytes, IsStored, HasNoStep, IsMissing, IsFaultOf, HaveOneReading, step_bytes}
use Rattle.rk_volumes.proofs.Words.{IsStep, Head}
use Rattle.std.proofs.lemmas.Grind.{flat_map-append}
use Rattle.std.proofs.lemmas.List.Concat.{flat_map-cons}
use Rattle.rk_record.specs.HallNumbers.{hall_number}
use Rattle.rk_record.specs.declared.hall_no.HallNo.{HallNo}
use Rattle.rk_record.specs.declared.hall_no.HallNo.TheVariants as hall
use Rattle.rk_volumes.specs.declared.fault.Fault.{Fault}
use Rattle.rk_volumes.specs.declared.fault.Fault.TheVariants as fault
use Rattle.rk_volumes.proofs.Fronts.{same_word, same_long}
use Rattle.rk_volumes.proofs.Rows.{second}
use Rattle.rk_volumes.proofs.Steps.{same_step}

pub same_hall : (h g : HallNo) → hall_number h ≡ hall_number g → h ≡ g
same_hall hall.Zero hall.Zero e = refl
same_hall hall.One hall.One e = refl
same_hall hall.Two hall.Two e = refl
same_hall hall.Three hall.Three e = refl
same_hall h g e = absurd cc

abbrev headed : HallNo → ℕ → ℕ → ℕ → Head
headed hall negative index before = record { hall = hall; negative = negative; index = index; before = before }

abbrev from_before : Head → ℕ → List ℕ → List ℕ
from_before h count left = to_be_bytes w64 h.before ++ (to_be_bytes w64 count ++ left)

abbrev from_index : Head → ℕ → List ℕ → List ℕ
from_index h count left = to_be_bytes w64 h.index ++ from_before h count left

abbrev head_rest : Head → ℕ → List ℕ → List ℕ
head_rest h count left = to_be_bytes w32 h.negative ++ from_index h count left

-- a head and what follows it, one part after the other
pub head_in_parts : (h : Head) (count : ℕ) (left : List ℕ) → head_bytes h count ++ left ≡ hall_number h.hall ∷ head_rest h count left
head_in_parts h count left =
    let a = to_be_bytes w32 h.negative in
    let b = to_be_bytes w64 h.index in
    let c = to_be_bytes w64 h.before in
    let d = to_be_bytes w64 count in
    ap (λ (x : List ℕ). hall_number h.hall ∷ x)
    (append_assoc a (b ++ (c ++ d)) left ∙ ap (λ (x : List ℕ). a ++ x) (append_assoc b (c ++ d) left ∙ ap (λ (x : List ℕ). b ++ x) (append_assoc c d left)))

-- heads at the front of the same bytes are the same
pub same_head : (h g : Head) (n m : ℕ) (x y : List ℕ) → IsHead h n → IsHead g m → head_bytes h n ++ x ≡ head_bytes g m ++ y → (h ≡ g) × (n ≡ m) × (x ≡ y)
same_head h g n m x y is other eq =
    let first = second (hall_number h.hall) (hall_number g.hall) (head_rest h n x) (head_rest g m y) (sym (head_in_parts h n x) ∙ eq ∙ head_in_parts g m y) in
    let negative = same_word h.negative g.negative (from_index h n x) (from_index g m y) is.negative other.negative first.1 in
    let index = same_long h.index g.index (from_before h n x) (from_before g m y) is.index other.index negative.1 in
    let before = same_long h.before g.before (to_be_bytes w64 n ++ x) (to_be_bytes w64 m ++ y) is.before other.before index.1 in
    let count = same_long n m x y is.count other.count before.1 in (
      ap (λ (k : HallNo). headed k h.negative h.index h.before) (same_hall h.hall g.hall first.0) ∙ ap (λ (k : ℕ). headed g.hall k h.index h.before) negative.0
          ∙ ap (λ (k : ℕ). headed g.hall g.negative k h.before) index.0 ∙ ap (λ (k : ℕ). headed g.hall g.negative g.index k) before.0,
      count.0,
      count.1,
    )

cons_steps : (s : Recorded) (ss : List Recorded) (x : List ℕ) → flat_map step_bytes (s ∷ ss) ++ x ≡ step_bytes s ++ (flat_map step_bytes ss ++ x)
cons_steps s ss x = ap (λ (t : List ℕ). t ++ x) (flat_map-cons step_bytes s ss) ∙ append_assoc (step_bytes s) (flat_map step_bytes ss) x

-- as many steps at the front of the same bytes are the same
pub same_steps : (ss ts : List Recorded) (x y : List ℕ) → AllByRecursion IsStep ss → AllByRecursion IsStep ts → length ss ≡ length ts
    → flat_map step_bytes ss ++ x ≡ flat_map step_bytes ts ++ y → (ss ≡ ts) × (x ≡ y)
same_steps [] [] x y is other len eq = (refl, eq)
same_steps [] (t ∷ ts) x y is other len eq = absurd (omega (arith, len))
same_steps (s ∷ ss) [] x y is other len eq = absurd (omega (arith, len))
same_steps (s ∷ ss) (t ∷ ts) x y is other len eq =
    let first = same_step s t (flat_map step_bytes ss ++ x) (flat_map step_bytes ts ++ y) is.0 other.0 (sym (cons_steps s ss x) ∙ eq ∙ cons_steps t ts y) in
    let more = same_steps ss ts x y is.1 other.1 (omega (arith, len)) first.1 in
    (let a = first.0 in let b = more.0 in cc, more.1)

pub file_in_parts : (h : Head) (ss : List Recorded) (left : List ℕ)
    → file_bytes h ss ++ left ≡ title ++ (head_bytes h (length ss) ++ (flat_map step_bytes ss ++ left))
file_in_parts h ss left =
    append_assoc title (head_bytes h (length ss) ++ flat_map step_bytes ss) left
    ∙ ap (λ (x : List ℕ). title ++ x) (append_assoc (head_bytes h (length ss)) (flat_map step_bytes ss) left)

-- a volume at the front of the bytes of another is that one, and all of it
pub same_file : (h g : Head) (ss ts : List Recorded) (left more : List ℕ) → IsHead h (length ss) → IsHead g (length ts) → AllByRecursion IsStep ss
    → AllByRecursion IsStep ts
    → file_bytes h ss ++ left ≡ file_bytes g ts ++ more → (h ≡ g) × (ss ≡ ts) × (left ≡ more)
same_file h g ss ts left more ish isg iss ist eq =
    let behind = append_cancel_left title _ _ (sym (file_in_parts h ss left) ∙ eq ∙ file_in_parts g ts more) in
    let head = same_head h g (length ss) (length ts) _ _ ish isg behind in
    let steps = same_steps ss ts left more iss ist head.1 head.2 in
    (head.0, steps.0, steps.1)

-- a volume at the front of a file is all of it, and no other
pub have_one_reading : HaveOneReading
have_one_reading h g ss ts file other left is as-is eq =
    let both : file_bytes h ss ++ left ≡ file_bytes g ts ++ [] = ap (λ (x : List ℕ). x ++ left) (sym is.bytes) ∙ eq ∙ as-is.bytes
    ∙ sym (append-nil (file_bytes g ts)) in
    same_file h g ss ts left [] is.head as-is.head is.steps as-is.steps both

-- ---- writers

-- six writes, one after the other
pub head_put : (o a b c d e f : List ℕ) (h : Head) (count : ℕ) → a ≡ o ++ title → b ≡ a ++ (hall_number h.hall ∷ []) → c ≡ b ++ to_be_bytes w32 h.negative
    → d ≡ c ++ to_be_bytes w64 h.index → e ≡ d ++ to_be_bytes w64 h.before → f ≡ e ++ to_be_bytes w64 count → f ≡ o ++ (title ++ head_bytes h count)
head_put o a b c d e f h count first second third fourth fifth sixth =
    let k : List ℕ = hall_number h.hall ∷ [] in
    let l = to_be_bytes w32 h.negative in
    let m = to_be_bytes w64 h.index in
    let n = to_be_bytes w64 h.before in
    let p = to_be_bytes w64 count in
    let joined = sixth ∙ ap (λ (x : List ℕ). x ++ p) (fifth ∙ ap (λ (x : List ℕ). x ++ n) (fourth ∙ ap (λ (x : List ℕ). x ++ m)
    (third ∙ ap (λ (x : List ℕ). x ++ l) (second ∙ ap (λ (x : List ℕ). x ++ k) first)))) in
    joined ∙ append_assoc (((((o ++ title) ++ k) ++ l) ++ m)) n p
    ∙ append_assoc ((((o ++ title) ++ k) ++ l)) m (n ++ p) ∙ append_assoc (((o ++ title) ++ k)) l (m ++ (n ++ p))
    ∙ append_assoc (o ++ title) k (l ++ (m ++ (n ++ p))) ∙ append_assoc o title (k ++ (l ++ (m ++ (n ++ p))))

-- one thing appended and then another are both appended
pub appended : (a b c : Option (List ℕ)) (x y : List ℕ) → Appends a b x → Appends b c y → Appends a c (x ++ y)
appended None b c x y first next = tt
appended (Some a) None c x y first next = absurd first
appended (Some a) (Some b) None x y first next = absurd next
appended (Some a) (Some b) (Some c) x y first next = next ∙ ap (λ (t : List ℕ). t ++ y) first ∙ append_assoc a x y

-- ---- one step more

-- a list whose elements all keep a rule, and one more
pub all_snoc : {X : Type 0} (P : X → Type 0) (xs : List X) (x : X) → AllByRecursion P xs → P x → AllByRecursion P (xs ++ x ∷ [])
all_snoc P [] x all is = (is, tt)
all_snoc P (y ∷ ys) x all is = (all.0, all_snoc P ys x all.1 is)

-- one step more was read
pub read_more : (ss : List Recorded) (s : Recorded) (rest behind : List ℕ) → rest ≡ step_bytes s ++ behind
    → flat_map step_bytes ss ++ rest ≡ flat_map step_bytes (ss ++ s ∷ []) ++ behind
read_more ss s rest behind is =
    ap (λ (x : List ℕ). flat_map step_bytes ss ++ x) is ∙ sym (append_assoc (flat_map step_bytes ss) (step_bytes s) behind)
    ∙ ap (λ (x : List ℕ). (flat_map step_bytes ss ++ x) ++ behind) (sym (append-nil (step_bytes s)))
    ∙ ap (λ (x : List ℕ). x ++ behind) (sym (flat_map-append step_bytes ss (s ∷ [])))

-- one step more of those that stand in a list
pub take_step : (ss : List Recorded) (i : ℕ) (s : Recorded) → i < length ss → s ≡ get_or ss i s → take (i + 1) ss ≡ take i ss ++ s ∷ []
take_step ss i s lt at = take_more ss i s lt ∙ ap (λ (x : Recorded). take i ss ++ x ∷ []) (sym at)

pub bytes_more : (ss : List Recorded) (s : Recorded) → flat_map step_bytes (ss ++ s ∷ []) ≡ flat_map step_bytes ss ++ step_bytes s
bytes_more ss s = flat_map-append step_bytes ss (s ∷ []) ∙ ap (λ (x : List ℕ). flat_map step_bytes ss ++ x) (append-nil (step_bytes s))

-- ---- what a file that is a volume can't have

-- of steps that are there none is missing
none_missing : (ss ts : List Recorded) (left : List ℕ) → AllByRecursion IsStep ss → AllByRecursion IsStep ts → length ts < length ss
    → flat_map step_bytes ss ≡ flat_map step_bytes ts ++ left → HasNoStep left → ⊥
none_missing [] ts left is other short eq none = omega (arith, short)
none_missing (s ∷ ss) [] left is other short eq none = none s (flat_map step_bytes ss) is.0 (sym eq ∙ flat_map-cons step_bytes s ss)
none_missing (s ∷ ss) (t ∷ ts) left is other short eq none =
    let first = same_step s t (flat_map step_bytes ss) (flat_map step_bytes ts ++ left) is.0 other.0
    (sym (flat_map-cons step_bytes s ss) ∙ eq ∙ cons_steps t ts left) in
    none_missing ss ts left is.1 other.1 (omega (arith, short)) first.1 none

-- a file that is a volume has no fault
pub stored_has_none : (file : List ℕ) (f : Fault) (h : Head) (ss : List Recorded) → IsFaultOf file f → IsStored h ss file → f ≡ fault.NoMemory
stored_has_none file fault.Title h ss none is = absurd (none (head_bytes h (length ss) ++ flat_map step_bytes ss) is.bytes)
stored_has_none file fault.Head h ss at is = absurd (at.2 h (length ss) (flat_map step_bytes ss) is.head (append_cancel_left title _ _ (sym at.1 ∙ is.bytes)))
stored_has_none file (fault.Step number) h ss at is =
    let missing = at.5 in
    let head = same_head h at.0 (length ss) at.1 (flat_map step_bytes ss) at.2 is.head at.3 (append_cancel_left title _ _ (sym is.bytes ∙ at.4)) in
    absurd (none_missing ss missing.0 missing.1 is.steps missing.2 (omega (arith, missing.4, head.1)) (head.2 ∙ missing.3) missing.5)
stored_has_none file fault.Trailing h ss at is =
    let one = same_file at.0 h at.1 ss at.2 [] at.3 is.head at.4 is.steps (sym at.5 ∙ is.bytes ∙ sym (append-nil (file_bytes h ss))) in
    absurd (omega (arith, at.6, ap length one.2))
stored_has_none file fault.NoMemory h ss at is = refl
stored_has_none file fault.Sum h ss at is = absurd at

-- a file is the volume that was read from it
pub stored_is_read : (file : List ℕ) (h g : Head) (ss ts : List Recorded) → IsStored g ts file → IsStored h ss file → (g ≡ h) × (ts ≡ ss)
stored_is_read file h g ss ts as-is is =
    let one = have_one_reading g h ts ss file file [] as-is is (append-nil file) in
    (one.0, one.1)

-- what a missing step is to the file
pub missing_of : (file more : List ℕ) (h : Head) (count : ℕ) (f : Fault) → IsHead h count → file ≡ title ++ (head_bytes h count ++ more)
    → IsMissing more count f
    → IsFaultOf file f
missing_of file more h count (fault.Step number) is eq missing = (h, count, more, is, eq, missing)
missing_of file more h count fault.NoMemory is eq missing = tt
missing_of file more h count _ is eq missing = absurd missing

-- a file of which the line and the head were read
pub file_of : (file rest more : List ℕ) (h : Head) (count : ℕ) → file ≡ title ++ rest → rest ≡ head_bytes h count ++ more
    → file ≡ title ++ (head_bytes h count ++ more)
file_of file rest more h count is eq = is ∙ ap (λ (x : List ℕ). title ++ x) eq

-- a file of which as many steps were read as its head has
pub read_of : (file rest more left : List ℕ) (h : Head) (count : ℕ) (ss : List Recorded) → file ≡ title ++ rest → rest ≡ head_bytes h count ++ more
    → length ss ≡ count → more ≡ flat_map step_bytes ss ++ left → file ≡ file_bytes h ss ++ left
read_of file rest more left h count ss is eq len steps =
    is ∙ ap (λ (x : List ℕ). title ++ x) (eq ∙ ap (λ (n : ℕ). head_bytes h n ++ more) (sym len) ∙ ap (λ (x : List ℕ). head_bytes h (length ss) ++ x) steps)
    ∙ sym (file_in_parts h ss left)

-- bytes after the last step
pub trailing_of : (file rest more left : List ℕ) (h : Head) (count : ℕ) (ss : List Recorded) → IsHead h count → file ≡ title ++ rest
    → rest ≡ head_bytes h count ++ more → length ss ≡ count → AllByRecursion IsStep ss → more ≡ flat_map step_bytes ss ++ left → 0 < length left
    → IsFaultOf file fault.Trailing
trailing_of file rest more left h count ss is at eq len all steps there =
    (h, ss, left, subst (IsHead h) (sym len) is, all, read_of file rest more left h count ss at eq len steps, there)

no_bytes : (xs : List ℕ) → length xs ≤ 0 → xs ≡ []
no_bytes [] none = refl
no_bytes (x ∷ xs) none = absurd (omega (arith, none))

-- no byte after the last step
pub stored_of : (file rest more left : List ℕ) (h : Head) (count : ℕ) (ss : List Recorded) → IsHead h count → file ≡ title ++ rest
    → rest ≡ head_bytes h count ++ more → length ss ≡ count → AllByRecursion IsStep ss → more ≡ flat_map step_bytes ss ++ left → length left ≤ 0
    → IsStored h ss file
stored_of file rest more left h count ss is at eq len all steps none = record {
  head = subst (IsHead h) (sym len) is;
  steps = all;
  bytes = read_of file rest more left h count ss at eq len steps ∙ ap (λ (x : List ℕ). file_bytes h ss ++ x) (no_bytes left none)
      ∙ append-nil (file_bytes h ss);
}

-- one step more was put after what there was
pub step_more : (front : List ℕ) (ss : List Recorded) (i : ℕ) (s : Recorded) (text : List ℕ) → text ≡ step_bytes s → i < length ss → s ≡ get_or ss i s
    → (front ++ flat_map step_bytes (take i ss)) ++ text ≡ front ++ flat_map step_bytes (take (i + 1) ss)
step_more front ss i s text is lt at =
    append_assoc front (flat_map step_bytes (take i ss)) text ∙ ap (λ (x : List ℕ). front ++ (flat_map step_bytes (take i ss) ++ x)) is
    ∙ ap (λ (x : List ℕ). front ++ x) (sym (bytes_more (take i ss) s))
    ∙ ap (λ (t : List Recorded). front ++ flat_map step_bytes t) (sym (take_step ss i s lt at))
