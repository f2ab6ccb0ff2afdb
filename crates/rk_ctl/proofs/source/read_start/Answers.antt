use Rattle.std.proofs.Common.{◌≡◌, ℕ, List, [], ◌++◌, take, Option, Some, None, IfSome, ap, subst, ◌∙◌}
use Rattle.std.specs.Prelude.{option_map}
use Rattle.rk_ctl.specs.Sources.{IsStart}
use Rattle.rk_ctl.proofs.source.read_start.Goals as goal

-- all that a limit leaves was read, behind what was read before, which is nothing
limited : (limit : ℕ) (left : Option (List ℕ)) (before bytes : List ℕ) → limit ≡ 32768 → before ≡ []
    → IfSome (option_map (λ xs. take limit xs) left) (λ xs. bytes ≡ before ++ xs) → IsStart bytes left
limited limit None before bytes most empty is = tt
limited limit (Some xs) before bytes most empty is = is ∙ ap (λ (b : List ℕ). b ++ take limit xs) empty ∙ ap (λ (n : ℕ). take n xs) most

pub returns-in-Ok : goal.returns-in-Ok
returns-in-Ok g c =
    let bytes = c.read_to_end.new.buf.items in
    let left = ap (λ r. g.I.Read.remaining r.now) c.take.ensures.inner in
    subst (λ known. IsStart bytes known) left (limited _ _ _ bytes c.take.ensures.limit c.new-bytes.ensures.items c.in-Ok.ensures.bytes)
