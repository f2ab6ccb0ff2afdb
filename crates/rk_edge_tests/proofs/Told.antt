-- What is told of a story that had not begun.
use Rattle.std.proofs.Common.{◌≡◌, List, [], Option, Some, None, sym, ap, subst, ◌∙◌}
use Rattle.rk_daemon.specs.Story.{Does, and_then}

-- what was told; nothing if it is not
acts_of : {A : Type 0} → Option (List A) → List A
acts_of (Some acts) = acts
acts_of None = []

-- what is done by one that had told nothing and now has told all this, holds of all this
pub all_told : {A : Type 0} (P : List A → Type 0) (s t : Option (List A)) (all : List A) → s ≡ Some [] → t ≡ Some all → Does P s t → P all
unfolding acts_of
all_told {A} P s t all begun told (acts, done, is) =
    let whole : Some acts ≡ t = sym (done ∙ ap (λ (v : Option (List A)). and_then v acts) begun) in
    subst P (ap acts_of (whole ∙ told)) is
