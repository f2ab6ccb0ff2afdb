-- Stories that go on.
use Rattle.std.proofs.Common.{◌≡◌, false, List, [], ◌++◌, Option, Some, None, Result, Ok, Err, refl, sym, ap, ◌∙◌}
use Rattle.std.specs.Prelude.{IsErr, is_ok}
use Rattle.std.specs.Result.{result_ok}
use Rattle.std.proofs.lemmas.List.{append_assoc, append-nil}
use Rattle.rk_daemon.specs.Story.{and_then}

twice : {A : Type 0} (story : Option (List A)) (x y : List A) → and_then (and_then story x) y ≡ and_then story (x ++ y)
twice None x y = refl
twice (Some s) x y = ap Some (append_assoc s x y)

-- nothing was done
pub still : {A : Type 0} (story : Option (List A)) → story ≡ and_then story []
still None = refl
still (Some s) = ap Some (sym (append-nil s))

-- this was done, and then that
pub more : {A : Type 0} (s t u : Option (List A)) (x y : List A) → t ≡ and_then s x → u ≡ and_then t y → u ≡ and_then s (x ++ y)
more {A} s t u x y e f = f ∙ ap (λ (v : Option (List A)). and_then v y) e ∙ twice s x y

-- what has failed was not done
pub no_ok : {A E : Type 0} (r : Result A E) → IsErr r → is_ok r ≡ false
no_ok (Ok x) e = absurd (cc)
no_ok (Err x) e = refl

-- what was refused has no value
pub no_value : {A E : Type 0} (r : Result A E) → IsErr r → result_ok r ≡ None
no_value (Ok x) e = absurd (cc)
no_value (Err x) e = refl
