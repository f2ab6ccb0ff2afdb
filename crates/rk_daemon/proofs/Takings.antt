-- What is done at the path of a socket, one thing after the other.
use Rattle.std.proofs.Common.{◌≡◌, rules, ℕ, Bool, true, false, not, List, [], ◌∷◌, Option, Some, None, Result, Ok, Err, refl, sym, ap, subst, ◌∙◌}
use Rattle.std.specs.Prelude.{◌≢◌, IsErr, is_none, is_ok}
use Rattle.std.specs.Option.{option_eq}
use Rattle.std.specs.declared.io.Error.{Error}
use Rattle.std.specs.declared.io.ErrorKind.{ErrorKind}
use Rattle.std.specs.declared.io.ErrorKind.TheVariants.{AddrInUse}
use Rattle.rk_daemon.specs.declared.place.FileId.{FileId}
use Rattle.rk_daemon.specs.contracts.place.FileIdPartialEq.TheImpl as of_files
use Rattle.rk_daemon.specs.Place.{Act, Bound, Permitted, Listened, Probed, Identified, Removed, failure}
use Rattle.rk_daemon.specs.Story.{Does, and_then}
use Rattle.rk_daemon.specs.Taking.{Binds, GivesFree, Opens, Readies, Replaces, Takes, barred, bound, file_taken, freed, left, met, opened, permitted, replaced, spared, stayed, taken, unbound, unopened, unpermitted, withdrawn}
use Rattle.rk_daemon.proofs.Stories.{more}

abbrev Told : Type 0
Told = Option (List Act)

-- what has not failed was done
is_bound : {A : Type 0} (r : Result A Error) → is_none (failure r) ≡ is_ok r
is_bound (Ok x) = refl
is_bound (Err e) = refl

if_true : (b : Bool) → true ≡ not b → b ≡ false
if_true true e = absurd (cc)
if_true false e = refl

if_false : (b : Bool) → false ≡ not b → b ≡ true
if_false true e = refl
if_false false e = absurd (cc)

-- the test of two files passes if they are equal, and only then
are_same : (a b : FileId) → of_files.ghosts.eq a b ≡ true → a ≡ b
are_same a b = search rules

alike : (a : FileId) → of_files.ghosts.eq a a ≡ true
alike a = search rules

same_file : (found : Option FileId) (file : FileId) → option_eq of_files.ghosts.eq found (Some file) ≡ true → found ≡ Some file
same_file None file e = absurd (cc)
same_file (Some x) file e = ap Some (are_same x file e)

other_file : (found : Option FileId) (file : FileId) → option_eq of_files.ghosts.eq found (Some file) ≡ false → found ≢ Some file
other_file found file e is =
    let passes : Option FileId → Type 0 = λ x. option_eq of_files.ghosts.eq x (Some file) ≡ false in
    let other : of_files.ghosts.eq file file ≡ false = subst passes is e in
    let same = alike file in
    absurd (cc)

-- and what has failed has taken nothing
pub none_taken : {L E : Type 0} (r : Result (L × FileId) E) → IsErr r → file_taken r ≡ None
none_taken (Ok x) e = absurd (cc)
none_taken (Err x) e = refl

module _ (path : List ℕ) where
  -- ---- a socket that is replaced

  pub left_it : (found : Option Bool) (s t : Told) → t ≡ and_then s (Probed path found ∷ []) → found ≢ Some true → Does (Replaces path false) s t
  left_it found s t probed is_not = (Probed path found ∷ [], probed, left found is_not)

  pub left_other : (is_left : Bool) (s t : Told) → t ≡ and_then s (Probed path (Some is_left) ∷ []) → is_left ≡ false → Does (Replaces path false) s t
  left_other is_left s t probed is_not = left_it (Some is_left) s t probed (λ is. absurd (cc))

  module _ (is_left : Bool) (s t : Told) (probed : t ≡ and_then s (Probed path (Some is_left) ∷ [])) (is : is_left ≡ true) where
    it_was : t ≡ and_then s (Probed path (Some true) ∷ [])
    it_was = rw (← is) probed

    pub could_not_remove : (u : Told) → u ≡ and_then t (Removed path false ∷ []) → Does (Replaces path false) s u
    could_not_remove u removed = (Probed path (Some true) ∷ Removed path false ∷ [], more s t u _ _ it_was removed, stayed)

    pub replaced_it : {A : Type 0} (r : Result A Error) (u v : Told) → u ≡ and_then t (Removed path true ∷ [])
        → v ≡ and_then u (Bound path (failure r) ∷ []) → Does (Replaces path (is_ok r)) s v
    replaced_it r u v removed bind =
        let acts : List Act = Probed path (Some true) ∷ Removed path true ∷ Bound path (failure r) ∷ [] in (
          acts,
          more s t v _ _ it_was (more t u v _ _ removed bind),
          subst (λ (b : Bool). Replaces path b acts) (is_bound r) (replaced (failure r)),
        )

  -- ---- a socket that is bound

  pub bound_it : (s t : Told) → t ≡ and_then s (Bound path None ∷ []) → Does (Binds path true) s t
  bound_it s t bind = (Bound path None ∷ [], bind, bound)

  pub failed_otherwise : (kind : ErrorKind) (s t : Told) → t ≡ and_then s (Bound path (Some kind) ∷ []) → kind ≢ AddrInUse → Does (Binds path false) s t
  failed_otherwise kind s t bind is_not = (Bound path (Some kind) ∷ [], bind, unbound kind is_not)

  pub met_it : (kind : ErrorKind) (is_bound : Bool) (s t u : Told) → t ≡ and_then s (Bound path (Some kind) ∷ []) → kind ≡ AddrInUse
      → Does (Replaces path is_bound) t u → Does (Binds path is_bound) s u
  met_it kind is_bound s t u bind is (acts, told, replaces) =
      (Bound path (Some AddrInUse) ∷ acts, rw (← is) (more s t u _ _ bind told), met is_bound acts replaces)

  module _ (mode : ℕ) where
    -- ---- a socket that listens

    pub not_permitted : (s t : Told) → t ≡ and_then s (Permitted path mode false ∷ []) → Does (Readies path mode false) s t
    not_permitted s t permit = (Permitted path mode false ∷ [], permit, unpermitted)

    pub permitted_first : (listens : Bool) (s t u : Told) → t ≡ and_then s (Permitted path mode true ∷ []) → u ≡ and_then t (Listened listens ∷ [])
        → Does (Readies path mode listens) s u
    permitted_first listens s t u permit listen =
        (Permitted path mode true ∷ Listened listens ∷ [], more s t u _ _ permit listen, permitted listens)

    pub opened_it : (s t : Told) → Does (Readies path mode true) s t → Does (Opens path mode true) s t
    opened_it s t (acts, told, readies) = (acts, told, opened acts readies)

    pub withdrew : (is_gone : Bool) (s t u : Told) → Does (Readies path mode false) s t → u ≡ and_then t (Removed path is_gone ∷ [])
        → Does (Opens path mode false) s u
    withdrew is_gone s t u (acts, told, readies) removed = (_, more s t u _ _ told removed, withdrawn acts is_gone readies)

    -- ---- a path that is taken

    pub was_barred : (s t : Told) → Does (Binds path false) s t → Does (Takes path mode None) s t
    was_barred s t (acts, told, binds) = (acts, told, barred acts binds)

    pub was_unopened : (s t u : Told) → Does (Binds path true) s t → Does (Opens path mode false) t u → Does (Takes path mode None) s u
    was_unopened s t u (acts, told, binds) (others, next, opens) = (_, more s t u _ _ told next, unopened acts others binds opens)

    pub was_taken : (file : Option FileId) (s t u v : Told) → Does (Binds path true) s t → Does (Opens path mode true) t u
        → v ≡ and_then u (Identified path file ∷ []) → Does (Takes path mode file) s v
    was_taken file s t u v (acts, told, binds) (others, next, opens) identified =
        (_, more s u v _ _ (more s t u _ _ told next) identified, taken acts others file binds opens)

  -- ---- a path that is given free

  module _ (seen found : Option FileId) (file : FileId) (differs : Bool) (s t : Told) (identified : t ≡ and_then s (Identified path seen ∷ []))
      (is_seen : found ≡ seen) (is_test : differs ≡ not (option_eq of_files.ghosts.eq found (Some file))) where
    pub spared_it : differs ≡ true → Does (GivesFree path file) s t
    spared_it is =
        let other = other_file found file (if_true _ (sym is ∙ is_test)) in
        (Identified path seen ∷ [], identified, spared seen (λ e. other (is_seen ∙ e)))

    pub freed_it : (is_gone : Bool) (u : Told) → differs ≡ false → u ≡ and_then t (Removed path is_gone ∷ []) → Does (GivesFree path file) s u
    freed_it is_gone u is removed =
        let same : seen ≡ Some file = sym is_seen ∙ same_file found file (if_false _ (sym is ∙ is_test)) in
        (Identified path (Some file) ∷ Removed path is_gone ∷ [], rw (← same) (more s t u _ _ identified removed), freed is_gone)
