-- What is done in the folder of a record, one thing after the other.
use Rattle.std.proofs.Common.{◌≡◌, ℕ, Bool, true, false, List, [], ◌∷◌, ◌++◌, Option, Some, None, Result, Ok, Err, refl, ap, subst, ◌∙◌}
use Rattle.std.specs.Prelude.{IfOk, String, string_bytes}
use Rattle.std.specs.Io.KnownBytes.{Appends, Keeps, append_known}
use Rattle.std.proofs.lemmas.List.{append-nil}
use Rattle.rk_record.specs.declared.recorded.Recorded.{Recorded}
use Rattle.rk_volumes.specs.declared.head.Head.{Head}
use Rattle.rk_volumes.specs.declared.seal.Seal.{Seal}
use Rattle.rk_volumes.specs.Filed.{HasFiled}
use Rattle.rk_daemon.specs.Folder.{Act, Created, Flushed, Linked, Removed}
use Rattle.rk_daemon.specs.Keeping.{Fills, Keeps as KeepsVolume, Names, crowded, filled, kept, named, part_path, refused, unfilled, unflushed, unnamed, unwritten, volume_path}
use Rattle.rk_daemon.specs.Story.{Does, and_then}
use Rattle.rk_daemon.proofs.Stories.{more, still}

abbrev Told : Type 0
Told = Option (List Act)

-- ---- what is written through a buffer

bare : (known : Option (List ℕ)) → append_known known [] ≡ known
bare None = refl
bare (Some bytes) = ap Some (append-nil bytes)

appended : (a b c : Option (List ℕ)) (bytes : List ℕ) → Appends a b bytes → Keeps b c → Appends a c bytes
appended None b c bytes p q = tt
appended (Some x) None c bytes p q = absurd p
appended (Some x) (Some y) None bytes p q = absurd q
appended (Some x) (Some y) (Some z) bytes p q = q ∙ p

-- a volume that is written through a buffer that was empty is in the file once the buffer has none of it
pub written_through : {T : Type 0} (contents : T → Option (List ℕ)) (h : Head) (steps : List Recorded) (seal : Seal) (sum : List ℕ) (file file' inner : T)
    (buffer : List ℕ) (after : Option (List ℕ)) → inner ≡ file → buffer ≡ [] → HasFiled h steps seal sum (append_known (contents inner) buffer) after
    → Keeps after (contents file') → HasFiled h steps seal sum (contents file) (contents file')
written_through contents h steps seal sum file file' inner buffer after is empty (bytes, files, grows) keeps =
    let begun : append_known (contents inner) buffer ≡ contents file =
    ap (λ bs. append_known (contents inner) bs) empty ∙ bare (contents inner) ∙ ap contents is in (
      bytes,
      files,
      subst (λ (o : Option (List ℕ)). Appends o (contents file') bytes) begun
          (appended (append_known (contents inner) buffer) after (contents file') bytes grows keeps),
    )

-- a text that was made is spelled so
pub spelled : {A E : Type 0} (r : Result (String A) E) (a b : List ℕ) → IfOk r (λ s. string_bytes s ≡ a) → a ≡ b → IfOk r (λ s. string_bytes s ≡ b)
spelled (Ok s) a b made is = made ∙ is
spelled (Err e) a b made is = tt

-- ---- a file that is filled

module _ (h : Head) (steps : List Recorded) (seal : Seal) (begun : Option (List ℕ)) where
  pub wrote_nothing : (s t : Told) → t ≡ s → Does (Fills h steps seal begun None) s t
  wrote_nothing s t e = ([], e ∙ still s, unwritten)

  pub did_not_flush : (ended : Option (List ℕ)) (s t : Told) → t ≡ and_then s (Flushed ended false ∷ []) → Does (Fills h steps seal begun None) s t
  did_not_flush ended s t told = (Flushed ended false ∷ [], told, unflushed ended)

  pub filled_it : (ended : Option (List ℕ)) (sum : List ℕ) (s t : Told) → t ≡ and_then s (Flushed ended true ∷ []) → HasFiled h steps seal sum begun ended
      → Does (Fills h steps seal begun (Some sum)) s t
  filled_it ended sum s t told is = (Flushed ended true ∷ [], told, filled ended sum is)

-- ---- a file that is named

module _ (part path : List ℕ) where
  pub named_nothing : (s : Told) → Does (Names part path None None) s s
  named_nothing s = ([], still s, unfilled)

  pub did_not_name : (sum : List ℕ) (s t : Told) → t ≡ and_then s (Linked part path false ∷ []) → Does (Names part path (Some sum) None) s t
  did_not_name sum s t told = (Linked part path false ∷ [], told, unnamed sum)

  pub named_it : (sum : List ℕ) (s t : Told) → t ≡ and_then s (Linked part path true ∷ []) → Does (Names part path (Some sum) (Some sum)) s t
  named_it sum s t told = (Linked part path true ∷ [], told, named sum)

-- ---- a volume that is kept

module _ (folder : List ℕ) (h : Head) (steps : List Recorded) (seal : Seal) where
  pub had_no_room : (s : Told) → Does (KeepsVolume folder h steps seal None) s s
  had_no_room s = ([], still s, crowded)

  pub was_refused : (part : List ℕ) (s t : Told) → part ≡ part_path folder h → t ≡ and_then s (Created part None ∷ []) → Does (KeepsVolume folder h steps seal None) s t
  was_refused part s t is told = (Created (part_path folder h) None ∷ [], rw (← is) told, refused)

  pub kept_it : (part path : List ℕ) (begun fill sum : Option (List ℕ)) (is_gone : Bool) (s t u v w : Told) → part ≡ part_path folder h
      → path ≡ volume_path folder h → t ≡ and_then s (Created part (Some begun) ∷ []) → Does (Fills h steps seal begun fill) t u
      → Does (Names part path fill sum) u v → w ≡ and_then v (Removed part is_gone ∷ []) → Does (KeepsVolume folder h steps seal sum) s w
  kept_it part path begun fill sum is_gone s t u v w is_part is_path created (acts, told, fills) (others, next, names) removed =
      let story : w ≡ and_then s (Created part (Some begun) ∷ acts ++ others ++ Removed part is_gone ∷ []) =
      more s t w _ _ created (more t v w _ _ (more t u v _ _ told next) removed) in
      let by_names : Names (part_path folder h) (volume_path folder h) fill sum others = rw (← is_part, ← is_path) names in
      (_, rw (← is_part) story, kept begun fill sum acts others is_gone fills by_names)
