use Rattle.std.proofs.Common.{◌≡◌, refl, ap, ◌∙◌, rules}
use Rattle.std.specs.Prelude.{None, Ok}
use Rattle.rk_macro.specs.Lookup.{payload_shown}
use Rattle.rk_macro.proofs.Lookups.{words_of_calls, fails_of_calls}
use Rattle.rk_preview.specs.Told.{finds_none}
use Rattle.rk_preview.proofs.telling.of_line.Goals as goal

pub returns-in-Ok-told-clause-told : goal.returns-in-Ok-told-clause-told
returns-in-Ok-told-clause-told c = (
  c.in-Ok.command.words,
  words_of_calls _ finds_none _ _ _ c.in-Ok.ensures.words (λ wanted r h. (let none : r ≡ Ok None = search rules in ap payload_shown none)),
  c.in-Ok-told.ensures ∙ rw (c.in-Ok.ensures.path, c.in-Ok.ensures.piped) refl,
)

pub returns-clause-refused : goal.returns-clause-refused
returns-clause-refused c =
    (refl, fails_of_calls _ finds_none _ _ _ c.in-Err.ensures.err (λ wanted r h. (let none : r ≡ Ok None = search rules in ap payload_shown none)))
