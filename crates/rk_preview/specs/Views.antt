-- What a preview asks for.
use Rattle.rk_preview.specs.declared.preview.Preview.{Preview}
use Rattle.rk_preview.specs.declared.preview.Preview.TheVariants as preview
use Rattle.rk_preview.specs.Asked.{Asked, check, pick}

-- what a preview asks for, seen by its values
abbrev pub asked_by : Preview → Asked
asked_by (preview.Check path) = check path.now
asked_by (preview.Pick path subject) = pick path.now subject
