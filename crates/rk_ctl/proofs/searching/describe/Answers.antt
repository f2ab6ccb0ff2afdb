use Rattle.std.proofs.Common.{◌≡◌, pos, to_z, w32}
use Rattle.std.proofs.lemmas.Int.{to_z_pos}
use Rattle.rk_ctl.specs.Searching.{seen}
use Rattle.rk_ctl.proofs.searching.describe.Goals as goal

pub returns : goal.returns
returns g c =
    let same : to_z w32 c.args.serial ≡ pos c.args.serial = to_z_pos w32 c.args.serial c.requires in
    seen c.in_ok-answer.answer (rw same at c.in_ok-answer.ensures.asked) c.in_ok-note.ensures.keys c.in_ok-note.ensures.text
