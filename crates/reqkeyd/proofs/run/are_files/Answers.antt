use Rattle.std.proofs.Common.{rules, ◌∙◌, ◌<◌, length, string_bytes}
use Rattle.reqkeyd.proofs.Words.{files_in}
use Rattle.reqkeyd.proofs.run.are_files.Goals as goal

pub returns-then-not-is_empty : goal.returns-then-not-is_empty
returns-then-not-is_empty c =
    let there : 0 < length c.args.words.now = search rules in
    c.all_files.ensures ∙ files_in string_bytes c.args.words.now there
