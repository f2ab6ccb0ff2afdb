use Rattle.std.proofs.Common.{◌≢◌, length, rules}
use Rattle.rk_client.proofs.Arguments.{no_request}
use Rattle.rk_client.proofs.asking.request.Goals as goal

pub returns-in_err-typ-2 : goal.returns-in_err-typ-2
returns-in_err-typ-2 c =
    let three : length c.args.arguments.now ≢ 3 = c.in_err-typ-2.ensures.1 in
    let four : length c.args.arguments.now ≢ 4 = search rules in
    let none = no_request (λ s. s.now) c.args.arguments.now three four in
    search (rules, none)
