use Rattle.rk_replay.proofs.Words.{◌≡◌, ◌≢◌, NoMemory}
use Rattle.rk_replay.specs.declared.fault.ScriptFault.TheVariants as fault
use Rattle.rk_replay.proofs.Scripts.{written, refused}
use Rattle.rk_replay.proofs.playing.play.Goals as goal

pub returns-in-Ok-play_body-clause-written : goal.returns-in-Ok-play_body-clause-written
returns-in-Ok-play_body-clause-written c =
    written c.args.text.now c.in-Ok.head c.read_head.new.transcript c.in-Ok.ensures.head c.in-Ok-conf.conf c.play_body.new.transcript
    c.in-Ok-conf.ensures.ok c.in-Ok-conf.ensures.lines c.in-Ok-play_body.ensures

pub returns-clause-refused : goal.returns-clause-refused
returns-clause-refused c e =
    let conf : c.refuse.result ≡ fault.Conf = cc in
    let other : c.in-Err.fault.kind ≢ NoMemory = λ memory. (let none = c.refuse.ensures.memory memory in absurd (cc)) in
    refused c.args.text.now c.in-Ok.head c.read_head.new.transcript c.in-Ok.ensures.head c.in-Err.fault c.refuse.new.transcript c.in-Err.ensures.err other
    (c.refuse.ensures.conf conf)
