use Rattle.rk_replay.proofs.transcript.put_output.Goals as goal

pub returns-in-ShutHandler : goal.returns-in-ShutHandler
returns-in-ShutHandler c = rw (c.in-ShutHandler.is, ← c.get-in-ShutHandler.ensures.number) c.put_shut-in-ShutHandler.ensures
