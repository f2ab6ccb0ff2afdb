use Rattle.rk_edge_tests.proofs.daemons.carried_out.Goals as goal

pub returns-clause-done : goal.returns-clause-done
returns-clause-done g c = rw (c.new-daemon.ensures, c.new.ensures.items, c.new-2.ensures.items) at c.run_words-status.ensures.done

pub returns-clause-spoke : goal.returns-clause-spoke
returns-clause-spoke g c = rw c.new-daemon.ensures at c.run_words-status.ensures.spoke
