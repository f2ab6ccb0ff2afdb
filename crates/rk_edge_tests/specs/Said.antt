-- What was kept, as what was said to a daemon.
use Rattle.std.specs.Prelude.{string_bytes}
use Rattle.rk_ctl.specs.Addresses.{AddressSaid}
use Rattle.rk_ctl.specs.Daemon.{Talk, Asked, Searched}
use Rattle.rk_ctl.specs.Searching.{answer_said}
use Rattle.rk_edge_tests.specs.declared.said.Socket.{Socket}
use Rattle.rk_edge_tests.specs.declared.said.ToDaemon.{ToDaemon}
use Rattle.rk_edge_tests.specs.declared.said.ToDaemon.TheVariants as said

-- where the daemon is
abbrev pub socket_kept : Socket → AddressSaid
socket_kept s = record { path = string_bytes s.path; seconds = s.seconds }

-- to the daemon at a socket
abbrev pub to_daemon : ToDaemon → Talk
to_daemon (said.Asked socket greeting ask answer) = Asked (record { address = socket_kept socket; greeting = greeting; ask = ask; answer = answer })
to_daemon (said.Searched socket greeting search answer) = Searched (socket_kept socket) greeting search (answer_said answer)
