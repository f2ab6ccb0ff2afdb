-- What was kept, as what was done.
use Rattle.std.specs.Prelude.{ℕ, Bool, true, false, [], List, Option, None, Some, string_bytes}
use Rattle.rk_daemon.specs.Binding as binding
use Rattle.rk_daemon.specs.Door as door
use Rattle.rk_daemon.specs.Folder as folder
use Rattle.rk_daemon.specs.Line as line
use Rattle.rk_daemon.specs.Place as place
use Rattle.rk_daemon.specs.Post as post
use Rattle.rk_daemon.specs.Streams as streams
use Rattle.rk_run.specs.Seen.{seen_in}
use Rattle.rk_run.specs.Story as story
use Rattle.rk_variables.specs.Starts.{start_of}
use Rattle.rk_rejoin.specs.Disk as disk
use Rattle.rk_edge_tests.specs.declared.done.AtPath.{AtPath}
use Rattle.rk_edge_tests.specs.declared.done.AtPath.TheVariants as at
use Rattle.rk_edge_tests.specs.declared.done.AtDoor.{AtDoor}
use Rattle.rk_edge_tests.specs.declared.done.AtDoor.TheVariants as opening
use Rattle.rk_edge_tests.specs.declared.done.AtPost.{AtPost}
use Rattle.rk_edge_tests.specs.declared.done.AtPost.TheVariants as looking
use Rattle.rk_edge_tests.specs.declared.done.InFolder.{InFolder}
use Rattle.rk_edge_tests.specs.declared.done.InFolder.TheVariants as within
use Rattle.rk_edge_tests.specs.declared.done.InPlace.{InPlace}
use Rattle.rk_edge_tests.specs.declared.done.InPlace.TheVariants as places
use Rattle.rk_edge_tests.specs.declared.done.OnLine.{OnLine}
use Rattle.rk_edge_tests.specs.declared.done.OnLine.TheVariants as on
use Rattle.rk_edge_tests.specs.declared.done.OfRun.{OfRun}
use Rattle.rk_edge_tests.specs.declared.done.OfRun.TheVariants as running
use Rattle.rk_edge_tests.specs.declared.done.OfVolume.{OfVolume}
use Rattle.rk_edge_tests.specs.declared.done.OfVolume.TheVariants as volume
use Rattle.rk_edge_tests.specs.declared.done.FromDisk.{FromDisk}

-- at the path of a socket
abbrev pub at_path : AtPath → place.Act
at_path (at.Bound path failed) = place.Bound (string_bytes path) failed
at_path (at.Permitted path mode is_done) = place.Permitted (string_bytes path) mode is_done
at_path (at.Listened is_done) = place.Listened is_done
at_path (at.Probed path found) = place.Probed (string_bytes path) found
at_path (at.Identified path found) = place.Identified (string_bytes path) found
at_path (at.Removed path is_done) = place.Removed (string_bytes path) is_done

-- what a new file has
abbrev pub nothing_if : Bool → Option (Option (List ℕ))
nothing_if true = Some (Some [])
nothing_if false = None

-- in a folder, where a new file is empty
abbrev pub in_folder : InFolder → folder.Act
in_folder (within.Created path is_done) = folder.Created (string_bytes path) (nothing_if is_done)
in_folder (within.Flushed bytes is_done) = folder.Flushed (Some bytes.items) is_done
in_folder (within.Linked from to is_done) = folder.Linked (string_bytes from) (string_bytes to) is_done
in_folder (within.Removed path is_done) = folder.Removed (string_bytes path) is_done

-- at a door
abbrev pub at_door : AtDoor → door.Act
at_door (opening.Watched is_over) = door.Watched is_over
at_door (opening.Accepted is_done) = door.Accepted is_done
at_door opening.Paused = door.Paused
at_door (opening.HandedOut number is_taken) = door.HandedOut number is_taken

-- each second
abbrev pub at_post : AtPost → post.Act
at_post (looking.Looked second) = post.Looked second
at_post (looking.LeftOut minute) = post.ToldLeftOut minute
at_post (looking.Slow now seconds) = post.ToldSlow now seconds
at_post (looking.Clients found) = post.FoundClients found
at_post (looking.Handlers now found) = post.FoundHandlers now found
at_post (looking.Counted hall counts) = post.Counted hall counts
at_post (looking.Volumes count) = post.FoundVolumes count
at_post (looking.Told figures) = post.Told figures

-- on the line to a client
abbrev pub on_line : OnLine → line.Act
on_line (on.Read came) = line.HasRead came
on_line (on.Written bytes came) = line.HasWritten bytes.items came
on_line (on.Looked second) = line.Looked second

-- in the places of the standard streams
abbrev pub in_place : InPlace → streams.Act
in_place (places.Looked stream is_closed) = streams.Looked stream is_closed
in_place (places.Opened is_done) = streams.Opened is_done

-- with the volumes of a hall
abbrev pub of_volume : OfVolume → binding.Act
of_volume (volume.Awaited index sum) = binding.Awaited index sum
of_volume (volume.Written seal head sum) = binding.Written seal head sum
of_volume (volume.Settled index sum) = binding.Settled index sum

-- of a run
abbrev pub of_run : OfRun → story.Event
of_run (running.Looked here) = story.Looked (seen_in here)
of_run (running.Sought path is_there) = story.Sought (string_bytes path) is_there
of_run (running.Greeted path ask answer) = story.Greeted (string_bytes path) ask answer
of_run (running.Started command outcome) = story.Started (start_of command) outcome
of_run (running.Waited status) = story.Waited status
of_run running.Closed = story.Closed

-- from a disk
abbrev pub from_disk : FromDisk → disk.Reading
from_disk read = record { path = string_bytes read.path; outcome = disk.bytes_of read.outcome }
