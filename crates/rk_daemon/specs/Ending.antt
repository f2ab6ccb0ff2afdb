-- How a handler has ended, as a line of the log.
use Rattle.std.specs.Prelude.{ℕ, Bool, ◌&&◌, not, ◌==◌, if◌then◌else◌}
use Rattle.std.specs.Prelude.{ℤ, pos, negsuc, List, [], ◌++◌, codes, decimal, Option, Some, None, option_map}
use Rattle.log.specs.declared.level.Level.{Level}
use Rattle.log.specs.declared.level.Level.TheVariants as level
use Rattle.rk_conf.specs.declared.line.Line.{Line}
use Rattle.rk_devices.specs.declared.driven.Driven.{Driven}
use Rattle.rk_devices.specs.declared.driven.Driven.TheVariants as driven
use Rattle.rk_devices.specs.declared.output.OutputFault.TheVariants as output
use Rattle.rk_machine.specs.declared.event.How.TheVariants as how
use Rattle.rk_macro.specs.declared.fault.ExpandFault.{ExpandFault}
use Rattle.rk_macro.specs.declared.fault.ExpandFault.TheVariants as fault
use Rattle.rk_macro.specs.declared.subject.Subject.{Subject}
use Rattle.rk_daemon.specs.declared.ending.End.{End}
use Rattle.rk_daemon.specs.Purpose.{purpose_text}

-- a number that is not below 0
abbrev pub natural : ℤ → Option ℕ
natural (pos n) = Some n
natural (negsuc n) = None

-- what the handler was started for, and by which line, if that is still known
abbrev pub subject_text : Option Subject → Option Line → List ℕ
subject_text None line = []
subject_text (Some s) line = purpose_text s line

-- why the words of a command can't be made
abbrev pub words_text : ExpandFault → List ℕ
words_text fault.NoKey = codes "X1: an argument %{..} is the payload of a key that the requester doesn't find"
words_text fault.NotText = codes "X2: a payload is no text"
words_text fault.TooLong = codes "X3: the words are more than 65536 bytes"
words_text fault.NoMemory = codes "X4: no memory"

-- the name and meaning of an error number, of those that a start may have: errno(3)
abbrev pub errno_text : ℕ → Option (List ℕ)
errno_text n = if n == 1 then Some (codes "EPERM, operation not permitted")
    else (if n == 2 then Some (codes "ENOENT, no such file or directory")
    else (if n == 5 then Some (codes "EIO, input/output error")
    else (if n == 7 then Some (codes "E2BIG, argument list too long")
    else (if n == 8 then Some (codes "ENOEXEC, exec format error")
    else (if n == 11 then Some (codes "EAGAIN, no process can be made now")
    else (if n == 12 then Some (codes "ENOMEM, out of memory")
    else (if n == 13 then Some (codes "EACCES, permission denied")
    else (if n == 20 then Some (codes "ENOTDIR, not a directory")
    else (if n == 21 then Some (codes "EISDIR, is a directory")
    else (if n == 23 then Some (codes "ENFILE, too many open files in system")
    else (if n == 24 then Some (codes "EMFILE, too many open files")
    else (if n == 26 then Some (codes "ETXTBSY, text file busy")
    else (if n == 36 then Some (codes "ENAMETOOLONG, file name too long")
    else (if n == 40 then Some (codes "ELOOP, too many levels of symbolic links") else None))))))))))))))

-- that a start failed with this error number, and its name and meaning, if those are known
abbrev pub named_text : ℕ → Option (List ℕ) → List ℕ
named_text n None = codes "start failed: error " ++ decimal n
named_text n (Some text) = codes "start failed: " ++ text

-- that a start failed, with its error number, if there is one
abbrev pub error_text : Option ℕ → List ℕ
error_text None = codes "start failed"
error_text (Some n) = named_text n (errno_text n)

-- how it has ended, and where it has exited with 0, that the key was not made, if it was not
abbrev pub how_text : Driven → Bool → Option ℕ → List ℕ
how_text (driven.Ended (how.Exit status)) made error =
    if status == 0 && not made then codes "exit status 0, and the key was not made" else codes "exit status " ++ decimal status
how_text (driven.Ended how.Signal) made error = codes "killed by a signal"
how_text (driven.Ended how.Fault) made error = codes "it could not be read or waited for"
how_text (driven.NoPayload output.Empty) made error = codes "exit status 0, and no payload (0 bytes)"
how_text (driven.NoPayload output.TooLong) made error = codes "exit status 0, and no payload (more than 32767 bytes)"
how_text driven.NotStarted made error = codes "no line fits"
how_text (driven.NotMade fault) made error = words_text fault
how_text driven.NoMemory made error = codes "no memory for its start"
how_text driven.StartFailed made error = error_text error
how_text driven.ReadFailed made error = codes "its output could not be read"
how_text driven.WaitFailed made error = codes "the system does not say how it ended"

-- that its output was no request, if it was none
abbrev pub output_text : Bool → List ℕ
output_text malformed = if malformed then codes "; its output is no request" else []

-- the whole line
abbrev pub end_text : End → List ℕ
end_text e = codes "handler of key " ++ decimal e.key ++ subject_text (option_map (λ s. s.now) e.subject) (option_map (λ l. l.now) e.line)
    ++ codes ": " ++ how_text e.driven e.made e.error ++ output_text e.malformed

-- how important it is: a handler that has exited with 0 and made its key is what is to be
abbrev pub level_of : Driven → Bool → Level
level_of (driven.Ended (how.Exit status)) made = if status == 0 && made then level.Debug else level.Warn
level_of driven.NotStarted made = level.Info
level_of _ made = level.Warn
