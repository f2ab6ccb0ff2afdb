-- The words of a script line that say what happens.
use Rattle.std.specs.Prelude.{ℕ, List, codes, Option, Some, None, if◌then◌else◌}
use Rattle.std.specs.Str.{bytes_eq}
use Rattle.rk_replay.specs.declared.verb.Verb.{Verb}
use Rattle.rk_replay.specs.declared.verb.Verb.TheVariants as verb

-- the verb of a word
abbrev pub verb_of : List ℕ → Option Verb
verb_of word =
    if bytes_eq word (codes "accept") then Some verb.Accept
    else (if bytes_eq word (codes "bytes") then Some verb.Bytes
    else (if bytes_eq word (codes "gone") then Some verb.Gone
    else (if bytes_eq word (codes "started") then Some verb.Started
    else (if bytes_eq word (codes "unstarted") then Some verb.Unstarted
    else (if bytes_eq word (codes "out") then Some verb.Out
    else (if bytes_eq word (codes "outfault") then Some verb.OutFault
    else (if bytes_eq word (codes "ended") then Some verb.Ended
    else (if bytes_eq word (codes "waitfault") then Some verb.WaitFault
    else None))))))))
