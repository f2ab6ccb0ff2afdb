-- The words in which the lemmas speak: of std, of the libraries below, and of the definitions. A lemma file names those that it needs.
pub use Rattle.std.proofs.Common.{◌≡◌, ◌++◌, ◌+◌, Some, None, ap, length, ℕ, List, [], map, sym, ◌∙◌, arith, take, ◌∷◌, Option, refl, ◌<◌, append_assoc, false}
pub use Rattle.std.proofs.Common.{◌^◌, subst, ◌≤◌, IfSome, length-append, suc, true, not, ◌≢◌, Bool, Result, Ok, Err, rules}
pub use Rattle.std.proofs.lemmas.List.{append-nil}
pub use Rattle.std.proofs.lemmas.List.Elements.{filter_map-append}
pub use Rattle.std.specs.Io.KnownBytes.{Consumes}
pub use Rattle.std.specs.List.{flat_map, filter_map, list_all, prefix_len}
pub use Rattle.std.specs.Prelude.{string_bytes, MatchOption, OnOk, codes}
pub use Rattle.rk_text.specs.Text.{lines_of}
pub use Rattle.rk_conf.specs.declared.fault.ConfKind.TheVariants.{NoMemory}
pub use Rattle.rk_conf.specs.declared.line.Line.{Line}
pub use Rattle.rk_machine.specs.Steps.{Beginning, Past}
pub use Rattle.rk_served.proofs.ServedLaws.{served_push, served_is_run}
pub use Rattle.rk_served.specs.Left.{nothing, Left}
pub use Rattle.rk_served.specs.Order.{ServedInOrder, ServesTurnInOrder}
pub use Rattle.rk_served.specs.Served.{Turn, Served}
pub use Rattle.rk_served.specs.declared.happening.Happening.{Happening}
pub use Rattle.rk_served.specs.declared.output.Output.{Output}
pub use Rattle.rk_replay.specs.Playing.{readings_left, readings_from, bytes_left, Plays, PlaysAll, bytes_from, IsHead, PlaysBody}
pub use Rattle.rk_replay.specs.Reading.{reading_of}
pub use Rattle.rk_replay.specs.Script.{said_late, happenings_of, happens, conf_in, seconds_in, happening_in, conf_by, before_all, said_by, said_in, last_of}
pub use Rattle.rk_replay.specs.Script.{conf_of, beginning_of}
pub use Rattle.rk_replay.specs.Settings.{configured, Sets}
pub use Rattle.rk_replay.specs.Writing.{fault_line, line_text, conf_line, output_line, kind_text, word_text, byte_text}
pub use Rattle.rk_replay.specs.Written.{text_from, outputs_in, turn_text, moment_of, IsWritten, IsRefused}
pub use Rattle.rk_replay.specs.declared.playing.First.{First}
pub use Rattle.rk_replay.specs.declared.script_line.ScriptLine.{ScriptLine}
pub use Rattle.rk_replay.specs.declared.script_line.ScriptLine.TheVariants.{Happens, Wrong, Blank, Conf, Negative}
pub use Rattle.rk_replay.specs.declared.transcript.LineFault.TheVariants.{NotALine}
