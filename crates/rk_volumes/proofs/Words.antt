-- The words in which the lemmas speak: of std, of the libraries below, and of the definitions. A lemma file names those that it needs.
pub use Rattle.sha2.proofs.Facts256.{length-sha256}
pub use Rattle.sha2.specs.Hashers.{Holds256}
pub use Rattle.sha2.specs.Sha256.{sha256}
pub use Rattle.std.proofs.Common.{◌++◌, ap, ◌≡◌, ℕ, List, length, ◌∙◌, arith, sym, refl, ◌≢◌, ◌+◌, [], append_assoc, ◌<◌, ◌∷◌, Option, Some, None, take, ◌≤◌}
pub use Rattle.std.proofs.Common.{length-append, drop, subst, append-nil, ◌^◌, Bool, true, false, rules, inl, get_or, cond, eqb, ltb, ◌-◌, inr}
pub use Rattle.std.proofs.lemmas.List.{take-append-drop, length-take, append_cancel_left, take_more, take_at, drop_at, take_all}
pub use Rattle.std.proofs.lemmas.Result.{err_from_is_err_and}
pub use Rattle.std.specs.Int.{to_be_bytes, w32, w64, from_be_bytes}
pub use Rattle.std.specs.Io.KnownBytes.{Appends}
pub use Rattle.std.specs.List.{flat_map, AllByRecursion}
pub use Rattle.std.specs.Prelude.{Err, slice_index, MatchOption, pos, Result, Ok, OnOk, is_ok, if◌then◌else◌}
pub use Rattle.rk_frame.specs.Framing.{frame}
pub use Rattle.rk_names.specs.Numbers.{errno_number, errno_named, serial_of}
pub use Rattle.rk_names.specs.declared.errors.Errno.{Errno}
pub use Rattle.rk_names.specs.declared.numbers.SessionId.{SessionId}
pub use Rattle.rk_names.specs.declared.numbers.SessionId.TheVariants.{Client, Handler}
pub use Rattle.rk_message.proofs.Asks.{asks_are_told}
pub use Rattle.rk_message.specs.Ask.{Ask}
pub use Rattle.rk_message.specs.Asks.{IsAsk, ask_message}
pub use Rattle.rk_message.specs.Wire.{spelling}
pub use Rattle.rk_macro.specs.declared.subject.Op.{Op}
pub use Rattle.rk_macro.specs.declared.subject.Subject.{Subject}
pub use Rattle.rk_machine.specs.Event.{Event}
pub use Rattle.rk_machine.specs.declared.event.Answer.{Answer}
pub use Rattle.rk_machine.specs.declared.event.How.{How}
pub use Rattle.rk_machine.specs.declared.event.Ran.{Ran}
pub use Rattle.rk_machine.specs.declared.event.Ran.TheVariants.{Plain, Piped, Failed}
pub use Rattle.rk_record.specs.declared.recorded.Recorded.{Recorded}
pub use Rattle.rk_volumes.specs.Format.{title, head_bytes, IsHead, file_bytes, IsStored, HasNoStep, IsMissing, IsFaultOf, HaveOneReading}
unfoldable pub use Rattle.rk_volumes.specs.Format.{step_bytes}
pub use Rattle.rk_volumes.specs.Kinds.{session_kind, session_number, ran_kind, op_kind, how_kind, status_of, put_out}
pub use Rattle.rk_volumes.specs.Reading.{HasNoEvent, HasNoAnswer, NamesSession, NamesNone, IsNoEvent, IsNoAnswer}
pub use Rattle.rk_volumes.specs.Rows.{Row, row_bytes, event_row, answer_row, request_of, subject_bytes}
pub use Rattle.rk_volumes.specs.Rules.{IsStep, IsSerial, IsSession, IsWord, IsSubject, IsPutOut, IsEvent, IsAnswer}
pub use Rattle.rk_volumes.specs.Seals.{seal_bytes, sealed_title, IsSeal, summed, HasNoSum, BeginsSealed, mark}
pub use Rattle.rk_volumes.specs.declared.head.Head.{Head}
pub use Rattle.rk_volumes.specs.declared.seal.Seal.{Seal}
pub use Rattle.rk_volumes.specs.declared.seal.Sealed.{Sealed}
