-- The words in which the lemmas speak: of std, of the libraries below, and of the definitions. A lemma file names those that it needs.
pub use Rattle.std.proofs.Common.{◌≡◌, ap, refl, ℕ, sym, List, ◌∙◌, arith, true, false, Bool, ◌∷◌, Option, Some, None, Ok, Err, subst, length, [], cond, Result}
pub use Rattle.std.proofs.Common.{suc, ◌<◌, eqb, inl, inr, ltb, ◌++◌, zero, ◌^◌, ◌≤◌, append_assoc, ℤ, take, drop, ◌+◌, get_or, ◌↔◌, rules, eq-eqb, lit<, ◌-◌, Fits}
pub use Rattle.std.proofs.lemmas.Bool.{eqb-true, ltb-false, cases_lt, le-ltb, ltb-true}
pub use Rattle.std.proofs.lemmas.List.{take_at, drop_at, take-append-drop, take_rest, length-append, length-take, append-nil, length-map, nil_from_length, get_or-drop}
pub use Rattle.std.proofs.lemmas.List.{get_or-take, get_or_past}
pub use Rattle.std.proofs.lemmas.List.Concat.{flat_map-cons}
pub use Rattle.std.specs.Int.{w8, w32, w16, to_be_bytes, cast_signed, cast_unsigned, Width, byte_len, from_be_bytes}
pub use Rattle.std.specs.List.{flat_map}
pub use Rattle.std.specs.Prelude.{◌==◌, ◌⊎◌, unwrap_or, IfOk, if◌then◌else◌, MatchOption, IsSomeAnd, MatchResult, ◌||◌, pos, IsTrue, map, find, option_map}
pub use Rattle.std.specs.Prelude.{FitsSigned, is_some, ◌&&◌}
pub use Rattle.rk_names.specs.Numbers.{key_error_named, errno_number, errno_named}
pub use Rattle.rk_names.specs.declared.errors.Errno.{Errno}
pub use Rattle.rk_names.specs.declared.errors.KeyError.{KeyError}
pub use Rattle.rk_message.specs.Ask.{Ask}
pub use Rattle.rk_message.specs.Asks.{ask_message, IsAsk, flag_bits, error_number, JoinsASerial, ReadsAsk, ask_values}
pub use Rattle.rk_message.specs.Leftmost.{IsFaultOf, IsLeftmost}
pub use Rattle.rk_message.specs.Reading.{◌>>=◌, Reads, message_with, number_at, Gives, unless}
unfoldable pub use Rattle.rk_message.specs.Reading.{message_at, value_at, values_at, all_values, message_behind, block_at, checked_at}
pub use Rattle.rk_message.specs.Replies.{reply_message, IsReply}
pub use Rattle.rk_message.specs.Table.{asks, replies, op_byte, refusal, type_rule, description_rule, callout_rule, payload_rule, reply_rule, ops, ask_line}
pub use Rattle.rk_message.specs.Table.{ask_fields, form, line_of}
pub use Rattle.rk_message.specs.Wire.{Message, Value, spelling, U8, U32, Kind, Fields, kinds_of, I32, Blob, Maybe, IsMessage, IsValue, Byte, Word, Signed}
pub use Rattle.rk_message.specs.Wire.{Block, Optional, IsBlock, AreValues, block}
unfoldable pub use Rattle.rk_message.specs.Wire.{spelled}
pub use Rattle.rk_message.specs.declared.fault.Fault.{Fault}
pub use Rattle.rk_message.specs.declared.fault.Fault.TheVariants.{Short, Trailing, UnknownOp, Bad}
pub use Rattle.rk_message.specs.declared.fault.ReadError.{ReadError}
pub use Rattle.rk_message.specs.declared.fault.ReadError.TheVariants.{NoMemory, Fault as Fault-error}
pub use Rattle.rk_message.specs.declared.reply.Reply.{Reply}
pub use Rattle.rk_message.specs.declared.shape.Op.{Op}
