-- The rules of names and payloads, each as the first fault of the bytes.
use Rattle.std.specs.Prelude.{◌≡◌, ℕ, List, length, Option, Some, None, slice_index, nat_lt, ◌==◌, if◌then◌else◌}
use Rattle.rk_text.specs.Text.{is_text}
use Rattle.rk_names.specs.declared.errors.NameFault.{NameFault}
use Rattle.rk_names.specs.declared.errors.NameFault.TheVariants.{Empty, TooLong, Dot, Byte, NoMemory}

-- bytes that are invalid text (text is UTF-8 without a zero byte) are refused for a byte
abbrev pub text_fault : List ℕ → Option NameFault
text_fault bytes = if is_text bytes then None else Some Byte

-- a type has 1 to 31 bytes of text, the first no dot: add_key(2)
abbrev pub type_fault : List ℕ → Option NameFault
type_fault bytes =
    if length bytes == 0 then Some Empty
    else (if nat_lt 31 (length bytes) then Some TooLong
    else (if slice_index bytes 0 == 46 then Some Dot else text_fault bytes))

-- a description has 1 to 4,095 bytes of text: add_key(2)
abbrev pub description_fault : List ℕ → Option NameFault
description_fault bytes =
    if length bytes == 0 then Some Empty
    else (if nat_lt 4095 (length bytes) then Some TooLong else text_fault bytes)

-- a callout has 0 to 4,095 bytes of text: request_key(2)
abbrev pub callout_fault : List ℕ → Option NameFault
callout_fault bytes = if nat_lt 4095 (length bytes) then Some TooLong else text_fault bytes

-- a payload has 1 to 32,767 bytes: the type `user` of add_key(2)
abbrev pub payload_fault : List ℕ → Option NameFault
payload_fault bytes = if length bytes == 0 then Some Empty else (if nat_lt 32767 (length bytes) then Some TooLong else None)

-- the refusal is the rule's fault; out of memory is answered only if there is none
abbrev pub IsRefusedFor : NameFault → Option NameFault → Type 0
IsRefusedFor NoMemory fault = fault ≡ None
IsRefusedFor Empty fault = fault ≡ Some Empty
IsRefusedFor TooLong fault = fault ≡ Some TooLong
IsRefusedFor Dot fault = fault ≡ Some Dot
IsRefusedFor Byte fault = fault ≡ Some Byte
