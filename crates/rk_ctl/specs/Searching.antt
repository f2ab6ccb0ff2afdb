-- How keys are looked for: each serial below that of the client's new session ring is described, in order, and what is dead may be unlinked.
use Rattle.std.specs.Prelude.{◌≡◌, ℕ, ◌+◌, ◌-◌, ◌*◌, ◌/◌, ℤ, pos, negsuc, Bool, true, false, not, List, [], ◌∷◌, ◌++◌, codes, decimal, Option, Result, Ok, Err, if◌then◌else◌}
use Rattle.rk_client.specs.declared.fault.PeerFault.{PeerFault}
use Rattle.rk_client.specs.Peer.{HasAsked, is_refusal}
use Rattle.rk_client.specs.Printed.{newline}
use Rattle.rk_message.specs.Ask.{Ask}
use Rattle.rk_message.specs.declared.ask.AskOf.TheVariants as ask
use Rattle.rk_message.specs.declared.reply.Reply.{Reply}
use Rattle.rk_message.specs.declared.reply.Reply.TheVariants as reply
use Rattle.rk_names.specs.declared.errors.Errno.{Errno}
use Rattle.rk_names.specs.declared.errors.Errno.TheVariants as errno
use Rattle.rk_ctl.specs.declared.search.Search.{Search}
use Rattle.rk_ctl.specs.declared.search.Search.TheVariants as search
use Rattle.rk_ctl.specs.declared.searching.Found.{Found}
use Rattle.rk_ctl.specs.declared.searching.Found.TheVariants as found

-- how many serials of its hall are below this one: a hall has each fourth
abbrev pub count_below : ℕ → ℕ
count_below newest = (newest - 1) / 4

-- the one of them at this place, the least first
abbrev pub serial_at : ℕ → ℕ → ℕ
serial_at newest n = newest - 4 * (count_below newest - n)

-- the line of a key: its serial, and what DESCRIBE is answered
abbrev pub line_of : ℕ → List ℕ → List ℕ
line_of serial described = decimal serial ++ codes " " ++ described ++ newline

-- the key, where DESCRIBE is answered by bytes
abbrev pub key_in : ℕ → Reply → List ℤ
key_in serial (reply.Bytes bytes) = pos serial ∷ []
key_in serial (reply.Number n) = []
key_in serial (reply.Rings t p s u) = []
key_in serial (reply.Refused e) = []

-- its line
abbrev pub line_in : ℕ → Reply → List ℕ
line_in serial (reply.Bytes bytes) = line_of serial bytes
line_in serial (reply.Number n) = []
line_in serial (reply.Rings t p s u) = []
line_in serial (reply.Refused e) = []

-- a serial was described: what was written, what was left to read, the keys and their lines, before and after
pub data HasSeen (written written' unread unread' : Option (List ℕ)) (serial : ℕ) (keys keys' : List ℤ) (text text' : List ℕ) : Type 0 where
  seen : (answer : Reply) → HasAsked written written' unread unread' (ask.Describe (pos serial)) answer → keys' ≡ keys ++ key_in serial answer
      → text' ≡ text ++ line_in serial answer → HasSeen written written' unread unread' serial keys keys' text text'

-- so many serials were described, the least first, and these are the keys that were answered, and their lines
pub data HasDescribed (newest : ℕ) (written unread : Option (List ℕ)) : ℕ → Option (List ℕ) → Option (List ℕ) → List ℤ → List ℕ → Type 0 where
  started : HasDescribed newest written unread 0 written unread [] []
  further : (n : ℕ) (w w' u u' : Option (List ℕ)) (keys keys' : List ℤ) (text text' : List ℕ) → HasDescribed newest written unread n w u keys text
      → HasSeen w w' u u' (serial_at newest n) keys keys' text text' → HasDescribed newest written unread (n + 1) w' u' keys' text'

-- a reply to READ of a key that is negative, has expired or was revoked
abbrev pub is_dead : Reply → Bool
is_dead (reply.Refused errno.Enokey) = true
is_dead (reply.Refused errno.Ekeyexpired) = true
is_dead (reply.Refused errno.Ekeyrevoked) = true
is_dead (reply.Refused errno.Ekeyrejected) = true
is_dead _ = false

-- a key was tried: one that is dead is taken out of the user ring, and whether it was in there
pub data HasTried (written written' unread unread' : Option (List ℕ)) (key : ℤ) : Bool → Type 0 where
  alive : (read : Reply) → HasAsked written written' unread unread' (ask.Read key) read → is_dead read ≡ false
      → HasTried written written' unread unread' key false
  dead : (read unlinked : Reply) (w u : Option (List ℕ)) → HasAsked written w unread u (ask.Read key) read → is_dead read ≡ true
      → HasAsked w written' u unread' (ask.Unlink key (negsuc 3)) unlinked → HasTried written written' unread unread' key (not (is_refusal unlinked))

-- one more, where it was
abbrev pub counted : ℕ → Bool → ℕ
counted n swept = if swept then (n + 1) else n

-- the keys were tried, the first first, and so many were taken out
pub data HasSwept (written unread : Option (List ℕ)) : List ℤ → Option (List ℕ) → Option (List ℕ) → ℕ → Type 0 where
  began : HasSwept written unread [] written unread 0
  onward : (keys : List ℤ) (key : ℤ) (w w' u u' : Option (List ℕ)) (count : ℕ) (swept : Bool) → HasSwept written unread keys w u count
      → HasTried w w' u u' key swept → HasSwept written unread (keys ++ key ∷ []) w' u' (counted count swept)

-- what is printed of the keys: their lines; or, if they are swept, how many were taken out
pub data HasEnded (written written' unread unread' : Option (List ℕ)) (keys : List ℤ) (lines text : List ℕ) : Search → Type 0 where
  listed : written' ≡ written → unread' ≡ unread → text ≡ lines → HasEnded written written' unread unread' keys lines text search.List
  swept : (count : ℕ) → HasSwept written unread keys written' unread' count → text ≡ decimal count ++ newline
      → HasEnded written written' unread unread' keys lines text search.Sweep

-- what was found, as a refusal or as a text
pub data FoundSaid : Type 0 where
  Turned : Errno → FoundSaid
  Told : List ℕ → FoundSaid

-- what a search has found, seen by its text
abbrev pub said_of : Found → FoundSaid
said_of (found.Refused e) = Turned e
said_of (found.Text text) = Told text.items

-- the same, or why there is no answer
abbrev pub answer_said : Result Found PeerFault → Result FoundSaid PeerFault
answer_said (Ok f) = Ok (said_of f)
answer_said (Err e) = Err e

-- the greeting was refused; or its session ring tells the newest serial, those below it are described, and the keys are listed or swept
pub data HasSearched (written written' unread unread' : Option (List ℕ)) (greeting : Ask) (search : Search) : FoundSaid → Type 0 where
  refused : (e : Errno) → HasAsked written written' unread unread' greeting (reply.Refused e)
      → HasSearched written written' unread unread' greeting search (Turned e)
  searched : (w w' u u' : Option (List ℕ)) (thread process session user : ℕ) (keys : List ℤ) (lines text : List ℕ)
      → HasAsked written w unread u greeting (reply.Rings thread process session user)
      → HasDescribed session w u (count_below session) w' u' keys lines → HasEnded w' written' u' unread' keys lines text search
      → HasSearched written written' unread unread' greeting search (Told text)
