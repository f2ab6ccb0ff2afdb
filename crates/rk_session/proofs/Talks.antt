-- A talk, message by message.
use Rattle.rk_session.proofs.Words.{◌≡◌, ◌≢◌, inl, inr, ℕ, ◌<◌, ◌≤◌, ◌+◌, List, [], ◌∷◌, ◌++◌, length, refl, sym, ap, ◌∙◌, subst, arith, Option, Some, Ok, Err}
use Rattle.rk_session.proofs.Words.{Bool, true, false, take, nat_lt, if◌then◌else◌, nat_tests, length-take-le, SessionId, TakesBody, IsPartial, HasFault}
use Rattle.rk_session.proofs.Words.{Unread, SeatShown, reply_bytes, most, raised, raised_by, and_then, takes_fewer, Happened, Heard, WireShown, Served, Ended}
use Rattle.rk_session.proofs.Words.{NotOpened, ReadFault, WriteFault, Malformed, TurnsUsed, Behind, Says, Standing, at_first, standing_of, Begun, Ends, Turn}
use Rattle.rk_session.proofs.Words.{Talking, begins, hears, turns, told_in, Talked, EndsHere, GoesOn, Hears, IsEndInTurns, Parts, TakesAll, TakesOne, TurnEnds}
use Rattle.rk_session.proofs.Sendings.{IsToPart}

-- what a wire tells, with more
story_then : (story : Option (List Happened)) (s more : List Happened) → story ≡ Some s → and_then story more ≡ Some (s ++ more)
story_then story s more is = ap (λ x. and_then x more) is

-- where nothing happened and nothing was taken
pub goes_nowhere : (session : SessionId) (old new : WireShown) (held held' : List ℕ) (from to : Standing) → new ≡ old → held' ≡ held → to ≡ from
    → GoesOn session old held from new held' to
goes_nowhere session old new held held' from to same kept stayed begun story is t = (
  story,
  ap (λ (w : WireShown). w.story) same ∙ is,
  subst (Talking session begun story held') (sym stayed) (subst (λ h. Talking session begun story h from) (sym kept) t),
)

-- one after the other
pub goes_then : (session : SessionId) (a b c : WireShown) (x y z : List ℕ) (p q r : Standing) → GoesOn session a x p b y q → GoesOn session b y q c z r
    → GoesOn session a x p c z r
goes_then session a b c x y z p q r f g begun story is t = let one = f begun story is t in g begun one.0 one.1 one.2

-- and then the end
pub ends_then : (session : SessionId) (served : Served) (a b c : WireShown) (x y : List ℕ) (p q last : Standing) → GoesOn session a x p b y q
    → EndsHere session served b y q c last → EndsHere session served a x p c last
ends_then session served a b c x y p q last f g begun story is t = let one = f begun story is t in g begun one.0 one.1 one.2

-- one message more, with its reply
pub turn_goes : (session : SessionId) (body : List ℕ) (old new : WireShown) (held held' : List ℕ) (from to : Standing) → TakesBody body held held'
    → TurnEnds session from body to (Ok tt) old new → GoesOn session old held from new held' to
turn_goes session body old new held held' from to takes (s, says, (note, r, tells, is)) begun story told t =
    let one : Turn = record { body = body; note = note; reply = r } in (
      story ++ told_in note (reply_bytes r),
      is ∙ story_then old.story story (told_in note (reply_bytes r)) told,
      turns session begun story held' one from to (subst (λ h. Talking session begun story h from) takes.front t) (takes.is_body, s, says, tells),
    )

-- the end at a message
pub turn_ends : (session : SessionId) (body : List ℕ) (served : Served) (old new : WireShown) (held held' : List ℕ) (from to : Standing)
    → TakesBody body held held' → TurnEnds session from body to (Err served) old new
    → IsEndInTurns served new × EndsHere session served old held from new to
turn_ends session body WriteFault old new held held' from to takes (s, says, (note, r, first, others, tells, parts, cut, is)) = (
  cut,
  λ begun story told t.
      let one : Turn = record { body = body; note = note; reply = r } in (
        story ++ told_in note first,
        is ∙ story_then old.story story (told_in note first) told,
        inl (
          story,
          one,
          from,
          held',
          first,
          others,
          subst (λ h. Talking session begun story h from) takes.front t,
          (takes.is_body, s, says, tells),
          parts,
          refl,
        ),
      ),
)
turn_ends session body Behind old new held held' from to takes (s, says, (none, is)) = (
  tt,
  λ begun story told t. (
    story,
    is ∙ told,
    (
      body,
      held',
      from,
      subst (λ h. Talking session begun story h from) takes.front t,
      takes.is_body,
      subst (λ x. Says session from body x to) none says,
    ),
  ),
)
turn_ends session body Ended old new held held' from to takes (s, says, none) = absurd none
turn_ends session body ReadFault old new held held' from to takes (s, says, none) = absurd none
turn_ends session body Malformed old new held held' from to takes (s, says, none) = absurd none
turn_ends session body TurnsUsed old new held held' from to takes (s, says, none) = absurd none
turn_ends session body NotOpened old new held held' from to takes (s, says, none) = absurd none

-- the end at a length that no frame has
pub malformed_ends : (session : SessionId) (old new : WireShown) (held : List ℕ) (from : Standing) → HasFault held → new ≡ old
    → IsEndInTurns Malformed new × EndsHere session Malformed old held from new from
malformed_ends session old new held from bad same =
    (tt, λ begun story told t. (story, ap (λ (w : WireShown). w.story) same ∙ told, (held, t, bad)))

-- what a session tells since it began, with this seat: how far it has come, what it holds, and how its client stands
abbrev pub Stands : SessionId → SeatShown → WireShown → WireShown → List ℕ → Standing → Type 0
Stands session seat begun now held standing = (first : List Happened) → begun.story ≡ Some first → (story : List Happened) × (now.story ≡ Some story) ×
    Talking session (record { story = first; seat = seat }) story held standing

-- a connection on which nothing happened is at the beginning of its talk
pub stands_first : (session : SessionId) (seat : SeatShown) (w : WireShown) → Stands session seat w w [] (standing_of at_first seat)
stands_first session seat w first is = (first, is, begins session (record { story = first; seat = seat }))

-- more bytes came
stands_heard : (session : SessionId) (seat : SeatShown) (begun old new : WireShown) (held held' piece : List ℕ) (standing : Standing)
    → Stands session seat begun old held standing → IsPartial held → piece ≢ [] → new.story ≡ and_then old.story (Heard piece ∷ []) → held' ≡ held ++ piece
    → Stands session seat begun new held' standing
stands_heard session seat begun old new held held' piece standing s none some is fed first begins_so =
    let one = s first begins_so in
    let start : Begun = record { story = first; seat = seat } in (
      one.0 ++ Heard piece ∷ [],
      is ∙ story_then old.story one.0 (Heard piece ∷ []) one.1,
      subst (λ h. Talking session start (one.0 ++ Heard piece ∷ []) h standing) (sym fed) (hears session start one.0 held piece standing one.2 none some),
    )

-- messages got their replies
pub stands_on : (session : SessionId) (seat : SeatShown) (begun old new : WireShown) (held held' : List ℕ) (from to : Standing)
    → Stands session seat begun old held from → GoesOn session old held from new held' to → Stands session seat begun new held' to
stands_on session seat begun old new held held' from to s goes first is =
    let one = s first is in goes (record { story = first; seat = seat }) one.0 one.1 one.2

-- some bytes of a buffer are not none
some_taken : (n size : ℕ) (buf : List ℕ) → n ≢ 0 → n ≤ size → length buf ≡ size → take n buf ≢ []
some_taken n size buf some le same none =
    let taken : length (take n buf) ≡ n = length-take-le n buf (subst (λ m. n ≤ m) (sym same) le) in
    some (sym taken ∙ ap length none)

-- a piece came
pub stands_read : (session : SessionId) (seat : SeatShown) (begun old mid : WireShown) (held held' buf : List ℕ) (standing : Standing) (n size : ℕ)
    → Stands session seat begun old held standing → IsPartial held → n ≤ size → length buf ≡ size → Hears (Ok n) buf old mid
    → held' ≡ held ++ take n buf → Stands session seat begun mid held' standing
stands_read session seat begun old mid held held' buf standing n size s none le same (some, whole, read) fed =
    stands_heard session seat begun old mid held held' (take n buf) standing s none (some_taken n size buf some le same)
    (ap (λ (w : WireShown). w.story) read) fed

-- the end after them
pub stands_ends : (session : SessionId) (served : Served) (seat : SeatShown) (last : Standing) (begun old new : WireShown) (held : List ℕ) (standing : Standing)
    → Stands session seat begun old held standing → EndsHere session served old held standing new last → Talked session served seat last begun new
stands_ends session served seat last begun old new held standing s ends first is =
    let one = s first is in ends (record { story = first; seat = seat }) one.0 one.1 one.2

-- one message was taken, and got its reply
pub taken_goes : (session : SessionId) (old new : WireShown) (f f' : Unread) (from to : Standing) → TakesOne session (Ok true) old f from new f' to
    → GoesOn session old f.bytes from new f'.bytes to
taken_goes session old new f f' from to (body, takes, ends) = turn_goes session body old new f.bytes f'.bytes from to takes ends

-- with a message taken, fewer bytes are held
pub taken_fewer : (session : SessionId) (old new : WireShown) (f f' : Unread) (from to : Standing) → TakesOne session (Ok true) old f from new f' to
    → length f'.bytes < length f.bytes
taken_fewer session old new f f' from to (body, takes, ends) = takes_fewer body f.bytes f'.bytes takes

-- no message is left
pub all_taken : (session : SessionId) (old mid new : WireShown) (f g h : Unread) (p q r : Standing) → GoesOn session old f.bytes p mid g.bytes q
    → TakesOne session (Ok false) mid g q new h r → TakesAll session (Ok tt) old f p new h r
all_taken session old mid new f g h p q r goes (none, kept, room, same, stayed) = (
  goes_then session old mid new f.bytes g.bytes h.bytes p q r goes (goes_nowhere session mid new g.bytes h.bytes q r same kept stayed),
  none,
  room,
)

-- the end at a read: of the input; or the read failed; or what was kept could not be sent before it
pub hears_talked : (session : SessionId) (seat : SeatShown) (served : Served) (begun old new : WireShown) (held buf : List ℕ) (standing : Standing)
    → Stands session seat begun old held standing → IsPartial held → Hears (Err served) buf old new → Talked session served seat standing begun new
hears_talked session seat Ended begun old new held buf standing s none (whole, read) first is =
    let one = s first is in (
      one.0 ++ Heard [] ∷ [],
      ap (λ (w : WireShown). w.story) read ∙ story_then old.story one.0 (Heard [] ∷ []) one.1,
      (one.0, (held, one.2, none), refl),
    )
hears_talked session seat ReadFault begun old new held buf standing s none (whole, rose, read) first is =
    let one = s first is in (one.0, ap (λ (w : WireShown). w.story) read ∙ one.1, (held, one.2, none))
hears_talked session seat WriteFault begun old new held buf standing s none (rose, cut) first is =
    let one = s first is in (one.0, ap (λ (w : WireShown). w.story) cut ∙ one.1, inr (inl (held, one.2, none)))
hears_talked session seat NotOpened begun old new held buf standing s none never first is = absurd never
hears_talked session seat Malformed begun old new held buf standing s none never first is = absurd never
hears_talked session seat TurnsUsed begun old new held buf standing s none never first is = absurd never
hears_talked session seat Behind begun old new held buf standing s none never first is = absurd never

-- the reads are used up
pub used_ends : (session : SessionId) (seat : SeatShown) (begun now : WireShown) (held : List ℕ) (standing : Standing)
    → Stands session seat begun now held standing → IsPartial held → Talked session TurnsUsed seat standing begun now
used_ends session seat begun now held standing s none first is =
    let one = s first is in (one.0, one.1, (held, one.2, none))

-- what was kept could not be sent where the session would have ended so
not_sent : (session : SessionId) (served : Served) (w : WireShown) (begun : Begun) (story : List Happened) (last : Standing) → IsToPart served w
    → Ends session served begun story last → Ends session WriteFault begun story last
not_sent session WriteFault w begun story last is ends = ends
not_sent session Malformed w begun story last is ends = inr (inr (inl ends))
not_sent session Behind w begun story last is ends = inr (inr (inr ends))
not_sent session TurnsUsed w begun story last is ends = inr (inl ends)
not_sent session Ended w begun story last is ends = absurd is
not_sent session ReadFault w begun story last is ends = absurd is
not_sent session NotOpened w begun story last is ends = absurd is

-- the session parts
pub parts_talked : (session : SessionId) (served told : Served) (seat : SeatShown) (last : Standing) (begun old new : WireShown) → IsToPart served old
    → Talked session served seat last begun old → Parts served told old new → Talked session told seat last begun new
parts_talked session served told seat last begun old new is talked (inl (same, whole, sent)) first begins_so =
    let one = talked first begins_so in (
      one.0,
      ap (λ (w : WireShown). w.story) sent ∙ one.1,
      subst (λ s. Ends session s (record { story = first; seat = seat }) one.0 last) (sym same) one.2,
    )
parts_talked session served told seat last begun old new is talked (inr (fault, rose, cut)) first begins_so =
    let one = talked first begins_so in (
      one.0,
      ap (λ (w : WireShown). w.story) cut ∙ one.1,
      subst (λ s. Ends session s (record { story = first; seat = seat }) one.0 last) (sym fault)
          (not_sent session served old (record { story = first; seat = seat }) one.0 last is one.2),
    )

-- no read so far
pub raised_none : (n : ℕ) → n ≡ raised_by 0 n
raised_none n = grind (arith, nat_tests)

raised_more : (k n : ℕ) → raised (raised_by k n) ≡ raised_by (k + 1) n
raised_more k n = grind (arith, nat_tests)

-- one read more
pub reads_more : (k old mid new first : ℕ) → old ≡ raised_by k first → mid ≡ raised old → new ≡ mid → new ≡ raised_by (k + 1) first
reads_more k old mid new first so is same = same ∙ is ∙ ap raised so ∙ raised_more k first

-- with one read more, the reads are at most one more
pub most_more : (k old mid new first : ℕ) → old ≤ first + k → mid ≡ raised old → new ≡ mid → new ≤ first + (k + 1)
most_more k old mid new first le is same = subst (λ n. n ≤ first + (k + 1)) (sym (same ∙ is)) (at (nat_lt old most))
  where
    at : (b : Bool) → (if b then old + 1 else old) ≤ first + (k + 1)
    at true = omega (arith, le)
    at false = omega (arith, le)
