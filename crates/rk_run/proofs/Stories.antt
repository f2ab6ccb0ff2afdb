-- What is done, one thing after the other.
use Rattle.std.proofs.Common.{◌≡◌, ℕ, List, [], ◌∷◌, ◌++◌, Option, Some, None, Result, Ok, Err, Bool, true, false, refl, sym, ap, subst, ◌∙◌}
use Rattle.std.specs.declared.process.status.ExitStatus.{ExitStatus}
use Rattle.std.proofs.lemmas.List.{append_assoc, append-nil}
use Rattle.rk_client.specs.declared.fault.PeerFault.{PeerFault}
use Rattle.rk_message.specs.Ask.{Ask}
use Rattle.rk_message.specs.declared.reply.Reply.{Reply}
use Rattle.rk_run.specs.declared.fault.RunFault.{RunFault}
use Rattle.rk_run.specs.declared.fault.RunFault.TheVariants as fault
use Rattle.rk_run.specs.declared.host.StartFault.{StartFault}
use Rattle.rk_variables.specs.Starts.{Start}
use Rattle.rk_run.specs.Story.{Event, Looked, Sought, Greeted, Started, Waited, Closed, and_then}
use Rattle.rk_run.specs.Runs.{HasRun, HasRunIn, HasTrapped, HasTried, InSession, IsStartIn, turned_away, crowded, tried, unstarted, ended, blind, nowhere, without, trapped, choked, left, unanswered, answered, hello_of, tool_of, socket_of, ring_in, unheard, unstarted_by, ending}
use Rattle.rk_run.specs.Seen.{Seen}
use Rattle.rk_run.specs.Starts.{IsTrapped}
use Rattle.rk_run.specs.Words.{Said}

-- ---- stories that go on

twice : (story : Option (List Event)) (x y : List Event) → and_then (and_then story x) y ≡ and_then story (x ++ y)
twice None x y = refl
twice (Some s) x y = ap Some (append_assoc s x y)

still : (story : Option (List Event)) → story ≡ and_then story []
still None = refl
still (Some s) = ap Some (sym (append-nil s))

more : (s t u : Option (List Event)) (x y : List Event) → t ≡ and_then s x → u ≡ and_then t y → u ≡ and_then s (x ++ y)
more s t u x y e f = f ∙ ap (λ (v : Option (List Event)). and_then v y) e ∙ twice s x y

-- ---- within a session

pub did_nothing : (said : Said) (seen : Seen) (path : List ℕ) (answer : Reply) (s : Option (List Event)) (r : Result ℕ RunFault)
    → InSession said seen path answer [] r → HasRunIn said seen path answer s s r
did_nothing said seen path answer s r i = ([], still s, i)

-- HELLO was refused, or was answered by no reply, and nothing more was done
pub was_turned_away : (said : Said) (seen : Seen) (path : List ℕ) (answer : Reply) (s : Option (List Event)) (e : RunFault)
    → Err e ≡ ring_in answer → HasRunIn said seen path answer s s (Err e)
was_turned_away said seen path answer s e i = did_nothing said seen path answer s (Err e) (turned_away e (sym i))

-- there was a ring and no memory for the command
pub had_no_room : (said : Said) (seen : Seen) (path : List ℕ) (answer : Reply) (s : Option (List Event)) (ring : ℕ)
    → Ok ring ≡ ring_in answer → HasRunIn said seen path answer s s (Err fault.NoMemory)
had_no_room said seen path answer s ring i = did_nothing said seen path answer s (Err fault.NoMemory) (crowded ring (sym i))

-- there was a ring, and the command in it was tried
pub did_try : (said : Said) (seen : Seen) (path : List ℕ) (answer : Reply) (ring : ℕ) (c : Start) (s t : Option (List Event)) (r : Result ℕ RunFault)
    → Ok ring ≡ ring_in answer → IsStartIn said seen path ring c → HasTried c s t r → HasRunIn said seen path answer s t r
did_try said seen path answer ring c s t r is i (events, told, tries) = (events, told, tried ring c events r (sym is) i tries)

-- ---- a start

-- a command that could not be started is a try
pub did_not_start : (c : Start) (s t : Option (List Event)) (e : StartFault) → t ≡ and_then s (Started c (Err e) ∷ []) → HasTried c s t (Err (unstarted_by e))
did_not_start c s t e told = (Started c (Err e) ∷ [], told, unstarted e)

-- a command that was started and waited for is a try
pub did_end : (c : Start) (s t u : Option (List Event)) (status : Option ExitStatus) (r : Result ℕ RunFault) → t ≡ and_then s (Started c (Ok tt) ∷ [])
    → u ≡ and_then t (Waited status ∷ []) → r ≡ ending status → HasTried c s u r
did_end c s t u status r told waited e = (Started c (Ok tt) ∷ Waited status ∷ [], more s t u _ _ told waited, rw e (ended status))

-- ---- by reqkey-trap

-- there was no memory for the command of reqkey-trap
pub did_choke : (said : Said) (seen : Seen) (path : List ℕ) (s : Option (List Event)) → HasTrapped said seen path s s (Err fault.NoMemory)
did_choke said seen path s = ([], still s, choked)

-- the command of reqkey-trap was tried
pub did_leave : (said : Said) (seen : Seen) (path trap : List ℕ) (c : Start) (s t : Option (List Event)) (r : Result ℕ RunFault)
    → trap ≡ seen.trap → IsTrapped said trap path c → HasTried c s t r → HasTrapped said seen path s t r
did_leave said seen path trap c s t r is i (events, told, tries) =
    let P : List ℕ → Type 0 = λ x. IsTrapped said x path c in
    (events, told, left c events r (subst P is i) tries)

-- ---- of a run

-- a look that was refused for lack of memory is a run
pub saw_nothing : (said : Said) (s t : Option (List Event)) → t ≡ s → HasRun said s t (Err fault.NoMemory)
saw_nothing said s t e = ([], e ∙ still s, blind)

-- a run that looked and found no socket named
pub knew_nobody : (said : Said) (seen : Seen) (s t : Option (List Event)) → t ≡ and_then s (Looked seen ∷ []) → None ≡ socket_of said seen
    → HasRun said s t (Err fault.Socket)
knew_nobody said seen s t e n = (Looked seen ∷ [], e, nowhere seen (sym n))

module _ (said : Said) (seen : Seen) (path tool : List ℕ) (found : Bool) (named : Some path ≡ socket_of said seen) (is_tool : tool ≡ tool_of said seen) where
  pub had_no_library : (s t u : Option (List Event)) → t ≡ and_then s (Looked seen ∷ []) → u ≡ and_then t (Sought tool found ∷ []) → found ≡ false
      → HasRun said s u (Err fault.File)
  had_no_library s t u looked sought f = (
    Looked seen ∷ Sought (tool_of said seen) false ∷ [],
    rw (← is_tool, ← f) (more s t u _ _ looked sought),
    without seen path (sym named),
  )

  pub was_trapped : found ≡ true → said.trap ≡ true → (s t u v : Option (List Event)) (r : Result ℕ RunFault) → t ≡ and_then s (Looked seen ∷ [])
      → u ≡ and_then t (Sought tool found ∷ []) → HasTrapped said seen path u v r → HasRun said s v r
  was_trapped f traps s t u v r looked sought (events, told, did) = (
    Looked seen ∷ Sought (tool_of said seen) true ∷ events,
    rw (← is_tool, ← f) (more s u v _ _ (more s t u _ _ looked sought) told),
    trapped seen path events r (sym named) traps did,
  )

  module _ (ask : Ask) (is_hello : ask ≡ hello_of said seen) (is_found : found ≡ true) (by_library : said.trap ≡ false) where
    pub heard_nothing : (s t u v : Option (List Event)) (e : PeerFault) → t ≡ and_then s (Looked seen ∷ []) → u ≡ and_then t (Sought tool found ∷ [])
        → v ≡ and_then u (Greeted path ask (Err e) ∷ []) → HasRun said s v (Err (unheard e))
    heard_nothing s t u v e looked sought greeted = (
      Looked seen ∷ Sought (tool_of said seen) true ∷ Greeted path (hello_of said seen) (Err e) ∷ [],
      rw (← is_tool, ← is_found, ← is_hello) (more s u v _ _ (more s t u _ _ looked sought) greeted),
      unanswered seen path e (sym named) by_library,
    )

    pub was_answered : (s t u v x y : Option (List Event)) (answer : Reply) (r : Result ℕ RunFault) → t ≡ and_then s (Looked seen ∷ [])
        → u ≡ and_then t (Sought tool found ∷ []) → v ≡ and_then u (Greeted path ask (Ok answer) ∷ []) → HasRunIn said seen path answer v x r
        → y ≡ and_then x (Closed ∷ []) → HasRun said s y r
    was_answered s t u v x y answer r looked sought greeted (events, told, did) closed = (
      Looked seen ∷ Sought (tool_of said seen) true ∷ Greeted path (hello_of said seen) (Ok answer) ∷ events ++ Closed ∷ [],
      rw (← is_tool, ← is_found, ← is_hello)
          (more s x y _ _ (more s v x _ _ (more s u v _ _ (more s t u _ _ looked sought) greeted) told) closed),
      answered seen path answer events r (sym named) by_library did,
    )
