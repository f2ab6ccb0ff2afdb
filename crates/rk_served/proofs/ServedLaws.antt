-- Served lists go on by one turn, and their steps are a run of the machine.
use Rattle.rk_served.proofs.Words.{refl, ◌∙◌, ap, sym, List, ◌≡◌, [], subst, ℕ, inr, true, ◌∷◌, inl, ◌++◌, append_assoc, append-nil, reverse-append, Some}
use Rattle.rk_served.proofs.Words.{Option, None, reverse, SessionId, Line, Ask, Subject, Event, Beginning, Past, Run, Step, World, Left, Part, nothing}
use Rattle.rk_served.proofs.Words.{collects, refuses, asks, shuts_client, shuts_handler, Answered, puts_reply, starts_one, fails_to_start, Move, Moves}
use Rattle.rk_served.proofs.Words.{ServesInOrder, EndsBy, is_last, is_followed, is_not_followed, OwnStep, is_misplaced, StepsBy, Acts, Turn, ServesBy, Serves}
use Rattle.rk_served.proofs.Words.{ServedBy, steps_of, ServesNext, ServedIsRun, Happening, Started, Failed, Output}
use Rattle.rk_machine.proofs.EveryRun.KeepsLaws.{lawful}
use Rattle.rk_served.specs.declared.happening.Happening.TheVariants as happening

-- ---- one turn more

-- turns that are served, and one more that is served so, are served
pub served_push : (ServesSo : Left → Turn → List Past → Left → Type 0) (turns : List Turn) (run steps : List Past) (old mid new : Left) (turn : Turn)
    → ServedBy ServesSo old turns run mid → ServesSo mid turn steps new → ServedBy ServesSo old (turns ++ turn ∷ []) (run ++ steps) new
served_push ServesSo [] run steps old mid new turn h s =
    (steps, [], new, ap (λ (es : List Past). es ++ steps) h.0 ∙ sym (append-nil steps), subst (λ (l : Left). ServesSo l turn steps new) h.1 s, (refl, refl))
served_push ServesSo (t ∷ ts) run steps old mid new turn h s = (
  h.0,
  h.1 ++ steps,
  h.2,
  ap (λ (es : List Past). es ++ steps) h.3 ∙ append_assoc h.0 h.1 steps,
  h.4,
  served_push ServesSo ts h.1 steps h.2 mid new turn h.5 s,
)

-- ---- a chain of steps, the first one first

abbrev pub Chain : World → List Past → World → Type 0
Chain old [] new = new ≡ old
Chain old (s ∷ ss) new = (mid : World) × Step old s.now s.event s.answer mid × Chain mid ss new

chain_append : (ss ts : List Past) (u v w : World) → Chain u ss v → Chain v ts w → Chain u (ss ++ ts) w
chain_append [] ts u v w h k = subst (λ (x : World). Chain x ts w) h k
chain_append (s ∷ ss) ts u v w h k = (h.0, h.1, chain_append ss ts h.0 v w h.2 k)

-- a run goes on by a chain
pub chain_run : (from : Beginning) (past ss : List Past) (u v : World) → Run from past u → Chain u ss v → Run from (reverse ss ++ past) v
chain_run from past [] u v r h = subst (λ (w : World). Run from past w) (sym h) r
chain_run from past (s ∷ ss) u v r h =
    let on = chain_run from (s ∷ past) ss h.0 v (u, r, h.1) h.2 in
    let same : reverse ss ++ (s ∷ past) ≡ reverse (s ∷ ss) ++ past = sym (append_assoc (reverse ss) (s ∷ []) past)
    ∙ ap (λ (xs : List Past). xs ++ past) (sym (reverse-cons s ss)) in
    subst (λ (xs : List Past). Run from xs v) same on
  where
    reverse-cons : (x : Past) (xs : List Past) → reverse (x ∷ xs) ≡ reverse xs ++ x ∷ []
    reverse-cons x xs = reverse-append (x ∷ []) xs

-- ---- the steps of a part

one_chain : (u v : World) (s : Past) → Step u s.now s.event s.answer v → Chain u (s ∷ []) v
one_chain u v s h = (v, h, refl)

by_part : (part given : Part) (u v : World) → part ≡ given → Chain u given.steps v → Chain u part.steps v
by_part part given u v e h = subst (λ (p : Part). Chain u p.steps v) (sym e) h

answered_chain : (conf : List Line) (now : ℕ) (old : Left) (who : SessionId) (ask : Ask) (part : Part) (new : Left) → Answered conf now old who ask part new
    → Chain old.world part.steps new.world
answered_chain conf now old who ask part new (puts_reply h) = by_part part _ old.world new.world h.part_is (one_chain old.world new.world _ h.step)
answered_chain conf now old who ask part new (starts_one h) = by_part part _ old.world new.world h.part_is (one_chain old.world new.world _ h.step)
answered_chain conf now old who ask part new (fails_to_start h) = by_part part _ old.world new.world h.part_is (h.mid, h.first, (new.world, h.second, refl))

move_chain : (conf : List Line) (now : ℕ) (old : Left) (index : ℕ) (part : Part) (new : Left) → Move conf now old index part new
    → Chain old.world part.steps new.world
move_chain conf now old index part new (collects m) = by_part part _ old.world new.world m.part_is (one_chain old.world new.world _ m.step)
move_chain conf now old index part new (refuses m) = by_part part _ old.world new.world m.part_is m.world
move_chain conf now old index part new (asks m) = answered_chain conf now _ m.who m.ask part new m.answered
move_chain conf now old index part new (shuts_client m) = by_part part _ old.world new.world m.part_is (one_chain old.world new.world _ m.step)
move_chain conf now old index part new (shuts_handler m) = by_part part _ old.world new.world m.part_is m.world

moves_chain : (conf : List Line) (now : ℕ) (old : Left) (parts : List Part) (new : Left) → Moves conf now old parts new
    → Chain old.world (steps_of parts) new.world
moves_chain conf now old [] new m = ap (λ (l : Left). l.world) m
moves_chain conf now old (p ∷ ps) new m =
    chain_append p.steps (steps_of ps) old.world m.1.world new.world (move_chain conf now old m.0 p m.1 m.2) (moves_chain conf now m.1 ps new m.3)

by_steps : (old : Left) (part : Part) (new : Left) (now : ℕ) (e : _) (a : _) (outputs : List Output) → StepsBy now e a outputs old part new
    → Chain old.world part.steps new.world
by_steps old part new now e a outputs h = by_part part _ old.world new.world h.part_is (one_chain old.world new.world _ h.step)

ends_chain : (conf : List Line) (now k : ℕ) (event : Event) (made : Option Subject) (old : Left) (part : Part) (new : Left)
    → EndsBy conf now k event made old part new → Chain old.world part.steps new.world
ends_chain conf now k event made old part new (is_last h peers) = by_steps old part new now _ _ _ h
ends_chain conf now k event made old part new (is_followed h) = by_part part _ old.world new.world h.part_is (one_chain old.world new.world _ h.step)
ends_chain conf now k event made old part new (is_not_followed h) = by_part part _ old.world new.world h.part_is (h.mid, h.first, (new.world, h.second, refl))

begins_chain : (conf : List Line) (now : ℕ) (h : Happening) (old : Left) (part : Part) (new : Left) → OwnStep conf now h old part new
    → Chain old.world part.steps new.world
begins_chain conf now (happening.Accept n) old part new (inl h) = by_steps old part new now _ _ _ h.0
begins_chain conf now (happening.Accept n) old part new (inr h) = by_steps old part new now _ _ _ h.1
begins_chain conf now (happening.Bytes n bytes) old part new h = by_part part _ old.world new.world h.part_is h.world
begins_chain conf now (happening.Gone n) old part new h = by_steps old part new now _ _ _ h.0
begins_chain conf now (happening.StartResult k Started) old part new h = by_steps old part new now _ _ _ h.steps
begins_chain conf now (happening.StartResult k Failed) old part new h = by_steps old part new now _ _ _ h.0
begins_chain conf now (happening.HandlerBytes k bytes) old part new h = by_part part _ old.world new.world h.part_is h.world
begins_chain conf now (happening.HandlerReadFault k) old part new h = ends_chain conf now k _ _ old part new h.ends
begins_chain conf now (happening.HandlerEnded k how) old part new h = ends_chain conf now k _ _ old part new h.ends
begins_chain conf now (happening.WaitFault k) old part new h = ends_chain conf now k _ _ old part new h.ends

-- ---- the steps of a served list

serves_chain : (conf : List Line) (old : Left) (now : ℕ) (h : Happening) (outputs : Option (List Output)) (steps : List Past) (new : Left)
    → ServesBy conf old now h outputs steps new → Chain old.world steps new.world
serves_chain conf old now h None steps new s = subst (λ (es : List Past). Chain old.world es new.world) (sym s.no_steps) (ap (λ (l : Left). l.world) s.same)
serves_chain conf old now h (Some outputs) steps new s =
    subst (λ (es : List Past). Chain old.world es new.world) (sym s.steps_are)
    (chain_append s.own.steps (steps_of s.parts) old.world s.begun.world new.world (begins_chain conf now h old s.own s.begun s.own_step)
    (moves_chain conf now s.begun s.parts new s.moves))

served_chain : (conf : List Line) (turns : List Turn) (run : List Past) (old new : Left) → ServedBy (Serves conf) old turns run new → Chain old.world run new.world
served_chain conf [] run old new h = subst (λ (es : List Past). Chain old.world es new.world) (sym h.0) (ap (λ (l : Left). l.world) h.1)
served_chain conf (t ∷ ts) run old new h =
    subst (λ (es : List Past). Chain old.world es new.world) (sym h.3)
    (chain_append h.0 h.1 old.world h.2.world new.world (serves_chain conf old t.now t.happening t.outputs h.0 h.2 h.4) (served_chain conf ts h.1 h.2 new h.5))

-- the steps of every served list are a run of the machine
pub served_is_run : ServedIsRun
served_is_run conf from turns run left h =
    let is_run : Run from (reverse run) left.world =
    subst (λ (xs : List Past). Run from xs left.world) (append-nil (reverse run))
    (chain_run from [] run (nothing from).world left.world refl (served_chain conf turns run (nothing from) left h)) in
    (is_run, lawful from (reverse run) left.world is_run)

-- ---- what one happening adds

serves_next : (conf : List Line) (old : Left) (turn : Turn) (steps : List Past) (new : Left) → Serves conf old turn steps new → ServesNext conf old turn new
serves_next conf old turn steps new s from turns run served =
    let more = served_push (Serves conf) turns run steps (nothing from) old new turn served s in
    (steps, more, served_is_run conf from (turns ++ turn ∷ []) (run ++ steps) new more)

-- a happening that acts adds its turn, with its outputs, to every served list
pub acts_next : (conf : List Line) (old : Left) (now : ℕ) (h : Happening) (outputs : List Output) (steps : List Past) (new : Left)
    → Acts conf old now h outputs steps new → ServesNext conf old (record { now = now; happening = h; outputs = Some outputs }) new
acts_next conf old now h outputs steps new a = serves_next conf old (record { now = now; happening = h; outputs = Some outputs }) steps new a

-- what is out of place has no moves
pub passed_in_order : (conf : List Line) (old : Left) (now : ℕ) (h : Happening) → is_misplaced old.world h ≡ true → (steps : List Past)
    × ServesInOrder conf old now h None steps old
passed_in_order conf old now h misplaced = ([], record { misplaced = misplaced; no_steps = refl; same = refl })

-- a misplaced happening adds its turn without outputs, and changes nothing
pub passed_next : (conf : List Line) (old : Left) (now : ℕ) (h : Happening) → is_misplaced old.world h ≡ true
    → ServesNext conf old (record { now = now; happening = h; outputs = None }) old
passed_next conf old now h misplaced =
    serves_next conf old (record { now = now; happening = h; outputs = None }) [] old (record { misplaced = misplaced; no_steps = refl; same = refl })
