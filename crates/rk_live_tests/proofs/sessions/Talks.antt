-- What a wire that tells has told.
use Rattle.std.proofs.Common.{◌≡◌, List, [], inl, inr, sym, ap, subst, ◌∙◌}
use Rattle.std.specs.Prelude.{Option, Some, None}
use Rattle.rk_names.specs.declared.numbers.SessionId.{SessionId}
use Rattle.rk_hall.specs.Seats.{SeatShown}
use Rattle.rk_session.specs.declared.serving.Served.{Served}
use Rattle.rk_session.specs.Talk.{Ends, Serves}
use Rattle.rk_session.specs.Wires.{Happened, WireShown}
use Rattle.rk_live_tests.specs.Telling.{IsTalk}

-- what a wire has told; nothing if it does not tell
abbrev story_of : Option (List Happened) → List Happened
story_of (Some s) = s
story_of None = []

-- a session over a wire that tells, on which nothing had happened, is a talk
pub is_talk : (session : SessionId) (served : Served) (seat seat' : SeatShown) (old new : WireShown) (story : List Happened)
    → old.story ≡ Some [] → new.story ≡ Some story → Serves session served seat seat' old new → IsTalk session served story
is_talk session served seat seat' old new story begun tells (inl (first, last, opened, talked, sent, gone)) =
    let t = talked [] begun in
    inl (first, last, subst (λ s. Ends session served (record { story = []; seat = first }) s last) (ap story_of (sym t.1 ∙ tells)) t.2)
is_talk session served seat seat' old new story begun tells (inr (is, s, shut, same)) =
    inr (is, ap story_of (sym tells ∙ ap (λ (w : WireShown). w.story) same ∙ begun))
