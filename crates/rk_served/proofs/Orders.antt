-- Moves in the order of work, and the served lists that they make.
use Rattle.rk_served.proofs.Words.{refl, ◌∙◌, ap, sym, List, ◌≡◌, [], subst, ℕ, ◌∷◌, ◌++◌, append_assoc, append-nil, Some, Option, None, Line, Past, MovesNext}
use Rattle.rk_served.proofs.Words.{MovesSome, Left, Part, Moves, ServesInOrder, MovesFirst, MovesInOrder, ServesTurnInOrder, Turn, outputs_of, ServesBy, Serves}
use Rattle.rk_served.proofs.Words.{ServedBy, Happening, Output}

-- ---- one move more

outputs_push : (parts : List Part) (part : Part) → outputs_of (parts ++ part ∷ []) ≡ outputs_of parts ++ part.outputs
outputs_push [] part = append-nil part.outputs
outputs_push (p ∷ ps) part = ap (λ (xs : List Output). p.outputs ++ xs) (outputs_push ps part) ∙ sym (append_assoc p.outputs (outputs_of ps) part.outputs)

moves_push : (conf : List Line) (now : ℕ) (parts : List Part) (old mid new : Left) (part : Part) → MovesInOrder conf now old parts mid
    → MovesFirst conf now mid part new → MovesInOrder conf now old (parts ++ part ∷ []) new
moves_push conf now [] old mid new part same move = (new, subst (λ (l : Left). MovesFirst conf now l part new) same move, refl)
moves_push conf now (p ∷ ps) old mid new part h move = (h.0, h.1, moves_push conf now ps h.0 mid new part h.2 move)

-- some moves and one more are some moves
pub moves_more : (conf : List Line) (now : ℕ) (old mid new : Left) (put put' put'' : List Output) → MovesSome conf now old put mid put'
    → MovesNext conf now mid put' new put'' → MovesSome conf now old put new put''
moves_more conf now old mid new put put' put'' some one = record {
  parts = some.parts ++ one.part ∷ [];
  moves = moves_push conf now some.parts old mid new one.part some.moves one.first;
  outputs = one.outputs ∙ ap (λ (xs : List Output). xs ++ one.part.outputs) some.outputs
      ∙ (append_assoc put (outputs_of some.parts) one.part.outputs ∙ ap (λ (xs : List Output). put ++ xs) (sym (outputs_push some.parts one.part)));
}

-- ---- what is served in order is served

-- moves in order are moves
pub moves_of : (conf : List Line) (now : ℕ) (old : Left) (parts : List Part) (new : Left) → MovesInOrder conf now old parts new → Moves conf now old parts new
moves_of conf now old [] new same = same
moves_of conf now old (p ∷ ps) new m = (m.1.index, m.0, m.1.move, moves_of conf now m.0 ps new m.2)

pub serves_of : (conf : List Line) (old : Left) (now : ℕ) (h : Happening) (outputs : Option (List Output)) (steps : List Past) (new : Left)
    → ServesInOrder conf old now h outputs steps new → ServesBy conf old now h outputs steps new
serves_of conf old now h None steps new s = s
serves_of conf old now h (Some outputs) steps new s = s.acts

-- a list that is served in order is served
pub served_of : (conf : List Line) (turns : List Turn) (run : List Past) (old new : Left) → ServedBy (ServesTurnInOrder conf) old turns run new
    → ServedBy (Serves conf) old turns run new
served_of conf [] run old new h = h
served_of conf (t ∷ ts) run old new h = (h.0, h.1, h.2, h.3, serves_of conf old t.now t.happening t.outputs h.0 h.2 h.4, served_of conf ts h.1 h.2 new h.5)
