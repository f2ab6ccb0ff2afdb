use mir.Val.{bool_byte}
use Rattle.rk_core.proofs.Words.{◌≡◌, Bool, true, false, cond, not, ◌+◌, sym, ap, ◌∙◌, refl, is_none}
use Rattle.rk_core.proofs.Greetings.UserRing.{count_made}
use Rattle.rk_core.proofs.hello.rings_made.Goals as goal

one_if : (b : Bool) → bool_byte b ≡ cond b 1 0
one_if true = refl
one_if false = refl

flipped : (a b : Bool) → a ≡ not b → b ≡ not a
flipped a true e = ap not (sym e)
flipped a false e = ap not (sym e)

one_unless : (a b : Bool) → a ≡ not b → bool_byte b ≡ cond (not a) 1 0
one_unless a b e = one_if b ∙ ap (λ t. cond t 1 0) (flipped a b e)

pub returns : goal.returns
returns c = λ w is.
    let thread : c.from.result ≡ cond c.args.greeting.now.thread 1 0 = c.from.ensures ∙ one_if c.args.greeting.now.thread in
    let process : c.from-2.result ≡ cond c.args.greeting.now.process 1 0 = c.from-2.ensures ∙ one_if c.args.greeting.now.process in
    let session : c.from-3.result ≡ cond (is_none c.args.greeting.now.join) 1 0 = c.from-3.ensures ∙ one_unless _ c.is_none.result c.is_none.ensures in
    let user : c.from-4.result ≡ cond (is_none c.args.user.now) 1 0 = c.from-4.ensures ∙ one_unless _ c.is_none-2.result c.is_none-2.ensures in
    (λ i. thread i + process i + session i + user i) ∙ count_made w c.args.greeting.now c.args.user.now is
