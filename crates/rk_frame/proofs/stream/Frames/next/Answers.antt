use Rattle.std.proofs.Common.{refl, sym, ap, ◌∙◌, drop, take, ◌+◌, ◌-◌, arith}
use Rattle.rk_lemmas.proofs.Lists.{from_place}
use Rattle.rk_frame.proofs.Lengths.{front_at}
use Rattle.rk_frame.proofs.stream.Frames.next.Goals as goal

pub returns-in-Whole : goal.returns-in-Whole
returns-in-Whole c =
    let xs = c.self.inside.buffer.items in
    let t = c.self.inside.taken in
    let n = c.in-Whole.len in
    let d = c.deref.ensures.value in
    let front = from_place c.deref.result.now t ∙ ap (drop t) d in
    let body = ap (λ ys. take (t + 4 + n - (t + 4)) (drop (t + 4) ys)) c.deref-in-Whole.ensures.value in
    let h = c.in-Whole.ensures in
    ((refl, (λ _. tt), (front_at xs t n _ c.args.self.now.bytes _ front (sym (ap (λ v. v.bytes) c.self.view_is)) h.1 h.2 body, omega (arith, ap (λ v. v.room) c.self.view_is))), record { after_borrow = tt })
