use Rattle.std.proofs.Common.{◌≡◌, ◌<◌, ◌^◌, ◌⊎◌, vec_len, arith, rules, inl, inr, ◌∙◌}
use Rattle.rk_client.proofs.Frames.{no_length, no_body}
use Rattle.rk_client.proofs.peer.receive.Goals as goal

pub returns-then-length-eq0-clause-malformed : goal.returns-then-length-eq0-clause-malformed
returns-then-length-eq0-clause-malformed g c =
    let small : c.in_ok-length.field-0 < 2 ^ 32 = omega arith in
    let bad : (c.in_ok-length.field-0 ≡ 0) ⊎ (65536 < c.in_ok-length.field-0) =
    elim c.then-length-eq0.either [ inl z ↦ inl (omega (arith, z)) | inr gt ↦ inr (omega (arith, gt.1)) ] in
    λ _. no_length _ _ c.in_ok-length.field-0 c.in_ok-length.ensures.read small bad

pub returns-clause-malformed : goal.returns-clause-malformed
returns-clause-malformed g c =
    let small : c.in_ok-length.field-0 < 2 ^ 32 = omega arith in
    let room : vec_len c.in_ok-body.body ≡ c.in_ok-length.field-0 = search rules in
    λ e. let (body, long, read, none) = c.read_body.ensures.malformed e in
    no_body _ _ _ c.in_ok-length.field-0 body small c.in_ok-length.ensures.read read (long ∙ search rules) none
