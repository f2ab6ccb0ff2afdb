use Rattle.std.proofs.Common.{arith, length, drop, take, ◌-◌, ◌≤◌, ◌≡◌, sym, ap}
use Rattle.std.proofs.lemmas.List.{length-take, length-drop}
use Rattle.rk_frame.proofs.Lengths.{is_frame}
use Rattle.rk_frame.proofs.front.front_of.Goals as goal

pub returns-else-rest-len : goal.returns-else-rest-len
returns-else-rest-len c =
    let n = c.get_u32-len.result in
    let bytes = c.args.bytes.now in
    let rest : length c.get_u32-len.new.self.now ≡ length (drop 4 bytes) = ap length c.get_u32-len.ensures.rest in
    let enough : n ≤ length (drop 4 bytes) = omega (arith, rest) in
    let room : length (drop 4 bytes) ≡ length bytes - 4 = length-drop 4 bytes in
    let len : length (take n (drop 4 bytes)) ≡ n = omega (arith, length-take n (drop 4 bytes)) in
    (omega arith, (omega arith, omega arith), is_frame bytes n (λ i. omega (arith, c.type_inv.bytes i)) (sym c.get_u32-len.ensures.value) (omega arith) enough)
