use Rattle.rk_served.proofs.Words.{◌∙◌, ap, sym, ◌≡◌, ℕ, length, arith, ◌≤◌, rules, take, drop, position_or_len, insert, comes_before, are_in_order, Peer}
use Rattle.std.proofs.lemmas.List.{take-append-drop}
use Rattle.rk_served.proofs.Standings.{position_within, order_inserted}
use Rattle.rk_served.proofs.peers.add.Goals as goal

pub insert-requires : goal.insert-requires
insert-requires c =
    let xs = c.args.peers.now.items in
    let at : c.rank-index.result ≡ position_or_len (λ (x : Peer). comes_before c.args.peer.who x.who) xs = search rules in
    let most : position_or_len (λ (x : Peer). comes_before c.args.peer.who x.who) xs ≤ length xs =
    position_within (λ (x : Peer). comes_before c.args.peer.who x.who) xs in
    grind arith

pub returns-clause-adds : goal.returns-clause-adds
returns-clause-adds c = record {
  before = take c.rank-index.result c.args.peers.now.items;
  after = drop c.rank-index.result c.args.peers.now.items;
  others = sym (take-append-drop c.rank-index.result c.args.peers.now.items);
  peers = c.in_ok-insert.ensures.items;
}

pub returns-clause-order : goal.returns-clause-order
returns-clause-order c =
    let xs = c.args.peers.now.items in
    let x : Peer = c.args.peer in
    let at : c.rank-index.result ≡ position_or_len (λ (y : Peer). comes_before c.args.peer.who y.who) xs = search rules in
    let items : c.insert.new.self.items ≡ insert xs c.rank-index.result x = search rules in
    ap are_in_order (items ∙ ap (λ (i : ℕ). insert xs i x) at) ∙ order_inserted xs x c.requires
