use Rattle.rk_replay.proofs.Words.{◌≡◌, ◌++◌, ap, length, [], sym, arith, take, refl, ◌<◌, ◌≤◌, length-append, true, rules, append-nil}
use Rattle.std.specs.Result.{is_ok}
use Rattle.std.proofs.KnownBytes.{Consumes-nil, Consumes-trans, Consumes-all}
use Rattle.rk_replay.proofs.BytesRead.{consumes_many, taken_so_far}
use Rattle.rk_replay.proofs.script.read_all.Goals as goal

pub loop-turn-init : goal.loop-turn-init
loop-turn-init g c = record {
  read = rw c.new-text.ensures.items (Consumes-nil (g.R.Read.remaining c.args.reader.now));
  room = refl;
  many = search rules;
  few = search rules;
}

pub returns-then-count-eq0-clause-all : goal.returns-then-count-eq0-clause-all
returns-then-count-eq0-clause-all g c =
    let b = c.in-Ok.ensures.bytes in
    let room : 0 < length c.read.new.buf = omega (arith, c.loop-turn.invariant.room) in
    let done = b.1 c.if-count-eq0.true room in
    let last = rw c.if-count-eq0.true at b.0 in
    Consumes-all _ _ (c.loop-turn.text.items ++ []) [] c.loop-turn.text.items (Consumes-trans _ _ _ _ _ c.loop-turn.invariant.read last) done
    (sym (append-nil c.loop-turn.text.items))

pub loop-turn-preserved : goal.loop-turn-preserved
loop-turn-preserved g c =
    let ok : is_ok c.extend_from_slice.result ≡ true = search rules in
    let grown = rw ok at c.extend_from_slice.ensures.items in
    record {
      read = rw grown (Consumes-trans _ _ _ _ _ c.loop-turn.invariant.read c.in-Ok.ensures.bytes.0);
      room = search rules;
      many = omega (
        arith,
        ap length grown,
        length-append c.loop-turn.text.items (take c.in-Ok.count c.read.new.buf),
        c.in-Ok.ensures.bound.1,
        c.loop-turn.invariant.many,
      );
      few = omega (
        arith,
        ap length grown,
        length-append c.loop-turn.text.items (take c.in-Ok.count c.read.new.buf),
        c.in-Ok.ensures.bound.0,
        c.in-Ok.ensures.bound.1,
        c.loop-turn.invariant.few,
        c.loop-turn.invariant.room,
      );
    }

pub returns-then-is_err-clause-most : goal.returns-then-is_err-clause-most
returns-then-is_err-clause-most g c =
    let few : length (take c.in-Ok.count c.read.new.buf) ≤ 4096 = omega (arith, c.in-Ok.ensures.bound.0, c.in-Ok.ensures.bound.1, c.loop-turn.invariant.room) in
    taken_so_far _ _ _ c.loop-turn.text.items _ c.loop-turn._turn c.loop-turn.invariant.read c.in-Ok.ensures.bytes.0 c.loop-turn.invariant.few few
    (search rules)

pub returns-clause-long : goal.returns-clause-long
returns-clause-long g c e = consumes_many _ _ c.loop-turn.text.items 1048576 c.loop-turn.invariant.read (omega (arith, c.loop-turn.invariant.many))
