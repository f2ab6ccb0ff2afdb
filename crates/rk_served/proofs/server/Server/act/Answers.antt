use Rattle.rk_served.proofs.Words.{refl, ◌∙◌, ap, List, ◌++◌, left_of, outputs_of, steps_of, Output}
use Rattle.rk_served.proofs.Kept.{begins_keeps_peers}
use Rattle.rk_served.proofs.Orders.{moves_of}
use Rattle.rk_served.proofs.Watching.{watched_begun}
use Rattle.rk_served.proofs.server.Server.act.Goals as goal

pub move_all-requires-clause-has_peers : goal.move_all-requires-clause-has_peers
move_all-requires-clause-has_peers c =
    let own = c.in_ok-own_step.ensures in
    begins_keeps_peers c.args.occasion.now.conf.now c.args.occasion.now.moment c.args.happening.now (left_of c.args.self.now) own.part _ c.requires.placed own.own_step c.requires.has_peers

pub move_all-requires-clause-watched : goal.move_all-requires-clause-watched
move_all-requires-clause-watched c =
    let own = c.in_ok-own_step.ensures in
    watched_begun c.args.occasion.now.conf.now c.args.occasion.now.moment c.args.happening.now (left_of c.args.self.now) (left_of c.own_step.new.self) own.part c.args.queue.now
    c.stir_by.new.queue (begins_keeps_peers c.args.occasion.now.conf.now c.args.occasion.now.moment c.args.happening.now (left_of c.args.self.now) own.part _
    c.requires.placed own.own_step c.requires.has_peers).apart own.own_step c.requires.has_peers c.requires.still c.in_ok-stir_by.ensures

pub returns-clause-acts : goal.returns-clause-acts
returns-clause-acts c =
    let own = c.in_ok-own_step.ensures in
    let more = c.in_ok-move_all.ensures.moves in (
      own.part.steps ++ steps_of more.parts,
      record {
        acts = record {
          in_place = c.requires.placed;
          own = own.part;
          begun = left_of c.own_step.new.self;
          parts = more.parts;
          own_step = own.own_step;
          moves = moves_of c.args.occasion.now.conf.now c.args.occasion.now.moment (left_of c.own_step.new.self) more.parts (left_of c.move_all.new.self) more.moves;
          at_rest = c.in_ok-move_all.ensures.at_rest;
          outputs_are = c.new.ensures ∙ (more.outputs ∙ ap (λ (xs : List Output). xs ++ outputs_of more.parts) (own.outputs
              ∙ ap (λ (xs : List Output). xs ++ own.part.outputs) c.new-out.ensures.items));
          steps_are = refl;
        };
        in_order = more.moves;
      },
    )
