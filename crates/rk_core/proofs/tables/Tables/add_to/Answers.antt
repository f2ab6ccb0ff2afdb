use Rattle.rk_core.proofs.Words.{ap, Some, new_key, World}
use Rattle.rk_core.proofs.Requests.NewKey.{new_known, others_stay, has_room}
use Rattle.rk_core.proofs.tables.Tables.add_to.Goals as goal

pub link_in_room-requires-clause-known : goal.link_in_room-requires-clause-known
link_in_room-requires-clause-known c =
    new_known c.args.self.now c.make_key.new.self c.in_ok-key.key (new_key c.args.name.now.typ c.args.name.now.description c.args.asker.now.context.uid (Some c.args.payload))
    (ap (λ (w : World). w.keys) c.in_ok-key.ensures.ok) (ap (λ (w : World). w.rings) c.in_ok-key.ensures.ok)

pub link_in_room-requires-clause-tidy : goal.link_in_room-requires-clause-tidy
link_in_room-requires-clause-tidy c =
    others_stay c.args.self.now c.make_key.new.self c.in_ok-key.key (new_key c.args.name.now.typ c.args.name.now.description c.args.asker.now.context.uid (Some c.args.payload))
    (ap (λ (w : World). w.keys) c.in_ok-key.ensures.ok) (ap (λ (w : World). w.rings) c.in_ok-key.ensures.ok) c.requires.sound.tidy

pub link_in_room-requires-clause-room : goal.link_in_room-requires-clause-room
link_in_room-requires-clause-room c =
    has_room c.args.self.now c.make_key.new.self c.in_ok-key.key (new_key c.args.name.now.typ c.args.name.now.description c.args.asker.now.context.uid (Some c.args.payload))
    (ap (λ (w : World). w.keys) c.in_ok-key.ensures.ok) (ap (λ
    (w : World). w.rings) c.in_ok-key.ensures.ok) c.in_ok-key.ensures.unlinked c.args.ring c.requires.room
