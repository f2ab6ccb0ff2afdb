use Rattle.rk_core.proofs.Words.{◌≡◌, ℕ, List, true, sym, ap, ◌∙◌, subst, Some, None, new_key, Sessions, Leads, Authority, Subject, World, tidied, linked_in}
use Rattle.rk_core.proofs.Words.{Query, waiting, subject_of, started, new_authority, Start, Names}
use Rattle.rk_core.proofs.Requests.NewKey.{new_known, others_stay, has_room, leads_nowhere}
use Rattle.rk_core.proofs.tables.Tables.begin.Goals as goal

pub link_in_room-requires-clause-known : goal.link_in_room-requires-clause-known
link_in_room-requires-clause-known c =
    new_known c.args.self.now c.make_construction.new.self c.in_ok-key.key (new_key c.args.wanted.now.name.typ c.args.wanted.now.name.description c.args.by.now.asker.now.context.uid None)
    (ap (λ (w : World). w.keys) c.in_ok-key.ensures.ok) (ap (λ (w : World). w.rings) c.in_ok-key.ensures.ok)

pub link_in_room-requires-clause-tidy : goal.link_in_room-requires-clause-tidy
link_in_room-requires-clause-tidy c =
    others_stay c.args.self.now c.make_construction.new.self c.in_ok-key.key (new_key c.args.wanted.now.name.typ c.args.wanted.now.name.description c.args.by.now.asker.now.context.uid None)
    (ap (λ (w : World). w.keys) c.in_ok-key.ensures.ok) (ap (λ (w : World). w.rings) c.in_ok-key.ensures.ok) c.requires.sound.tidy

pub link_in_room-requires-clause-room : goal.link_in_room-requires-clause-room
link_in_room-requires-clause-room c =
    has_room c.args.self.now c.make_construction.new.self c.in_ok-key.key (new_key c.args.wanted.now.name.typ c.args.wanted.now.name.description c.args.by.now.asker.now.context.uid None)
    (ap (λ (w : World). w.keys) c.in_ok-key.ensures.ok) (ap (λ
    (w : World). w.rings) c.in_ok-key.ensures.ok) c.in_ok-key.ensures.unlinked c.args.ring c.requires.room

pub wait-requires : goal.wait-requires
wait-requires c =
    let authority : Authority =
    record { context = c.args.by.now.asker.now.context; destination = c.args.ring; callout = c.in_ok-callout.callout; depth = c.args.by.now.asker.now.depth } in
    subst (λ (a : Sessions). ¬ (Leads a c.in_ok-key.key c.args.by.now.id.now))
    (sym (ap (λ (w : World). w.sessions) (c.link_in_room.ensures) ∙ ap (λ (w : World). w.sessions) c.in_ok-key.ensures.ok))
    (leads_nowhere c.args.self.now.sessions c.in_ok-key.key authority c.args.by.now.id.now
    (c.requires.sound.constructions c.in_ok-key.key c.in_ok-key.ensures.fresh.unused) c.requires.there)

pub returns-clause-ok : goal.returns-clause-ok
returns-clause-ok c = λ now.
    let q : Query = record { context = c.args.by.now.asker.now.context; typ = c.args.wanted.now.name.typ; description = c.args.wanted.now.name.description; now = now } in
    let k : ℕ = c.in_ok-key.key in
    let callout : c.in_ok-callout.callout ≡ c.args.callout.now = c.in_ok-callout.ensures.cases ∙ c.in_ok-names.ensures.2 in
    let told : Names = record { typ = c.args.wanted.now.name.typ; description = c.args.wanted.now.name.description; callout = c.args.callout.now } in
    let same : c.in_ok-names.names ≡ told =
    λ i. record { typ = c.in_ok-names.ensures.0 i; description = c.in_ok-names.ensures.1 i; callout = c.in_ok-names.ensures.2 i } in (
      k,
      c.in_ok-key.ensures.fresh,
      (
        λ i. Start k ((
            c.of_key-2.ensures
            ∙ ap (λ (s : Subject). record s { key = k }) (c.in_ok-subject.ensures ∙ c.subject-subject.ensures now)
            ∙ ap (λ (n : Names). subject_of c.args.self.now k (record q { typ = n.typ; description = n.description }) n.callout) same) i),
        subst (λ (b : List ℕ). c.wait.new.self ≡
            tidied (waiting c.args.by.now.id.now k true (started k q (new_authority q b c.args.by.now.asker.now.depth c.args.ring) c.args.self.now))) callout
            (c.wait.ensures ∙ ap (waiting c.args.by.now.id.now k true) (c.link_in_room.ensures
            ∙ ap (λ (w : World). tidied (linked_in (Some c.args.ring) k w)) c.in_ok-key.ensures.ok)),
      ),
    )
