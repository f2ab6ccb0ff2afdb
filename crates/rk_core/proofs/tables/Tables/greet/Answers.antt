use Rattle.rk_core.proofs.Words.{refl, ap, ◌∙◌, subst, session_changed, with_context, Done, World, Greeting, MakesIf, HasSessionRing, HasUserRing}
use Rattle.rk_core.proofs.Words.{with_new_rings}
use Rattle.rk_message.specs.declared.reply.Reply.TheVariants.{Rings}
use Rattle.rk_rings.specs.declared.kind.RingKind.TheVariants as kind
use Rattle.rk_core.proofs.Stepping.SessionsAlone.{in_sessions}
use Rattle.rk_core.proofs.Greetings.RingsOfAContext.{new_at_first, none_made_yet}
use Rattle.rk_core.proofs.Greetings.UserRing.{KeepsUsers, keeps_all, keeps_if, keeps_session, joined_or_made, user_made}
use Rattle.rk_core.proofs.tables.Tables.greet.Goals as goal

pub make_rings-requires-clause-new : goal.make_rings-requires-clause-new
make_rings-requires-clause-new c =
    let old : World = c.args.self.now in
    c.in_ok-user.ensures.stay old.rings
    (c.in_ok-session.ensures.stay old.rings
    (c.in_ok-process.ensures.stay old.rings
    (c.in_ok-thread.ensures.stay old.rings (new_at_first c.in_ok-rings.rings.serials c.in_ok-rings.rings.made.items old c.in_ok-rings.ensures.0
    c.in_ok-rings.ensures.1 c.requires.sound.rings))))

pub returns-clause-ok : goal.returns-clause-ok
returns-clause-ok c =
    let old : World = c.args.self.now in
    let g : Greeting = c.args.greeting.now in
    let w1 : World = with_new_rings c.make_if.new.self.serials c.make_if.new.self.made.items old in
    let w2 : World = with_new_rings c.make_if-2.new.self.serials c.make_if-2.new.self.made.items old in
    let w3 : World = with_new_rings c.make_or.new.self.serials c.make_or.new.self.made.items old in
    let made : World = with_new_rings c.make_or-2.new.self.serials c.make_or-2.new.self.made.items old in
    let thread : MakesIf g.thread kind.Thread g.uid old w1 c.in_ok-thread.thread =
    subst (λ (w : World). MakesIf g.thread kind.Thread g.uid w w1 c.in_ok-thread.thread)
    (none_made_yet c.in_ok-rings.rings.serials c.in_ok-rings.rings.made.items old c.in_ok-rings.ensures.0 c.in_ok-rings.ensures.1)
    (c.in_ok-thread.ensures.makes old) in
    let process : MakesIf g.process kind.Process g.uid w1 w2 c.in_ok-process.process = c.in_ok-process.ensures.makes old in
    let session : HasSessionRing g.join g.uid w2 w3 c.in_ok-session.session =
    joined_or_made g.join g.uid w2 w3 c.in_ok-session.session (c.in_ok-session.ensures.makes old) in
    let keeps : KeepsUsers g.uid old w3 =
    keeps_session g.join g.uid old w2 w3 c.in_ok-session.session session
    (keeps_if g.process kind.Process g.uid refl old w1 w2 c.in_ok-process.process process
    (keeps_if g.thread kind.Thread g.uid refl old old w1 c.in_ok-thread.thread thread (keeps_all g.uid old c.requires.sound.rings))) in
    let user : HasUserRing g.uid w3 made c.in_ok-user.user =
    user_made g.uid old w3 made c.args.there.now c.in_ok-user.user c.requires.user keeps (c.in_ok-user.ensures.makes old) in (
      c.in_ok-thread.thread,
      c.in_ok-process.process,
      c.in_ok-session.session,
      c.in_ok-user.user,
      made,
      record { w1 = w1; w2 = w2; w3 = w3; thread_made = thread; process_made = process; session_made = session; user_made = user },
      (
        λ i. Done (Rings (c.number.ensures i) (c.number-2.ensures i) (c.get.ensures.number i) (c.get-2.ensures.number i)),
        let t = c.self.inside in
            let given = with_context (record {
              uid = g.uid;
              gid = g.gid;
              thread = c.in_ok-thread.thread;
              process = c.in_ok-process.process;
              session = c.in_ok-session.session;
              user = c.in_ok-user.user;
            }) in
            in_sessions t.negative t.keys t.rings t.auths.sessions c.set_context.new.self.sessions c.make_rings.new.self (session_changed c.args.id.now given)
            c.self.view_is c.set_context.ensures.sessions
            ∙ ap (λ (w : World). record w { sessions = session_changed c.args.id.now given w.sessions }) c.in_ok-make_rings.ensures.ok,
      ),
    )
