use Rattle.rk_auth.proofs.Words.{◌∙◌, ap, sym, subst, Says, Leads, leads_within}
use Rattle.std.specs.FinMap as map
use Rattle.rk_auth.proofs.Walks.{no_client, walk_tells}
use Rattle.rk_auth.proofs.auths.Auths.would_close_circle.Goals as goal

pub returns-in-Client : goal.returns-in-Client
returns-in-Client c h = no_client _ _ _ (subst (Leads c.args.self.now.sessions c.args.key) c.in-Client.is h)

pub returns-in-Handler : goal.returns-in-Handler
returns-in-Handler c =
    subst (λ s. Says c.leads.result (Leads c.args.self.now.sessions c.args.key s)) (sym c.in-Handler.is)
    (walk_tells _ _ _ _ (c.leads.ensures ∙ ap (λ h. leads_within h.sessions.constructions
    (map.len h.sessions.constructions) c.args.key c.in-Handler.own) c.self.view_is))
