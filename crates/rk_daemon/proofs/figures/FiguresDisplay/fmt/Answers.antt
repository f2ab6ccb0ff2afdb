use Rattle.std.proofs.Common.{◌≡◌, ℕ, List, ◌++◌, ◌∙◌, append_assoc}
use Rattle.std.specs.Prelude.{codes, decimal}
use Rattle.rk_daemon.specs.Figures.{clients_text, in_run_text, in_halls_text}
use Rattle.rk_daemon.proofs.figures.FiguresDisplay.fmt.Goals as goal

-- eight texts in a row, from the last one on
nested : (a b c d e f g h : List ℕ) → a ++ b ++ c ++ d ++ e ++ f ++ g ++ h ≡ a ++ (b ++ (c ++ (d ++ (e ++ (f ++ (g ++ h))))))
nested a b c d e f g h =
    append_assoc (a ++ b ++ c ++ d ++ e ++ f) g h
    ∙ append_assoc (a ++ b ++ c ++ d ++ e) f (g ++ h)
    ∙ append_assoc (a ++ b ++ c ++ d) e (f ++ (g ++ h))
    ∙ append_assoc (a ++ b ++ c) d (e ++ (f ++ (g ++ h)))
    ∙ append_assoc (a ++ b) c (d ++ (e ++ (f ++ (g ++ h))))
    ∙ append_assoc a b (c ++ (d ++ (e ++ (f ++ (g ++ h)))))

pub returns-clause-writes : goal.returns-clause-writes
returns-clause-writes g c =
    let s = c.args.self.now in
    let comma = codes ", " in
    let volumes = codes ", volumes " in
    rw (nested (codes "status: ") (clients_text s.clients) comma (in_run_text s.handlers) comma (in_halls_text s.halls) volumes (decimal s.volumes))
    c.write.ensures.writes
