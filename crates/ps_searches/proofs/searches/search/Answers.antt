use Rattle.std.proofs.Common.{ℕ, ap, subst}
use Rattle.std.specs.Prelude.{All}
use Rattle.ps_searches.specs.declared.found.Bounds.{Bounds}
use Rattle.ps_searches.specs.Searches.{IsTold}
use Rattle.ps_searches.proofs.searches.search.Goals as goal

pub returns-clause-each : goal.returns-clause-each
returns-clause-each g c =
    subst (λ (n : ℕ). All (IsTold (g.T.RunTree.price c.args.tree.now)
    (g.T.RunTree.Ends c.args.tree.now) g.T.RunTree.Makes n)
    c.explore_all-found.new.search.endings.entries)
    (ap (λ (b : Bounds). b.steps) c.new-search.ensures.bounds) c.explore_all-found.ensures.each
