use Rattle.std.proofs.Common.{◌≡◌, ◌≤◌, ◌++◌, ◌∷◌, [], ℕ, Some, ◌-◌, ◌*◌, ◌^◌}
use Rattle.std.specs.Prelude.{List}
use Rattle.ps_searches.specs.declared.found.Told.{Told}
use Rattle.ps_searches.specs.Searches.{AllTold, AreTold, IsCounted, IsOnWay, Keeps}
use Rattle.ps_searches.proofs.searches.+explore.Given as goal

abbrev pub decreases-explore : goal.decreases-explore
decreases-explore g l = 2 * l.rest.steps

abbrev pub decreases-explore_other : goal.decreases-explore_other
decreases-explore_other g l = 2 * l.rest.steps - 1

-- where each way from here is told, each from the start is
abbrev pub invariant-explore-loop-rest : goal.invariant-explore-loop-rest
invariant-explore-loop-rest g l =
    let price = g.T.RunTree.price l.tree in
    let Ends = g.T.RunTree.Ends l.tree in
    record {
      within : l.rest.steps ≤ l.fn.rest.steps;
      toll : l.rest.price ≡ l.fn.rest.price;
      of : g.T.RunTree.IsOf l.tree l.run;
      way : IsOnWay price l.search.bounds.steps l.search.price (g.T.RunTree.path l.run)
          l.rest.steps l.rest.price;
      told : AreTold price Ends g.T.RunTree.Makes l.search.bounds.steps l.search.price
          l.search.endings.entries;
      runs : IsCounted l.search;
      more : l.fn.search.runs ≤ l.search.runs;
      bounds : l.search.bounds ≡ l.fn.search.bounds;
      at : l.search.price ≡ l.fn.search.price;
      keeps : Keeps Ends l.fn.search.endings.entries l.search.endings.entries;
      rest : (final : List (g.row.T-Ending.Denot × Told g.row.T-Schedule.Denot))
          → Keeps Ends l.search.endings.entries final
          → AllTold price Ends l.rest.steps l.rest.price (g.T.RunTree.path l.run) final
          → AllTold price Ends l.fn.rest.steps l.fn.rest.price (g.T.RunTree.path l.fn.run) final;
    }

abbrev pub decreases-explore-loop-rest : goal.decreases-explore-loop-rest
decreases-explore-loop-rest g l = l.rest.steps

-- each way is told on which another context steps next, of those so far
abbrev pub invariant-explore-loop-context : goal.invariant-explore-loop-context
invariant-explore-loop-context g l =
    let price = g.T.RunTree.price l.tree in
    let Ends = g.T.RunTree.Ends l.tree in
    record {
      of : g.T.RunTree.IsOf l.tree l.run;
      path : g.T.RunTree.path l.run ≡ g.T.RunTree.path l.initial.run;
      told : AreTold price Ends g.T.RunTree.Makes l.search.bounds.steps l.search.price
          l.search.endings.entries;
      runs : IsCounted l.search;
      more : l.initial.search.runs ≤ l.search.runs;
      bounds : l.search.bounds ≡ l.initial.search.bounds;
      at : l.search.price ≡ l.initial.search.price;
      keeps : Keeps Ends l.initial.search.endings.entries l.search.endings.entries;
      others : (context one : ℕ) → context ≤ l.after → ¬ (context ≡ l.first)
          → price (g.T.RunTree.path l.initial.run) context ≡ Some one → one ≤ l.rest.price
          → AllTold price Ends (l.rest.steps - 1) (l.rest.price - one)
          (g.T.RunTree.path l.initial.run ++ context ∷ []) l.search.endings.entries;
    }

abbrev pub decreases-explore-loop-context : goal.decreases-explore-loop-context
decreases-explore-loop-context g l = 2 ^ 32 - l.after
