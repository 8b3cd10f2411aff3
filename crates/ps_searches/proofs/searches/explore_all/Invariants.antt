use Rattle.std.proofs.Common.{◌≡◌, ◌≤◌, ◌+◌, ◌-◌}
use Rattle.ps_searches.specs.Searches.{AreTold, IsCounted}
use Rattle.ps_searches.proofs.searches.explore_all.Given as goal

-- what is cheaper than this was explored
abbrev pub invariant-loop-below : goal.invariant-loop-below
invariant-loop-below g l = record {
  within : l.below ≤ l.most + 1;
  most : l.most ≡ l.fn.search.bounds.price;
  bounds : l.search.bounds ≡ l.fn.search.bounds;
  runs : IsCounted l.search;
  one : 1 ≤ l.below → 1 ≤ l.search.runs;
  told : AreTold (g.T.RunTree.price l.tree) (g.T.RunTree.Ends l.tree) g.T.RunTree.Makes
      l.search.bounds.steps l.below l.search.endings.entries;
}

abbrev pub decreases-loop-below : goal.decreases-loop-below
decreases-loop-below g l = l.most + 1 - l.below
