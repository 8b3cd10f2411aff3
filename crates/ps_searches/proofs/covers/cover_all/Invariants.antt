use Rattle.std.proofs.Common.{◌≡◌, ◌*◌, ◌^◌, ◌-◌, ◌≤◌, length}
use Rattle.std.specs.Prelude.{All}
use Rattle.ps_searches.specs.Graphs.{AreBetween, AreFollowed, AreKept, IsEndOf}
use Rattle.ps_searches.proofs.covers.cover_all.Given as goal

-- the worlds so far are followed, and told where no context can step
abbrev pub invariant-loop-place : goal.invariant-loop-place
invariant-loop-place g l =
    let price = g.G.RunGraph.price l.graph in
    let Ends = g.G.RunGraph.Ends l.graph in
    let IsImage = g.G.RunGraph.IsImage l.graph in
    let Makes = g.G.RunGraph.Makes in
    let count = g.G.RunGraph.steps in
    record {
      within : l.place ≤ length l.cover.kept.entries;
      fewer : length l.cover.endings.entries ≤ l.place;
      kept : AreKept price IsImage Makes count l.cover.most l.cover.kept.entries;
      each : All (IsEndOf price Ends Makes) l.cover.endings.entries;
      most : l.cover.most ≡ l.fn.cover.most;
      steps : l.cover.steps ≤ l.place * 2 ^ 32;
      between : AreBetween price IsImage Makes count l.cover.kept.entries l.place l.cover.steps;
      followed : AreFollowed price IsImage Makes count Ends l.cover.kept.entries
          l.cover.endings.entries l.place;
    }

abbrev pub decreases-loop-place : goal.decreases-loop-place
decreases-loop-place g l = l.cover.most - l.place
