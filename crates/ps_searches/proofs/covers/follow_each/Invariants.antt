use Rattle.std.proofs.Common.{◌≡◌, ◌+◌, ◌*◌, ◌^◌, ◌-◌, ◌≤◌, ◌<◌, ◌++◌, ◌∷◌, [], ℕ}
use Rattle.std.specs.Prelude.{List, IsSome, Some, length, slice_get}
use Rattle.ps_searches.specs.Graphs.{AreKept, AreNear, Grows, IsKnown, count_to}
use Rattle.ps_searches.proofs.covers.follow_each.Given as goal

-- each context so far is followed, if it can step
abbrev pub invariant-loop-context : goal.invariant-loop-context
invariant-loop-context g l =
    let price = g.G.RunGraph.price l.graph in
    let IsImage = g.G.RunGraph.IsImage l.graph in
    let Makes = g.G.RunGraph.Makes in
    let count = g.G.RunGraph.steps in
    record {
      same : l.run ≡ l.initial.run;
      kept : AreKept price IsImage Makes count l.cover.most l.cover.kept.entries;
      near : AreNear price IsImage Makes count l.cover.kept.entries
          (length (g.G.RunGraph.path l.initial.run) + 1);
      grows : Grows l.initial.cover.kept.entries l.cover.kept.entries;
      most : l.cover.most ≡ l.initial.cover.most;
      endings : l.cover.endings ≡ l.initial.cover.endings;
      steps : l.cover.steps ≤ l.place * 2 ^ 32 + l.after;
      ways : (one : g.row.G-Image.Denot × g.row.G-Schedule.Denot)
          → slice_get l.initial.cover.kept.entries l.place ≡ Some one
          → (path : List ℕ) → IsImage one.0 path
          → l.cover.steps ≡ l.initial.cover.steps + count_to price path l.after;
      few : l.after < 2 ^ 32;
      followed : (one : g.row.G-Image.Denot × g.row.G-Schedule.Denot)
          → slice_get l.initial.cover.kept.entries l.place ≡ Some one
          → (path : List ℕ) → IsImage one.0 path → (context : ℕ) → context ≤ l.after
          → IsSome (price path context)
          → IsKnown price IsImage Makes count l.cover.kept.entries (count one.1 + 1)
          (path ++ context ∷ []);
    }

abbrev pub decreases-loop-context : goal.decreases-loop-context
decreases-loop-context g l = 2 ^ 32 - l.after
