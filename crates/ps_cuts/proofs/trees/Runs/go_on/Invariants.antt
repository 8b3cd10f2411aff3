use Rattle.std.proofs.Common.{◌≡◌, ◌+◌, ◌++◌, List, ℕ, length}
use Rattle.ps_language.specs.Worlds.{IsProper}
use Rattle.ps_searches.specs.Searches.{AreFree}
use Rattle.ps_cuts.specs.Cuts.{price}
use Rattle.ps_cuts.specs.Runs.{IsMade, contexts_of}
use Rattle.ps_cuts.proofs.trees.Runs.go_on.Given as goal

-- those so far cost nothing, if they could be made
abbrev pub invariant-loop-left : goal.invariant-loop-left
invariant-loop-left g l = record {
  same : l.run.vault.program ≡ l.fn.run.vault.program;
  made : IsMade l.run.vault l.run.path.items l.run.turn l.run.last;
  freely : (more : List ℕ)
      × (contexts_of l.run.vault.schedule ≡ contexts_of l.fn.run.vault.schedule ++ more)
      × (length more + l.left ≡ l.steps)
      × (IsProper l.run.vault.program l.run.vault.schedule
      → AreFree (price l.self.task.program.now) (contexts_of l.fn.run.vault.schedule) more);
}

abbrev pub decreases-loop-left : goal.decreases-loop-left
decreases-loop-left g l = l.left
