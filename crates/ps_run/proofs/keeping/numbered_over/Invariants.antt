use Rattle.std.proofs.Common.{◌≢◌, ◌≤◌, ℕ, IfSome}
use Rattle.ps_run.specs.Driving.{numbered}
use Rattle.ps_run.proofs.keeping.numbered_over.Given as goal

-- the files of the numbers so far hold something else
abbrev pub invariant-loop-place : goal.invariant-loop-place
invariant-loop-place g l = record {
  others : (number : ℕ) → 1 ≤ number → number ≤ l.place
      → IfSome (g.F.FileSet.contents l.files (numbered l.prefix number)) (λ known. known ≢ l.program);
}
