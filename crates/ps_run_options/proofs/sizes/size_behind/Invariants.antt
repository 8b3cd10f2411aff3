use Rattle.std.proofs.Common.{◌≡◌, drop}
use Rattle.ps_run_options.specs.Sizes.{size_behind}
use Rattle.ps_run_options.proofs.sizes.size_behind.Given as goal

-- what is left stands behind the number so far
abbrev pub invariant-loop-place : goal.invariant-loop-place
invariant-loop-place l = record {
  same : size_behind l.initial.number l.text ≡ size_behind l.number (drop l.place l.text);
}
