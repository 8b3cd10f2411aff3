use Rattle.std.proofs.Common.{◌≡◌, ◌<◌, ℕ, false}
use Rattle.std.specs.Prelude.{slice_index_or}
use Rattle.ps_run_options.specs.Views.{is_stop}
use Rattle.ps_run_options.proofs.views.full_stop.Given as goal

-- none stands before
abbrev pub invariant-loop-place : goal.invariant-loop-place
invariant-loop-place l = (k : ℕ) → k < l.place → is_stop (slice_index_or l.text k 0) ≡ false
