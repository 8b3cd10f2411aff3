-- It rests where it has just begun.
use Rattle.std.proofs.Common.{refl, sym, ap, ◌∙◌, subst}
use Rattle.ps_run_workers.specs.Slices.{HasCome, begun}
use Rattle.ps_run_workers.proofs.Slices.{come_begun, come_rests}
use Rattle.ps_run_workers.proofs.standing.Standing.new.Goals as goal
