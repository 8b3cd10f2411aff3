use Rattle.std.proofs.Common.{ℕ, ◌∙◌, sym, ap, length}
use Rattle.ps_run_schedules.specs.Keeping.{Kept}
use Rattle.ps_run_schedules.proofs.Appends.{count_is}
use Rattle.ps_run_schedules.proofs.packed.Schedule.len.Goals as goal

pub returns : goal.returns
returns c =
    let inside = c.self.inside in
    sym (count_is inside.count inside.bytes.items inside.last c.self.invariant)
    ∙ ap {B = ℕ} (λ (kept : Kept). length kept.items) c.self.view_is
