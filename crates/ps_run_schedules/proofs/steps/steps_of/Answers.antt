use Rattle.std.proofs.Common.{ap, arith, ◌∙◌}
use Rattle.ps_language.specs.Schedules.{count_of}
use Rattle.ps_language.proofs.ScheduleLaws.{count_of-nil}
use Rattle.ps_run_schedules.proofs.Counting.{count_first}
use Rattle.ps_run_schedules.proofs.steps.steps_of.Goals as goal

pub loop-entry-preserved : goal.loop-entry-preserved
loop-entry-preserved c =
    let first = ap count_of c.in-Some.ensures
    ∙ count_first c.in-Some.entry c.next.new.self in
    record {
      is = omega (arith, first);
      within = omega arith;
    }

pub returns : goal.returns
returns c =
    let none = ap count_of c.in_default.ensures.0 ∙ count_of-nil in
    omega (arith, none, c.loop-entry.invariant.is, c.loop-entry.invariant.within)
