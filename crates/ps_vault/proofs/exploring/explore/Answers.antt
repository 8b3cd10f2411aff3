use Rattle.std.proofs.Common.{sym, ◌∙◌, subst, arith}
use Rattle.ps_vault.specs.Endings.{AreEndings, no_run}
use Rattle.ps_vault.proofs.Endings.{one_run_more}
use Rattle.ps_vault.proofs.exploring.explore.Goals as goal

pub loop-made-init : goal.loop-made-init
loop-made-init g c = record {
  within = omega arith;
  are = subst (AreEndings g.S.Interpret.asks c.args.task.now.program.now c.args.budget.steps
      (record { output = c.args.task.now.setup.output; entries = c.args.budget.entries }) 0)
      (sym c.new-endings.ensures.items) no_run;
}

pub loop-made-preserved : goal.loop-made-preserved
loop-made-preserved g c = record {
  within = omega (arith, c.loop-made-test.true);
  are = one_run_more g.S.Interpret.asks c.args.task.now.program.now c.args.budget.steps
      (record { output = c.args.task.now.setup.output; entries = c.args.budget.entries })
      c.loop-made.made
      c.loop-made.endings.items c.keep.new.endings.items c.in_ok-report.report
      c.loop-made.invariant.are
      (record {
        run = c.in_ok-report.ensures.run;
        bounded = c.in_ok-report.ensures.bounded;
        known = sym c.is_memory.ensures ∙ c.if-is_memory.false;
      }) c.in_ok-keep.ensures;
}
