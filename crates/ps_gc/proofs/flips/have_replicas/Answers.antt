use Rattle.std.proofs.Common.{rules, ◌+◌, length, ◌∙◌, arith}
use Rattle.std.proofs.lemmas.Grind.{common_steps}
use Rattle.ps_table.proofs.Looking.{more_looks}
use Rattle.ps_gc.proofs.flips.have_replicas.Goals as goal

pub returns-then-not-has_replica-clause-steps : goal.returns-then-not-has_replica-clause-steps
returns-then-not-has_replica-clause-steps g c =
    let m = c.args.gc.now.seat.me.0 in
    let inside = c.loop-root-test.true in (
      more_looks c.loop-root.root-index 1 (length c.args.roots.now) m.vm_events _ _
          (omega (arith, inside)) c.loop-root.invariant.steps c.has_replica.ensures.steps.0,
      c.has_replica.ensures.steps.1 ∙ c.loop-root.invariant.gc_steps,
    )

pub loop-root-preserved : goal.loop-root-preserved
loop-root-preserved g c = record {
  left = grind (arith, common_steps);
  stand = grind (arith, common_steps);
  vm_part = search rules;
  gc_part = search rules;
  steps = more_looks c.loop-root.root-index 1 (c.loop-root.root-index + 1)
      c.args.gc.now.seat.me.0.vm_events _ _ (omega arith) c.loop-root.invariant.steps
      c.has_replica.ensures.steps.0;
  gc_steps = c.has_replica.ensures.steps.1 ∙ c.loop-root.invariant.gc_steps;
  sits = search rules;
  same = search rules;
}
