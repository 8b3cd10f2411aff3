-- An order has few steps; without a cut it has no line.
use Rattle.std.proofs.Common.{[], append-nil, sym, ◌∙◌}
use Rattle.ps_run.proofs.EachOrder.{few_steps, no_cuts_told}
use Rattle.ps_run.proofs.orders.append_cuts.Goals as goal

pub cuts_of-requires-clause-few : goal.cuts_of-requires-clause-few
cuts_of-requires-clause-few g c =
    few_steps c.args.runs.now.task.program.now c.requires.order.0 c.args.told.now.schedule.items
    c.requires.order.1 c.requires.order.2

pub returns-then-told-eq0 : goal.returns-then-told-eq0
returns-then-told-eq0 g c = (
  [],
  sym (append-nil c.args.to.now.items),
  no_cuts_told c.args.file.now c.args.runs.now.task.program.now c.args.told.now.schedule.items
      (c.requires.costs ∙ c.if-told-eq0.true),
)
