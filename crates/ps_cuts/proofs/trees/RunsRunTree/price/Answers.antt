use Rattle.std.proofs.Common.{sym, ◌∙◌}
use Rattle.ps_vault.specs.Stories.{world_at}
use Rattle.ps_cuts.proofs.Standing.{can_there, due_price, none_ready, other_price}
use Rattle.ps_cuts.proofs.trees.RunsRunTree.price.Goals as goal

pub returns-then-due-context-clause-price : goal.returns-then-due-context-clause-price
returns-then-due-context-clause-price g c =
    due_price c.args.self.now.task.program.now c.args.run.now.vault c.requires.of.same
    c.requires.of.made.plain c.in-Some.due c.args.context
    (sym c.in-Some.is ∙ c.due.ensures.due)
    (can_there c.args.self.now.task.program.now c.args.run.now.vault c.requires.of.same
    c.requires.of.made.plain c.args.context c.requires.can) c.if-due-context.true

pub returns-else-due-context-clause-price : goal.returns-else-due-context-clause-price
returns-else-due-context-clause-price g c =
    other_price c.args.self.now.task.program.now c.args.run.now.vault c.requires.of.same
    c.requires.of.made.plain c.in-Some.due c.args.context
    (sym c.in-Some.is ∙ c.due.ensures.due)
    (can_there c.args.self.now.task.program.now c.args.run.now.vault c.requires.of.same
    c.requires.of.made.plain c.args.context c.requires.can) c.if-due-context.false

pub returns-in-None-clause-price : goal.returns-in-None-clause-price
returns-in-None-clause-price g c =
    absurd (none_ready (world_at c.args.run.now.vault) c.args.context c.in-None.ensures.none
    (can_there c.args.self.now.task.program.now c.args.run.now.vault c.requires.of.same
    c.requires.of.made.plain c.args.context c.requires.can))
