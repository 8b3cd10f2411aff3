use Rattle.std.proofs.Common.{◌≡◌, arith, ◌∙◌}
use Rattle.std.specs.Prelude.{replicate}
use Rattle.ps_language.specs.Schedules.{plain_move}
use Rattle.ps_vault.specs.Stories.{world_at}
use Rattle.ps_cuts.proofs.Standing.{can_there, one_ready, proper_further}
use Rattle.ps_cuts.proofs.trees.RunsRunTree.step.Goals as goal

pub make-requires-clause-ready : goal.make-requires-clause-ready
make-requires-clause-ready g c =
    can_there c.args.self.now.task.program.now c.args.run.now.vault c.requires.of.same
    c.requires.of.made.plain c.args.context c.requires.can

pub returns-clause-of : goal.returns-clause-of
returns-clause-of g c =
    let some = c.in_ok-make.ensures.some in
    let most = c.in_ok-make.ensures.most in
    let n = c.in_ok-make.field-0 in
    let one : n ≡ 1 = omega (arith, some, most) in
    record {
      same = c.in_ok-make.ensures.program ∙ c.requires.of.same;
      made = c.in_ok-make.ensures.made;
      proper = proper_further c.args.run.now.vault c.make.new.self.vault
          (replicate n (plain_move c.args.context)) c.in_ok-make.ensures.program
          c.in_ok-make.ensures.steps
          (one_ready (world_at c.args.run.now.vault) c.args.context n one
          (can_there c.args.self.now.task.program.now c.args.run.now.vault c.requires.of.same
          c.requires.of.made.plain c.args.context c.requires.can)) c.requires.of.proper;
    }
