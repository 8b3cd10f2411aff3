use Rattle.std.proofs.Common.{ap, sym, ◌∙◌}
use Rattle.ps_language.specs.Schedules.{moves}
use Rattle.ps_cuts.proofs.Standing.{proper_same}
use Rattle.ps_cuts.proofs.trees.RunsRunTree.again.Goals as goal

pub returns-clause-of : goal.returns-clause-of
returns-clause-of g c = record {
  same = c.in_ok-retrace.ensures.program ∙ c.in_ok-other.ensures.of.same;
  made = c.in_ok-retrace.ensures.made;
  proper = proper_same c.args.run.now.vault.program c.retrace.new.self.vault.program
      c.args.run.now.vault.schedule c.retrace.new.self.vault.schedule
      (c.in_ok-retrace.ensures.program ∙ (c.in_ok-other.ensures.of.same ∙ sym c.requires.same))
      (c.in_ok-retrace.ensures.steps ∙ ap moves c.requires.made.kept) c.requires.proper;
}
