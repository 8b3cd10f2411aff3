use Rattle.std.proofs.Common.{ap, subst, sym, ◌∙◌}
use Rattle.ps_language.specs.Schedules.{moves}
use Rattle.ps_language.specs.World.{World}
use Rattle.ps_cuts.specs.Runs.{EndsLike, contexts_of}
use Rattle.ps_cuts.proofs.Batches.{steps_back}
use Rattle.ps_cuts.proofs.Standing.{both_ok, now_is}
use Rattle.ps_cuts.proofs.trees.RunsRunTree.finish.Goals as goal

pub returns : goal.returns
returns g c =
    let story = c.go_on.new.run.vault in
    let plain = c.in_ok-go_on.ensures.made.plain in
    both_ok c.end.result
    (λ end ends path. record {
      whole = contexts_of story.schedule;
      makes = ap moves path ∙ sym (steps_back story.schedule plain);
      goes = c.in_ok-go_on.ensures.freely c.end.ensures.proper;
      ends = subst (λ (w : World). EndsLike w end.0)
          (sym (now_is c.args.self.now.task.program.now story
          (c.in_ok-go_on.ensures.same ∙ c.requires.same) plain)) ends;
    })
    c.end.ensures.ends c.end.ensures.path
