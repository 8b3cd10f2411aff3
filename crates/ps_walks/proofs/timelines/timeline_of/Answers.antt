use Rattle.std.proofs.Common.{◌∙◌, ◌++◌, length, refl, subst, sym, ap}
use Rattle.ps_language.specs.Schedules.{moves}
use Rattle.ps_language.specs.World.{World}
use Rattle.ps_language.specs.Worlds.{starting_world}
use Rattle.ps_timelines.specs.declared.pictures.Timeline.{Timeline}
use Rattle.ps_timelines.specs.Pictures.{picture}
use Rattle.ps_walks.specs.Drawings.{IsDrawn}
use Rattle.ps_walks.specs.Timelines.{AreLanes, labels_of, moments_of}
use Rattle.ps_walks.proofs.timelines.timeline_of.Goals as goal

pub returns : goal.returns
returns g c =
    let start : World = starting_world c.args.run.program.now in
    let made = c.in_ok-steps.ensures start c.in_ok-walk.ensures.at
    (c.in_ok-drawing.ensures.drawn start c.in_ok-walk.ensures.at) in
    let all = c.of.ensures in
    let drawn = subst (λ all. IsDrawn start all c.draw_steps.new.drawing) all made.1 in
    let told : Timeline = record {
      file = c.args.run.file;
      steps = c.in_ok-steps.steps;
      outcome = c.args.outcome;
      lanes = c.as_slice.result;
      forks = c.as_slice-2.result;
      joins = c.as_slice-3.result;
      notifies = c.as_slice-4.result;
    } in (
      told,
      record {
        file = refl;
        steps = made.0 ∙ ap length all;
        outcome = refl;
        count = ap length c.as_slice.ensures.value ∙ drawn.count;
        lanes = subst (AreLanes (moments_of start (moves c.args.schedule))
            (labels_of start (moves c.args.schedule))) (sym c.as_slice.ensures.value) drawn.lanes;
        forks = c.as_slice-2.ensures.value ∙ drawn.forks;
        joins = c.as_slice-3.ensures.value ∙ drawn.joins;
        notifies = c.as_slice-4.ensures.value ∙ drawn.notifies;
      },
      c.in_ok-append_picture.ensures.appended
          ∙ ap (λ text. text ++ picture told) c.new-text.ensures.items,
    )
