-- No step was made, and none waits.
use Rattle.std.proofs.Common.{List, ap, ◌∙◌, arith, refl, sym, subst}
use Rattle.ps_language.specs.declared.schedules.Entry.{Entry}
use Rattle.ps_language.specs.Schedules.{count_of, moves}
use Rattle.ps_vault.specs.declared.reports.Room.{Room}
use Rattle.ps_vault.specs.Reports.{all_fit}
use Rattle.ps_language.proofs.ScheduleLaws.{count_of-nil}
use Rattle.std.specs.Prelude.{None}
use Rattle.ps_vault.proofs.Warrants.{nothing_warranted}
use Rattle.ps_vault.specs.Stories.{world_at}
use Rattle.ps_vault.proofs.Screening.{begins_same, none_shown}
use Rattle.ps_run_workers.specs.Batons.{IsWatched, Start}
use Rattle.ps_run_workers.proofs.Keeping.{progress, waits_none}
use Rattle.ps_run_workers.proofs.batons.Baton.new.Goals as goal

pub invariant_of-result : goal.invariant_of-result
unfolding moves
invariant_of-result g c = record {
  program = c.in-Ok.ensures.program ∙ c.into_task.ensures.program
      ∙ ap (λ (s : Start). s.program) (sym c.requires.start);
  config = ap (λ (s : Start). s.config) (sym c.requires.start);
  begins = begins_same g.O.Origin.start.schedule c.in-Ok.vault.schedule
      (c.in-Ok.ensures.schedule ∙ ap (λ (s : Start). s.schedule) (sym c.requires.start));
  watched = subst (λ (s : Start). IsWatched s.sight (progress c.in-Ok.vault c.args.job.config 0
      c.args.job.config.steps c.args.screen None)) (sym c.requires.start) (record {
        shown = none_shown c.args.screen (world_at c.in-Ok.vault).printed
            c.requires.nothing c.requires.going;
        watching = refl;
        still = λ unseen. refl;
      });
  numbers = c.requires.numbers;
  few = omega (arith, c.if-prove.false);
  budget = omega arith;
  whole = λ going. refl;
  counted = ap count_of c.in-Ok.ensures.schedule ∙ count_of-nil;
  within = omega arith;
  fits = ap (λ (s : List Entry). all_fit (moves s)) c.in-Ok.ensures.schedule;
  most = λ i. record {
    output = (c.in-Ok.ensures.most ∙ c.into_task.ensures.output) i;
    entries = (c.in-Ok.ensures.entries ∙ ap (λ (room : Room). room.most) c.of_run-room.ensures) i;
  };
  space = c.in-Ok.ensures.space ∙ c.requires.sized;
  warranted = nothing_warranted _ _ _ c.in-Ok.ensures.schedule;
  flips = omega (arith, c.in-Ok.ensures.flips, c.requires.unmoved);
  room = let first = ap (λ (room : Room). room.first) c.of_run-room.ensures in
      omega (arith, c.in-Ok.ensures.room, first);
  waits = waits_none (progress c.in-Ok.vault c.args.job.config 0
      c.args.job.config.steps c.args.screen None)
      c.in-Ok.ensures.calling;
  judged = tt;
}
