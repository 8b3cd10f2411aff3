-- The steps of a schedule are made again, and its image is compared.
use Rattle.std.proofs.Common.{List, ℕ, ap, subst, sym, ◌∙◌}
use Rattle.ps_language.specs.Schedules.{moves}
use Rattle.ps_language.specs.Worlds.{IsProper}
use Rattle.ps_run_schedules.specs.Keeping.{Kept}
use Rattle.ps_worlds.proofs.Following.{come_to, run_looked}
use Rattle.ps_worlds.proofs.Ways.{kept_way, path_is}
use Rattle.ps_worlds.proofs.graphs.WorldsRunGraph.run_to.Goals as goal

pub retrace-requires-clause-plain : goal.retrace-requires-clause-plain
retrace-requires-clause-plain g c =
    (kept_way c.args.self.now.runs.now.task.program.now c.args.self.now.first.items
    (c.args.image.now, c.args.schedule.now) c.requires).plain

pub retrace-requires-clause-proper : goal.retrace-requires-clause-proper
retrace-requires-clause-proper g c =
    subst (λ (p : List ℕ). IsProper p c.args.schedule.now.items) (sym c.in_ok-run.ensures.of.same)
    (kept_way c.args.self.now.runs.now.task.program.now c.args.self.now.first.items
    (c.args.image.now, c.args.schedule.now) c.requires).proper

pub returns-then-eq-clause-of : goal.returns-then-eq-clause-of
returns-then-eq-clause-of g c =
    run_looked c.args.self.now.runs.now.task.program.now _ _
    (c.in_ok-retrace.ensures.program ∙ c.in_ok-run.ensures.of.same) c.in_ok-retrace.ensures.made
    c.look.ensures.held c.look.ensures.path c.in_ok-look.ensures.ready

pub returns-then-eq-clause-path : goal.returns-then-eq-clause-path
returns-then-eq-clause-path g c = λ made makes.
    path_is c.look.new.self.path.items made
    (ap (λ (kept : Kept). moves kept.items) c.look.ensures.path
    ∙ (c.in_ok-retrace.ensures.steps ∙ makes))

pub returns-then-eq-clause-at : goal.returns-then-eq-clause-at
returns-then-eq-clause-at g c = λ made is.
    let of = returns-then-eq-clause-of g c in
    come_to c.args.self.now.runs.now.task.program.now c.args.self.now.first.items _ made _
    c.in_ok-here.here c.args.image.now of.same (sym c.eq.ensures ∙ c.if-eq.true) c.as_slice.ensures.value c.in_ok-here.ensures is
