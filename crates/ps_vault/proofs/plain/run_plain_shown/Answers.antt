use Rattle.std.proofs.Common.{◌≡◌, ℕ, List, false, true, sym, ap, ◌∙◌, subst, arith}
use Rattle.ps_language.specs.declared.schedules.Entry.{Entry}
use Rattle.ps_language.specs.Schedules.{count_of, moves}
use Rattle.ps_language.proofs.ScheduleLaws.{count_of-nil}
use Rattle.ps_language.specs.Worlds.{starting_world, world}
use Rattle.ps_mem.specs.Objects.{heap_in}
use Rattle.ps_run_schedules.specs.Keeping.{Kept}
use Rattle.ps_vault.specs.Holds.{is_held_up}
use Rattle.ps_vault.specs.Order.{HasTurn, InOrder}
use Rattle.ps_vault.specs.Reports.{are_ordinary, IsRunOf, IsStarved}
use Rattle.ps_vault.specs.Screens.{HasShown}
use Rattle.ps_vault.specs.Stories.{kept_of, world_at}
use Rattle.ps_vault.proofs.Screening.{budget_ends, budget_least, budget_more, budget_most, budget_whole, none_shown, same_bytes}
use Rattle.ps_vault.proofs.Beginning.{nothing_stands, plain_grows}
use Rattle.ps_vault.proofs.Warrants.{nothing_warranted}
use Rattle.ps_vault.proofs.plain.run_plain_shown.Given as givens
use Rattle.ps_vault.proofs.plain.run_plain_shown.Goals as goal
use Rattle.ps_vault.proofs.plain.run_plain_shown.Goals.{After-run-run}

-- the schedule has the steps that were made
counted : (g : givens.Over) (c : After-run-run g)
    → count_of c.run-run.new.self.schedule ≡ c.run-run.result.made
counted g c =
    let none : count_of c.in-Ok.vault.schedule ≡ 0 =
    ap count_of c.in-Ok.ensures.schedule ∙ count_of-nil in
    omega (arith, none, c.run-run.ensures.counted)

pub new-requires : goal.new-requires
unfolding heap_in
new-requires g c = record { empty = nothing_stands _ _ c.plain_with_marks-memory.ensures }

-- ---- the budget

pub into_run-requires-clause-within : goal.into_run-requires-clause-within
into_run-requires-clause-within g c =
    budget_least c.has_failed.result c.run-run.result.made c.args.job.config.steps
    c.budget_of-budget.result c.budget_of-budget.ensures c.run-run.ensures.within

pub into_run-requires-clause-fewer : goal.into_run-requires-clause-fewer
into_run-requires-clause-fewer g c =
    budget_more c.has_failed.result c.run-run.result.made c.args.job.config.steps
    c.budget_of-budget.result c.budget_of-budget.ensures (is_held_up c.run-run.result.told)
    (λ failed. c.run-run.ensures.cut (sym c.has_failed.ensures ∙ failed)) c.run-run.ensures.fewer

pub into_run-requires-clause-ended : goal.into_run-requires-clause-ended
into_run-requires-clause-ended g c = λ free.
    budget_ends c.has_failed.result c.run-run.result.made c.args.job.config.steps
    c.budget_of-budget.result c.budget_of-budget.ensures _
    (λ less going. c.run-run.ensures.ended free less (sym c.has_failed.ensures ∙ going))

pub returns-clause-run : goal.returns-clause-run
returns-clause-run g c = (
  c.budget_of-budget.result,
  budget_most c.has_failed.result c.run-run.result.made c.args.job.config.steps
      c.budget_of-budget.result c.budget_of-budget.ensures c.run-run.ensures.within,
  λ going. budget_whole c.has_failed.result c.run-run.result.made c.args.job.config.steps
      c.budget_of-budget.result c.budget_of-budget.ensures (c.has_failed.ensures ∙ going),
  subst (λ (p : List ℕ). IsRunOf g.S.Interpret.asks p c.budget_of-budget.result
      c.into_run.result) (c.run-run.ensures.program ∙ c.in-Ok.ensures.program ∙ c.into_task.ensures.program)
      c.into_run.ensures.run,
)

-- ---- what was shown

pub run-run-requires-clause-fits : goal.run-run-requires-clause-fits
run-run-requires-clause-fits g c = let none = c.requires.nothing in omega (arith, none)

pub returns-clause-shown : goal.returns-clause-shown
returns-clause-shown g c =
    let prints : c.into_run.result.printed.items ≡ (world_at c.run-run.new.self).printed =
    c.into_run.ensures.run.run.prints ∙ same_bytes c.run-run.new.self c.into_run.result.schedule.items
    (ap (λ (kept : Kept). kept.items) c.into_run.ensures.schedule) in
    subst (HasShown c.args.screen.now.seen c.run-run.new.screen) (sym prints)
    (c.run-run.ensures.shown c.args.screen.now.seen
    (none_shown c.args.screen.now (world_at c.in-Ok.vault).printed c.requires.nothing
    c.requires.going))

pub into_run-requires-clause-starved : goal.into_run-requires-clause-starved
into_run-requires-clause-starved g c = c.run-run.ensures.starved (λ m. plain_grows _ _ _ _)

pub into_run-requires-clause-counted : goal.into_run-requires-clause-counted
into_run-requires-clause-counted g c =
    counted g (goal.at.into_run-requires-clause-counted g c).After-run-run

pub into_run-requires-clause-ordinary : goal.into_run-requires-clause-ordinary
unfolding moves
into_run-requires-clause-ordinary g c = c.run-run.ensures.ordinary
    (ap (λ (entries : List Entry). are_ordinary (moves entries)) c.in-Ok.ensures.schedule)

-- the order of the turns
ordered : (g : givens.Over) (c : After-run-run g)
    → InOrder c.args.job.config.quantum (starting_world c.args.job.program.now)
    (moves c.run-run.new.self.schedule)
unfolding moves
ordered g c =
    subst (λ (p : List ℕ). InOrder c.args.job.config.quantum (starting_world p)
    (moves c.run-run.new.self.schedule)) (c.in-Ok.ensures.program ∙ c.into_task.ensures.program)
    (c.run-run.ensures.order (ap moves c.in-Ok.ensures.schedule))

pub returns-clause-order : goal.returns-clause-order
returns-clause-order g c =
    subst (λ (entries : List Entry). InOrder c.args.job.config.quantum
    (starting_world c.args.job.program.now) (moves entries))
    (sym (ap (λ (kept : Kept). kept.items) c.into_run.ensures.schedule))
    (ordered g (goal.at.returns-clause-order g c).After-run-run)

-- whose turn it was
pub returns-clause-starved : goal.returns-clause-starved
unfolding moves
returns-clause-starved g c = λ memory.
    let held : is_held_up c.run-run.result.told ≡ true = sym c.into_run.ensures.memory ∙ memory in
    let owed = c.run-run.ensures.owed (λ m. plain_grows _ _ _ _) held
    (ap moves c.in-Ok.ensures.schedule) in
    let made = c.run-run.new.self in
    let same = ap (λ (kept : Kept). kept.items) c.into_run.ensures.schedule in
    let program : made.program ≡ c.args.job.program.now =
    c.run-run.ensures.program ∙ (c.in-Ok.ensures.program ∙ c.into_task.ensures.program) in (
      owed.0,
      subst (λ (entries : List Entry). HasTurn c.args.job.config.quantum
          (starting_world c.args.job.program.now) owed.0 (moves entries)) (sym same)
          (subst (λ (p : List ℕ). HasTurn c.args.job.config.quantum (starting_world p) owed.0
          (moves made.schedule)) (c.in-Ok.ensures.program ∙ c.into_task.ensures.program) owed.1),
      subst (λ (kept : Kept). IsStarved g.S.Interpret.asks true owed.0 false
          (world c.args.job.program.now kept.items) kept) (sym c.into_run.ensures.schedule)
          (subst (λ (p : List ℕ). IsStarved g.S.Interpret.asks true owed.0 false
          (world p made.schedule) (kept_of made)) program owed.2),
    )

pub into_run-requires-clause-warranted : goal.into_run-requires-clause-warranted
into_run-requires-clause-warranted g c =
    c.run-run.ensures.warranted (nothing_warranted _ _ _ c.in-Ok.ensures.schedule)

pub into_run-requires-clause-space : goal.into_run-requires-clause-space
unfolding heap_in
into_run-requires-clause-space g c = c.run-run.ensures.space ∙ c.in-Ok.ensures.space
