use Rattle.std.proofs.Common.{subst, ◌+◌, ◌<◌, Bool, ◌≡◌, ◌-◌, suc, true, sym, ◌∙◌, ap, arith}
use Rattle.std.specs.Prelude.{replicate}
use Rattle.std.proofs.lemmas.Bool.{true≢false}
use Rattle.ps_language.specs.Keeping.{PrintsOn}
use Rattle.ps_language.specs.Locks.{is_ready}
use Rattle.ps_language.specs.Schedules.{plain_move}
use Rattle.ps_language.specs.Worlds.{after_moves}
use Rattle.ps_vault.specs.Reports.{MayWant}
use Rattle.ps_vault.specs.Stories.{Story, world_at}
use Rattle.ps_vault.proofs.Beginning.{plain_grows}
use Rattle.ps_vault.proofs.Following.{after_nothing, after_unready, after_idle_part, after_whole, all_made, last_refused, part_refused}
use Rattle.ps_vault.proofs.Reasons.{may_want}
use Rattle.ps_vault.proofs.Screening.{begins_added, no_fewer, prints_on, shown_on}
use Rattle.ps_vault.specs.Screens.{HasShown}
use Rattle.ps_vault.proofs.replays.follow_entry.Given as givens
use Rattle.ps_vault.proofs.replays.follow_entry.Goals as goal
use Rattle.ps_vault.proofs.replays.follow_entry.Goals.{After-steps-before, In-Ok, then-is_held_up-via-then-is_held_up, then-is_held_up-via-else-is_held_up+then-has_failed, then-entry-eq0-via-then-entry-eq0, then-entry-eq0-via-else-entry-eq0+then-not-is_ready}

pub returns-then-entry-eq0-clause-all : goal.returns-then-entry-eq0-clause-all
returns-then-entry-eq0-clause-all g c = λ all. elim c.then-entry-eq0.branch [
  | then-entry-eq0-via-then-entry-eq0 w ↦
      ap world_at w.vault-is
      ∙ after_nothing (world_at c.args.vault.now) c.args.entry w.if-entry-eq0.true
  | then-entry-eq0-via-else-entry-eq0+then-not-is_ready w ↦
      ap world_at (w.vault-is ∙ w.is_ready.ensures.same)
      ∙ after_unready (world_at c.args.vault.now) c.args.entry
      (sym w.is_ready.ensures.ready ∙ w.if-not-is_ready.true)
]

-- the world behind the ordinary steps
ordinary : (g : givens.Over) (c : After-steps-before g)
    → world_at c.steps-before.new.vault ≡ after_moves (world_at c.args.vault.now)
    (replicate c.steps-before.result.made (plain_move c.args.entry.context))
ordinary g c = c.steps-before.ensures.world
    ∙ ap (λ (s : Story). after_moves (world_at s)
    (replicate c.steps-before.result.made (plain_move c.args.entry.context)))
    c.is_ready.ensures.same

pub returns-then-not-is_ready-2-clause-all : goal.returns-then-not-is_ready-2-clause-all
returns-then-not-is_ready-2-clause-all g c = λ all.
    ap world_at c.is_ready-2.ensures.same
    ∙ after_idle_part (world_at c.args.vault.now) (world_at c.steps-before.new.vault) c.args.entry
    c.steps-before.result.made
    (omega (arith, c.steps-before.ensures.within, c.if-entry-eq0.false))
    (ordinary g (goal.at.returns-then-not-is_ready-2-clause-all g c).After-steps-before)
    (sym c.is_ready-2.ensures.ready ∙ c.if-not-is_ready-2.true)

pub returns-in-Ok-clause-all : goal.returns-in-Ok-clause-all
returns-in-Ok-clause-all g c = λ all.
    let ready : is_ready (world_at c.steps-before.new.vault) c.args.entry.context ≡ true =
    sym c.is_ready-2.ensures.ready ∙ c.if-not-is_ready-2.false in
    let whole : c.steps-before.result.made ≡ c.args.entry.steps - 1 =
    all_made _ _ _ c.steps-before.ensures.within
    (λ less. c.steps-before.ensures.unready (sym c.is_held_up.ensures ∙ c.if-is_held_up.false) less
    (sym c.has_failed.ensures ∙ c.if-has_failed.false)) ready in
    let count : c.args.entry.steps ≡ suc (c.args.entry.steps - 1) =
    omega (arith, c.if-entry-eq0.false) in
    after_whole (world_at c.args.vault.now) (world_at c.is_ready-2.new.self)
    (world_at c.step.new.self) c.args.entry (c.args.entry.steps - 1) count
    (ap world_at c.is_ready-2.ensures.same
    ∙ (ordinary g (goal.at.returns-in-Ok-clause-all g c).After-steps-before
    ∙ ap (λ n. after_moves (world_at c.args.vault.now)
    (replicate n (plain_move c.args.entry.context))) whole))
    c.in-Ok.ensures.world

-- ---- what is shown behind a step of its own

prints_step : (g : givens.Over) (c : In-Ok g)
    → PrintsOn (world_at c.steps-before.new.vault).printed (world_at c.step.new.self).printed
prints_step g c =
    subst (λ (s : Story). PrintsOn (world_at s).printed (world_at c.step.new.self).printed)
    c.is_ready-2.ensures.same
    (prints_on c.is_ready-2.new.self c.step.new.self c.step.ensures.program
    (begins_added c.is_ready-2.new.self.schedule c.step.new.self.schedule _ c.in-Ok.ensures.made))

pub returns-in-Ok-clause-fits : goal.returns-in-Ok-clause-fits
returns-in-Ok-clause-fits g c =
    no_fewer c.steps-before.new.screen.shown (world_at c.steps-before.new.vault).printed
    (world_at c.step.new.self).printed
    (prints_step g (goal.at.returns-in-Ok-clause-fits g c).In-Ok) c.steps-before.ensures.fits

pub returns-in-Ok-clause-shown : goal.returns-in-Ok-clause-shown
returns-in-Ok-clause-shown g c = λ first has.
    shown_on first c.steps-before.new.screen (world_at c.steps-before.new.vault).printed
    (world_at c.step.new.self).printed
    (prints_step g (goal.at.returns-in-Ok-clause-shown g c).In-Ok)
    (c.steps-before.ensures.shown first
    (subst (λ (s : Story). HasShown first c.args.screen.now (world_at s).printed)
    (sym c.is_ready.ensures.same) has))

pub returns-then-is_held_up-clause-starved : goal.returns-then-is_held_up-clause-starved
returns-then-is_held_up-clause-starved g c = λ _ going. elim c.then-is_held_up.branch [
  | then-is_held_up-via-then-is_held_up w ↦
      let made = c.steps-before.result.made in
      let fewer : made + 1 < c.args.entry.steps =
      omega (arith, c.steps-before.ensures.fewer (sym c.is_held_up.ensures ∙ w.if-is_held_up.true)) in
      subst (λ (refused : Bool). MayWant g.S.Interpret.asks true c.args.entry.context refused
      (world_at c.steps-before.new.vault)) (part_refused c.args.entry made fewer)
      (c.steps-before.ensures.starved (sym c.is_held_up.ensures ∙ w.if-is_held_up.true))
  | then-is_held_up-via-else-is_held_up+then-has_failed w ↦
      absurd (true≢false (sym w.if-has_failed.true ∙ (w.has_failed.ensures ∙ going)))
]

pub returns-in-Err-clause-starved : goal.returns-in-Err-clause-starved
returns-in-Err-clause-starved g c = λ _ _.
    subst (λ (refused : Bool). MayWant g.S.Interpret.asks true c.args.entry.context refused
    (world_at c.step.new.self))
    (last_refused c.args.entry (c.args.entry.steps - 1) (omega (arith, c.if-entry-eq0.false)))
    (may_want _ _ g.S.Interpret.asks c.args.entry.context c.args.entry.refused
    c.step.new.self _ (λ m. plain_grows _ _ _ _) c.in-Err.ensures.held_up)
