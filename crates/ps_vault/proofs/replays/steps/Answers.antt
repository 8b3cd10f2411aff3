-- Each round adds as many ordinary steps, which are at most one entry more.
use Rattle.std.proofs.Common.{◌≡◌, ◌+◌, ◌≤◌, inr, false, length, refl, sym, ◌∙◌, ap, subst, arith, rules}
use Rattle.std.specs.Prelude.{not}
use Rattle.ps_language.specs.Keeping.{PrintsOn}
use Rattle.ps_language.specs.Schedules.{plain_move}
use Rattle.ps_run_schedules.specs.Turns.{added_times}
use Rattle.ps_vault.specs.Screens.{ShowsOn, Sight}
use Rattle.ps_vault.specs.Reports.{Bounds}
use Rattle.ps_vault.specs.Stories.{Story, HasRoom, world_at}
use Rattle.ps_vault.proofs.Beginning.{plain_grows}
use Rattle.ps_vault.proofs.Following.{times_more, times_world, times_longer}
use Rattle.ps_vault.proofs.Reasons.{may_want}
use Rattle.ps_vault.proofs.Screening.{begins_adds, no_fewer, prints_on, shown_on}
use Rattle.ps_vault.proofs.replays.steps.Given as givens
use Rattle.ps_vault.proofs.replays.steps.Goals as goal
use Rattle.ps_vault.proofs.replays.steps.Goals.{After-is_ready, After-advance-advanced, After-show_printed}

pub loop-made-init : goal.loop-made-init
unfolding added_times
loop-made-init g c = record {
  within = omega arith;
  program = refl;
  most = refl;
  added = refl;
  capacity = omega arith;
  calling = c.requires.calling;
  fits = c.requires.fits;
  going = c.requires.going;
  still = λ unseen. refl;
  shown = λ first has. has;
}

-- at the start of a round
short_at : (g : givens.Over) (c : After-is_ready g)
    → length c.loop-made.vault.schedule ≤ length c.args.vault.now.schedule + 1
short_at g c = times_longer _ _ c.args.context c.loop-made.made c.loop-made.invariant.added
    (omega (arith, c.loop-made.invariant.within, c.ranges.most.fits))

pub advance-advanced-requires-clause-room : goal.advance-advanced-requires-clause-room
advance-advanced-requires-clause-room g c =
    let short = short_at g (goal.at.advance-advanced-requires-clause-room g c).After-is_ready in
    let most = ap (λ (m : Bounds). m.entries) c.loop-made.invariant.most in
    subst (λ (s : Story). HasRoom s c.args.context) (sym c.is_ready.ensures.same) (record {
      words = omega (arith, short, c.loop-made.invariant.capacity, c.requires.room);
      entry = inr (omega (arith, short, most, c.requires.few));
    })

-- behind it
added_on : (g : givens.Over) (c : After-advance-advanced g)
    → c.advance-advanced.new.self.schedule
    ≡ added_times (c.loop-made.made + c.advance-advanced.result.made) c.args.vault.now.schedule
    (plain_move c.args.context)
added_on g c = times_more _ _ _ c.loop-made.made c.advance-advanced.result.made
    (plain_move c.args.context)
    (ap (λ (s : Story). s.schedule) c.is_ready.ensures.same ∙ c.loop-made.invariant.added)
    (c.advance-advanced.ensures.plain refl)

program_on : (g : givens.Over) (c : After-advance-advanced g)
    → c.advance-advanced.new.self.program ≡ c.args.vault.now.program
program_on g c = c.advance-advanced.ensures.program
    ∙ (ap (λ (s : Story). s.program) c.is_ready.ensures.same ∙ c.loop-made.invariant.program)

most_on : (g : givens.Over) (c : After-advance-advanced g)
    → c.advance-advanced.new.self.most ≡ c.args.vault.now.most
most_on g c = c.advance-advanced.ensures.most
    ∙ (ap (λ (s : Story). s.most) c.is_ready.ensures.same ∙ c.loop-made.invariant.most)

within_on : (g : givens.Over) (c : After-advance-advanced g)
    → c.loop-made.made + c.advance-advanced.result.made ≤ c.args.most
within_on g c = omega (arith, c.loop-made.invariant.within, c.advance-advanced.ensures.within)

longer_on : (g : givens.Over) (c : After-advance-advanced g)
    → length c.advance-advanced.new.self.schedule ≤ length c.args.vault.now.schedule + 1
longer_on g c = times_longer _ _ c.args.context
    (c.loop-made.made + c.advance-advanced.result.made) (added_on g c)
    (omega (arith, within_on g c, c.ranges.most.fits))

capacity_on : (g : givens.Over) (c : After-advance-advanced g)
    → c.args.vault.now.capacity ≤ c.advance-advanced.new.self.capacity
capacity_on g c =
    let same = ap (λ (s : Story). s.capacity) c.is_ready.ensures.same in
    omega (arith, same, c.advance-advanced.ensures.capacity, c.loop-made.invariant.capacity)

-- ---- what is shown

prints_now : (g : givens.Over) (c : After-advance-advanced g)
    → PrintsOn (world_at c.loop-made.vault).printed (world_at c.advance-advanced.new.self).printed
prints_now g c =
    subst (λ (s : Story). PrintsOn (world_at s).printed
    (world_at c.advance-advanced.new.self).printed) c.is_ready.ensures.same
    (prints_on c.is_ready.new.self c.advance-advanced.new.self c.advance-advanced.ensures.program
    (begins_adds c.args.context c.advance-advanced.result.made c.is_ready.new.self.schedule
    c.advance-advanced.new.self.schedule c.advance-advanced.ensures.takes))

fits_now : (g : givens.Over) (c : After-advance-advanced g)
    → c.loop-made.screen.shown ≤ length (world_at c.advance-advanced.new.self).printed
fits_now g c = no_fewer c.loop-made.screen.shown (world_at c.loop-made.vault).printed
    (world_at c.advance-advanced.new.self).printed (prints_now g c) c.loop-made.invariant.fits

shown_now : (g : givens.Over) (c : After-advance-advanced g)
    → ShowsOn c.args.screen.now (world_at c.args.vault.now).printed c.loop-made.screen
    (world_at c.advance-advanced.new.self).printed
shown_now g c = λ first has.
    shown_on first c.loop-made.screen (world_at c.loop-made.vault).printed
    (world_at c.advance-advanced.new.self).printed (prints_now g c)
    (c.loop-made.invariant.shown first has)

shown_more : (g : givens.Over) (c : After-show_printed g)
    → ShowsOn c.args.screen.now (world_at c.args.vault.now).printed c.show_printed.new.screen
    (world_at c.advance-advanced.new.self).printed
shown_more g c = λ first has.
    c.show_printed.ensures.shown first
    (shown_now g (goal.at.After-show_printed g c).After-advance-advanced first has)

pub show_printed-requires : goal.show_printed-requires
show_printed-requires g c =
    record { within = fits_now g (goal.at.show_printed-requires g c).After-advance-advanced }

pub loop-made-preserved : goal.loop-made-preserved
loop-made-preserved g c = record {
  within = within_on g (goal.at.loop-made-preserved g c).After-advance-advanced;
  program = program_on g (goal.at.loop-made-preserved g c).After-advance-advanced;
  most = most_on g (goal.at.loop-made-preserved g c).After-advance-advanced;
  added = added_on g (goal.at.loop-made-preserved g c).After-advance-advanced;
  capacity = capacity_on g (goal.at.loop-made-preserved g c).After-advance-advanced;
  calling = c.advance-advanced.ensures.calling_on (search rules);
  fits = c.show_printed.ensures.within;
  going = c.show_printed.ensures.going ∙ ap not c.if-not-show_printed.false;
  still = λ unseen. let before = c.loop-made.invariant.still unseen in
      c.show_printed.ensures.still (ap (λ (s : Sight). s.watching) before ∙ unseen) ∙ before;
  shown = shown_more g (goal.at.loop-made-preserved g c).After-show_printed;
}

pub returns-in-Err-clause-added : goal.returns-in-Err-clause-added
returns-in-Err-clause-added g c =
    added_on g (goal.at.returns-in-Err-clause-added g c).After-advance-advanced

pub returns-in-Err-clause-starved : goal.returns-in-Err-clause-starved
returns-in-Err-clause-starved g c = λ _.
    may_want _ _ g.S.Interpret.asks c.args.context false
    c.advance-advanced.new.self c.in-Err.reason (λ m. plain_grows _ _ _ _)
    (rw c.in-Err.is at c.advance-advanced.ensures.held_up)

pub returns-in-Err-clause-longer : goal.returns-in-Err-clause-longer
returns-in-Err-clause-longer g c =
    longer_on g (goal.at.returns-in-Err-clause-longer g c).After-advance-advanced

pub returns-in-Err-clause-world : goal.returns-in-Err-clause-world
returns-in-Err-clause-world g c =
    times_world c.args.vault.now c.advance-advanced.new.self
    (c.loop-made.made + c.advance-advanced.result.made) (plain_move c.args.context)
    (program_on g (goal.at.returns-in-Err-clause-world g c).After-advance-advanced)
    (added_on g (goal.at.returns-in-Err-clause-world g c).After-advance-advanced)

pub returns-in-Err-clause-fits : goal.returns-in-Err-clause-fits
returns-in-Err-clause-fits g c =
    fits_now g (goal.at.returns-in-Err-clause-fits g c).After-advance-advanced

pub returns-in-Err-clause-shown : goal.returns-in-Err-clause-shown
returns-in-Err-clause-shown g c =
    shown_now g (goal.at.returns-in-Err-clause-shown g c).After-advance-advanced

-- ---- showing failed

pub returns-then-not-show_printed-clause-added : goal.returns-then-not-show_printed-clause-added
returns-then-not-show_printed-clause-added g c =
    added_on g (goal.at.returns-then-not-show_printed-clause-added g c).After-advance-advanced

pub returns-then-not-show_printed-clause-longer : goal.returns-then-not-show_printed-clause-longer
returns-then-not-show_printed-clause-longer g c =
    longer_on g (goal.at.returns-then-not-show_printed-clause-longer g c).After-advance-advanced

pub returns-then-not-show_printed-clause-world : goal.returns-then-not-show_printed-clause-world
returns-then-not-show_printed-clause-world g c =
    times_world c.args.vault.now c.advance-advanced.new.self
    (c.loop-made.made + c.advance-advanced.result.made) (plain_move c.args.context)
    (program_on g (goal.at.returns-then-not-show_printed-clause-world g c).After-advance-advanced)
    (added_on g (goal.at.returns-then-not-show_printed-clause-world g c).After-advance-advanced)

pub returns-then-not-show_printed-clause-shown : goal.returns-then-not-show_printed-clause-shown
returns-then-not-show_printed-clause-shown g c =
    shown_more g (goal.at.returns-then-not-show_printed-clause-shown g c).After-show_printed

pub returns-else-is_ready-clause-longer : goal.returns-else-is_ready-clause-longer
returns-else-is_ready-clause-longer g c =
    subst (λ (s : Story). length s.schedule ≤ length c.args.vault.now.schedule + 1)
    (sym c.is_ready.ensures.same)
    (short_at g (goal.at.returns-else-is_ready-clause-longer g c).After-is_ready)

pub returns-else-is_ready-clause-world : goal.returns-else-is_ready-clause-world
returns-else-is_ready-clause-world g c =
    ap world_at c.is_ready.ensures.same
    ∙ times_world c.args.vault.now c.loop-made.vault c.loop-made.made (plain_move c.args.context)
    c.loop-made.invariant.program c.loop-made.invariant.added

pub returns-after-loop-made-clause-longer : goal.returns-after-loop-made-clause-longer
returns-after-loop-made-clause-longer g c =
    times_longer _ _ c.args.context c.loop-made.made c.loop-made.invariant.added
    (omega (arith, c.loop-made.invariant.within, c.ranges.most.fits))

pub returns-after-loop-made-clause-world : goal.returns-after-loop-made-clause-world
returns-after-loop-made-clause-world g c =
    times_world c.args.vault.now c.loop-made.vault c.loop-made.made (plain_move c.args.context)
    c.loop-made.invariant.program c.loop-made.invariant.added
