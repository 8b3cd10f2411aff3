-- Each round is turns of the next context, or begins a pass.
use Rattle.std.proofs.Common.{◌≡◌, ℕ, ◌+◌, ◌-◌, ◌<◌, ◌≤◌, List, [], false, true, length, refl, sym, ◌∙◌, ap, subst, arith}
use Rattle.std.specs.Prelude.{not}
use Rattle.ps_language.specs.Keeping.{PrintsOn}
use Rattle.ps_language.specs.Schedules.{count_of, moves}
use Rattle.ps_language.specs.World.{World}
use Rattle.ps_language.specs.Worlds.{after_moves, starting_world}
use Rattle.ps_vault.specs.Holds.{is_held_up}
use Rattle.ps_vault.specs.Order.{IsNoneAbove, IsLeastAbove, IsDue, AddsTurns, InOrder}
use Rattle.ps_vault.specs.Reports.{are_ordinary}
use Rattle.ps_vault.specs.Screens.{ShowsOn, Sight}
use Rattle.ps_vault.specs.Stories.{AreWarranted, Story, world_at}
use Rattle.ps_vault.proofs.Ordering.{Passing, passing_start, passing_anew, passing_order, due_of, turns_over, turns_order, turns_held, world_moves}
use Rattle.ps_vault.proofs.Following.{ordinary_starved}
use Rattle.ps_vault.proofs.Screening.{begins_turns, few_unseen, no_fewer, prints_on, shown_on, turn_end_unseen}
use Rattle.ps_vault.proofs.vaults.Vault.run.Given as givens
use Rattle.ps_vault.proofs.vaults.Vault.run.Goals as goal
use Rattle.ps_vault.proofs.vaults.Vault.run.Goals.{After-next_ready, After-turns-turn, After-show_printed}

pub loop-made-init : goal.loop-made-init
loop-made-init g c = record {
  within = omega arith;
  program = refl;
  most = refl;
  counted = omega arith;
  ordinary = λ plain. plain;
  warranted = λ all. all;
  space = refl;
  capacity = omega arith;
  order = λ none.
      let start : World = starting_world c.args.self.now.program in
      let steps = moves c.args.self.now.schedule in
      let passing = passing_start c.args.quantum start steps none in
      (λ _. passing, passing_order c.args.quantum start 0 steps passing);
  calling = c.requires.calling;
  fits = c.requires.fits;
  going = c.requires.going;
  still = λ unseen. refl;
  shown = λ first has. has;
}

-- looking for the next context changes nothing
world_now : (g : givens.Over) (c : After-next_ready g)
    → world_at c.loop-made.self
    ≡ after_moves (starting_world c.args.self.now.program) (moves c.next_ready.new.self.schedule)
world_now g c = sym (ap world_at c.next_ready.ensures.same)
    ∙ world_moves c.next_ready.new.self c.args.self.now.program
    (ap (λ (s : Story). s.program) c.next_ready.ensures.same ∙ c.loop-made.invariant.program)

passing_now : (g : givens.Over) (c : After-next_ready g) → moves c.args.self.now.schedule ≡ []
    → c.loop-made.made < c.args.steps
    → Passing c.args.quantum (starting_world c.args.self.now.program) c.loop-made.after
    (moves c.next_ready.new.self.schedule)
passing_now g c none less =
    subst (λ (s : Story). Passing c.args.quantum (starting_world c.args.self.now.program)
    c.loop-made.after (moves s.schedule)) (sym c.next_ready.ensures.same)
    ((c.loop-made.invariant.order none).0 less)

pub loop-made-preserved-in_default : goal.loop-made-preserved-in_default
loop-made-preserved-in_default g c =
    let at = (goal.at.loop-made-preserved-in_default g c).After-next_ready in
    let same = c.next_ready.ensures.same in
    let start : World = starting_world c.args.self.now.program in
    let steps = moves c.next_ready.new.self.schedule in
    let idle : IsNoneAbove (after_moves start steps) c.loop-made.after =
    subst (λ (w : World). IsNoneAbove w c.loop-made.after) (world_now g at)
    (rw c.in_default.is at c.next_ready.ensures.none) in
    record {
      within = c.loop-made.invariant.within;
      program = ap (λ (s : Story). s.program) same ∙ c.loop-made.invariant.program;
      most = ap (λ (s : Story). s.most) same ∙ c.loop-made.invariant.most;
      counted = ap (λ (s : Story). count_of s.schedule) same ∙ c.loop-made.invariant.counted;
      ordinary = λ plain. ap (λ (s : Story). are_ordinary (moves s.schedule)) same
          ∙ c.loop-made.invariant.ordinary plain;
      warranted = λ all. subst AreWarranted (sym same) (c.loop-made.invariant.warranted all);
      space = ap (λ (s : Story). s.space) same ∙ c.loop-made.invariant.space;
      capacity = (
          let held = ap (λ (s : Story). s.capacity) same in
          omega (arith, held, c.loop-made.invariant.capacity)
          );
      order = λ none. (
        λ less. passing_anew c.args.quantum start c.loop-made.after steps
            (passing_now g at none less) idle,
        subst (λ (s : Story). InOrder c.args.quantum start (moves s.schedule)) (sym same)
            (c.loop-made.invariant.order none).1,
      );
      calling = ap (λ (s : Story). s.caller) same ∙ c.loop-made.invariant.calling;
      fits = subst (λ (s : Story). c.loop-made.screen.shown ≤ length (world_at s).printed)
          (sym same) c.loop-made.invariant.fits;
      going = c.loop-made.invariant.going;
      still = c.loop-made.invariant.still;
      shown = subst (λ (s : Story). ShowsOn c.args.screen.now (world_at c.args.self.now).printed
          c.loop-made.screen (world_at s).printed) (sym same) c.loop-made.invariant.shown;
    }

-- ---- turns

least_now : (g : givens.Over) (c : After-turns-turn g)
    → IsLeastAbove (after_moves (starting_world c.args.self.now.program)
    (moves c.next_ready.new.self.schedule)) c.loop-made.after c.in-Some.next
least_now g c =
    subst (λ (w : World). IsLeastAbove w c.loop-made.after c.in-Some.next)
    (world_now g (goal.at.After-turns-turn g c).After-next_ready) c.in-Some.ensures.ready

program_now : (g : givens.Over) (c : After-turns-turn g)
    → c.next_ready.new.self.program ≡ c.args.self.now.program
program_now g c =
    ap (λ (s : Story). s.program) c.next_ready.ensures.same ∙ c.loop-made.invariant.program

most_now : (g : givens.Over) (c : After-turns-turn g)
    → c.next_ready.new.self.most ≡ c.args.self.now.most
most_now g c =
    ap (λ (s : Story). s.most) c.next_ready.ensures.same ∙ c.loop-made.invariant.most

due_now : (g : givens.Over) (c : After-turns-turn g) → moves c.args.self.now.schedule ≡ []
    → IsDue c.args.quantum (starting_world c.args.self.now.program) c.in-Some.next
    (moves c.next_ready.new.self.schedule)
due_now g c none =
    due_of c.args.quantum (starting_world c.args.self.now.program) c.loop-made.after
    c.in-Some.next (moves c.next_ready.new.self.schedule)
    (passing_now g (goal.at.After-turns-turn g c).After-next_ready none c.loop-made-test.true)
    (least_now g c)

turns_now : (g : givens.Over) (c : After-turns-turn g)
    → AddsTurns c.args.quantum c.most_unseen-most.result
    (starting_world c.args.self.now.program) c.in-Some.next c.turns-turn.result
    (moves c.next_ready.new.self.schedule) (moves c.turns-turn.new.self.schedule)
turns_now g c =
    subst (λ (p : List ℕ). AddsTurns c.args.quantum c.most_unseen-most.result
    (starting_world p) c.in-Some.next c.turns-turn.result (moves c.next_ready.new.self.schedule)
    (moves c.turns-turn.new.self.schedule)) (program_now g c) c.turns-turn.ensures.turns

ordered_now : (g : givens.Over) (c : After-turns-turn g) → moves c.args.self.now.schedule ≡ []
    → InOrder c.args.quantum (starting_world c.args.self.now.program)
    (moves c.turns-turn.new.self.schedule)
ordered_now g c none =
    turns_order c.args.quantum (starting_world c.args.self.now.program) c.in-Some.next
    c.most_unseen-most.result c.turns-turn.result (moves c.next_ready.new.self.schedule)
    (moves c.turns-turn.new.self.schedule) c.requires.quantum (due_now g c none) (turns_now g c)

passing_on : (g : givens.Over) (c : After-turns-turn g) → moves c.args.self.now.schedule ≡ []
    → is_held_up c.turns-turn.result.told ≡ false
    → c.loop-made.made + c.turns-turn.result.made < c.args.steps
    → Passing c.args.quantum (starting_world c.args.self.now.program) c.in-Some.next
    (moves c.turns-turn.new.self.schedule)
passing_on g c none free less =
    turns_over c.args.quantum (starting_world c.args.self.now.program) c.in-Some.next
    c.most_unseen-most.result c.turns-turn.result (moves c.next_ready.new.self.schedule)
    (moves c.turns-turn.new.self.schedule) c.requires.quantum (due_now g c none) (turns_now g c)
    free (turn_end_unseen _ c.args.quantum (c.args.steps - c.loop-made.made)
    c.most_unseen-most.result c.turns-turn.result.made c.most_unseen-most.ensures
    c.turns-turn.ensures.within (omega (arith, less)))

-- ---- what is shown

unseen_few : (g : givens.Over) (c : After-turns-turn g)
    → c.most_unseen-most.result ≤ c.args.steps - c.loop-made.made
unseen_few g c = subst (λ (n : ℕ). n ≤ c.args.steps - c.loop-made.made)
    (sym c.most_unseen-most.ensures) (few_unseen _ c.args.quantum (c.args.steps - c.loop-made.made))

prints_now : (g : givens.Over) (c : After-turns-turn g)
    → PrintsOn (world_at c.loop-made.self).printed (world_at c.turns-turn.new.self).printed
prints_now g c =
    subst (λ (s : Story). PrintsOn (world_at s).printed (world_at c.turns-turn.new.self).printed)
    c.next_ready.ensures.same
    (prints_on c.next_ready.new.self c.turns-turn.new.self c.turns-turn.ensures.program
    (begins_turns _ _ _ _ _ c.next_ready.new.self.schedule c.turns-turn.new.self.schedule
    c.turns-turn.ensures.turns))

fits_now : (g : givens.Over) (c : After-turns-turn g)
    → c.loop-made.screen.shown ≤ length (world_at c.turns-turn.new.self).printed
fits_now g c = no_fewer c.loop-made.screen.shown (world_at c.loop-made.self).printed
    (world_at c.turns-turn.new.self).printed (prints_now g c) c.loop-made.invariant.fits

shown_now : (g : givens.Over) (c : After-turns-turn g)
    → ShowsOn c.args.screen.now (world_at c.args.self.now).printed c.loop-made.screen
    (world_at c.turns-turn.new.self).printed
shown_now g c = λ first has.
    shown_on first c.loop-made.screen (world_at c.loop-made.self).printed
    (world_at c.turns-turn.new.self).printed (prints_now g c) (c.loop-made.invariant.shown first has)

pub show_printed-requires : goal.show_printed-requires
show_printed-requires g c =
    record { within = fits_now g (goal.at.show_printed-requires g c).After-turns-turn }

-- behind what the viewer is shown now
shown_more : (g : givens.Over) (c : After-show_printed g)
    → ShowsOn c.args.screen.now (world_at c.args.self.now).printed c.show_printed.new.screen
    (world_at c.turns-turn.new.self).printed
shown_more g c = λ first has.
    c.show_printed.ensures.shown first
    (shown_now g (goal.at.After-show_printed g c).After-turns-turn first has)

pub returns-then-is_held_up-clause-starved : goal.returns-then-is_held_up-clause-starved
returns-then-is_held_up-clause-starved g c = λ grows held.
    ordinary_starved g.S.Interpret.asks true c.in-Some.next _ _
    (c.turns-turn.ensures.starved grows (sym c.is_held_up.ensures ∙ c.if-is_held_up.true))

pub returns-then-is_held_up-clause-owed : goal.returns-then-is_held_up-clause-owed
returns-then-is_held_up-clause-owed g c = λ grows held none.
    let at = (goal.at.returns-then-is_held_up-clause-owed g c).After-turns-turn in (
      c.in-Some.next,
      turns_held c.args.quantum (starting_world c.args.self.now.program) c.in-Some.next
          c.most_unseen-most.result c.turns-turn.result
          (moves c.next_ready.new.self.schedule) (moves c.turns-turn.new.self.schedule)
          c.requires.quantum (due_now g at none) (turns_now g at) (sym c.is_held_up.ensures ∙ c.if-is_held_up.true),
      c.turns-turn.ensures.starved grows (sym c.is_held_up.ensures ∙ c.if-is_held_up.true),
    )

pub returns-then-is_held_up-clause-order : goal.returns-then-is_held_up-clause-order
returns-then-is_held_up-clause-order g c =
    ordered_now g (goal.at.returns-then-is_held_up-clause-order g c).After-turns-turn

pub loop-made-preserved : goal.loop-made-preserved
loop-made-preserved g c =
    let at = (goal.at.loop-made-preserved g c).After-turns-turn in
    let same : c.next_ready.new.self ≡ c.loop-made.self = c.next_ready.ensures.same in
    let count : count_of c.next_ready.new.self.schedule ≡ count_of c.loop-made.self.schedule =
    ap (λ (s : Story). count_of s.schedule) same in
    record {
      within = omega (
        arith,
        unseen_few g at,
        c.turns-turn.ensures.within,
        c.loop-made.invariant.within,
      );
      program = c.turns-turn.ensures.program ∙ program_now g at;
      most = c.turns-turn.ensures.most ∙ most_now g at;
      counted = omega (arith, count, c.turns-turn.ensures.counted, c.loop-made.invariant.counted);
      ordinary = λ plain. c.turns-turn.ensures.ordinary
          (ap (λ (s : Story). are_ordinary (moves s.schedule)) same
          ∙ c.loop-made.invariant.ordinary plain);
      warranted = λ all. c.turns-turn.ensures.warranted
          (subst AreWarranted (sym same) (c.loop-made.invariant.warranted all));
      space = c.turns-turn.ensures.space
          ∙ (ap (λ (s : Story). s.space) same ∙ c.loop-made.invariant.space);
      capacity = (
          let held = ap (λ (s : Story). s.capacity) same in
          omega (arith, held, c.turns-turn.ensures.capacity, c.loop-made.invariant.capacity)
          );
      order = λ none. (λ less. passing_on g at none (sym c.is_held_up.ensures ∙ c.if-is_held_up.false) less, ordered_now g at none);
      calling = c.turns-turn.ensures.calling_on (sym c.is_held_up.ensures ∙ c.if-is_held_up.false);
      fits = c.show_printed.ensures.within;
      going = c.show_printed.ensures.going ∙ ap not c.if-not-show_printed.false;
      still = λ unseen. let before = c.loop-made.invariant.still unseen in
          c.show_printed.ensures.still (ap (λ (s : Sight). s.watching) before ∙ unseen) ∙ before;
      shown = shown_more g (goal.at.loop-made-preserved g c).After-show_printed;
    }

pub returns-then-is_held_up-clause-shown : goal.returns-then-is_held_up-clause-shown
returns-then-is_held_up-clause-shown g c =
    shown_now g (goal.at.returns-then-is_held_up-clause-shown g c).After-turns-turn

-- ---- showing failed

pub returns-then-not-show_printed-clause-order : goal.returns-then-not-show_printed-clause-order
returns-then-not-show_printed-clause-order g c =
    ordered_now g (goal.at.returns-then-not-show_printed-clause-order g c).After-turns-turn

pub returns-then-not-show_printed-clause-shown : goal.returns-then-not-show_printed-clause-shown
returns-then-not-show_printed-clause-shown g c =
    shown_more g (goal.at.returns-then-not-show_printed-clause-shown g c).After-show_printed
