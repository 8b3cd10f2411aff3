-- Each round adds steps of the context to its turn, and where it is alone to the next ones.
use Rattle.std.proofs.Common.{◌≡◌, ◌≢◌, Ok, ℕ, ◌+◌, ◌-◌, ◌%◌, ◌<◌, ◌≤◌, Bool, List, false, true, min, inl, inr, refl, sym, ◌∙◌, ap, ap₂, subst, arith, rules}
use Rattle.std.specs.Prelude.{◌==◌, if◌then◌else◌}
use Rattle.std.proofs.lemmas.Bool.{true≢false}
use Rattle.std.proofs.lemmas.Bool.Decides.{nat_tests}
use Rattle.ps_language.specs.declared.schedules.Entry.{Entry}
use Rattle.ps_language.specs.Contexts.{count_not_ended}
use Rattle.ps_language.specs.Locks.{is_ready}
use Rattle.ps_language.specs.Schedules.{Move, count_of, moves}
use Rattle.ps_language.specs.World.{World}
use Rattle.ps_language.specs.Worlds.{after_moves, starting_world, world}
use Rattle.ps_ctx.specs.declared.notes.Note.TheVariants.{TurnEnds}
use Rattle.ps_vault.specs.Holds.{is_held_up}
use Rattle.ps_vault.specs.Order.{IsAlone, IsOnlyLeft, AddsSteps, AllOfOne, NoneEnds, OnlyLastMayEnd, IsOver, EndsTurn}
use Rattle.ps_vault.specs.Reports.{are_ordinary}
use Rattle.ps_vault.specs.Stories.{AreWarranted, Story, world_at}
use Rattle.ps_vault.proofs.Advancing.{only_left_ready}
use Rattle.ps_vault.proofs.Keeping.{only_left}
use Rattle.ps_vault.proofs.Reasons.{may_want}
use Rattle.ps_vault.proofs.Alone.{Begun, begun_none, Chunk, chunk_of, Last, last_of, held_of, count_now, turns_begun, turns_ended}
use Rattle.ps_vault.proofs.Ordering.{world_moves}
use Rattle.ps_vault.proofs.Warrants.{warranted_same}
use Rattle.ps_vault.proofs.vaults.Vault.turns.Given as givens
use Rattle.ps_vault.proofs.vaults.Vault.turns.Goals as goal
use Rattle.ps_vault.proofs.vaults.Vault.turns.Goals.{After-advance-advanced}

few_left : (is_one_left : Bool) (rest left : ℕ)
    → (if is_one_left then left else min rest left) ≤ left
few_left true rest left = omega arith
few_left false rest left = omega arith

pub loop-context-init : goal.loop-context-init
loop-context-init g c = record {
  within = omega arith;
  program = refl;
  most = refl;
  counted = omega arith;
  ordinary = λ plain. plain;
  warranted = λ all. all;
  space = refl;
  capacity = omega arith;
  rest = omega arith;
  turns = begun_none c.args.quantum (starting_world c.args.self.now.program) c.args.context
      (moves c.args.self.now.schedule);
  calling = c.requires.calling;
  ready = c.requires.ready;
}

module _ (g : givens.Over) (c : After-advance-advanced g) where
  abbrev start : World
  start = starting_world c.args.self.now.program

  abbrev now : List Move
  now = moves c.loop-context.self.schedule

  abbrev new : List Move
  new = moves c.advance-advanced.new.self.schedule

  abbrev made : ℕ
  made = c.advance-advanced.result.made

  -- what is shown is of the space
  warranted_on : AreWarranted c.args.self.now → AreWarranted c.advance-advanced.new.self
  warranted_on all = c.advance-advanced.ensures.warranted refl
      (warranted_same c.loop-context.self c.reserve_entries.new.self c.reserve_entries.ensures.space
      c.reserve_entries.ensures.program c.reserve_entries.ensures.schedule
      (c.loop-context.invariant.warranted all))

  space_on : c.advance-advanced.new.self.space ≡ c.args.self.now.space
  space_on = c.advance-advanced.ensures.space
      ∙ (c.reserve_entries.ensures.space ∙ c.loop-context.invariant.space)

  -- making room changes neither
  same_schedule : c.reserve_entries.new.self.schedule ≡ c.loop-context.self.schedule
  same_schedule = c.reserve_entries.ensures.schedule

  same_program : c.reserve_entries.new.self.program ≡ c.args.self.now.program
  same_program = c.reserve_entries.ensures.program ∙ c.loop-context.invariant.program

  same_most : c.reserve_entries.new.self.most ≡ c.args.self.now.most
  same_most = c.reserve_entries.ensures.most ∙ c.loop-context.invariant.most

  same_now : moves c.reserve_entries.new.self.schedule ≡ now
  same_now = ap moves same_schedule

  -- what holds of the program and the steps from where the round began
  of_round : (holds : List ℕ → List Move → Type 0)
      → holds c.reserve_entries.new.self.program (moves c.reserve_entries.new.self.schedule)
      → holds c.args.self.now.program now
  of_round holds here =
      subst (λ (p : List ℕ). holds p now) same_program
      (subst (holds c.reserve_entries.new.self.program) same_now here)

  adds : AddsSteps c.args.context made now new
  adds = of_round (λ p before. AddsSteps c.args.context made before new)
      c.advance-advanced.ensures.takes

  keeps : c.advance-advanced.result.told ≢ Ok TurnEnds → NoneEnds start now new
  keeps goes = of_round (λ p before. NoneEnds (starting_world p) before new)
      (c.advance-advanced.ensures.keeps goes)

  abbrev is_one_left : Bool
  is_one_left = count_not_ended (world_at c.reserve_entries.new.self).contexts == 1

  ready_now : is_ready (world_at c.reserve_entries.new.self) c.args.context ≡ true
  ready_now =
      ap (λ (w : World). is_ready w c.args.context)
      (ap₂ world c.reserve_entries.ensures.program same_schedule)
      ∙ c.loop-context.invariant.ready

  left_now : is_one_left ≡ true → IsOnlyLeft (world_at c.reserve_entries.new.self) c.args.context
  left_now one =
      only_left (world_at c.reserve_entries.new.self) c.args.context
      (grind (arith, nat_tests, one)) ready_now

  alone : is_one_left ≡ true → AllOfOne c.args.context start now new
  alone one = of_round (λ p before. AllOfOne c.args.context (starting_world p) before new)
      (c.advance-advanced.ensures.alone (left_now one))

  within : made ≤ (if is_one_left then (c.args.most - c.loop-context.made) else
      min (c.args.quantum - c.loop-context.begun) (c.args.most - c.loop-context.made))
  within = subst (λ (n : ℕ). made ≤ n) c.at_once-goal.ensures c.advance-advanced.ensures.within

  chunk : c.advance-advanced.result.told ≢ Ok TurnEnds
      → Chunk c.args.quantum start c.args.context (moves c.args.self.now.schedule)
      c.loop-context.begun made new
  chunk goes =
      chunk_of c.args.quantum start c.args.context (moves c.args.self.now.schedule)
      c.loop-context.begun (c.args.most - c.loop-context.made) made is_one_left c.requires.quantum now new
      c.loop-context.invariant.turns adds within alone (keeps goes)

  world_new : world_at c.advance-advanced.new.self ≡ after_moves start new
  world_new = world_moves c.advance-advanced.new.self c.args.self.now.program
      (c.advance-advanced.ensures.program ∙ same_program)

  counted_on : count_of c.advance-advanced.new.self.schedule
      ≡ count_of c.args.self.now.schedule + (c.loop-context.made + made)
  counted_on =
      let same : count_of c.reserve_entries.new.self.schedule
      ≡ count_of c.loop-context.self.schedule =
      ap count_of same_schedule in
      omega (arith, same, c.advance-advanced.ensures.counted, c.loop-context.invariant.counted)

  -- behind them the last turn may have ended
  last : OnlyLastMayEnd start now new → 1 ≤ made
      → Last c.args.quantum start c.args.context (moves c.args.self.now.schedule)
      c.loop-context.begun (c.args.most - c.loop-context.made) made is_one_left c.requires.quantum now new
      c.loop-context.invariant.turns adds within alone
  last = last_of c.args.quantum start c.args.context (moves c.args.self.now.schedule)
      c.loop-context.begun (c.args.most - c.loop-context.made) made is_one_left c.requires.quantum now new
      c.loop-context.invariant.turns adds within alone

  -- of the last turn there are more to come, or it had as many steps as it may have
  over_by : (goes : c.advance-advanced.result.told ≢ Ok TurnEnds)
      → 1 ≤ made → (c.loop-context.made + made) % c.args.quantum ≡ 0
      → IsOver c.args.quantum start c.args.context (chunk goes).now new
  over_by goes some none =
      let here = chunk goes in
      let some_now = here.some some in
      elim (count_now c.args.quantum start c.args.context (moves c.args.self.now.schedule)
      c.loop-context.made c.loop-context.begun made new c.requires.quantum
      c.loop-context.invariant.rest here) [
        | inl less ↦ let is = less.0 in absurd (omega (arith, is, none, some_now))
        | inr full ↦ inl full.1
      ]

  -- as many are begun
  begun_on : (goes : c.advance-advanced.result.told ≢ Ok TurnEnds)
      → 0 < (c.loop-context.made + made) % c.args.quantum
      → Begun c.args.quantum start c.args.context (moves c.args.self.now.schedule)
      ((c.loop-context.made + made) % c.args.quantum) new
  begun_on goes some =
      let here = chunk goes in
      elim (count_now c.args.quantum start c.args.context (moves c.args.self.now.schedule)
      c.loop-context.made c.loop-context.begun made new c.requires.quantum
      c.loop-context.invariant.rest here) [
        | inl less ↦ subst (λ (n : ℕ). Begun c.args.quantum start c.args.context
            (moves c.args.self.now.schedule) n new) (sym less.0) here.at
        | inr full ↦ let none = full.0 in absurd (omega (arith, none, some))
      ]

-- ---- the steps so far

pub returns-then-is_err-clause-turns : goal.returns-then-is_err-clause-turns
returns-then-is_err-clause-turns g c =
    turns_begun c.args.quantum (starting_world c.args.self.now.program) c.args.context
    (moves c.args.self.now.schedule) c.args.most _ (moves c.reserve_entries.new.self.schedule)
    c.loop-context.begun
    (subst (Begun c.args.quantum (starting_world c.args.self.now.program) c.args.context
    (moves c.args.self.now.schedule) c.loop-context.begun)
    (sym (ap moves c.reserve_entries.ensures.schedule)) c.loop-context.invariant.turns)
    (λ held. omega (arith, c.loop-context.invariant.rest, c.requires.quantum))
    (λ free. absurd (true≢false free)) (λ free less. absurd (true≢false free))

-- ---- the turn is ended

pub returns-in-Ok-TurnEnds-clause-turns : goal.returns-in-Ok-TurnEnds-clause-turns
returns-in-Ok-TurnEnds-clause-turns g c =
    let at = (goal.at.returns-in-Ok-TurnEnds-clause-turns g c).After-advance-advanced in
    let new = moves c.advance-advanced.new.self.schedule in
    let ends : c.advance-advanced.result.told ≡ Ok TurnEnds = search rules in
    let ended = last g at
    (of_round g at (λ p before. OnlyLastMayEnd (starting_world p) before new)
    (c.advance-advanced.ensures.only_last ends))
    (c.advance-advanced.ensures.some (rw ends refl)) in
    turns_ended c.args.quantum (starting_world c.args.self.now.program) c.args.context
    (moves c.args.self.now.schedule) c.args.most _ new ended.whole ended.count ended.turns
    ended.fits ended.some ended.adds ended.only_last refl
    (of_round g at (λ p before. EndsTurn (starting_world p) c.args.context new)
    (c.advance-advanced.ensures.ends ends))

-- ---- the next step was held up

pub returns-in-Err-clause-turns : goal.returns-in-Err-clause-turns
returns-in-Err-clause-turns g c =
    let at = (goal.at.returns-in-Err-clause-turns g c).After-advance-advanced in
    let start : World = starting_world c.args.self.now.program in
    let new = moves c.advance-advanced.new.self.schedule in
    let held_up : is_held_up c.advance-advanced.result.told ≡ true = rw c.in-Err.is refl in
    let ready : is_ready (world_at c.advance-advanced.new.self) c.args.context ≡ true =
    (rw c.in-Err.is at c.advance-advanced.ensures.held_up).ready in
    let rest = held_of c.args.quantum start c.args.context (moves c.args.self.now.schedule)
    c.loop-context.begun (c.args.most - c.loop-context.made) c.advance-advanced.result.made
    (is_one_left g at) c.requires.quantum (moves c.loop-context.self.schedule) new
    c.loop-context.invariant.turns (adds g at) (within g at) (alone g at) (keeps g at (search rules))
    (subst (λ (n : ℕ). c.advance-advanced.result.made < n) c.at_once-goal.ensures
    (c.advance-advanced.ensures.fewer held_up))
    (λ one. subst (IsAlone c.args.context) (world_new g at)
    (only_left_ready (world_at c.advance-advanced.new.self) c.args.context
    (c.advance-advanced.ensures.left held_up (left_now g at one)) ready)) in
    turns_begun c.args.quantum start c.args.context (moves c.args.self.now.schedule) c.args.most _
    new rest.now rest.at (λ held. rest.less) (λ free. absurd (true≢false free))
    (λ free less. absurd (true≢false free))

pub returns-in-Err-clause-starved : goal.returns-in-Err-clause-starved
returns-in-Err-clause-starved g c = λ grows _.
    let wants = may_want g.M.Memory.heap g.M.Memory.grants g.S.Interpret.asks c.args.context false
    c.advance-advanced.new.self c.in-Err.reason grows
    (rw c.in-Err.is at c.advance-advanced.ensures.held_up) in
    record { ready = wants.ready; wants = inl wants.wants }

-- ---- it had as many as it may have

pub returns-then-begun-eq0-clause-turns : goal.returns-then-begun-eq0-clause-turns
returns-then-begun-eq0-clause-turns g c =
    let at = (goal.at.returns-then-begun-eq0-clause-turns g c).After-advance-advanced in
    let start : World = starting_world c.args.self.now.program in
    let new = moves c.advance-advanced.new.self.schedule in
    let goes : c.advance-advanced.result.told ≢ Ok TurnEnds = search rules in
    let some = c.advance-advanced.ensures.some (search rules) in
    turns_begun c.args.quantum start c.args.context (moves c.args.self.now.schedule) c.args.most _
    new (chunk g at goes).now (chunk g at goes).at (λ held. absurd (true≢false (sym held)))
    (λ free. (chunk g at goes).some some)
    (λ free ends. over_by g at goes some (elim ends [
      | inl less ↦ omega arith
      | inr none ↦ none
    ]))

-- ---- its context isn't ready

pub returns-then-not-is_ready-clause-turns : goal.returns-then-not-is_ready-clause-turns
returns-then-not-is_ready-clause-turns g c =
    let at = (goal.at.returns-then-not-is_ready-clause-turns g c).After-advance-advanced in
    let start : World = starting_world c.args.self.now.program in
    let same : c.is_ready.new.self ≡ c.advance-advanced.new.self = c.is_ready.ensures.same in
    let goes : c.advance-advanced.result.told ≢ Ok TurnEnds = search rules in
    let some = c.advance-advanced.ensures.some (search rules) in
    let here = chunk g at goes in
    turns_begun c.args.quantum start c.args.context (moves c.args.self.now.schedule) c.args.most _
    (moves c.is_ready.new.self.schedule) here.now
    (subst (λ (s : Story). Begun c.args.quantum start c.args.context
    (moves c.args.self.now.schedule) here.now (moves s.schedule)) (sym same) here.at)
    (λ held. absurd (true≢false (sym held))) (λ free. here.some some)
    (λ free less. inr (inl (subst (λ (s : Story).
    is_ready (after_moves start (moves s.schedule)) c.args.context ≡ false) (sym same)
    (ap (λ (w : World). is_ready w c.args.context) (sym (world_new g at))
    ∙ (sym c.is_ready.ensures.ready ∙ c.if-not-is_ready.true)))))

-- ---- it goes on

-- looking whether it is ready changes nothing
pub loop-context-preserved : goal.loop-context-preserved
loop-context-preserved g c =
    let at = (goal.at.loop-context-preserved g c).After-advance-advanced in
    let same : c.is_ready.new.self ≡ c.advance-advanced.new.self = c.is_ready.ensures.same in
    let goes : c.advance-advanced.result.told ≢ Ok TurnEnds = search rules in
    record {
      within = omega (
        arith,
        within g at,
        few_left (is_one_left g at) (c.args.quantum - c.loop-context.begun)
            (c.args.most - c.loop-context.made),
      );
      program = ap (λ (s : Story). s.program) same
          ∙ (c.advance-advanced.ensures.program ∙ same_program g at);
      most = ap (λ (s : Story). s.most) same
          ∙ (c.advance-advanced.ensures.most ∙ same_most g at);
      counted = ap (λ (s : Story). count_of s.schedule) same ∙ counted_on g at;
      ordinary = λ plain. ap (λ (s : Story). are_ordinary (moves s.schedule)) same
          ∙ c.advance-advanced.ensures.ordinary
          (subst (λ (entries : List Entry). are_ordinary (moves entries) ≡ true)
          (sym (same_schedule g at)) (c.loop-context.invariant.ordinary plain));
      warranted = λ all. subst AreWarranted (sym same) (warranted_on g at all);
      space = ap (λ (s : Story). s.space) same ∙ space_on g at;
      capacity = (
          let held = ap (λ (s : Story). s.capacity) same in
          omega (
            arith,
            held,
            c.advance-advanced.ensures.capacity,
            c.reserve_entries.ensures.capacity,
            c.loop-context.invariant.capacity,
          )
          );
      rest = c.begun_of-begun.ensures;
      turns = subst (λ (s : Story). Begun c.args.quantum
          (starting_world c.args.self.now.program) c.args.context
          (moves c.args.self.now.schedule) c.begun_of-begun.result (moves s.schedule)) (sym same)
          (subst (λ n. Begun c.args.quantum (starting_world c.args.self.now.program) c.args.context
          (moves c.args.self.now.schedule) n (moves c.advance-advanced.new.self.schedule))
          (sym c.begun_of-begun.ensures) (begun_on g at goes (omega arith)));
      calling = ap (λ (s : Story). s.caller) same
          ∙ c.advance-advanced.ensures.calling_on (search rules);
      ready = ap (λ (s : Story). is_ready (world_at s) c.args.context) same
          ∙ (sym c.is_ready.ensures.ready ∙ c.if-not-is_ready.false);
    }
