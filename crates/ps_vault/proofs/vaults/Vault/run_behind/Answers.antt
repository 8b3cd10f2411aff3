-- Each round is the turn of the context whose turn it is.
use Rattle.std.proofs.Common.{◌≡◌, ◌∙◌, true, ap, arith, subst, sym}
use Rattle.ps_language.specs.Schedules.{count_of, moves}
use Rattle.ps_vault.specs.Reports.{are_ordinary}
use Rattle.ps_vault.specs.Stories.{AreWarranted, Story}
use Rattle.ps_vault.proofs.Following.{ordinary_starved}
use Rattle.ps_vault.proofs.vaults.Vault.run_behind.Goals as goal

pub returns-then-is_held_up-clause-starved : goal.returns-then-is_held_up-clause-starved
returns-then-is_held_up-clause-starved g c = λ grows held.
    ordinary_starved g.S.Interpret.asks true c.in-Some.next _ _
    (c.turns-turn.ensures.starved grows (sym c.is_held_up.ensures ∙ c.if-is_held_up.true))

pub loop-made-preserved : goal.loop-made-preserved
loop-made-preserved g c =
    let same = c.next_by.ensures.same in
    let count : count_of c.next_by.new.self.schedule ≡ count_of c.loop-made.self.schedule =
    ap (λ (s : Story). count_of s.schedule) same in
    record {
      within = omega (arith, c.turns-turn.ensures.within, c.loop-made.invariant.within);
      program = c.turns-turn.ensures.program ∙ (ap (λ (s : Story). s.program) same
          ∙ c.loop-made.invariant.program);
      most = c.turns-turn.ensures.most ∙ (ap (λ (s : Story). s.most) same
          ∙ c.loop-made.invariant.most);
      counted = omega (arith, count, c.turns-turn.ensures.counted, c.loop-made.invariant.counted);
      ordinary = λ plain. c.turns-turn.ensures.ordinary
          (ap (λ (s : Story). are_ordinary (moves s.schedule)) same
          ∙ c.loop-made.invariant.ordinary plain);
      warranted = λ all. c.turns-turn.ensures.warranted
          (subst AreWarranted (sym same) (c.loop-made.invariant.warranted all));
      space = c.turns-turn.ensures.space
          ∙ (ap (λ (s : Story). s.space) same ∙ c.loop-made.invariant.space);
      capacity = (
          let held = ap (λ (s : Story). s.capacity) same in
          omega (arith, held, c.turns-turn.ensures.capacity, c.loop-made.invariant.capacity)
          );
      calling = c.turns-turn.ensures.calling_on (sym c.is_held_up.ensures ∙ c.if-is_held_up.false);
    }
