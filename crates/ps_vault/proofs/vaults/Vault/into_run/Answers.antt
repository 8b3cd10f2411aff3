use Rattle.std.proofs.Common.{◌==◌, ◌<◌, ◌≤◌, List, ℕ, true, sym, ap, ◌∙◌, subst, arith}
use Rattle.std.proofs.lemmas.Bool.Decides.{nat_tests}
use Rattle.ps_language.specs.Schedules.{count_of, moves}
use Rattle.ps_mem.specs.Plain.{plain_space}
use Rattle.ps_run_schedules.specs.Keeping.{Kept}
use Rattle.ps_vault.specs.Reports.{all_fit, are_ordinary, EndsAs, IsOneStarved, IsRunIn}
use Rattle.ps_vault.specs.Stories.{AreWarranted, Story, kept_of, world_at}
use Rattle.ps_vault.proofs.Advancing.{ordinary_fit}
use Rattle.ps_vault.proofs.Following.{ends_so, ready_not_over}
use Rattle.ps_vault.proofs.vaults.Vault.into_run.Goals as goal

pub into_report-requires-clause-few : goal.into_report-requires-clause-few
into_report-requires-clause-few g c =
    omega (arith, c.requires.counted, c.requires.within)

pub into_report-requires-clause-fits : goal.into_report-requires-clause-fits
into_report-requires-clause-fits g c =
    ordinary_fit (moves c.args.self.schedule) c.requires.ordinary

pub into_report-requires-2-clause-few : goal.into_report-requires-2-clause-few
into_report-requires-2-clause-few g c =
    subst (λ (s : Story). count_of s.schedule ≤ c.args.steps)
    (sym c.outcome-outcome.ensures.same) (omega (arith, c.requires.counted, c.requires.within))

pub into_report-requires-2-clause-fits : goal.into_report-requires-2-clause-fits
into_report-requires-2-clause-fits g c =
    ap (λ (s : Story). all_fit (moves s.schedule)) c.outcome-outcome.ensures.same
    ∙ ordinary_fit (moves c.args.self.schedule) c.requires.ordinary

pub into_report-requires-2-clause-warranted : goal.into_report-requires-2-clause-warranted
into_report-requires-2-clause-warranted g c =
    subst AreWarranted (sym c.outcome-outcome.ensures.same) c.requires.warranted

pub returns-then-is_held_up-clause-run : goal.returns-then-is_held_up-clause-run
returns-then-is_held_up-clause-run g c =
    let less : count_of c.args.self.schedule < c.args.steps =
    omega (arith, c.requires.counted, c.requires.fewer (sym c.is_held_up.ensures ∙ c.if-is_held_up.true)) in
    let one = c.requires.starved (sym c.is_held_up.ensures ∙ c.if-is_held_up.true) in
    record {
      run = c.into_report.ensures.run plain_space (sym c.requires.space) (
        grind (arith, nat_tests),
        ready_not_over (world_at c.args.self) one.context one.starved.ready,
        one,
      );
      ordinary = ap (λ (k : Kept). are_ordinary (moves k.items)) c.into_report.ensures.schedule
          ∙ c.requires.ordinary;
    }

pub returns-clause-run : goal.returns-clause-run
returns-clause-run g c =
    let same = c.outcome-outcome.ensures.same in
    let ends : EndsAs (world_at c.args.self) (count_of c.args.self.schedule == c.args.steps)
    (IsOneStarved g.S.Interpret.asks true (world_at c.args.self) (kept_of c.args.self))
    c.outcome-outcome.result =
    subst (λ n. EndsAs (world_at c.args.self) (n == c.args.steps) (IsOneStarved g.S.Interpret.asks
    true (world_at c.args.self) (kept_of c.args.self))
    c.outcome-outcome.result) (sym c.requires.counted)
    (ends_so (world_at c.args.self) _ _ c.outcome-outcome.result c.outcome-outcome.ensures.ends) in
    record {
      run = subst (λ (p : List ℕ). IsRunIn g.S.Interpret.asks plain_space p c.args.steps
          c.into_report-2.result) (ap (λ (s : Story). s.program) same)
          (c.into_report-2.ensures.run plain_space
          (sym (ap (λ (s : Story). s.space) same ∙ c.requires.space)) (subst (λ (s : Story). EndsAs (world_at s)
          (count_of s.schedule == c.args.steps) (IsOneStarved g.S.Interpret.asks true (world_at s)
          (kept_of s)) c.outcome-outcome.result) (sym same) ends));
      ordinary = ap (λ (k : Kept). are_ordinary (moves k.items)) (c.into_report-2.ensures.schedule
          ∙ ap kept_of same) ∙ c.requires.ordinary;
    }
