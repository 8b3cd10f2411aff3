-- A run with a budget: its schedule has a text, and a plain one has its turns in order.
use Rattle.std.proofs.Common.{◌≡◌, ℕ, List, length, ap, arith, refl, rules, sym, subst, ◌∙◌, true≢false}
use Rattle.std.specs.Prelude.{◌≤◌}
use Rattle.std.proofs.lemmas.Result.{IfOk-weaker}
use Rattle.ps_language.specs.Effect.{Around, Scene}
use Rattle.ps_language.specs.Schedules.{moves}
use Rattle.ps_language.specs.World.{Status}
use Rattle.ps_language.specs.Worlds.{starting_world}
use Rattle.ps_ops_state.specs.Acts as acts
use Rattle.ps_mem.specs.Bounded.{bounded_space}
use Rattle.ps_mem.specs.Heap.{Space}
use Rattle.ps_mem.specs.Plain.{plain_space}
use Rattle.ps_vault.specs.declared.reports.Config.{Config}
use Rattle.ps_vault.specs.declared.reports.Report.{Report}
use Rattle.ps_vault.specs.Order.{InOrder}
use Rattle.ps_vault.specs.Reports.{Bounds, bounds_of, IsBounded, IsRunIn}
use Rattle.ps_run.specs.Driving.{IsRecordable, asked_of, space_of}
use Rattle.ps_run.proofs.Ranges.{are_entries}
use Rattle.ps_run.proofs.Streamed.{with_budget}
use Rattle.ps_run.proofs.Written.{ok_both}
use Rattle.ps_run.proofs.making.make.Goals as goal

-- the budget is one of 32 bits
recordable : (asks : Status → Around → Scene → acts.Asked) (program : List ℕ)
    (space asked : Space) (steps : ℕ) (report : Report) → asked ≡ space → steps ≤ 4294967295
    → IsRunIn asks space program steps report → IsRecordable asks program asked steps report
recordable asks program space asked steps report told few run = record {
  run = subst (λ (s : Space). IsRunIn asks s program steps report) (sym told) run;
  entries = are_entries program report.schedule.items (omega (arith, run.within, few))
      run.longest run.proper run.fits;
}

pub returns-in-None-clause-made : goal.returns-in-None-clause-made
returns-in-None-clause-made g c =
    let numbers = c.requires.numbers in
    let most : c.args.job.config.steps ≤ 4294967295 = search rules in
    rw c.in-None.is (IfOk-weaker c.run_plainly.result.report _ _ (λ report made. (
      with_budget c.run_plainly.result.screen.failed c.args.job.config.steps
          c.args.options.now.steps _ _ (ap (λ (it : Config). it.steps) numbers)
          (λ budget few run.
          recordable g.S.Interpret.asks c.args.job.program.now plain_space
          (space_of (asked_of c.args.options.now)) budget report (rw c.if-options.true refl)
          (omega (arith, few, most)) run.run) made.0,
      λ _. record {
        ordinary = made.0.3.ordinary;
        order = subst (λ (n : ℕ). InOrder n (starting_world c.args.job.program.now)
            (moves report.schedule.items)) (ap (λ (it : Config). it.quantum) numbers) made.1.0;
        uncollected = made.1.1;
      },
    )) (ok_both _ _ c.run_plainly.result.report c.run_plainly.ensures.run
    (ok_both _ _ c.run_plainly.result.report c.run_plainly.ensures.order
    c.run_plainly.ensures.uncollected)))

pub returns-in-None-2-clause-made : goal.returns-in-None-2-clause-made
returns-in-None-2-clause-made g c =
    let numbers = c.requires.numbers in
    let most : c.args.job.config.steps ≤ 4294967295 = search rules in
    rw c.in-None.is (IfOk-weaker c.run_shown.result.report _ _ (λ report made. (
      with_budget c.run_shown.result.screen.failed c.args.job.config.steps
          c.args.options.now.steps _ _ (ap (λ (it : Config). it.steps) numbers)
          (λ budget few run.
          recordable g.S.Interpret.asks c.args.job.program.now
          (bounded_space c.args.job.config.space) (space_of (asked_of c.args.options.now)) budget
          report
          (rw c.if-options.false (ap (λ (it : Config). bounded_space it.space) (sym numbers)))
          (omega (arith, few, most)) run) made,
      λ plain. absurd (true≢false (sym plain ∙ c.if-options.false)),
    )) c.run_shown.ensures.ended.run)

pub returns-in-Some-clause-bounded : goal.returns-in-Some-clause-bounded
returns-in-Some-clause-bounded g c =
    rw c.in-Some.is (IfOk-weaker c.follow.result.report _ _ (λ report few.
    subst (λ (n : ℕ). length report.printed.items ≤ n)
    (ap (λ (it : Config). it.output) c.requires.numbers) few) c.follow.ensures.bounded)

pub returns-in-None-clause-bounded : goal.returns-in-None-clause-bounded
returns-in-None-clause-bounded g c =
    rw c.in-None.is (IfOk-weaker c.run_plainly.result.report _ _ (λ report few.
    subst (λ (most : Bounds). IsBounded most report) (ap bounds_of c.requires.numbers) few)
    c.run_plainly.ensures.bounded)

pub returns-in-None-2-clause-bounded : goal.returns-in-None-2-clause-bounded
returns-in-None-2-clause-bounded g c =
    rw c.in-None.is (IfOk-weaker c.run_shown.result.report _ _ (λ report few.
    subst (λ (most : Bounds). IsBounded most report) (ap bounds_of c.requires.numbers) few)
    c.run_shown.ensures.ended.bounded)
