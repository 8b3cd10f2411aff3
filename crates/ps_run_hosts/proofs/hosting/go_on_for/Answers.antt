-- There is a run that doesn't go on from the schedule.
use Rattle.std.proofs.Common.{◌≡◌, List, map, ap, sym, subst, ◌∙◌}
use Rattle.std.proofs.lemmas.Bool.{true≢false}
use Rattle.ps_language.specs.declared.schedules.Entry.{Entry}
use Rattle.ps_vault.specs.Reports.{IsRunIn, IsWithin}
use Rattle.ps_run_workers.specs.Slices.{budget_behind}
use Rattle.ps_run_hosts.specs.Hosts.{GoesOnFrom, given_entry, space_in}
use Rattle.ps_run_hosts.proofs.hosting.go_on_for.Goals as goal

pub returns-then-not-goes_on_from : goal.returns-then-not-goes_on_from
returns-then-not-goes_on_from g c =
    let given : List Entry = map given_entry c.args.given.now in
    let is : c.as_slice.result.now ≡ given = c.as_slice.ensures.value ∙ c.in_ok-entries.ensures.given in
    let same : c.as_slice-3.result.now ≡ given = c.as_slice-3.ensures.value ∙ c.in_ok-entries.ensures.given in
    let steps : c.budget_behind.result ≡ budget_behind given c.args.settings.now.steps =
    c.budget_behind.ensures ∙ ap (λ (e : List Entry). budget_behind e c.args.settings.now.steps) is in (
      subst IsWithin c.config_in.ensures (c.is_within.ensures.0 c.if-not-is_within.false),
      c.in_ok-entries.ensures.entries,
      (
        c.in-Ok.report,
        (
          subst (λ n. IsRunIn g.S.Interpret.asks (space_in c.args.settings.now) c.args.program.now
              n c.in-Ok.report) steps c.in-Ok.ensures.run,
          c.in-Ok.ensures.bounded,
        ),
        λ goes. true≢false (sym (c.goes_on_from.ensures.1 (subst (λ (e : List Entry).
            GoesOnFrom e c.in-Ok.report) (sym same) goes)) ∙ c.if-not-goes_on_from.true),
      ),
    )
