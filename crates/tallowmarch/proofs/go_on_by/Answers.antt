-- The settings are those of the numbers.
use Rattle.std.proofs.Common.{◌≡◌, inl, map, subst}
use Rattle.ps_run_hosts.specs.declared.numbers.Settings.{Settings}
use Rattle.ps_run_hosts.specs.Hosts.{given_entry, IsGoneOn}
use Rattle.tallowmarch.proofs.go_on_by.Goals as goal

pub returns-in-Ok : goal.returns-in-Ok
returns-in-Ok c =
    let made = c.in-Ok.ensures.settings in
    inl (
      made.1,
      subst (λ (by : Settings). IsGoneOn _ c.args.program.now by
          (map given_entry c.args.given.now) c.go_on_for.result) made.0 c.go_on_for.ensures,
    )
