-- Each is new, and the last has the highest number.
use Rattle.std.proofs.Common.{◌≡◌, ◌∙◌, ap, arith}
use Rattle.std.proofs.lemmas.Bool.Decides.{nat_tests}
use Rattle.ps_names.proofs.FirstNames.{all_met, first_count, first_met, met_next}
use Rattle.ps_names.proofs.names.Names.with_first.Goals as goal

pub loop-number-preserved : goal.loop-number-preserved
loop-number-preserved c =
    c.in-Ok.ensures.names
    ∙ met_next c.loop-number.number _ _ c.loop-number.invariant c.first_name.ensures

pub returns : goal.returns
returns c =
    let last : c.loop-number.number ≡ first_count =
    grind (arith, nat_tests, c.loop-number-test.false, c.loop-number.auto.number-end) in
    c.loop-number.invariant ∙ ap first_met last ∙ all_met
