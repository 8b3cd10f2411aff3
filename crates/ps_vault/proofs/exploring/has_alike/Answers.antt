use Rattle.std.proofs.Common.{refl, sym, ◌∙◌, arith}
use Rattle.std.proofs.lemmas.Bool.{true≢false}
use Rattle.ps_vault.proofs.Endings.{none_further}
use Rattle.ps_vault.proofs.exploring.has_alike.Goals as goal

pub returns-then-is_alike : goal.returns-then-is_alike
returns-then-is_alike c = (
  λ _. (
    c.loop-ending.ending-index,
    c.ending-item.result,
    omega (arith, c.loop-ending-test.true),
    sym c.ending-item.is,
    c.is_alike.ensures.0 c.if-is_alike.true,
  ),
  λ _. refl,
)

pub loop-ending-preserved : goal.loop-ending-preserved
loop-ending-preserved c =
    none_further c.args.report.now c.args.endings.now c.loop-ending.ending-index
    c.ending-item.result c.loop-ending-test.true c.ending-item.is c.loop-ending.invariant
    (λ alike. true≢false (sym (c.is_alike.ensures.1 alike) ∙ c.if-is_alike.false))

pub returns : goal.returns
returns c = (
  λ no. absurd (true≢false (sym no)),
  λ one. absurd (c.loop-ending.invariant one.0 (omega (arith, one.2)) one.1 one.3 one.4),
)
