-- A digit more completes the number as before; past the limit it stays there.
use Rattle.std.proofs.Common.{◌+◌, ◌*◌, drop, sym, ap, ◌∙◌, arith}
use Rattle.ps_language.specs.Bytes.{value_in}
use Rattle.ps_language.proofs.Places.{value_at, value_end, value_grows}
use Rattle.ps_scan.proofs.numbers.value_of.Goals as goal

pub loop-at-preserved : goal.loop-at-preserved
loop-at-preserved c = (
  c.if-number-ge4294967296.false,
  ap (λ d. value_in c.args.base (c.loop-at.number * c.args.base + d) (drop (c.loop-at.at + 1) c.args.digits.now))
      c.digit_value.ensures.value
      ∙ sym (value_at c.args.base c.loop-at.number c.args.digits.now c.loop-at.at c.loop-at-test.true)
      ∙ c.loop-at.invariant.1,
)

pub returns-then-number-ge4294967296-clause-none : goal.returns-then-number-ge4294967296-clause-none
returns-then-number-ge4294967296-clause-none c =
    let more = c.loop-at.number * c.args.base + c.digit_value.result in
    let same =
    ap (λ d. value_in c.args.base (c.loop-at.number * c.args.base + d) (drop (c.loop-at.at + 1) c.args.digits.now))
    c.digit_value.ensures.value
    ∙ sym (value_at c.args.base c.loop-at.number c.args.digits.now c.loop-at.at c.loop-at-test.true)
    ∙ c.loop-at.invariant.1 in
    omega (
      arith,
      c.if-number-ge4294967296.true,
      value_grows c.args.base more (drop (c.loop-at.at + 1) c.args.digits.now) c.requires.low,
      same,
    )

pub returns-clause-some : goal.returns-clause-some
returns-clause-some c = (
  c.loop-at.invariant.0,
  sym (value_end c.args.base c.loop-at.number c.args.digits.now c.loop-at.at c.loop-at-test.false)
      ∙ c.loop-at.invariant.1,
)
