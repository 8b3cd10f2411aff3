-- The rest of the line is left, a byte less each time.
use Rattle.std.proofs.Common.{◌≡◌, ◌∙◌, refl, ap, sym, ◌+◌, ◌<◌, ◌≤◌, length, drop, arith}
use Rattle.std.proofs.lemmas.Bool.{ne_eqb}
use Rattle.ps_language.specs.Scan.{leading}
use Rattle.ps_language.proofs.Places.{byte_at}
use Rattle.ps_places.specs.Positions.{is_in_line, line_end}
use Rattle.ps_places.proofs.Lines.{goes_on, stops, stops_at_end, is_other}
use Rattle.ps_places.proofs.positions.line_end.Goals as goal

pub loop-here-init : goal.loop-here-init
unfolding line_end
loop-here-init c = record { is = refl; high = c.requires }

pub returns-then-text-here-eq10 : goal.returns-then-text-here-eq10
returns-then-text-here-eq10 c =
    sym (stops c.args.text.now c.loop-here.here c.loop-here-test.true (ap is_in_line c.if-text-here-eq10.true))
    ∙ c.loop-here.invariant.is

pub returns-then-text-here-eq13 : goal.returns-then-text-here-eq13
returns-then-text-here-eq13 c =
    sym (stops c.args.text.now c.loop-here.here c.loop-here-test.true (ap is_in_line c.if-text-here-eq13.true))
    ∙ c.loop-here.invariant.is

pub loop-here-preserved : goal.loop-here-preserved
loop-here-preserved c = record {
  is = goes_on c.args.text.now c.loop-here.here c.loop-here-test.true
      (is_other (byte_at c.args.text.now c.loop-here.here) c.if-text-here-eq10.false c.if-text-here-eq13.false)
      ∙ c.loop-here.invariant.is;
  high = omega (arith, c.loop-here-test.true);
}

pub returns : goal.returns
returns c =
    let past : length c.args.text.now ≤ c.loop-here.here = omega (arith, c.loop-here-test.false) in
    let same : length c.args.text.now ≡ c.loop-here.here = omega (arith, past, c.loop-here.invariant.high) in
    same ∙ sym (stops_at_end c.args.text.now c.loop-here.here past) ∙ c.loop-here.invariant.is
