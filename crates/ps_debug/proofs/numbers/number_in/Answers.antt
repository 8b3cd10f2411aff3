use Rattle.std.proofs.Common.{rules, arith, ◌≡◌, ◌≤◌, ◌<◌, ◌+◌, ◌∙◌, ℕ, ap, sym, drop, length, slice_index, true}
use Rattle.std.specs.Char.{is_ascii_digit}
use Rattle.std.specs.Prelude.{option_map}
use Rattle.ps_debug.specs.Words.{bounded, number_behind}
use Rattle.ps_debug.proofs.Bounding.{digit_at, digits_end}
use Rattle.ps_debug.proofs.numbers.number_in.Goals as goal

pub loop-byte-preserved : goal.loop-byte-preserved
loop-byte-preserved c =
    let text = c.args.text.now in
    let place = c.loop-byte.byte-index in
    let digit : is_ascii_digit (slice_index text place) ≡ true = search rules in
    record {
      same = c.loop-byte.invariant.same
          ∙ digit_at c.loop-byte.number place text c.loop-byte-test.true digit
          ∙ ap (λ n. option_map bounded (number_behind n (drop (place + 1) text)))
          (sym c.with_digit-number.ensures);
      small = omega (arith, c.with_digit-number.ensures);
    }

pub returns : goal.returns
returns c =
    let text = c.args.text.now in
    let some : 0 < length text = search rules in
    digits_end c.loop-byte.number c.loop-byte.byte-index text
    (omega (arith, c.loop-byte-test.false)) some c.loop-byte.invariant.small
    c.loop-byte.invariant.same
