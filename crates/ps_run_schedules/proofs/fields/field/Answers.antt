use Rattle.std.proofs.Common.{◌+◌, ◌<◌, arith, sym, ◌∙◌}
use Rattle.ps_run_schedules.proofs.Beginnings.{AreDigits, ended, goes_on, not_greater, not_zero, field_read, digit_read}
use Rattle.ps_run_schedules.proofs.Beginnings.{value_read, first_read}
use Rattle.ps_run_schedules.proofs.fields.field.Goals as goal
use Rattle.ps_run_schedules.proofs.fields.field.Goals.{then-byte-ending-via-then-byte-ending}
use Rattle.ps_run_schedules.proofs.fields.field.Goals.{then-byte-ending-via-else-byte-ending+then-place-eq0}
use Rattle.ps_run_schedules.proofs.fields.field.Goals.{then-number-eq0-via-then-number-eq0}
use Rattle.ps_run_schedules.proofs.fields.field.Goals.{then-number-eq0-via-else-number-eq0+then-number-from}

pub returns-then-byte-ending-clause-none : goal.returns-then-byte-ending-clause-none
returns-then-byte-ending-clause-none c number up rest is =
    let read : AreDigits c.args.bytes.now c.loop-place.place = record {
      within = omega arith;
      digits = c.loop-place.invariant.digits;
    } in
    let end = ended c.args.bytes.now c.args.most number c.args.ending rest (omega arith) up
    c.requires is c.loop-place.place read c.loop-place-test.true
    (sym c.is_ascii_digit.ensures.value ∙ c.if-not-is_ascii_digit.true) in
    elim c.then-byte-ending.branch [
      | then-byte-ending-via-then-byte-ending w ↦ w.if-byte-ending.true end.0
      | then-byte-ending-via-else-byte-ending+then-place-eq0 w ↦
          absurd (omega (arith, end.1, w.if-place-eq0.true))
    ]

pub returns-then-not-is_ascii_digit-clause-found :
    goal.returns-then-not-is_ascii_digit-clause-found
returns-then-not-is_ascii_digit-clause-found c =
    let read : AreDigits c.args.bytes.now c.loop-place.place = record {
      within = omega arith;
      digits = c.loop-place.invariant.digits;
    } in
    let some : 0 < c.loop-place.place = omega (arith, c.if-place-eq0.false) in
    field_read c.args.bytes.now c.loop-place.number c.args.ending c.loop-place.place read
    c.loop-place.invariant.value (omega arith) some (c.loop-place.invariant.first some)
    c.loop-place-test.true c.if-byte-ending.false

pub returns-then-number-eq0-clause-none : goal.returns-then-number-eq0-clause-none
returns-then-number-eq0-clause-none c number up rest is =
    let test = sym c.is_ascii_digit.ensures.value ∙ c.if-not-is_ascii_digit.false in
    let read : AreDigits c.args.bytes.now c.loop-place.place = record {
      within = omega arith;
      digits = c.loop-place.invariant.digits;
    } in
    let more = digit_read c.args.bytes.now c.loop-place.place read c.loop-place-test.true test in
    let value = value_read c.args.bytes.now c.loop-place.place c.loop-place.number c.from.result
    c.loop-place-test.true test c.from.ensures c.loop-place.invariant.value in
    let great = not_greater c.args.bytes.now c.args.most number c.args.ending rest (omega arith) up
    c.requires is (c.loop-place.place + 1) more in
    let some = not_zero c.args.bytes.now c.args.most number c.args.ending rest (omega arith) up
    c.requires is (c.loop-place.place + 1) more (omega arith) in
    elim c.then-number-eq0.branch [
      | then-number-eq0-via-then-number-eq0 w ↦
          absurd (omega (arith, w.if-number-eq0.true, some, value))
      | then-number-eq0-via-else-number-eq0+then-number-from w ↦
          absurd
          (omega (arith, w.if-number-from.true, w.from-else-number-eq0.ensures, great, value))
    ]

pub loop-place-preserved : goal.loop-place-preserved
loop-place-preserved c =
    let test = sym c.is_ascii_digit.ensures.value ∙ c.if-not-is_ascii_digit.false in
    let read : AreDigits c.args.bytes.now c.loop-place.place = record {
      within = omega arith;
      digits = c.loop-place.invariant.digits;
    } in
    record {
      digits = (digit_read c.args.bytes.now c.loop-place.place read c.loop-place-test.true
          test).digits;
      value =
          value_read c.args.bytes.now c.loop-place.place c.loop-place.number c.from.result
          c.loop-place-test.true test c.from.ensures c.loop-place.invariant.value;
      first = λ some.
          first_read c.args.bytes.now c.loop-place.place c.loop-place.number c.from.result
          c.loop-place.invariant.value c.from.ensures c.if-number-eq0.false
          c.loop-place.invariant.first;
      low = λ some. omega (arith, c.if-number-eq0.false);
      high = omega (arith, c.if-number-from.false, c.from-else-number-eq0.ensures);
    }

pub returns-clause-none : goal.returns-clause-none
returns-clause-none c number up rest is =
    let read : AreDigits c.args.bytes.now c.loop-place.place = record {
      within = omega arith;
      digits = c.loop-place.invariant.digits;
    } in
    let more = goes_on c.args.bytes.now c.args.most number c.args.ending rest (omega arith) up
    c.requires is c.loop-place.place read in
    absurd (omega (arith, more))
