-- What follows the first digits decides.
use Rattle.std.proofs.Common.{◌≡◌, ◌∙◌, ap, sym, length, drop, ◌<◌, arith, if◌then◌else◌}
use Rattle.std.proofs.lemmas.Bool.{eqb-true, eqb-false}
use Rattle.ps_language.specs.Bytes.{value_in}
use Rattle.ps_language.specs.Reading.{radix_word, name_word}
use Rattle.ps_language.specs.Scan.{are_radix_digits}
use Rattle.ps_scan.specs.Numbers.{number_in}
use Rattle.ps_scan.proofs.NumberForms.{tail_is, word_no_digits, word_integer, word_signed_radix, word_unsigned_radix}
use Rattle.ps_scan.proofs.NumberForms.{word_by_real}
use Rattle.ps_scan.proofs.numbers.number_by.Goals as goal

pub returns-then-is_empty-2 : goal.returns-then-is_empty-2
returns-then-is_empty-2 c =
    sym (ap number_in (word_no_digits c.args.run.now c.args.whole.now c.args.tail.now
    (eqb-true _ _ (sym c.is_empty.ensures ∙ c.if-is_empty.true)) (sym c.is_empty-then-is_empty.ensures
    ∙ c.if-is_empty-2.true)))

pub returns-else-is_empty-2 : goal.returns-else-is_empty-2
returns-else-is_empty-2 c = c.integer.ensures
    ∙ sym (ap number_in (word_integer c.args.run.now c.args.whole.now c.args.tail.now c.requires
    (eqb-true _ _ (sym c.is_empty.ensures ∙ c.if-is_empty.true)) (sym c.is_empty-then-is_empty.ensures
    ∙ c.if-is_empty-2.false)))

pub returns-then-is_sign_byte : goal.returns-then-is_sign_byte
returns-then-is_sign_byte c =
    let some : 0 < length c.args.tail.now =
    omega (arith, eqb-false _ _ (sym c.is_empty.ensures ∙ c.if-is_empty.false)) in
    sym (ap number_in (word_signed_radix c.args.run.now c.args.whole.now c.args.tail.now c.requires
    (sym c.is_sign_byte.ensures ∙ c.if-is_sign_byte.true) some c.if-tail-eq35.true))

pub returns-else-is_sign_byte : goal.returns-else-is_sign_byte
returns-else-is_sign_byte c =
    let some : 0 < length c.args.tail.now =
    omega (arith, eqb-false _ _ (sym c.is_empty.ensures ∙ c.if-is_empty.false)) in
    let base = value_in 10 0 c.args.whole.now in
    c.radix_number.ensures
    ∙ ap (λ t. number_in (if are_radix_digits base t then radix_word (value_in base 0 t) else name_word))
    (tail_is c.args.tail.now 1)
    ∙ sym (ap number_in (word_unsigned_radix c.args.run.now c.args.whole.now c.args.tail.now c.requires
    (sym c.is_sign_byte.ensures ∙ c.if-is_sign_byte.false) some c.if-tail-eq35.true))

pub returns-then-is_real_end : goal.returns-then-is_real_end
returns-then-is_real_end c =
    let some : 0 < length c.args.tail.now =
    omega (arith, eqb-false _ _ (sym c.is_empty.ensures ∙ c.if-is_empty.false)) in
    sym (ap number_in (word_by_real c.args.run.now c.args.whole.now c.args.tail.now _ _ some c.if-tail-eq35.false
    (ap Rattle.std.proofs.Common.not c.is_empty-else-tail-eq35.ensures) (sym c.is_real_end.ensures
    ∙ c.if-is_real_end.true)))

pub returns-else-is_real_end : goal.returns-else-is_real_end
returns-else-is_real_end c =
    let some : 0 < length c.args.tail.now =
    omega (arith, eqb-false _ _ (sym c.is_empty.ensures ∙ c.if-is_empty.false)) in
    sym (ap number_in (word_by_real c.args.run.now c.args.whole.now c.args.tail.now _ _ some c.if-tail-eq35.false
    (ap Rattle.std.proofs.Common.not c.is_empty-else-tail-eq35.ensures) (sym c.is_real_end.ensures
    ∙ c.if-is_real_end.false)))
