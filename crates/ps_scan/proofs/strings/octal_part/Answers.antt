-- One digit, two digits, three digits.
use Rattle.std.proofs.Common.{◌<◌, ◌∙◌, sym, arith}
use Rattle.std.proofs.lemmas.Bool.{ltb-true}
use Rattle.ps_scan.proofs.StringForms.{octal_one, octal_two, octal_three, octal_rest_on, octal_rest_off, octal_rest_two}
use Rattle.ps_scan.proofs.StringForms.{octal_rest_three}
use Rattle.ps_scan.proofs.strings.octal_part.Goals as goal

pub returns-in-None-clause-byte : goal.returns-in-None-clause-byte
returns-in-None-clause-byte c =
    let small : c.digit_value-first.result < 8 =
    omega (arith, c.digit_value-first.ensures.value, ltb-true _ _ c.requires.digit) in
    octal_one c.args.bytes.now c.args.at c.digit_value-first.result c.requires.inside c.requires.digit
    c.digit_value-first.ensures.value small c.in-None.ensures.none

pub returns-in-None-clause-rest : goal.returns-in-None-clause-rest
returns-in-None-clause-rest c = sym (octal_rest_on 2 c.args.bytes.now c.args.at c.requires.inside c.requires.digit
    ∙ octal_rest_off 1 c.args.bytes.now _ c.in-None.ensures.none)

pub returns-in-None-octal_digit-clause-byte : goal.returns-in-None-octal_digit-clause-byte
returns-in-None-octal_digit-clause-byte c =
    let small : c.digit_value-first.result < 8 =
    omega (arith, c.digit_value-first.ensures.value, ltb-true _ _ c.requires.digit) in
    let second = c.in-Some.ensures.some in
    octal_two c.args.bytes.now c.args.at c.digit_value-first.result c.in-Some.digit c.requires.inside c.requires.digit
    c.digit_value-first.ensures.value small second.0 second.1 second.2 second.3 c.in-None-octal_digit.ensures.none

pub returns-in-None-octal_digit-clause-rest : goal.returns-in-None-octal_digit-clause-rest
returns-in-None-octal_digit-clause-rest c =
    let second = c.in-Some.ensures.some in
    sym (octal_rest_two c.args.bytes.now c.args.at c.requires.inside c.requires.digit second.0 second.1
    ∙ octal_rest_off 0 c.args.bytes.now _ c.in-None-octal_digit.ensures.none)

pub returns-clause-byte : goal.returns-clause-byte
returns-clause-byte c =
    let second = c.in-Some.ensures.some in
    let third = c.in-Some-octal_digit.ensures.some in
    octal_three c.args.bytes.now c.args.at c.digit_value-first.result c.in-Some.digit c.in-Some-octal_digit.digit
    c.requires.inside c.requires.digit c.digit_value-first.ensures.value second.0 second.1 second.2 third.0 third.1
    third.2

pub returns-clause-rest : goal.returns-clause-rest
returns-clause-rest c =
    let second = c.in-Some.ensures.some in
    let third = c.in-Some-octal_digit.ensures.some in
    sym (octal_rest_three c.args.bytes.now c.args.at c.requires.inside c.requires.digit second.0 second.1 third.0
    third.1)
