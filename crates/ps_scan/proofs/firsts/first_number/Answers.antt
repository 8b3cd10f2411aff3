-- What is passed over behind white space and comments.
use Rattle.std.proofs.Common.{◌≡◌, ◌∙◌, ◌<◌, length, Ok, sym, ap, to_z, of_z, w32, arith}
use Rattle.std.proofs.lemmas.Int.{ints}
use Rattle.ps_language.specs.Token.{syntax_fault, limit_fault}
use Rattle.ps_scan.specs.Passed.{number_of, number_or, class_number}
use Rattle.ps_scan.proofs.Passing.{number_passed}
use Rattle.ps_scan.proofs.ScannerForms.{scan_none, scan_fault}
use Rattle.ps_scan.proofs.firsts.first_number.Goals as goal

pub returns-then-here-bytes : goal.returns-then-here-bytes
returns-then-here-bytes c =
    sym (ap number_of (scan_none c.args.bytes.now 0 c.blank_end-here.result c.blank_end-here.ensures.rest
    c.if-here-bytes.true))

pub returns-in-Number : goal.returns-in-Number
returns-in-Number c =
    let passed = c.in-Ok.ensures in
    let same : to_z w32 (of_z w32 c.in-Number.number) ≡ c.in-Number.number = omega (arith, ints) in
    ap Ok same ∙ sym (number_passed c.args.bytes.now c.blank_end-here.result c.in-Ok.token.end passed.0
    c.blank_end-here.ensures.rest (omega (arith, c.if-here-bytes.false)) passed.1 passed.4
    ∙ ap (λ class. number_or (class_number class)) (passed.2 ∙ c.in-Number.is))

pub returns-in-Name : goal.returns-in-Name
returns-in-Name c =
    let passed = c.in-Ok.ensures in
    sym (number_passed c.args.bytes.now c.blank_end-here.result c.in-Ok.token.end passed.0
    c.blank_end-here.ensures.rest (omega (arith, c.if-here-bytes.false)) passed.1 passed.4
    ∙ ap (λ class. number_or (class_number class)) (passed.2 ∙ c.in-Name.is))

pub returns-in-Text : goal.returns-in-Text
returns-in-Text c =
    let passed = c.in-Ok.ensures in
    sym (number_passed c.args.bytes.now c.blank_end-here.result c.in-Ok.token.end passed.0
    c.blank_end-here.ensures.rest (omega (arith, c.if-here-bytes.false)) passed.1 passed.4
    ∙ ap (λ class. number_or (class_number class)) (passed.2 ∙ c.in-Text.is))

pub returns-in-Procedure : goal.returns-in-Procedure
returns-in-Procedure c =
    let passed = c.in-Ok.ensures in
    sym (number_passed c.args.bytes.now c.blank_end-here.result c.in-Ok.token.end passed.0
    c.blank_end-here.ensures.rest (omega (arith, c.if-here-bytes.false)) passed.1 passed.4
    ∙ ap (λ class. number_or (class_number class)) (passed.2 ∙ c.in-Procedure.is))

pub returns-in-Err-Syntax : goal.returns-in-Err-Syntax
returns-in-Err-Syntax c =
    let stuck = rw c.in-Err-Syntax.field-0-is at c.in-Err-Syntax.ensures in
    sym (ap number_of (scan_fault c.args.bytes.now 0 c.blank_end-here.result syntax_fault c.blank_end-here.ensures.rest
    (omega (arith, c.if-here-bytes.false)) stuck))

pub returns-in-Err-Limit : goal.returns-in-Err-Limit
returns-in-Err-Limit c =
    let stuck = rw c.in-Err-Limit.field-0-is at c.in-Err-Limit.ensures in
    sym (ap number_of (scan_fault c.args.bytes.now 0 c.blank_end-here.result limit_fault c.blank_end-here.ensures.rest
    (omega (arith, c.if-here-bytes.false)) stuck))

pub returns-in-Err-Memory : goal.returns-in-Err-Memory
returns-in-Err-Memory c = absurd (rw c.in-Err-Memory.field-0-is at c.in-Err-Memory.ensures)
