-- What is passed over behind white space and comments.
use Rattle.std.proofs.Common.{◌∙◌, ◌<◌, ◌≤◌, length, Some, refl, sym, ap, arith}
use Rattle.ps_scan.specs.Passed.{passed_by}
use Rattle.ps_scan.proofs.ScannerForms.{scan_none, scan_token}
use Rattle.ps_scan.proofs.Passing.{same_class, none_passed}
use Rattle.ps_scan.proofs.passes.pass_next.Goals as goal

pub returns-then-here-bytes-clause-answer : goal.returns-then-here-bytes-clause-answer
returns-then-here-bytes-clause-answer c =
    sym (ap passed_by (scan_none c.args.bytes.now c.args.at c.blank_end-here.result c.blank_end-here.ensures.rest
    c.if-here-bytes.true))

pub returns-in-Ok-clause-answer : goal.returns-in-Ok-clause-answer
returns-in-Ok-clause-answer c =
    let xs = c.args.bytes.now in
    let here = c.blank_end-here.result in
    let inside : here < length xs = omega (arith, c.if-here-bytes.false) in
    let passed = c.in-Ok.ensures in
    sym (ap passed_by
    (scan_token xs c.args.at here passed.0 c.in-Ok.passed.end c.blank_end-here.ensures.rest inside passed.1 passed.4)
    ∙ same_class passed.0 c.in-Ok.passed passed.2)

pub returns-in-Err-clause-answer : goal.returns-in-Err-clause-answer
returns-in-Err-clause-answer c =
    none_passed c.args.bytes.now c.args.at c.blank_end-here.result _ c.blank_end-here.ensures.rest
    (omega (arith, c.if-here-bytes.false)) c.in-Err.ensures
