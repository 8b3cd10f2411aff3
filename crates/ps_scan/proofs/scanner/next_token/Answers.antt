-- Nothing is left behind white space and comments, or a token or a fault stands there.
use Rattle.std.proofs.Common.{arith}
use Rattle.ps_scan.proofs.ScannerForms.{scan_none, scan_token, scan_faulty}
use Rattle.ps_scan.proofs.scanner.next_token.Goals as goal

pub returns-then-here-bytes-clause-answer : goal.returns-then-here-bytes-clause-answer
returns-then-here-bytes-clause-answer c =
    scan_none c.args.bytes.now c.args.at c.blank_end-here.result c.blank_end-here.ensures.rest c.if-here-bytes.true

pub returns-in-Ok-clause-answer : goal.returns-in-Ok-clause-answer
returns-in-Ok-clause-answer c =
    scan_token c.args.bytes.now c.args.at c.blank_end-here.result _ c.in-Ok.token.end c.blank_end-here.ensures.rest
    (omega (arith, c.if-here-bytes.false)) c.in-Ok.ensures.0 c.in-Ok.ensures.2

pub returns-in-Err-clause-fault : goal.returns-in-Err-clause-fault
returns-in-Err-clause-fault c =
    scan_faulty c.args.bytes.now c.args.at c.blank_end-here.result c.in-Err.fault c.blank_end-here.ensures.rest
    (omega (arith, c.if-here-bytes.false)) c.in-Err.ensures
