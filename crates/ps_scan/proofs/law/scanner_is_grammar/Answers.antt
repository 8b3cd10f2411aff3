-- The laws of the scanner.
use Rattle.ps_language.specs.Token.{found}
use Rattle.ps_language.proofs.ScanLaw.{scan_exactly, reads_one}
use Rattle.ps_language.proofs.Behind.{reads_lies}
use Rattle.ps_language.proofs.ScanSteps.{scan_shifted}
use Rattle.ps_scan.proofs.law.scanner_is_grammar.Goals as goal

pub returns-clause-exact : goal.returns-clause-exact
returns-clause-exact c = scan_exactly

pub returns-clause-one : goal.returns-clause-one
returns-clause-one c = reads_one

pub returns-clause-place : goal.returns-clause-place
returns-clause-place c bytes at token end h = reads_lies bytes at (found token end) h

pub returns-clause-onward : goal.returns-clause-onward
returns-clause-onward c = scan_shifted
