-- A number or a name is read where a regular byte stands behind white space and comments.
use Rattle.std.proofs.Common.{arith, sym, ap, ◌∙◌}
use Rattle.std.proofs.lemmas.Bool.{true≢false}
use Rattle.ps_language.specs.Bytes.{is_regular}
use Rattle.ps_scan.proofs.ReadingForms.{same_answer, regular_at}
use Rattle.ps_scan.proofs.ProcedureForms.{no_brace_at}
use Rattle.ps_scan.proofs.ScannerForms.{scan_token}
use Rattle.ps_scan.proofs.scanner.next_word.Goals as goal

pub returns-in-Ok-clause-answer : goal.returns-in-Ok-clause-answer
returns-in-Ok-clause-answer c =
    let bytes = c.args.bytes.now in
    let here = c.blank_end-here.result in
    let regular = sym c.is_regular_byte.ensures ∙ c.if-not-is_regular_byte.false in
    let answer = rw c.in-Ok.is at (same_answer ⊥ ⊥ bytes here _ _ _ (λ no. no)
    (no_brace_at 32 bytes here (λ brace. true≢false (sym regular ∙ ap is_regular brace))
    ∙ regular_at bytes here regular) c.word_token.ensures) in
    scan_token bytes c.args.at here _ c.in-Ok.token.end c.blank_end-here.ensures.rest
    (omega (arith, c.if-here-bytes.false)) answer.0 answer.2
