-- A literal token is done as its word is, which is pushed.
use Rattle.std.proofs.Common.{Option, Result, Ok, refl, sym, ap, subst, ◌∙◌}
use Rattle.ps_scan.specs.declared.tokens.ScanFault.{ScanFault as Fault}
use Rattle.ps_scan.specs.declared.tokens.Token.{Token}
use Rattle.ps_scan.specs.Shown.{token_of}
use Rattle.ps_step.specs.Reading.{Reads}
use Rattle.ps_step.proofs.Reading.{literal_does}
use Rattle.ps_step.proofs.tokens.literal_ahead.Goals as goal

pub returns-then-push_quickly-clause-reads : goal.returns-then-push_quickly-clause-reads
returns-then-push_quickly-clause-reads c = λ asks heap dictionaries.
    let token : Token = c.in-Ok-Some.token in
    subst (λ (scanned : Result (Option Token) Fault). Reads asks heap dictionaries
    c.args.names.now c.args.text.now (Ok token.end) scanned c.args.operands.now
    c.push_quickly.new.operands)
    (sym (c.in-Ok-Some.is ∙ ap Ok (rw c.in-Ok-Some.is at c.in-Ok-Some.field-0-is))) (
      refl,
      literal_does asks heap dictionaries c.args.names.now
          (token_of c.args.text.now token.kind) c.in_ok-word-in-Ok-Some.word c.args.operands.now
          c.push_quickly.new.operands c.in_ok-word-in-Ok-Some.ensures.done
          (sym c.is_executable.ensures ∙ c.if-is_executable.false)
          (rw c.if-push_quickly.true at c.push_quickly.ensures),
    )

pub returns-else-push_quickly-clause-reads : goal.returns-else-push_quickly-clause-reads
returns-else-push_quickly-clause-reads c = λ asks heap dictionaries.
    (rw c.if-push_quickly.false at c.push_quickly.ensures c.in_ok-word-in-Ok-Some.word).0

pub returns-else-push_quickly-clause-kept : goal.returns-else-push_quickly-clause-kept
returns-else-push_quickly-clause-kept c = λ none.
    (rw c.if-push_quickly.false at c.push_quickly.ensures c.in_ok-word-in-Ok-Some.word).0
