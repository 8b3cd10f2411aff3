-- No room for it, a name that is missing, or its names are formed.
use Rattle.std.proofs.Common.{arith, ap, sym, ◌∙◌}
use Rattle.std.specs.Prelude.{option_map}
use Rattle.std.proofs.lemmas.Bool.Decides.{nat_tests}
use Rattle.ps_language.specs.declared.errors.ErrorName.TheVariants.{StackOverflow}
use Rattle.ps_language.specs.Token.{procedure_token}
use Rattle.ps_ops_operands.proofs.Ready.{plain_value, plain_within}
use Rattle.ps_ops_state.specs.Lent.{Lent, lent_of}
use Rattle.ps_step_tokens.specs.Missing.{missing_of}
use Rattle.ps_step_tokens.specs.Procedures.{tokens_in}
use Rattle.ps_step_tokens.specs.Tokens.{procedure_asks, token_turn}
use Rattle.ps_step_tokens.proofs.Alike.{raised}
use Rattle.ps_step_tokens.proofs.ProcedureTurns.{procedure_overflows, missing_done, named_done}
use Rattle.ps_step_tokens.proofs.procedures.do_procedure.Goals as goal

pub raise-requires-clause-held : goal.raise-requires-clause-held
raise-requires-clause-held g c = plain_value _ _ c.null.ensures.plain

pub returns-then-is_full : goal.returns-then-is_full
returns-then-is_full g c =
    let l : Lent = (lent_of g.M.Memory.heap g.M.Memory.grants c.args.context.now c.args.runtime.now) in
    let content = tokens_in c.args.text.now c.args.elements.now in
    raised (procedure_asks content) (token_turn (procedure_token content)) c.args.attempt _ l _
    c.null.result (λ s shown. plain_within _ _ s _ c.null.ensures.plain) StackOverflow
    (λ s shown. procedure_overflows l content
    (grind (arith, nat_tests, c.is_full.ensures, c.if-is_full.true)) c.null.result
    (c.null.ensures.value _ _) s) c.raise.ensures

pub returns-in-Some : goal.returns-in-Some
returns-in-Some g c =
    let l : Lent = (lent_of g.M.Memory.heap g.M.Memory.grants c.args.context.now c.args.runtime.now) in
    let content = tokens_in c.args.text.now c.args.elements.now in
    let value = c.first_missing-missing.ensures.value in
    let turns = c.raise_missing.ensures in
    missing_done l content (grind (arith, nat_tests, c.is_full.ensures, c.if-is_full.false))
    c.args.attempt _ _ (missing_of c.args.text.now c.in-Some.name)
    (λ s shown. sym (value s shown.shows)
    ∙ ap (option_map (missing_of c.args.text.now)) c.in-Some.is)
    (rw (
      c.first_missing-missing.ensures.heap,
      c.first_missing-missing.ensures.grants,
      c.of.ensures,
    ) at turns)

pub returns : goal.returns
returns g c =
    let l : Lent = (lent_of g.M.Memory.heap g.M.Memory.grants c.args.context.now c.args.runtime.now) in
    let content = tokens_in c.args.text.now c.args.elements.now in
    let value = c.first_missing-missing.ensures.value in
    let turns = c.do_named.ensures in
    named_done l content (grind (arith, nat_tests, c.is_full.ensures, c.if-is_full.false))
    c.args.attempt _ _
    (λ s shown. sym (value s shown.shows)
    ∙ ap (option_map (missing_of c.args.text.now)) c.in_default.is)
    (rw (c.first_missing-missing.ensures.heap, c.first_missing-missing.ensures.grants) at turns)
