-- By the token.
use Rattle.std.proofs.Common.{◌≡◌, sym, ap, subst, ◌∙◌, rules, w32}
use mir.Val.{SFits}
use Rattle.std.proofs.lemmas.Int.{to_z-of_z}
use Rattle.ps_language.specs.Token as language
use Rattle.ps_language.specs.Token.{string_token, procedure_token}
use Rattle.ps_scan.specs.declared.tokens.Span.{Span}
use Rattle.ps_scan.specs.Shown.{part_of, token_of}
use Rattle.ps_scan.proofs.TokenForms.{integer_is, literal_name_is, executable_name_is, immediate_name_is, text_is}
use Rattle.ps_ops_state.specs.Lent.{Lent, lent_of}
use Rattle.ps_step_outcome.specs.Turns.{Turns}
use Rattle.ps_step_tokens.specs.declared.names.NameKind.{NameKind}
use Rattle.ps_step_tokens.specs.Names.{name_token}
use Rattle.ps_step_tokens.specs.Procedures.{tokens_in}
use Rattle.ps_step_tokens.specs.Tokens.{token_asks, token_turn}
use Rattle.ps_step_tokens.proofs.Elements.{procedure-token}
use Rattle.ps_step_tokens.proofs.tokens.do_token.Goals as goal
use Rattle.ps_step_tokens.proofs.tokens.do_token.Goals.{in-LiteralName, in-ExecutableName, in-ImmediateName}

pub returns-in-Integer : goal.returns-in-Integer
returns-in-Integer g c =
    let l : Lent = (lent_of g.M.Memory.heap g.M.Memory.grants c.args.context.now c.args.runtime.now) in
    let fits : SFits w32 c.in-Integer.number = search rules in
    let turns = simp to_z-of_z at c.do_number.ensures in
    subst (λ (t : language.Token). Turns (token_asks g.O.Operate.asks t) (token_turn t) c.args.attempt
    c.do_number.result l (lent_of g.M.Memory.heap g.M.Memory.grants c.do_number.new.context c.do_number.new.runtime))
    (sym (ap (token_of c.args.text.now) c.in-Integer.is
    ∙ integer_is c.args.text.now c.in-Integer.number)) turns

pub returns : goal.returns
returns g c =
    let l : Lent = (lent_of g.M.Memory.heap g.M.Memory.grants c.args.context.now c.args.runtime.now) in
    let text = c.args.text.now in
    let named = λ (name : NameKind × Span). name_token name.0 (part_of text name.1) in
    let is : token_of text c.args.kind.now ≡ named c.match-kind.name_kind =
    elim c.match-kind.branch [
      | in-LiteralName w ↦ ap (token_of text) w.in-LiteralName.is
          ∙ (literal_name_is text w.in-LiteralName.span ∙ sym (ap named w.name_kind-is))
      | in-ExecutableName w ↦ ap (token_of text) w.in-ExecutableName.is
          ∙ (executable_name_is text w.in-ExecutableName.span ∙ sym (ap named w.name_kind-is))
      | in-ImmediateName w ↦ ap (token_of text) w.in-ImmediateName.is
          ∙ (immediate_name_is text w.in-ImmediateName.span ∙ sym (ap named w.name_kind-is))
    ] in
    subst (λ (t : language.Token). Turns (token_asks g.O.Operate.asks t) (token_turn t) c.args.attempt
    c.do_name.result l (lent_of g.M.Memory.heap g.M.Memory.grants c.do_name.new.context c.do_name.new.runtime))
    (sym (is ∙ ap (name_token c.match-kind.name_kind.0) (sym c.of-name.ensures)))
    c.do_name.ensures

pub returns-in-Text : goal.returns-in-Text
returns-in-Text g c =
    let l : Lent = (lent_of g.M.Memory.heap g.M.Memory.grants c.args.context.now c.args.runtime.now) in
    subst (λ (t : language.Token). Turns (token_asks g.O.Operate.asks t) (token_turn t) c.args.attempt
    c.do_string.result l (lent_of g.M.Memory.heap g.M.Memory.grants c.do_string.new.context c.do_string.new.runtime))
    (sym (ap (token_of c.args.text.now) c.in-Text.is ∙ text_is c.args.text.now c.in-Text.bytes
    ∙ ap string_token (sym c.deref.ensures.value))) c.do_string.ensures

pub returns-in-Procedure : goal.returns-in-Procedure
returns-in-Procedure g c =
    let l : Lent = (lent_of g.M.Memory.heap g.M.Memory.grants c.args.context.now c.args.runtime.now) in
    subst (λ (t : language.Token). Turns (token_asks g.O.Operate.asks t) (token_turn t) c.args.attempt
    c.do_procedure.result l (lent_of g.M.Memory.heap g.M.Memory.grants c.do_procedure.new.context c.do_procedure.new.runtime))
    (sym (ap (token_of c.args.text.now) c.in-Procedure.is
    ∙ procedure-token c.args.text.now c.in-Procedure.elements
    ∙ ap (λ kinds. procedure_token (tokens_in c.args.text.now kinds))
    (sym c.deref-in-Procedure.ensures.value))) c.do_procedure.ensures
