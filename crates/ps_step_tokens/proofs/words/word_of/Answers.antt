-- By the token.
use Rattle.std.proofs.Common.{◌≡◌, ℕ, List, sym, ap, subst, ◌∙◌, rules, w32}
use mir.Val.{SFits}
use Rattle.std.proofs.lemmas.Int.{to_z-of_z}
use Rattle.ps_language.specs.Readers.{integer}
use Rattle.ps_language.specs.Token.{Token, literal_name_token, executable_name_token}
use Rattle.ps_mem.specs.Meaning.{value_of}
use Rattle.ps_scan.specs.Shown.{token_of}
use Rattle.ps_scan.proofs.TokenForms.{integer_is, literal_name_is, executable_name_is}
use Rattle.ps_step_tokens.specs.Short.{IsShort}
use Rattle.ps_step_tokens.specs.Words.{IsDoneAs}
use Rattle.ps_step_tokens.proofs.RoomLemmas.{if_some}
use Rattle.ps_step_tokens.proofs.Worded.{number_done, literal_done, executable_done}
use Rattle.ps_step_tokens.proofs.words.word_of.Goals as goal

pub returns-in-Integer-clause-done : goal.returns-in-Integer-clause-done
returns-in-Integer-clause-done c =
    let fits : SFits w32 c.in-Integer.number = search rules in
    let value : (births : ℕ → ℕ) (names : List (List ℕ))
    → value_of births names c.integer.result ≡ integer c.in-Integer.number =
    simp to_z-of_z at c.integer.ensures.value in
    subst (λ (t : Token). IsDoneAs c.args.names.now t c.integer.result)
    (sym (ap (token_of c.args.text.now) c.in-Integer.is
    ∙ integer_is c.args.text.now c.in-Integer.number))
    (number_done c.args.names.now c.integer.result c.in-Integer.number c.integer.ensures.plain value)

pub returns-in-ExecutableName-clause-done : goal.returns-in-ExecutableName-clause-done
returns-in-ExecutableName-clause-done c =
    let names = c.args.names.now in
    let is : token_of c.args.text.now c.args.kind.now ≡ executable_name_token c.of.result.now =
    ap (token_of c.args.text.now) c.in-ExecutableName.is
    ∙ (executable_name_is c.args.text.now c.in-ExecutableName.span
    ∙ ap executable_name_token (sym c.of.ensures)) in
    if_some c.met_word.result
    (λ word met. subst (λ (t : Token). IsDoneAs names t word) (sym is)
    (executable_done names c.of.result.now word c.met_word.ensures.names
    (subst IsShort is c.requires.short) met)) c.met_word.ensures.word

pub returns-in-LiteralName-clause-done : goal.returns-in-LiteralName-clause-done
returns-in-LiteralName-clause-done c =
    let names = c.args.names.now in
    let text = c.of-in-LiteralName.result.now in
    let is : token_of c.args.text.now c.args.kind.now ≡ literal_name_token text =
    ap (token_of c.args.text.now) c.in-LiteralName.is
    ∙ (literal_name_is c.args.text.now c.in-LiteralName.span
    ∙ ap literal_name_token (sym c.of-in-LiteralName.ensures)) in
    if_some c.met_word-in-LiteralName.result
    (λ word met. subst (λ (t : Token). IsDoneAs names t word) (sym is)
    (literal_done names text word c.met_word-in-LiteralName.ensures.names
    (subst IsShort is c.requires.short) met)) c.met_word-in-LiteralName.ensures.word
