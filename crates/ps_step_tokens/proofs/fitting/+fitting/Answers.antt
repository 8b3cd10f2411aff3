-- The least of one element, and then of the others.
use Rattle.std.proofs.Common.{◌≡◌, ◌+◌, ℕ, List, [], ◌∷◌, ◌++◌, Some, sym, ap, subst, ◌∙◌, append-nil, append_assoc}
use Rattle.std.proofs.Common.{drop, arith, Bool, inl, inr}
use Rattle.std.specs.Prelude.{option_map}
use Rattle.ps_language.specs.StepTokens.{names_in}
use Rattle.ps_language.specs.Token.{Token, Tokens, no_tokens, more_tokens}
use Rattle.ps_scan.specs.Shown.{part_of, token_of}
use Rattle.ps_scan.proofs.TokenForms.{literal_name_is, executable_name_is, immediate_name_is}
use Rattle.ps_step_tokens.specs.Fitting.{IsLeast, is_new}
use Rattle.ps_step_tokens.specs.Procedures.{token_in, tokens_in}
use Rattle.ps_step_tokens.proofs.Elements.{tokens-next, tokens-end}
use Rattle.ps_step_tokens.proofs.Least.{least_more, least_one}
use Rattle.ps_step_tokens.proofs.Walking.{names_more}
use Rattle.ps_step_tokens.proofs.fitting.+fitting.Goals as goal

pub next_name-loop-element-preserved : goal.next_name-loop-element-preserved
next_name-loop-element-preserved t c =
    let text = c.args.text.now in
    let test : List ℕ → Bool = is_new c.args.names.now (option_map (part_of text) c.args.last) in
    let i = c.loop-element.element-index in
    let token = token_of text c.element-item.result in
    let here = names_in (token_in text c.element-item.result) in
    let rest = tokens_in text (drop (i + 1) c.args.elements.now) in
    let next = tokens-next text c.args.elements.now i c.element-item.result
    c.loop-element-test.true c.element-item.is in
    let v = c.loop-element.invariant in (
      v.0 ++ here,
      v.1 ∙ (ap (λ (ts : Tokens). v.0 ++ names_in ts) next
          ∙ (ap (λ (ns : List (List ℕ)). v.0 ++ ns) (names_more token rest)
          ∙ sym (append_assoc v.0 here (names_in rest)))),
      subst (IsLeast test (v.0 ++ here)) (sym c.lesser-least.ensures)
          (least_more test v.0 here _ _ v.2 c.next_of_element-next.ensures),
    )

pub next_name-returns : goal.next_name-returns
next_name-returns t c =
    let text = c.args.text.now in
    let test : List ℕ → Bool = is_new c.args.names.now (option_map (part_of text) c.args.last) in
    let v = c.loop-element.invariant in
    let end = tokens-end text c.args.elements.now c.loop-element.element-index (omega arith) in
    subst (λ (ns : List (List ℕ)). IsLeast test ns (option_map (part_of text) c.loop-element.least))
    (sym (v.1 ∙ (ap (λ (ts : Tokens). v.0 ++ names_in ts) end ∙ append-nil v.0))) v.2

pub next_of_element-returns-then-is_new : goal.next_of_element-returns-then-is_new
next_of_element-returns-then-is_new t c =
    let text = c.args.text.now in
    let test : List ℕ → Bool = is_new c.args.names.now (option_map (part_of text) c.args.last) in
    let span = c.in-LiteralName.span in
    let name = part_of text span in
    let shown = λ (token : Token). names_in (more_tokens token no_tokens) in
    let is : names_in (token_in text c.args.element.now) ≡ name ∷ [] = elim c.in-LiteralName.is [
      | inl literal ↦ ap shown (ap (token_of text) literal ∙ literal_name_is text span)
      | inr (inl executed) ↦ ap shown (ap (token_of text) executed ∙ executable_name_is text span)
      | inr (inr replaced) ↦ ap shown (ap (token_of text) replaced ∙ immediate_name_is text span)
    ] in
    subst (λ (ns : List (List ℕ)). IsLeast test ns (Some name)) (sym is)
    (least_one test name (sym c.is_new.ensures ∙ c.if-is_new.true))
