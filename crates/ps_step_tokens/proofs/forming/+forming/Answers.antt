-- The names of one element, and then those of the others.
use Rattle.std.proofs.Common.{◌+◌, ℕ, List, ◌++◌, sym, ap, subst, ◌∙◌, append_assoc, length, length-append, drop, arith}
use Rattle.std.specs.Prelude.{fold}
use Rattle.ps_language.specs.Dictionaries.{meet}
use Rattle.ps_language.specs.StepTokens.{names_in}
use Rattle.ps_language.specs.Token.{Tokens}
use Rattle.ps_scan.specs.Shown.{token_of}
use Rattle.ps_step_tokens.specs.Procedures.{token_in, tokens_in}
use Rattle.ps_step_tokens.specs.Short.{AreShort}
use Rattle.ps_step_tokens.proofs.Elements.{tokens-next}
use Rattle.ps_step_tokens.proofs.Walking.{formed_more, fold_longer}
use Rattle.ps_step_tokens.proofs.forming.+forming.Goals as goal

pub form_names-returns-in-Err-clause-full : goal.form_names-returns-in-Err-clause-full
form_names-returns-in-Err-clause-full t c = λ is.
    let text = c.args.text.now in
    let names = c.loop-element.names in
    let token = token_of text c.element-item.result in
    let rest = tokens_in text (drop (c.loop-element.element-index + 1) c.args.elements.now) in
    let next = tokens-next text c.args.elements.now c.loop-element.element-index
    c.element-item.result c.loop-element-test.true c.element-item.is in
    let past = c.in-Err.ensures.full is in
    let same = ap length (c.loop-element.invariant.formed
    ∙ (ap (λ (ts : Tokens). fold meet names (names_in ts)) next ∙ formed_more names token rest)) in
    let longer = fold_longer (fold meet names (names_in (token_in text c.element-item.result)))
    (names_in rest) in
    omega (arith, past, same, longer)

pub form_names-returns-in-Err-clause-memory : goal.form_names-returns-in-Err-clause-memory
form_names-returns-in-Err-clause-memory t c = λ is.
    let text = c.args.text.now in
    let names = c.loop-element.names in
    let more = c.loop-element.invariant.more in
    let token = token_of text c.element-item.result in
    let rest = tokens_in text (drop (c.loop-element.element-index + 1) c.args.elements.now) in
    let next = tokens-next text c.args.elements.now c.loop-element.element-index
    c.element-item.result c.loop-element-test.true c.element-item.is in
    let past = c.in-Err.ensures.memory is in
    let before = ap length more.1 ∙ length-append c.args.names.now more.0 in
    let same = ap length (c.loop-element.invariant.formed
    ∙ (ap (λ (ts : Tokens). fold meet names (names_in ts)) next ∙ formed_more names token rest)) in
    let longer = fold_longer (fold meet names (names_in (token_in text c.element-item.result)))
    (names_in rest) in
    omega (arith, past, before, same, longer)

pub form_names-loop-element-preserved : goal.form_names-loop-element-preserved
form_names-loop-element-preserved t c =
    let text = c.args.text.now in
    let names = c.loop-element.names in
    let v = c.loop-element.invariant in
    let token = token_of text c.element-item.result in
    let rest = tokens_in text (drop (c.loop-element.element-index + 1) c.args.elements.now) in
    let next = tokens-next text c.args.elements.now c.loop-element.element-index
    c.element-item.result c.loop-element-test.true c.element-item.is in
    let more = c.in-Ok.ensures.more in
    record {
      short = (subst AreShort next v.short).1;
      more = (
        v.more.0 ++ more.0,
        more.1 ∙ (ap (λ (ns : List (List ℕ)). ns ++ more.0) v.more.1
            ∙ append_assoc c.args.names.now v.more.0 more.0),
      );
      are = λ old. c.in-Ok.ensures.are (v.are old);
      formed = v.formed
          ∙ (ap (λ (ts : Tokens). fold meet names (names_in ts)) next
          ∙ (formed_more names token rest
          ∙ ap (λ (ns : List (List ℕ)). fold meet ns (names_in rest))
          (sym c.in-Ok.ensures.formed)));
    }

pub form_names-returns-in-Err-clause-are : goal.form_names-returns-in-Err-clause-are
form_names-returns-in-Err-clause-are t c = λ old.
    c.in-Err.ensures.are (c.loop-element.invariant.are old)
