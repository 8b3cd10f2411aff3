-- The first element that has one, and then the others.
use Rattle.std.proofs.Common.{◌+◌, ℕ, List, Option, sym, ap, subst, ◌∙◌, drop}
use Rattle.ps_language.specs.StepTokens.{Missing, missing_in, missing_or}
use Rattle.ps_language.specs.StepValues.{LookedUp}
use Rattle.ps_scan.specs.Shown.{token_of}
use Rattle.ps_step_tokens.specs.Missing.{look_by, missing_of}
use Rattle.ps_step_tokens.specs.Procedures.{tokens_in}
use Rattle.ps_step_tokens.specs.Short.{AreShort}
use Rattle.ps_step_tokens.proofs.Elements.{tokens-next}
use Rattle.ps_step_tokens.proofs.Walking.{missing_more, or_some, or_other}
use Rattle.ps_step_tokens.proofs.missing.+missing.Goals as goal

pub first_missing-returns-then-is_some-clause-value :
    goal.first_missing-returns-then-is_some-clause-value
first_missing-returns-then-is_some-clause-value g t c = λ s shows.
    let text = c.args.text.now in
    let v = c.loop-element.invariant in
    let look : List ℕ → LookedUp = look_by (g.M.Memory.heap c.args.memory.now) c.args.names.now
    c.args.dictionaries.now s in
    let token = token_of text c.element-item.result in
    let rest = tokens_in text (drop (c.loop-element.element-index + 1) c.args.elements.now) in
    let next = tokens-next text c.args.elements.now c.loop-element.element-index
    c.element-item.result c.loop-element-test.true c.element-item.is in
    let value = c.element_missing-missing.ensures.value in
    let here = rw v.heap at value in
    sym (or_some (missing_of text) c.element_missing-missing.result
    (sym c.is_some.ensures ∙ c.if-is_some.true) (missing_in look rest))
    ∙ (ap (λ (m : Option Missing). missing_or m (missing_in look rest)) (here s shows)
    ∙ (sym (missing_more look token rest)
    ∙ (sym (ap (missing_in look) next) ∙ sym (v.value s shows))))

pub first_missing-loop-element-preserved : goal.first_missing-loop-element-preserved
first_missing-loop-element-preserved g t c =
    let text = c.args.text.now in
    let v = c.loop-element.invariant in
    let token = token_of text c.element-item.result in
    let rest = tokens_in text (drop (c.loop-element.element-index + 1) c.args.elements.now) in
    let next = tokens-next text c.args.elements.now c.loop-element.element-index
    c.element-item.result c.loop-element-test.true c.element-item.is in
    let value = c.element_missing-missing.ensures.value in
    let here = rw v.heap at value in
    record {
      short = (subst AreShort next v.short).1;
      heap = c.element_missing-missing.ensures.heap ∙ v.heap;
      grants = c.element_missing-missing.ensures.grants ∙ v.grants;
      value = λ s shows.
          let look : List ℕ → LookedUp = look_by (g.M.Memory.heap c.args.memory.now)
          c.args.names.now c.args.dictionaries.now s in
          v.value s shows
          ∙ (ap (missing_in look) next
          ∙ (missing_more look token rest
          ∙ (ap (λ (m : Option Missing). missing_or m (missing_in look rest))
          (sym (here s shows))
          ∙ or_other (missing_of text) c.element_missing-missing.result
          (sym c.is_some.ensures ∙ c.if-is_some.false) (missing_in look rest))));
    }
