-- By the order of the two.
use Rattle.std.proofs.Common.{◌≡◌, true, false, refl, sym, ◌∙◌}
use Rattle.ps_scan.specs.Shown.{part_of}
use Rattle.ps_step_tokens.specs.Fitting.{is_before}
use Rattle.ps_step_tokens.proofs.fitting.lesser.Goals as goal

pub returns-then-is_before : goal.returns-then-is_before
returns-then-is_before c =
    let text = c.args.text.now in
    let is : is_before (part_of text c.in-Some-other.second) (part_of text c.in-Some.span) ≡ true =
    sym (λ i. is_before (c.of.ensures i) (c.of-2.ensures i))
    ∙ (sym c.is_before.ensures ∙ c.if-is_before.true) in
    rw (c.in-Some.is, c.in-Some-other.is, is) refl

pub returns-else-is_before : goal.returns-else-is_before
returns-else-is_before c =
    let text = c.args.text.now in
    let is : is_before (part_of text c.in-Some-other.second) (part_of text c.in-Some.span) ≡ false =
    sym (λ i. is_before (c.of.ensures i) (c.of-2.ensures i))
    ∙ (sym c.is_before.ensures ∙ c.if-is_before.false) in
    rw (c.in-Some.is, c.in-Some-other.is, is) refl
