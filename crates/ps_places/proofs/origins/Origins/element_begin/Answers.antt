-- The origin, and then what is asked of its token.
use Rattle.std.proofs.Common.{ap, ◌∙◌, ◌-◌, arith}
use Rattle.std.specs.Option.{option_and_then}
use Rattle.ps_places.specs.declared.origins.Origin.{Origin}
use Rattle.ps_places.specs.Objects as objects
use Rattle.ps_places.specs.Origins.{element_begin}
use Rattle.ps_places.proofs.origins.Origins.element_begin.Goals as goal

pub overflow_sub-birth : goal.overflow_sub-birth
overflow_sub-birth c = omega (arith, c.in-Some.ensures.low)

pub returns-in-Some : goal.returns-in-Some
unfolding element_begin
returns-in-Some c =
    c.element_begin.ensures ∙ ap (option_and_then (λ (origin : Origin).
    objects.element_begin c.args.text.now origin.begin (c.args.birth - origin.birth) c.args.element)) c.in-Some.ensures.is

pub returns-in-None : goal.returns-in-None
unfolding element_begin
returns-in-None c =
    ap (option_and_then (λ (origin : Origin).
    objects.element_begin c.args.text.now origin.begin (c.args.birth - origin.birth) c.args.element)) c.in-None.ensures.is
