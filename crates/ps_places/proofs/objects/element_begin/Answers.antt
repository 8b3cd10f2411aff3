-- The object, and then its element.
use Rattle.std.proofs.Common.{ap, ◌∙◌, ℕ}
use Rattle.std.specs.Prelude.{slice_get}
use Rattle.std.specs.Option.{option_and_then}
use Rattle.ps_language.specs.Scan.{scan}
use Rattle.ps_places.specs.Objects.{elements_in, element_begin}
use Rattle.ps_places.proofs.objects.element_begin.Goals as goal

pub returns-in-Some : goal.returns-in-Some
unfolding element_begin
returns-in-Some c =
    let text = c.args.text.now in
    c.own_element.ensures
    ∙ ap (option_and_then (λ (place : ℕ). slice_get (elements_in text place (scan text place)) c.args.element))
    c.in-Some.ensures

pub returns-in-None : goal.returns-in-None
unfolding element_begin
returns-in-None c =
    let text = c.args.text.now in
    ap (option_and_then (λ (place : ℕ). slice_get (elements_in text place (scan text place)) c.args.element))
    c.in-None.ensures
