-- A procedure alone has elements.
use Rattle.std.proofs.Common.{sym, ap, ◌∙◌}
use Rattle.std.specs.Prelude.{slice_get}
use Rattle.ps_language.specs.Scan.{scan}
use Rattle.ps_scan.specs.declared.passes.TokenClass.TheVariants.{Number, Name, Text, Procedure}
use Rattle.ps_places.proofs.Seeking.{elements_class, elements_none}
use Rattle.ps_places.proofs.objects.own_element.Goals as goal

pub returns-in-None : goal.returns-in-None
returns-in-None c =
    let text = c.args.text.now in
    sym (ap (λ es. slice_get es c.args.element)
    (elements_none text c.args.begin (scan text c.args.begin) c.in-None.ensures.answer))

pub returns-in-Procedure : goal.returns-in-Procedure
returns-in-Procedure c =
    let text = c.args.text.now in
    c.nth_token.ensures ∙ sym (ap (λ es. slice_get es c.args.element)
    (elements_class text c.args.begin (scan text c.args.begin) c.in-Some.token Procedure c.in-Some.ensures.answer
    c.in-Procedure.is))

pub returns-in-Number : goal.returns-in-Number
returns-in-Number c =
    let text = c.args.text.now in
    sym (ap (λ es. slice_get es c.args.element)
    (elements_class text c.args.begin (scan text c.args.begin) c.in-Some.token (Number c.in-Number.field-0)
    c.in-Some.ensures.answer c.in-Number.is))

pub returns-in-Name : goal.returns-in-Name
returns-in-Name c =
    let text = c.args.text.now in
    sym (ap (λ es. slice_get es c.args.element)
    (elements_class text c.args.begin (scan text c.args.begin) c.in-Some.token Name c.in-Some.ensures.answer
    c.in-Name.is))

pub returns-in-Text : goal.returns-in-Text
returns-in-Text c =
    let text = c.args.text.now in
    sym (ap (λ es. slice_get es c.args.element)
    (elements_class text c.args.begin (scan text c.args.begin) c.in-Some.token Text c.in-Some.ensures.answer
    c.in-Text.is))
