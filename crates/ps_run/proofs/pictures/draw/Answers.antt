-- What is written is the picture, to a file that hasn't the schedule.
use Rattle.std.proofs.Common.{◌≡◌, ◌≢◌, ℕ, List, Some, IfSome, sym, subst}
use Rattle.ps_language.specs.declared.schedules.Entry.{Entry}
use Rattle.ps_run_schedules.specs.Texts.{text_of}
use Rattle.ps_run.specs.Driving as driving
use Rattle.ps_run.specs.Driving.{IsPicture, names_of}
use Rattle.ps_run.proofs.Driven.{picture_more}
use Rattle.ps_run.proofs.ReadParts.{of_known}
use Rattle.ps_run.proofs.pictures.draw.Goals as goal

pub returns-in-Ok-clause-drawn : goal.returns-in-Ok-clause-drawn
returns-in-Ok-clause-drawn g c = λ program is.
    let contents = g.F.FileSet.contents c.args.outside.now.files in
    let file = driving.program_name (names_of c.args.options.now) in
    let report = c.args.drawable.report.now in
    let schedule : List Entry = report.schedule.items in
    let name = c.in-Some-Some.name.now in
    let text = c.as_slice.result.now in
    let free : IfSome (contents name) (λ bytes. bytes ≢ text_of schedule) =
    subst (λ (s : List Entry). IfSome (contents name) (λ bytes. bytes ≢ text_of s)) c.entries.ensures
    (c.in-Ok-false.ensures.apart c.in-Ok-false.field-0-test) in
    let same = of_known c.args.drawable.again (λ again. again.program.now ≡ program)
    c.in-Some-Some.again c.in-Some-Some.is-0 is in
    let picture : IsPicture file program report text =
    subst (IsPicture file program report) (sym c.as_slice.ensures.value)
    (subst (λ (p : List ℕ). IsPicture file p report c.in-Ok.text.items) same c.in-Ok.ensures) in
    rw c.in-Some-Some.is-1
    (picture_more (Some name) (λ (written : List ℕ). written ≡ text) (IsPicture file program report)
    schedule _ _ (λ written equal. subst (IsPicture file program report) (sym equal) picture)
    (c.write_picture.ensures.drawn schedule free))
