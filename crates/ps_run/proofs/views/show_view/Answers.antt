use Rattle.std.proofs.Common.{◌≡◌, ◌<◌, ◌∙◌, ◌-◌, ◌^◌, ℕ, List, Option, Some, inl, inr, refl, sym, ap, subst, arith}
use Rattle.std.specs.Prelude.{min, option_map}
use Rattle.ps_language.specs.declared.schedules.Entry.{Entry}
use Rattle.ps_language.specs.Schedules.{count_of}
use Rattle.ps_run_options.specs.Views.{last_step}
use Rattle.ps_run_options.specs.declared.views.View.{View}
use Rattle.ps_run.specs.Driving.{Contents, IsGiven, IsPastEnd, IsViewOf, Outputs, asked_of, names_of, past_end_line, program_name}
use Rattle.ps_run.specs.Telling.{Tells, Told}
use Rattle.ps_run.proofs.Driven.{shown_as}
use Rattle.ps_run.proofs.views.show_view.Goals as goal

pub returns-then-steps-last-clause-run : goal.returns-then-steps-last-clause-run
returns-then-steps-last-clause-run g c =
    let contents = g.F.FileSet.contents c.args.outside.now.files in
    let names = names_of c.args.options.now in
    let given : List Entry = c.in-Ok-Some.given.items in
    let view = c.in-Some.view in
    let old = g.X.Telling.told c.args.outside.now.err in
    let mid = g.X.Telling.told c.read_given.new.outside.err in
    let new = g.X.Telling.told c.tell_past_end.new.err in
    let errs = ap g.X.Telling.told (c.in-Ok-Some.ensures.told ∙ c.in-Ok.ensures.told) in
    let is_given : IsGiven contents names.replayed (Some given) =
    subst (λ (all : Contents). IsGiven all names.replayed (Some given)) c.in-Ok.ensures.kept
    (subst (λ one. IsGiven (g.F.FileSet.contents c.read_program.new.outside.files) names.replayed
    (option_map (λ schedule. schedule.items) one)) c.in-Ok-Some.field-0-is c.in-Ok-Some.ensures.given) in
    let last : c.from-last.result ≡ last_step view = c.from-last.ensures ∙ c.last_step.ensures in
    let steps : c.steps_of-steps.result ≡ min (count_of given) (2 ^ 64 - 1) = c.steps_of-steps.ensures
    ∙ ap (λ (s : List Entry). min (count_of s) (2 ^ 64 - 1)) (c.of.ensures ∙ c.as_slice.ensures.value) in
    let less : count_of given < last_step view =
    omega (arith, steps, c.if-steps-last.true, last, c.from-last.type_inv) in
    let count : c.steps_of-steps.result ≡ count_of given = omega (arith, steps, less, last, c.from-last.type_inv) in
    let tells : Tells old new (past_end_line (last_step view) (count_of given)) =
    subst (λ (t : Told). Tells t new (past_end_line (last_step view) (count_of given))) errs
    (subst (λ n. Tells mid new (past_end_line (last_step view) n)) count
    (subst (λ n. Tells mid new (past_end_line n c.steps_of-steps.result)) last
    c.tell_past_end.ensures.told)) in
    let past : IsPastEnd contents names c.args.options.now.at old new =
    subst (λ (at : Option View). IsPastEnd contents names at old new) (sym c.in-Some.is)
    (given, is_given, less, tells) in
    inl (
      c.tell_past_end.ensures.status,
      refl,
      c.in-Ok-Some.ensures.kept ∙ c.in-Ok.ensures.kept,
      inr past,
    )

pub returns-in-Ok-text_of-clause-run : goal.returns-in-Ok-text_of-clause-run
returns-in-Ok-text_of-clause-run g c =
    let contents = g.F.FileSet.contents c.args.outside.now.files in
    let names = names_of c.args.options.now in
    let given : List Entry = c.in-Ok-Some.given.items in
    let program : List ℕ = c.in-Ok.program.items in
    let view = c.in-Some.view in
    let text : List ℕ = c.in-Ok-text_of.text.items in
    let errs = ap g.X.Telling.told (c.in-Ok-Some.ensures.told ∙ c.in-Ok.ensures.told) in
    let kept = c.in-Ok-Some.ensures.kept ∙ c.in-Ok.ensures.kept in
    let last : c.from-last.result ≡ last_step view = c.from-last.ensures ∙ c.last_step.ensures in
    let steps : c.steps_of-steps.result ≡ min (count_of given) (2 ^ 64 - 1) = c.steps_of-steps.ensures
    ∙ ap (λ (s : List Entry). min (count_of s) (2 ^ 64 - 1)) (c.of.ensures ∙ c.as_slice.ensures.value) in
    let is_text : IsViewOf (program_name names) program given view text =
    subst (λ (s : List Entry). IsViewOf (program_name names) program s view text)
    c.as_slice-3.ensures.value
    (subst (λ (p : List ℕ). IsViewOf (program_name names) p c.as_slice-3.result.now view text)
    c.as_slice-2.ensures.value
    (subst (λ (file : List ℕ). IsViewOf file c.as_slice-2.result.now c.as_slice-3.result.now view text)
    c.program_name.ensures c.in-Ok-text_of.ensures)) in
    let outputs : Outputs = record {
      out_old = g.W.Write.contents c.args.out.now;
      out_new = g.W.Write.contents c.write_view.new.out;
      err_old = g.X.Telling.told c.read_given.new.outside.err;
      err_new = g.X.Telling.told c.write_view.new.err;
      files_old = contents;
      files_new = contents;
      flushed = g.W.Flushing.is_flushed c.write_view.new.out;
      unwritten = g.F.FileSet.is_unwritten c.read_given.new.outside.files;
    } in
    inr (inr (inr (inr (inr (inr (inl (record {
      asked = asked_of c.args.options.now;
      is_asked = refl;
      view = view;
      is_at = c.in-Some.is;
      program = program;
      is_program = c.in-Ok.ensures.program;
      given = given;
      is_given = subst (λ (all : Contents). IsGiven all names.replayed (Some given)) c.in-Ok.ensures.kept
          (subst (λ one. IsGiven (g.F.FileSet.contents c.read_program.new.outside.files) names.replayed
          (option_map (λ schedule. schedule.items) one)) c.in-Ok-Some.field-0-is
          c.in-Ok-Some.ensures.given);
      within = omega (arith, steps, c.if-steps-last.false, last);
      text = text;
      is_text = is_text;
      written = shown_as _ _ _ outputs _ _ c.as_slice-in-Ok-text_of.ensures.value errs (sym kept)
          (c.write_view.ensures contents outputs.unwritten);
    })))))))
