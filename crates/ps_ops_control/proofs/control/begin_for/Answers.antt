-- The fourth operand, and the loop's frame.
use Rattle.std.proofs.Common.{refl, rules, w32, w64, ◌∙◌, sym}
use Rattle.std.proofs.lemmas.Int.{to_z-of_z}
use mir.Val.{SFits}
use Rattle.ps_language.specs.declared.errors.ErrorName.TheVariants.{InvalidAccess, TypeCheck}
use Rattle.ps_mem.specs.Shows.{IsValue}
use Rattle.ps_language.specs.Control.{for_row}
use Rattle.ps_ops_operands.proofs.Held.{first_of_three_held}
use Rattle.ps_ops_control.specs.Controls.{stacks, scene_of}
use Rattle.ps_ops_control.proofs.Rows.{for_wrong, for_hidden, for_begins}
use Rattle.ps_ops_control.proofs.Controlling.{controls_failed}
use Rattle.ps_ops_control.proofs.Courses.{course_begins}
use Rattle.ps_ops_control.proofs.control.begin_for.Goals as goal

pub returns-in_default-integer_of-3 : goal.returns-in_default-integer_of-3
returns-in_default-integer_of-3 c = record {
  controls = λ h size ready. controls_failed for_row h size _ ready TypeCheck
      (λ names store dictionaries. for_wrong h _ _ _ _ _ _ _ _ c.in-Some-top_three.ensures c.in-Some.ensures
      c.in-Some-procedure_of.ensures.part c.in-Some-integer_of.ensures c.in-Some-integer_of-2.ensures
      c.in_default-integer_of-3.ensures names
      (scene_of h names store dictionaries (stacks c.args.operands.now c.args.frames.now)));
  framed = refl;
}

pub returns-then-not-is_executable : goal.returns-then-not-is_executable
returns-then-not-is_executable c = record {
  controls = λ h size ready. controls_failed for_row h size _ ready InvalidAccess
      (λ names store dictionaries. for_hidden h _ _ _ _ _ _ _ _ c.in-Some-top_three.ensures c.in-Some.ensures
      c.in-Some-procedure_of.ensures.part c.in-Some-integer_of.ensures c.in-Some-integer_of-2.ensures _
      c.in-Some-integer_of-3.ensures (sym c.is_executable.ensures
      ∙ c.if-not-is_executable.true) names
      (scene_of h names store dictionaries (stacks c.args.operands.now c.args.frames.now)));
  framed = refl;
}

pub returns : goal.returns
returns c =
    let limit_fits : SFits w32 c.in-Some-integer_of.limit = search rules in
    let increment_fits : SFits w32 c.in-Some-integer_of-2.increment = search rules in
    let first_fits : SFits w32 c.in-Some-integer_of-3.first = search rules in
    let wide_fits : SFits w64 c.in-Some-integer_of-3.first = search rules in
    record {
      controls = λ h size ready.
          (simp to_z-of_z at c.begin.ensures.controls for_row h size) ready (
            c.in-Some-procedure_of.ensures.held h
                (first_of_three_held (IsValue h) _ ready.operands.values _ _ _ c.in-Some-top_three.ensures),
            course_begins c.in-Some-integer_of-3.first c.in-Some-integer_of-2.increment first_fits,
          )
          (record { within = λ names store both. tt })
          (for_begins h _ _ _ _ _ _ _ _ c.in-Some-top_three.ensures c.in-Some.ensures
          c.in-Some-procedure_of.ensures.part c.in-Some-integer_of.ensures c.in-Some-integer_of-2.ensures _
          c.in-Some-integer_of-3.ensures (sym c.is_executable.ensures ∙ c.if-not-is_executable.false));
      framed = c.begin.ensures.framed;
    }
