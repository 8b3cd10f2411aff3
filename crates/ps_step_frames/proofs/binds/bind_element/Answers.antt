-- By its content.
use Rattle.std.proofs.Common.{refl, sym, ◌∙◌}
use Rattle.ps_step_execute.proofs.Executing.{literal_unnamed, named, unnamed}
use Rattle.ps_step_frames.proofs.Binding.{kept, literal_no_procedure, other_no_procedure}
use Rattle.ps_step_frames.proofs.binds.bind_element.Goals as goal

pub returns-then-not-is_executable-clause-binds : goal.returns-then-not-is_executable-clause-binds
returns-then-not-is_executable-clause-binds g c =
    let literal = sym c.is_executable.ensures ∙ c.if-not-is_executable.true in
    kept _ c.args.dictionaries.now c.args.word
    (λ births names. literal_unnamed c.args.word births names literal)
    (λ births names. literal_no_procedure c.args.word births names literal)

pub bind_name-requires-clause-name : goal.bind_name-requires-clause-name
bind_name-requires-clause-name g c = λ births names.
    named c.args.word births names _ (sym c.is_executable.ensures ∙ c.if-not-is_executable.false)
    (sym c.content.ensures ∙ c.in-Name.is)

pub returns-in_default : goal.returns-in_default
returns-in_default g c =
    let may = sym c.is_executable.ensures ∙ c.if-not-is_executable.false in
    record {
      heap = refl;
      grants = refl;
      binds = kept _ c.args.dictionaries.now c.args.word
          (λ births names. unnamed births names c.args.word c.content.result c.content.ensures may
          c.in_default.not-Name)
          (λ births names. other_no_procedure c.args.word births names c.content.result
          c.content.ensures may c.in_default.not-Array);
    }
