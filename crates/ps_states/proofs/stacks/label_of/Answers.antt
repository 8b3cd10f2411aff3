use Rattle.std.proofs.Common.{sym, ap, ◌∙◌, Some}
use Rattle.std.specs.Prelude.{option_map}
use Rattle.ps_language.specs.Texts.{plain_text}
use Rattle.ps_mem.specs.Heap.{birth_at}
use Rattle.ps_mem.specs.Meaning.{value_of}
use Rattle.ps_ops_control.specs.declared.frames.Frame.{Frame}
use Rattle.ps_ops_control.specs.Frames.{frame_of}
use Rattle.ps_ops_operands.specs.Changes.{values_in}
use Rattle.ps_states.specs.States.{frame_label}
use Rattle.ps_states.proofs.Named.{through_named}
use Rattle.ps_states.proofs.stacks.label_of.Goals as goal

pub returns-in_ok-name_text-in-Some-clause-label : goal.returns-in_ok-name_text-in-Some-clause-label
returns-in_ok-name_text-in-Some-clause-label g c = λ s shows within.
    let h = g.M.Memory.heap c.args.runtime.now.memory in
    let births = birth_at h in
    let names = c.args.runtime.now.shared.names in
    let values = values_in h names c.args.dictionaries.now in
    let told = c.in-Some.ensures.name in
    let found = rw (c.birth_of-birth.ensures.heap, c.birth_of-birth.ensures.birth) at told in
    let it = found names s shows in
    let is_name = through_named s (births c.in-Procedure.rest.address) values
    (value_of births names c.in-Some.name) (sym it) in
    ap Some (c.in_ok-name_text-in-Some.ensures births s is_name)
    ∙ ap (option_map (plain_text s)) it
    ∙ ap (λ (frame : Frame). frame_label s values (frame_of births names frame)) (sym c.in-Procedure.is)
