use Rattle.std.proofs.Common.{◌∷◌, [], ap, ◌∙◌, refl}
use Rattle.ps_core_machine.specs.declared.events.Event.TheVariants.{FieldStore}
use Rattle.ps_core_machine.specs.Steps.{field_stored}
use Rattle.ps_core_laws.specs.MemoryLaws.{CanFill}
use Rattle.ps_core_laws.specs.Memory.{heap_of}
use Rattle.ps_core_laws.proofs.Stored.{fills}
use Rattle.ps_core_laws.proofs.Written.{new_same}
use Rattle.ps_table.proofs.Facts.{vm_facts}
use Rattle.ps_table.proofs.Kept.{keeps_by}
use Rattle.ps_table.proofs.Mirrored.{goes_by, mirrors_new}
use Rattle.ps_table.proofs.Storing.{space_stored}
use Rattle.ps_table.proofs.mirror.Mirror.fill.Goals as goal

pub vm_field-requires-clause-may : goal.vm_field-requires-clause-may
vm_field-requires-clause-may g c =
    let v = c.args.seat.now.me.0.vm in
    let can : CanFill v c.args.address c.args.place c.args.word =
    record { fresh = c.requires.fresh; within = c.requires.place; known = c.requires.known } in
    (fills v (vm_facts v c.requires.sits.1.runs) c.args.address c.args.place c.args.word can).may

pub returns-clause-sits : goal.returns-clause-sits
returns-clause-sits g c =
    let m = c.args.seat.now.me in
    let v = m.0.vm in
    let n = c.args.self.now in
    let s = c.requires.sits.1 in
    let a = c.args.address in
    let i = c.args.place in
    let w = c.args.word.0 in
    let does = c.vm_field.ensures.does in
    let same = new_same v a i (w ∷ []) c.requires.fresh in (
      c.vm_field.ensures.same.0,
      goes_by _ _ m n c.vm_field.new.seat.me n (FieldStore a i w) (field_stored v a i w)
          (ap (λ t. t.words) c.vm_field.ensures.same.1) s does.did does.runs refl
          (space_stored v a i (w ∷ []))
          (mirrors_new v n s.mirrors (vm_facts v s.runs) a i (w ∷ []) same.0
          (same.1 ∙ s.mirrors.settled)),
    )

pub returns-clause-gc : goal.returns-clause-gc
returns-clause-gc g c = keeps_by _ _ (FieldStore c.args.address c.args.place c.args.word.0)
    (ap (λ x. x.0) c.vm_field.ensures.does.did)

pub returns-clause-heap : goal.returns-clause-heap
returns-clause-heap g c =
    let v = c.args.seat.now.me.0.vm in
    let can : CanFill v c.args.address c.args.place c.args.word =
    record { fresh = c.requires.fresh; within = c.requires.place; known = c.requires.known } in
    ap (λ m. heap_of m.0.vm) c.vm_field.ensures.does.did
    ∙ (fills v (vm_facts v c.requires.sits.1.runs) c.args.address c.args.place c.args.word can).heap
