use Rattle.std.proofs.Common.{arith, refl, drop, ◌≡◌, ◌+◌, ◌-◌, ℕ, [], ◌∷◌, sym, ap, ◌∙◌, subst}
use Rattle.ps_core_machine.specs.declared.events.Event.TheVariants.{FieldStore, VmLoad}
use Rattle.ps_core_machine.specs.declared.events.Vm.{Vm}
use Rattle.ps_core_machine.specs.Conditions.{VmMay}
use Rattle.ps_core_machine.specs.Steps.{table_size, field_stored}
use Rattle.ps_core_laws.specs.Stores.{numbers, fields_stored_down}
use Rattle.ps_core_laws.specs.MemoryLaws.{words_copied}
use Rattle.ps_table.proofs.CopySteps.{falls_from, falling_all, falling_none}
use Rattle.ps_table.proofs.Facts.{field_place, vm_facts}
use Rattle.ps_table.proofs.Kept.{keeps_on, keeps_by, keeps_same}
use Rattle.ps_table.proofs.Storing.{space_stored}
use Rattle.ps_table.proofs.copies.vm_copy_falling.Goals as goal

pub overflow_add-from-in-loop-left : goal.overflow_add-from-in-loop-left
overflow_add-from-in-loop-left g c =
    let cur = c.loop-left.seat.me.0.vm in
    let i = c.loop-left.invariant in
    let one = falls_from c.args.seat.now.me.0.vm c.requires.runs c.args.from.address
    c.args.from.place c.args.to.address c.args.to.place c.args.count c.requires.can
    c.requires.order cur c.loop-left.left c.loop-left-test.true i.0 i.5 i.6 in
    let place = one.inside in let size = (vm_facts cur i.5).size.1 in
    omega arith

pub overflow_add-from-in-loop-left-2 : goal.overflow_add-from-in-loop-left-2
overflow_add-from-in-loop-left-2 g c =
    let cur = c.loop-left.seat.me.0.vm in
    let i = c.loop-left.invariant in
    let one = falls_from c.args.seat.now.me.0.vm c.requires.runs c.args.from.address
    c.args.from.place c.args.to.address c.args.to.place c.args.count c.requires.can
    c.requires.order cur c.loop-left.left c.loop-left-test.true i.0 i.5 i.6 in
    let place = one.inside in let size = (vm_facts cur i.5).size.1 in
    omega arith

pub vm_load-word-requires-clause-may : goal.vm_load-word-requires-clause-may
vm_load-word-requires-clause-may g c =
    let cur = c.loop-left.seat.me.0.vm in
    let i = c.loop-left.invariant in
    (falls_from c.args.seat.now.me.0.vm c.requires.runs c.args.from.address c.args.from.place
    c.args.to.address c.args.to.place c.args.count c.requires.can c.requires.order cur
    c.loop-left.left c.loop-left-test.true i.0 i.5 i.6).inside

pub overflow_add-to : goal.overflow_add-to
overflow_add-to g c =
    let cur = c.loop-left.seat.me.0.vm in
    let i = c.loop-left.invariant in
    let n = c.vm_load-word.result in
    let one = falls_from c.args.seat.now.me.0.vm c.requires.runs c.args.from.address
    c.args.from.place c.args.to.address c.args.to.place c.args.count c.requires.can
    c.requires.order cur c.loop-left.left c.loop-left-test.true i.0 i.5 i.6 in
    let small = (field_place cur c.args.to.address (c.args.to.place + (c.loop-left.left - 1)) n i.5
    (one.may n c.vm_load-word.ensures.does.finds)).1 in
    omega arith

pub vm_field-requires-clause-may : goal.vm_field-requires-clause-may
vm_field-requires-clause-may g c =
    let cur = c.loop-left.seat.me.0.vm in
    let i = c.loop-left.invariant in
    let n = c.vm_load-word.result in
    let one = falls_from c.args.seat.now.me.0.vm c.requires.runs c.args.from.address
    c.args.from.place c.args.to.address c.args.to.place c.args.count c.requires.can
    c.requires.order cur c.loop-left.left c.loop-left-test.true i.0 i.5 i.6 in
    let same : c.vm_load-word.new.seat.me.0.vm ≡ cur =
    ap (λ m. m.0.vm) c.vm_load-word.ensures.does.did ∙ one.stays c.loop-left.seat.me.0.gc n in
    subst (λ (x : Vm). VmMay x
    (FieldStore c.args.to.address (c.args.to.place + (c.loop-left.left - 1)) n)) (sym same) (one.may n c.vm_load-word.ensures.does.finds)

pub loop-left-preserved : goal.loop-left-preserved
loop-left-preserved g c =
    let cur = c.loop-left.seat.me.0.vm in
    let i = c.loop-left.invariant in
    let n = c.vm_load-word.result in
    let at : ℕ = c.args.to.place + (c.loop-left.left - 1) in
    let le = i.0 in
    let one = falls_from c.args.seat.now.me.0.vm c.requires.runs c.args.from.address
    c.args.from.place c.args.to.address c.args.to.place c.args.count c.requires.can
    c.requires.order cur c.loop-left.left c.loop-left-test.true i.0 i.5 i.6 in
    let load = c.vm_load-word.ensures.does.did in
    let did = c.vm_field.ensures.does.did in
    let same : c.vm_load-word.new.seat.me.0.vm ≡ cur =
    ap (λ m. m.0.vm) load ∙ one.stays c.loop-left.seat.me.0.gc n in
    let part : c.vm_field.new.seat.me.0.vm ≡ field_stored cur c.args.to.address at n =
    ap (λ m. m.0.vm) did ∙ ap (λ (x : Vm). field_stored x c.args.to.address at n) same in (
      omega arith,
      (
        c.vm_field.ensures.same.0,
        c.vm_field.ensures.same.1 ∙ (c.vm_load-word.ensures.same.1 ∙ i.1.1),
      ),
      ap (λ t. t.words) (c.vm_field.ensures.same.1 ∙ c.vm_load-word.ensures.same.1)
          ∙ i.2 ∙ ap table_size (sym (ap (λ (x : Vm). x.space) part ∙ space_stored cur
          c.args.to.address at (n ∷ []))),
      ap (λ m. m.0.acts_vm) did ∙ (ap (λ m. m.0.acts_vm) load ∙ i.3),
      ap (λ m. m.1) did ∙ (ap (λ m. m.1) load ∙ i.4),
      ∣ c.vm_field.ensures.does.runs ∣₁,
      part ∙ one.next_is n c.vm_load-word.ensures.does.finds,
      keeps_on _ _ _ i.7 (keeps_on _ c.vm_load-word.new.seat.me.0 _
          (keeps_by _ _ (VmLoad
          (c.args.from.address + 2 + (c.args.from.place + (c.loop-left.left - 1))) n)
          (ap (λ m. m.0) load))
          (keeps_by _ _ (FieldStore c.args.to.address at n) (ap (λ m. m.0) did))),
    )

pub loop-left-init : goal.loop-left-init
loop-left-init g c = (
  omega arith,
  (c.requires.same.0, refl),
  c.requires.same.1,
  c.requires.acts,
  refl,
  c.requires.runs,
  sym (falling_none c.args.seat.now.me.0.vm c.requires.runs c.args.from.address c.args.from.place
      c.args.to.address c.args.to.place c.args.count c.requires.can),
  keeps_same _ _ refl,
)

pub returns-clause-part : goal.returns-clause-part
returns-clause-part g c =
    let i = c.loop-left.invariant in
    let past = c.loop-left-test.false in
    let v = c.args.seat.now.me.0.vm in
    let items = words_copied v c.args.from.address c.args.from.place c.args.count in
    i.6 ∙ (ap (λ (x : ℕ). fields_stored_down v c.args.to.address (c.args.to.place + x)
    (numbers (drop x items))) (let z : c.loop-left.left ≡ 0 = omega arith in z)
    ∙ falling_all v c.requires.runs c.args.from.address c.args.from.place c.args.to.address
    c.args.to.place c.args.count c.requires.can)

pub returns-clause-gc : goal.returns-clause-gc
returns-clause-gc g c = c.loop-left.invariant.7
