use Rattle.std.proofs.Common.{◌+◌, sym, subst, arith}
use Rattle.ps_language.specs.declared.kinds.Kind.TheVariants.{Array as ArrayKind}
use Rattle.ps_word.specs.declared.values.Part.{Part}
use Rattle.ps_mem.specs.Heap.{Heap}
use Rattle.ps_mem.specs.References.{StandsAs}
use Rattle.ps_mem.specs.Shows.{AreValues}
use Rattle.ps_ops_operands.proofs.Held.{stands_less}
use Rattle.ps_test_seats.proofs.Ready.{same_ready, kept_ready}
use Rattle.ps_test_seats.proofs.arrays.Arrays.copy.Goals as goal

pub interval-part-requires-clause-end : goal.interval-part-requires-clause-end
interval-part-requires-clause-end g c =
    let h = g.M.Memory.heap c.self.inside.memory in
    let are : AreValues h c.as_slice.result.now =
    subst (AreValues h) (sym c.as_slice.ensures.value) c.self.invariant.values in
    (c.in_ok-source.ensures h are).1

pub copy_elements-requires-clause-source : goal.copy_elements-requires-clause-source
copy_elements-requires-clause-source g c =
    let h = g.M.Memory.heap c.self.inside.memory in
    let are : AreValues h c.as_slice.result.now =
    subst (AreValues h) (sym c.as_slice.ensures.value) c.self.invariant.values in
    let source = c.in_ok-source.source in
    let now = g.M.Memory.heap c.permit-permit.new.self in
    subst (λ (p : Part). StandsAs now ArrayKind p.address (p.offset + p.length))
    (sym c.interval-part.ensures)
    (subst (λ (k : Heap). StandsAs k ArrayKind source.address
    ((source.offset + c.args.from.first) + c.args.from.count)) (sym c.permit-permit.ensures.heap)
    (stands_less h ArrayKind source.address _ _ (omega arith) (c.in_ok-source.ensures h are).0))

pub invariant_of-self : goal.invariant_of-self
invariant_of-self g c =
    let words = c.self.inside.words.items in
    kept_ready (g.M.Memory.heap c.permit-permit.new.self)
    (g.M.Memory.heap c.copy_elements.new.memory) words c.copy_elements.ensures.keeps
    c.copy_elements.ensures.sound (same_ready (g.M.Memory.heap c.self.inside.memory)
    (g.M.Memory.heap c.permit-permit.new.self) words c.permit-permit.ensures.heap c.self.invariant)
