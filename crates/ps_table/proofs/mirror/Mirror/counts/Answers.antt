use Rattle.std.proofs.Common.{◌+◌, ◌∷◌, length, take, sym, ap, ◌∙◌, arith}
use Rattle.ps_core_machine.specs.declared.events.Event.TheVariants.{VmLoad}
use Rattle.ps_core_laws.specs.Memory.{heap_of}
use Rattle.ps_core_laws.proofs.Loads.{control_loads}
use Rattle.ps_table.specs.Events.{did_all, head_loads}
use Rattle.ps_table.specs.Shown.{vm_did}
use Rattle.ps_table.proofs.Counts.{one_more_head, all_heads, flips_found}
use Rattle.ps_table.proofs.Facts.{vm_facts}
use Rattle.ps_table.proofs.Kept.{keeps_all}
use Rattle.ps_table.proofs.mirror.Mirror.counts.Goals as goal

pub read-flips-requires-clause-stays : goal.read-flips-requires-clause-stays
read-flips-requires-clause-stays g c = control_loads c.args.seat.now.me.0.vm 0 (omega arith)

pub loop-slot-preserved : goal.loop-slot-preserved
loop-slot-preserved g c =
    let init = c.args.seat.now.me.0 in
    let flips = c.read-flips.result in
    let n = c.loop-slot.self in
    let slot = c.loop-slot.slot in
    let i = c.loop-slot.invariant in
    let head = c.see_head.result in
    let did = rw c.numbered-slot.ensures at c.see_head.ensures.did in
    let mirror = rw c.numbered-slot.ensures at c.see_head.ensures.mirror in
    let wide = (vm_facts c.loop-slot.seat.me.0.vm i.sits.runs).wide_heads in
    let long = ap length i.sits.mirrors.heads_are in
    record {
      seated = c.see_head.ensures.sits.0;
      sits = c.see_head.ensures.sits.1;
      same = c.see_head.ensures.same ∙ i.same;
      heap = ap (λ m. heap_of m.vm) did ∙ (c.see_head.ensures.sees.heap ∙ i.heap);
      did = did ∙ (ap (λ m. vm_did m (VmLoad (2 + slot) head)) i.did
          ∙ (one_more_head init flips n.heads slot head (omega arith)
          ∙ ap (λ x. did_all init (VmLoad 0 flips ∷ head_loads 0 (take (slot + 1) x.heads)))
          (sym mirror)));
    }

pub returns : goal.returns
returns g c =
    let init = c.args.seat.now.me.0 in
    let flips = c.read-flips.result in
    let heads = c.loop-slot.self.heads in
    let i = c.loop-slot.invariant in
    let wide = (vm_facts c.loop-slot.seat.me.0.vm i.sits.runs).wide_heads in
    let long = ap length i.sits.mirrors.heads_are in
    let did = i.did ∙ ap (λ l. did_all init (VmLoad 0 flips ∷ head_loads 0 l))
    (all_heads heads c.loop-slot.slot (omega arith)) in
    record {
      sits = (i.seated, i.sits);
      same = i.same;
      flips = flips_found init.vm flips c.read-flips.ensures.finds;
      did = did;
      gc = keeps_all init c.loop-slot.seat.me.0 (VmLoad 0 flips ∷ head_loads 0 heads) did;
      heap = i.heap;
      taken = i.sits.mirrors.heads_are;
    }
