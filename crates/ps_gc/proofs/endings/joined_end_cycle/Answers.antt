use Rattle.std.proofs.Common.{◌≡◌, ◌+◌, List, ℕ, ap, sym, subst, ◌∙◌}
use Rattle.std.specs.Prelude.{Ok, is_ok}
use Rattle.ps_core_machine.specs.Objects.{among, addresses_named}
use Rattle.ps_core_machine.specs.declared.events.Vm.{Vm}
use Rattle.ps_core_machine.specs.declared.events.Gc.{Gc}
use Rattle.ps_core_machine.specs.Steps.{is_open}
use Rattle.ps_mem.specs.Heap.{Heap}
use Rattle.ps_mem.specs.Shows.{AreValues}
use Rattle.ps_core_laws.specs.Memory.{heap_of}
use Rattle.ps_core_laws.specs.Stores.{numbers}
use Rattle.ps_core_laws.specs.Collected.{IsCollected, IsExact}
use Rattle.ps_table.proofs.Kept.{keeps_vm, sits_on}
use Rattle.ps_gc.specs.Flipping.{MayFlip}
use Rattle.ps_gc.proofs.Ending.{ended_scanned, logs_ended, must_flip}
use Rattle.ps_gc.proofs.Roots.{still_have}
use Rattle.ps_gc.proofs.Spaces.{values_name}
use Rattle.ps_gc.proofs.endings.joined_end_cycle.Goals as goal

pub meet-requires : goal.meet-requires
meet-requires g c =
    let did = c.scan_all.ensures.did in record {
      sits = sits_on _ _ _ _ _ (ap (λ t. t.words) c.scan_all.ensures.same)
          c.end_logs.ensures.sits (keeps_vm _ _ did.0 did.1) c.scan_all.new.self.gc.empty;
    }

pub joined_try_flip-requires-clause-stand : goal.joined_try_flip-requires-clause-stand
joined_try_flip-requires-clause-stand g c =
    let did = c.scan_all.ensures.did in
    let heap = ap heap_of c.meet.ensures.parts.0 ∙ (ap heap_of (keeps_vm _ _ did.0 did.1).part
    ∙ (c.end_logs.ensures.heap ∙ c.hand.ensures.heap)) in
    values_name c.meet.new.self.seat.me.0.vm c.args.roots.now
    (subst (λ (h : Heap). AreValues h c.args.roots.now) (sym heap) c.requires.values)

pub unreachable-requires : goal.unreachable-requires
unreachable-requires g c =
    let m = c.scan_all.new.self.gc.seat.me.0 in
    let did = c.scan_all.ensures.did in
    let keeps = keeps_vm c.end_logs.new.collector.gc.seat.me.0 m did.0 did.1 in
    let opened = ap is_open keeps.part ∙ c.end_logs.ensures.«open» in
    let drained = logs_ended m c.meet.ensures.runs opened
    (λ slot lt. ended_scanned slot _ m keeps c.scan_all.ensures.scans
    (c.end_logs.ensures.ended slot lt)) in
    let have = still_have _ _ c.scan_all.ensures.scans.pairs (numbers c.args.roots.now)
    (still_have _ _ c.end_logs.ensures.pairs (numbers c.args.roots.now) c.hand.ensures.copied) in
    let may : MayFlip m.vm m.gc (numbers c.args.roots.now) =
    ((drained, c.scan_all.ensures.filled), have) in
    let n = c.meet.new.self.seat.me.0 in
    let ready : MayFlip n.vm n.gc (numbers c.args.roots.now) =
    subst (λ (x : Vm × Gc). MayFlip x.0 x.1 (numbers c.args.roots.now))
    (λ i. (sym c.meet.ensures.parts.0 i, sym c.meet.ensures.parts.1 i)) may in
    let done : c.joined_try_flip.result ≡ Ok tt =
    must_flip n.vm n.gc (numbers c.args.roots.now) c.joined_try_flip.result ready
    c.joined_try_flip.ensures.answer in
    absurd (cc)

pub returns-clause-moved : goal.returns-clause-moved
returns-clause-moved g c =
    let did = c.scan_all.ensures.did in
    let heap = ap heap_of c.meet.ensures.parts.0 ∙ (ap heap_of (keeps_vm _ _ did.0 did.1).part
    ∙ (c.end_logs.ensures.heap ∙ c.hand.ensures.heap)) in
    subst (λ (h : Heap). IsCollected h
    (heap_of c.joined_try_flip.new.self.gc.seat.me.0.vm) c.args.roots.now
    c.joined_try_flip.new.roots) heap
    (c.joined_try_flip.ensures.flips.moved (ap is_ok c.in-Ok.is))

pub returns-clause-flips : goal.returns-clause-flips
returns-clause-flips g c =
    let did = c.scan_all.ensures.did in
    let kept = ap (λ (v : Vm). v.cycle) c.meet.ensures.parts.0
    ∙ (ap (λ (v : Vm). v.cycle) (keeps_vm _ _ did.0 did.1).part
    ∙ (c.end_logs.ensures.flips ∙ c.hand.ensures.flips)) in
    ap (λ (v : Vm). v.cycle) (c.joined_try_flip.ensures.parts c.in-Ok.is).0
    ∙ ap (λ n. n + 1) kept

pub returns-clause-quiet : goal.returns-clause-quiet
returns-clause-quiet g c =
    let g = c.joined_try_flip.ensures.flips.grants (ap is_ok c.in-Ok.is) in
    record { cycle_open = g.cycle_open; closed = g.closed }

pub returns-clause-exact : goal.returns-clause-exact
returns-clause-exact g c = λ none same.
    let did = c.scan_all.ensures.did in
    let keeps = keeps_vm _ _ did.0 did.1 in
    let vm = c.meet.ensures.parts.0 in
    let heap = ap heap_of vm ∙ (ap heap_of keeps.part
    ∙ (c.end_logs.ensures.heap ∙ c.hand.ensures.heap)) in
    let stored = ap (λ (v : Vm). v.stored) vm ∙ (ap (λ (v : Vm). v.stored) keeps.part
    ∙ (c.end_logs.ensures.stored ∙ c.hand.ensures.stored)) in
    let handed = ap (λ (x : Gc). x.handed) c.meet.ensures.parts.1
    ∙ (c.scan_all.ensures.scans.handed ∙ (c.end_logs.ensures.handed ∙ c.hand.ensures.handed)) in
    subst (λ (h : Heap). IsExact h (heap_of c.joined_try_flip.new.self.gc.seat.me.0.vm)
    c.args.roots.now c.joined_try_flip.new.roots) heap
    (c.joined_try_flip.ensures.exact c.in-Ok.is (stored ∙ none)
    (λ a. ap (λ (xs : List ℕ). among (addresses_named xs) a) handed ∙ same a))
