use Rattle.std.proofs.Common.{ap, ◌∙◌, ◌++◌, [], Bool}
use Rattle.std.specs.Prelude.{if◌then◌else◌}
use Rattle.ps_core_laws.specs.Stores.{numbers}
use Rattle.ps_core_machine.specs.declared.events.Vm.{Vm}
use Rattle.ps_core_laws.specs.Memory.{heap_of, grants_of}
use Rattle.ps_table.specs.Shown.{SeatState}
use Rattle.ps_table.proofs.Kept.{keeps_vm, sits_on}
use Rattle.ps_gc.proofs.Spaces.{values_name}
use Rattle.ps_gc.proofs.endings.hand.Goals as goal

pub joined_hand_over-requires-clause-stand : goal.joined_hand_over-requires-clause-stand
joined_hand_over-requires-clause-stand g c =
    values_name c.args.collector.now.gc.seat.me.0.vm c.args.roots.now c.requires.values

pub returns-clause-sits : goal.returns-clause-sits
returns-clause-sits g c =
    let did = c.add_roots.ensures.did in
    sits_on _ _ _ _ _ (ap (λ t. t.words) c.add_roots.ensures.same)
    c.joined_hand_over.ensures.sits (keeps_vm _ _ did.0 did.1) c.add_roots.new.self.gc.empty

pub returns-clause-heap : goal.returns-clause-heap
returns-clause-heap g c =
    let did = c.add_roots.ensures.did in
    ap heap_of (keeps_vm _ _ did.0 did.1).part ∙ c.joined_hand_over.ensures.heap

pub returns-clause-flips : goal.returns-clause-flips
returns-clause-flips g c =
    let did = c.add_roots.ensures.did in
    ap (λ (v : Vm). v.cycle) (keeps_vm _ _ did.0 did.1).part
    ∙ ap (λ (m : SeatState). m.0.vm.cycle) c.joined_hand_over.ensures.does.1.did

pub returns-clause-grants : goal.returns-clause-grants
returns-clause-grants g c =
    let did = c.add_roots.ensures.did in
    ap grants_of (keeps_vm _ _ did.0 did.1).part ∙ c.joined_hand_over.ensures.grants

pub returns-clause-handed : goal.returns-clause-handed
returns-clause-handed g c =
    let roots = numbers c.args.roots.now in
    let before = c.args.collector.now.gc.seat.me.0.gc.handed in
    c.add_roots.ensures.adds.handed
    ∙ (ap (λ (m : SeatState). m.0.gc.handed) c.joined_hand_over.ensures.does.1.did
    ∙ ap (λ (b : Bool). (if b then roots else []) ++ before) c.requires.open)

pub returns-clause-stored : goal.returns-clause-stored
returns-clause-stored g c =
    let did = c.add_roots.ensures.did in
    ap (λ (v : Vm). v.stored) (keeps_vm _ _ did.0 did.1).part
    ∙ ap (λ (m : SeatState). m.0.vm.stored) c.joined_hand_over.ensures.does.1.did
