use Rattle.std.proofs.Common.{arith, ◌+◌, refl, sym, ap, subst}
use Rattle.std.specs.Prelude.{slice_index, slice_set, true}
use Rattle.ps_record.specs.declared.Record.TheVariants.{Close}
use Rattle.ps_core_machine.specs.declared.events.Event.TheVariants.{RecordStore}
use Rattle.ps_core_machine.specs.declared.events.Vm.{Vm}
use Rattle.ps_core_machine.specs.Steps.{vm_after}
use Rattle.ps_core_laws.specs.Memory.{grants_of}
use Rattle.ps_core_laws.specs.MemoryLaws.{AfterClose}
use Rattle.ps_core_laws.proofs.Cycles.{closes_logs}
use Rattle.ps_table.proofs.Facts.{few_logged, knows, vm_facts}
use Rattle.ps_table.proofs.Kept.{keeps_by}
use Rattle.ps_table.proofs.Mirrored.{goes_by, mirrors_closed}
use Rattle.ps_table.proofs.mirror.Mirror.put_close.Goals as goal

pub overflow_add-self : goal.overflow_add-self
overflow_add-self g c =
    let s = c.requires.sits.1 in
    let few = few_logged c.args.seat.now.me.0.vm s.runs c.args.slot c.requires.can.in_range in
    let logged = s.mirrors.logged_is c.args.slot c.requires.can.in_range in
    let high = few.1 in
    rw c.index.ensures.is (omega arith)

pub vm_record-requires-clause-is : goal.vm_record-requires-clause-is
vm_record-requires-clause-is g c =
    rw c.index.ensures.is (c.requires.sits.1.mirrors.logged_is c.args.slot c.requires.can.in_range)

pub vm_record-requires-clause-may : goal.vm_record-requires-clause-may
vm_record-requires-clause-may g c =
    let m = c.args.seat.now.me in
    (closes_logs m.0.vm (knows m.0.vm c.requires.sits.1.runs) m.0.gc c.args.slot
    c.requires.can).may

pub returns-clause-sits : goal.returns-clause-sits
returns-clause-sits g c =
    let m = c.args.seat.now.me in
    let v = m.0.vm in
    let n = c.args.self.now in
    let s = c.requires.sits.1 in
    let slot = c.args.slot in
    let event = RecordStore slot Close in
    let does = c.vm_record.ensures.does in
    rw (c.index.ensures.is, c.index-2.ensures.is, c.index-3.ensures.is) (
      c.vm_record.ensures.same.0,
      goes_by _ _ m n c.vm_record.new.seat.me (record n {
        fresh_from = n.end;
        logged = slice_set n.logged slot (slice_index n.logged slot + 1);
        shut = slice_set n.shut slot true;
      }) event (vm_after v m.0.gc event) (ap (λ t. t.words) c.vm_record.ensures.same.1) s does.did
          does.runs refl refl
          (mirrors_closed v n s.mirrors (vm_facts v s.runs) m.0.gc slot c.requires.can.in_range
          (closes_logs v (knows v s.runs) m.0.gc slot c.requires.can)),
    )

pub returns-clause-gc : goal.returns-clause-gc
returns-clause-gc g c = keeps_by _ _ (RecordStore c.args.slot Close)
    (ap (λ x. x.0) c.vm_record.ensures.does.did)

pub returns-clause-grants : goal.returns-clause-grants
returns-clause-grants g c =
    let m = c.args.seat.now.me in
    let v = m.0.vm in
    subst (λ (x : Vm). AfterClose (grants_of v) (grants_of x) c.args.slot)
    (sym (ap (λ m. m.0.vm) c.vm_record.ensures.does.did))
    (closes_logs v (knows v c.requires.sits.1.runs) m.0.gc c.args.slot c.requires.can).grants
