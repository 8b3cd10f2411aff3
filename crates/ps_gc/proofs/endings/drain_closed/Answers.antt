use Rattle.std.proofs.Common.{true≢false, ap, sym, subst, ◌∙◌}
use Rattle.ps_core_machine.specs.declared.events.Vm.{Vm}
use Rattle.ps_core_laws.specs.Memory.{is_shut}
use Rattle.ps_table.proofs.Kept.{keeps_vm}
use Rattle.ps_gc.specs.declared.collector.Drained.{Drained}
use Rattle.ps_gc.specs.Ending.{FindsNext}
use Rattle.ps_gc.proofs.Ending.{close_taken, drain_smaller as smaller, drain_stays, shut_drained, stays_then}
use Rattle.ps_gc.proofs.Spaces.{knows_on, taken_wide, vm_on}
use Rattle.ps_gc.proofs.endings.drain_closed.Goals as goal

pub returns-in-Closed-clause-vm : goal.returns-in-Closed-clause-vm
returns-in-Closed-clause-vm g c =
    let did = c.drain_one.ensures.did in vm_on _ _ _ did.0 c.drain.invariant.vm did.1

pub returns-in-Closed-clause-stays : goal.returns-in-Closed-clause-stays
returns-in-Closed-clause-stays g c =
    let m = c.drain.collector.gc.seat.me.0 in
    let n = c.drain_one.new.self.gc.seat.me.0 in
    let did = c.drain_one.ensures.did in
    stays_then c.args.slot _ m n c.drain.invariant.stays
    (close_taken c.args.slot m n (keeps_vm m n did.0 did.1)
    (λ t. ap (λ s. s.gc.seat.me.0) (c.drain_one.ensures.already t).1)
    (λ f. c.drain_one.ensures.close f c.in-Closed.is))

pub drain-preserved : goal.drain-preserved
drain-preserved g c =
    let m = c.drain.collector.gc.seat.me.0 in
    let n = c.drain_one.new.self.gc.seat.me.0 in
    let did = c.drain_one.ensures.did in record {
      same = c.drain_one.ensures.same ∙ c.drain.invariant.same;
      vm = vm_on _ _ _ did.0 c.drain.invariant.vm did.1;
      stays = stays_then c.args.slot _ m n c.drain.invariant.stays
          (drain_stays c.args.slot c.drain_one.result (λ e. absurd (cc)) (λ e. absurd (cc)) m n
          (keeps_vm m n did.0 did.1) c.drain_one.ensures.took);
      knows = knows_on m.gc n.gc c.drain_one.ensures.cycle c.drain.invariant.knows;
    }

pub drain-smaller : goal.drain-smaller
drain-smaller g c =
    let m = c.drain.collector.gc.seat.me.0 in
    let n = c.drain_one.new.self.gc.seat.me.0 in
    let did = c.drain_one.ensures.did in
    smaller c.args.slot c.drain_one.result (λ e. absurd (cc)) (λ e. absurd (cc)) m n
    (keeps_vm m n did.0 did.1) c.drain_one.ensures.took c.drain_one.ensures.within
    (taken_wide m.gc c.drain.collector.gc.runs)
    (λ t. (c.drain_one.ensures.already t).0)
    (c.drain_one.ensures.next (c.drain.invariant.vm.acts ∙ c.requires.acts))

pub unreachable-requires : goal.unreachable-requires
unreachable-requires g c =
    let m = c.drain.collector.gc.seat.me.0 in
    let left = (c.drain_one.ensures.nothing c.in-Nothing.is).left in
    let found = subst (λ (d : Drained). FindsNext d m.vm m.gc c.args.slot) c.in-Nothing.is
    (c.drain_one.ensures.next (c.drain.invariant.vm.acts ∙ c.requires.acts) left) in
    let shut = ap (λ (v : Vm). is_shut v c.args.slot) c.drain.invariant.vm.part ∙ c.requires.shut in
    true≢false (sym (shut_drained m.vm m.gc c.args.slot c.drain_one.ensures.within found shut) ∙ left)
