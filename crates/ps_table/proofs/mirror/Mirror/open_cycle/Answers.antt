use Rattle.std.proofs.Common.{arith, ◌≡◌, ◌+◌, ◌<◌, ◌^◌, true, false, refl, sym, ap, ◌∙◌, subst}
use Rattle.std.specs.Prelude.{replicate}
use Rattle.ps_core_machine.specs.declared.events.Event.TheVariants.{EpochStore}
use Rattle.ps_core_machine.specs.declared.events.Vm.{Vm}
use Rattle.ps_core_machine.specs.Steps.{is_open, vm_after}
use Rattle.ps_core_laws.specs.Memory.{grants_of}
use Rattle.ps_core_laws.specs.MemoryLaws.{AfterOpen}
use Rattle.ps_core_laws.proofs.Cycles.{opens}
use Rattle.ps_table.proofs.Facts.{knows, vm_facts}
use Rattle.ps_table.proofs.Kept.{keeps_by}
use Rattle.ps_table.proofs.Mirrored.{goes_by, mirrors_opened}
use Rattle.ps_table.proofs.mirror.Mirror.open_cycle.Goals as goal

pub overflow_add-epoch : goal.overflow_add-epoch
overflow_add-epoch g c =
    let s = c.requires.sits.1 in
    let k = (knows c.args.seat.now.me.0.vm s.runs).cycles.small in let e = s.mirrors.epoch_is in
    omega arith

pub vm_epoch-requires-clause-may : goal.vm_epoch-requires-clause-may
vm_epoch-requires-clause-may g c =
    let m = c.args.seat.now.me in
    let s = c.requires.sits.1 in
    let out : is_open m.0.vm ≡ false = sym s.mirrors.open_is ∙ c.if-self.false in
    let few : m.0.vm.epoch + 1 < 2 ^ 32 = let e = s.mirrors.epoch_is in
    let t = c.if-epoch-ge-CYCLE_LIMIT.false in omega arith in
    (opens m.0.vm (knows m.0.vm s.runs) m.0.gc out few).may

pub returns-clause-sits : goal.returns-clause-sits
returns-clause-sits g c =
    let m = c.args.seat.now.me in
    let v = m.0.vm in
    let n = c.args.self.now in
    let s = c.requires.sits.1 in
    let out : is_open v ≡ false = sym s.mirrors.open_is ∙ c.if-self.false in
    let few : v.epoch + 1 < 2 ^ 32 = let e = s.mirrors.epoch_is in
    let t = c.if-epoch-ge-CYCLE_LIMIT.false in omega arith in
    let does = c.vm_epoch.ensures.does in (
      c.vm_epoch.ensures.same.0,
      goes_by _ _ m n c.vm_epoch.new.seat.me (record n {
        epoch = n.epoch + 1;
        cycle_open = true;
        fresh_from = n.end;
        shut = replicate 32 false;
      }) EpochStore (vm_after v m.0.gc EpochStore)
          (ap (λ t. t.words) c.vm_epoch.ensures.same.1) s does.did does.runs refl refl
          (mirrors_opened v n s.mirrors (vm_facts v s.runs) m.0.gc
          (opens v (knows v s.runs) m.0.gc out few)),
    )

pub returns-clause-gc : goal.returns-clause-gc
returns-clause-gc g c = keeps_by _ _ EpochStore (ap (λ x. x.0) c.vm_epoch.ensures.does.did)

pub returns-clause-grants : goal.returns-clause-grants
returns-clause-grants g c =
    let m = c.args.seat.now.me in
    let v = m.0.vm in
    let s = c.requires.sits.1 in
    let out : is_open v ≡ false = sym s.mirrors.open_is ∙ c.if-self.false in
    let few : v.epoch + 1 < 2 ^ 32 = let e = s.mirrors.epoch_is in
    let t = c.if-epoch-ge-CYCLE_LIMIT.false in omega arith in
    λ yes. subst (λ (x : Vm). AfterOpen (grants_of v) (grants_of x))
    (sym (ap (λ m. m.0.vm) c.vm_epoch.ensures.does.did))
    (opens v (knows v s.runs) m.0.gc out few).grants
