use Rattle.std.proofs.Common.{◌≡◌, ◌*◌, ◌+◌, ◌-◌, ℕ, List, false, replicate, refl, sym, ap, ◌∙◌, subst, arith}
use Rattle.ps_core_machine.specs.declared.events.Event.TheVariants.{CycleStore}
use Rattle.ps_core_machine.specs.declared.events.Vm.{Vm}
use Rattle.ps_core_machine.specs.declared.events.Gc.{Gc}
use Rattle.ps_core_machine.specs.Objects.{end_of_replicas}
use Rattle.ps_core_machine.specs.Steps.{other_base, table_size, vm_after, gc_after}
use Rattle.ps_core_machine.specs.Conditions.{VmMay, GcMay}
use Rattle.ps_core_laws.proofs.HeapTests.{number_is}
use Rattle.ps_core_laws.specs.Shown.{VmRuns}
use Rattle.ps_core_laws.specs.Stores.{numbers}
use Rattle.ps_table.specs.Events.{root_looks}
use Rattle.ps_table.proofs.Allows.{both_allows, both_known}
use Rattle.ps_table.proofs.Facts.{vm_facts}
use Rattle.ps_table.proofs.Flipping.{mirrors_flipped}
use Rattle.ps_table.proofs.GcMoves.{both_flip_step}
use Rattle.ps_table.proofs.Kept.{keeps_vm}
use Rattle.ps_table.proofs.Mirrored.{goes}
use Rattle.ps_table.proofs.collector.GcSeat.store_cycle.Goals as goal

pub store-requires : goal.store-requires
store-requires g c =
    let m = c.args.self.now.seat.me.0 in
    let k = keeps_vm m _ (root_looks m.gc (numbers c.args.roots.now)) c.rename.ensures.did in
    let me = c.rename.new.self.seat.me.0 in
    let s = c.requires.sits in
    let named = sym c.requires.named in
    let same : me.gc ≡ m.gc = c.rename.ensures.part in
    let wide = ap (λ t. t.words) c.rename.ensures.same
    ∙ (s.wide ∙ ap (λ (v : Vm). table_size v.space) (sym k.part)) in
    let vm : VmMay me.vm (CycleStore g.N.StepNaming.roots) =
    subst (λ (x : Vm × List ℕ). VmMay x.0 (CycleStore x.1)) (λ j. (sym k.part j, named j))
    c.requires.vm in
    let gc : GcMay me.gc (CycleStore g.N.StepNaming.roots) =
    subst (λ (x : Gc × List ℕ). GcMay x.0 (CycleStore x.1)) (λ j. (sym same j, named j))
    c.requires.gc in
    let drained : me.gc.taken ≡ me.vm.logs = ap (λ (x : Gc). x.taken) same
    ∙ (c.requires.drained ∙ ap (λ (x : Vm). x.logs) (sym k.part)) in
    let opened = number_is m.vm.epoch (m.vm.cycle + 1) c.requires.vm.0 in
    let is : c.args.mirror.now.epoch ≡ me.gc.cycle + 1 = s.mirrors.epoch_is
    ∙ (opened ∙ (ap (λ (n : ℕ). n + 1) c.requires.meet.1
    ∙ ap (λ (x : Gc). x.cycle + 1) (sym same))) in (
      c.rename.new.self.seated,
      omega arith,
      λ space slots id. both_allows space slots id _ 0 (λ _. c.args.mirror.now.epoch)
          (λ _. CycleStore g.N.StepNaming.roots) (k.acts ∙ s.acts) c.rename.new.self.acts
          (both_flip_step me.vm me.gc _ c.args.mirror.now.epoch vm gc drained is),
      λ m t. both_known _ c.rename.new.self.seat.me _ t.did,
    )

pub returns-clause-sits : goal.returns-clause-sits
returns-clause-sits g c =
    let m = c.args.self.now.seat.me in
    let v = m.0.vm in
    let n = c.args.mirror.now in
    let s = c.requires.sits in
    let roots = g.N.StepNaming.roots in
    let event = CycleStore roots in
    let h : Gc = c.rename.new.self.seat.me.0.gc in
    let same : h ≡ m.0.gc = c.rename.ensures.part in
    let k = keeps_vm m.0 _ (root_looks m.0.gc (numbers c.args.roots.now)) c.rename.ensures.did in
    let does = c.store.ensures.did.1 in
    let part : c.store.new.seat.me.0.vm ≡ vm_after v h event =
    ap (λ x. x.0.vm) does.did ∙ ap (λ (x : Vm). vm_after x h event) k.part in
    let end : c.args.end ≡ end_of_replicas (other_base v.space v.cycle) h.pairs =
    c.requires.is
    ∙ (ap (λ (x : Gc). end_of_replicas (other_base x.space x.cycle) x.pairs) (sym same)
    ∙ (ap (λ (x : Gc). end_of_replicas (other_base x.space x.cycle) h.pairs) same
    ∙ (ap (λ (x : ℕ). end_of_replicas (other_base x m.0.gc.cycle) h.pairs)
    (sym c.requires.meet.0)
    ∙ ap (λ (x : ℕ). end_of_replicas (other_base v.space x) h.pairs) (sym c.requires.meet.1)))) in
    goes _ _ m n c.store.new.seat.me (record n {
      base = 2 * 8256 + n.space - n.base;
      end = c.args.end;
      fresh_from = c.args.end;
      cycle_open = false;
      shut = replicate 32 false;
    }) (vm_after v h event)
    (ap (λ t. t.words) (c.store.ensures.same.1 ∙ c.rename.ensures.same)) s
    (ap (λ x. x.0.acts_vm) does.did ∙ (k.acts ∙ s.acts))
    (ap (λ x. x.1) does.did ∙ (c.rename.new.self.empty ∙ sym s.empty)) part refl ∣ does.vm_runs ∣₁
    (mirrors_flipped v n h roots c.args.end s.mirrors
    (subst (λ (rs : List ℕ). VmMay v (CycleStore rs)) (sym c.requires.named) c.requires.vm)
    (vm_facts (vm_after v h event) ∣ subst VmRuns part does.vm_runs ∣₁) end)

pub returns-clause-parts : goal.returns-clause-parts
returns-clause-parts g c =
    let m = c.args.self.now.seat.me.0 in
    let k = keeps_vm m _ (root_looks m.gc (numbers c.args.roots.now)) c.rename.ensures.did in
    let does = c.store.ensures.did.1 in
    let same = c.rename.ensures.part in
    let named = c.requires.named in (
      ap (λ x. x.0.vm) does.did ∙ (λ j. vm_after (k.part j) (same j) (CycleStore (named j))),
      ap (λ x. x.0.gc) does.did ∙ (λ j. gc_after (same j) (k.part j) (CycleStore (named j))),
    )
