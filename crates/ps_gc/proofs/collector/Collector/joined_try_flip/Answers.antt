use Rattle.std.proofs.Common.{◌≡◌, ◌+◌, ◌<◌, ℕ, [], length, replicate, false, Some, sym, ap, ◌∙◌, subst, arith}
use Rattle.ps_core_machine.specs.declared.events.Event.TheVariants.{CycleStore}
use Rattle.ps_core_machine.specs.declared.events.Gc.{Gc}
use Rattle.ps_core_machine.specs.declared.events.Pair.{Pair}
use Rattle.ps_core_machine.specs.declared.events.Vm.{Vm}
use Rattle.ps_core_machine.specs.Conditions.{VmMay, GcMay, AllClosed}
use Rattle.ps_core_machine.specs.Objects.{pair_of}
use Rattle.ps_core_machine.specs.Steps.{vm_after, gc_after, knows_open}
use Rattle.ps_core_laws.specs.Stores.{numbers}
use Rattle.ps_core_laws.proofs.HeapTests.{number_is}
use Rattle.ps_table.proofs.Facts.{knows}
use Rattle.ps_table.specs.Shown.{BothRun}
use Rattle.ps_gc.specs.Flipping.{Answers, MayFlip, flip_but_for}
use Rattle.ps_gc.specs.Keeps.{Copies, CopiesAre, Takes}
use Rattle.ps_gc.proofs.Flipping.{meets, flip_knows, copies_none, takes_turned}
use Rattle.ps_gc.proofs.Seen.{no_flip, flip_is, flip_exact}
use Rattle.ps_gc.proofs.collector.Collector.joined_try_flip.Goals as goal

-- ---- something hinders it

pub returns-in-Some-clause-answer : goal.returns-in-Some-clause-answer
returns-in-Some-clause-answer g c =
    let m = c.args.self.now.gc.seat.me.0 in
    subst (λ r. Answers m.vm m.gc (numbers c.args.roots.now) (flip_but_for r)) c.in-Some.is
    c.hindrance.ensures.answer

pub returns-in-Some-clause-flips : goal.returns-in-Some-clause-flips
returns-in-Some-clause-flips g c =
    let k = c.hindrance.ensures in
    no_flip c.args.self.now.gc.seat.me.0 c.hindrance.new.self.gc.seat.me.0 c.args.roots.now
    c.in-Some.why k.parts.0 k.steps.0 k.steps.1

-- ---- nothing does

pub store_cycle-requires-clause-vm : goal.store_cycle-requires-clause-vm
store_cycle-requires-clause-vm g c =
    let m = c.args.self.now.gc.seat.me.0 in
    let k = c.hindrance.ensures in
    let ready : MayFlip m.vm m.gc (numbers c.args.roots.now) =
    subst (λ r. Answers m.vm m.gc (numbers c.args.roots.now) (flip_but_for r)) c.in-None.is
    k.answer in
    let may : VmMay m.vm (CycleStore (numbers c.args.roots.now)) =
    (c.requires.«open», ready.0.0.0, c.requires.sits.mirrors.settled) in
    subst (λ (x : Vm). VmMay x (CycleStore (numbers c.args.roots.now))) (sym k.parts.0) may

pub store_cycle-requires-clause-gc : goal.store_cycle-requires-clause-gc
store_cycle-requires-clause-gc g c =
    let m = c.args.self.now.gc.seat.me.0 in
    let s = c.args.self.now in
    let k = c.hindrance.ensures in
    let ready : MayFlip m.vm m.gc (numbers c.args.roots.now) =
    subst (λ r. Answers m.vm m.gc (numbers c.args.roots.now) (flip_but_for r)) c.in-None.is
    k.answer in
    let may : GcMay m.gc (CycleStore (numbers c.args.roots.now)) =
    (s.idle.0, s.idle.1, ready.0.1, ready.1) in
    subst (λ (x : Gc). GcMay x (CycleStore (numbers c.args.roots.now))) (sym k.parts.1) may

pub store_cycle-requires-clause-drained : goal.store_cycle-requires-clause-drained
store_cycle-requires-clause-drained g c =
    let m = c.args.self.now.gc.seat.me.0 in
    let k = c.hindrance.ensures in
    let ready : MayFlip m.vm m.gc (numbers c.args.roots.now) =
    subst (λ r. Answers m.vm m.gc (numbers c.args.roots.now) (flip_but_for r)) c.in-None.is
    k.answer in
    ap (λ (x : Gc). x.taken) k.parts.1
    ∙ (ready.0.0.1 ∙ ap (λ (x : Vm). x.logs) (sym k.parts.0))

pub store_cycle-requires-clause-meet : goal.store_cycle-requires-clause-meet
store_cycle-requires-clause-meet g c =
    let k = c.hindrance.ensures in
    meets _ _ (subst (λ (x : Vm × Gc). BothRun x.0 x.1)
    (λ i. (sym k.parts.0 i, sym k.parts.1 i)) (k.runs c.in-None.is))

pub overflow_add-self : goal.overflow_add-self
overflow_add-self g c =
    let m = c.args.self.now.gc.seat.me.0 in
    let k = c.hindrance.ensures in
    let small = (knows m.vm c.requires.sits.runs).cycles.small in
    let epoch = number_is m.vm.epoch (m.vm.cycle + 1) c.requires.«open» in
    let same = (meets m.vm m.gc (k.runs c.in-None.is)).1 in
    let is = c.hindrance.new.self.copies.cycle_is in
    let part = ap (λ (x : Gc). x.cycle) k.parts.1 in
    omega arith

pub invariant_of-self : goal.invariant_of-self
invariant_of-self g c =
    let m = c.args.self.now.gc.seat.me.0 in
    let s = c.hindrance.new.self in
    let v = s.gc.seat.me.0.vm in
    let part = c.store_cycle.ensures.parts.1 in
    let k = c.hindrance.ensures in
    let ready : MayFlip m.vm m.gc (numbers c.args.roots.now) =
    subst (λ r. Answers m.vm m.gc (numbers c.args.roots.now) (flip_but_for r)) c.in-None.is
    k.answer in
    let closed : AllClosed v = subst AllClosed (sym k.parts.0) ready.0.0.0 in
    let drained = ap (λ (x : Gc). x.taken) k.parts.1
    ∙ (ready.0.0.1 ∙ ap (λ (x : Vm). x.logs) (sym k.parts.0)) in
    let low : ℕ = c.low-low.result in
    let opened = number_is m.vm.epoch (m.vm.cycle + 1) c.requires.«open» in
    let same = (meets m.vm m.gc (k.runs c.in-None.is)).1 in
    let epoch = ap (λ (x : Vm). x.epoch) k.parts.0 in
    let cycle = ap (λ (x : Gc). x.cycle) k.parts.1 in
    record {
      copies = subst (λ (x : Gc). Copies x (record {
        space = s.to.space;
        cycle = s.to.cycle + 1;
        end = low;
        at = low;
        field = 0;
      })) (sym part) (subst (λ (x : ℕ × ℕ). CopiesAre x.0 (x.1 + 1) []
          (record {
            space = s.to.space;
            cycle = s.to.cycle + 1;
            end = low;
            at = low;
            field = 0;
          })) (λ i. (s.copies.space_is i, s.copies.cycle_is i))
          (copies_none s.to.space (s.to.cycle + 1) low c.low-low.ensures));
      field = subst (λ (x : Gc). (a : ℕ) (p : Pair) → pair_of x.pairs a ≡ Some p
          → p.replica ≡ low → 0 < length p.fields) (sym part) (λ a p e. absurd (cc));
      takes = subst (λ (x : Gc). Takes x (record s.taken { closed = replicate 32 false }))
          (sym part)
          (takes_turned v s.gc.seat.me.0.gc s.taken s.takes closed drained (omega arith));
      idle = (
        ap (λ (x : Gc). x.taking) part ∙ s.idle.0,
        ap (λ (x : Gc). x.copying) part ∙ s.idle.1,
      );
    }

pub returns-in-None-clause-answer : goal.returns-in-None-clause-answer
returns-in-None-clause-answer g c =
    let m = c.args.self.now.gc.seat.me.0 in
    subst (λ r. Answers m.vm m.gc (numbers c.args.roots.now) (flip_but_for r)) c.in-None.is
    c.hindrance.ensures.answer

pub returns-in-None-clause-flips : goal.returns-in-None-clause-flips
returns-in-None-clause-flips g c =
    let m = c.args.self.now.gc.seat.me.0 in
    let s = c.args.self.now in
    let k = c.hindrance.ensures in
    let f = c.store_cycle.ensures in
    let ready : MayFlip m.vm m.gc (numbers c.args.roots.now) =
    subst (λ r. Answers m.vm m.gc (numbers c.args.roots.now) (flip_but_for r)) c.in-None.is
    k.answer in
    flip_is m c.hindrance.new.self.gc.seat.me.0 c.store_cycle.new.self.seat.me.0
    c.args.roots.now c.store_cycle.new.roots k.parts.0 k.parts.1 k.steps.0 k.steps.1
    (k.runs c.in-None.is) (c.requires.«open», ready.0.0.0, c.requires.sits.mirrors.settled)
    (s.idle.0, s.idle.1, ready.0.1, ready.1) ready.0.0.1 f.did f.parts.0 f.renamed

pub returns-in-None-clause-parts : goal.returns-in-None-clause-parts
returns-in-None-clause-parts g c = λ done.
    let k = c.hindrance.ensures in
    let f = c.store_cycle.ensures.parts in
    let event = CycleStore (numbers c.args.roots.now) in (
      f.0 ∙ (λ i. vm_after (k.parts.0 i) (k.parts.1 i) event),
      f.1 ∙ (λ i. gc_after (k.parts.1 i) (k.parts.0 i) event),
    )

pub returns-in-None-clause-knows : goal.returns-in-None-clause-knows
returns-in-None-clause-knows g c = λ done.
    let m = c.args.self.now.gc.seat.me.0 in
    let k = c.hindrance.ensures in
    let event = CycleStore (numbers c.args.roots.now) in
    ap knows_open (c.store_cycle.ensures.parts.1
    ∙ (λ i. gc_after (k.parts.1 i) (k.parts.0 i) event))
    ∙ flip_knows m.vm m.gc (numbers c.args.roots.now) (k.runs c.in-None.is) c.requires.«open»

pub returns-in-None-clause-exact : goal.returns-in-None-clause-exact
returns-in-None-clause-exact g c = λ done.
    let m = c.args.self.now.gc.seat.me.0 in
    let s = c.args.self.now in
    let k = c.hindrance.ensures in
    let f = c.store_cycle.ensures in
    let ready : MayFlip m.vm m.gc (numbers c.args.roots.now) =
    subst (λ r. Answers m.vm m.gc (numbers c.args.roots.now) (flip_but_for r)) c.in-None.is
    k.answer in
    flip_exact m c.hindrance.new.self.gc.seat.me.0 c.store_cycle.new.self.seat.me.0
    c.args.roots.now c.store_cycle.new.roots k.parts.0 k.parts.1 k.steps.0 k.steps.1
    (k.runs c.in-None.is) (c.requires.«open», ready.0.0.0, c.requires.sits.mirrors.settled)
    (s.idle.0, s.idle.1, ready.0.1, ready.1) ready.0.0.1 f.did f.parts.0 f.renamed
