use Rattle.std.proofs.Common.{◌≡◌, ◌+◌, ◌&&◌, ℕ, false, not, sym, ap, subst, ◌∙◌}
use Rattle.std.specs.Prelude.{nat_lt}
use Rattle.ps_mem.specs.Heap.{Heap}
use Rattle.ps_mem.specs.Shows.{AreValues}
use Rattle.ps_word.specs.Headers.{cycle_limit}
use Rattle.ps_core_machine.specs.declared.events.Vm.{Vm}
use Rattle.ps_core_machine.specs.declared.events.Gc.{Gc}
use Rattle.ps_core_machine.specs.Steps.{is_open}
use Rattle.ps_core_laws.specs.Memory.{heap_of}
use Rattle.ps_core_laws.specs.Stores.{numbers}
use Rattle.ps_core_laws.specs.Collected.{IsExact}
use Rattle.ps_table.specs.declared.plays.View.{View}
use Rattle.ps_gc.proofs.Reaching.{names_alone, none_handed, shut_by}
use Rattle.ps_gc.proofs.Spaces.{may_open_is}
use Rattle.ps_gc.proofs.endings.joined_whole_cycle.Goals as goal

pub returns-then-not-open_cycle-clause-answer : goal.returns-then-not-open_cycle-clause-answer
returns-then-not-open_cycle-clause-answer g c =
    sym c.if-not-open_cycle.true ∙ (c.open_cycle.ensures.answer
    ∙ (ap (λ (x : Vm). not (is_open x) && nat_lt (x.epoch + 1) cycle_limit) c.meet.ensures.parts.0
    ∙ may_open_is c.args.collector.now.gc.seat.me.0.vm c.requires.sits.runs))

pub returns-clause-answer : goal.returns-clause-answer
returns-clause-answer g c =
    sym c.if-not-open_cycle.false ∙ (c.open_cycle.ensures.answer
    ∙ (ap (λ (x : Vm). not (is_open x) && nat_lt (x.epoch + 1) cycle_limit) c.meet.ensures.parts.0
    ∙ may_open_is c.args.collector.now.gc.seat.me.0.vm c.requires.sits.runs))

pub joined_end_cycle-requires-clause-values : goal.joined_end_cycle-requires-clause-values
joined_end_cycle-requires-clause-values g c =
    subst (λ (h : Heap). AreValues h c.args.roots.now)
    (sym (c.open_cycle.ensures.heap ∙ ap heap_of c.meet.ensures.parts.0)) c.requires.values

pub returns-clause-flips : goal.returns-clause-flips
returns-clause-flips g c =
    c.joined_end_cycle.ensures.flips
    ∙ ap (λ (n : ℕ). n + 1)
    (ap (λ (x : View). x.vm.cycle) (c.open_cycle.ensures.did c.if-not-open_cycle.false)
    ∙ ap (λ (v : Vm). v.cycle) c.meet.ensures.parts.0)

pub returns-clause-exact : goal.returns-clause-exact
returns-clause-exact g c = λ yes.
    let m = c.args.collector.now.gc.seat.me.0 in
    let roots = numbers c.args.roots.now in
    let heap = c.open_cycle.ensures.heap ∙ ap heap_of c.meet.ensures.parts.0 in
    let shut : is_open m.vm ≡ false =
    ap is_open (sym c.meet.ensures.parts.0)
    ∙ shut_by (is_open c.meet.new.self.seat.me.0.vm) _
    (sym c.open_cycle.ensures.answer ∙ c.if-not-open_cycle.false) in
    let none = ap (λ (x : Gc). x.handed) c.open_cycle.ensures.gc.part
    ∙ (ap (λ (x : Gc). x.handed) c.meet.ensures.parts.1
    ∙ none_handed m.vm m.gc c.meet.ensures.runs shut) in
    let stored = ap (λ (x : View). x.vm.stored)
    (c.open_cycle.ensures.did c.if-not-open_cycle.false) in
    subst (λ (h : Heap). IsExact h (heap_of c.joined_end_cycle.new.collector.gc.seat.me.0.vm)
    c.args.roots.now c.joined_end_cycle.new.roots) heap
    (c.joined_end_cycle.ensures.exact stored (names_alone roots _ none))
