use Rattle.std.proofs.Common.{◌≡◌, ◌+◌, false, true, None, length, sym, ap, subst, ◌∙◌}
use Rattle.ps_core_machine.specs.declared.events.Gc.{Gc}
use Rattle.ps_core_machine.specs.Objects.{log_of}
use Rattle.ps_core_machine.specs.Steps.{is_open}
use Rattle.ps_core_laws.specs.Memory.{heap_of, is_shut}
use Rattle.ps_table.specs.declared.plays.View.{View}
use Rattle.ps_table.proofs.Kept.{keeps_vm, sits_on}
use Rattle.ps_gc.specs.Events.{is_drained}
use Rattle.ps_gc.specs.Keeps.{Copies, IsAtField, Takes}
use Rattle.ps_gc.proofs.Ending.{close_stays, drains_but, full_takes, is_closed, looks_but, not_drained, one_free}
use Rattle.ps_gc.proofs.Ending.{stays_then}
use Rattle.ps_gc.proofs.Spaces.{taken_wide}
use Rattle.ps_gc.proofs.endings.close_one.Goals as goal

pub close-requires-in-LogFull-clause-sits : goal.close-requires-in-LogFull-clause-sits
close-requires-in-LogFull-clause-sits g c =
    let did = c.drain_one.ensures.did in (
      c.drain_one.new.self.gc.seated,
      sits_on _ _ _ _ _ (ap (λ t. t.words) c.drain_one.ensures.same) c.close.ensures.sits.1
          (keeps_vm _ _ did.0 did.1) c.drain_one.new.self.gc.empty,
    )

pub close-requires-in-LogFull-clause-open : goal.close-requires-in-LogFull-clause-open
close-requires-in-LogFull-clause-open g c =
    let did = c.drain_one.ensures.did in
    ap is_open (keeps_vm _ _ did.0 did.1).part ∙ c.close.ensures.still_open

pub invariant_of-collector-in-LogFull : goal.invariant_of-collector-in-LogFull
invariant_of-collector-in-LogFull g c =
    let same = c.close-in-LogFull.ensures.gc.part in
    let was = c.drain_one.new.self in record {
      copies = subst (λ (x : Gc). Copies x was.to) (sym same) was.copies;
      field = subst (λ (x : Gc). IsAtField x was.to) (sym same) was.field;
      takes = subst (λ (x : Gc). Takes x was.taken) (sym same) was.takes;
      idle = subst (λ (x : Gc). (x.taking ≡ None) × (x.copying ≡ None)) (sym same) was.idle;
    }

pub returns-in-LogFull-clause-heap : goal.returns-in-LogFull-clause-heap
returns-in-LogFull-clause-heap g c =
    let did = c.drain_one.ensures.did in
    c.close-in-LogFull.ensures.heap
    ∙ (ap heap_of (keeps_vm _ _ did.0 did.1).part ∙ c.close.ensures.heap)

pub returns-in-LogFull-clause-stays : goal.returns-in-LogFull-clause-stays
returns-in-LogFull-clause-stays g c =
    let s = c.args.collector.now in
    let slot = c.args.slot in
    let m = s.gc.seat.me.0 in
    let seen = c.close.new.seat.me.0 in
    let taken = c.drain_one.new.self.gc.seat.me.0 in
    let last = c.close-in-LogFull.new.seat.me.0 in
    let did = c.drain_one.ensures.did in
    let keeps = keeps_vm seen taken did.0 did.1 in
    let same = c.close.ensures.gc.part in
    let looked = c.close.ensures.looked c.in-LogFull.is in
    let left : is_drained seen.gc slot ≡ false = ap (λ (x : Gc). is_drained x slot) same
    ∙ not_drained m.vm m.gc slot c.close.ensures.within
    (c.close.ensures.runs c.in-LogFull.is s.gc.acts) c.requires.open
    (c.close.ensures.not_shut c.in-LogFull.is) in
    let full : length (log_of seen.vm.logs slot) ≡ length (log_of seen.gc.taken slot) + 256 =
    ap (λ (x : View). length (log_of x.vm.logs slot)) looked.1
    ∙ (c.close.ensures.taken c.in-LogFull.is s.gc.acts
    ∙ ap (λ (x : Gc). length (log_of x.taken slot) + 256) (sym same)) in
    let d = full_takes seen.vm seen.gc taken.gc slot c.close.ensures.within full c.drain_one.result
    (c.drain_one.ensures.next c.close.ensures.sits.1.acts left) c.drain_one.ensures.took
    (c.drain_one.ensures.close left) in
    let again = c.close-in-LogFull.ensures in
    stays_then slot m seen last (looks_but slot looked.0 m seen c.close.ensures.gc looked.1)
    (stays_then slot seen taken last (drains_but slot d.0 seen taken keeps d.1)
    (close_stays slot taken last c.close-in-LogFull.result again.gc
    (λ t. ap (λ x. x.me.0) (again.already t).2) again.did again.looked))

pub returns-in-LogFull-clause-shut : goal.returns-in-LogFull-clause-shut
returns-in-LogFull-clause-shut g c =
    let s = c.args.collector.now in
    let slot = c.args.slot in
    let m = s.gc.seat.me.0 in
    let seen = c.close.new.seat.me.0 in
    let taken = c.drain_one.new.self.gc.seat.me.0 in
    let did = c.drain_one.ensures.did in
    let keeps = keeps_vm seen taken did.0 did.1 in
    let same = c.close.ensures.gc.part in
    let looked = c.close.ensures.looked c.in-LogFull.is in
    let left : is_drained seen.gc slot ≡ false = ap (λ (x : Gc). is_drained x slot) same
    ∙ not_drained m.vm m.gc slot c.close.ensures.within
    (c.close.ensures.runs c.in-LogFull.is s.gc.acts) c.requires.open
    (c.close.ensures.not_shut c.in-LogFull.is) in
    let full : length (log_of seen.vm.logs slot) ≡ length (log_of seen.gc.taken slot) + 256 =
    ap (λ (x : View). length (log_of x.vm.logs slot)) looked.1
    ∙ (c.close.ensures.taken c.in-LogFull.is s.gc.acts
    ∙ ap (λ (x : Gc). length (log_of x.taken slot) + 256) (sym same)) in
    let d = full_takes seen.vm seen.gc taken.gc slot c.close.ensures.within full c.drain_one.result
    (c.drain_one.ensures.next c.close.ensures.sits.1.acts left) c.drain_one.ensures.took
    (c.drain_one.ensures.close left) in
    let wide = ap (λ (x : Gc). length x.taken) same ∙ taken_wide m.gc s.gc.runs in
    is_closed (is_shut c.close-in-LogFull.new.seat.me.0.vm slot ≡ true) c.close-in-LogFull.result
    c.close-in-LogFull.ensures.shut
    (λ e. one_free seen.vm taken.vm seen.gc taken.gc slot d.0 c.close.ensures.within wide keeps.part full
    d.1 (c.close-in-LogFull.ensures.taken e c.drain_one.new.self.gc.acts))
