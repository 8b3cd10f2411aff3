use Rattle.std.proofs.Common.{◌+◌, length, refl, sym, ap, ◌∙◌, arith}
use Rattle.ps_core_machine.specs.declared.events.Gc.{Gc}
use Rattle.ps_core_machine.specs.Objects.{values_have_replicas}
use Rattle.ps_core_laws.specs.Stores.{numbers}
use Rattle.ps_table.proofs.Looking.{more_looks, no_gc_look, no_looks, one_look}
use Rattle.ps_gc.proofs.Flipping.{all_drained}
use Rattle.ps_gc.proofs.Scanning.{all_at_end, not_all}
use Rattle.ps_gc.proofs.collector.Collector.hindrance.Goals as goal

pub returns-then-self-clause-answer : goal.returns-then-self-clause-answer
returns-then-self-clause-answer g c =
    let s = c.args.self.now in
    let v = s.gc.seat.me.0.vm in
    let part = s.gc.seat.me.0.gc in (
      (
        c.all_closed.ensures.0 c.if-not-all_closed.false,
        all_drained v part c.meet.ensures.runs (λ slot lt. sym (s.takes.numbers_are slot lt)
            ∙ c.all_taken.ensures.0 c.if-not-all_taken.false slot lt),
      ),
      not_all part s.gc.runs s.to s.copies s.field c.if-self.true,
    )

pub returns-then-not-have_replicas-clause-answer :
    goal.returns-then-not-have_replicas-clause-answer
returns-then-not-have_replicas-clause-answer g c =
    let s = c.args.self.now in
    let v = s.gc.seat.me.0.vm in
    let part = s.gc.seat.me.0.gc in (
      (
        (
          c.all_closed.ensures.0 c.if-not-all_closed.false,
          all_drained v part c.meet.ensures.runs (λ slot lt. sym (s.takes.numbers_are slot lt)
              ∙ c.all_taken.ensures.0 c.if-not-all_taken.false slot lt),
        ),
        all_at_end part s.gc.runs s.to s.copies c.if-self.false,
      ),
      ap (λ (x : Gc). values_have_replicas x.pairs (numbers c.args.roots.now))
          (sym c.meet.ensures.parts.1)
          ∙ (sym c.have_replicas.ensures.answer ∙ c.if-not-have_replicas.true),
    )

pub returns-clause-answer : goal.returns-clause-answer
returns-clause-answer g c =
    let s = c.args.self.now in
    let v = s.gc.seat.me.0.vm in
    let part = s.gc.seat.me.0.gc in (
      (
        (
          c.all_closed.ensures.0 c.if-not-all_closed.false,
          all_drained v part c.meet.ensures.runs (λ slot lt. sym (s.takes.numbers_are slot lt)
              ∙ c.all_taken.ensures.0 c.if-not-all_taken.false slot lt),
        ),
        all_at_end part s.gc.runs s.to s.copies c.if-self.false,
      ),
      ap (λ (x : Gc). values_have_replicas x.pairs (numbers c.args.roots.now))
          (sym c.meet.ensures.parts.1)
          ∙ (sym c.have_replicas.ensures.answer ∙ c.if-not-have_replicas.false),
    )

-- ---- which events there were

pub returns-then-not-all_closed-clause-steps : goal.returns-then-not-all_closed-clause-steps
returns-then-not-all_closed-clause-steps g c = (no_looks _ _, refl)

pub returns-then-not-all_taken-clause-steps : goal.returns-then-not-all_taken-clause-steps
returns-then-not-all_taken-clause-steps g c = (no_looks _ _, refl)

pub returns-then-self-clause-steps : goal.returns-then-self-clause-steps
returns-then-self-clause-steps g c =
    let m = c.args.self.now.gc.seat.me.0 in
    let look = c.meet.ensures.looks in (
      more_looks 1 0 (length c.args.roots.now + 1) m.vm_events _ _ (omega arith)
          (one_look _ _ _ _ look) (no_looks 0 _),
      no_gc_look _ _ _ _ look,
    )

pub returns-then-not-have_replicas-clause-steps : goal.returns-then-not-have_replicas-clause-steps
returns-then-not-have_replicas-clause-steps g c =
    let m = c.args.self.now.gc.seat.me.0 in
    let look = c.meet.ensures.looks in (
      more_looks 1 (length c.args.roots.now) (length c.args.roots.now + 1) m.vm_events _ _
          (omega arith) (one_look _ _ _ _ look) c.have_replicas.ensures.steps.0,
      c.have_replicas.ensures.steps.1 ∙ no_gc_look _ _ _ _ look,
    )

pub returns-clause-steps : goal.returns-clause-steps
returns-clause-steps g c =
    let m = c.args.self.now.gc.seat.me.0 in
    let look = c.meet.ensures.looks in (
      more_looks 1 (length c.args.roots.now) (length c.args.roots.now + 1) m.vm_events _ _
          (omega arith) (one_look _ _ _ _ look) c.have_replicas.ensures.steps.0,
      c.have_replicas.ensures.steps.1 ∙ no_gc_look _ _ _ _ look,
    )
