use Rattle.std.proofs.Common.{◌≡◌, ◌+◌, [], ◌∷◌, Bool, true, false, Some, ap, sym, ◌∙◌}
use Rattle.std.specs.Prelude.{slice_index_or, if◌then◌else◌}
use Rattle.ps_core_machine.specs.declared.events.Event.TheVariants.{TakeLoad}
use Rattle.ps_core_machine.specs.Objects.{closes, is_close, log_of}
use Rattle.ps_table.specs.Events.{gc_did_all}
use Rattle.ps_gc.proofs.Ending.{drained_ends, finds_next}
use Rattle.ps_gc.proofs.collector.Collector.drain_one.Goals as goal

pub returns-in-None-clause-did : goal.returns-in-None-clause-did
returns-in-None-clause-did g c =
    (TakeLoad c.args.slot c.take-word.result ∷ [], c.take-word.ensures.did)

pub returns-in-Close-clause-did : goal.returns-in-Close-clause-did
returns-in-Close-clause-did g c =
    let es = c.take_record.ensures.did.0 in (
      TakeLoad c.args.slot c.take-word.result ∷ es,
      c.take_record.ensures.did.1 ∙ ap (λ x. gc_did_all x es) c.take-word.ensures.did,
    )

pub returns-in_default-clause-did : goal.returns-in_default-clause-did
returns-in_default-clause-did g c =
    let es = c.take_record.ensures.did.0 in (
      TakeLoad c.args.slot c.take-word.result ∷ es,
      c.take_record.ensures.did.1 ∙ ap (λ x. gc_did_all x es) c.take-word.ensures.did,
    )

pub returns-in-None-clause-next : goal.returns-in-None-clause-next
returns-in-None-clause-next g c =
    let s = c.args.self.now in
    let within = rw c.index.ensures.is at c.index.ensures.within in
    λ vm left. finds_next _ _ _ c.args.slot _ _ (c.take-word.ensures.runs vm)
    (s.takes.numbers_are c.args.slot within)
    (rw c.index-2.ensures.is at (c.take-word.ensures.next vm))
    (rw c.index-2.ensures.is at (sym c.in-None.is ∙ c.read.ensures))

pub returns-in-Close-clause-next : goal.returns-in-Close-clause-next
returns-in-Close-clause-next g c =
    let s = c.args.self.now in
    let within = rw c.index.ensures.is at c.index.ensures.within in
    λ vm left. finds_next _ _ _ c.args.slot _ _ (c.take-word.ensures.runs vm)
    (s.takes.numbers_are c.args.slot within)
    (rw c.index-2.ensures.is at (c.take-word.ensures.next vm))
    (rw c.index-2.ensures.is at (ap Some (sym c.in-Close.is) ∙ (sym c.in-Some.is ∙ c.read.ensures)))

pub returns-in_default-clause-next : goal.returns-in_default-clause-next
returns-in_default-clause-next g c =
    let s = c.args.self.now in
    let within = rw c.index.ensures.is at c.index.ensures.within in
    λ vm left. finds_next _ _ _ c.args.slot _ _ (c.take-word.ensures.runs vm)
    (s.takes.numbers_are c.args.slot within)
    (rw c.index-2.ensures.is at (c.take-word.ensures.next vm))
    (rw c.index-2.ensures.is at (sym c.in-Some.is ∙ c.read.ensures))

pub returns-then-self-index-clause-closed : goal.returns-then-self-index-clause-closed
returns-then-self-index-clause-closed g c = λ _.
    let s = c.args.self.now in
    let part = s.gc.seat.me.0.gc in
    let shut : slice_index_or s.taken.closed c.args.slot false ≡ true =
    rw c.index.ensures.is at c.if-self-index.true in
    let within = rw c.index.ensures.is at c.index.ensures.within in
    let full : closes (log_of part.taken c.args.slot) ≡ part.cycle + 1 =
    s.takes.closed_are c.args.slot within
    ∙ ap (λ (b : Bool). part.cycle + (if b then 1 else 0)) shut in
    (full, drained_ends part c.args.slot s.gc.runs within full)

pub returns-in-Close-clause-closed : goal.returns-in-Close-clause-closed
returns-in-Close-clause-closed g c = λ _.
    let part = c.take_record.new.gc.seat.me.0.gc in
    let shut : slice_index_or c.take_record.new.taken.closed c.args.slot false ≡ true =
    c.take_record.ensures.shut ∙ ap is_close c.in-Close.is in
    let within = rw c.index.ensures.is at c.index.ensures.within in
    let full : closes (log_of part.taken c.args.slot) ≡ part.cycle + 1 =
    c.take_record.ensures.takes.closed_are c.args.slot within
    ∙ ap (λ (b : Bool). part.cycle + (if b then 1 else 0)) shut in
    (full, drained_ends part c.args.slot c.take_record.new.gc.runs within full)
