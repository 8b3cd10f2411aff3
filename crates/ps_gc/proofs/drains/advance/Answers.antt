use Rattle.std.proofs.Common.{arith, ◌≡◌, ℕ, List, sym, ap, ◌∙◌, subst}
use Rattle.std.specs.Prelude.{slice_index, slice_set, ◌+◌}
use Rattle.ps_record.specs.declared.Record.{Record}
use Rattle.ps_core_machine.specs.Steps.{taken_after, with_record}
use Rattle.ps_gc.specs.declared.taken.Taken.{Taken}
use Rattle.ps_gc.specs.Keeps.{TakesAre}
use Rattle.ps_gc.proofs.Draining.{taken_short, takes_more}
use Rattle.ps_gc.proofs.drains.advance.Goals as goal

pub advance_head-requires-clause-few : goal.advance_head-requires-clause-few
advance_head-requires-clause-few g c =
    let gc = c.args.gc.now in
    let within = rw c.index.ensures.is at c.index.ensures.within in
    let short = (taken_short gc.seat.me.0.gc gc.runs c.args.slot within).0 in
    let is = c.requires.takes.numbers_are c.args.slot within in
    rw c.index.ensures.is (omega arith)

pub overflow_add-taken : goal.overflow_add-taken
overflow_add-taken g c =
    let gc = c.args.gc.now in
    let within = rw c.index.ensures.is at c.index.ensures.within in
    let short = (taken_short gc.seat.me.0.gc gc.runs c.args.slot within).0 in
    let is = c.requires.takes.numbers_are c.args.slot within in
    rw c.index.ensures.is (omega arith)

pub returns-clause-takes : goal.returns-clause-takes
returns-clause-takes g c =
    let gc = c.args.gc.now in
    let g = gc.seat.me.0.gc in
    let t = c.requires.taking in
    let within = rw c.index.ensures.is at c.index.ensures.within in
    let wide = (taken_short g gc.runs c.args.slot within).1 in
    let taken : c.advance_head.new.self.seat.me.0.gc.taken
    ≡ with_record g.taken c.args.slot t.0.what =
    ap (λ m. m.gc.taken) c.advance_head.ensures.did
    ∙ (ap (taken_after g.taken) t.1
    ∙ ap (λ (s : ℕ). with_record g.taken s t.0.what) t.2) in
    let cycle = ap (λ m. m.gc.cycle) c.advance_head.ensures.did in
    let k = c.args.taken.now in
    let u : Taken = record {
      numbers = slice_set k.numbers c.args.slot (slice_index k.numbers c.args.slot + 1);
      closed = slice_set k.closed c.args.slot c.args.closes;
    } in
    rw (c.index.ensures.is, c.index-2.ensures.is, c.index-3.ensures.is)
    (subst (λ (x : ℕ × List (List Record)). TakesAre x.0 x.1 u)
    (λ j. (sym cycle j, sym taken j))
    (takes_more g.cycle g.taken c.args.taken.now c.args.slot t.0.what c.args.closes
    c.requires.takes within wide c.requires.left t.3))
