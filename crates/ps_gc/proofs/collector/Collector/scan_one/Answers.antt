use Rattle.std.proofs.Common.{arith, ◌≡◌, ◌++◌, not, true, length, Some, refl, sym, ap, ◌∙◌, subst}
use Rattle.ps_word.specs.Headers.{fields_in}
use Rattle.ps_core_machine.specs.declared.events.Gc.{Gc}
use Rattle.ps_core_machine.specs.declared.events.Pair.{Pair}
use Rattle.ps_core_machine.specs.Objects.{pair_of}
use Rattle.ps_table.specs.Events.{gc_did_all}
use Rattle.ps_table.proofs.Flipping.{gc_all-append}
use Rattle.ps_gc.specs.Events.{Copied}
use Rattle.ps_gc.proofs.Copying.{one_original}
use Rattle.ps_gc.proofs.Scanning.{all_at_end, not_all, field_unfilled, fields_told, replica_words}
use Rattle.ps_gc.proofs.collector.Collector.scan_one.Goals as goal

pub returns-then-self-clause-answer : goal.returns-then-self-clause-answer
returns-then-self-clause-answer g c =
    let s = c.args.self.now in
    ap not (sym (all_at_end s.gc.seat.me.0.gc s.gc.runs s.to s.copies c.if-self.true))

pub scan_on-requires-clause-is : goal.scan_on-requires-clause-is
scan_on-requires-clause-is g c = λ a p e here.
    let s = c.args.self.now in
    let pairing = c.scanned_pairing-pairing.ensures in
    let h : Gc = c.copy_field.new.gc.seat.me.0.gc in
    let o = c.scanned_pairing-pairing.result.original in
    let at : pair_of c.scanned_pairing-pairing.new.gc.seat.me.0.gc.pairs o ≡ Some pairing.is.0 =
    ap (λ (x : Gc). pair_of x.pairs o) pairing.part ∙ pairing.is.1 in
    let q = c.copy_field.ensures.copied.pairs o pairing.is.0 at in
    let moved = c.copy_field.ensures.at refl in
    let place : p.replica ≡ q.0.replica =
    here ∙ (moved.0 ∙ (sym pairing.at ∙ (sym pairing.is.2 ∙ sym q.2.replica))) in
    let same = one_original h c.copy_field.new.gc.runs a o p q.0 e q.1 place in
    let some : Some p ≡ Some q.0 = sym e ∙ (ap (pair_of h.pairs) same ∙ q.1) in
    let one : p ≡ q.0 = cc in
    let told = fields_told s.gc.seat.me.0.gc s.gc.runs o pairing.is.0 pairing.is.1 in
    ap (λ (z : Pair). length z.fields) one
    ∙ (q.2.count ∙ (sym told ∙ (ap fields_in pairing.is.3 ∙ sym c.fields_in.ensures)))

pub returns-clause-answer : goal.returns-clause-answer
returns-clause-answer g c =
    let s = c.args.self.now in
    ap not (sym (not_all s.gc.seat.me.0.gc s.gc.runs s.to s.copies s.field c.if-self.false))

pub returns-clause-filled : goal.returns-clause-filled
returns-clause-filled g c = λ z.
    let s = c.args.self.now in
    let g = s.gc.seat.me.0.gc in
    let pairing = c.scanned_pairing-pairing.ensures in
    let o = c.scanned_pairing-pairing.result.original in
    let p = pairing.is.0 in
    let here : p.replica ≡ s.to.at = pairing.is.2 ∙ pairing.at in
    let lt = s.field o p pairing.is.1 here in (
      o,
      s.to.field,
      p,
      pairing.is.1,
      field_unfilled g s.to s.copies o p pairing.is.1 here lt,
      subst (λ (x : Gc × Gc). Copied x.0 x.1 o s.to.field true)
          (λ j. (pairing.part j, sym c.scan_on.ensures.part j)) c.copy_field.ensures.copied,
    )

pub returns-clause-did : goal.returns-clause-did
returns-clause-did g c =
    let m = c.args.self.now.gc.seat.me.0 in
    let one = c.scanned_pairing-pairing.ensures.did in
    let two = c.copy_field.ensures.did in
    let three = c.scan_on.ensures.did in (
      one.0 ++ (two.0 ++ three.0),
      three.1 ∙ (ap (λ x. gc_did_all x three.0) (two.1 ∙ ap (λ x. gc_did_all x two.0) one.1)
          ∙ (sym (gc_all-append (gc_did_all m one.0) two.0 three.0)
          ∙ sym (gc_all-append m one.0 (two.0 ++ three.0)))),
    )

pub returns-clause-onward : goal.returns-clause-onward
returns-clause-onward g c = λ _.
    let s = c.args.self.now in
    let g = s.gc.seat.me.0.gc in
    let pairing = c.scanned_pairing-pairing.ensures in
    let p = pairing.is.0 in
    let here : p.replica ≡ s.to.at = pairing.is.2 ∙ pairing.at in
    let lt = s.field c.scanned_pairing-pairing.result.original p pairing.is.1 here in
    let words = replica_words g s.gc.runs c.scanned_pairing-pairing.result.original p pairing.is.1
    in
    let top = words.inside in let size = words.size in
    let moved = c.copy_field.ensures.at refl in
    let at = moved.0 in let field = moved.1 in
    let on = c.scan_on.ensures.onward in
    record { on = omega arith; inside = omega arith }
