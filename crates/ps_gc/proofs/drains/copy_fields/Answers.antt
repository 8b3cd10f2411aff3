use Rattle.std.proofs.Common.{◌≡◌, ◌++◌, Some, refl, sym, ap, ◌∙◌}
use Rattle.ps_record.specs.declared.Record.TheVariants.{Place}
use Rattle.ps_core_machine.specs.declared.events.Half.{Half}
use Rattle.ps_table.specs.Events.{gc_did_all}
use Rattle.ps_table.proofs.Flipping.{gc_all-append}
use Rattle.ps_gc.proofs.Draining.{loads_next, applied_on}
use Rattle.ps_gc.proofs.drains.copy_fields.Goals as goal

pub loop-k-preserved : goal.loop-k-preserved
loop-k-preserved g c =
    let m = c.args.gc.now.seat.me.0 in
    let g = c.loop-k.gc.seat.me.0.gc in
    let h = c.copy_field.new.gc.seat.me.0.gc in
    let i = c.loop-k.invariant in
    let a = c.args.pairing.original in
    let t = c.requires.taking in
    let done = c.copy_field.ensures in
    record {
      applied = applied_on m.gc g h a _ _ i.applied done.copied;
      taking = λ q e.
          let both : Some q ≡ Some t.0 = sym e ∙ t.1 in
          let one : q ≡ t.0 = cc in
          let what : q.what ≡ Place a c.args.first c.args.count = ap (λ (x : Half). x.what) one
          ∙ t.2 in
          done.copied.taking
          ∙ loads_next g.taking q a c.args.first c.args.count c.loop-k.k (i.taking q e) what
          c.loop-k-test.true;
      did = (
        i.did.0 ++ done.did.0,
        done.did.1 ∙ (ap (λ x. gc_did_all x done.did.0) i.did.1
            ∙ sym (gc_all-append m i.did.0 done.did.0)),
      );
      copies = done.copies;
      field = done.field refl;
      same = done.same ∙ i.same;
    }
