use Rattle.std.proofs.Common.{arith, ◌≡◌, ◌+◌, ℕ, [], ◌∷◌, ◌++◌, Some, refl, sym, ap, ◌∙◌, subst}
use Rattle.ps_word.specs.Headers.{fields_in}
use Rattle.ps_core_machine.specs.declared.events.Event.TheVariants.{GcLoad}
use Rattle.ps_core_machine.specs.declared.events.Gc.{Gc}
use Rattle.ps_core_machine.specs.Objects.{pair_of}
use Rattle.ps_core_machine.specs.Steps.{other_base, gc_after}
use Rattle.ps_table.specs.Shown.{gc_did, GcFinds}
use Rattle.ps_table.proofs.Flipping.{gc_all-append}
use Rattle.ps_gc.specs.declared.to_space.ToSpace.{ToSpace}
use Rattle.ps_gc.specs.Keeps.{Copies}
use Rattle.ps_gc.proofs.Replicating.{ends_before}
use Rattle.ps_gc.proofs.Scanning.{replica_at, replica_words, first_stays, header_found, place_inside, fields_told}
use Rattle.ps_gc.proofs.Scanning.{moved_on, passes}
use Rattle.ps_gc.proofs.scans.scan_on.Goals as goal

pub overflow_add-to : goal.overflow_add-to
overflow_add-to g c =
    let gc = c.passed.gc in
    let lt = c.passed-test.true in
    let p = passes gc.seat.me.0.gc gc.runs c.passed.to c.passed.invariant.copies c.passed.count
    c.passed.invariant.counts (λ e. omega arith) in
    let top = p.inside in let size = p.size in
    omega arith

pub overflow_add-to-in-passed : goal.overflow_add-to-in-passed
overflow_add-to-in-passed g c =
    let gc = c.passed.gc in
    let lt = c.passed-test.true in
    let p = passes gc.seat.me.0.gc gc.runs c.passed.to c.passed.invariant.copies c.passed.count
    c.passed.invariant.counts (λ e. omega arith) in
    let top = p.inside in let size = p.size in
    omega arith

pub load-requires : goal.load-requires
load-requires g c =
    let gc = c.passed.gc in
    let t = c.passed.to in
    let u : ToSpace = record t { at = t.at + (2 + c.passed.count); field = 0 } in
    let lt = c.passed-test.true in
    let k = moved_on gc.seat.me.0.gc gc.runs t u c.passed.invariant.copies c.passed.count
    c.passed.invariant.counts c.if-to-count.true (λ e. omega arith) refl refl refl (omega arith)
    refl in
    let more = c.if-to.true in
    let x = place_inside gc.seat.me.0.gc gc.runs u.at (k.at_is (λ e. omega arith)) in
    record { inside = omega arith }

pub passed-preserved-then-to : goal.passed-preserved-then-to
passed-preserved-then-to g c =
    let gc = c.passed.gc in
    let m = gc.seat.me.0 in
    let g = m.gc in
    let t = c.passed.to in
    let n = c.load.result in
    let inv = c.passed.invariant in
    let u : ToSpace = record t { at = t.at + (2 + c.passed.count); field = 0 } in
    let lt = c.passed-test.true in
    let k = moved_on g gc.runs t u inv.copies c.passed.count
    inv.counts c.if-to-count.true (λ e. omega arith) refl refl refl (omega arith) refl in
    let more = c.if-to.true in
    let r = replica_at g u.at n c.load.ensures.finds (k.at_is (λ e. omega arith)) in
    let w = replica_words g gc.runs r.original r.pair r.at in
    let part : c.load.new.self.seat.me.0.gc ≡ g =
    ap (λ x. x.gc) c.load.ensures.did
    ∙ (ap (λ (z : ℕ). gc_after g m.vm (GcLoad z n)) (sym r.here)
    ∙ first_stays g r.original r.pair w m.vm n) in
    record {
      copies = subst (λ (x : Gc). Copies x u) (sym part) k;
      counts = λ a p e here.
          let e' : pair_of g.pairs a ≡ Some p = ap (λ (x : Gc). pair_of x.pairs a) (sym part) ∙ e in
          let head = header_found g a n p e'
          (subst (λ (z : ℕ). GcFinds g z n) (sym here) c.load.ensures.finds) in
          sym (fields_told g gc.runs a p e')
          ∙ (ap fields_in (sym head) ∙ sym c.fields_in-count.ensures);
      part = part ∙ inv.part;
      onward = let so_far = inv.onward in let field = c.if-to-count.true in omega arith;
      same = c.load.ensures.same ∙ inv.same;
      did = (
        inv.did.0 ++ GcLoad u.at n ∷ [],
        c.load.ensures.did ∙ (ap (λ x. gc_did x (GcLoad u.at n)) inv.did.1
            ∙ sym (gc_all-append c.args.gc.now.seat.me.0 inv.did.0 (GcLoad u.at n ∷ []))),
      );
    }

pub passed-preserved : goal.passed-preserved
passed-preserved g c =
    let gc = c.passed.gc in
    let g = gc.seat.me.0.gc in
    let t = c.passed.to in
    let inv = c.passed.invariant in
    let u : ToSpace = record t { at = t.at + (2 + c.passed.count); field = 0 } in
    let lt = c.passed-test.true in
    let k = moved_on g gc.runs t u inv.copies c.passed.count
    inv.counts c.if-to-count.true (λ e. omega arith) refl refl refl (omega arith) refl in
    let past = c.if-to.false in
    let end = inv.copies.end_is in
    record {
      copies = k;
      counts = λ a p e here.
          let le = ends_before g.pairs (other_base g.space g.cycle) a p e in
          absurd (omega arith);
      part = inv.part;
      onward = let so_far = inv.onward in let field = c.if-to-count.true in omega arith;
      same = inv.same;
      did = inv.did;
    }

pub returns-after-passed-clause-field : goal.returns-after-passed-clause-field
returns-after-passed-clause-field g c = λ a p e here.
    let g = c.passed.gc.seat.me.0.gc in
    let le = ends_before g.pairs (other_base g.space g.cycle) a p e in
    let past = c.passed-test.false in
    let end = c.passed.invariant.copies.end_is in
    absurd (omega arith)
