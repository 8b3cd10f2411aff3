use Rattle.std.proofs.Common.{arith, ◌≡◌, ◌+◌, ℕ, [], ◌∷◌, Some, unwrap_or, refl, sym, ap, ◌∙◌, subst}
use Rattle.ps_word.specs.Headers.{cycle_in, forward_address_in}
use Rattle.ps_core_machine.specs.declared.events.Event.TheVariants.{GcLoad}
use Rattle.ps_core_machine.specs.declared.events.Gc.{Gc}
use Rattle.ps_core_machine.specs.Objects.{pair_of}
use Rattle.ps_core_machine.specs.Steps.{gc_after, forwarding}
use Rattle.ps_core_laws.proofs.HeapTests.{eq_true}
use Rattle.ps_table.specs.Shown.{gc_did, GcFinds}
use Rattle.ps_table.proofs.GcFacts.{gc_knows}
use Rattle.ps_table.proofs.Seconds.{cycle_there, address_there}
use Rattle.ps_gc.proofs.Replicating.{found_in}
use Rattle.ps_gc.proofs.Scanning.{replica_at, replica_words, first_stays, second_stays, header_found, back_found}
use Rattle.ps_gc.proofs.Scanning.{place_inside}
use Rattle.ps_gc.proofs.scans.scanned_pairing.Goals as goal

pub load-header-requires : goal.load-header-requires
load-header-requires g c =
    let gc = c.args.gc.now in
    let some = c.requires.copies.at_is c.requires.ahead in
    let x = place_inside gc.seat.me.0.gc gc.runs c.args.to.now.at some in
    record { inside = omega arith }

pub overflow_add-to : goal.overflow_add-to
overflow_add-to g c =
    let gc = c.args.gc.now in
    let some = c.requires.copies.at_is c.requires.ahead in
    let x = place_inside gc.seat.me.0.gc gc.runs c.args.to.now.at some in
    let size = (gc_knows gc.seat.me.0.gc gc.runs).size.1 in
    omega arith

pub load-back-requires : goal.load-back-requires
load-back-requires g c =
    let gc = c.args.gc.now in
    let some = c.requires.copies.at_is c.requires.ahead in
    let x = place_inside gc.seat.me.0.gc gc.runs c.args.to.now.at some in
    let same = ap (λ m. m.gc.space) c.load-header.ensures.did in
    record { inside = omega arith }

pub overflow_add-to-2 : goal.overflow_add-to-2
overflow_add-to-2 g c =
    let gc = c.args.gc.now in
    let g = gc.seat.me.0.gc in
    let some = c.requires.copies.at_is c.requires.ahead in
    let r = replica_at g c.args.to.now.at c.load-header.result c.load-header.ensures.finds some in
    let w = replica_words g gc.runs r.original r.pair r.at in
    let small = w.cycle in
    let is = c.requires.copies.cycle_is in
    omega arith

pub returns-clause-is : goal.returns-clause-is
returns-clause-is g c =
    let gc = c.args.gc.now in
    let m = gc.seat.me.0 in
    let g = m.gc in
    let n = c.load-header.result in
    let b = c.load-back.result in
    let place = c.args.to.now.at in
    let some = c.requires.copies.at_is c.requires.ahead in
    let r = replica_at g place n c.load-header.ensures.finds some in
    let w = replica_words g gc.runs r.original r.pair r.at in
    let one : c.load-header.new.self.seat.me.0.gc ≡ g =
    ap (λ x. x.gc) c.load-header.ensures.did
    ∙ (ap (λ (z : ℕ). gc_after g m.vm (GcLoad z n)) (sym r.here)
    ∙ first_stays g r.original r.pair w m.vm n) in
    let finds : GcFinds g (r.pair.replica + 1) b =
    subst (λ (x : Gc). GcFinds x (r.pair.replica + 1) b) one
    (subst (λ (z : ℕ). GcFinds c.load-header.new.self.seat.me.0.gc (z + 1) b) (sym r.here)
    c.load-back.ensures.finds) in
    let back : b ≡ forwarding (g.cycle + 1) r.original =
    back_found g r.original b r.pair r.at finds in
    let cycle : cycle_in b ≡ c.args.to.now.cycle + 1 =
    ap cycle_in back ∙ (cycle_there (g.cycle + 1) r.original w.small
    ∙ sym (ap (λ (z : ℕ). z + 1) c.requires.copies.cycle_is)) in
    let t = eq_true (cycle_in b) (c.args.to.now.cycle + 1) cycle in
    let found : found_in b (c.args.to.now.cycle + 1) ≡ Some (forward_address_in b) = rw t refl in
    let original : c.unwrap_or-original.result ≡ r.original =
    c.unwrap_or-original.ensures
    ∙ (ap (λ x. unwrap_or x 0) (c.forward_of.ensures ∙ found)
    ∙ (ap forward_address_in back ∙ address_there (g.cycle + 1) r.original w.small)) in (
      r.pair,
      ap (pair_of g.pairs) original ∙ r.at,
      r.here,
      sym (header_found g r.original n r.pair r.at
          (subst (λ (z : ℕ). GcFinds g z n) (sym r.here) c.load-header.ensures.finds)),
    )

pub returns-clause-did : goal.returns-clause-did
returns-clause-did g c =
    let place = c.args.to.now.at in (
      GcLoad place c.load-header.result ∷ GcLoad (place + 1) c.load-back.result ∷ [],
      c.load-back.ensures.did
          ∙ ap (λ x. gc_did x (GcLoad (place + 1) c.load-back.result)) c.load-header.ensures.did,
    )

pub returns-clause-part : goal.returns-clause-part
returns-clause-part g c =
    let gc = c.args.gc.now in
    let m = gc.seat.me.0 in
    let g = m.gc in
    let n = c.load-header.result in
    let b = c.load-back.result in
    let place = c.args.to.now.at in
    let some = c.requires.copies.at_is c.requires.ahead in
    let r = replica_at g place n c.load-header.ensures.finds some in
    let w = replica_words g gc.runs r.original r.pair r.at in
    let one : c.load-header.new.self.seat.me.0.gc ≡ g =
    ap (λ x. x.gc) c.load-header.ensures.did
    ∙ (ap (λ (z : ℕ). gc_after g m.vm (GcLoad z n)) (sym r.here)
    ∙ first_stays g r.original r.pair w m.vm n) in
    ap (λ x. x.gc) c.load-back.ensures.did
    ∙ ((λ j. gc_after (one j) m.vm (GcLoad (sym r.here j + 1) b))
    ∙ second_stays g r.original r.pair w m.vm b)
