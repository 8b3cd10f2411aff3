use Rattle.std.proofs.Common.{arith, ◌≡◌, ◌+◌, ℕ, [], ◌∷◌, true, sym, ap, ◌∙◌, subst}
use Rattle.ps_core_machine.specs.declared.events.Event.TheVariants.{GcLoad}
use Rattle.ps_core_machine.specs.declared.events.Gc.{Gc}
use Rattle.ps_core_machine.specs.Objects.{pair_of, is_done}
use Rattle.ps_core_machine.specs.Steps.{gc_after, knows_open}
use Rattle.ps_core_laws.proofs.HeapTests.{number_is}
use Rattle.ps_table.specs.Events.{gc_did_all}
use Rattle.ps_table.specs.Shown.{gc_did, GcFinds}
use Rattle.ps_table.proofs.GcFacts.{gc_knows}
use Rattle.ps_gc.specs.Events.{Applied}
use Rattle.ps_gc.proofs.Draining.{record_tells, record_second, applied_same, done_bare}
use Rattle.ps_table.proofs.Seconds.{leads, leads_not}
use Rattle.ps_gc.proofs.Replicating.{told_some, told_none}
use Rattle.ps_gc.proofs.Scanning.{replica_words, first_stays, header_found}
use Rattle.ps_gc.proofs.drains.apply.Goals as goal

pub load-second-requires : goal.load-second-requires
load-second-requires g c =
    let gc = c.args.gc.now in
    let t = c.requires.taking in
    let x = (record_tells gc.seat.me.0.gc gc.runs t.0 c.args.address c.args.first c.args.count t.1
    t.2).inside in
    record { inside = omega arith }

pub overflow_add-to : goal.overflow_add-to
overflow_add-to g c =
    let gc = c.args.gc.now in
    let g = gc.seat.me.0.gc in
    let small = (gc_knows g gc.runs).epoch_small in
    let epoch : g.epoch ≡ g.cycle + 1 = number_is g.epoch (g.cycle + 1) c.requires.open in
    let is = c.requires.copies.cycle_is in
    omega arith

pub load-requires : goal.load-requires
load-requires g c =
    let gc = c.args.gc.now in
    let m = gc.seat.me.0 in
    let g = m.gc in
    let a = c.args.address in
    let n = c.load-second.result in
    let t = c.requires.taking in
    let k = record_second g t.0 a c.args.first c.args.count n t.1 t.2 c.load-second.ensures.finds in
    let one : c.load-second.new.self.seat.me.0.gc ≡ g =
    ap (λ x. x.gc) c.load-second.ensures.did ∙ k.stays m.vm in
    let cycle = ap (λ (z : ℕ). z + 1) c.requires.copies.cycle_is in
    let told = told_some n (c.args.to.now.cycle + 1) c.in-Some.replica c.in-Some.ensures in
    let l = leads g a n k (told.0 ∙ cycle) in
    let is : c.in-Some.replica ≡ l.0.replica = told.1 ∙ l.2 in
    let w = replica_words g gc.runs a l.0 l.1 in
    let top = w.inside in
    let same = ap (λ x. x.gc.space) c.load-second.ensures.did in
    record { inside = omega arith }

pub copy_fields-requires-clause-open : goal.copy_fields-requires-clause-open
copy_fields-requires-clause-open g c =
    let gc = c.args.gc.now in
    let m = gc.seat.me.0 in
    let g = m.gc in
    let a = c.args.address in
    let n = c.load-second.result in
    let t = c.requires.taking in
    let k = record_second g t.0 a c.args.first c.args.count n t.1 t.2 c.load-second.ensures.finds in
    let one : c.load-second.new.self.seat.me.0.gc ≡ g =
    ap (λ x. x.gc) c.load-second.ensures.did ∙ k.stays m.vm in
    let cycle = ap (λ (z : ℕ). z + 1) c.requires.copies.cycle_is in
    let told = told_some n (c.args.to.now.cycle + 1) c.in-Some.replica c.in-Some.ensures in
    let l = leads g a n k (told.0 ∙ cycle) in
    let is : c.in-Some.replica ≡ l.0.replica = told.1 ∙ l.2 in
    let w = replica_words g gc.runs a l.0 l.1 in
    let two : c.load.new.self.seat.me.0.gc ≡ g =
    ap (λ x. x.gc) c.load.ensures.did
    ∙ ((λ j. gc_after (one j) m.vm (GcLoad (is j) c.load.result))
    ∙ first_stays g a l.0 w m.vm c.load.result) in
    ap knows_open two ∙ c.requires.open

pub copy_fields-requires-clause-is : goal.copy_fields-requires-clause-is
copy_fields-requires-clause-is g c =
    let gc = c.args.gc.now in
    let m = gc.seat.me.0 in
    let g = m.gc in
    let a = c.args.address in
    let n = c.load-second.result in
    let t = c.requires.taking in
    let k = record_second g t.0 a c.args.first c.args.count n t.1 t.2 c.load-second.ensures.finds in
    let one : c.load-second.new.self.seat.me.0.gc ≡ g =
    ap (λ x. x.gc) c.load-second.ensures.did ∙ k.stays m.vm in
    let cycle = ap (λ (z : ℕ). z + 1) c.requires.copies.cycle_is in
    let told = told_some n (c.args.to.now.cycle + 1) c.in-Some.replica c.in-Some.ensures in
    let l = leads g a n k (told.0 ∙ cycle) in
    let is : c.in-Some.replica ≡ l.0.replica = told.1 ∙ l.2 in
    let w = replica_words g gc.runs a l.0 l.1 in
    let two : c.load.new.self.seat.me.0.gc ≡ g =
    ap (λ x. x.gc) c.load.ensures.did
    ∙ ((λ j. gc_after (one j) m.vm (GcLoad (is j) c.load.result))
    ∙ first_stays g a l.0 w m.vm c.load.result) in
    let finds : GcFinds g l.0.replica c.load.result =
    subst (λ (x : Gc). GcFinds x l.0.replica c.load.result) one
    (subst (λ (z : ℕ). GcFinds c.load-second.new.self.seat.me.0.gc z c.load.result) is
    c.load.ensures.finds) in
    let tells = record_tells g gc.runs t.0 a c.args.first c.args.count t.1 t.2 in (
      l.0,
      ap (λ (x : Gc). pair_of x.pairs a) two ∙ l.1,
      sym is,
      sym (header_found g a c.load.result l.0 l.1 finds),
      tells.fields l.0 l.1,
    )

pub returns-in-Some-clause-applied : goal.returns-in-Some-clause-applied
returns-in-Some-clause-applied g c =
    let gc = c.args.gc.now in
    let m = gc.seat.me.0 in
    let g = m.gc in
    let a = c.args.address in
    let n = c.load-second.result in
    let t = c.requires.taking in
    let k = record_second g t.0 a c.args.first c.args.count n t.1 t.2 c.load-second.ensures.finds in
    let one : c.load-second.new.self.seat.me.0.gc ≡ g =
    ap (λ x. x.gc) c.load-second.ensures.did ∙ k.stays m.vm in
    let cycle = ap (λ (z : ℕ). z + 1) c.requires.copies.cycle_is in
    let told = told_some n (c.args.to.now.cycle + 1) c.in-Some.replica c.in-Some.ensures in
    let l = leads g a n k (told.0 ∙ cycle) in
    let is : c.in-Some.replica ≡ l.0.replica = told.1 ∙ l.2 in
    let w = replica_words g gc.runs a l.0 l.1 in
    let two : c.load.new.self.seat.me.0.gc ≡ g =
    ap (λ x. x.gc) c.load.ensures.did
    ∙ ((λ j. gc_after (one j) m.vm (GcLoad (is j) c.load.result))
    ∙ first_stays g a l.0 w m.vm c.load.result) in
    subst (λ (x : Gc). Applied x c.copy_fields.new.gc.seat.me.0.gc) two
    c.copy_fields.ensures.applied

pub returns-in-Some-clause-did : goal.returns-in-Some-clause-did
returns-in-Some-clause-did g c =
    let es = c.copy_fields.ensures.did.0 in (
      GcLoad (c.args.address + 1) c.load-second.result
          ∷ GcLoad c.in-Some.replica c.load.result ∷ es,
      c.copy_fields.ensures.did.1
          ∙ (ap (λ x. gc_did_all x es) c.load.ensures.did
          ∙ ap (λ x. gc_did_all (gc_did x (GcLoad c.in-Some.replica c.load.result)) es)
          c.load-second.ensures.did),
    )

pub returns-in-None-clause-applied : goal.returns-in-None-clause-applied
returns-in-None-clause-applied g c =
    let gc = c.args.gc.now in
    let m = gc.seat.me.0 in
    let g = m.gc in
    let a = c.args.address in
    let n = c.load-second.result in
    let t = c.requires.taking in
    let k = record_second g t.0 a c.args.first c.args.count n t.1 t.2 c.load-second.ensures.finds in
    let one : c.load-second.new.self.seat.me.0.gc ≡ g =
    ap (λ x. x.gc) c.load-second.ensures.did ∙ k.stays m.vm in
    let cycle = ap (λ (z : ℕ). z + 1) c.requires.copies.cycle_is in
    subst (Applied g) (sym one) (applied_same g c.requires.idle)

pub returns-in-None-clause-done : goal.returns-in-None-clause-done
returns-in-None-clause-done g c =
    let gc = c.args.gc.now in
    let m = gc.seat.me.0 in
    let g = m.gc in
    let a = c.args.address in
    let n = c.load-second.result in
    let t = c.requires.taking in
    let k = record_second g t.0 a c.args.first c.args.count n t.1 t.2 c.load-second.ensures.finds in
    let one : c.load-second.new.self.seat.me.0.gc ≡ g =
    ap (λ x. x.gc) c.load-second.ensures.did ∙ k.stays m.vm in
    let cycle = ap (λ (z : ℕ). z + 1) c.requires.copies.cycle_is in
    let bare = leads_not g a n k
    (λ e. told_none n (c.args.to.now.cycle + 1) c.in-None.ensures (e ∙ sym cycle)) in
    subst (λ (x : Gc). is_done x.pairs x.copying x.taking ≡ true) (sym one)
    (done_bare g t.0 a c.args.first c.args.count c.requires.idle t.1 t.2 t.3 bare)

pub returns-in-None-clause-did : goal.returns-in-None-clause-did
returns-in-None-clause-did g c =
    (GcLoad (c.args.address + 1) c.load-second.result ∷ [], c.load-second.ensures.did)
