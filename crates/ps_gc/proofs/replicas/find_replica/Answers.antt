use Rattle.std.proofs.Common.{arith, ◌≡◌, ◌+◌, ℕ, [], ◌∷◌, Some, Option, is_some, sym, ap, ◌∙◌, subst}
use Rattle.std.specs.Prelude.{if◌then◌else◌}
use Rattle.ps_core_machine.specs.declared.events.Event.TheVariants.{GcLoad}
use Rattle.ps_core_machine.specs.declared.events.Gc.{Gc}
use Rattle.ps_core_machine.specs.declared.events.Pair.{Pair}
use Rattle.ps_core_machine.specs.Objects.{pair_of}
use Rattle.ps_core_machine.specs.Steps.{knows_open, new_pair}
use Rattle.ps_core_laws.proofs.HeapTests.{number_is}
use Rattle.ps_table.specs.Events.{gc_did_all}
use Rattle.ps_table.proofs.GcFacts.{gc_knows}
use Rattle.ps_gc.specs.Events.{next_replica, replica_made, with_replica, Adds}
use Rattle.ps_table.proofs.Seconds.{known_second, leads, leads_not}
use Rattle.ps_gc.proofs.Replicating.{told_some, told_none, adds_same, adds_made, pair_made}
use Rattle.ps_gc.proofs.Scanning.{replica_words}
use Rattle.ps_gc.proofs.replicas.find_replica.Goals as goal

pub overflow_add-original : goal.overflow_add-original
overflow_add-original g c =
    let gc = c.args.gc.now in
    let k = gc_knows gc.seat.me.0.gc gc.runs in
    let x = k.known c.args.original c.requires.known in
    let size = k.size.1 in
    omega arith

pub load-second-requires : goal.load-second-requires
load-second-requires g c =
    let gc = c.args.gc.now in
    let x = (gc_knows gc.seat.me.0.gc gc.runs).known c.args.original c.requires.known in
    record { inside = omega arith }

pub overflow_add-to : goal.overflow_add-to
overflow_add-to g c =
    let gc = c.args.gc.now in
    let g = gc.seat.me.0.gc in
    let small = (gc_knows g gc.runs).epoch_small in
    let epoch : g.epoch ≡ g.cycle + 1 = number_is g.epoch (g.cycle + 1) c.requires.open in
    let is = c.requires.copies.cycle_is in
    omega arith

pub make_replica-requires-clause-open : goal.make_replica-requires-clause-open
make_replica-requires-clause-open g c =
    let m = c.args.gc.now.seat.me.0 in
    let k = known_second m.gc c.args.original c.load-second.result c.requires.known
    c.load-second.ensures.finds in
    let part : c.load-second.new.self.seat.me.0.gc ≡ m.gc =
    ap (λ x. x.gc) c.load-second.ensures.did ∙ k.stays m.vm in
    ap knows_open part ∙ c.requires.open

pub make_replica-requires-clause-single : goal.make_replica-requires-clause-single
make_replica-requires-clause-single g c =
    let m = c.args.gc.now.seat.me.0 in
    let a = c.args.original in
    let n = c.load-second.result in
    let k = known_second m.gc a n c.requires.known c.load-second.ensures.finds in
    let part : c.load-second.new.self.seat.me.0.gc ≡ m.gc =
    ap (λ x. x.gc) c.load-second.ensures.did ∙ k.stays m.vm in
    let cycle = ap (λ (z : ℕ). z + 1) c.requires.copies.cycle_is in
    ap (λ (x : Gc). pair_of x.pairs a) part
    ∙ leads_not m.gc a n k
    (λ e. told_none n (c.args.to.now.cycle + 1) c.in-None.ensures (e ∙ sym cycle))

pub returns-in-Some-clause-at : goal.returns-in-Some-clause-at
returns-in-Some-clause-at g c =
    let m = c.args.gc.now.seat.me.0 in
    let a = c.args.original in
    let n = c.load-second.result in
    let k = known_second m.gc a n c.requires.known c.load-second.ensures.finds in
    let part : c.load-second.new.self.seat.me.0.gc ≡ m.gc =
    ap (λ x. x.gc) c.load-second.ensures.did ∙ k.stays m.vm in
    let cycle = ap (λ (z : ℕ). z + 1) c.requires.copies.cycle_is in
    let told = told_some n (c.args.to.now.cycle + 1) c.in-Some.replica c.in-Some.ensures in
    let l = leads m.gc a n k (told.0 ∙ cycle) in
    let low = k.low l.0 l.1 in
    let is : c.in-Some.replica ≡ l.0.replica = told.1 ∙ l.2 in
    (l.0, ap (λ (x : Gc). pair_of x.pairs a) part ∙ l.1, is, omega arith)

pub returns-in-Some-clause-did : goal.returns-in-Some-clause-did
returns-in-Some-clause-did g c =
    let m = c.args.gc.now.seat.me.0 in
    let a = c.args.original in
    let n = c.load-second.result in
    let k = known_second m.gc a n c.requires.known c.load-second.ensures.finds in
    let cycle = ap (λ (z : ℕ). z + 1) c.requires.copies.cycle_is in
    let told = told_some n (c.args.to.now.cycle + 1) c.in-Some.replica c.in-Some.ensures in
    let l = leads m.gc a n k (told.0 ∙ cycle) in (
      n,
      0,
      c.load-second.ensures.did ∙ ap (λ (x : Option Pair). gc_did_all m
          (GcLoad (a + 1) n ∷ (if is_some x then [] else replica_made m.gc a 0))) (sym l.1),
    )

pub returns-in-Some-clause-adds : goal.returns-in-Some-clause-adds
returns-in-Some-clause-adds g c =
    let m = c.args.gc.now.seat.me.0 in
    let k = known_second m.gc c.args.original c.load-second.result c.requires.known
    c.load-second.ensures.finds in
    let part : c.load-second.new.self.seat.me.0.gc ≡ m.gc =
    ap (λ x. x.gc) c.load-second.ensures.did ∙ k.stays m.vm in
    subst (Adds m.gc) (sym part) (adds_same m.gc)

pub returns-in-None-clause-at : goal.returns-in-None-clause-at
returns-in-None-clause-at g c =
    let m = c.args.gc.now.seat.me.0 in
    let a = c.args.original in
    let n = c.load-second.result in
    let k = known_second m.gc a n c.requires.known c.load-second.ensures.finds in
    let part : c.load-second.new.self.seat.me.0.gc ≡ m.gc =
    ap (λ x. x.gc) c.load-second.ensures.did ∙ k.stays m.vm in
    let made = c.make_replica.ensures.did in
    let whole : c.make_replica.new.gc.seat.me.0.gc ≡ with_replica m.gc a made.0 =
    made.2 ∙ ap (λ (x : Gc). with_replica x a made.0) part in
    let p : Pair = new_pair a (next_replica m.gc) made.0 in
    let at : pair_of c.make_replica.new.gc.seat.me.0.gc.pairs a ≡ Some p =
    ap (λ (x : Gc). pair_of x.pairs a) whole ∙ pair_made m.gc a made.0 in
    let w = replica_words c.make_replica.new.gc.seat.me.0.gc c.make_replica.new.gc.runs a p at in
    let top = w.inside in let size = w.size in
    let is : c.make_replica.result ≡ p.replica =
    c.make_replica.ensures.at ∙ c.requires.copies.end_is in
    (p, at, is, omega arith)

pub returns-in-None-clause-did : goal.returns-in-None-clause-did
returns-in-None-clause-did g c =
    let m = c.args.gc.now.seat.me.0 in
    let a = c.args.original in
    let n = c.load-second.result in
    let k = known_second m.gc a n c.requires.known c.load-second.ensures.finds in
    let did = c.load-second.ensures.did in
    let part : c.load-second.new.self.seat.me.0.gc ≡ m.gc =
    ap (λ x. x.gc) did ∙ k.stays m.vm in
    let cycle = ap (λ (z : ℕ). z + 1) c.requires.copies.cycle_is in
    let none = leads_not m.gc a n k
    (λ e. told_none n (c.args.to.now.cycle + 1) c.in-None.ensures (e ∙ sym cycle)) in
    let made = c.make_replica.ensures.did in (
      n,
      made.0,
      made.1 ∙ ((λ j. gc_did_all (did j) (replica_made (part j) a made.0))
          ∙ ap (λ (x : Option Pair). gc_did_all m
          (GcLoad (a + 1) n ∷ (if is_some x then [] else replica_made m.gc a made.0)))
          (sym none)),
    )

pub returns-in-None-clause-adds : goal.returns-in-None-clause-adds
returns-in-None-clause-adds g c =
    let m = c.args.gc.now.seat.me.0 in
    let a = c.args.original in
    let n = c.load-second.result in
    let k = known_second m.gc a n c.requires.known c.load-second.ensures.finds in
    let part : c.load-second.new.self.seat.me.0.gc ≡ m.gc =
    ap (λ x. x.gc) c.load-second.ensures.did ∙ k.stays m.vm in
    let cycle = ap (λ (z : ℕ). z + 1) c.requires.copies.cycle_is in
    let none = leads_not m.gc a n k
    (λ e. told_none n (c.args.to.now.cycle + 1) c.in-None.ensures (e ∙ sym cycle)) in
    let made = c.make_replica.ensures.did in
    let whole : c.make_replica.new.gc.seat.me.0.gc ≡ with_replica m.gc a made.0 =
    made.2 ∙ ap (λ (x : Gc). with_replica x a made.0) part in
    subst (Adds m.gc) (sym whole) (adds_made m.gc a made.0 none)
