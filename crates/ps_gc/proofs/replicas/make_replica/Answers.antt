use Rattle.std.proofs.Common.{arith, ◌≡◌, ◌+◌, ℕ, sym, ap, ◌∙◌, subst}
use Rattle.ps_word.specs.Headers.{fields_in}
use Rattle.ps_core_machine.specs.declared.events.Event.TheVariants.{GcLoad, ReplicaHeaderStore, ForwardStore}
use Rattle.ps_core_machine.specs.declared.events.Gc.{Gc}
use Rattle.ps_core_machine.specs.declared.events.Vm.{Vm}
use Rattle.ps_core_machine.specs.Conditions.{GcMay}
use Rattle.ps_core_machine.specs.Steps.{gc_after, forwarding}
use Rattle.ps_core_laws.proofs.HeapTests.{number_is}
use Rattle.ps_table.specs.Shown.{gc_did}
use Rattle.ps_table.proofs.GcFacts.{gc_knows}
use Rattle.ps_gc.specs.Events.{with_replica}
use Rattle.ps_gc.specs.Keeps.{Copies, IsAtField, GoesOn}
use Rattle.ps_gc.proofs.Replicating.{CanMake, can_make, after_load, after_first, after_second, loaded, may_first, may_second}
use Rattle.ps_gc.proofs.Replicating.{may_forward, forwarded, copies_made, field_made}
use Rattle.ps_gc.proofs.replicas.make_replica.Given.{Over}
use Rattle.ps_gc.proofs.replicas.make_replica.Goals.{After-load-header, After-store_to, After-store_to-2, After-forward, After-add_replica}
use Rattle.ps_gc.proofs.replicas.make_replica.Goals as goal

pub load-header-requires : goal.load-header-requires
load-header-requires g c =
    let gc = c.args.gc.now in
    let x = (gc_knows gc.seat.me.0.gc gc.runs).known c.args.original c.requires.known in
    record { inside = omega arith }

-- ---- the header is read

module _ (g : Over) (c : After-load-header g) where
  abbrev began : Gc
  began = c.args.gc.now.seat.me.0.gc

  abbrev v : Vm
  v = c.args.gc.now.seat.me.0.vm

  abbrev a : ℕ
  a = c.args.original

  abbrev n : ℕ
  n = c.load-header.result

  can : CanMake began a n
  can = can_make began a n c.requires.known c.requires.single c.load-header.ensures.finds

  epoch : began.epoch ≡ began.cycle + 1
  epoch = number_is began.epoch (began.cycle + 1) c.requires.open

  abbrev loaded_part : Gc
  loaded_part = after_load began a n can c.requires.known c.requires.single c.requires.open

  one : c.load-header.new.self.seat.me.0.gc ≡ loaded_part
  one = ap (λ m. m.gc) c.load-header.ensures.did
      ∙ loaded began a n can c.requires.known c.requires.single c.requires.open v

pub overflow_add-cycle : goal.overflow_add-cycle
overflow_add-cycle g c =
    let d = (goal.at.overflow_add-cycle g c).After-load-header in
    let small = (gc_knows (began g d) c.args.gc.now.runs).epoch_small in
    let next = epoch g d in
    let is = c.requires.copies.cycle_is in
    omega arith

pub overflow_cast-back : goal.overflow_cast-back
overflow_cast-back g c =
    let high = (can g (goal.at.overflow_cast-back g c).After-load-header).high in
    omega arith

pub store_to-requires : goal.store_to-requires
store_to-requires g c =
    let d = (goal.at.store_to-requires g c).After-load-header in
    record {
      may = subst (λ (x : Gc). GcMay x (ReplicaHeaderStore c.args.to.now.end (n g d)))
          (sym (one g d))
          (subst (λ (e : ℕ). GcMay (loaded_part g d) (ReplicaHeaderStore e (n g d)))
          (sym c.requires.copies.end_is)
          (may_first (began g d) (a g d) (n g d) (can g d) c.requires.known c.requires.single
          c.requires.open));
    }

-- ---- the first header is stored

module _ (g : Over) (c : After-store_to g) where
  abbrev at : After-load-header g
  at = (goal.at.After-store_to g c).After-load-header

  abbrev first_part : Gc
  first_part = after_first (began g at) (a g at) (n g at) (can g at) c.requires.known
      c.requires.single c.requires.open

  two : c.store_to.new.self.seat.me.0.gc ≡ first_part
  two = ap (λ m. m.gc) c.store_to.ensures.did
      ∙ (λ j. gc_after (one g at j) (v g at)
      (ReplicaHeaderStore (c.requires.copies.end_is j) (n g at)))

pub overflow_add-replica : goal.overflow_add-replica
overflow_add-replica g c =
    let made = can g (goal.at.overflow_add-replica g c).After-load-header in
    let room = made.room in let wide = made.wide in let size = made.size in
    let end = c.requires.copies.end_is in
    omega arith

pub pack-requires : goal.pack-requires
pack-requires g c =
    let d = (goal.at.pack-requires g c).After-load-header in
    let small = (gc_knows (began g d) c.args.gc.now.runs).epoch_small in
    let next = epoch g d in
    let is = c.requires.copies.cycle_is in
    record { cycle = omega arith; address = (can g d).high }

pub store_to-requires-2 : goal.store_to-requires-2
store_to-requires-2 g c =
    let e = (goal.at.store_to-requires-2 g c).After-store_to in
    let d = at g e in
    record {
      may = subst (λ (x : Gc). GcMay x (ReplicaHeaderStore (c.args.to.now.end + 1) 0))
          (sym (two g e))
          (subst (λ (z : ℕ). GcMay (first_part g e) (ReplicaHeaderStore (z + 1) 0))
          (sym c.requires.copies.end_is)
          (may_second (began g d) (a g d) (n g d) (can g d) c.requires.known c.requires.single
          c.requires.open));
    }

-- ---- and the second

module _ (g : Over) (c : After-store_to-2 g) where
  abbrev headed : After-store_to g
  headed = (goal.at.After-store_to-2 g c).After-store_to

  abbrev read : After-load-header g
  read = at g headed

  abbrev second_part : Gc
  second_part = after_second (began g read) (a g read) (n g read) (can g read) c.requires.known
      c.requires.single c.requires.open

  back : c.pack.result.0 ≡ forwarding ((began g read).cycle + 1) (a g read)
  back = c.pack.ensures
      ∙ ap (λ (z : ℕ). forwarding (z + 1) (a g read)) c.requires.copies.cycle_is

  three : c.store_to-2.new.self.seat.me.0.gc ≡ second_part
  three = ap (λ m. m.gc) c.store_to-2.ensures.did
      ∙ (λ j. gc_after (two g headed j) (v g read)
      (ReplicaHeaderStore (c.requires.copies.end_is j + 1) (back j)))

pub forward-requires-clause-is : goal.forward-requires-clause-is
forward-requires-clause-is g c =
    let d = (goal.at.forward-requires-clause-is g c).After-load-header in
    ap (λ (z : ℕ). z + 1) c.requires.copies.cycle_is
    ∙ (sym (epoch g d) ∙ sym (ap (λ m. m.gc.epoch) c.store_to-2.ensures.did
    ∙ (ap (λ m. m.gc.epoch) c.store_to.ensures.did ∙ ap (λ (x : Gc). x.epoch) (one g d))))

pub forward-requires-clause-may : goal.forward-requires-clause-may
forward-requires-clause-may g c =
    let e = (goal.at.forward-requires-clause-may g c).After-store_to-2 in
    let d = read g e in
    subst (λ (x : Gc). GcMay x (ForwardStore (a g d) c.args.to.now.end)) (sym (three g e))
    (subst (λ (z : ℕ). GcMay (second_part g e) (ForwardStore (a g d) z))
    (sym c.requires.copies.end_is)
    (may_forward (began g d) (a g d) (n g d) (can g d) c.requires.known c.requires.single
    c.requires.open))

pub add_replica-requires : goal.add_replica-requires
add_replica-requires g c =
    let made = can g (goal.at.add_replica-requires g c).After-load-header in
    let room = made.room in let wide = made.wide in let size = made.size in
    let end = c.requires.copies.end_is in
    let count = c.fields_in.ensures in
    omega arith

-- ---- the object is forwarded

four : (g : Over) (c : After-forward g) → c.forward.new.self.seat.me.0.gc
    ≡ with_replica c.args.gc.now.seat.me.0.gc c.args.original c.load-header.result
four g c =
    let e = (goal.at.After-forward g c).After-store_to-2 in
    let d = read g e in
    ap (λ m. m.gc) c.forward.ensures.did
    ∙ ((λ j. gc_after (three g e j) (v g d) (ForwardStore (a g d) (c.requires.copies.end_is j)))
    ∙ forwarded (began g d) (a g d) (n g d) (can g d) c.requires.known c.requires.single
    c.requires.open (v g d))

pub returns-clause-did : goal.returns-clause-did
returns-clause-did g c =
    let e = (goal.at.returns-clause-did g c).After-store_to-2 in
    let m = c.args.gc.now.seat.me.0 in
    let a = c.args.original in
    let n = c.load-header.result in
    let k = c.requires.copies in
    let end = c.args.to.now.end in
    let packed = c.pack.result.0 in (
      n,
      c.forward.ensures.did
          ∙ (ap (λ x. gc_did x (ForwardStore a end)) c.store_to-2.ensures.did
          ∙ (ap (λ x. gc_did (gc_did x (ReplicaHeaderStore (end + 1) packed))
          (ForwardStore a end)) c.store_to.ensures.did
          ∙ (ap (λ x. gc_did (gc_did (gc_did x (ReplicaHeaderStore end n))
          (ReplicaHeaderStore (end + 1) packed)) (ForwardStore a end)) c.load-header.ensures.did
          ∙ (λ j. gc_did (gc_did (gc_did (gc_did m (GcLoad a n))
          (ReplicaHeaderStore (k.end_is j) n)) (ReplicaHeaderStore (k.end_is j + 1) (back g e j)))
          (ForwardStore a (k.end_is j)))))),
      four g (goal.at.returns-clause-did g c).After-forward,
    )

goes : (g : Over) (c : After-add_replica g)
    → GoesOn c.args.to.now c.add_replica.new.to (fields_in c.load-header.result)
goes g c = subst (GoesOn c.args.to.now c.add_replica.new.to) c.fields_in.ensures
    c.add_replica.ensures

pub returns-clause-copies : goal.returns-clause-copies
returns-clause-copies g c =
    subst (λ (x : Gc). Copies x c.add_replica.new.to)
    (sym (four g (goal.at.returns-clause-copies g c).After-forward))
    (copies_made c.args.gc.now.seat.me.0.gc c.args.original c.load-header.result c.args.to.now
    c.add_replica.new.to c.requires.copies
    (goes g (goal.at.returns-clause-copies g c).After-add_replica))

pub returns-clause-field : goal.returns-clause-field
returns-clause-field g c =
    subst (λ (x : Gc). IsAtField x c.add_replica.new.to)
    (sym (four g (goal.at.returns-clause-field g c).After-forward))
    (field_made c.args.gc.now.seat.me.0.gc c.args.original c.load-header.result c.args.to.now
    c.add_replica.new.to c.requires.copies
    (goes g (goal.at.returns-clause-field g c).After-add_replica) c.requires.field)
