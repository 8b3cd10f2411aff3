use Rattle.std.proofs.Common.{arith, ◌≡◌, ◌≢◌, ◌+◌, ◌<◌, ℕ, List, Bool, true, false, true≢false, [], ◌∷◌, ◌++◌, length, Some, None}
use Rattle.std.proofs.Common.{refl, sym, ap, ◌∙◌, subst}
use Rattle.std.specs.Prelude.{slice_index_or}
use Rattle.ps_core_machine.specs.declared.events.Event.{Event}
use Rattle.ps_core_machine.specs.declared.events.Event.TheVariants.{CopyLoad, ReplicaFieldStore}
use Rattle.ps_core_machine.specs.declared.events.Pair.{Pair}
use Rattle.ps_core_machine.specs.declared.events.Vm.{Vm}
use Rattle.ps_core_machine.specs.declared.events.Gc.{Gc}
use Rattle.ps_core_machine.specs.Objects.{pair_of, with_copy}
use Rattle.ps_core_machine.specs.Steps.{gc_after, other_base, replica_of, word_stored}
use Rattle.ps_table.specs.Events.{gc_did_all}
use Rattle.ps_table.specs.Shown.{gc_did}
use Rattle.ps_table.proofs.Flipping.{gc_all-append}
use Rattle.ps_table.proofs.GcFacts.{gc_knows}
use Rattle.ps_gc.specs.declared.to_space.ToSpace.{ToSpace}
use Rattle.ps_gc.specs.Events.{Copied}
use Rattle.ps_gc.specs.Keeps.{CopiesAre, Copies, IsAtField}
use Rattle.ps_gc.proofs.Copying.{Led, at_two, copying_two, word_is, may_store, stored_part, copied_whole, copies_stored}
use Rattle.ps_gc.proofs.Copying.{field_stored, copies_scanned, filled_there}
use Rattle.ps_gc.proofs.Replicating.{ends_before}
use Rattle.ps_gc.proofs.copies.copy_field.Given.{Over}
use Rattle.ps_gc.proofs.copies.copy_field.Goals.{After-lead-copy, After-store_field, Then-scans}
use Rattle.ps_gc.proofs.copies.copy_field.Goals as goal

-- ---- the word is read, and led to its copy

module _ (g : Over) (c : After-lead-copy g) where
  abbrev began : Gc
  began = c.args.gc.now.seat.me.0.gc

  abbrev v : Vm
  v = c.args.gc.now.seat.me.0.vm

  abbrev read : Gc
  read = c.copy_field-word.new.self.seat.me.0.gc

  abbrev h : Gc
  h = c.lead-copy.new.gc.seat.me.0.gc

  abbrev a : ℕ
  a = c.args.pairing.original

  abbrev w : ℕ
  w = c.copy_field-word.result

  abbrev copy : ℕ
  copy = c.lead-copy.result

  abbrev p : Pair
  p = c.requires.is.0

  first : read ≡ gc_after began v (CopyLoad a c.args.field w)
  first = ap (λ x. x.gc) c.copy_field-word.ensures.did

  led : Led h p.header w copy
  led = subst (λ (z : ℕ). Led h z w copy) (sym c.requires.is.3)
      (record { word = c.lead-copy.ensures.word; has = c.lead-copy.ensures.has })

  there : pair_of h.pairs a ≡ Some p
  there = at_two began read h a c.args.field w copy p v c.requires.is.1 first
      c.lead-copy.ensures.adds led

pub store_field-requires-clause-is : goal.store_field-requires-clause-is
store_field-requires-clause-is g c =
    let d = (goal.at.store_field-requires-clause-is g c).After-lead-copy in (
      record { address = a g d; field = c.args.field; word = w g d },
      copying_two (began g d) (read g d) (h g d) (a g d) c.args.field (w g d) (copy g d) (p g d)
          (v g d) c.requires.is.1 (first g d) c.lead-copy.ensures.adds (led g d),
      sym c.requires.is.2 ∙ sym (ap replica_of (there g d)),
      refl,
      word_is (began g d) (read g d) (h g d) (a g d) c.args.field (w g d) (copy g d) (p g d)
          (v g d) c.requires.is.1 (first g d) c.lead-copy.ensures.adds (led g d),
    )

pub store_field-requires-clause-may : goal.store_field-requires-clause-may
store_field-requires-clause-may g c =
    let d = (goal.at.store_field-requires-clause-may g c).After-lead-copy in
    may_store (began g d) (read g d) (h g d) (a g d) c.args.field (w g d) (copy g d) (p g d)
    (v g d) c.requires.is.1 (first g d) c.lead-copy.ensures.adds (led g d)

pub overflow_add-to : goal.overflow_add-to
overflow_add-to g c =
    let gc = c.args.gc.now in
    let pr = c.requires.is in
    let k = gc_knows gc.seat.me.0.gc gc.runs in
    let top = k.originals c.args.pairing.original pr.0 pr.1 in
    let size = k.size.1 in
    let long = pr.4 in
    let place = c.requires.place c.if-scans.true in
    let is = place.1 in
    let field = c.lead-copy.ensures.place.field in
    omega arith

-- ---- the copy is stored

module _ (g : Over) (c : After-store_field g) where
  abbrev leads : After-lead-copy g
  leads = (goal.at.After-store_field g c).After-lead-copy

  abbrev now : Gc
  now = c.store_field.new.self.seat.me.0.gc

  abbrev word : ℕ
  word = word_stored (h g leads)
      (record { address = a g leads; field = c.args.field; word = w g leads })

  abbrev copied_pairs : List Pair
  copied_pairs = with_copy (h g leads).pairs (a g leads) c.args.field word c.args.scans

  last : now ≡ gc_after (h g leads) c.lead-copy.new.gc.seat.me.0.vm (ReplicaFieldStore c.args.scans)
  last = ap (λ x. x.gc) c.store_field.ensures.did

  part : now ≡ record (h g leads) { pairs = copied_pairs; copying = None }
  part = stored_part (began g leads) (read g leads) (h g leads) (a g leads) c.args.field
      (w g leads) (copy g leads) (p g leads) (v g leads) c.requires.is.1 (first g leads)
      c.lead-copy.ensures.adds (led g leads) c.args.scans now c.lead-copy.new.gc.seat.me.0.vm last

  whole : ((q : Pair) → pair_of copied_pairs (a g leads) ≡ Some q → c.args.scans ≡ true
      → slice_index_or q.filled c.args.field false ≡ true)
      → Copied (began g leads) now (a g leads) c.args.field c.args.scans
  whole = copied_whole (began g leads) (read g leads) (h g leads) (a g leads) c.args.field
      (w g leads) (copy g leads) (p g leads) (v g leads) c.requires.is.1 (first g leads)
      c.lead-copy.ensures.adds (led g leads) c.args.scans now c.lead-copy.new.gc.seat.me.0.vm last

  did : (es : List Event)
      × (c.store_field.new.self.seat.me.0 ≡ gc_did_all c.args.gc.now.seat.me.0 es)
  did = (
    CopyLoad (a g leads) c.args.field (w g leads)
        ∷ (c.lead-copy.ensures.did.0 ++ ReplicaFieldStore c.args.scans ∷ []),
    c.store_field.ensures.did
        ∙ (ap (λ x. gc_did x (ReplicaFieldStore c.args.scans)) (c.lead-copy.ensures.did.1
        ∙ ap (λ x. gc_did_all x c.lead-copy.ensures.did.0) c.copy_field-word.ensures.did)
        ∙ sym (gc_all-append
        (gc_did c.args.gc.now.seat.me.0 (CopyLoad (a g leads) c.args.field (w g leads)))
        c.lead-copy.ensures.did.0 (ReplicaFieldStore c.args.scans ∷ []))),
  )

pub returns-then-scans-clause-did : goal.returns-then-scans-clause-did
returns-then-scans-clause-did g c =
    did g (goal.at.returns-then-scans-clause-did g c).After-store_field

pub returns-else-scans-clause-did : goal.returns-else-scans-clause-did
returns-else-scans-clause-did g c =
    did g (goal.at.returns-else-scans-clause-did g c).After-store_field

-- ---- for the scan, whose place it was

module _ (g : Over) (c : Then-scans g) where
  abbrev stores : After-store_field g
  stores = (goal.at.Then-scans g c).After-store_field

  abbrev at : After-lead-copy g
  at = leads g stores

  abbrev t : ToSpace
  t = c.lead-copy.new.to

  place : (c.args.pairing.replica ≡ c.args.to.now.at) × (c.args.field ≡ c.args.to.now.field)
  place = c.requires.place c.if-scans.true

  off : c.args.to.now.at ≢ c.args.to.now.end
  off e =
      let before = ends_before (began g at).pairs (other_base (began g at).space (began g at).cycle)
      (a g at) (p g at) c.requires.is.1 in
      let end = c.requires.copies.end_is in
      let same = c.requires.is.2 in
      let here = place.0 in
      omega arith

  same_at : t.at ≡ c.args.to.now.at
  same_at = c.lead-copy.ensures.place.at off

  same_field : t.field ≡ c.args.field
  same_field = c.lead-copy.ensures.place.field ∙ sym place.1

  here : (p g at).replica ≡ t.at
  here = c.requires.is.2 ∙ (place.0 ∙ sym same_at)

  within : t.field < length (p g at).fields
  within = let long = c.requires.is.4 in let field = same_field in omega arith

  ahead : t.at ≢ t.end
  ahead e =
      let before = ends_before (began g at).pairs (other_base (began g at).space (began g at).cycle)
      (a g at) (p g at) c.requires.is.1 in
      let end = c.requires.copies.end_is in
      let replica = here in
      let grown = c.lead-copy.ensures.place.end in
      omega arith

pub returns-then-scans-clause-copied : goal.returns-then-scans-clause-copied
returns-then-scans-clause-copied g c =
    let f = (goal.at.returns-then-scans-clause-copied g c).Then-scans in
    let e = stores g f in
    let d = at g f in
    let u : ToSpace = record (t g f) { field = (t g f).field + 1 } in
    whole g e (λ q is z. subst (λ (n : ℕ). slice_index_or q.filled n false ≡ true) (same_field g f)
    (filled_there (h g d) c.lead-copy.new.gc.runs (t g f) u c.lead-copy.ensures.copies (a g d)
    (word g e) (p g d) (there g d) (here g f) (within g f) refl refl refl refl refl (ahead g f) q
    ((λ j. pair_of (with_copy (h g d).pairs (a g d) (same_field g f j) (word g e) (sym z j))
    (a g d)) ∙ is)))

pub returns-then-scans-clause-copies : goal.returns-then-scans-clause-copies
returns-then-scans-clause-copies g c =
    let f = (goal.at.returns-then-scans-clause-copies g c).Then-scans in
    let e = stores g f in
    let d = at g f in
    let u : ToSpace = record (t g f) { field = (t g f).field + 1 } in
    subst (λ (x : Gc). Copies x u) (sym (part g e))
    (subst (λ (x : ℕ × Bool). CopiesAre (h g d).space (h g d).cycle
    (with_copy (h g d).pairs (a g d) x.0 (word g e) x.1) u)
    (λ j. (same_field g f j, sym c.if-scans.true j))
    (copies_scanned (h g d) c.lead-copy.new.gc.runs (t g f) u c.lead-copy.ensures.copies (a g d)
    (word g e) (p g d) (there g d) (here g f) (within g f) refl refl refl refl refl (ahead g f)))

pub returns-then-scans-clause-at : goal.returns-then-scans-clause-at
returns-then-scans-clause-at g c =
    let f = (goal.at.returns-then-scans-clause-at g c).Then-scans in
    (λ z. (same_at g f, ap (λ (n : ℕ). n + 1) (same_field g f)))

-- ---- for a record

pub returns-else-scans-clause-copied : goal.returns-else-scans-clause-copied
returns-else-scans-clause-copied g c =
    whole g (goal.at.returns-else-scans-clause-copied g c).After-store_field
    (λ q e z. absurd (true≢false (sym z ∙ c.if-scans.false)))

pub returns-else-scans-clause-copies : goal.returns-else-scans-clause-copies
returns-else-scans-clause-copies g c =
    let e = (goal.at.returns-else-scans-clause-copies g c).After-store_field in
    let d = leads g e in
    subst (λ (x : Gc). Copies x c.lead-copy.new.to) (sym (part g e))
    (subst (λ (x : Bool). CopiesAre (h g d).space (h g d).cycle
    (with_copy (h g d).pairs (a g d) c.args.field (word g e) x) c.lead-copy.new.to)
    (sym c.if-scans.false)
    (copies_stored (a g d) c.args.field (word g e) (h g d) c.lead-copy.new.to
    c.lead-copy.ensures.copies))

pub returns-else-scans-clause-field : goal.returns-else-scans-clause-field
returns-else-scans-clause-field g c =
    let e = (goal.at.returns-else-scans-clause-field g c).After-store_field in
    let d = leads g e in
    (λ z. subst (λ (x : Gc). IsAtField x c.lead-copy.new.to) (sym (part g e))
    (λ b q is here. field_stored (a g d) c.args.field (word g e) (h g d) c.lead-copy.new.to
    c.lead-copy.ensures.field b q
    (ap (λ (x : Bool). pair_of (with_copy (h g d).pairs (a g d) c.args.field (word g e) x) b)
    (sym c.if-scans.false) ∙ is) here))
