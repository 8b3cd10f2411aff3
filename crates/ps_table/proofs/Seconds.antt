-- The second header of what stands, read as a forwarding word.
use Rattle.std.proofs.Common.{◌≡◌, ◌≢◌, ◌↔◌, ◌^◌, ℕ, ◌+◌, ◌<◌, true, false, nat_eq, Some, None, Option, refl, sym, ap}
use Rattle.std.proofs.Common.{◌∙◌, subst, arith, is_some, inl, inr}
use Rattle.std.specs.Prelude.{slice_index}
use native.Mathlib.Decide.{ℕ_discrete}
use Rattle.ps_word.specs.Headers.{cycle_in, forward_address_in, forward_packed, IsForward}
use Rattle.ps_word.specs.declared.headers.Forward.{Forward}
use Rattle.ps_word.proofs.HeaderPlaces.{cycle_in-packed, forward_address_in-packed, forward_packed-parts}
use Rattle.ps_word.specs.Format.{address_in}
use Rattle.ps_word.specs.Readers.{is_reference}
use Rattle.ps_core_machine.specs.declared.events.Event.TheVariants.{GcLoad}
use Rattle.ps_core_machine.specs.declared.events.Object.{Object}
use Rattle.ps_core_machine.specs.declared.events.Pair.{Pair}
use Rattle.ps_core_machine.specs.declared.events.Vm.{Vm}
use Rattle.ps_core_machine.specs.declared.events.Gc.{Gc}
use Rattle.ps_core_machine.specs.Objects.{among, object_at, pair_of, value_has_replica, value_stands}
use Rattle.ps_core_machine.specs.Steps.{State, gc_after, forwarding, is_open}
use Rattle.ps_core_laws.specs.Runs.{run}
use Rattle.ps_core_laws.proofs.HeapTests.{bool_cases, clash, eq_true, number_is, number_not}
use Rattle.ps_table.specs.Shown.{GcFinds, BothFind}
use Rattle.ps_table.proofs.Originals.{Lawful, lawful, SecondTells, original, known_object, object_inside}
use Rattle.ps_table.proofs.Originals.{replica_inside, second_unknown, second_tells}
use Rattle.ps_table.proofs.Flipping.{look_stays}

pub cycle_there : (cycle a : ℕ) → a < 2 ^ 24 → cycle_in (forwarding cycle a) ≡ cycle
unfolding forward_packed
cycle_there cycle a lt = omega arith

pub address_there : (cycle a : ℕ) → a < 2 ^ 24 → forward_address_in (forwarding cycle a) ≡ a
unfolding forward_packed
address_there cycle a lt = omega arith

-- ---- a forwarding word that is read

module _ (n : ℕ) where
  pub read_some : (f : Forward) → ((h : Forward) → (Some f ≡ Some h)
      ↔ (IsForward h × (forward_packed h ≡ n)))
      → (cycle_in n ≡ f.cycle) × (forward_address_in n ≡ f.address)
  read_some f exact =
      let is = (exact f).0 refl in (
        ap cycle_in (sym is.1) ∙ cycle_in-packed f is.0,
        ap forward_address_in (sym is.1) ∙ forward_address_in-packed f is.0,
      )

  pub read_none : (cycle : ℕ) → cycle < 2 ^ 32 → ((h : Forward) → (None ≡ Some h)
      ↔ (IsForward h × (forward_packed h ≡ n))) → cycle_in n ≢ cycle
  read_none cycle low exact e =
      let there : Forward = record { cycle = cycle_in n; address = forward_address_in n } in
      let bad : None ≡ Some there = (exact there).1
      (record { cycle = omega arith; address = omega arith }, forward_packed-parts n) in
      cc

-- ---- what stands, as the collector finds it

pub record KnownSecond (g : Gc) (a n : ℕ) : Type 0 where
  pub tells : SecondTells g a n
  pub stays : (v : Vm) → gc_after g v (GcLoad (a + 1) n) ≡ g
  pub low : (p : Pair) → pair_of g.pairs a ≡ Some p → p.replica < 2 ^ 24

pub stands_second : (s : State) → Lawful s → (a n : ℕ) (o : Object)
    → object_at s.vm.objects a ≡ Some o → slice_index s.words (a + 1) ≡ n → KnownSecond s.gc a n
stands_second s k a n o at found = record {
  tells = second_tells s k a n o at found;
  stays = λ v. let far = (object_inside s k a o at).0 in
      look_stays s.gc v (a + 1) n (omega arith) (second_unknown s k a o at);
  low = λ p e.
      let top = (replica_inside s k a p e).1 in let size = k.kept.collector.size.1 in
      omega arith;
}

pub known_second : (g : Gc) (a n : ℕ) → among g.known a ≡ true → GcFinds g (a + 1) n
    → KnownSecond g a n
known_second g a n known f =
    let s : State = run g.space f.events in
    let h = lawful g.space f.size f.events f.is_run in
    let o = known_object s h a (ap (λ (x : Gc). among x.known a) f.is ∙ known) in
    subst (λ (x : Gc). KnownSecond x a n) f.is (stands_second s h a n o.0 o.1 f.found)

module _ (g : Gc) (a n : ℕ) (k : KnownSecond g a n) where
  -- a word of the open cycle leads to the replica
  pub leads : cycle_in n ≡ g.cycle + 1 → (p : Pair) × (pair_of g.pairs a ≡ Some p)
      × (forward_address_in n ≡ p.replica)
  leads is = go (pair_of g.pairs a) refl
    where
      go : (x : Option Pair) → pair_of g.pairs a ≡ x → (p : Pair)
          × (pair_of g.pairs a ≡ Some p) × (forward_address_in n ≡ p.replica)
      go None e = let le = k.tells.none e in absurd (omega arith)
      go (Some p) e = (
        p,
        e,
        ap forward_address_in (k.tells.some p e)
            ∙ address_there (g.cycle + 1) p.replica (k.low p e),
      )

  -- another word is that of an object without replica
  pub leads_not : cycle_in n ≢ g.cycle + 1 → pair_of g.pairs a ≡ None
  leads_not ne = go (pair_of g.pairs a) refl
    where
      go : (x : Option Pair) → pair_of g.pairs a ≡ x → pair_of g.pairs a ≡ None
      go None e = e
      go (Some p) e = absurd (ne (ap cycle_in (k.tells.some p e)
          ∙ cycle_there (g.cycle + 1) p.replica (k.low p e)))

-- ---- as both seats joined find it

-- in a cycle the word of its number leads to a replica; where it is another, or no cycle is open,
-- there is none
pub record BothTell (v : Vm) (g : Gc) (a n : ℕ) : Type 0 where
  pub small : v.epoch < 2 ^ 32
  pub shut : is_open v ≡ false → pair_of g.pairs a ≡ None
  pub led : is_open v ≡ true → cycle_in n ≡ v.epoch → is_some (pair_of g.pairs a) ≡ true
  pub left : is_open v ≡ true → cycle_in n ≢ v.epoch → pair_of g.pairs a ≡ None

state_tells : (s : State) → Lawful s → (a n : ℕ) (o : Object)
    → object_at s.vm.objects a ≡ Some o → slice_index s.words (a + 1) ≡ n → BothTell s.vm s.gc a n
state_tells s k a n o at found =
    let second = stands_second s k a n o at found in
    let cycle = k.kept.both.cycle in
    let epoch : is_open s.vm ≡ true → s.gc.cycle + 1 ≡ s.vm.epoch = λ t.
    let e = number_is s.vm.epoch (s.vm.cycle + 1) t in omega arith in
    record {
      small = k.kept.mutator.cycles.small;
      shut = λ out. no_pair out (pair_of s.gc.pairs a) refl;
      led = λ opened is. let l = leads s.gc a n second (is ∙ sym (epoch opened)) in ap is_some l.1;
      left = λ opened ne. leads_not s.gc a n second (λ e. ne (e ∙ epoch opened));
    }
  where
    no_pair : is_open s.vm ≡ false → (x : Option Pair) → pair_of s.gc.pairs a ≡ x
        → pair_of s.gc.pairs a ≡ None
    no_pair out None e = e
    no_pair out (Some p) e = absurd (clash (is_open s.vm) (original s k a p e).2.opened out)

some_object : (x : Option Object) → is_some x ≡ true → (o : Object) × (x ≡ Some o)
some_object None bad = absurd (let b : false ≡ true = bad in cc)
some_object (Some o) is = (o, refl)

pub both_tell : (v : Vm) (g : Gc) (a n : ℕ) → is_some (object_at v.objects a) ≡ true
    → BothFind v g (a + 1) n → BothTell v g a n
both_tell v g a n stands f =
    let s : State = run v.space f.events in
    let k = lawful v.space f.size f.events f.is_run in
    let o = some_object (object_at s.vm.objects a)
    (ap (λ (x : Vm). is_some (object_at x.objects a)) f.vm_is ∙ stands) in
    subst (λ (x : Vm × Gc). BothTell x.0 x.1 a n) (λ i. (f.vm_is i, f.gc_is i))
    (state_tells s k a n o.0 o.1 f.found)

-- what a reference names stands
pub reference_stands : (v : Vm) (w : ℕ) → is_reference w ≡ true
    → value_stands v.objects w ≡ true → is_some (object_at v.objects (address_in w)) ≡ true
reference_stands v w ref stands = rw ref at stands

pub object_of : (v : Vm) (w : ℕ) → is_reference w ≡ true → value_stands v.objects w ≡ true
    → (o : Object) × (object_at v.objects (address_in w) ≡ Some o)
object_of v w ref stands =
    some_object (object_at v.objects (address_in w)) (reference_stands v w ref stands)

module _ (v : Vm) (g : Gc) (w n : ℕ) (ref : is_reference w ≡ true)
    (tells : BothTell v g (address_in w) n) where
  pub has_none : pair_of g.pairs (address_in w) ≡ None → false ≡ value_has_replica g.pairs w
  has_none none = rw ref (sym (ap is_some none))

  pub has_as_told : is_open v ≡ true → (cycle epoch : ℕ) → cycle_in n ≡ cycle → epoch ≡ v.epoch
      → nat_eq cycle epoch ≡ value_has_replica g.pairs w
  has_as_told opened cycle epoch is same = elim (ℕ_discrete cycle epoch) [
    | yes e ↦ (let t = eq_true cycle epoch e in
        t ∙ sym (let some : value_has_replica g.pairs w ≡ true = rw ref
        (tells.led opened (is ∙ (e ∙ same))) in some))
    | no ne ↦ (let f = number_not cycle epoch ne in
        f ∙ has_none (tells.left opened (λ e. ne (sym is ∙ (e ∙ sym same)))))
  ]

  pub has_unread : (cycle_in n ≢ v.epoch) → false ≡ value_has_replica g.pairs w
  has_unread ne = elim (bool_cases (is_open v)) [
    | inl t ↦ has_none (tells.left t ne)
    | inr f ↦ has_none (tells.shut f)
  ]
