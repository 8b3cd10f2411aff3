-- The flip: roots that are renamed, and the numbers of the mutator's seat after it.
use Rattle.std.proofs.Common.{◌≡◌, ◌↔◌, ◌^◌, ℕ, ◌+◌, ◌-◌, ◌*◌, ◌<◌, ◌≤◌, true, false, List, [], ◌∷◌, ◌++◌, Some, None}
use Rattle.std.proofs.Common.{Option, refl, sym, ap, ◌∙◌, inl, inr, subst, arith, is_some}
use Rattle.std.specs.Prelude.{nat_le, nat_eq, replicate, slice_index}
use Rattle.std.proofs.lemmas.List.{get_or-replicate}
use Rattle.ps_word.specs.Format.{address_in}
use Rattle.ps_word.specs.Headers.{IsForward, forward_packed}
use Rattle.ps_word.specs.declared.headers.Forward.{Forward}
use Rattle.ps_word.specs.Readers.{is_reference, readdressed}
use Rattle.ps_core_machine.specs.declared.events.Event.{Event}
use Rattle.ps_core_machine.specs.declared.events.Event.TheVariants.{GcLoad, CycleStore}
use Rattle.ps_core_machine.specs.declared.events.Pair.{Pair}
use Rattle.ps_core_machine.specs.declared.events.Vm.{Vm}
use Rattle.ps_core_machine.specs.declared.events.Gc.{Gc}
use Rattle.ps_core_machine.specs.Objects.{among, pair_of, redirected, renamed_value, value_has_replica, end_of_replicas}
use Rattle.ps_core_machine.specs.Steps.{State, table_size, space_base, other_base, gc_after, vm_after, forwarding}
use Rattle.ps_core_machine.specs.Steps.{replica_of}
use Rattle.ps_core_machine.specs.Conditions.{VmMay}
use Rattle.ps_core_laws.specs.Runs.{run}
use Rattle.ps_core_laws.proofs.Bases.{bases}
use Rattle.ps_core_laws.proofs.HeapTests.{bool_cases, number_is, number_not, le_is}
use Rattle.ps_core_laws.proofs.Facts.{VmFacts}
use Rattle.ps_core_laws.specs.Memory.{is_shut}
use Rattle.ps_table.specs.declared.mirror.Mirror.{Mirror}
use Rattle.ps_table.specs.declared.plays.View.{View}
use Rattle.ps_table.specs.Events.{gc_did_all, root_look}
use Rattle.ps_table.specs.Mirrored.{Mirrors}
use Rattle.ps_table.specs.Shown.{GcFinds, gc_did}
use Rattle.ps_table.proofs.Originals.{Lawful, lawful, original, object_inside}
use Rattle.ps_table.proofs.Originals.{replica_inside, second_unknown, second_tells}

-- ---- lists of events

pub gc_all-append : (m : View) (es fs : List Event)
    → gc_did_all m (es ++ fs) ≡ gc_did_all (gc_did_all m es) fs
gc_all-append m [] fs = refl
gc_all-append m (e ∷ es) fs = gc_all-append (gc_did m e) es fs

-- ---- a load that leaves the collector's part

pub look_stays : (g : Gc) (v : Vm) (place n : ℕ) → 2 ≤ place → among g.known place ≡ false
    → gc_after g v (GcLoad place n) ≡ g
look_stays g v place n le unknown =
    let f : nat_eq place 1 ≡ false = number_not place 1 (λ e. omega arith) in
    rw (f, unknown) refl

-- ---- the second header of an original

pub record Looked (g : Gc) (a : ℕ) (p : Pair) (n : ℕ) : Type 0 where
  pub found : n ≡ forwarding (g.cycle + 1) p.replica
  pub low : p.replica < 2 ^ 24
  pub cycle : g.cycle + 1 < 2 ^ 32
  pub inside : a + 2 ≤ table_size g.space
  pub stays : (v : Vm) → gc_after g v (GcLoad (a + 1) n) ≡ g

looked_at : (s : State) → Lawful s → (a n : ℕ) (p : Pair) → pair_of s.gc.pairs a ≡ Some p
    → slice_index s.words (a + 1) ≡ n → Looked s.gc a p n
looked_at s k a n p at found =
    let o = original s k a p at in
    let there = replica_inside s k a p at in
    let lo = there.0 in let hi = there.1 in
    let inside = object_inside s k a o.0 o.1 in
    let far = inside.0 in let top = inside.1 in
    let size = k.kept.collector.size.1 in
    let small = k.kept.mutator.cycles.small in
    let epoch = Rattle.ps_table.proofs.Originals.epoch_is s k a p at in
    record {
      found = (second_tells s k a n o.0 o.1 found).some p at;
      low = omega arith;
      cycle = omega arith;
      inside = omega arith;
      stays = λ v. look_stays s.gc v (a + 1) n (omega arith) (second_unknown s k a o.0 o.1);
    }

pub looked : (g : Gc) (a n : ℕ) (p : Pair) → pair_of g.pairs a ≡ Some p → GcFinds g (a + 1) n
    → Looked g a p n
looked g a n p at f =
    let s : State = run g.space f.events in
    let h = lawful g.space f.size f.events f.is_run in
    subst (λ (x : Gc). Looked x a p n) f.is
    (looked_at s h a n p (ap (λ (x : Gc). pair_of x.pairs a) f.is ∙ at) f.found)

-- where a reference has a replica
pub paired : (ps : List Pair) (w : ℕ) → is_reference w ≡ true → value_has_replica ps w ≡ true
    → (p : Pair) × (pair_of ps (address_in w) ≡ Some p)
paired ps w ref has = go (pair_of ps (address_in w)) refl (rw ref at has)
  where
    go : (x : Option Pair) → pair_of ps (address_in w) ≡ x → is_some x ≡ true
        → (p : Pair) × (pair_of ps (address_in w) ≡ Some p)
    go None e some = absurd (let b : false ≡ true = some in cc)
    go (Some p) e some = (p, e)

-- ---- a forwarding word that is read

module _ (word cycle address : ℕ) (is : word ≡ forwarding cycle address) (low : cycle < 2 ^ 32)
    (small : address < 2 ^ 24) where
  abbrev there : Forward
  there = record { cycle = cycle; address = address }

  pub forward_read : (found : Forward) → ((f : Forward) → (Some found ≡ Some f)
      ↔ (IsForward f × (forward_packed f ≡ word))) → found ≡ there
  forward_read found exact =
      let same : Some found ≡ Some there =
      (exact there).1 (record { cycle = low; address = small }, sym is) in
      cc

  pub forward_none : ((f : Forward) → (None ≡ Some f)
      ↔ (IsForward f × (forward_packed f ≡ word))) → ⊥
  forward_none exact =
      let bad : None ≡ Some there =
      (exact there).1 (record { cycle = low; address = small }, sym is) in
      cc

-- ---- one root

module _ (g : Gc) (w : ℕ) where
  pub look_none : is_reference w ≡ false → root_look g w ≡ []
  look_none plain = rw plain refl

  pub renamed_plain : is_reference w ≡ false → renamed_value g.pairs w ≡ w
  renamed_plain plain = rw plain refl

  module _ (p : Pair) (ref : is_reference w ≡ true)
      (at : pair_of g.pairs (address_in w) ≡ Some p) where
    pub look_one : (n : ℕ) → n ≡ forwarding (g.cycle + 1) p.replica
        → root_look g w ≡ GcLoad (address_in w + 1) n ∷ []
    look_one n is = rw ref (ap (λ (z : ℕ). GcLoad (address_in w + 1) z ∷ [])
        (ap (λ (x : Option Pair). forwarding (g.cycle + 1) (replica_of x)) at ∙ sym is))

    pub renamed_to : renamed_value g.pairs w ≡ readdressed w p.replica
    renamed_to = rw ref (ap (λ (x : Option Pair). redirected x w) at)

-- ---- the numbers after a flip

pub mirrors_flipped : (v : Vm) (n : Mirror) (g : Gc) (roots : List ℕ) (e : ℕ) → Mirrors v n
    → VmMay v (CycleStore roots) → VmFacts (vm_after v g (CycleStore roots))
    → e ≡ end_of_replicas (other_base v.space v.cycle) g.pairs
    → Mirrors (vm_after v g (CycleStore roots)) (record n {
      base = 2 * 8256 + n.space - n.base;
      end = e;
      fresh_from = e;
      cycle_open = false;
      shut = replicate 32 false;
    })
mirrors_flipped v n g roots e m may k is =
    let opened : v.epoch ≡ v.cycle + 1 = number_is v.epoch (v.cycle + 1) may.0 in
    let out : nat_eq v.epoch (v.cycle + 1 + 1) ≡ false =
    number_not v.epoch (v.cycle + 1 + 1) (λ x. omega arith) in
    record {
      space_is = m.space_is;
      base_is =
          let b = m.base_is in let z = m.space_is in
          elim (bases v.space v.cycle) as
          (λ _. 2 * 8256 + n.space - n.base ≡ space_base v.space (v.cycle + 1)) [
            | inl x ↦ (let p = x.0 in let q = x.1 in
                let same : space_base v.space (v.cycle + 1) ≡ other_base v.space v.cycle = refl in
                omega arith)
            | inr x ↦ (let p = x.0 in let q = x.1 in
                let same : space_base v.space (v.cycle + 1) ≡ other_base v.space v.cycle = refl in
                omega arith)
          ];
      end_is = is;
      birth_is = m.birth_is;
      epoch_is = m.epoch_is;
      open_is = sym out;
      heads_are = m.heads_are;
      wide_logged = m.wide_logged;
      wide_shut = refl;
      logged_is = m.logged_is;
      shut_is = λ slot lt. get_or-replicate 32 slot false true lt
          ∙ sym (let t : is_shut (vm_after v g (CycleStore roots)) slot ≡ false = rw out refl in t);
      fresh_is = λ a o at.
          let hi = (k.within a o at).1 in
          elim (bool_cases (nat_le e a)) [
            | inl t ↦ (let le = le_is e a t in absurd (omega arith))
            | inr f ↦ sym f
          ];
      fresh_low = omega arith;
      idle = refl;
      settled = m.settled;
    }
