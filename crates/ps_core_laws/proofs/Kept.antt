-- What every run keeps: the flip, and all events.
use Rattle.std.proofs.Common.{◌≡◌, ◌⊎◌, ℕ, ◌+◌, ◌<◌, ◌≤◌, true, List, [], ◌∷◌, length, Some, None, Option, refl, sym}
use Rattle.std.proofs.Common.{ap, ◌∙◌, inl, subst, arith, length-set, is_some}
use Rattle.std.specs.Prelude.{slice_set, MatchOption}
use Rattle.std.specs.Option.{option_map}
use Rattle.std.proofs.lemmas.List.{get_or-set_same, get_or-set_other}
use Rattle.ps_record.specs.declared.Record.{Record}
use Rattle.ps_core_machine.specs.declared.events.Event.{Event}
use Rattle.ps_core_machine.specs.declared.events.Event.TheVariants.{VmLoad, GcLoad, TakeLoad, CopyLoad, HandOver}
use Rattle.ps_core_machine.specs.declared.events.Event.TheVariants.{ClearLoad, ClearStore, HeaderStore, FieldStore}
use Rattle.ps_core_machine.specs.declared.events.Event.TheVariants.{RecordStore, EpochStore, ReplicaHeaderStore}
use Rattle.ps_core_machine.specs.declared.events.Event.TheVariants.{ReplicaFieldStore, ForwardStore, HeadStore}
use Rattle.ps_core_machine.specs.declared.events.Event.TheVariants.{CycleStore}
use Rattle.ps_core_machine.specs.declared.events.Object.{Object}
use Rattle.ps_core_machine.specs.declared.events.Pair.{Pair}
use Rattle.ps_core_machine.specs.declared.events.Written.{Written}
use Rattle.ps_core_machine.specs.declared.events.Half.{Half}
use Rattle.ps_core_machine.specs.Objects.{object_at, pair_of, pair_to, log_of, is_written, half_of, replicas, stored}
use Rattle.ps_core_machine.specs.Objects.{as_object}
use Rattle.ps_core_machine.specs.Steps.{State, happens, table_size, space_base, other_base}
use Rattle.ps_core_machine.specs.Conditions.{Permitted}
use Rattle.ps_core_laws.specs.Runs.{run, IsRun, IsSpace}
use Rattle.ps_core_laws.proofs.Heap as heap
use Rattle.ps_core_laws.proofs.Heap.{acted}
use Rattle.ps_core_laws.proofs.HeapGood.{Good as HeapGood}
use Rattle.ps_core_laws.proofs.HeapKept.{keeps as heap_keeps}
use Rattle.ps_core_laws.proofs.HeapTests.{number_is, number_not}
use Rattle.ps_core_laws.proofs.Bases.{spaces_far, drop_all}
use Rattle.ps_core_laws.proofs.Rings.{rings_near}
use Rattle.ps_core_laws.proofs.Shown.{SpaceIs}
use Rattle.ps_core_laws.proofs.Copies.{copies_start, copies_off, space_flipped}
use Rattle.ps_core_laws.proofs.Lookups.{pair_to-of, pair_of-to, object_at-replicas, all_filled_at}
use Rattle.ps_core_laws.proofs.Views.{size_in, word_in, replica_in, original_in, copy_in, filled_in, load_of, stands_in}
use Rattle.ps_core_laws.proofs.Views.{view, heap_ext}
use Rattle.ps_core_laws.proofs.Keeping as first
use Rattle.ps_core_laws.proofs.Keeping.{Good, IsMatch, begins}
use Rattle.ps_core_laws.proofs.Storing as second
use Rattle.ps_core_laws.proofs.Replicating as third

module _ (space : ℕ) (s : State) (h : Good space s) where
  wide : length s.words ≡ table_size space
  wide = first.wide space s h

  low_other : (j : ℕ) → j < 8256 → (j < other_base space s.vm.cycle)
      ⊎ (other_base space s.vm.cycle + space ≤ j)
  low_other = first.low_other space s h

  original : (a : ℕ) (p : Pair) → pair_of s.gc.pairs a ≡ Some p → (o : Object)
      × (object_at s.vm.objects a ≡ Some o) × IsMatch p o
  original = first.original space s h

  none_at_zero : object_at s.vm.objects 0 ≡ None
  none_at_zero = go (object_at s.vm.objects 0) refl
    where
      go : (x : Option Object) → object_at s.vm.objects 0 ≡ x → x ≡ None
      go None e = refl
      go (Some o) e = let lo = (h.current.within 0 o e).0 in let b =
          (spaces_far space s.vm.cycle).0 in absurd (omega arith)

  no_pair_zero : pair_of s.gc.pairs 0 ≡ None
  no_pair_zero = go (pair_of s.gc.pairs 0) refl
    where
      go : (x : Option Pair) → pair_of s.gc.pairs 0 ≡ x → x ≡ None
      go None e = refl
      go (Some q) e = absurd (subst (λ (x : Option Object). MatchOption x ⊥ (IsMatch q))
          none_at_zero (h.matches 0 q e))

  stands_flipped : (c : ℕ) → heap.is_there (original_in (pair_to s.gc.pairs c)) ≡ stands_in
      (replicas s.gc.pairs) c
  stands_flipped c = go (pair_to s.gc.pairs c) ∙ sym (ap is_some (object_at-replicas s.gc.pairs c))
    where
      go : (x : Option Pair) → heap.is_there (original_in x) ≡ is_some (option_map as_object x)
      go None = refl
      go (Some q) = refl

  size_flipped : (c : ℕ) → size_in
      (object_at s.vm.objects (heap.or_zero (original_in (pair_to s.gc.pairs c)))) ≡ size_in
      (object_at (replicas s.gc.pairs) c)
  size_flipped c = go (pair_to s.gc.pairs c) refl
      ∙ sym (ap size_in (object_at-replicas s.gc.pairs c))
    where
      go : (x : Option Pair) → pair_to s.gc.pairs c ≡ x
          → size_in (object_at s.vm.objects (heap.or_zero (original_in x))) ≡ size_in
          (option_map as_object x)
      go None e = ap size_in none_at_zero
      go (Some q) e = let o = original q.original q (pair_of-to s.gc.pairs c q h.single e) in
          ap size_in o.1 ∙ o.2.fields

  field_flipped : (c i : ℕ)
      → copy_in (pair_of s.gc.pairs (heap.or_zero (original_in (pair_to s.gc.pairs c)))) i ≡ word_in
      (object_at (replicas s.gc.pairs) c) i
  field_flipped c i = go (pair_to s.gc.pairs c) refl
      ∙ sym (ap (λ (x : Option Object). word_in x i) (object_at-replicas s.gc.pairs c))
    where
      go : (x : Option Pair) → pair_to s.gc.pairs c ≡ x
          → copy_in (pair_of s.gc.pairs (heap.or_zero (original_in x))) i ≡ word_in
          (option_map as_object x) i
      go None e = ap (λ (y : Option Pair). copy_in y i) no_pair_zero
      go (Some q) e = ap (λ (y : Option Pair). copy_in y i) (pair_of-to s.gc.pairs c q h.single e)

  pub can_flip : (roots : List ℕ) → Permitted s (CycleStore roots) → heap.CanFlip (view s)
  can_flip roots p = record {
    opened = p.vm.0;
    idle = p.gc.0;
    stored = ap (load_of s.gc.pairs) p.gc.1;
    drained = λ slot. drop_all (log_of s.gc.taken slot) (log_of s.vm.logs slot)
        (half_of s.gc.taking slot) (ap (λ (l : List (List Record)). log_of l slot) p.both)
        (ap (λ (x : Option Half). half_of x slot) p.gc.0);
    logged = λ a i. ap (λ (x : Option Written). is_written x a i) p.vm.2;
    filled = λ a c i e lt. go a i (pair_of s.gc.pairs a) refl c e lt;
  }
    where
      go : (a i : ℕ) (x : Option Pair) → pair_of s.gc.pairs a ≡ x → (c : ℕ) → replica_in x ≡ Some c
          → i < size_in (object_at s.vm.objects a) → filled_in x i ≡ true
      go a i None at c e lt = absurd (cc)
      go a i (Some q) at c e lt =
          let o = original a q at in
          let lt' : i < length o.0.fields = subst (λ (x : Option Object). i < size_in x) o.1 lt in
          let sized = (h.other.sized q.replica q (pair_to-of s.gc.pairs a q h.single at)).1 in
          let m = o.2.fields in
          all_filled_at s.gc.pairs a i q at p.gc.2 (omega arith)

  flips : (roots : List ℕ) → Permitted s (CycleStore roots)
      → Good space (happens s (CycleStore roots))
  flips roots p =
      let w = wide in
      let open_now : s.vm.epoch ≡ s.vm.cycle + 1 = number_is s.vm.epoch (s.vm.cycle + 1) p.vm.0 in
      let cycles = h.counted.cycles in
      let vm_space = h.counted.vm_space_is in
      record {
        counted = record {
          vm_space_is = h.counted.vm_space_is;
          gc_space_is = h.counted.gc_space_is;
          cycles = ap (λ (n : ℕ). n + 1) h.counted.cycles;
          epochs = inl open_now;
          epoch_seen = omega arith;
          quiet = λ shut. p.vm.2;
          range = h.counted.range;
          small = h.counted.small;
        };
        control = record {
          wide = length-set s.words 0 (s.gc.cycle + 1) ∙ h.control.wide;
          cycle_word = get_or-set_same s.words 0 (s.gc.cycle + 1) 0 (omega arith)
              ∙ ap (λ (n : ℕ). n + 1) (sym h.counted.cycles);
          epoch_word = get_or-set_other s.words 0 1 (s.gc.cycle + 1) 0 (λ e. omega arith)
              ∙ h.control.epoch_word;
          head_words = λ slot lt. get_or-set_other s.words 0 (2 + slot) (s.gc.cycle + 1) 0
              (λ e. omega arith) ∙ h.control.head_words slot lt;
        };
        rings = rings_near s.words s.vm.logs 0 (s.gc.cycle + 1) (omega arith) h.rings;
        logs = h.logs;
        current = subst (λ (z : ℕ). SpaceIs (slice_set s.words 0 (s.gc.cycle + 1))
            (replicas s.gc.pairs) (Rattle.ps_core_machine.specs.Objects.end_of_replicas
            (other_base z s.vm.cycle) s.gc.pairs) 0 (space_base space (s.vm.cycle + 1))
            (space_base space (s.vm.cycle + 1) + space)) (sym vm_space)
            (space_flipped (slice_set s.words 0 (s.gc.cycle + 1)) s.gc.pairs s.gc.placed
            (other_base space s.vm.cycle) (other_base space s.vm.cycle + space) h.single
            (omega arith) p.gc.2
            (copies_off s.words s.gc.pairs s.gc.placed (other_base space s.vm.cycle)
            (other_base space s.vm.cycle + space) 0 (s.gc.cycle + 1) (low_other 0 (omega arith))
            h.other));
        other = copies_start _ _ _;
        births = h.births;
        single = tt;
        matches = λ a q e. absurd (cc);
        headers = λ a z e. absurd (cc);
        heap = subst HeapGood
            (heap_ext (acted (view s) (heap.Act.Flip [])) (view (happens s (CycleStore roots)))
            (sym (number_not s.vm.epoch (s.vm.cycle + 1 + 1) (λ e. omega arith)))
            stands_flipped size_flipped field_flipped (λ b. refl) (λ b i. refl) (λ slot. refl) refl
            (λ b. refl) (λ c. refl) (λ b i. refl) (λ b i. refl)
            (ap (load_of s.gc.pairs) p.gc.1 ∙ sym (ap (load_of []) p.gc.1)) (λ b. refl))
            (heap_keeps (view s) (heap.Act.Flip []) h.heap (can_flip roots p));
      }

  pub keeps : IsSpace space → (e : Event) → Permitted s e → Good space (happens s e)
  keeps size (VmLoad place word) p = first.vm_loads space s h place word p
  keeps size (GcLoad place word) p = first.gc_loads space s h place word p
  keeps size (TakeLoad slot word) p = first.take_loads space s h slot word p
  keeps size (CopyLoad a i word) p = first.copy_loads space s h a i word p
  keeps size (HandOver word roots) p = first.hands_over space s h word roots p
  keeps size ClearLoad p = second.finds_clear space s h p
  keeps size ClearStore p = second.clears space s h p
  keeps size (HeaderStore header) p = second.makes space s h header p
  keeps size (FieldStore a i w) p = second.stores space s h a i w p
  keeps size (RecordStore slot r) p = second.logs_record space s h slot r p
  keeps size EpochStore p = second.opens space s h p
  keeps size (ReplicaHeaderStore place w) p = third.places space s h place w p
  keeps size (ReplicaFieldStore scans) p = third.copies_at space s h scans s.gc.copying size refl p.gc
  keeps size (ForwardStore a c) p = third.forwards space s h a c p
  keeps size HeadStore p = third.heads_at space s h s.gc.taking refl p.gc
  keeps size (CycleStore roots) p = flips roots p

pub good : (space : ℕ) → IsSpace space → (events : List Event) → IsRun space events
    → Good space (run space events)
good space size [] h = begins space
good space size (e ∷ es) h = keeps space (run space es) (good space size es h.0) size e h.1
