-- The steps themselves.
use Rattle.std.proofs.Common.{◌≡◌, ℕ, ◌+◌, ◌<◌, nat_eq, List, length, refl, sym, ap, ◌∙◌, inl, inr, subst, arith}
use Rattle.std.specs.Prelude.{slice_index, slice_set}
use Rattle.std.proofs.lemmas.List.{set-get_or}
use Rattle.ps_record.specs.declared.Record.{Record}
use Rattle.ps_record.specs.Format.{ring_place, packed}
use Rattle.ps_core_machine.specs.declared.events.Event.{Event}
use Rattle.ps_core_machine.specs.declared.events.Event.TheVariants.{VmLoad, ClearStore, HeaderStore}
use Rattle.ps_core_machine.specs.declared.events.Event.TheVariants.{FieldStore, RecordStore, EpochStore}
use Rattle.ps_core_machine.specs.declared.events.Vm.{Vm}
use Rattle.ps_core_machine.specs.Objects.{log_of}
use Rattle.ps_core_machine.specs.Steps.{State, table_size, next_word, words_after}
use Rattle.ps_core_machine.specs.Conditions.{Permitted, CanClear, VmMay}
use Rattle.ps_table.specs.Shown.{looked, slot_at}
use Rattle.ps_core_laws.proofs.HeapTests.{bool_cases, number_is}
use Rattle.ps_table.proofs.Allows.{VmAlone, VmStep}

pub same_word : (ws : List ℕ) (i n : ℕ) → slice_index ws i ≡ n → ws ≡ slice_set ws i n
same_word ws i n at = sym (set-get_or ws i 0) ∙ ap (λ (m : ℕ). slice_set ws i m) at

pub vm_load_step : (v : Vm) (i : ℕ) → i < table_size v.space → VmStep v i (λ n. n) (λ n. VmLoad i n)
vm_load_step v i may = record {
  alone = λ n. record {
    vm_makes = refl;
    gc_not = refl;
    gc_same = λ g v. refl;
    vm_own = λ v g h.
        refl;
  };
  may = λ s n is at. record {
    vm = subst (λ (w : Vm). i < table_size w.space) (sym is) may;
    gc = tt;
    both = at;
  };
  writes = λ s n is at. same_word s.words i n at;
}

-- a store of the mutator's
vm_store : (v : Vm) (i word : ℕ) (e : Event) → VmAlone e → ((s : State) → s.vm ≡ v → Permitted s e)
    → ((s : State) → s.vm ≡ v → words_after s.words s.vm s.gc e ≡ slice_set s.words i word)
    → VmStep v i (λ _. word) (λ _. e)
vm_store v i word e alone may writes = record {
  alone = λ n. alone;
  may = λ s n is at. may s is;
  writes = λ s n is at. writes s is;
}

-- a look at the next word of the object being made
pub vm_look_step : (v : Vm) (i : ℕ) → CanClear v → i ≡ next_word v → i < table_size v.space
    → VmStep v i (λ n. n) (λ n. looked i n)
vm_look_step v i may at inside = record {
  alone = λ n. elim (bool_cases (nat_eq n 0)) [
    | inl zero ↦ rw zero (record
        { vm_makes = refl; gc_not = refl; gc_same = λ g v. refl; vm_own = λ v g h. refl })
    | inr other ↦ rw other ((vm_load_step v i inside).alone n)
  ];
  may = λ s n is found. elim (bool_cases (nat_eq n 0)) [
    | inl zero ↦ rw zero (record {
      vm = subst CanClear (sym is) may;
      gc = tt;
      both = ap (slice_index s.words) (ap next_word is ∙ sym at)
          ∙ (found ∙ number_is n 0 zero);
    })
    | inr other ↦ rw other ((vm_load_step v i inside).may s n is found)
  ];
  writes = λ s n is found. elim (bool_cases (nat_eq n 0)) [
    | inl zero ↦ rw zero (same_word s.words i n found)
    | inr other ↦ rw other (same_word s.words i n found)
  ];
}

pub vm_clear_step : (v : Vm) (i : ℕ) → CanClear v → i ≡ next_word v
    → VmStep v i (λ _. 0) (λ _. ClearStore)
vm_clear_step v i may at = vm_store v i 0 ClearStore record {
  vm_makes = refl;
  gc_not = refl;
  gc_same = λ g v. refl;
  vm_own = λ v g h. refl;
}
    (λ s is. record {
      vm = subst CanClear (sym is) may;
      gc = tt;
      both = tt;
    })
    (λ s is. ap (λ (k : ℕ). slice_set s.words k 0) (ap next_word is ∙ sym at))

pub vm_make_step : (v : Vm) (i header : ℕ) → VmMay v (HeaderStore header) → i ≡ v.end
    → VmStep v i (λ _. header) (λ _. HeaderStore header)
vm_make_step v i header may at = vm_store v i header (HeaderStore header) record
    { vm_makes = refl; gc_not = refl; gc_same = λ g v. refl; vm_own = λ v g h. refl }
    (λ s is. record {
      vm = subst (λ (w : Vm). VmMay w (HeaderStore header)) (sym is) may;
      gc = tt;
      both = tt;
    })
    (λ s is. ap (λ (k : ℕ). slice_set s.words k header) (ap (λ (w : Vm). w.end) is ∙ sym at))

pub vm_field_step : (v : Vm) (a i word : ℕ) → VmMay v (FieldStore a i word) → VmStep v (a + 2 + i)
    (λ _. word) (λ _. FieldStore a i word)
vm_field_step v a i word may = vm_store v (a + 2 + i) word (FieldStore a i word) record
    { vm_makes = refl; gc_not = refl; gc_same = λ g v. refl; vm_own = λ v g h. refl }
    (λ s is. record {
      vm = subst (λ (w : Vm). VmMay w (FieldStore a i word)) (sym is) may;
      gc = tt;
      both = tt;
    })
    (λ s is. refl)

pub vm_record_step : (v : Vm) (slot number : ℕ) (r : Record) → VmMay v (RecordStore slot r) → number
    ≡ length (log_of v.logs slot) → VmStep v (ring_place slot number) (λ _. packed number r)
    (λ _. RecordStore slot r)
vm_record_step v slot number r may is_number = vm_store v (ring_place slot number) (packed number r)
    (RecordStore slot r) record {
      vm_makes = refl;
      gc_not = refl;
      gc_same = λ g v. refl;
      vm_own = λ
          v g h. refl;
    }
    (λ s is. record {
      vm = subst (λ (w : Vm). VmMay w (RecordStore slot r)) (sym is) may;
      gc = tt;
      both = tt;
    })
    (λ s is. ap (λ (k : ℕ). slice_set s.words (ring_place slot k) (packed k r))
    (ap (λ (w : Vm). length (log_of w.logs slot)) is ∙ sym is_number))

pub vm_epoch_step : (v : Vm) (m : ℕ) → VmMay v EpochStore → m ≡ v.epoch + 1 → VmStep v 1 (λ _. m)
    (λ _. EpochStore)
vm_epoch_step v m may at = vm_store v 1 m EpochStore record {
  vm_makes = refl;
  gc_not = refl;
  gc_same = λ g v. refl;
  vm_own = λ v g h. refl;
}
    (λ s is. record {
      vm = subst (λ (w : Vm). VmMay w EpochStore) (sym is) may;
      gc = tt;
      both = tt;
    })
    (λ s is. ap (λ (k : ℕ). slice_set s.words 1 k) (ap (λ (w : Vm). w.epoch + 1) is ∙ sym at))

-- a ring place tells its slot
pub slot_of_place : (slot number : ℕ) → slot_at (ring_place slot number) ≡ slot
slot_of_place slot number = omega arith
