-- The steps of the collector's seat, and those of both seats joined.
use Rattle.std.proofs.Common.{◌≡◌, ℕ, ◌+◌, ◌<◌, Bool, List, length, Some, None, Option, refl, sym, ap, ◌∙◌, subst, true}
use Rattle.std.specs.Prelude.{slice_index, slice_set}
use Rattle.ps_record.specs.Format.{ring_place}
use Rattle.ps_core_machine.specs.declared.events.Event.{Event}
use Rattle.ps_core_machine.specs.declared.events.Event.TheVariants.{GcLoad, TakeLoad, CopyLoad, HandOver}
use Rattle.ps_core_machine.specs.declared.events.Event.TheVariants.{ReplicaHeaderStore, ReplicaFieldStore, ForwardStore}
use Rattle.ps_core_machine.specs.declared.events.Event.TheVariants.{HeadStore, CycleStore}
use Rattle.ps_core_machine.specs.declared.events.Vm.{Vm}
use Rattle.ps_core_machine.specs.declared.events.Gc.{Gc}
use Rattle.ps_core_machine.specs.declared.events.Half.{Half}
use Rattle.ps_core_machine.specs.declared.events.Carried.{Carried}
use Rattle.ps_core_machine.specs.Objects.{log_of, pair_of, values_stand}
use Rattle.ps_core_machine.specs.Steps.{State, table_size, words_after, forwarding, replica_of, word_stored, copy_stored}
use Rattle.ps_core_machine.specs.Steps.{head_stored}
use Rattle.ps_core_machine.specs.Conditions.{Permitted, VmMay, GcMay, IsPairField}
use Rattle.ps_table.proofs.Allows.{GcAlone, GcStep, BothStep}
use Rattle.ps_table.proofs.Moves.{same_word}

pub gc_load_step : (g : Gc) (i : ℕ) → i < table_size g.space → GcStep g i (λ n. n) (λ n. GcLoad i n)
gc_load_step g i may = record {
  alone = λ n. record {
    gc_makes = refl;
    vm_not = refl;
    vm_same = λ v g. refl;
    gc_own = λ g v w.
        refl;
  };
  may = λ s n is at. record {
    vm = tt;
    gc = subst (λ (h : Gc). i < table_size h.space) (sym is) may;
    both = at;
  };
  writes = λ s n is at. same_word s.words i n at;
}

pub gc_take_step : (g : Gc) (slot i : ℕ) → slot < 32 → g.taking ≡ None → i
    ≡ ring_place slot (length (log_of g.taken slot)) → GcStep g i (λ n. n) (λ n. TakeLoad slot n)
gc_take_step g slot i lt idle place = record {
  alone = λ n. record {
    gc_makes = refl;
    vm_not = refl;
    vm_same = λ v g. refl;
    gc_own = λ g v w.
        refl;
  };
  may = λ s n is at. record {
    vm = tt;
    gc = (lt, ap (λ (h : Gc). h.taking) is ∙ idle);
    both = ap (slice_index s.words) (ap (λ (h : Gc). ring_place slot (length (log_of h.taken slot)))
        is ∙ sym place) ∙ at;
  };
  writes = λ s n is at. same_word s.words i n at;
}

pub gc_copy_step : (g : Gc) (a i : ℕ) → g.copying ≡ None → IsPairField g a i → GcStep g (a + 2 + i)
    (λ n. n) (λ n. CopyLoad a i n)
gc_copy_step g a i idle field = record {
  alone = λ n. record {
    gc_makes = refl;
    vm_not = refl;
    vm_same = λ v g. refl;
    gc_own = λ g v w.
        refl;
  };
  may = λ s n is at. record {
    vm = tt;
    gc = (
      ap (λ (h : Gc). h.copying) is
          ∙ idle,
      subst (λ (h : Gc). IsPairField h a i) (sym is) field,
    );
    both = at;
  };
  writes = λ s n is at. same_word s.words (a + 2 + i) n at;
}

-- a store of the collector's
gc_store : (g : Gc) (i word : ℕ) (e : Event) → GcAlone e → ((s : State) → s.gc ≡ g → Permitted s e)
    → ((s : State) → s.gc ≡ g → words_after s.words s.vm s.gc e ≡ slice_set s.words i word)
    → GcStep g i (λ _. word) (λ _. e)
gc_store g i word e alone may writes = record {
  alone = λ n. alone;
  may = λ s n is at. may s is;
  writes = λ s n is at. writes s is;
}

pub gc_header_step : (g : Gc) (place word : ℕ) → GcMay g (ReplicaHeaderStore place word)
    → GcStep g place (λ _. word) (λ _. ReplicaHeaderStore place word)
gc_header_step g place word may = gc_store g place word (ReplicaHeaderStore place word) record
    { gc_makes = refl; vm_not = refl; vm_same = λ v g. refl; gc_own = λ g v w. refl }
    (λ s is. record {
      vm = tt;
      gc = subst (λ (h : Gc). GcMay h (ReplicaHeaderStore place word))
          (sym is) may;
      both = tt;
    })
    (λ s is. refl)

pub gc_fill_step : (g : Gc) (k : Carried) (scans : Bool) (place word : ℕ) → g.copying ≡ Some k
    → GcMay g (ReplicaFieldStore scans) → place ≡ replica_of (pair_of g.pairs k.address) + 2 +
    k.field → word ≡ word_stored g k
    → GcStep g place (λ _. word) (λ _. ReplicaFieldStore scans)
gc_fill_step g k scans place word carries may at is_word = gc_store g place word
    (ReplicaFieldStore scans) record {
      gc_makes = refl;
      vm_not = refl;
      vm_same = λ v g. refl;
      gc_own
          = λ g v w. refl;
    }
    (λ s is. record {
      vm = tt;
      gc = subst (λ (h : Gc). GcMay h (ReplicaFieldStore scans)) (sym is)
          may;
      both = tt;
    })
    (λ s is. ap (λ (h : Gc). copy_stored s.words h h.copying) is
    ∙ (ap (λ (x : Option Carried). copy_stored s.words g x) carries
    ∙ (λ j. slice_set s.words (sym at j) (sym is_word j))))

pub gc_forward_step : (g : Gc) (a c word : ℕ) → GcMay g (ForwardStore a c) → word
    ≡ forwarding g.epoch c → GcStep g (a + 1) (λ _. word) (λ _. ForwardStore a c)
gc_forward_step g a c word may is_word = gc_store g (a + 1) word (ForwardStore a c) record
    { gc_makes = refl; vm_not = refl; vm_same = λ v g. refl; gc_own = λ g v w. refl }
    (λ s is. record {
      vm = tt;
      gc = subst (λ (h : Gc). GcMay h (ForwardStore a c)) (sym is) may;
      both = tt;
    })
    (λ s is. ap (λ (n : ℕ). slice_set s.words (a + 1) n) (ap (λ (h : Gc). forwarding h.epoch c) is
    ∙ sym is_word))

pub gc_head_step : (g : Gc) (h : Half) (place number : ℕ) → g.taking ≡ Some h → GcMay g HeadStore
    → place ≡ 2 + h.slot → number ≡ length (log_of g.taken h.slot) + 1
    → GcStep g place (λ _. number) (λ _. HeadStore)
gc_head_step g h place number takes may at is_number = gc_store g place number HeadStore record
    { gc_makes = refl; vm_not = refl; vm_same = λ v g. refl; gc_own = λ g v w. refl }
    (λ s is. record { vm = tt; gc = subst (λ (x : Gc). GcMay x HeadStore) (sym is) may; both = tt })
    (λ s is. ap (λ (x : Gc). head_stored s.words x x.taking) is
    ∙ (ap (λ (x : Option Half). head_stored s.words g x) takes
    ∙ (λ j. slice_set s.words (sym at j) (sym is_number j))))

-- ---- both seats joined

pub both_hand_step : (v : Vm) (g : Gc) (roots : List ℕ) → values_stand v.objects roots ≡ true
    → BothStep v g 0 (λ n. n) (λ n. HandOver n roots)
both_hand_step v g roots stand = record {
  both = λ n. record { vm_makes = refl; gc_makes = refl };
  may = λ s n vm gc at. record {
    vm = subst (λ (w : Vm). values_stand w.objects roots ≡ true)
        (sym vm) stand;
    gc = tt;
    both = at;
  };
  writes = λ s n vm gc at. same_word s.words 0 n at;
}

pub both_flip_step : (v : Vm) (g : Gc) (roots : List ℕ) (m : ℕ) → VmMay v (CycleStore roots)
    → GcMay g (CycleStore roots) → g.taken ≡ v.logs → m ≡ g.cycle + 1 → BothStep v g 0 (λ _. m)
    (λ _. CycleStore roots)
both_flip_step v g roots m vm_may gc_may drained is = record {
  both = λ n. record { vm_makes = refl; gc_makes = refl };
  may = λ s n vm gc found. record {
    vm = subst (λ (w : Vm). VmMay w (CycleStore roots)) (sym vm) vm_may;
    gc = subst (λ (w : Gc). GcMay w (CycleStore roots)) (sym gc) gc_may;
    both = ap (λ (w : Gc). w.taken) gc ∙ (drained ∙ ap (λ (w : Vm). w.logs) (sym vm));
  };
  writes = λ s n vm gc found. ap (λ (k : ℕ). slice_set s.words 0 k) (ap (λ (w : Gc). w.cycle + 1) gc
      ∙ sym is);
}
