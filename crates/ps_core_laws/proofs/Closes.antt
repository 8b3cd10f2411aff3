-- How many closes a log has, how long it is, and which epoch the collector knows.
use Rattle.std.proofs.Common.{◌≡◌, ◌≢◌, ◌^◌, ℕ, ◌+◌, ◌<◌, ◌≤◌, true, nat_eq, List, [], ◌∷◌, ◌++◌, length, refl, sym, ap}
use Rattle.std.proofs.Common.{◌∙◌, inl, inr, subst, arith, cond, length-append}
use Rattle.std.specs.Prelude.{if◌then◌else◌, slice_set, replicate}
use Rattle.std.proofs.lemmas.List.{get_or-replicate}
use Rattle.std.proofs.lemmas.List.Sums.{sum_by_push}
use native.Mathlib.Decide.{ℕ_discrete}
use Rattle.ps_record.specs.declared.Record.{Record}
use Rattle.ps_record.specs.declared.Record.TheVariants.{Place, Close}
use Rattle.ps_core_machine.specs.declared.events.Event.{Event}
use Rattle.ps_core_machine.specs.declared.events.Event.TheVariants.{VmLoad, GcLoad, TakeLoad, CopyLoad, HandOver}
use Rattle.ps_core_machine.specs.declared.events.Event.TheVariants.{ClearLoad, ClearStore, HeaderStore, FieldStore}
use Rattle.ps_core_machine.specs.declared.events.Event.TheVariants.{RecordStore, EpochStore, ReplicaHeaderStore}
use Rattle.ps_core_machine.specs.declared.events.Event.TheVariants.{ReplicaFieldStore, ForwardStore, HeadStore}
use Rattle.ps_core_machine.specs.declared.events.Event.TheVariants.{CycleStore}
use Rattle.ps_core_machine.specs.declared.events.Vm.{Vm}
use Rattle.ps_core_machine.specs.Objects.{among, log_of, with_field, closes, is_close}
use Rattle.ps_core_machine.specs.Steps.{State, happens, field_stored}
use Rattle.ps_core_machine.specs.Conditions.{Permitted, CanLog}
use Rattle.ps_core_laws.specs.Kept.{ends_closed}
use Rattle.ps_core_laws.specs.Runs.{run, IsRun, IsSpace}
use Rattle.ps_core_laws.proofs.HeapTests.{bool_cases, at_number, eq_true, number_is}
use Rattle.ps_core_laws.proofs.Rings.{log_of-same, log_of-other}
use Rattle.ps_core_laws.proofs.Keeping.{Good}
use Rattle.ps_core_laws.proofs.Kept.{good}

-- a store to a field changes the objects, what is new and what is written, and notes itself
pub stored_only : (v : Vm) (a i w : ℕ) → field_stored v a i w
    ≡ record v {
      objects = with_field v.objects a i w;
      stored = true;
      fresh =
          (field_stored v a i w).fresh;
      written = (field_stored v a i w).written;
    }
stored_only v a i w = elim (bool_cases (among v.fresh a)) [ inl t ↦ rw t refl | inr f ↦ rw f refl ]

pub record Closes (logs : List (List Record)) (cycle epoch gc_cycle gc_epoch : ℕ) : Type 0 where
  pub low : (slot : ℕ) → slot < 32 → cycle ≤ closes (log_of logs slot)
  pub high : (slot : ℕ) → slot < 32 → closes (log_of logs slot) ≤ epoch
  pub short : (slot : ℕ) → slot < 32
      → length (log_of logs slot) ≤ 2 ^ 63 + closes (log_of logs slot)
  pub shut : (slot : ℕ) → slot < 32 → cycle < epoch → closes (log_of logs slot) ≡ epoch
      → ends_closed (log_of logs slot) ≡ true
  pub seen : gc_cycle ≤ gc_epoch

abbrev pub ClosesOf : State → Type 0
ClosesOf s = Closes s.vm.logs s.vm.cycle s.vm.epoch s.gc.cycle s.gc.epoch

closes_push : (log : List Record) (r : Record)
    → closes (log ++ r ∷ []) ≡ closes log + cond (is_close r) 1 0
closes_push log r = sum_by_push (λ x. cond (is_close x) 1 0) log r

-- a close is logged where it was still to come
below : (v : Vm) (slot : ℕ) (r : Record) → CanLog v slot r → closes (log_of v.logs slot) ≤ v.epoch
    → closes (log_of v.logs slot) + cond (is_close r) 1 0 ≤ v.epoch
below v slot (Place a first count) p h = omega arith
below v slot Close p h = elim (ℕ_discrete (closes (log_of v.logs slot)) v.epoch)
    [ yes e ↦ absurd (p.not_closed e) | no ne ↦ omega arith ]

-- a place is logged where there are fewer than may be, and a close always
still_short : (v : Vm) (slot : ℕ) (r : Record) → CanLog v slot r
    → length (log_of v.logs slot) ≤ 2 ^ 63 + closes (log_of v.logs slot)
    → length (log_of v.logs slot) + 1
    ≤ 2 ^ 63 + (closes (log_of v.logs slot) + cond (is_close r) 1 0)
still_short v slot (Place a first count) p h = let few = p.short in omega arith
still_short v slot Close p h = omega arith

ends_push : (log : List Record) (r : Record) → ends_closed (log ++ r ∷ []) ≡ is_close r
ends_push [] r = refl
ends_push (x ∷ []) r = refl
ends_push (x ∷ y ∷ rest) r = ends_push (y ∷ rest) r

-- what closes a log is a close
shut_by : (v : Vm) (slot : ℕ) (r : Record) → CanLog v slot r
    → closes (log_of v.logs slot) + cond (is_close r) 1 0 ≡ v.epoch → is_close r ≡ true
shut_by v slot (Place a first count) p h = absurd (p.not_closed (omega arith))
shut_by v slot Close p h = refl

module _ (space : ℕ) (s : State) (h : Good space s) (k : ClosesOf s) where
  logs_record : (slot : ℕ) (r : Record) → Permitted s (RecordStore slot r)
      → ClosesOf (happens s (RecordStore slot r))
  logs_record slot r p =
      let log : List Record = log_of s.vm.logs slot in
      let wide = h.logs.wide_logs in
      let in_range = p.vm.in_range in
      let same : log_of (slice_set s.vm.logs slot (log ++ r ∷ [])) slot ≡ log ++ r ∷ [] =
      log_of-same s.vm.logs slot (log ++ r ∷ []) (omega arith) in
      let other : (t : ℕ) → t ≢ slot
      → log_of (slice_set s.vm.logs slot (log ++ r ∷ [])) t ≡ log_of s.vm.logs t =
      λ t ne. log_of-other s.vm.logs slot t (log ++ r ∷ []) ne in
      let more = closes_push log r in
      let longer = length-append log (r ∷ []) in
      let low = k.low slot in_range in
      let high = below s.vm slot r p.vm (k.high slot in_range) in
      let short = still_short s.vm slot r p.vm (k.short slot in_range) in
      record {
        low = λ t lt. elim (ℕ_discrete t slot) [
          | yes is ↦ subst (λ (z : ℕ). s.vm.cycle ≤ closes
              (log_of (slice_set s.vm.logs slot (log ++ r ∷ [])) z)) (sym is)
              (subst (λ (l : List Record). s.vm.cycle ≤ closes l) (sym same) (omega arith))
          | no ne ↦ subst (λ (l : List Record). s.vm.cycle ≤ closes l) (sym (other t ne))
              (k.low t lt)
        ];
        high = λ t lt. elim (ℕ_discrete t slot) [
          | yes is ↦ subst (λ (z : ℕ). closes (log_of (slice_set s.vm.logs slot (log ++ r ∷ [])) z)
              ≤ s.vm.epoch) (sym is) (subst (λ (l : List Record). closes l ≤ s.vm.epoch) (sym same)
              (omega arith))
          | no ne ↦ subst (λ (l : List Record). closes l ≤ s.vm.epoch) (sym (other t ne))
              (k.high t lt)
        ];
        short = λ t lt. elim (ℕ_discrete t slot) [
          | yes is ↦ subst (λ (z : ℕ). length (log_of (slice_set s.vm.logs slot (log ++ r ∷ [])) z)
              ≤ 2 ^ 63 + closes (log_of (slice_set s.vm.logs slot (log ++ r ∷ [])) z)) (sym is)
              (subst (λ (l : List Record). length l ≤ 2 ^ 63 + closes l) (sym same) (omega arith))
          | no ne ↦ subst (λ (l : List Record). length l ≤ 2 ^ 63 + closes l) (sym (other t ne))
              (k.short t lt)
        ];
        shut = λ t lt opened. elim (ℕ_discrete t slot) [
          | yes is ↦ subst (λ (z : ℕ).
              closes (log_of (slice_set s.vm.logs slot (log ++ r ∷ [])) z) ≡ s.vm.epoch
              → ends_closed (log_of (slice_set s.vm.logs slot (log ++ r ∷ [])) z) ≡ true) (sym is)
              (subst (λ (l : List Record). closes l ≡ s.vm.epoch → ends_closed l ≡ true) (sym same)
              (λ full. ends_push log r ∙ shut_by s.vm slot r p.vm (sym more ∙ full)))
          | no ne ↦ subst (λ (l : List Record). closes l ≡ s.vm.epoch → ends_closed l ≡ true)
              (sym (other t ne)) (k.shut t lt opened)
        ];
        seen = k.seen;
      }

  gc_loads : (place word : ℕ) → Permitted s (GcLoad place word)
      → ClosesOf (happens s (GcLoad place word))
  gc_loads place word p = record {
    low = k.low;
    high = k.high;
    short = k.short;
    shut = k.shut;
    seen = elim (at_number 1 place) [
      | inl is ↦
          let t : nat_eq place 1 ≡ true = eq_true place 1 is in
          let e : word ≡ s.vm.epoch = sym p.both
          ∙ (ap (Rattle.std.specs.Prelude.slice_index s.words) is ∙ h.control.epoch_word) in
          let low = epoch_low in let c = h.counted.cycles in rw t (omega arith)
      | inr ne ↦ rw ne k.seen
    ];
  }
    where
      epoch_low : s.vm.cycle ≤ s.vm.epoch
      epoch_low = elim h.counted.epochs as (λ _. s.vm.cycle ≤ s.vm.epoch)
          [ inl e ↦ omega arith | inr e ↦ omega arith ]

  keeps : (e : Event) → Permitted s e → ClosesOf (happens s e)
  keeps (VmLoad place word) p = k
  keeps (GcLoad place word) p = gc_loads place word p
  keeps (TakeLoad slot word) p = k
  keeps (CopyLoad a i word) p = k
  keeps (HandOver word roots) p = record {
    low = k.low;
    high = k.high;
    short = k.short;
    shut = k.shut;
    seen = let c = h.counted.cycles in
        elim h.counted.epochs as (λ _. s.gc.cycle ≤ s.vm.epoch)
        [ inl e ↦ omega arith | inr e ↦ omega arith ];
  }
  keeps ClearLoad p = k
  keeps ClearStore p = k
  keeps (HeaderStore header) p = k
  keeps (FieldStore a i w) p =
      subst (λ (v : Vm). Closes v.logs v.cycle v.epoch s.gc.cycle s.gc.epoch)
      (sym (stored_only s.vm a i w)) k
  keeps (RecordStore slot r) p = logs_record slot r p
  keeps EpochStore p = record {
    low = k.low;
    high = λ slot lt. let x = k.high slot lt in omega arith;
    short =
        k.short;
    shut = λ slot lt opened full. let x = k.high slot lt in absurd (omega arith);
    seen = k.seen;
  }
  keeps (ReplicaHeaderStore place w) p = k
  keeps (ReplicaFieldStore scans) p = k
  keeps (ForwardStore a c) p = k
  keeps HeadStore p = k
  keeps (CycleStore roots) p =
      let opened = number_is s.vm.epoch (s.vm.cycle + 1) p.vm.0 in
      let c = h.counted.cycles in
      record {
        low = λ slot lt. let x = p.vm.1 slot lt in omega arith;
        high = k.high;
        short =
            k.short;
        shut = λ slot lt still full. absurd (omega arith);
        seen = omega arith;
      }

pub closes_kept : (space : ℕ) → IsSpace space → (events : List Event) → IsRun space events
    → ClosesOf (run space events)
closes_kept space size [] h = record {
  low = λ slot lt. omega arith;
  high = λ slot lt. let e : log_of (replicate 32 []) slot ≡ [] =
      get_or-replicate 32 slot [] [] lt in
      subst (λ (l : List Record). closes l ≤ 0) (sym e) (omega arith);
  short = λ slot lt. let e : log_of (replicate 32 []) slot ≡ [] =
      get_or-replicate 32 slot [] [] lt in
      subst (λ (l : List Record). length l ≤ 2 ^ 63 + closes l) (sym e) (omega arith);
  shut = λ slot lt opened. absurd (omega arith);
  seen = omega arith;
}
closes_kept space size (e ∷ es) h =
    keeps space (run space es) (good space size es h.0) (closes_kept space size es h.0) e h.1
