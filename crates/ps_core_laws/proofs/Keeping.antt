-- What every run keeps: what it is, the start, and the loads.
use Rattle.std.proofs.Common.{◌^◌, ◌≡◌, ◌⊎◌, ℕ, suc, ◌+◌, ◌<◌, ◌≤◌, Bool, true, false, nat_eq, ◌||◌, List, [], ◌∷◌}
use Rattle.std.proofs.Common.{length, Some, None, Option, refl, sym, ap, ◌∙◌, inl, inr, subst, arith, drop, is_some}
use Rattle.std.proofs.Common.{map}
use Rattle.std.specs.Prelude.{if◌then◌else◌, slice_index, slice_get, replicate, MatchOption}
use Rattle.ps_record.specs.declared.Record.{Record}
use Rattle.ps_record.specs.Format.{ring_place, read_record}
use Rattle.ps_core_machine.specs.declared.events.Event.TheVariants.{VmLoad, GcLoad, TakeLoad, CopyLoad, HandOver}
use Rattle.ps_core_machine.specs.declared.events.Object.{Object}
use Rattle.ps_core_machine.specs.declared.events.Pair.{Pair}
use Rattle.ps_core_machine.specs.declared.events.Written.{Written}
use Rattle.ps_core_machine.specs.declared.events.Half.{Half}
use Rattle.ps_core_machine.specs.declared.events.Seen.{Seen}
use Rattle.ps_core_machine.specs.Objects.{among, object_at, pair_of, seen_at, log_of, holds_values, address_named}
use Rattle.ps_core_machine.specs.Objects.{addresses_named, is_next, with_load, half_of}
use Rattle.ps_core_machine.specs.Steps.{State, start, happens, table_size, space_base, other_base, is_open, taken_up}
use Rattle.ps_core_machine.specs.Steps.{header_of}
use Rattle.ps_core_machine.specs.Bounds.{IsShort}
use Rattle.ps_core_machine.specs.Conditions.{Permitted}
use Rattle.ps_core_laws.specs.Laws.{AreSingle, ahead_of}
use Rattle.ps_core_laws.proofs.Heap as heap
use Rattle.ps_core_laws.proofs.Heap.{named_by, acted}
use Rattle.ps_core_laws.proofs.HeapGood.{Good as HeapGood, begins as heap_begins}
use Rattle.ps_core_laws.proofs.HeapKept.{keeps as heap_keeps}
use Rattle.ps_core_laws.proofs.HeapTests.{bool_cases, at_number, eq_true}
use Rattle.ps_core_laws.proofs.Lists.{drop_get}
use Rattle.ps_core_laws.proofs.Bases.{spaces_wide, spaces_far, some_match, drop_all}
use Rattle.ps_core_laws.proofs.Rings.{ControlIs, RingsAre, LogsAre, control_starts, rings_start, logs_start}
use Rattle.ps_core_laws.proofs.Taken.{logs_seen, found, logs_taking, logs_loaded}
use Rattle.ps_core_laws.proofs.Shown.{SpaceIs}
use Rattle.ps_core_laws.proofs.Copies.{CopiesAre, copies_start}
use Rattle.ps_core_laws.proofs.Lookups.{object_at-address, among-append}
use Rattle.ps_core_laws.proofs.Views.{value_of, word_of, size_in, word_in, replica_in, load_of, replica_by, view}
use Rattle.ps_core_laws.proofs.Views.{heap_ext, values_stand-are, word_of-named, values_named}

-- ---- what is kept

pub record Counted (space vm_space gc_space vm_cycle gc_cycle vm_epoch gc_epoch : ℕ)
    (written : Option Written) : Type 0 where
  pub vm_space_is : vm_space ≡ space
  pub gc_space_is : gc_space ≡ space
  pub cycles : vm_cycle ≡ gc_cycle
  pub epochs : (vm_epoch ≡ vm_cycle) ⊎ (vm_epoch ≡ vm_cycle + 1)
  pub epoch_seen : gc_epoch ≤ vm_epoch
  pub quiet : nat_eq vm_epoch (vm_cycle + 1) ≡ false → written ≡ None
  pub range : IsShort written
  pub small : vm_epoch < 2 ^ 32

-- the original has the replica's first header, and as many fields
pub record IsMatch (p : Pair) (o : Object) : Type 0 where
  pub header : o.header ≡ p.header
  pub fields : length o.fields ≡ length p.fields

abbrev pub Matches : List Object → List Pair → Type 0
Matches os ps = (a : ℕ) (p : Pair) → pair_of ps a ≡ Some p → MatchOption (object_at os a) ⊥ (IsMatch p)

abbrev pub HasHeader : ℕ → Object → Type 0
HasHeader h o = o.header ≡ h

abbrev pub Headed : List Object → List Seen → Type 0
Headed os headers = (a h : ℕ) → seen_at headers a ≡ Some h → MatchOption (object_at os a) ⊥ (HasHeader h)

pub record Good (space : ℕ) (s : State) : Type 0 where
  pub counted : Counted space s.vm.space s.gc.space s.vm.cycle s.gc.cycle s.vm.epoch s.gc.epoch s.vm.written
  pub control : ControlIs s.words space s.vm.cycle s.vm.epoch s.gc.taken
  pub rings : RingsAre s.words s.vm.logs
  pub logs : LogsAre s.vm.heads s.vm.logs s.gc.taken s.gc.taking
  pub current : SpaceIs s.words s.vm.objects s.vm.end s.vm.making (space_base space s.vm.cycle)
      (space_base space s.vm.cycle + space)
  pub other : CopiesAre s.words s.gc.pairs s.gc.placed (other_base space s.vm.cycle)
      (other_base space s.vm.cycle + space)
  pub births : s.vm.next_birth ≤ 2 ^ 40
  pub single : AreSingle s.gc.pairs
  pub matches : Matches s.vm.objects s.gc.pairs
  pub headers : Headed s.vm.objects s.gc.headers
  pub heap : HeapGood (view s)

-- ---- the start

pub begins : (space : ℕ) → Good space (start space)
begins space = record {
  counted =
      record {
        vm_space_is = refl;
        gc_space_is = refl;
        cycles = refl;
        epochs = inl refl;
        epoch_seen = omega arith;
        quiet = λ e. refl;
        range = tt;
        small = omega arith;
      };
  control = control_starts space;
  rings = rings_start space;
  logs = logs_start;
  current = record {
    shown = λ a o e. absurd (cc);
    apart = λ a b o p e f ne. absurd (cc);
    within = λ a o e. absurd (cc);
    sized = λ a o e. absurd (cc);
    low_end = let b = bases_start space in omega arith;
    end_high = let b = bases_start space in omega arith;
    cleared = λ m lo hi. absurd (omega arith);
  };
  other = copies_start _ _ _;
  births = omega arith;
  single = tt;
  matches = λ a p e. absurd (cc);
  headers = λ a h e. absurd (cc);
  heap = subst HeapGood
      (heap_ext heap.empty (view (start space)) refl (λ a. refl) (λ a. refl) (λ a i. refl) (λ a. refl) (λ a i. refl)
      (λ slot. sym (ahead_start slot)) refl (λ a. refl) (λ c. refl) (λ a i. refl) (λ a i. refl) refl (λ a. refl))
      heap_begins;
}
  where
    bases_start : (space : ℕ) → space_base space 0 ≡ 8256
    bases_start space = omega arith

    ahead_start : (slot : ℕ) → drop (length (log_of (replicate 32 []) slot) + 0) (log_of (replicate 32 []) slot) ≡ []
    ahead_start slot = drop_all (log_of (replicate 32 []) slot) (log_of (replicate 32 []) slot) 0 refl refl

-- ---- the events

module _ (space : ℕ) (s : State) (h : Good space s) where
  pub wide : length s.words ≡ table_size space
  wide = h.control.wide

  pub high_wide : space_base space s.vm.cycle + space ≤ length s.words
  high_wide = let w = h.control.wide in let b = (spaces_wide space s.vm.cycle).0 in omega arith

  pub other_wide : other_base space s.vm.cycle + space ≤ length s.words
  other_wide = let w = h.control.wide in let b = (spaces_wide space s.vm.cycle).1 in omega arith

  -- a word below the spaces is in neither
  pub low_current : (j : ℕ) → j < 8256 → (j < space_base space s.vm.cycle) ⊎ (space_base space s.vm.cycle + space ≤ j)
  low_current j lt = let b = (spaces_far space s.vm.cycle).0 in inl (omega arith)

  pub low_other : (j : ℕ) → j < 8256 → (j < other_base space s.vm.cycle) ⊎ (other_base space s.vm.cycle + space ≤ j)
  low_other j lt = let b = (spaces_far space s.vm.cycle).1 in inl (omega arith)

  -- ---- loads

  pub vm_loads : (place word : ℕ) → Permitted s (VmLoad place word) → Good space (happens s (VmLoad place word))
  vm_loads place word p = record {
    counted = h.counted;
    control = h.control;
    rings = h.rings;
    logs = logs_seen s.words space s.vm.cycle s.vm.epoch place word s.vm.heads s.vm.logs s.gc.taken s.gc.taking
        h.control h.logs p.both;
    current = h.current;
    other = h.other;
    births = h.births;
    single = h.single;
    matches = h.matches;
    headers = h.headers;
    heap = h.heap;
  }

  -- the first header of an object that stands is its header
  header_found : (place word : ℕ) → among s.gc.known place ≡ true → slice_index s.words place ≡ word
      → MatchOption (object_at s.vm.objects place) ⊥ (HasHeader word)
  header_found place word known is = go (object_at s.vm.objects place) refl (h.heap.known place known).0
    where
      go : (x : Option Object) → object_at s.vm.objects place ≡ x → is_some x ≡ true → MatchOption x ⊥ (HasHeader word)
      go None e st = absurd (let b : false ≡ true = st in cc)
      go (Some o) e st = sym (h.current.shown place o e).head
          ∙ (ap (slice_index s.words) (object_at-address s.vm.objects place o e) ∙ is)

  pub gc_loads : (place word : ℕ) → Permitted s (GcLoad place word) → Good space (happens s (GcLoad place word))
  gc_loads place word p = record {
    counted = record {
      vm_space_is = h.counted.vm_space_is;
      gc_space_is = h.counted.gc_space_is;
      cycles = h.counted.cycles;
      epochs = h.counted.epochs;
      epoch_seen = elim (at_number 1 place) [
        | inl is ↦ let t : nat_eq place 1 ≡ true = eq_true place 1 is in
            let e : word ≡ s.vm.epoch = sym p.both ∙ (ap (slice_index s.words) is ∙ h.control.epoch_word) in
            rw t (omega arith)
        | inr ne ↦ rw ne h.counted.epoch_seen
      ];
      quiet = h.counted.quiet;
      range = h.counted.range;
      small = h.counted.small;
    };
    control = h.control;
    rings = h.rings;
    logs = h.logs;
    current = h.current;
    other = h.other;
    births = h.births;
    single = h.single;
    matches = h.matches;
    headers = elim (bool_cases (among s.gc.known place)) [
      | inr f ↦ rw f h.headers
      | inl t ↦ rw t (λ a w e. elim (at_number place a) [
        | inl is ↦ let e' = rw (eq_true a place is) at e in let same : word ≡ w = cc in
            subst (λ (z : ℕ). MatchOption (object_at s.vm.objects z) ⊥ (HasHeader w)) (sym is)
            (subst (λ (z : ℕ). MatchOption (object_at s.vm.objects place) ⊥ (HasHeader z)) same
            (header_found place word t p.both))
        | inr ne ↦ let e' = rw ne at e in h.headers a w e'
      ])
    ];
    heap = h.heap;
  }

  with_taking : Option Half → State
  with_taking t = record s { gc = record s.gc { taking = t } }

  take_loads_at : (slot word : ℕ) (o : Option Record) → slot < 32 → s.gc.taking ≡ None
      → slice_index s.words (ring_place slot (length (log_of s.gc.taken slot))) ≡ word
      → read_record (length (log_of s.gc.taken slot)) word ≡ o → HeapGood (view (with_taking (taken_up slot o)))
  unfolding with_taking
  take_loads_at slot word None lt idle is e =
      subst (λ (t : Option Half). HeapGood (view (record s { gc = record s.gc { taking = t } }))) idle h.heap
  take_loads_at slot word (Some r) lt idle is e =
      let k : ℕ = length (log_of s.gc.taken slot) in
      let next : slice_get (log_of s.vm.logs slot) k ≡ Some r =
      found s.words s.vm.heads s.vm.logs s.gc.taken s.gc.taking slot word h.rings h.logs lt is r e in
      let none : (t : ℕ) → half_of s.gc.taking t ≡ 0 = λ t. ap (λ (x : Option Half). half_of x t) idle in
      let begins : ahead_of s slot ≡ r ∷ drop (suc k) (log_of s.vm.logs slot) =
      ap (λ (n : ℕ). drop n (log_of s.vm.logs slot)) (let z = none slot in
      let e : k + half_of s.gc.taking slot ≡ k = omega arith in e) ∙ drop_get (log_of s.vm.logs slot) k r next in
      let now : State = record s { gc = record s.gc { taking = taken_up slot (Some r) } } in
      subst HeapGood
      (heap_ext (acted (view s) (heap.Act.Take slot)) (view now) refl (λ a. refl) (λ a. refl) (λ a i. refl) (λ a. refl)
      (λ a i. refl)
      (λ t. elim (at_number slot t) [
        | inl same ↦ let u = eq_true t slot same in
            rw u (ap heap.rest begins ∙ ap (λ (n : ℕ). drop n (log_of s.vm.logs slot)) (let e : suc k ≡ k + 1 =
            omega arith in e)
            ∙ ap (λ (z : ℕ). drop (length (log_of s.gc.taken z) + 1) (log_of s.vm.logs z)) (sym same))
        | inr ne ↦ rw ne (ap (λ (n : ℕ). drop (length (log_of s.gc.taken t) + n) (log_of s.vm.logs t)) (none t))
      ])
      (ap (heap.first_half slot) begins) (λ a. refl) (λ c. refl) (λ a i. refl) (λ a i. refl) refl (λ a. refl))
      (heap_keeps (view s) (heap.Act.Take slot) h.heap (
        idle,
        λ empty. let bad : r ∷ drop (suc k) (log_of s.vm.logs slot) ≡ [] = sym begins ∙ empty in cc,
      ))

  pub take_loads : (slot word : ℕ) → Permitted s (TakeLoad slot word) → Good space (happens s (TakeLoad slot word))
  unfolding with_taking
  take_loads slot word p = record {
    counted = h.counted;
    control = h.control;
    rings = h.rings;
    logs = logs_taking s.vm.heads s.vm.logs s.gc.taken s.gc.taking slot
        (read_record (length (log_of s.gc.taken slot)) word) h.logs p.gc.0
        (found s.words s.vm.heads s.vm.logs s.gc.taken s.gc.taking slot word h.rings h.logs p.gc.0 p.both);
    current = h.current;
    other = h.other;
    births = h.births;
    single = h.single;
    matches = h.matches;
    headers = h.headers;
    heap = take_loads_at slot word (read_record (length (log_of s.gc.taken slot)) word) p.gc.0 p.gc.1 p.both refl;
  }

  -- the object of a pair
  pub original : (a : ℕ) (p : Pair) → pair_of s.gc.pairs a ≡ Some p
      → (o : Object) × (object_at s.vm.objects a ≡ Some o) × IsMatch p o
  original a p at = some_match (IsMatch p) (object_at s.vm.objects a) (h.matches a p at)

  pub copy_loads : (a i word : ℕ) → Permitted s (CopyLoad a i word) → Good space (happens s (CopyLoad a i word))
  copy_loads a i word p =
      let m = some_match (λ (q : Pair). i < length q.fields) (pair_of s.gc.pairs a) p.gc.1 in
      let q : Pair = m.0 in
      let at : pair_of s.gc.pairs a ≡ Some q = m.1 in
      let o = original a q at in
      let lt : i < length o.0.fields = let e = o.2.fields in let l = m.2 in omega arith in
      let is : word ≡ slice_index o.0.fields i =
      sym p.both ∙ (ap (λ (z : ℕ). slice_index s.words (z + 2 + i)) (sym (object_at-address s.vm.objects a o.0 o.1))
      ∙ (h.current.shown a o.0 o.1).fields i lt) in
      let header : header_of (pair_of s.gc.pairs a) ≡ o.0.header = ap header_of at ∙ sym o.2.header in
      let field_is : word_in (object_at s.vm.objects a) i ≡ word_of (header_of (pair_of s.gc.pairs a)) word =
      ap (λ (x : Option Object). word_in x i) o.1
      ∙ (ap (word_of o.0.header) (sym is) ∙ ap (λ (z : ℕ). word_of z word) (sym header)) in
      record {
        counted = h.counted;
        control = h.control;
        rings = h.rings;
        logs = logs_loaded s.vm.heads s.vm.logs s.gc.taken s.gc.taking (with_load s.gc.taking a i)
            (loaded_from s.gc.taking) h.logs;
        current = h.current;
        other = h.other;
        births = h.births;
        single = h.single;
        matches = h.matches;
        headers = h.headers;
        heap = subst HeapGood
            (heap_ext (acted (view s) (heap.Act.Copy a i)) (view (happens s (CopyLoad a i word))) refl (λ b. refl)
            (λ b. refl) (λ b j. refl) (λ b. refl) (λ b j. refl)
            (λ slot. ap (λ (n : ℕ). drop (length (log_of s.gc.taken slot) + n) (log_of s.vm.logs slot))
            (sym (half_kept s.gc.taking slot)))
            refl (λ b. refl) (λ c. refl) (λ b j. refl) (λ b j. refl)
            (ap (λ (w : heap.Word). Some record { a = a; i = i; w = w }) field_is)
            (λ b. ap (λ (w : heap.Word). named_by w b || among s.gc.known b) field_is
            ∙ (ap (λ (x : Bool). x || among s.gc.known b) (word_of-named (header_of (pair_of s.gc.pairs a)) word b)
            ∙ sym (among-append (if holds_values (header_of (pair_of s.gc.pairs a)) then address_named word
            else []) s.gc.known b))))
            (heap_keeps (view s) (heap.Act.Copy a i) h.heap (
              ap (load_of s.gc.pairs) p.gc.0,
              (λ none. let some : replica_by s.gc.pairs a ≡ Some q.replica = ap replica_in at in
                  let bad : None ≡ Some q.replica = sym none ∙ some in cc),
              subst (λ (x : Option Object). i < size_in x) (sym o.1) lt,
            ));
      }
    where
      half_kept : (t : Option Half) (slot : ℕ) → half_of (with_load t a i) slot ≡ half_of t slot
      half_kept None slot = refl
      half_kept (Some q) slot = refl

      loaded_from : (t : Option Half) (q : Half) → with_load t a i ≡ Some q
          → (h : Half) × (t ≡ Some h) × (h.slot ≡ q.slot) × (h.what ≡ q.what)
      loaded_from None q e = absurd (cc)
      loaded_from (Some r) q e =
          let same : record r { loaded = if is_next r.what r.loaded a i then r.loaded + 1 else r.loaded } ≡ q = cc in
          (r, refl, ap (λ (z : Half). z.slot) same, ap (λ (z : Half). z.what) same)

  pub hands_over : (word : ℕ) (roots : List ℕ) → Permitted s (HandOver word roots)
      → Good space (happens s (HandOver word roots))
  hands_over word roots p = record {
    counted = record {
      vm_space_is = h.counted.vm_space_is;
      gc_space_is = h.counted.gc_space_is;
      cycles = h.counted.cycles;
      epochs = h.counted.epochs;
      epoch_seen = omega arith;
      quiet = h.counted.quiet;
      range = h.counted.range;
      small = h.counted.small;
    };
    control = h.control;
    rings = h.rings;
    logs = h.logs;
    current = h.current;
    other = h.other;
    births = h.births;
    single = h.single;
    matches = h.matches;
    headers = h.headers;
    heap = subst HeapGood
        (heap_ext (acted (view s) (heap.Act.Hand (map value_of roots))) (view (happens s (HandOver word roots))) refl
        (λ b. refl) (λ b. refl) (λ b j. refl) (λ b. refl) (λ b j. refl) (λ slot. refl)
        refl (λ b. refl) (λ c. refl) (λ b j. refl) (λ b j. refl) refl
        (λ b. elim (bool_cases (is_open s.vm)) [
          | inl t ↦ rw t (ap (λ (x : Bool). x || among s.gc.known b) (values_named roots b)
              ∙ sym (among-append (addresses_named roots) s.gc.known b))
          | inr f ↦ rw f refl
        ]))
        (heap_keeps (view s) (heap.Act.Hand (map value_of roots)) h.heap (values_stand-are s.vm.objects roots p.vm));
  }
