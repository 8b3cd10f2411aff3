-- What every run keeps: the stores of the mutator.
use Rattle.std.proofs.Common.{◌^◌, ◌≡◌, ◌⊎◌, ℕ, ◌+◌, ◌<◌, ◌≤◌, Bool, true, false, not, nat_eq, ◌&&◌, List, [], ◌∷◌}
use Rattle.std.proofs.Common.{◌++◌, length, Some, None, Option, refl, sym, ap, ◌∙◌, inl, inr, subst, arith, drop}
use Rattle.std.proofs.Common.{length-append, length-set, is_some}
use Rattle.std.specs.Prelude.{if◌then◌else◌, slice_set, replicate, MatchOption}
use Rattle.std.specs.Option.{option_map}
use Rattle.std.proofs.lemmas.List.{get_or-set_same, get_or-set_other, length-replicate, drop-append-le}
use Rattle.std.proofs.lemmas.Option.{slice_get_within}
use Rattle.ps_word.specs.Headers.{fields_in}
use Rattle.ps_record.specs.declared.Record.{Record}
use Rattle.ps_record.specs.declared.Record.TheVariants.{Place, Close}
use Rattle.ps_record.specs.Format.{ring_place, packed}
use Rattle.ps_core_machine.specs.declared.events.Event.TheVariants.{ClearLoad, ClearStore, HeaderStore, FieldStore}
use Rattle.ps_core_machine.specs.declared.events.Event.TheVariants.{RecordStore, EpochStore}
use Rattle.ps_core_machine.specs.declared.events.Object.{Object}
use Rattle.ps_core_machine.specs.declared.events.Pair.{Pair}
use Rattle.ps_core_machine.specs.declared.events.Written.{Written}
use Rattle.ps_core_machine.specs.declared.events.Half.{Half}
use Rattle.ps_core_machine.specs.declared.events.Vm.{Vm}
use Rattle.ps_core_machine.specs.Objects.{among, object_at, log_of, holds_values, with_field, word_stands, names}
use Rattle.ps_core_machine.specs.Objects.{is_written, widened, half_of, stored}
use Rattle.ps_core_machine.specs.Steps.{State, happens, table_size, space_base, other_base, is_open, next_word}
use Rattle.ps_core_machine.specs.Steps.{field_stored}
use Rattle.ps_core_machine.specs.Bounds.{IsShort}
use Rattle.ps_core_machine.specs.Conditions.{Permitted, CanClear, HasField}
use Rattle.ps_core_laws.proofs.Heap as heap
use Rattle.ps_core_laws.proofs.Heap.{put2, acted}
use Rattle.ps_core_laws.proofs.Heap.Word.{Plain}
use Rattle.ps_core_laws.proofs.HeapGood.{Good as HeapGood}
use Rattle.ps_core_laws.proofs.HeapKept.{keeps as heap_keeps}
use Rattle.ps_core_laws.proofs.HeapTests.{bool_cases, clash, number_not, at_number, eq_true}
use Rattle.ps_core_laws.proofs.Bases.{InTable, in_current, widened-written, logged_all, logged_none, zero_at}
use Rattle.ps_core_laws.proofs.Rings.{ring_from, ring_in, log_of-same, log_of-other, control_off, rings_far, rings_near}
use Rattle.ps_core_laws.proofs.Rings.{rings_more, logs_more}
use Rattle.ps_core_laws.proofs.Shown.{space_off, space_clear, space_cleared, space_made, space_stored, none_at_end}
use Rattle.ps_core_laws.proofs.Copies.{copies_off}
use Rattle.ps_core_laws.proofs.Lookups.{object_at-address, object_at-with_field}
use Rattle.ps_core_laws.proofs.Views.{word_of, size_in, view, heap_ext, word_stands-is, stands-with_field}
use Rattle.ps_core_laws.proofs.Views.{size-with_field, word-with_field}
use Rattle.ps_core_laws.proofs.Keeping as first
use Rattle.ps_core_laws.proofs.Keeping.{Good, HasHeader, IsMatch}

-- a store keeps what is written short
short_widened : (w : Option Written) (a i : ℕ) → i < 2 ^ 20 → IsShort w → IsShort (Some (widened w a i))
short_widened None a i lt h = omega arith
short_widened (Some w) a i lt h = omega arith

module _ (space : ℕ) (s : State) (h : Good space s) where
  wide : length s.words ≡ table_size space
  wide = first.wide space s h

  high_wide : space_base space s.vm.cycle + space ≤ length s.words
  high_wide = first.high_wide space s h

  low_current : (j : ℕ) → j < 8256 → (j < space_base space s.vm.cycle) ⊎ (space_base space s.vm.cycle + space ≤ j)
  low_current = first.low_current space s h

  low_other : (j : ℕ) → j < 8256 → (j < other_base space s.vm.cycle) ⊎ (other_base space s.vm.cycle + space ≤ j)
  low_other = first.low_other space s h

  -- the next word of the object being made is in the space
  next_in : CanClear s.vm → next_word s.vm < space_base space s.vm.cycle + space
  next_in may = subst (λ (z : ℕ). next_word s.vm < space_base z s.vm.cycle + z) h.counted.vm_space_is may

  pub finds_clear : Permitted s ClearLoad → Good space (happens s ClearLoad)
  finds_clear p = record {
    counted = h.counted;
    control = h.control;
    rings = h.rings;
    logs = h.logs;
    current = space_clear s.words s.vm.objects s.vm.end s.vm.making (space_base space s.vm.cycle)
        (space_base space s.vm.cycle + space) (next_in p.vm) p.both h.current;
    other = h.other;
    births = h.births;
    single = h.single;
    matches = h.matches;
    headers = h.headers;
    heap = h.heap;
  }

  pub clears : Permitted s ClearStore → Good space (happens s ClearStore)
  clears p =
      let here = in_current space s.vm.cycle (s.vm.end + 1 + s.vm.making) (let lo = h.current.low_end in
      omega arith) (next_in p.vm) in
      let far = here.far in
      record {
        counted = h.counted;
        control = control_off s.words space s.vm.cycle s.vm.epoch s.gc.taken (s.vm.end + 1 + s.vm.making) 0
            (omega arith) h.control;
        rings = rings_far s.words s.vm.logs (s.vm.end + 1 + s.vm.making) 0 far h.rings;
        logs = h.logs;
        current = space_cleared s.words s.vm.objects s.vm.end s.vm.making (space_base space s.vm.cycle)
            (space_base space s.vm.cycle + space) high_wide
            (next_in p.vm) h.current;
        other = copies_off s.words s.gc.pairs s.gc.placed (other_base space s.vm.cycle)
            (other_base space s.vm.cycle + space) (s.vm.end + 1 + s.vm.making) 0 here.off h.other;
        births = h.births;
        single = h.single;
        matches = h.matches;
        headers = h.headers;
        heap = h.heap;
      }

  -- what is found at an address is found with one more object
  still_found : (P : Object → Type 0) (new : Object) (a : ℕ) → new.address ≡ s.vm.end
      → MatchOption (object_at s.vm.objects a) ⊥ P → MatchOption (object_at (new ∷ s.vm.objects) a) ⊥ P
  still_found P new a at m =
      let none = none_at_end s.words s.vm.objects s.vm.end s.vm.making _ _ h.current in
      elim (at_number new.address a) [
        | inl is ↦ let bad = subst (λ (x : Option Object). MatchOption x ⊥ P) (ap (object_at s.vm.objects) (is ∙ at)
            ∙ none) m in absurd bad
        | inr ne ↦ rw ne m
      ]

  pub makes : (header : ℕ) → Permitted s (HeaderStore header) → Good space (happens s (HeaderStore header))
  makes header p =
      let n : ℕ = fields_in header in
      let made : s.vm.making ≡ n + 1 = p.vm.cleared in
      let last = (h.current.cleared s.vm.making (omega arith) (omega arith)).0 in
      let low = h.current.low_end in
      let here = in_current space s.vm.cycle s.vm.end low (omega arith) in
      let far = here.far in
      let new : Object = record { address = s.vm.end; header = header; fields = replicate n 0 } in
      let none = none_at_end s.words s.vm.objects s.vm.end s.vm.making _ _ h.current in
      record {
        counted = h.counted;
        control = control_off s.words space s.vm.cycle s.vm.epoch s.gc.taken s.vm.end header (omega arith) h.control;
        rings = rings_far s.words s.vm.logs s.vm.end header far h.rings;
        logs = h.logs;
        current = space_made s.words s.vm.objects s.vm.end s.vm.making (space_base space s.vm.cycle)
            (space_base space s.vm.cycle + space) header h.current high_wide made;
        other = copies_off s.words s.gc.pairs s.gc.placed (other_base space s.vm.cycle)
            (other_base space s.vm.cycle + space) s.vm.end header here.off h.other;
        births = births_after p.vm.birth;
        single = h.single;
        matches = λ a q e. still_found (IsMatch q) new a refl (h.matches a q e);
        headers = λ a w e. still_found (HasHeader w) new a refl (h.headers a w e);
        heap = subst HeapGood
            (heap_ext (acted (view s) (heap.Act.Make s.vm.end n)) (view (happens s (HeaderStore header))) refl
            (λ b. elim (bool_cases (nat_eq b s.vm.end)) [ inl t ↦ rw t refl | inr f ↦ rw f refl ])
            (λ b. elim (bool_cases (nat_eq b s.vm.end)) [
              | inl t ↦ rw t (sym (length-replicate {A = ℕ} n 0))
              | inr f ↦ rw f refl
            ])
            (λ b i. elim (bool_cases (nat_eq b s.vm.end)) [
              | inl t ↦ rw t (sym (ap (word_of header) (zero_at n i) ∙ zero_word header))
              | inr f ↦ rw f refl
            ])
            (λ b. elim (bool_cases (nat_eq b s.vm.end)) [ inl t ↦ rw t refl | inr f ↦ rw f refl ])
            (λ b i. refl) (λ slot. refl) refl (λ b. refl) (λ c. refl) (λ b i. refl) (λ b i. refl) refl (λ b. refl))
            (heap_keeps (view s) (heap.Act.Make s.vm.end n) h.heap (ap is_some none));
      }
    where
      births_after : Rattle.ps_core_machine.specs.Conditions.IsBirth s.vm header
          → Rattle.ps_core_machine.specs.Steps.next_birth_after s.vm.next_birth header ≤ 2 ^ 40
      births_after b = elim (bool_cases (nat_eq (Rattle.ps_word.specs.Headers.kind_in header) 11)) [
        | inl t ↦ rw t h.births
        | inr f ↦ let b' = rw f at b in rw f (omega arith)
      ]

      zero_word : (header : ℕ) → word_of header 0 ≡ Plain 0
      zero_word header = elim (bool_cases (holds_values header)) [ inl t ↦ rw t refl | inr f ↦ rw f refl ]

  -- the parts that a store to a field leaves
  module _ (a i w : ℕ) (o : Object) (at : object_at s.vm.objects a ≡ Some o) (lt : i < length o.fields)
      (stands : word_stands s.vm.objects o.header w ≡ true) where
    field_place : InTable space (space_base space s.vm.cycle) (other_base space s.vm.cycle) (a + 2 + i)
    field_place =
        let inside = h.current.within a o at in
        let lo = inside.0 in let hi = inside.1 in let eh = h.current.end_high in
        let is = object_at-address s.vm.objects a o at in
        in_current space s.vm.cycle (a + 2 + i) (omega arith) (omega arith)

    match_kept : (q : Pair) (x : Option Object) → MatchOption x ⊥ (IsMatch q)
        → MatchOption (option_map (stored a i w) x) ⊥ (IsMatch q)
    match_kept q None m = m
    match_kept q (Some r) m = elim (bool_cases (nat_eq a r.address)) [
      | inl t ↦ rw t (record { header = m.header; fields = length-set r.fields i w ∙ m.fields })
      | inr f ↦ rw f m
    ]

    header_kept : (z : ℕ) (x : Option Object) → MatchOption x ⊥ (HasHeader z)
        → MatchOption (option_map (stored a i w) x) ⊥ (HasHeader z)
    header_kept z None m = m
    header_kept z (Some r) m = elim (bool_cases (nat_eq a r.address)) [ inl t ↦ rw t m | inr f ↦ rw f m ]

    -- the state but for what is new and what is written
    stored_state : List ℕ → Option Written → State
    stored_state fresh written =
        record {
          words = slice_set s.words (a + 2 + i) w;
          vm = record s.vm { objects = with_field s.vm.objects a i w; stored = true; fresh = fresh; written = written };
          gc = s.gc;
        }

    stored_good : (fresh : List ℕ) (written : Option Written) → (is_open s.vm ≡ false → written ≡ None)
        → IsShort written → HeapGood (view (stored_state fresh written)) → Good space (stored_state fresh written)
    unfolding stored_state
    stored_good fresh written quiet short heap_good =
        let here = field_place in
        let far = here.far in
        record {
          counted = record {
            vm_space_is = h.counted.vm_space_is;
            gc_space_is = h.counted.gc_space_is;
            cycles = h.counted.cycles;
            epochs = h.counted.epochs;
            epoch_seen = h.counted.epoch_seen;
            quiet = quiet;
            range = short;
            small = h.counted.small;
          };
          control = control_off s.words space s.vm.cycle s.vm.epoch s.gc.taken (a + 2 + i) w (omega arith) h.control;
          rings = rings_far s.words s.vm.logs (a + 2 + i) w far h.rings;
          logs = h.logs;
          current = space_stored s.words s.vm.objects s.vm.end s.vm.making (space_base space s.vm.cycle)
              (space_base space s.vm.cycle + space) a i w o h.current at lt high_wide;
          other = copies_off s.words s.gc.pairs s.gc.placed (other_base space s.vm.cycle)
              (other_base space s.vm.cycle + space) (a + 2 + i) w here.off h.other;
          births = h.births;
          single = h.single;
          matches = λ b q e. subst (λ (x : Option Object). MatchOption x ⊥ (IsMatch q))
              (sym (object_at-with_field s.vm.objects a i w b))
              (match_kept q (object_at s.vm.objects b) (h.matches b q e));
          headers = λ b z e. subst (λ (x : Option Object). MatchOption x ⊥ (HasHeader z))
              (sym (object_at-with_field s.vm.objects a i w b))
              (header_kept z (object_at s.vm.objects b) (h.headers b z e));
          heap = heap_good;
        }

    -- the store as one of the heap
    stored_heap : (fresh : List ℕ) (written : Option Written)
        → ((b : ℕ) → (if among s.vm.fresh a then among s.vm.fresh else heap.nowhere) b ≡ among fresh b)
        → ((b j : ℕ) → (if not (among s.vm.fresh a) && is_open s.vm then put2 (is_written s.vm.written) a i true
        else is_written s.vm.written) b j ≡ is_written written b j)
        → HeapGood (view (stored_state fresh written))
    unfolding stored_state
    stored_heap fresh written fresh_is written_is =
        let act : heap.Act = heap.Act.Store a i (word_of o.header w) in
        subst HeapGood
        (heap_ext (acted (view s) act) (view (record {
          words = slice_set s.words (a + 2 + i) w;
          vm = record s.vm { objects = with_field s.vm.objects a i w; stored = true; fresh = fresh; written = written };
          gc = s.gc;
        }))
        refl (λ b. sym (stands-with_field s.vm.objects a i w b)) (λ b. sym (size-with_field s.vm.objects a i w b))
        (λ b j. sym (word-with_field s.vm.objects a i w o at lt b j))
        fresh_is written_is (λ slot. refl) refl (λ b. refl) (λ c. refl) (λ b j. refl) (λ b j. refl) refl (λ b. refl))
        (heap_keeps (view s) act h.heap (
          ap is_some at,
          subst (λ (x : Option Object). i < size_in x) (sym at) lt,
          word_stands-is s.vm.objects o.header w stands,
        ))

  pub stores : (a i w : ℕ) → Permitted s (FieldStore a i w) → Good space (happens s (FieldStore a i w))
  unfolding stored_state
  stores a i w p = go (object_at s.vm.objects a) refl p.vm.0
    where
      go : (x : Option Object) → object_at s.vm.objects a ≡ x → HasField s.vm x i w
          → Good space (happens s (FieldStore a i w))
      go None at has = absurd has
      go (Some o) at has = let small : i < 2 ^ 20 = (let n = h.current.sized a o at in let lt = has.0 in omega arith) in
          let short_if : (b : Bool) → IsShort (if b then Some (widened s.vm.written a i) else s.vm.written) =
          λ b. elim b as (λ x. IsShort (if x then Some (widened s.vm.written a i) else s.vm.written)) [
            | true ↦ short_widened s.vm.written a i small h.counted.range
            | false ↦ h.counted.range
          ] in
          elim (bool_cases (among s.vm.fresh a)) [
            | inl new ↦
                let vm_is : field_stored s.vm a i w
                ≡ record s.vm { objects = with_field s.vm.objects a i w; stored = true } = rw new refl in
                subst (λ (v : Vm). Good space (record { words = slice_set s.words (a + 2 + i) w; vm = v; gc = s.gc }))
                (sym vm_is)
                (let good = stored_good a i w o at has.0 has.1 s.vm.fresh s.vm.written h.counted.quiet h.counted.range
                (stored_heap a i w o at has.0 has.1 s.vm.fresh s.vm.written
                (λ b. ap (λ (x : Bool). (if x then among s.vm.fresh else heap.nowhere) b) new)
                (λ b j. ap (λ (x : Bool). (if not x && is_open s.vm then put2 (is_written s.vm.written) a i true
                else is_written s.vm.written) b j) new)) in
                good)
            | inr old ↦
                let vm_is : field_stored s.vm a i w
                ≡ record s.vm {
                  objects = with_field s.vm.objects a i w;
                  stored = true;
                  fresh = [];
                  written = if is_open s.vm then Some (widened s.vm.written a i) else s.vm.written;
                } = rw old refl in
                subst (λ (v : Vm). Good space (record { words = slice_set s.words (a + 2 + i) w; vm = v; gc = s.gc }))
                (sym vm_is)
                (let good =
                stored_good a i w o at has.0 has.1 [] (if is_open s.vm then Some (widened s.vm.written a i)
                else s.vm.written)
                (λ shut. ap (λ (x : Bool). if x then Some (widened s.vm.written a i) else s.vm.written) shut
                ∙ h.counted.quiet shut)
                (short_if (is_open s.vm))
                (stored_heap a i w o at has.0 has.1 [] (if is_open s.vm then Some (widened s.vm.written a i)
                else s.vm.written)
                (λ b. ap (λ (x : Bool). (if x then among s.vm.fresh else heap.nowhere) b) old)
                (λ b j. ap (λ (x : Bool). (if not x && is_open s.vm then put2 (is_written s.vm.written) a i true
                else is_written s.vm.written) b j) old ∙ elim (bool_cases (is_open s.vm)) [
                  | inl t ↦ rw t (widened-written s.vm.written a i b j (p.vm.1 old t))
                  | inr f ↦ rw f refl
                ])) in
                good)
          ]

  -- what was taken of a log, and what is being taken, are in it
  ahead_within : (slot : ℕ) → slot < 32
      → length (log_of s.gc.taken slot) + half_of s.gc.taking slot ≤ length (log_of s.vm.logs slot)
  ahead_within slot lt = go s.gc.taking refl
    where
      short : length (log_of s.gc.taken slot) ≤ length (log_of s.vm.logs slot)
      short = let b = h.logs.begins slot lt in omega (arith, ap length b.1, length-append (log_of s.gc.taken slot) b.0)

      go : (x : Option Half) → s.gc.taking ≡ x
          → length (log_of s.gc.taken slot) + half_of x slot ≤ length (log_of s.vm.logs slot)
      go None e = let m = short in omega arith
      go (Some q) e = elim (at_number q.slot slot) [
        | inl is ↦ let t = eq_true slot q.slot is in
            let n = slice_get_within (log_of s.vm.logs q.slot) (length (log_of s.gc.taken q.slot)) q.what
            (h.logs.takes q e).is_next in
            rw t (let n' = subst (λ (z : ℕ). length (log_of s.gc.taken z) < length (log_of s.vm.logs z)) (sym is) n in
            omega arith)
        | inr ne ↦ rw ne (let m = short in omega arith)
      ]

  pub logs_record : (slot : ℕ) (r : Record) → Permitted s (RecordStore slot r)
      → Good space (happens s (RecordStore slot r))
  logs_record slot r p =
      let n : ℕ = length (log_of s.vm.logs slot) in
      let j : ℕ = ring_place slot n in
      let low = ring_from slot n in
      let high = ring_in slot n p.vm.in_range in
      let w = wide in
      let wide_logs = h.logs.wide_logs in
      let in_range = p.vm.in_range in
      record {
        counted = record {
          vm_space_is = h.counted.vm_space_is;
          gc_space_is = h.counted.gc_space_is;
          cycles = h.counted.cycles;
          epochs = h.counted.epochs;
          epoch_seen = h.counted.epoch_seen;
          quiet = λ shut. clash (is_open s.vm) p.vm.opened shut;
          range = short_logged r;
          small = h.counted.small;
        };
        control = control_off s.words space s.vm.cycle s.vm.epoch s.gc.taken j (packed n r) (omega arith) h.control;
        rings = rings_more s.words s.vm.logs slot r p.vm.in_range h.logs.wide_logs p.vm.fits (omega arith) h.rings;
        logs = logs_more s.vm.heads s.vm.logs s.gc.taken s.gc.taking slot r p.vm.in_range h.logs p.vm.room p.vm.fits;
        current = space_off s.words s.vm.objects s.vm.end s.vm.making (space_base space s.vm.cycle)
            (space_base space s.vm.cycle + space) j (packed n r) (low_current j high) h.current;
        other = copies_off s.words s.gc.pairs s.gc.placed (other_base space s.vm.cycle)
            (other_base space s.vm.cycle + space) j (packed n r) (low_other j high) h.other;
        births = h.births;
        single = h.single;
        matches = h.matches;
        headers = h.headers;
        heap = subst HeapGood
            (heap_ext (acted (view s) (heap.Act.Log slot r)) (view (happens s (RecordStore slot r))) refl (λ b. refl)
            (λ b. refl) (λ b i. refl) (λ b. refl)
            (logged_is r p.vm.written)
            (λ t. elim (at_number slot t) [
              | inl is ↦ rw (eq_true t slot is) (
                  sym (drop-append-le (length (log_of s.gc.taken slot) + half_of s.gc.taking slot)
                  (log_of s.vm.logs slot) (r ∷ []) (ahead_within slot p.vm.in_range))
                  ∙ (ap (drop (length (log_of s.gc.taken slot) + half_of s.gc.taking slot))
                  (sym (log_of-same s.vm.logs slot (log_of s.vm.logs slot ++ r ∷ []) (omega arith)))
                  ∙ ap (λ (z : ℕ). drop (length (log_of s.gc.taken z) + half_of s.gc.taking z)
                  (log_of (slice_set s.vm.logs slot (log_of s.vm.logs slot ++ r ∷ [])) z)) (sym is)))
              | inr ne ↦ rw ne (ap (drop (length (log_of s.gc.taken t) + half_of s.gc.taking t))
                  (sym (log_of-other s.vm.logs slot t (log_of s.vm.logs slot ++ r ∷ [])
                  (λ e. clash (nat_eq t slot) (eq_true t slot e) ne))))
            ])
            refl (λ b. refl) (λ c. refl) (λ b i. refl) (λ b i. refl) refl (λ b. refl))
            (heap_keeps (view s) (heap.Act.Log slot r) h.heap p.vm.opened);
      }
    where
      short_logged : (r : Record) → IsShort (Rattle.ps_core_machine.specs.Steps.unlogged_after s.vm.written r)
      short_logged (Place a first count) = tt
      short_logged Close = h.counted.range

      logged_is : (r : Record) → Rattle.ps_core_machine.specs.Conditions.IsNamed s.vm.written r → (b j : ℕ)
          → (is_written s.vm.written b j && not (names r b j))
          ≡ is_written (Rattle.ps_core_machine.specs.Steps.unlogged_after s.vm.written r) b j
      logged_is (Place a first count) e b j = logged_all s.vm.written a first count b j e
      logged_is Close e b j = logged_none (is_written s.vm.written b j)

  pub opens : Permitted s EpochStore → Good space (happens s EpochStore)
  opens p =
      let w = wide in
      let same : s.vm.epoch ≡ s.vm.cycle = p.vm.0 in
      record {
        counted = record {
          vm_space_is = h.counted.vm_space_is;
          gc_space_is = h.counted.gc_space_is;
          cycles = h.counted.cycles;
          epochs = inr (omega arith);
          epoch_seen = let m = h.counted.epoch_seen in omega arith;
          quiet = λ shut. p.vm.2;
          range = h.counted.range;
          small = p.vm.1;
        };
        control = record {
          wide = length-set s.words 1 (s.vm.epoch + 1) ∙ h.control.wide;
          cycle_word = get_or-set_other s.words 1 0 (s.vm.epoch + 1) 0 (λ e. omega arith) ∙ h.control.cycle_word;
          epoch_word = get_or-set_same s.words 1 (s.vm.epoch + 1) 0 (omega arith);
          head_words = λ slot lt. get_or-set_other s.words 1 (2 + slot) (s.vm.epoch + 1) 0 (λ e. omega arith)
              ∙ h.control.head_words slot lt;
        };
        rings = rings_near s.words s.vm.logs 1 (s.vm.epoch + 1) (omega arith) h.rings;
        logs = h.logs;
        current = space_off s.words s.vm.objects s.vm.end s.vm.making (space_base space s.vm.cycle)
            (space_base space s.vm.cycle + space) 1 (s.vm.epoch + 1) (low_current 1 (omega arith)) h.current;
        other = copies_off s.words s.gc.pairs s.gc.placed (other_base space s.vm.cycle)
            (other_base space s.vm.cycle + space) 1 (s.vm.epoch + 1) (low_other 1 (omega arith)) h.other;
        births = h.births;
        single = h.single;
        matches = h.matches;
        headers = h.headers;
        heap = subst HeapGood
            (heap_ext (acted (view s) heap.Act.Open) (view (happens s EpochStore))
            (sym (eq_true (s.vm.epoch + 1) (s.vm.cycle + 1) (omega arith))) (λ b. refl) (λ b. refl) (λ b i. refl)
            (λ b. refl) (λ b i. refl) (λ slot. refl) refl (λ b. refl) (λ c. refl) (λ b i. refl)
            (λ b i. refl) refl (λ b. refl))
            (heap_keeps (view s) heap.Act.Open h.heap (number_not s.vm.epoch (s.vm.cycle + 1) (λ e. omega arith)));
      }
