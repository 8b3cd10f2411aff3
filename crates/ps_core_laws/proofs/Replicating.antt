-- What every run keeps: the stores of the collector but for the flip.
use Rattle.std.proofs.Common.{◌≡◌, ◌⊎◌, ℕ, ◌+◌, ◌<◌, ◌≤◌, Bool, true, false, not, nat_eq, ◌&&◌, List, [], ◌∷◌, ◌++◌}
use Rattle.std.proofs.Common.{length, Some, None, Option, refl, sym, ap, ◌∙◌, inl, inr, subst, arith, drop}
use Rattle.std.proofs.Common.{length-append, length-set, is_some}
use Rattle.std.specs.Prelude.{if◌then◌else◌, slice_set, MatchOption, unwrap_or}
use Rattle.std.proofs.lemmas.List.{length-replicate}
use Rattle.ps_word.specs.Headers.{fields_in}
use Rattle.ps_record.specs.declared.Record.{Record}
use Rattle.ps_record.specs.declared.Record.TheVariants.{Place, Close}
use Rattle.ps_core_machine.specs.declared.events.Event.TheVariants.{ReplicaHeaderStore, ForwardStore}
use Rattle.ps_core_machine.specs.declared.events.Object.{Object}
use Rattle.ps_core_machine.specs.declared.events.Pair.{Pair}
use Rattle.ps_core_machine.specs.declared.events.Half.{Half}
use Rattle.ps_core_machine.specs.declared.events.Carried.{Carried}
use Rattle.ps_core_machine.specs.Objects.{among, object_at, pair_of, pair_to, seen_at, log_of, holds_values, with_copy}
use Rattle.ps_core_machine.specs.Objects.{names, is_loaded, is_copied_from, lacks_replica, is_done, half_of}
use Rattle.ps_core_machine.specs.Objects.{end_of_replicas, copied_to}
use Rattle.ps_core_machine.specs.Steps.{State, happens, space_base, other_base, is_open, header_of, replica_of}
use Rattle.ps_core_machine.specs.Steps.{word_stored, new_pair, forwarding, copied, copy_stored, head_stored, taken_after}
use Rattle.ps_core_machine.specs.Bounds.{AllLow}
use Rattle.ps_core_machine.specs.Conditions.{Permitted, IsReady}
use Rattle.ps_core_laws.specs.Runs.{IsSpace}
use Rattle.ps_core_laws.proofs.Heap as heap
use Rattle.ps_core_laws.proofs.Heap.{Load, put2, acted}
use Rattle.ps_core_laws.proofs.Heap.Word.{Plain}
use Rattle.ps_core_laws.proofs.HeapGood.{Good as HeapGood}
use Rattle.ps_core_laws.proofs.HeapKept.{keeps as heap_keeps}
use Rattle.ps_core_laws.proofs.HeapTests.{bool_cases, and_parts, or_parts, clash, number_is, at_number, eq_true}
use Rattle.ps_core_laws.proofs.Bases.{in_current, in_other, spaces_wide, some_match, match_some, zero_at, false_at}
use Rattle.ps_core_laws.proofs.Rings.{LogsAre, log_of-same, log_of-other, control_off, rings_far, rings_near}
use Rattle.ps_core_laws.proofs.Taken.{control_taken, logs_taken}
use Rattle.ps_core_laws.proofs.Shown.{space_off, space_second, some_map}
use Rattle.ps_core_laws.proofs.Copies.{copies_off, copies_placed, copies_stored, copies_paired}
use Rattle.ps_core_laws.proofs.Lookups.{object_at-address, pair_to-replica, pair_to-of, pair_of-with_copy}
use Rattle.ps_core_laws.proofs.Lookups.{single-with_copy, end_of_replicas-above}
use Rattle.ps_core_laws.proofs.Views.{word_of, size_in, replica_in, original_in, copy_in, filled_in, load_of}
use Rattle.ps_core_laws.proofs.Views.{replica_by, view, heap_ext, word_of-renamed, word_covered, replica-with_copy}
use Rattle.ps_core_laws.proofs.Views.{origin-with_copy, copy-with_copy, filled-with_copy}
use Rattle.ps_core_laws.proofs.Keeping as first
use Rattle.ps_core_laws.proofs.Keeping.{Good, IsMatch, HasHeader}

module _ (space : ℕ) (s : State) (h : Good space s) where
  other_wide : other_base space s.vm.cycle + space ≤ length s.words
  other_wide = first.other_wide space s h

  low_current : (j : ℕ) → j < 8256 → (j < space_base space s.vm.cycle)
      ⊎ (space_base space s.vm.cycle + space ≤ j)
  low_current = first.low_current space s h

  low_other : (j : ℕ) → j < 8256 → (j < other_base space s.vm.cycle)
      ⊎ (other_base space s.vm.cycle + space ≤ j)
  low_other = first.low_other space s h

  original : (a : ℕ) (p : Pair) → pair_of s.gc.pairs a ≡ Some p → (o : Object)
      × (object_at s.vm.objects a ≡ Some o) × IsMatch p o
  original = first.original space s h

  pub places : (place w : ℕ) → Permitted s (ReplicaHeaderStore place w)
      → Good space (happens s (ReplicaHeaderStore place w))
  places place w p =
      let lo : other_base space s.vm.cycle ≤ place =
      subst (λ (z : ℕ). other_base z s.vm.cycle ≤ place) h.counted.gc_space_is
      (subst (λ (z : ℕ). other_base s.gc.space z ≤ place) (sym h.counted.cycles) p.gc.0) in
      let hi : place < other_base space s.vm.cycle + space =
      subst (λ (z : ℕ). place < other_base z s.vm.cycle + z) h.counted.gc_space_is
      (subst (λ (z : ℕ). place < other_base s.gc.space z + s.gc.space) (sym h.counted.cycles)
      p.gc.1) in
      let here = in_other space s.vm.cycle place lo hi in
      let far = here.far in
      record {
        counted = h.counted;
        control = control_off s.words space s.vm.cycle s.vm.epoch s.gc.taken place w (omega arith)
            h.control;
        rings = rings_far s.words s.vm.logs place w far h.rings;
        logs = h.logs;
        current = space_off s.words s.vm.objects s.vm.end s.vm.making (space_base space s.vm.cycle)
            (space_base space s.vm.cycle + space) place w here.off h.current;
        other = copies_placed s.words s.gc.pairs s.gc.placed (other_base space s.vm.cycle)
            (other_base space s.vm.cycle + space) place w other_wide lo hi p.gc.2 h.other;
        births = h.births;
        single = h.single;
        matches = h.matches;
        headers = h.headers;
        heap = h.heap;
      }

  -- replicas have addresses of 24 bits
  pub replicas_low : IsSpace space → AllLow s.gc.pairs
  replicas_low size a q at =
      let inside = (h.other.within q.replica q (pair_to-of s.gc.pairs a q h.single at)).1 in
      let w = (spaces_wide space s.vm.cycle).1 in
      let small = size.1 in
      omega arith

  -- the pair of what is being copied
  pub carried_pair : (k : Carried) → s.gc.copying ≡ Some k → (q : Pair)
      × (pair_of s.gc.pairs k.address ≡ Some q) × (k.field < length q.fields)
  carried_pair k is =
      let c = h.heap.carried (record {
        a = k.address;
        i = k.field;
        w =
            word_of (header_of (pair_of s.gc.pairs k.address)) k.word;
      })
      (ap (load_of s.gc.pairs) is) in
      go (pair_of s.gc.pairs k.address) refl c.c c.paired c.within
    where
      go : (x : Option Pair) → pair_of s.gc.pairs k.address ≡ x → (c : ℕ) → replica_in x ≡ Some c
          → k.field < size_in (object_at s.vm.objects k.address) → (q : Pair) × (x ≡ Some q)
          × (k.field < length q.fields)
      go None at c paired within = absurd (cc)
      go (Some q) at c paired within =
          let o = original k.address q at in
          let lt : k.field < length o.0.fields =
          subst (λ (x : Option Object). k.field < size_in x) o.1 within in
          let e = o.2.fields in
          (q, refl, omega arith)

  pub copies_at : (scans : Bool) (o : Option Carried) → IsSpace space → s.gc.copying ≡ o
      → Rattle.ps_core_machine.specs.Conditions.CanStore s.gc o
      → Good space (record {
        words = copy_stored s.words s.gc o;
        vm = s.vm;
        gc =
            record s.gc { pairs = copied s.gc o scans; copying = None };
      })
  copies_at scans None size is can = absurd can
  copies_at scans (Some k) size is can =
      let m = carried_pair k is in
      let q : Pair = m.0 in
      let at : pair_of s.gc.pairs k.address ≡ Some q = m.1 in
      let lt : k.field < length q.fields = m.2 in
      let w : ℕ = word_stored s.gc k in
      let there = pair_to-of s.gc.pairs k.address q h.single at in
      let inside = h.other.within q.replica q there in
      let lo = inside.0 in let hi = inside.1 in
      let sized = (h.other.sized q.replica q there).1 in
      let j_is : replica_of (pair_of s.gc.pairs k.address) + 2 + k.field ≡ q.replica + 2 + k.field =
      ap (λ (x : Option Pair). replica_of x + 2 + k.field) at in
      let here = in_other space s.vm.cycle (q.replica + 2 + k.field) (omega arith) (omega arith) in
      let far = here.far in
      let header : header_of (pair_of s.gc.pairs k.address) ≡ q.header = ap header_of at in
      let word_is : word_of q.header w ≡ heap.renamed (replica_by s.gc.pairs)
      (word_of (header_of (pair_of s.gc.pairs k.address)) k.word) =
      ap (λ (z : ℕ). word_of z w) (sym header)
      ∙ word_of-renamed s.gc.pairs (header_of (pair_of s.gc.pairs k.address)) k.word
      (replicas_low size) in
      let load : Load = record {
        a = k.address;
        i = k.field;
        w =
            word_of (header_of (pair_of s.gc.pairs k.address)) k.word;
      } in
      let copying_is : (view s).copying ≡ Some load = ap (load_of s.gc.pairs) is in
      subst (λ (j : ℕ). Good space
      (record {
        words = slice_set s.words j w;
        vm = s.vm;
        gc =
            record s.gc { pairs = with_copy s.gc.pairs k.address k.field w scans; copying = None };
      }))
      (sym j_is) record {
        counted = h.counted;
        control = control_off s.words space s.vm.cycle s.vm.epoch s.gc.taken
            (q.replica + 2 + k.field) w (omega arith) h.control;
        rings = rings_far s.words s.vm.logs (q.replica + 2 + k.field) w far h.rings;
        logs = h.logs;
        current = space_off s.words s.vm.objects s.vm.end s.vm.making (space_base space s.vm.cycle)
            (space_base space s.vm.cycle + space) (q.replica + 2 + k.field) w here.off h.current;
        other = copies_stored s.words s.gc.pairs s.gc.placed (other_base space s.vm.cycle)
            (other_base space s.vm.cycle + space) k.address k.field w scans q h.single h.other
            other_wide at lt;
        births = h.births;
        single = single-with_copy s.gc.pairs k.address k.field w scans h.single;
        matches = λ b r e.
            let n = some_map (copied_to k.address k.field w scans) (pair_of s.gc.pairs b) r
            (sym (pair_of-with_copy s.gc.pairs k.address k.field w scans b) ∙ e) in
            subst (λ (z : Pair). MatchOption (object_at s.vm.objects b) ⊥ (IsMatch z)) n.2
            (match_copied k.address k.field w scans n.0 (object_at s.vm.objects b)
            (h.matches b n.0 n.1));
        headers = h.headers;
        heap = subst HeapGood
            (heap_ext (acted (view s) (heap.Act.Fill scans))
            (view (record {
              words = slice_set s.words (q.replica + 2 + k.field) w;
              vm =
                  s.vm;
              gc = record s.gc {
                pairs =
                    with_copy s.gc.pairs k.address k.field w scans;
                copying = None;
              };
            }))
            refl (λ b. refl) (λ b. refl) (λ b i. refl) (λ b. refl) (λ b i. refl) (λ slot. refl) refl
            (λ b. sym (replica-with_copy s.gc.pairs k.address k.field w scans q at lt sized b))
            (λ c. sym (origin-with_copy s.gc.pairs k.address k.field w scans q at lt sized h.single
            c))
            (λ b i. ap (λ (x : Option Load). heap.filled_copy (replica_by s.gc.pairs)
            (λ b i. copy_in (pair_of s.gc.pairs b) i) x b i) copying_is
            ∙ (ap (λ (x : heap.Word). put2 (λ b i. copy_in (pair_of s.gc.pairs b) i) k.address
            k.field x b i) (sym word_is)
            ∙ sym (copy-with_copy s.gc.pairs k.address k.field w scans q at lt sized b i)))
            (λ b i. ap (λ (x : Option Load). heap.filled_with scans
            (λ b i. filled_in (pair_of s.gc.pairs b) i) x b i) copying_is
            ∙ (filled_same scans load b i
            ∙ sym (filled-with_copy s.gc.pairs k.address k.field w scans q at lt sized b i)))
            refl (λ b. refl))
            (heap_keeps (view s) (heap.Act.Fill scans) h.heap
            (subst (heap.CanFill (view s)) (sym copying_is)
            (word_covered s.gc.pairs (header_of (pair_of s.gc.pairs k.address)) k.word can)));
      }
    where
      filled_same : (scans : Bool) (load : Load) (b i : ℕ)
          → heap.filled_with scans (λ b i. filled_in (pair_of s.gc.pairs b) i) (Some load) b i
          ≡ (if scans then put2 (λ b j. filled_in (pair_of s.gc.pairs b) j) load.a load.i true b i
          else filled_in (pair_of s.gc.pairs b) i)
      filled_same true load b i = refl
      filled_same false load b i = refl

      match_copied : (a i w : ℕ) (scans : Bool) (q : Pair) (x : Option Object)
          → MatchOption x ⊥ (IsMatch q) → MatchOption x ⊥ (IsMatch (copied_to a i w scans q))
      match_copied a i w scans q None m = m
      match_copied a i w scans q (Some o) m = elim (bool_cases (nat_eq a q.original)) [
        | inl t ↦ rw t (record {
          header = m.header;
          fields = m.fields
              ∙ sym (length-set q.fields i w);
        })
        | inr f ↦ rw f m
      ]

  -- what is being copied isn't of an object without a pair
  load_kept : (new : Pair) (o : Option Carried) → pair_of s.gc.pairs new.original ≡ None
      → s.gc.copying ≡ o → load_of s.gc.pairs o ≡ load_of (new ∷ s.gc.pairs) o
  load_kept new None none is = refl
  load_kept new (Some k) none is =
      let m = carried_pair k is in
      elim (at_number new.original k.address) [
        | inl same ↦ let bad : Some m.0 ≡ None = sym m.1 ∙ (ap (pair_of s.gc.pairs) same ∙ none) in
            absurd (cc)
        | inr ne ↦ rw ne refl
      ]

  forwards_at : (a c header : ℕ) → s.gc.epoch ≡ s.gc.cycle + 1 → pair_of s.gc.pairs a ≡ None
      → among s.gc.known a ≡ true → seen_at s.gc.headers a ≡ Some header → IsReady s.gc a c header
      → Good space (record {
        words = slice_set s.words (a + 1) (forwarding s.gc.epoch c);
        vm =
            s.vm;
        gc = record s.gc { pairs = new_pair a c header ∷ s.gc.pairs };
      })
  forwards_at a c header opened alone known seen ready =
      let new : Pair = new_pair a c header in
      let n : ℕ = fields_in header in
      let f = some_match (HasHeader header) (object_at s.vm.objects a) (h.headers a header seen) in
      let o : Object = f.0 in
      let at : object_at s.vm.objects a ≡ Some o = f.1 in
      let inside = h.current.within a o at in
      let in_lo = inside.0 in let in_hi = inside.1 in let eh = h.current.end_high in
      let is_at = object_at-address s.vm.objects a o at in
      let here = in_current space s.vm.cycle (a + 1) (omega arith) (omega arith) in
      let far = here.far in
      let right : c ≡ end_of_replicas (other_base space s.vm.cycle) s.gc.pairs =
      subst (λ (z : ℕ). c ≡ end_of_replicas (other_base z s.vm.cycle) s.gc.pairs)
      h.counted.gc_space_is (subst
      (λ (z : ℕ). c ≡ end_of_replicas (other_base s.gc.space z) s.gc.pairs)
      (sym h.counted.cycles) ready.right) in
      let hi : c + 2 + n ≤ other_base space s.vm.cycle + space =
      subst (λ (z : ℕ). c + 2 + n ≤ other_base z s.vm.cycle + z) h.counted.gc_space_is
      (subst (λ (z : ℕ). c + 2 + n ≤ other_base s.gc.space z + s.gc.space)
      (sym h.counted.cycles) ready.high) in
      let free : pair_to s.gc.pairs c ≡ None = none_there c right in
      let w : ℕ = forwarding s.gc.epoch c in
      let open_now : is_open s.vm ≡ true =
      (let x = h.counted.epoch_seen in let y = h.counted.cycles in
      eq_true s.vm.epoch (s.vm.cycle + 1)
      (elim h.counted.epochs as (λ _. s.vm.epoch ≡ s.vm.cycle + 1)
      [ inl e ↦ absurd (omega arith) | inr e ↦ e ])) in
      let nat_false : (b : ℕ) → nat_eq b a ≡ true → b ≡ a = λ b t. number_is b a t in
      record {
        counted = h.counted;
        control = control_off s.words space s.vm.cycle s.vm.epoch s.gc.taken (a + 1) w (omega arith)
            h.control;
        rings = rings_far s.words s.vm.logs (a + 1) w far h.rings;
        logs = h.logs;
        current = space_second s.words s.vm.objects s.vm.end s.vm.making
            (space_base space s.vm.cycle) (space_base space s.vm.cycle + space) a w o h.current at;
        other = copies_paired (slice_set s.words (a + 1) w) s.gc.pairs s.gc.placed
            (other_base space s.vm.cycle) (other_base space s.vm.cycle + space) a c header
            (copies_off s.words s.gc.pairs s.gc.placed (other_base space s.vm.cycle)
            (other_base space s.vm.cycle + space) (a + 1) w here.off h.other) ready.first hi
            right;
        births = h.births;
        single = (alone, free, h.single);
        matches = λ b q e. elim (at_number a b) [
          | inl same ↦ let e' = rw (eq_true b a same) at e in let q_is : new ≡ q = cc in
              subst (λ (z : Pair). MatchOption (object_at s.vm.objects b) ⊥ (IsMatch z)) q_is
              (match_some (IsMatch new) (object_at s.vm.objects b) o
              (ap (object_at s.vm.objects) same ∙ at)
              (record {
                header = f.2;
                fields = h.current.sized a o at
                    ∙ (ap fields_in f.2 ∙ sym (length-replicate {A = ℕ} n 0));
              }))
          | inr ne ↦ let e' = rw ne at e in h.matches b q e'
        ];
        headers = h.headers;
        heap = subst HeapGood
            (heap_ext (acted (view s) (heap.Act.Join a c))
            (view (record {
              words = slice_set s.words (a + 1) w;
              vm = s.vm;
              gc =
                  record s.gc { pairs = new ∷ s.gc.pairs };
            }))
            refl (λ b. refl) (λ b. refl) (λ b i. refl) (λ b. refl) (λ b i. refl) (λ slot. refl) refl
            (λ b. elim (bool_cases (nat_eq b a)) [ inl t ↦ rw t refl | inr u ↦ rw u refl ])
            (λ d. elim (bool_cases (nat_eq d c)) [ inl t ↦ rw t refl | inr u ↦ rw u refl ])
            (λ b i. elim (bool_cases (nat_eq b a)) [
              | inl t ↦ rw t (sym (ap (word_of header) (zero_at n i) ∙ zero_word header))
              | inr u
                  ↦ rw u refl
            ])
            (λ b i. elim (bool_cases (nat_eq b a)) [
              | inl t ↦ rw t (ap (λ (x : Option Pair). filled_in x i)
                  (ap (pair_of s.gc.pairs) (number_is b a t) ∙ alone) ∙ sym (false_at n i))
              | inr u ↦ rw u refl
            ])
            (load_kept new s.gc.copying alone refl) (λ b. refl))
            (heap_keeps (view s) (heap.Act.Join a c) h.heap
            (open_now, ap replica_in alone, ap original_in free, known));
      }
    where
      zero_word : (header : ℕ) → word_of header 0 ≡ Plain 0
      zero_word header = elim (bool_cases (holds_values header))
          [ inl t ↦ rw t refl | inr f ↦ rw f refl ]

      none_there : (c : ℕ) → c ≡ end_of_replicas (other_base space s.vm.cycle) s.gc.pairs
          → pair_to s.gc.pairs c ≡ None
      none_there c right = go (pair_to s.gc.pairs c) refl
        where
          go : (x : Option Pair) → pair_to s.gc.pairs c ≡ x → x ≡ None
          go None e = refl
          go (Some q) e = let is = pair_to-replica s.gc.pairs c q e in let x =
              end_of_replicas-above s.gc.pairs c (other_base space s.vm.cycle) q e in
              absurd (omega arith)

  pub forwards : (a c : ℕ) → Permitted s (ForwardStore a c) → Good space (happens s (ForwardStore a c))
  forwards a c p =
      let m = some_match (IsReady s.gc a c) (seen_at s.gc.headers a) p.gc.headed in
      let header_is : unwrap_or (seen_at s.gc.headers a) 0 ≡ m.0 =
      ap (λ (x : Option ℕ). unwrap_or x 0) m.1 in
      subst (λ (z : ℕ). Good space
      (record {
        words = slice_set s.words (a + 1) (forwarding s.gc.epoch c);
        vm = s.vm;
        gc =
            record s.gc { pairs = new_pair a c z ∷ s.gc.pairs };
      })) (sym header_is)
      (forwards_at a c m.0 (number_is s.gc.epoch (s.gc.cycle + 1) p.gc.opened) p.gc.single
      p.gc.known m.1 m.2)

  done_is : (q : Half) → is_done s.gc.pairs s.gc.copying (Some q) ≡ true
      → heap.IsDone (view s) (Some q)
  done_is q done = elim (or_parts
      (is_loaded q.what q.loaded && not (is_copied_from q.what s.gc.copying))
      (lacks_replica s.gc.pairs q.what) done) [
        | inl all ↦ inl (and_parts (is_loaded q.what q.loaded)
            (not (is_copied_from q.what s.gc.copying)) all).0
        | inr bare ↦ inr (lacks q.what bare)
      ]
    where
      lacks : (r : Record) → lacks_replica s.gc.pairs r ≡ true → (b j : ℕ) → names r b j ≡ true
          → replica_by s.gc.pairs b ≡ None
      lacks Close bare b j named = clash false bare refl
      lacks (Place a first count) bare b j named =
          let e = (Rattle.ps_core_laws.proofs.HeapTests.names_is a first count b j named).0 in
          ap (replica_by s.gc.pairs) e ∙ go (pair_of s.gc.pairs a) bare
        where
          go : (x : Option Pair) → not (is_some x) ≡ true → replica_in x ≡ None
          go None bare = refl
          go (Some q) bare = clash false bare refl

  pub heads_at : (o : Option Half) → s.gc.taking ≡ o → is_done s.gc.pairs s.gc.copying o ≡ true
      → Good space (record {
        words = head_stored s.words s.gc o;
        vm = s.vm;
        gc =
            record s.gc { taken = taken_after s.gc.taken o; taking = None };
      })
  heads_at None is done = clash false done refl
  heads_at (Some q) is done =
      let logs = subst (LogsAre s.vm.heads s.vm.logs s.gc.taken) is h.logs in
      let in_range = (h.logs.takes q is).in_range in
      let n : ℕ = length (log_of s.gc.taken q.slot) + 1 in
      let wide_taken = h.logs.wide_taken in
      record {
        counted = h.counted;
        control = control_taken s.words space s.vm.cycle s.vm.epoch s.vm.heads s.vm.logs s.gc.taken
            q h.control logs;
        rings = rings_near s.words s.vm.logs (2 + q.slot) n (omega arith) h.rings;
        logs = logs_taken s.words space s.vm.cycle s.vm.epoch s.vm.heads s.vm.logs s.gc.taken q
            logs;
        current = space_off s.words s.vm.objects s.vm.end s.vm.making (space_base space s.vm.cycle)
            (space_base space s.vm.cycle + space) (2 + q.slot) n
            (low_current (2 + q.slot) (omega arith)) h.current;
        other = copies_off s.words s.gc.pairs s.gc.placed (other_base space s.vm.cycle)
            (other_base space s.vm.cycle + space) (2 + q.slot) n
            (low_other (2 + q.slot) (omega arith)) h.other;
        births = h.births;
        single = h.single;
        matches = h.matches;
        headers = h.headers;
        heap = subst HeapGood
            (heap_ext (acted (view s) heap.Act.Head)
            (view (record {
              words = head_stored s.words s.gc (Some q);
              vm = s.vm;
              gc =
                  record s.gc { taken = taken_after s.gc.taken (Some q); taking = None };
            }))
            refl (λ b. refl) (λ b. refl) (λ b i. refl) (λ b. refl) (λ b i. refl)
            (λ t. ap (λ (x : Option Half). drop (length (log_of s.gc.taken t) + half_of x t)
            (log_of s.vm.logs t)) is ∙ elim (at_number q.slot t) [
              | inl same ↦ rw (eq_true t q.slot same) (ap (λ (z : ℕ). drop z (log_of s.vm.logs t)) (
                  let e : length (log_of (slice_set s.gc.taken q.slot
                  (log_of s.gc.taken q.slot ++ q.what ∷ [])) t) ≡ length (log_of s.gc.taken t) +
                  1 =
                  ap (λ (z : ℕ). length (log_of
                  (slice_set s.gc.taken q.slot (log_of s.gc.taken q.slot ++ q.what ∷ [])) z))
                  same
                  ∙ (ap length (log_of-same s.gc.taken q.slot
                  (log_of s.gc.taken q.slot ++ q.what ∷ []) (omega arith))
                  ∙ (length-append (log_of s.gc.taken q.slot) (q.what ∷ [])
                  ∙ ap (λ (z : ℕ). length (log_of s.gc.taken z) + 1) (sym same))) in
                  omega arith))
              | inr ne ↦ rw ne (ap (λ (l : List Record). drop (length l + 0) (log_of s.vm.logs t))
                  (sym (log_of-other s.gc.taken q.slot t (log_of s.gc.taken q.slot ++ q.what ∷ [])
                  (λ e. clash (nat_eq t q.slot) (eq_true t q.slot e) ne))))
            ])
            refl (λ b. refl) (λ c. refl) (λ b i. refl) (λ b i. refl) refl (λ b. refl))
            (heap_keeps (view s) heap.Act.Head h.heap
            (subst (heap.IsDone (view s)) (sym is) (done_is q done)));
      }
