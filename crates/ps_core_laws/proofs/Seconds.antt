-- The second headers: they lead from originals to replicas and back, and nowhere else in an open
-- cycle.
use Rattle.std.proofs.Common.{◌≡◌, ◌≢◌, ℕ, ◌+◌, ◌^◌, ◌<◌, ◌≤◌, Bool, true, nat_eq, List, [], ◌∷◌, length, Some, None}
use Rattle.std.proofs.Common.{Option, refl, sym, ap, ◌∙◌, inl, inr, subst, arith}
use Rattle.std.specs.Prelude.{if◌then◌else◌, slice_set, slice_index, unwrap_or, MatchOption}
use Rattle.std.specs.Option.{option_map}
use Rattle.std.proofs.lemmas.List.{get_or-set_same, get_or-set_other}
use native.Mathlib.Decide.{ℕ_discrete}
use Rattle.ps_word.specs.Headers.{cycle_in, fields_in, forward_packed}
use Rattle.ps_core_machine.specs.declared.events.Event.{Event}
use Rattle.ps_core_machine.specs.declared.events.Event.TheVariants.{VmLoad, GcLoad, TakeLoad, CopyLoad, HandOver}
use Rattle.ps_core_machine.specs.declared.events.Event.TheVariants.{ClearLoad, ClearStore, HeaderStore, FieldStore}
use Rattle.ps_core_machine.specs.declared.events.Event.TheVariants.{RecordStore, EpochStore, ReplicaHeaderStore}
use Rattle.ps_core_machine.specs.declared.events.Event.TheVariants.{ReplicaFieldStore, ForwardStore, HeadStore}
use Rattle.ps_core_machine.specs.declared.events.Event.TheVariants.{CycleStore}
use Rattle.ps_core_machine.specs.declared.events.Object.{Object}
use Rattle.ps_core_machine.specs.declared.events.Pair.{Pair}
use Rattle.ps_core_machine.specs.declared.events.Half.{Half}
use Rattle.ps_core_machine.specs.declared.events.Carried.{Carried}
use Rattle.ps_core_machine.specs.declared.events.Vm.{Vm}
use Rattle.ps_core_machine.specs.Objects.{among, object_at, pair_of, pair_to, seen_at, log_of, stored, with_field}
use Rattle.ps_core_machine.specs.Objects.{copied_to, with_copy, as_object, widened}
use Rattle.ps_core_machine.specs.Steps.{State, start, happens, is_open, space_base, other_base, field_stored, forwarding}
use Rattle.ps_core_machine.specs.Steps.{replica_of, word_stored, copied, copy_stored, head_stored, new_pair}
use Rattle.ps_core_machine.specs.Conditions.{Permitted, HasField, IsReady}
use Rattle.ps_core_laws.specs.Laws.{IsForwarded}
use Rattle.ps_core_laws.specs.Runs.{run, IsRun, IsSpace}
use Rattle.ps_core_laws.proofs.HeapTests.{bool_cases, clash, number_is, at_number, eq_true}
use Rattle.ps_core_laws.proofs.Bases.{in_current, in_other, spaces_wide, spaces_far, some_match}
use Rattle.ps_core_laws.proofs.Lookups.{object_at-address, pair_to-replica, pair_of-to, pair_to-of}
use Rattle.ps_core_laws.proofs.Lookups.{object_at-with_field, pair_of-with_copy, pair_to-with_copy, off_replica}
use Rattle.ps_core_laws.proofs.Lookups.{object_at-replicas, not_in_replica}
use Rattle.ps_core_laws.proofs.Rings.{ring_in}
use Rattle.ps_core_laws.proofs.Shown.{some_map, none_at_end}
use Rattle.ps_core_laws.proofs.Keeping.{Good, IsMatch, original, HasHeader}
use Rattle.ps_core_laws.proofs.Kept.{good}
use Rattle.ps_core_laws.proofs.Replicating.{carried_pair}

pub record Seconds (ws : List ℕ) (os : List Object) (ps : List Pair) (cycle epoch : ℕ) : Type 0
  where
    pub second : (a : ℕ) (o : Object) → object_at os a ≡ Some o
        → IsForwarded ws a cycle epoch (pair_of ps a)
    pub back : (c : ℕ) (p : Pair) → pair_to ps c ≡ Some p
        → slice_index ws (p.replica + 1) ≡ forwarding epoch p.original

forwarded_off : (ws : List ℕ) (a cycle epoch j w : ℕ) (x : Option Pair) → a + 1 ≢ j
    → IsForwarded ws a cycle epoch x → IsForwarded (slice_set ws j w) a cycle epoch x
forwarded_off ws a cycle epoch j w None ne h =
    subst (λ (z : ℕ). cycle_in z ≤ cycle) (sym (get_or-set_other ws j (a + 1) w 0 ne)) h
forwarded_off ws a cycle epoch j w (Some p) ne h = get_or-set_other ws j (a + 1) w 0 ne ∙ h

-- a store that is at no second header
seconds_off : (ws : List ℕ) (os : List Object) (ps : List Pair) (cycle epoch j w : ℕ)
    → ((a : ℕ) (o : Object) → object_at os a ≡ Some o → a + 1 ≢ j)
    → ((c : ℕ) (p : Pair) → pair_to ps c ≡ Some p → p.replica + 1 ≢ j)
    → Seconds ws os ps cycle epoch → Seconds (slice_set ws j w) os ps cycle epoch
seconds_off ws os ps cycle epoch j w off_o off_p h = record {
  second = λ a o e. forwarded_off ws a cycle epoch j w (pair_of ps a) (off_o a o e)
      (h.second a o e);
  back = λ c p e. get_or-set_other ws j (p.replica + 1) w 0 (off_p c p e) ∙ h.back c p e;
}

cycle_in-forwarding : (epoch a : ℕ) → a < 2 ^ 24 → cycle_in (forwarding epoch a) ≡ epoch
unfolding forward_packed
cycle_in-forwarding epoch a lt = omega arith

abbrev pub SecondsOf : State → Type 0
SecondsOf s = Seconds s.words s.vm.objects s.gc.pairs s.vm.cycle s.vm.epoch

pub seconds_start : (space : ℕ) → SecondsOf (start space)
seconds_start space = record { second = λ a o e. absurd (cc); back = λ c p e. absurd (cc) }

module _ (space : ℕ) (size : IsSpace space) (s : State) (h : Good space s) (k : SecondsOf s) where
  -- where second headers are
  at_object : (a : ℕ) (o : Object) → object_at s.vm.objects a ≡ Some o
      → (space_base space s.vm.cycle ≤ a + 1) × (a + 1 < s.vm.end)
      × (a + 1 < space_base space s.vm.cycle + space)
  at_object a o e =
      let w = h.current.within a o e in let lo = w.0 in let hi = w.1 in
      let is = object_at-address s.vm.objects a o e in
      let top = h.current.end_high in
      (omega arith, omega arith, omega arith)

  at_pair : (c : ℕ) (p : Pair) → pair_to s.gc.pairs c ≡ Some p
      → (other_base space s.vm.cycle ≤ p.replica + 1)
      × (p.replica + 1 < other_base space s.vm.cycle + space)
  at_pair c p e = let w = h.other.within c p e in let lo = w.0 in let hi = w.1 in
      (omega arith, omega arith)

  -- a store below the spaces
  low : (j w : ℕ) → j < 8256
      → Seconds (slice_set s.words j w) s.vm.objects s.gc.pairs s.vm.cycle s.vm.epoch
  low j w lt = seconds_off s.words s.vm.objects s.gc.pairs s.vm.cycle s.vm.epoch j w
      (λ a o e same. let x = (at_object a o e).0 in let b = (spaces_far space s.vm.cycle).0 in
      omega arith)
      (λ c p e same. let x = (at_pair c p e).0 in let b = (spaces_far space s.vm.cycle).1 in
      omega arith) k

  -- a store in the current space, at no second header
  current : (j w : ℕ) → space_base space s.vm.cycle ≤ j → j < space_base space s.vm.cycle + space
      → ((a : ℕ) (o : Object) → object_at s.vm.objects a ≡ Some o → a + 1 ≢ j)
      → Seconds (slice_set s.words j w) s.vm.objects s.gc.pairs s.vm.cycle s.vm.epoch
  current j w lo hi off =
      let here = in_current space s.vm.cycle j lo hi in
      seconds_off s.words s.vm.objects s.gc.pairs s.vm.cycle s.vm.epoch j w off
      (λ c p e. let x = at_pair c p e in let a = x.0 in let b = x.1 in
      elim here.off as (λ _. p.replica + 1 ≢ j)
      [ inl y ↦ (λ same. omega arith) | inr y ↦ (λ same. omega arith) ]) k

  -- a store in the other space, at no second header
  other : (j w : ℕ) → other_base space s.vm.cycle ≤ j → j < other_base space s.vm.cycle + space
      → ((c : ℕ) (p : Pair) → pair_to s.gc.pairs c ≡ Some p → p.replica + 1 ≢ j)
      → Seconds (slice_set s.words j w) s.vm.objects s.gc.pairs s.vm.cycle s.vm.epoch
  other j w lo hi off =
      let here = in_other space s.vm.cycle j lo hi in
      seconds_off s.words s.vm.objects s.gc.pairs s.vm.cycle s.vm.epoch j w
      (λ a o e. let x = at_object a o e in let u = x.0 in let v = x.2 in
      elim here.off as (λ _. a + 1 ≢ j)
      [ inl y ↦ (λ same. omega arith) | inr y ↦ (λ same. omega arith) ]) off k

  clears : Permitted s ClearStore → SecondsOf (happens s ClearStore)
  clears p =
      let room : s.vm.end + 1 + s.vm.making < space_base space s.vm.cycle + space =
      subst (λ (z : ℕ). s.vm.end + 1 + s.vm.making < space_base z s.vm.cycle + z)
      h.counted.vm_space_is p.vm in
      let lo = h.current.low_end in
      current (s.vm.end + 1 + s.vm.making) 0 (omega arith) room
      (λ a o e same. let x = (at_object a o e).1 in omega arith)

  no_pair_at_end : pair_of s.gc.pairs s.vm.end ≡ None
  no_pair_at_end = go (pair_of s.gc.pairs s.vm.end) refl
    where
      go : (x : Option Pair) → pair_of s.gc.pairs s.vm.end ≡ x → x ≡ None
      go None e = refl
      go (Some q) e = absurd (subst (λ (x : Option Object). MatchOption x ⊥ (IsMatch q))
          (none_at_end s.words s.vm.objects s.vm.end s.vm.making _ _ h.current)
          (h.matches s.vm.end q e))

  makes : (header : ℕ) → Permitted s (HeaderStore header)
      → SecondsOf (happens s (HeaderStore header))
  makes header p =
      let made : s.vm.making ≡ fields_in header + 1 = p.vm.cleared in
      let first = h.current.cleared 1 (omega arith) (omega arith) in
      let in_high = first.0 in
      let lo = h.current.low_end in
      let was = current s.vm.end header (omega arith) (omega arith)
      (λ a o e same. let x = (at_object a o e).1 in omega arith) in
      let zero : slice_index (slice_set s.words s.vm.end header) (s.vm.end + 1) ≡ 0 =
      get_or-set_other s.words s.vm.end (s.vm.end + 1) header 0 (λ e. omega arith) ∙ first.1 in
      record {
        second = λ a o e. elim (at_number s.vm.end a) [
          | inl is ↦
              subst (λ (z : ℕ). IsForwarded (slice_set s.words s.vm.end header) z s.vm.cycle
              s.vm.epoch (pair_of s.gc.pairs z)) (sym is)
              (subst (IsForwarded (slice_set s.words s.vm.end header) s.vm.end s.vm.cycle
              s.vm.epoch) (sym no_pair_at_end)
              (subst (λ (z : ℕ). cycle_in z ≤ s.vm.cycle) (sym zero) (omega arith)))
          | inr ne ↦ let e' = rw ne at e in was.second a o e'
        ];
        back = was.back;
      }

  -- a store to a field leaves the second headers, and where objects are
  stores_words : (a i w : ℕ) (x : Option Object) → object_at s.vm.objects a ≡ x
      → HasField s.vm x i w → Seconds (slice_set s.words (a + 2 + i) w)
      (with_field s.vm.objects a i w) s.gc.pairs s.vm.cycle s.vm.epoch
  stores_words a i w None at has = absurd has
  stores_words a i w (Some o) at has =
      let inside = h.current.within a o at in
      let lo = inside.0 in let hi = inside.1 in
      let is = object_at-address s.vm.objects a o at in
      let top = h.current.end_high in
      let lt = has.0 in
      let was = current (a + 2 + i) w (omega arith) (omega arith)
      (λ b q e same. elim (ℕ_discrete b a) as (λ _. ⊥) [
        | yes eq ↦ omega arith
        | no ne ↦
            let at_b = object_at-address s.vm.objects b q e in
            elim (h.current.apart b a q o e at ne) as (λ _. ⊥)
            [ inl y ↦ omega arith | inr y ↦ omega arith ]
      ]) in
      record {
        second = λ b q e. let m =
            some_map (stored a i w) (object_at s.vm.objects b) q
            (sym (object_at-with_field s.vm.objects a i w b) ∙ e) in was.second b m.0 m.1;
        back = was.back;
      }

  stores : (a i w : ℕ) → Permitted s (FieldStore a i w) → SecondsOf (happens s (FieldStore a i w))
  stores a i w p =
      let was = stores_words a i w (object_at s.vm.objects a) refl p.vm.0 in
      elim (bool_cases (among s.vm.fresh a)) [
        | inl t ↦
            let vm_is : field_stored s.vm a i w ≡ record s.vm
            { objects = with_field s.vm.objects a i w; stored = true } = rw t refl in
            subst (λ (v : Vm). Seconds (slice_set s.words (a + 2 + i) w) v.objects s.gc.pairs
            v.cycle v.epoch) (sym vm_is) was
        | inr f ↦
            let vm_is : field_stored s.vm a i w ≡ record s.vm {
              objects = with_field s.vm.objects a i w;
              stored = true;
              fresh = [];
              written =
                  if is_open s.vm then Some (widened s.vm.written a i) else s.vm.written;
            } =
            rw f refl in
            subst (λ (v : Vm). Seconds (slice_set s.words (a + 2 + i) w) v.objects s.gc.pairs
            v.cycle v.epoch) (sym vm_is) was
      ]

  -- no pair stands while no cycle is open
  no_pairs : s.vm.epoch ≡ s.vm.cycle → (a : ℕ) → pair_of s.gc.pairs a ≡ None
  no_pairs shut a = go (pair_of s.gc.pairs a) refl
    where
      go : (x : Option Pair) → pair_of s.gc.pairs a ≡ x → x ≡ None
      go None e = refl
      go (Some q) e =
          let opened : is_open s.vm ≡ true =
          (h.heap.pairs a q.replica
          (ap Rattle.ps_core_laws.proofs.Views.replica_in e)).in_cycle in
          let n = number_is s.vm.epoch (s.vm.cycle + 1) opened in
          absurd (omega arith)

  opens : Permitted s EpochStore → SecondsOf (happens s EpochStore)
  opens p =
      let was = low 1 (s.vm.epoch + 1) (omega arith) in
      record {
        second = λ a o e. let none = no_pairs p.vm.0 a in
            subst (IsForwarded (slice_set s.words 1 (s.vm.epoch + 1)) a s.vm.cycle (s.vm.epoch + 1))
            (sym none)
            (let x = was.second a o e in
            subst (IsForwarded (slice_set s.words 1 (s.vm.epoch + 1)) a s.vm.cycle s.vm.epoch)
            none x);
        back = λ c q e. let bad = sym (no_pairs p.vm.0 q.original)
            ∙ pair_of-to s.gc.pairs c q h.single e in absurd (cc);
      }

  places : (place w : ℕ) → Permitted s (ReplicaHeaderStore place w)
      → SecondsOf (happens s (ReplicaHeaderStore place w))
  places place w p =
      let lo : other_base space s.vm.cycle ≤ place =
      subst (λ (z : ℕ). other_base z s.vm.cycle ≤ place) h.counted.gc_space_is
      (subst (λ (z : ℕ). other_base s.gc.space z ≤ place) (sym h.counted.cycles) p.gc.0) in
      let hi : place < other_base space s.vm.cycle + space =
      subst (λ (z : ℕ). place < other_base z s.vm.cycle + z) h.counted.gc_space_is
      (subst (λ (z : ℕ). place < other_base s.gc.space z + s.gc.space) (sym h.counted.cycles)
      p.gc.1) in
      other place w lo hi (λ c q e same. elim (off_replica s.gc.pairs c place q e p.gc.2) as
      (λ _. ⊥) [ inl y ↦ omega arith | inr y ↦ omega arith ])

  copies_at : (scans : Bool) (o : Option Carried) → s.gc.copying ≡ o
      → Seconds (copy_stored s.words s.gc o) s.vm.objects (copied s.gc o scans) s.vm.cycle
      s.vm.epoch
  copies_at scans None is = k
  copies_at scans (Some c) is =
      let m = carried_pair space s h c is in
      let q : Pair = m.0 in
      let at : pair_of s.gc.pairs c.address ≡ Some q = m.1 in
      let lt = m.2 in
      let there = pair_to-of s.gc.pairs c.address q h.single at in
      let inside = h.other.within q.replica q there in
      let lo = inside.0 in let hi = inside.1 in
      let w : ℕ = word_stored s.gc c in
      let j_is : replica_of (pair_of s.gc.pairs c.address) + 2 + c.field ≡ q.replica + 2 + c.field =
      ap (λ (x : Option Pair). replica_of x + 2 + c.field) at in
      let was = other (q.replica + 2 + c.field) w (omega arith) (omega arith)
      (λ d r e same. elim (ℕ_discrete d q.replica) as (λ _. ⊥) [
        | yes eq ↦ let r_is = pair_to-replica s.gc.pairs d r e in omega arith
        | no ne ↦
            let r_is = pair_to-replica s.gc.pairs d r e in
            elim (h.other.apart d q.replica r q e there ne) as (λ _. ⊥)
            [ inl y ↦ omega arith | inr y ↦ omega arith ]
      ]) in
      subst (λ (j : ℕ). Seconds (slice_set s.words j w) s.vm.objects
      (with_copy s.gc.pairs c.address c.field w scans) s.vm.cycle s.vm.epoch) (sym j_is) record {
        second = λ a o e. subst (IsForwarded (slice_set s.words (q.replica + 2 + c.field) w) a
            s.vm.cycle s.vm.epoch) (sym (pair_of-with_copy s.gc.pairs c.address c.field w scans a))
            (kept_pair (slice_set s.words (q.replica + 2 + c.field) w) w a (pair_of s.gc.pairs a)
            (was.second a o e));
        back = λ d r e.
            let n = some_map (copied_to c.address c.field w scans) (pair_to s.gc.pairs d) r
            (sym (pair_to-with_copy s.gc.pairs c.address c.field w scans d) ∙ e) in
            subst (λ (z : Pair). slice_index (slice_set s.words (q.replica + 2 + c.field) w)
            (z.replica + 1) ≡ forwarding s.vm.epoch z.original) n.2
            (back_kept (slice_set s.words (q.replica + 2 + c.field) w) w n.0
            (was.back d n.0 n.1));
      }
    where
      kept_pair : (ws : List ℕ) (w a : ℕ) (x : Option Pair)
          → IsForwarded ws a s.vm.cycle s.vm.epoch x
          → IsForwarded ws a s.vm.cycle s.vm.epoch
          (option_map (copied_to c.address c.field w scans) x)
      kept_pair ws w a None f = f
      kept_pair ws w a (Some r) f =
          elim (bool_cases (nat_eq c.address r.original)) [ inl t ↦ rw t f | inr u ↦ rw u f ]

      back_kept : (ws : List ℕ) (w : ℕ) (r : Pair)
          → slice_index ws (r.replica + 1) ≡ forwarding s.vm.epoch r.original
          → slice_index ws ((copied_to c.address c.field w scans r).replica + 1) ≡ forwarding
          s.vm.epoch (copied_to c.address c.field w scans r).original
      back_kept ws w r f = elim (bool_cases (nat_eq c.address r.original))
          [ inl t ↦ rw t f | inr u ↦ rw u f ]

  forwards_at : (a c header : ℕ) → s.gc.epoch ≡ s.vm.epoch → seen_at s.gc.headers a ≡ Some header
      → IsReady s.gc a c header
      → Seconds (slice_set s.words (a + 1) (forwarding s.gc.epoch c)) s.vm.objects
      (new_pair a c header ∷ s.gc.pairs) s.vm.cycle s.vm.epoch
  forwards_at a c header epochs seen ready =
      let f = some_match (HasHeader header) (object_at s.vm.objects a) (h.headers a header seen) in
      let o : Object = f.0 in
      let at : object_at s.vm.objects a ≡ Some o = f.1 in
      let x = at_object a o at in
      let lo = x.0 in let hi = x.2 in
      let w : ℕ = forwarding s.gc.epoch c in
      let here = in_current space s.vm.cycle (a + 1) lo hi in
      let in_words : a + 1 < length s.words =
      (let y = h.control.wide in let z = here.wide in omega arith) in
      let second_at : slice_index s.words (c + 1) ≡ forwarding s.gc.epoch a =
      (h.other.placed_are (c + 1) (forwarding s.gc.epoch a) ready.second).there
      (not_in_replica s.gc.pairs (other_base s.gc.space s.gc.cycle) (c + 1)
      (let r = ready.right in omega arith)) in
      let there = h.other.placed_are (c + 1) (forwarding s.gc.epoch a) ready.second in
      let p_lo = there.at_least in let p_hi = there.below in
      let apart : c + 1 ≢ a + 1 =
      elim here.off as (λ _. c + 1 ≢ a + 1)
      [ inl y ↦ (λ same. omega arith) | inr y ↦ (λ same. omega arith) ] in
      record {
        second = λ b q e. elim (at_number a b) [
          | inl same ↦ rw (eq_true b a same)
              (ap (λ (z : ℕ). slice_index (slice_set s.words (a + 1) w) (z + 1)) same
              ∙ (get_or-set_same s.words (a + 1) w 0 in_words
              ∙ ap (λ (z : ℕ). forwarding z c) epochs))
          | inr ne ↦ rw ne (forwarded_off s.words b s.vm.cycle s.vm.epoch (a + 1) w
              (pair_of s.gc.pairs b) (λ same. clash (nat_eq b a) (eq_true b a (omega arith)) ne)
              (k.second b q e))
        ];
        back = λ d q e. elim (at_number c d) [
          | inl same ↦ let e' = rw (eq_true d c same) at e in let q_is : new_pair a c header ≡ q =
              cc in
              subst (λ (z : Pair). slice_index (slice_set s.words (a + 1) w) (z.replica + 1) ≡
              forwarding s.vm.epoch z.original) q_is
              (get_or-set_other s.words (a + 1) (c + 1) w 0 apart
              ∙ (second_at ∙ ap (λ (z : ℕ). forwarding z a) epochs))
          | inr ne ↦ let e' = rw ne at e in
              let y = at_pair d q e' in let u = y.0 in let v = y.1 in
              get_or-set_other s.words (a + 1) (q.replica + 1) w 0
              (elim here.off as (λ _. q.replica + 1 ≢ a + 1)
              [ inl z ↦ (λ same. omega arith) | inr z ↦ (λ same. omega arith) ]) ∙ k.back d q e'
        ];
      }

  forwards : (a c : ℕ) → Permitted s (ForwardStore a c) → SecondsOf (happens s (ForwardStore a c))
  forwards a c p =
      let m = some_match (IsReady s.gc a c) (seen_at s.gc.headers a) p.gc.headed in
      let header_is : unwrap_or (seen_at s.gc.headers a) 0 ≡ m.0 =
      ap (λ (x : Option ℕ). unwrap_or x 0) m.1 in
      let opened = number_is s.gc.epoch (s.gc.cycle + 1) p.gc.opened in
      let cycles = h.counted.cycles in let seen = h.counted.epoch_seen in
      let epochs : s.gc.epoch ≡ s.vm.epoch =
      elim h.counted.epochs as (λ _. s.gc.epoch ≡ s.vm.epoch)
      [ inl e ↦ omega arith | inr e ↦ omega arith ] in
      subst (λ (z : ℕ). Seconds (slice_set s.words (a + 1) (forwarding s.gc.epoch c)) s.vm.objects
      (new_pair a c z ∷ s.gc.pairs) s.vm.cycle s.vm.epoch) (sym header_is)
      (forwards_at a c m.0 epochs m.1 m.2)

  heads_at : (o : Option Half) → s.gc.taking ≡ o
      → Seconds (head_stored s.words s.gc o) s.vm.objects s.gc.pairs s.vm.cycle s.vm.epoch
  heads_at None is = k
  heads_at (Some q) is = let lt = (h.logs.takes q is).in_range in
      low (2 + q.slot) (length (log_of s.gc.taken q.slot) + 1) (omega arith)

  flips : (roots : List ℕ) → Permitted s (CycleStore roots)
      → SecondsOf (happens s (CycleStore roots))
  flips roots p =
      let was = low 0 (s.gc.cycle + 1) (omega arith) in
      let opened = number_is s.vm.epoch (s.vm.cycle + 1) p.vm.0 in
      record {
        second = λ c o e.
            let m = some_map as_object (pair_to s.gc.pairs c) o
            (sym (object_at-replicas s.gc.pairs c) ∙ e) in
            let q : Pair = m.0 in
            let c_is : q.replica ≡ c = pair_to-replica s.gc.pairs c q m.1 in
            let b = was.back c q m.1 in
            let f = original space s h q.original q (pair_of-to s.gc.pairs c q h.single m.1) in
            let inside = at_object q.original f.0 f.1 in
            let hi = inside.2 in let w = (spaces_wide space s.vm.cycle).0 in let top = size.1 in
            let small : q.original < 2 ^ 24 = omega arith in
            let there : slice_index (slice_set s.words 0 (s.gc.cycle + 1)) (c + 1) ≡ forwarding
            s.vm.epoch q.original = ap (λ (z : ℕ). slice_index
            (slice_set s.words 0 (s.gc.cycle + 1)) (z + 1)) (sym c_is) ∙ b in
            let n : cycle_in (slice_index (slice_set s.words 0 (s.gc.cycle + 1)) (c + 1)) ≡
            s.vm.epoch = ap cycle_in there ∙ cycle_in-forwarding s.vm.epoch q.original small in
            subst (λ (z : ℕ). z ≤ s.vm.cycle + 1) (sym n) (omega arith);
        back = λ c q e. absurd (cc);
      }

  pub seconds_keep : (e : Event) → Permitted s e → SecondsOf (happens s e)
  seconds_keep (VmLoad place word) p = k
  seconds_keep (GcLoad place word) p = k
  seconds_keep (TakeLoad slot word) p = k
  seconds_keep (CopyLoad a i word) p = k
  seconds_keep (HandOver word roots) p = k
  seconds_keep ClearLoad p = k
  seconds_keep ClearStore p = clears p
  seconds_keep (HeaderStore header) p = makes header p
  seconds_keep (FieldStore a i w) p = stores a i w p
  seconds_keep (RecordStore slot r) p =
      low _ _ (ring_in slot (length (log_of s.vm.logs slot)) p.vm.in_range)
  seconds_keep EpochStore p = opens p
  seconds_keep (ReplicaHeaderStore place w) p = places place w p
  seconds_keep (ReplicaFieldStore scans) p = copies_at scans s.gc.copying refl
  seconds_keep (ForwardStore a c) p = forwards a c p
  seconds_keep HeadStore p = heads_at s.gc.taking refl
  seconds_keep (CycleStore roots) p = flips roots p

pub seconds : (space : ℕ) → IsSpace space → (events : List Event) → IsRun space events
    → SecondsOf (run space events)
seconds space size [] h = seconds_start space
seconds space size (e ∷ es) h =
    seconds_keep space size (run space es) (good space size es h.0) (seconds space size es h.0) e
    h.1
