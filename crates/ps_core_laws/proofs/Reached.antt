-- What is copied in a cycle without stores is what is reachable from the roots handed over.
use Rattle.std.proofs.Common.{◌≡◌, ◌≢◌, ℕ, ◌+◌, ◌<◌, Bool, true, false, nat_eq, ◌||◌, List, [], ◌∷◌, ◌++◌, length, Some}
use Rattle.std.proofs.Common.{None, Option, refl, sym, ap, ◌∙◌, inl, inr, subst, arith, is_some}
use Rattle.std.specs.Prelude.{if◌then◌else◌, slice_index}
use Rattle.ps_word.specs.Format.{address_in}
use Rattle.ps_word.specs.Readers.{is_reference}
use Rattle.ps_core_machine.specs.declared.events.Event.{Event}
use Rattle.ps_core_machine.specs.declared.events.Event.TheVariants.{VmLoad, GcLoad, TakeLoad, CopyLoad, HandOver}
use Rattle.ps_core_machine.specs.declared.events.Event.TheVariants.{ClearLoad, ClearStore, HeaderStore, FieldStore}
use Rattle.ps_core_machine.specs.declared.events.Event.TheVariants.{RecordStore, EpochStore, ReplicaHeaderStore}
use Rattle.ps_core_machine.specs.declared.events.Event.TheVariants.{ReplicaFieldStore, ForwardStore, HeadStore}
use Rattle.ps_core_machine.specs.declared.events.Event.TheVariants.{CycleStore}
use Rattle.ps_core_machine.specs.declared.events.Object.{Object}
use Rattle.ps_core_machine.specs.declared.events.Pair.{Pair}
use Rattle.ps_core_machine.specs.declared.events.Carried.{Carried}
use Rattle.ps_core_machine.specs.declared.events.Vm.{Vm}
use Rattle.ps_core_machine.specs.declared.events.Gc.{Gc}
use Rattle.ps_core_machine.specs.Objects.{among, pair_of, holds_values, address_named, addresses_named}
use Rattle.ps_core_machine.specs.Objects.{values_have_replicas, value_has_replica, copied_to}
use Rattle.ps_core_machine.specs.Steps.{State, happens, is_open, header_of, field_stored, copied, word_stored}
use Rattle.ps_core_machine.specs.Conditions.{Permitted}
use Rattle.ps_core_laws.specs.Reach.{Reach, Notes, AreNoted, CopiesReachable, NameTheSame}
use Rattle.ps_core_laws.specs.Reach.Reach.{root, through}
use Rattle.ps_core_laws.specs.Runs.{run, IsRun, IsSpace}
use Rattle.ps_core_laws.proofs.HeapTests.{bool_cases, and_parts, or_parts, or_left, or_right, clash, number_is}
use Rattle.ps_core_laws.proofs.HeapTests.{number_not, at_number}
use Rattle.ps_core_laws.proofs.Bases.{some_match}
use Rattle.ps_core_laws.proofs.Lookups.{object_at-address, among-append, pair_of-with_copy}
use Rattle.ps_core_laws.proofs.Shown.{some_map}
use Rattle.ps_core_laws.proofs.Keeping.{Good, original}
use Rattle.ps_core_laws.proofs.Kept.{good}
use Rattle.ps_core_laws.proofs.LawFacts.{carries_so}

or_assoc : (x y z : Bool) → (x || (y || z)) ≡ ((x || y) || z)
or_assoc true y z = refl
or_assoc false y z = refl

addresses-append : (xs ys : List ℕ) (b : ℕ)
    → among (addresses_named (xs ++ ys)) b ≡
    (among (addresses_named xs) b || among (addresses_named ys) b)
addresses-append [] ys b = refl
addresses-append (w ∷ xs) ys b = elim (bool_cases (is_reference w)) [
  | inl is ↦ rw is (ap (λ (x : Bool). nat_eq b (address_in w) || x) (addresses-append xs ys b)
      ∙ or_assoc (nat_eq b (address_in w)) (among (addresses_named xs) b)
      (among (addresses_named ys) b))
  | inr not ↦ rw not (addresses-append xs ys b)
]

more : (os : List Object) (xs ys : List ℕ) (b : ℕ) → Reach os ys b → Reach os (xs ++ ys) b
more os xs ys b (root a e) =
    root a (addresses-append xs ys a
    ∙ or_right (among (addresses_named xs) a) (among (addresses_named ys) a) e)
more os xs ys b (through a i o r at refers) = through a i o (more os xs ys a r) at refers

others : (os : List Object) (xs ys : List ℕ) (b : ℕ)
    → ((c : ℕ) → among (addresses_named xs) c ≡ among (addresses_named ys) c) → Reach os xs b
    → Reach os ys b
others os xs ys b same (root a e) = root a (sym (same a) ∙ e)
others os xs ys b same (through a i o r at refers) =
    through a i o (others os xs ys a same r) at refers

pub record Reached (s : State) : Type 0 where
  pub known : s.vm.stored ≡ false → (b : ℕ) → among s.gc.known b ≡ true
      → Reach s.vm.objects s.gc.handed b
  pub paired : (a : ℕ) (p : Pair) → pair_of s.gc.pairs a ≡ Some p → among s.gc.known a ≡ true

stored_true : (v : Vm) (a i w : ℕ) → (field_stored v a i w).stored ≡ true
stored_true v a i w = elim (bool_cases (among v.fresh a)) [ inl t ↦ rw t refl | inr f ↦ rw f refl ]

stored_open : (v : Vm) (a i w : ℕ) → is_open (field_stored v a i w) ≡ is_open v
stored_open v a i w = elim (bool_cases (among v.fresh a)) [ inl t ↦ rw t refl | inr f ↦ rw f refl ]

named_one : (w b : ℕ) → among (address_named w) b ≡ true → (is_reference w ≡ true)
    × (b ≡ address_in w)
named_one w b e = elim (bool_cases (is_reference w)) [
  | inl is ↦ let e' = rw is at e in
      elim (or_parts (nat_eq b (address_in w)) false e')
      [ inl t ↦ (is, number_is b (address_in w) t) | inr f ↦ clash false f refl ]
  | inr not ↦ let e' = rw not at e in clash false e' refl
]

handed_more : (x : Bool) (os : List Object) (roots known handed : List ℕ) (b : ℕ)
    → (among known b ≡ true → Reach os handed b)
    → among ((if x then addresses_named roots else []) ++ known) b ≡ true
    → Reach os ((if x then roots else []) ++ handed) b
handed_more true os roots known handed b k e =
    elim (or_parts (among (addresses_named roots) b) (among known b)
    (sym (among-append (addresses_named roots) known b) ∙ e)) [
      | inl f ↦ root b (addresses-append roots handed b
          ∙ or_left (among (addresses_named roots) b) (among (addresses_named handed) b) f)
      | inr f ↦ more os roots handed b (k f)
    ]
handed_more false os roots known handed b k e = k e

known_more : (xs ys : List ℕ) (b : ℕ) → among ys b ≡ true → among (xs ++ ys) b ≡ true
known_more xs ys b e = among-append xs ys b ∙ or_right (among xs b) (among ys b) e

copied_pair : (g : Gc) (k : Option Carried) (scans : Bool) (a : ℕ) (p : Pair)
    → pair_of (copied g k scans) a ≡ Some p → (q : Pair) × (pair_of g.pairs a ≡ Some q)
copied_pair g None scans a p e = (p, e)
copied_pair g (Some k) scans a p e =
    let m = some_map (copied_to k.address k.field (word_stored g k) scans) (pair_of g.pairs a) p
    (sym (pair_of-with_copy g.pairs k.address k.field (word_stored g k) scans a) ∙ e) in
    (m.0, m.1)

module _ (space : ℕ) (s : State) (h : Good space s) (k : Reached s) where
  copies : (a i word : ℕ) → Permitted s (CopyLoad a i word)
      → Reached (happens s (CopyLoad a i word))
  copies a i word p =
      let m = some_match (λ (q : Pair). i < length q.fields) (pair_of s.gc.pairs a) p.gc.1 in
      let q : Pair = m.0 in
      let at : pair_of s.gc.pairs a ≡ Some q = m.1 in
      let o = original space s h a q at in
      let lt : i < length o.0.fields = let e = o.2.fields in let l = m.2 in omega arith in
      let is : word ≡ slice_index o.0.fields i =
      sym p.both ∙ (ap (λ (z : ℕ). slice_index s.words (z + 2 + i))
      (sym (object_at-address s.vm.objects a o.0 o.1))
      ∙ (h.current.shown a o.0 o.1).fields i lt) in
      let header : header_of (pair_of s.gc.pairs a) ≡ o.0.header = ap header_of at
      ∙ sym o.2.header in
      let reaches : s.vm.stored ≡ false → (b : ℕ)
      → holds_values (header_of (pair_of s.gc.pairs a)) ≡ true → (is_reference word ≡ true)
      × (b ≡ address_in word) → Reach s.vm.objects s.gc.handed b =
      λ st b holds r.
      let ref : is_reference (slice_index o.0.fields i) ≡ true = ap is_reference (sym is) ∙ r.0 in
      let hv : holds_values o.0.header ≡ true = ap holds_values (sym header) ∙ holds in
      subst (Reach s.vm.objects s.gc.handed) (sym (r.1 ∙ ap address_in is))
      (through a i o.0 (k.known st a (k.paired a q at)) o.1
      (record { within = lt; value = hv; reference = ref })) in
      record {
        known = λ st b e. elim (or_parts
            (among (if holds_values (header_of (pair_of s.gc.pairs a)) then address_named word else
            []) b) (among s.gc.known b)
            (sym (among-append (if holds_values (header_of (pair_of s.gc.pairs a)) then
            address_named word else []) s.gc.known b) ∙ e)) [
              | inl f ↦ elim (bool_cases (holds_values (header_of (pair_of s.gc.pairs a)))) [
                | inl t ↦ reaches st b t (named_one word b
                    (sym (ap (λ (x : Bool). among (if x then address_named word else []) b) t) ∙ f))
                | inr n ↦ clash false (sym
                    (ap (λ (x : Bool). among (if x then address_named word else []) b) n) ∙ f) refl
              ]
              | inr f ↦ k.known st b f
            ];
        paired = λ b r e. known_more
            (if holds_values (header_of (pair_of s.gc.pairs a)) then address_named word else [])
            s.gc.known b (k.paired b r e);
      }

  forwards : (a c : ℕ) → Permitted s (ForwardStore a c) → Reached (happens s (ForwardStore a c))
  forwards a c p = record {
    known = k.known;
    paired = λ b r e. elim (at_number a b) [
      | inl is ↦ ap (among s.gc.known) is ∙ p.gc.known
      | inr ne ↦ let e' = rw ne at e in k.paired b r e'
    ];
  }

  pub reach_keeps : (e : Event) → Permitted s e → Reached (happens s e)
  reach_keeps (VmLoad place word) p = record { known = k.known; paired = k.paired }
  reach_keeps (GcLoad place word) p = record { known = k.known; paired = k.paired }
  reach_keeps (TakeLoad slot word) p = record { known = k.known; paired = k.paired }
  reach_keeps (CopyLoad a i word) p = copies a i word p
  reach_keeps (HandOver word roots) p = record {
    known = λ st b e. handed_more (is_open s.vm) s.vm.objects roots s.gc.known s.gc.handed b
        (k.known st b) e;
    paired = λ b r e. known_more (if is_open s.vm then addresses_named roots else []) s.gc.known b
        (k.paired b r e);
  }
  reach_keeps ClearLoad p = record { known = k.known; paired = k.paired }
  reach_keeps ClearStore p = record { known = k.known; paired = k.paired }
  reach_keeps (HeaderStore header) p =
      record { known = λ st. clash true refl st; paired = k.paired }
  reach_keeps (FieldStore a i w) p =
      record {
        known = λ st. clash (field_stored s.vm a i w).stored (stored_true s.vm a i w) st;
        paired = k.paired;
      }
  reach_keeps (RecordStore slot r) p = record { known = k.known; paired = k.paired }
  reach_keeps EpochStore p = record {
    known = λ st b e. let opened : s.vm.epoch ≡ s.vm.cycle + 1 =
        number_is s.vm.epoch (s.vm.cycle + 1) (h.heap.in_cycle b e) in
        let shut : s.vm.epoch ≡ s.vm.cycle = p.vm.0 in absurd (omega arith);
    paired = k.paired;
  }
  reach_keeps (ReplicaHeaderStore place w) p = record { known = k.known; paired = k.paired }
  reach_keeps (ReplicaFieldStore scans) p =
      record {
        known = k.known;
        paired = λ b r e. let m =
            copied_pair s.gc s.gc.copying scans b r e in k.paired b m.0 m.1;
      }
  reach_keeps (ForwardStore a c) p = forwards a c p
  reach_keeps HeadStore p = record { known = k.known; paired = k.paired }
  reach_keeps (CycleStore roots) p =
      record { known = λ st b e. clash false e refl; paired = λ b r e. absurd (cc) }

  carried_has : (ps : List Pair) (ws : List ℕ) (b : ℕ) → values_have_replicas ps ws ≡ true
      → among (addresses_named ws) b ≡ true → pair_of ps b ≢ None
  carried_has ps [] b all e = clash false e refl
  carried_has ps (w ∷ ws) b all e =
      let parts = and_parts (value_has_replica ps w) (values_have_replicas ps ws) all in
      elim (bool_cases (is_reference w)) [
        | inl is ↦ let e' = rw is at e in let here = rw is at parts.0 in
            elim (or_parts (nat_eq b (address_in w)) (among (addresses_named ws) b) e') [
              | inl t ↦ (λ none. clash (is_some (pair_of ps (address_in w))) here
                  (ap (λ (z : ℕ). is_some (pair_of ps z)) (sym (number_is b (address_in w) t))
                  ∙ ap is_some none))
              | inr f ↦ carried_has ps ws b parts.1 f
            ]
        | inr not ↦ let e' = rw not at e in carried_has ps ws b parts.1 e'
      ]

  some_pair : (x : Option Pair) → x ≢ None → (p : Pair) × (x ≡ Some p)
  some_pair None ne = absurd (ne refl)
  some_pair (Some p) ne = (p, refl)

  reached_has : IsSpace space → (roots : List ℕ) → Permitted s (CycleStore roots) → (b : ℕ)
      → Reach s.vm.objects roots b → pair_of s.gc.pairs b ≢ None
  reached_has size roots p b (root a e) = carried_has s.gc.pairs roots a p.gc.3 e
  reached_has size roots p b (through a i o r at refers) =
      let q = some_pair (pair_of s.gc.pairs a) (reached_has size roots p a r) in
      carries_so space size s h roots p a i o q.0 at q.1 refers

  has_reached : (roots : List ℕ) → s.vm.stored ≡ false → NameTheSame s.gc.handed roots → (a : ℕ)
      → pair_of s.gc.pairs a ≢ None → Reach s.vm.objects roots a
  has_reached roots st same a some =
      let q = some_pair (pair_of s.gc.pairs a) some in
      others s.vm.objects s.gc.handed roots a same (k.known st a (k.paired a q.0 q.1))

pub reached : (space : ℕ) → IsSpace space → (events : List Event) → IsRun space events
    → Reached (run space events)
reached space size [] h =
    record { known = λ st b e. clash false e refl; paired = λ a p e. absurd (cc) }
reached space size (e ∷ es) h =
    reach_keeps space (run space es) (good space size es h.0) (reached space size es h.0) e h.1

-- ---- what the parts note

notes_keep : (s : State) (events : List Event) (e : Event) → Notes s events → Permitted s e
    → Notes (happens s e) (e ∷ events)
notes_keep s events (VmLoad place word) k p =
    record { stored = k.stored; handed = k.handed; shut = k.shut }
notes_keep s events (GcLoad place word) k p =
    record { stored = k.stored; handed = k.handed; shut = k.shut }
notes_keep s events (TakeLoad slot word) k p =
    record { stored = k.stored; handed = k.handed; shut = k.shut }
notes_keep s events (CopyLoad a i word) k p =
    record { stored = k.stored; handed = k.handed; shut = k.shut }
notes_keep s events (HandOver word roots) k p = record {
  stored = k.stored;
  handed = λ opened. rw opened (ap (λ (xs : List ℕ). roots ++ xs) (k.handed opened));
  shut = λ closed. rw closed (k.shut closed);
}
notes_keep s events ClearLoad k p = record { stored = k.stored; handed = k.handed; shut = k.shut }
notes_keep s events ClearStore k p = record { stored = k.stored; handed = k.handed; shut = k.shut }
notes_keep s events (HeaderStore header) k p =
    record { stored = refl; handed = k.handed; shut = k.shut }
notes_keep s events (FieldStore a i w) k p = record {
  stored = stored_true s.vm a i w;
  handed = λ opened. k.handed (sym (stored_open s.vm a i w) ∙ opened);
  shut = λ closed. k.shut (sym (stored_open s.vm a i w) ∙ closed);
}
notes_keep s events (RecordStore slot r) k p =
    record { stored = k.stored; handed = k.handed; shut = k.shut }
notes_keep s events EpochStore k p =
    let same = p.vm.0 in
    let none : s.gc.handed ≡ [] =
    k.shut (number_not s.vm.epoch (s.vm.cycle + 1) (λ e. omega arith)) in
    record { stored = refl; handed = λ opened. none; shut = λ closed. none }
notes_keep s events (ReplicaHeaderStore place w) k p =
    record { stored = k.stored; handed = k.handed; shut = k.shut }
notes_keep s events (ReplicaFieldStore scans) k p =
    record { stored = k.stored; handed = k.handed; shut = k.shut }
notes_keep s events (ForwardStore a c) k p =
    record { stored = k.stored; handed = k.handed; shut = k.shut }
notes_keep s events HeadStore k p = record { stored = k.stored; handed = k.handed; shut = k.shut }
notes_keep s events (CycleStore roots) k p =
    let opened = number_is s.vm.epoch (s.vm.cycle + 1) p.vm.0 in
    record {
      stored = k.stored;
      handed = λ again. let still = number_is s.vm.epoch (s.vm.cycle + 1 + 1) again in
          absurd (omega arith);
      shut = λ closed. refl;
    }

pub noted : (space : ℕ) → IsSpace space → (events : List Event) → IsRun space events
    → AreNoted space events
noted space size [] h = record { stored = refl; handed = λ opened. refl; shut = λ closed. refl }
noted space size (e ∷ es) h = notes_keep (run space es) es e (noted space size es h.0) h.1

pub exact : (space : ℕ) → IsSpace space → (events : List Event) → IsRun space events
    → CopiesReachable space events
exact space size events h roots p none same a =
    let s : State = run space events in
    let n = noted space size events h in
    let g = good space size events h in
    let r = reached space size events h in (
      has_reached space s g r roots (n.stored ∙ none)
          (λ b. ap (λ (xs : List ℕ). among (addresses_named xs) b) (n.handed p.vm.0) ∙ same b) a,
      reached_has space s g r size roots p a,
    )
