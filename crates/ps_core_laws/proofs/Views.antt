-- A state seen as a heap: objects and replicas by functions, words by what they name.
use Rattle.std.proofs.Common.{◌≡◌, ℕ, ◌^◌, ◌<◌, Bool, true, false, not, nat_eq, ◌&&◌, ◌||◌, List, [], ◌∷◌, length, Some}
use Rattle.std.proofs.Common.{None, Option, refl, sym, ap, ◌∙◌, inl, inr, arith, length-set, slice_index_or, is_some}
use Rattle.std.proofs.Common.{map}
use Rattle.std.specs.Prelude.{if◌then◌else◌, slice_set, slice_index, nat_le}
use Rattle.std.specs.Option.{option_map}
use Rattle.std.proofs.lemmas.List.{get_or-set_same, get_or-set_other}
use Rattle.ps_word.specs.Format.{address_in}
use Rattle.ps_word.specs.Readers.{is_reference, readdressed}
use Rattle.ps_word.proofs.Changes.{readdressed-same, address_in-readdressed, readdressed-twice, type-readdressed}
use Rattle.ps_core_machine.specs.declared.events.Object.{Object}
use Rattle.ps_core_machine.specs.declared.events.Pair.{Pair}
use Rattle.ps_core_machine.specs.declared.events.Carried.{Carried}
use Rattle.ps_core_machine.specs.Objects.{among, object_at, pair_of, pair_to, holds_values, with_field, with_copy}
use Rattle.ps_core_machine.specs.Objects.{address_named, addresses_named, redirected, renamed_value, renamed}
use Rattle.ps_core_machine.specs.Objects.{word_has_replica, value_stands, word_stands, values_stand, is_written, stored}
use Rattle.ps_core_machine.specs.Objects.{copied_to}
use Rattle.ps_core_machine.specs.Steps.{State, is_open, header_of}
use Rattle.ps_core_machine.specs.Bounds.{AllLow}
use Rattle.ps_core_laws.specs.Laws.{AreSingle, ahead_of}
use Rattle.ps_core_laws.proofs.Heap.{Word, Heap, Load, put2, named_by, named_among, IsCovered, Stands, AllStand}
use Rattle.ps_core_laws.proofs.Heap.Word.{Plain, Ref}
use Rattle.ps_core_laws.proofs.Heap as heap
use Rattle.ps_core_laws.proofs.HeapTests.{bool_cases, and_parts, clash, number_not, at_number, eq_true}
use Rattle.ps_core_laws.proofs.Lookups.{object_at-address, pair_of-original, object_at-with_field, pair_of-with_copy}
use Rattle.ps_core_laws.proofs.Lookups.{pair_to-with_copy}

-- ---- the view

-- what a value names, and the rest of it
abbrev pub value_of : ℕ → Word
value_of w = if is_reference w then Ref (address_in w) (readdressed w 0) else Plain w

-- a word of an object with this header
abbrev pub word_of : ℕ → ℕ → Word
word_of header w = if holds_values header then value_of w else Plain w

abbrev pub size_in : Option Object → ℕ
size_in None = 0
size_in (Some o) = length o.fields

abbrev pub word_in : Option Object → ℕ → Word
word_in None i = Plain 0
word_in (Some o) i = word_of o.header (slice_index o.fields i)

abbrev pub replica_in : Option Pair → Option ℕ
replica_in None = None
replica_in (Some p) = Some p.replica

abbrev pub original_in : Option Pair → Option ℕ
original_in None = None
original_in (Some p) = Some p.original

abbrev pub copy_in : Option Pair → ℕ → Word
copy_in None i = Plain 0
copy_in (Some p) i = word_of p.header (slice_index p.fields i)

abbrev pub filled_in : Option Pair → ℕ → Bool
filled_in None i = false
filled_in (Some p) i = slice_index_or p.filled i false

abbrev pub load_of : List Pair → Option Carried → Option Load
load_of ps None = None
load_of ps (Some k) = Some record { a = k.address; i = k.field; w = word_of (header_of (pair_of ps k.address)) k.word }

abbrev pub replica_by : List Pair → ℕ → Option ℕ
replica_by ps a = replica_in (pair_of ps a)

abbrev pub stands_in : List Object → ℕ → Bool
stands_in os a = is_some (object_at os a)

abbrev pub view : State → Heap
view s = record {
  opened = is_open s.vm;
  stands = stands_in s.vm.objects;
  size = λ a. size_in (object_at s.vm.objects a);
  field = λ a i. word_in (object_at s.vm.objects a) i;
  fresh = among s.vm.fresh;
  unlogged = is_written s.vm.written;
  ahead = ahead_of s;
  taking = s.gc.taking;
  replica = replica_by s.gc.pairs;
  origin = λ c. original_in (pair_to s.gc.pairs c);
  copy = λ a i. copy_in (pair_of s.gc.pairs a) i;
  filled = λ a i. filled_in (pair_of s.gc.pairs a) i;
  copying = load_of s.gc.pairs s.gc.copying;
  known = among s.gc.known;
}

-- heaps that are the same everywhere are the same
pub heap_ext : (s t : Heap) → s.opened ≡ t.opened → ((a : ℕ) → s.stands a ≡ t.stands a)
    → ((a : ℕ) → s.size a ≡ t.size a) → ((a i : ℕ) → s.field a i ≡ t.field a i) → ((a : ℕ) → s.fresh a ≡ t.fresh a)
    → ((a i : ℕ) → s.unlogged a i ≡ t.unlogged a i) → ((slot : ℕ) → s.ahead slot ≡ t.ahead slot) → s.taking ≡ t.taking
    → ((a : ℕ) → s.replica a ≡ t.replica a) → ((c : ℕ) → s.origin c ≡ t.origin c)
    → ((a i : ℕ) → s.copy a i ≡ t.copy a i) → ((a i : ℕ) → s.filled a i ≡ t.filled a i) → s.copying ≡ t.copying
    → ((a : ℕ) → s.known a ≡ t.known a) → s ≡ t
heap_ext s t opened stands size field fresh unlogged ahead taking replica origin copy filled copying known =
    λ k. record {
      opened = opened k;
      stands = λ a. stands a k;
      size = λ a. size a k;
      field = λ a i. field a i k;
      fresh = λ a. fresh a k;
      unlogged = λ a i. unlogged a i k;
      ahead = λ slot. ahead slot k;
      taking = taking k;
      replica = λ a. replica a k;
      origin = λ c. origin c k;
      copy = λ a i. copy a i k;
      filled = λ a i. filled a i k;
      copying = copying k;
      known = λ a. known a k;
    }

-- ---- renaming

reference_kept : (w c : ℕ) → c < 2 ^ 24 → is_reference w ≡ true → is_reference (readdressed w c) ≡ true
reference_kept w c lt is = ap (λ t. nat_le 6 t && nat_le t 11) (type-readdressed w c lt) ∙ is

pub value_of-reference : (w : ℕ) → is_reference w ≡ true → value_of w ≡ Ref (address_in w) (readdressed w 0)
value_of-reference w is = rw is refl

value_of-renamed : (ps : List Pair) (w : ℕ) → AllLow ps → is_reference w ≡ true → (x : Option Pair)
    → pair_of ps (address_in w) ≡ x → value_of (redirected x w)
    ≡ heap.redirected (replica_in x) (address_in w) (readdressed w 0)
value_of-renamed ps w low is None at = value_of-reference w is
value_of-renamed ps w low is (Some p) at =
    let lt = low (address_in w) p at in
    value_of-reference (readdressed w p.replica) (reference_kept w p.replica lt is)
    ∙ (ap (λ (a : ℕ). Ref a (readdressed (readdressed w p.replica) 0)) (address_in-readdressed w p.replica lt)
    ∙ ap (Ref p.replica) (readdressed-twice w p.replica 0 lt))

-- a renamed word says what the word says, renamed
pub word_of-renamed : (ps : List Pair) (header w : ℕ) → AllLow ps
    → word_of header (renamed ps header w) ≡ heap.renamed (replica_by ps) (word_of header w)
word_of-renamed ps header w low = elim (bool_cases (holds_values header)) [
  | inr f ↦ rw f refl
  | inl t ↦ elim (bool_cases (is_reference w)) [
    | inl is ↦ rw t (
        let whole : value_of (renamed_value ps w) ≡ heap.renamed (replica_by ps) (value_of w) =
        ap value_of (let e : renamed_value ps w ≡ redirected (pair_of ps (address_in w)) w = rw is refl in e)
        ∙ (value_of-renamed ps w low is (pair_of ps (address_in w)) refl
        ∙ sym (ap (heap.renamed (replica_by ps)) (value_of-reference w is))) in
        whole)
    | inr not ↦ rw t (
        let same : renamed_value ps w ≡ w = rw not refl in
        let plain : value_of w ≡ Plain w = rw not refl in
        let whole : value_of (renamed_value ps w) ≡ heap.renamed (replica_by ps) (value_of w) = ap value_of same
        ∙ (plain ∙ sym (ap (heap.renamed (replica_by ps)) plain)) in
        whole)
  ]
]

-- two words that say the same are the same
whole_again : (w : ℕ) → readdressed (readdressed w 0) (address_in w) ≡ w
whole_again w = readdressed-twice w 0 (address_in w) (omega arith) ∙ readdressed-same w

pub value_of-same : (w v : ℕ) → value_of w ≡ value_of v → w ≡ v
value_of-same w v e = elim (bool_cases (is_reference w)) [
  | inl is ↦ elim (bool_cases (is_reference v)) [
    | inl is' ↦
        let both : Ref (address_in w) (readdressed w 0) ≡ Ref (address_in v) (readdressed v 0) =
        sym (value_of-reference w is) ∙ (e ∙ value_of-reference v is') in
        let a : address_in w ≡ address_in v = cc in
        let x : readdressed w 0 ≡ readdressed v 0 = cc in
        sym (whole_again w)
        ∙ (ap (λ (z : ℕ). readdressed z (address_in w)) x ∙ (ap (readdressed (readdressed v 0)) a ∙ whole_again v))
    | inr not ↦ let plain : value_of v ≡ Plain v = rw not refl in
        let bad : Ref (address_in w) (readdressed w 0) ≡ Plain v = sym (value_of-reference w is) ∙ (e ∙ plain) in
        absurd (cc)
  ]
  | inr not ↦ let plain : value_of w ≡ Plain w = rw not refl in elim (bool_cases (is_reference v)) [
    | inl is' ↦ let bad : Plain w ≡ Ref (address_in v) (readdressed v 0) = sym plain ∙ (e ∙ value_of-reference v is') in
        absurd (cc)
    | inr not' ↦ let plain' : value_of v ≡ Plain v = rw not' refl in
        let both : Plain w ≡ Plain v = sym plain ∙ (e ∙ plain') in cc
  ]
]

pub word_of-same : (header w v : ℕ) → word_of header w ≡ word_of header v → w ≡ v
word_of-same header w v e = elim (bool_cases (holds_values header)) [
  | inl t ↦ let e' = rw t at e in value_of-same w v e'
  | inr f ↦ let e' = rw f at e in cc
]

-- ---- what words name

pub value_stands-is : (os : List Object) (w : ℕ) → value_stands os w ≡ true → Stands (stands_in os) (value_of w)
value_stands-is os w e = elim (bool_cases (is_reference w)) [
  | inl is ↦ rw is (let e' = rw is at e in e')
  | inr not ↦ rw not tt
]

pub word_stands-is : (os : List Object) (header w : ℕ) → word_stands os header w ≡ true
    → Stands (stands_in os) (word_of header w)
word_stands-is os header w e = elim (bool_cases (holds_values header)) [
  | inl t ↦ rw t (let e' = rw t at e in value_stands-is os w e')
  | inr f ↦ rw f tt
]

pub values_stand-are : (os : List Object) (ws : List ℕ) → values_stand os ws ≡ true
    → AllStand (stands_in os) (map value_of ws)
values_stand-are os [] e = tt
values_stand-are os (w ∷ ws) e = let p = and_parts (value_stands os w) (values_stand os ws) e in
    (value_stands-is os w p.0, values_stand-are os ws p.1)

covered_of : (ps : List Pair) (a x : ℕ) → is_some (pair_of ps a) ≡ true → IsCovered (replica_by ps) (Ref a x)
covered_of ps a x e = go (pair_of ps a) refl e
  where
    go : (y : Option Pair) → pair_of ps a ≡ y → is_some y ≡ true → (c : ℕ) × (replica_in (pair_of ps a) ≡ Some c)
    go None at e = absurd (cc)
    go (Some p) at e = (p.replica, ap replica_in at)

pub word_covered : (ps : List Pair) (header w : ℕ) → word_has_replica ps header w ≡ true
    → IsCovered (replica_by ps) (word_of header w)
word_covered ps header w e = elim (bool_cases (holds_values header)) [
  | inl t ↦ rw t (let e' = rw t at e in elim (bool_cases (is_reference w)) [
    | inl is ↦ rw is (let e'' = rw is at e' in covered_of ps (address_in w) (readdressed w 0) e'')
    | inr not ↦ rw not tt
  ])
  | inr f ↦ rw f tt
]

or_false : (x : Bool) → (x || false) ≡ x
or_false true = refl
or_false false = refl

pub value_of-named : (w b : ℕ) → named_by (value_of w) b ≡ among (address_named w) b
value_of-named w b = elim (bool_cases (is_reference w)) [
  | inl is ↦ rw is (sym (or_false (nat_eq b (address_in w))))
  | inr not ↦ rw not refl
]

pub word_of-named : (header w b : ℕ)
    → named_by (word_of header w) b ≡ among (if holds_values header then address_named w else []) b
word_of-named header w b = elim (bool_cases (holds_values header)) [
  | inl t ↦ rw t (value_of-named w b)
  | inr f ↦ rw f refl
]

pub values_named : (ws : List ℕ) (b : ℕ) → named_among (map value_of ws) b ≡ among (addresses_named ws) b
values_named [] b = refl
values_named (w ∷ ws) b = elim (bool_cases (is_reference w)) [
  | inl is ↦ rw is (ap (λ (x : Bool). nat_eq b (address_in w) || x) (values_named ws b))
  | inr not ↦ rw not (values_named ws b)
]

-- ---- a store to a field

pub stands-with_field : (os : List Object) (a i w b : ℕ) → stands_in (with_field os a i w) b ≡ stands_in os b
stands-with_field os a i w b = ap is_some (object_at-with_field os a i w b) ∙ go (object_at os b)
  where
    go : (x : Option Object) → is_some (option_map (stored a i w) x) ≡ is_some x
    go None = refl
    go (Some o) = refl

pub size-with_field : (os : List Object) (a i w b : ℕ)
    → size_in (object_at (with_field os a i w) b) ≡ size_in (object_at os b)
size-with_field os a i w b = ap size_in (object_at-with_field os a i w b) ∙ go (object_at os b)
  where
    go : (x : Option Object) → size_in (option_map (stored a i w) x) ≡ size_in x
    go None = refl
    go (Some o) = elim (bool_cases (nat_eq a o.address)) [ inl t ↦ rw t (length-set o.fields i w) | inr f ↦ rw f refl ]

pub word-with_field : (os : List Object) (a i w : ℕ) (o : Object) → object_at os a ≡ Some o → i < length o.fields
    → (b j : ℕ)
    → word_in (object_at (with_field os a i w) b) j
    ≡ put2 (λ b j. word_in (object_at os b) j) a i (word_of o.header w) b j
word-with_field os a i w o at lt b j = ap (λ (x : Option Object). word_in x j) (object_at-with_field os a i w b)
    ∙ elim (at_number a b) [
      | inl is ↦
          let t : nat_eq b a ≡ true = eq_true b a is in
          let here : object_at os b ≡ Some o = ap (object_at os) is ∙ at in
          let u : nat_eq a o.address ≡ true = eq_true a o.address (sym (object_at-address os a o at)) in
          let now : option_map (stored a i w) (object_at os b) ≡ Some (record o { fields = slice_set o.fields i w }) =
          ap (option_map (stored a i w)) here
          ∙ ap Some (let e : stored a i w o ≡ record o { fields = slice_set o.fields i w } = rw u refl in e) in
          ap (λ (x : Option Object). word_in x j) now ∙ elim (at_number i j) [
            | inl same ↦ rw (t, eq_true j i same) (ap (word_of o.header) (ap (slice_index (slice_set o.fields i w)) same
                ∙ get_or-set_same o.fields i w 0 lt))
            | inr ne ↦ rw (t, ne)
                (ap (word_of o.header) (get_or-set_other o.fields i j w 0 (λ s. clash (nat_eq j i) (eq_true j i s) ne))
                ∙ sym (ap (λ (x : Option Object). word_in x j) here))
          ]
      | inr ne ↦ rw ne (ap (λ (x : Option Object). word_in x j) (go (object_at os b) refl ne))
    ]
  where
    go : (x : Option Object) → object_at os b ≡ x → nat_eq b a ≡ false → option_map (stored a i w) x ≡ x
    go None e ne = refl
    go (Some q) e ne = let t : nat_eq a q.address ≡ false =
        number_not a q.address (λ s. clash (nat_eq b a) (eq_true b a (sym (s ∙ object_at-address os b q e))) ne) in
        rw t refl

-- ---- a store to a field of a replica

module _ (ps : List Pair) (a i w : ℕ) (scans : Bool) (p : Pair) (at : pair_of ps a
    ≡ Some p) (lt : i < length p.fields) (full : length p.filled ≡ length p.fields) where
  now_p : Pair
  now_p = record p { fields = slice_set p.fields i w; filled = if scans then slice_set p.filled i true else p.filled }

  of_a : nat_eq a p.original ≡ true
  of_a = eq_true a p.original (sym (pair_of-original ps a p at))

  here_now : (b : ℕ) → b ≡ a → pair_of (with_copy ps a i w scans) b ≡ Some now_p
  unfolding now_p
  here_now b is = pair_of-with_copy ps a i w scans b
      ∙ (ap (option_map (copied_to a i w scans)) (ap (pair_of ps) is ∙ at)
      ∙ ap Some (let t = of_a in let e : copied_to a i w scans p
      ≡ record p { fields = slice_set p.fields i w; filled = if scans then slice_set p.filled i true else p.filled } =
      rw t refl in e))

  there_now : (b : ℕ) → nat_eq b a ≡ false → pair_of (with_copy ps a i w scans) b ≡ pair_of ps b
  there_now b ne = pair_of-with_copy ps a i w scans b ∙ go (pair_of ps b) refl
    where
      go : (x : Option Pair) → pair_of ps b ≡ x → option_map (copied_to a i w scans) x ≡ x
      go None e = refl
      go (Some q) e = let t : nat_eq a q.original ≡ false =
          number_not a q.original (λ s. clash (nat_eq b a) (eq_true b a (sym (s ∙ pair_of-original ps b q e))) ne) in
          rw t refl

  pub replica-with_copy : (b : ℕ) → replica_by (with_copy ps a i w scans) b ≡ replica_by ps b
  unfolding now_p
  replica-with_copy b = elim (at_number a b) [
    | inl is ↦ ap replica_in (here_now b is) ∙ sym (ap replica_in (ap (pair_of ps) is ∙ at))
    | inr ne ↦ ap replica_in (there_now b ne)
  ]

  pub header-with_copy : (b : ℕ) → header_of (pair_of (with_copy ps a i w scans) b) ≡ header_of (pair_of ps b)
  unfolding now_p
  header-with_copy b = elim (at_number a b) [
    | inl is ↦ ap header_of (here_now b is) ∙ sym (ap header_of (ap (pair_of ps) is ∙ at))
    | inr ne ↦ ap header_of (there_now b ne)
  ]

  pub origin-with_copy : AreSingle ps → (c : ℕ)
      → original_in (pair_to (with_copy ps a i w scans) c) ≡ original_in (pair_to ps c)
  origin-with_copy single c = ap original_in (pair_to-with_copy ps a i w scans c) ∙ go (pair_to ps c)
    where
      go : (x : Option Pair) → original_in (option_map (copied_to a i w scans) x) ≡ original_in x
      go None = refl
      go (Some q) = elim (bool_cases (nat_eq a q.original)) [ inl t ↦ rw t refl | inr f ↦ rw f refl ]

  pub copy-with_copy : (b j : ℕ)
      → copy_in (pair_of (with_copy ps a i w scans) b) j
      ≡ put2 (λ b j. copy_in (pair_of ps b) j) a i (word_of p.header w) b j
  unfolding now_p
  copy-with_copy b j = elim (at_number a b) [
    | inl is ↦
        let t : nat_eq b a ≡ true = eq_true b a is in
        let was : pair_of ps b ≡ Some p = ap (pair_of ps) is ∙ at in
        ap (λ (x : Option Pair). copy_in x j) (here_now b is) ∙ elim (at_number i j) [
          | inl same ↦ rw (t, eq_true j i same) (ap (word_of p.header) (ap (slice_index (slice_set p.fields i w)) same
              ∙ get_or-set_same p.fields i w 0 lt))
          | inr ne ↦ rw (t, ne)
              (ap (word_of p.header) (get_or-set_other p.fields i j w 0 (λ s. clash (nat_eq j i) (eq_true j i s) ne))
              ∙ sym (ap (λ (x : Option Pair). copy_in x j) was))
        ]
    | inr ne ↦ rw ne (ap (λ (x : Option Pair). copy_in x j) (there_now b ne))
  ]

  pub filled-with_copy : (b j : ℕ)
      → filled_in (pair_of (with_copy ps a i w scans) b) j
      ≡ (if scans then put2 (λ b j. filled_in (pair_of ps b) j) a i true b j else filled_in (pair_of ps b) j)
  unfolding now_p
  filled-with_copy b j = elim (at_number a b) [
    | inl is ↦
        let t : nat_eq b a ≡ true = eq_true b a is in
        let was : pair_of ps b ≡ Some p = ap (pair_of ps) is ∙ at in
        ap (λ (x : Option Pair). filled_in x j) (here_now b is) ∙ elim (bool_cases scans) [
          | inr f ↦ rw f (sym (ap (λ (x : Option Pair). filled_in x j) was))
          | inl s ↦ rw s (elim (at_number i j) [
            | inl same ↦ rw (t, eq_true j i same)
                (ap (λ (z : ℕ). slice_index_or (slice_set p.filled i true) z false) same
                ∙ get_or-set_same p.filled i true false (omega arith))
            | inr ne ↦ rw (t, ne) (get_or-set_other p.filled i j true false (λ e. clash (nat_eq j i) (eq_true j i e) ne)
                ∙ sym (ap (λ (x : Option Pair). filled_in x j) was))
          ])
        ]
    | inr ne ↦ ap (λ (x : Option Pair). filled_in x j) (there_now b ne) ∙ elim (bool_cases scans) [
      | inr f ↦ rw f refl
      | inl s ↦ rw (s, ne) refl
    ]
  ]
