-- Birth numbers are given out once, and a body has its dictionary's.
use Rattle.std.proofs.Common.{◌≡◌, ◌≢◌, ℕ, ◌<◌, ◌≤◌, ◌&&◌, true, false, nat_eq, List, [], ◌∷◌, Some, None, refl, sym}
use Rattle.std.proofs.Common.{ap, ◌∙◌, inl, inr, subst, arith}
use Rattle.ps_word.specs.Headers.{kind_in, birth_in}
use Rattle.ps_core_machine.specs.declared.events.Event.{Event}
use Rattle.ps_core_machine.specs.declared.events.Event.TheVariants.{VmLoad, GcLoad, TakeLoad, CopyLoad, HandOver}
use Rattle.ps_core_machine.specs.declared.events.Event.TheVariants.{ClearLoad, ClearStore, HeaderStore, FieldStore}
use Rattle.ps_core_machine.specs.declared.events.Event.TheVariants.{RecordStore, EpochStore, ReplicaHeaderStore}
use Rattle.ps_core_machine.specs.declared.events.Event.TheVariants.{ReplicaFieldStore, ForwardStore, HeadStore}
use Rattle.ps_core_machine.specs.declared.events.Event.TheVariants.{CycleStore}
use Rattle.ps_core_machine.specs.declared.events.Object.{Object}
use Rattle.ps_core_machine.specs.declared.events.Pair.{Pair}
use Rattle.ps_core_machine.specs.declared.events.Vm.{Vm}
use Rattle.ps_core_machine.specs.Objects.{object_at, pair_of, pair_to, stored, with_field, as_object, replicas}
use Rattle.ps_core_machine.specs.Steps.{State, happens, next_birth_after}
use Rattle.ps_core_machine.specs.Conditions.{Permitted, IsBirth, dictionary_stands}
use Rattle.ps_core_laws.specs.Kept.{HasDictionary, IsNumbered}
use Rattle.ps_core_laws.specs.Places.{AreDistinct}
use Rattle.ps_core_laws.specs.Runs.{run, IsRun, IsSpace}
use Rattle.ps_core_laws.proofs.HeapTests.{bool_cases, and_parts, at_number, eq_true, number_is, number_not, same_number}
use Rattle.ps_core_laws.proofs.HeapTests.{clash}
use Rattle.ps_core_laws.proofs.Bases.{some_match}
use Rattle.ps_core_laws.proofs.Lookups.{object_at-with_field, object_at-replicas, pair_of-to, pair_to-replica}
use Rattle.ps_core_laws.proofs.Shown.{some_map}
use Rattle.ps_core_laws.proofs.Headed.{stored_header}
use Rattle.ps_core_laws.proofs.Closes.{stored_only}
use Rattle.ps_core_laws.proofs.Spaced.{SpacedOf, spaced}
use Rattle.ps_core_laws.proofs.Keeping.{Good, IsMatch}
use Rattle.ps_core_laws.proofs.Kept.{good}

pub record Births (os : List Object) (next : ℕ) : Type 0 where
  pub given : (a : ℕ) (o : Object) → object_at os a ≡ Some o → birth_in o.header < next
  pub single : (a b : ℕ) (o p : Object) → object_at os a ≡ Some o → object_at os b ≡ Some p
      → kind_in o.header ≢ 11 → kind_in p.header ≢ 11 → birth_in o.header ≡ birth_in p.header
      → a ≡ b

abbrev pub BirthsOf : State → Type 0
BirthsOf s = Births s.vm.objects s.vm.next_birth

-- a dictionary that stands is found at its address
pub found_dictionary : (os : List Object) (birth : ℕ) → AreDistinct os
    → dictionary_stands os birth ≡ true → HasDictionary os birth
found_dictionary [] birth d e = clash false e refl
found_dictionary (o ∷ os) birth d e =
    elim (bool_cases (nat_eq (kind_in o.header) 8 && nat_eq (birth_in o.header) birth)) [
      | inl t ↦
          let parts = and_parts (nat_eq (kind_in o.header) 8) (nat_eq (birth_in o.header) birth) t in (
            o.address,
            o,
            (let s = same_number o.address in rw s refl),
            number_is (kind_in o.header) 8
                parts.0,
            number_is (birth_in o.header) birth parts.1,
          )
      | inr f ↦
          let r = found_dictionary os birth d.1 (let e' = rw f at e in e') in (
            r.0,
            r.1,
            elim (at_number o.address r.0) as (λ _. object_at (o ∷ os) r.0 ≡ Some r.1) [
              | inl is ↦ let bad : None ≡ Some r.1 = sym d.0 ∙ (ap (object_at os) (sym is) ∙ r.2) in
                  absurd (cc)
              | inr ne ↦ rw ne r.2
            ],
            r.3,
            r.4,
          )
    ]

pub numbered : (s : State) (header : ℕ) → AreDistinct s.vm.objects → IsBirth s.vm header
    → IsNumbered s header
numbered s header d b = elim (bool_cases (nat_eq (kind_in header) 11)) [
  | inl t ↦ let b' = rw t at b in rw t (found_dictionary s.vm.objects (birth_in header) d b')
  | inr f ↦ let b' = rw f at b in rw f b'
]

module _ (space : ℕ) (s : State) (h : Good space s) (d : SpacedOf s) (k : BirthsOf s) where
  -- the new object's birth number was given out before, or is the next
  new_given : (header : ℕ) → IsBirth s.vm header
      → birth_in header < next_birth_after s.vm.next_birth header
  new_given header b = elim (bool_cases (nat_eq (kind_in header) 11)) [
    | inl t ↦ let b' = rw t at b in let r =
        found_dictionary s.vm.objects (birth_in header) d.distinct b' in
        let g = k.given r.0 r.1 r.2 in let same = r.4 in rw t (omega arith)
    | inr f ↦ let b' = rw f at b in rw f (omega arith)
  ]

  new_next : (header : ℕ) → IsBirth s.vm header → kind_in header ≢ 11
      → birth_in header ≡ s.vm.next_birth
  new_next header b ne = let f : nat_eq (kind_in header) 11 ≡ false =
      number_not (kind_in header) 11 ne in let b' = rw f at b in b'

  later : (header : ℕ) → s.vm.next_birth ≤ next_birth_after s.vm.next_birth header
  later header = elim (bool_cases (nat_eq (kind_in header) 11))
      [ inl t ↦ rw t (omega arith) | inr f ↦ rw f (omega arith) ]

  makes : (header : ℕ) → Permitted s (HeaderStore header)
      → BirthsOf (happens s (HeaderStore header))
  makes header p = record {
    given = λ b o e. elim (at_number s.vm.end b) [
      | inl is ↦ let e' = rw (eq_true b s.vm.end is) at e in let same : header ≡ o.header = cc in
          subst (λ (z : ℕ). birth_in z < next_birth_after s.vm.next_birth header) same
          (new_given header p.vm.birth)
      | inr ne ↦ let e' = rw ne at e in let g = k.given b o e' in let l = later header in
          omega arith
    ];
    single = λ a b o q e f no nq same. elim (at_number s.vm.end a) [
      | inl is ↦ let e' = rw (eq_true a s.vm.end is) at e in let ho : header ≡ o.header = cc in
          let nh : kind_in header ≢ 11 = λ z. no (ap kind_in (sym ho) ∙ z) in
          let n = new_next header p.vm.birth nh in
          let bo : birth_in header ≡ birth_in o.header = ap birth_in ho in
          elim (at_number s.vm.end b) [
            | inl it ↦ is ∙ sym it
            | inr ne ↦ let f' = rw ne at f in let g = k.given b q f' in absurd (omega arith)
          ]
      | inr ne ↦ let e' = rw ne at e in elim (at_number s.vm.end b) [
        | inl it ↦ let f' = rw (eq_true b s.vm.end it) at f in let hq : header ≡ q.header = cc in
            let nh : kind_in header ≢ 11 = λ z. nq (ap kind_in (sym hq) ∙ z) in
            let n = new_next header p.vm.birth nh in
            let bq : birth_in header ≡ birth_in q.header = ap birth_in hq in
            let g = k.given a o e' in absurd (omega arith)
        | inr na ↦ let f' = rw na at f in k.single a b o q e' f' no nq same
      ]
    ];
  }

  -- the object before a store to a field has the same header
  before : (a i w b : ℕ) (o : Object) → object_at (with_field s.vm.objects a i w) b ≡ Some o
      → (p : Object) × (object_at s.vm.objects b ≡ Some p) × (p.header ≡ o.header)
  before a i w b o e =
      let m = some_map (stored a i w) (object_at s.vm.objects b) o
      (sym (object_at-with_field s.vm.objects a i w b) ∙ e) in
      (m.0, m.1, sym (stored_header a i w m.0) ∙ ap (λ (x : Object). x.header) m.2)

  stores : (a i w : ℕ) → Births (with_field s.vm.objects a i w) s.vm.next_birth
  stores a i w = record {
    given = λ b o e. let m = before a i w b o e in
        subst (λ (z : ℕ). birth_in z < s.vm.next_birth) m.2 (k.given b m.0 m.1);
    single = λ b c o p e f no np same. let m = before a i w b o e in let n = before a i w c p f in
        k.single b c m.0 n.0 m.1 n.1 (λ z. no (ap kind_in (sym m.2) ∙ z))
        (λ z. np (ap kind_in (sym n.2) ∙ z)) (ap birth_in m.2 ∙ (same ∙ ap birth_in (sym n.2)));
  }

  -- the pair of a replica that stands after the flip, and its original
  moved : (c : ℕ) (o : Object) → object_at (replicas s.gc.pairs) c ≡ Some o
      → (p : Pair) × (pair_to s.gc.pairs c ≡ Some p)
      × ((q : Object) × (object_at s.vm.objects p.original ≡ Some q) × (q.header ≡ o.header))
  moved c o e =
      let m = some_map as_object (pair_to s.gc.pairs c) o
      (sym (object_at-replicas s.gc.pairs c) ∙ e) in
      let f = some_match (IsMatch m.0) (object_at s.vm.objects m.0.original)
      (h.matches m.0.original m.0 (pair_of-to s.gc.pairs c m.0 h.single m.1)) in
      (m.0, m.1, (f.0, f.1, f.2.header ∙ ap (λ (x : Object). x.header) m.2))

  flips : Births (replicas s.gc.pairs) s.vm.next_birth
  flips = record {
    given = λ c o e. let m = moved c o e in let q = m.2 in
        subst (λ (z : ℕ). birth_in z < s.vm.next_birth) q.2 (k.given m.0.original q.0 q.1);
    single = λ c d o p e f no np same.
        let m = moved c o e in let n = moved d p f in let q = m.2 in let r = n.2 in
        let original : m.0.original ≡ n.0.original =
        k.single m.0.original n.0.original q.0 r.0 q.1 r.1 (λ z. no (ap kind_in (sym q.2) ∙ z))
        (λ z. np (ap kind_in (sym r.2) ∙ z))
        (ap birth_in q.2 ∙ (same ∙ ap birth_in (sym r.2))) in
        let first = pair_of-to s.gc.pairs c m.0 h.single m.1 in
        let second = pair_of-to s.gc.pairs d n.0 h.single n.1 in
        let pairs : Some m.0 ≡ Some n.0 = sym first ∙ (ap (pair_of s.gc.pairs) original ∙ second) in
        let is : m.0 ≡ n.0 = cc in
        sym (pair_to-replica s.gc.pairs c m.0 m.1)
        ∙ (ap (λ (z : Pair). z.replica) is ∙ pair_to-replica s.gc.pairs d n.0 n.1);
  }

  keeps : (e : Event) → Permitted s e → BirthsOf (happens s e)
  keeps (VmLoad place word) p = k
  keeps (GcLoad place word) p = k
  keeps (TakeLoad slot word) p = k
  keeps (CopyLoad a i word) p = k
  keeps (HandOver word roots) p = k
  keeps ClearLoad p = k
  keeps ClearStore p = k
  keeps (HeaderStore header) p = makes header p
  keeps (FieldStore a i w) p =
      subst (λ (v : Vm). Births v.objects v.next_birth) (sym (stored_only s.vm a i w))
      (stores a i w)
  keeps (RecordStore slot r) p = k
  keeps EpochStore p = k
  keeps (ReplicaHeaderStore place w) p = k
  keeps (ReplicaFieldStore scans) p = k
  keeps (ForwardStore a c) p = k
  keeps HeadStore p = k
  keeps (CycleStore roots) p = flips

pub births_kept : (space : ℕ) → IsSpace space → (events : List Event) → IsRun space events
    → BirthsOf (run space events)
births_kept space size [] h =
    record { given = λ a o e. absurd (cc); single = λ a b o p e. absurd (cc) }
births_kept space size (e ∷ es) h =
    keeps space (run space es) (good space size es h.0) (spaced space size es h.0)
    (births_kept space size es h.0) e h.1
