-- Objects and pairs found by their addresses, before and after a store.
use Rattle.std.proofs.Common.{◌≡◌, ◌⊎◌, ℕ, zero, suc, slice_index_or, ◌<◌, ◌≤◌, Bool, true, false, nat_eq, ◌&&◌, ◌||◌}
use Rattle.std.proofs.Common.{List, [], ◌∷◌, ◌++◌, length, Some, None, Option, refl, sym, ap, ◌∙◌, inl, inr, subst}
use Rattle.std.proofs.Common.{arith}
use Rattle.std.specs.Prelude.{if◌then◌else◌, nat_le, nat_lt, max}
use Rattle.std.specs.Option.{option_map}
use Rattle.std.specs.Prelude.{find, map}
use Rattle.ps_core_machine.specs.declared.events.Object.{Object}
use Rattle.ps_core_machine.specs.declared.events.Pair.{Pair}
use Rattle.ps_core_machine.specs.Objects.{among, object_at, pair_of, pair_to, stored, with_field, copied_to, with_copy}
use Rattle.ps_core_machine.specs.Objects.{as_object, end_of, is_in_replica, end_of_replicas, replicas, all_true}
use Rattle.ps_core_machine.specs.Objects.{all_filled}
use Rattle.ps_core_laws.specs.Laws.{AreSingle}
use Rattle.ps_core_laws.proofs.HeapTests.{bool_cases, and_parts, clash, same_number, number_not, at_number, eq_true}
use Rattle.ps_core_laws.proofs.HeapTests.{lt_is, le_not, lt_not}

-- ---- what is found has that address

pub object_at-address : (os : List Object) (a : ℕ) (o : Object) → object_at os a ≡ Some o
    → o.address ≡ a
object_at-address [] a o e = absurd (cc)
object_at-address (p ∷ os) a o e = elim (at_number p.address a) [
  | inl is ↦ let e' = rw (eq_true a p.address is) at e in let same : p ≡ o = cc in
      ap (λ (z : Object). z.address) (sym same) ∙ sym is
  | inr ne ↦ let e' = rw ne at e in object_at-address os a o e'
]

pub pair_of-original : (ps : List Pair) (a : ℕ) (p : Pair) → pair_of ps a ≡ Some p → p.original ≡ a
pair_of-original [] a p e = absurd (cc)
pair_of-original (q ∷ ps) a p e = elim (at_number q.original a) [
  | inl is ↦ let e' = rw (eq_true a q.original is) at e in let same : q ≡ p = cc in
      ap (λ (z : Pair). z.original) (sym same) ∙ sym is
  | inr ne ↦ let e' = rw ne at e in pair_of-original ps a p e'
]

pub pair_to-replica : (ps : List Pair) (c : ℕ) (p : Pair) → pair_to ps c ≡ Some p → p.replica ≡ c
pair_to-replica [] c p e = absurd (cc)
pair_to-replica (q ∷ ps) c p e = elim (at_number q.replica c) [
  | inl is ↦ let e' = rw (eq_true c q.replica is) at e in let same : q ≡ p = cc in
      ap (λ (z : Pair). z.replica) (sym same) ∙ sym is
  | inr ne ↦ let e' = rw ne at e in pair_to-replica ps c p e'
]

-- no pair that is found has an original that none has
pub pair_to-off : (ps : List Pair) (a c : ℕ) (p : Pair) → pair_of ps a ≡ None
    → pair_to ps c ≡ Some p → nat_eq a p.original ≡ false
pair_to-off [] a c p none e = absurd (cc)
pair_to-off (q ∷ ps) a c p none e = elim (at_number q.original a) [
  | inl is ↦ let n = rw (eq_true a q.original is) at none in absurd (cc)
  | inr ne ↦ let n = rw ne at none in elim (at_number q.replica c) [
    | inl is ↦ let e' = rw (eq_true c q.replica is) at e in let same : q ≡ p = cc in
        ap (λ (z : Pair). nat_eq a z.original) (sym same) ∙ ne
    | inr off ↦ let e' = rw off at e in pair_to-off ps a c p n e'
  ]
]

pub pair_of-off : (ps : List Pair) (a c : ℕ) (p : Pair) → pair_to ps c ≡ None
    → pair_of ps a ≡ Some p → nat_eq c p.replica ≡ false
pair_of-off [] a c p none e = absurd (cc)
pair_of-off (q ∷ ps) a c p none e = elim (at_number q.replica c) [
  | inl is ↦ let n = rw (eq_true c q.replica is) at none in absurd (cc)
  | inr ne ↦ let n = rw ne at none in elim (at_number q.original a) [
    | inl is ↦ let e' = rw (eq_true a q.original is) at e in let same : q ≡ p = cc in
        ap (λ (z : Pair). nat_eq c z.replica) (sym same) ∙ ne
    | inr off ↦ let e' = rw off at e in pair_of-off ps a c p n e'
  ]
]

-- a pair that is found by its original is found by its replica, and the other way
pub pair_to-of : (ps : List Pair) (a : ℕ) (p : Pair) → AreSingle ps → pair_of ps a ≡ Some p
    → pair_to ps p.replica ≡ Some p
pair_to-of [] a p single e = absurd (cc)
pair_to-of (q ∷ ps) a p single e = elim (at_number q.original a) [
  | inl is ↦ let e' = rw (eq_true a q.original is) at e in let same : q ≡ p = cc in
      let t : nat_eq p.replica q.replica ≡ true =
      eq_true p.replica q.replica (ap (λ (z : Pair). z.replica) (sym same)) in rw t e'
  | inr ne ↦ let e' = rw ne at e in
      let off : nat_eq q.replica p.replica ≡ false = pair_of-off ps a q.replica p single.1 e' in
      let off' : nat_eq p.replica q.replica ≡ false =
      number_not p.replica q.replica
      (λ s. clash (nat_eq q.replica p.replica) (eq_true q.replica p.replica (sym s)) off) in
      rw off' (pair_to-of ps a p single.2 e')
]

pub pair_of-to : (ps : List Pair) (c : ℕ) (p : Pair) → AreSingle ps → pair_to ps c ≡ Some p
    → pair_of ps p.original ≡ Some p
pair_of-to [] c p single e = absurd (cc)
pair_of-to (q ∷ ps) c p single e = elim (at_number q.replica c) [
  | inl is ↦ let e' = rw (eq_true c q.replica is) at e in let same : q ≡ p = cc in
      let t : nat_eq p.original q.original ≡ true =
      eq_true p.original q.original (ap (λ (z : Pair). z.original) (sym same)) in rw t e'
  | inr ne ↦ let e' = rw ne at e in
      let off : nat_eq q.original p.original ≡ false = pair_to-off ps q.original c p single.0 e' in
      let off' : nat_eq p.original q.original ≡ false =
      number_not p.original q.original
      (λ s. clash (nat_eq q.original p.original) (eq_true q.original p.original (sym s)) off) in
      rw off' (pair_of-to ps c p single.2 e')
]

-- ---- after a store to a field

find_map : {X : Type 0} (p : X → Bool) (f : X → X) → ((x : X) → p (f x) ≡ p x) → (xs : List X)
    → find p (map f xs) ≡ option_map f (find p xs)
find_map p f same [] = refl
find_map p f same (x ∷ xs) = ap (λ (b : Bool). if b then Some (f x) else find p (map f xs)) (same x)
    ∙ elim (bool_cases (p x)) [
      | inl t ↦ rw t refl
      | inr e ↦ rw e (find_map p f same xs)
    ]

pub object_at-with_field : (os : List Object) (a i w b : ℕ)
    → object_at (with_field os a i w) b ≡ option_map (stored a i w) (object_at os b)
object_at-with_field os a i w b =
    find_map (λ o. nat_eq b o.address) (stored a i w)
    (λ o. elim (bool_cases (nat_eq a o.address)) [ inl t ↦ rw t refl | inr f ↦ rw f refl ]) os

pub pair_of-with_copy : (ps : List Pair) (a i w : ℕ) (scans : Bool) (b : ℕ)
    → pair_of (with_copy ps a i w scans) b ≡ option_map (copied_to a i w scans) (pair_of ps b)
pair_of-with_copy ps a i w scans b =
    find_map (λ p. nat_eq b p.original) (copied_to a i w scans)
    (λ p. elim (bool_cases (nat_eq a p.original)) [ inl t ↦ rw t refl | inr f ↦ rw f refl ]) ps

pub pair_to-with_copy : (ps : List Pair) (a i w : ℕ) (scans : Bool) (c : ℕ)
    → pair_to (with_copy ps a i w scans) c ≡ option_map (copied_to a i w scans) (pair_to ps c)
pair_to-with_copy ps a i w scans c =
    find_map (λ p. nat_eq c p.replica) (copied_to a i w scans)
    (λ p. elim (bool_cases (nat_eq a p.original)) [ inl t ↦ rw t refl | inr f ↦ rw f refl ]) ps

-- ---- pairs stay single

none_kept : {A : Type 0} (f : A → A) (x : Option A) → x ≡ None → option_map f x ≡ None
none_kept f x e = ap (option_map f) e

pub single-with_copy : (ps : List Pair) (a i w : ℕ) (scans : Bool) → AreSingle ps
    → AreSingle (with_copy ps a i w scans)
single-with_copy [] a i w scans single = tt
single-with_copy (p ∷ ps) a i w scans single =
    let of : (b : ℕ) → pair_of ps b ≡ None → pair_of (with_copy ps a i w scans) b ≡ None =
    λ b e. pair_of-with_copy ps a i w scans b
    ∙ none_kept (copied_to a i w scans) (pair_of ps b) e in
    let to : (c : ℕ) → pair_to ps c ≡ None → pair_to (with_copy ps a i w scans) c ≡ None =
    λ c e. pair_to-with_copy ps a i w scans c
    ∙ none_kept (copied_to a i w scans) (pair_to ps c) e in
    elim (bool_cases (nat_eq a p.original)) [
      | inl t ↦ rw t (
        of p.original single.0,
        to p.replica single.1,
        single-with_copy ps a i w scans
            single.2,
      )
      | inr f ↦ rw f (
        of p.original single.0,
        to p.replica single.1,
        single-with_copy ps a i w scans
            single.2,
      )
    ]

-- ---- words in replicas

pub off_replica : (ps : List Pair) (c place : ℕ) (p : Pair) → pair_to ps c ≡ Some p
    → is_in_replica ps place ≡ false → (place < p.replica) ⊎ (end_of p ≤ place)
off_replica [] c place p e off = absurd (cc)
off_replica (q ∷ ps) c place p e off =
    elim (bool_cases (nat_le q.replica place && nat_lt place (end_of q))) [
      | inl t ↦ let bad = rw t at off in absurd (cc)
      | inr f ↦ let rest = rw f at off in elim (at_number q.replica c) [
        | inl is ↦ let e' = rw (eq_true c q.replica is) at e in let same : q ≡ p = cc in
            subst (λ (z : Pair). (place < z.replica) ⊎ (end_of z ≤ place)) same
            (elim (bool_cases (nat_le q.replica place)) [
              | inl le ↦ inr (lt_not place (end_of q) (let r = rw le at f in r))
              | inr not ↦ inl (le_not q.replica place not)
            ])
        | inr ne ↦ let e' = rw ne at e in off_replica ps c place p e' rest
      ]
    ]

-- a word past the last replica is in none
pub not_in_replica : (ps : List Pair) (low place : ℕ) → end_of_replicas low ps ≤ place
    → is_in_replica ps place ≡ false
not_in_replica [] low place past = refl
not_in_replica (q ∷ ps) low place past =
    let here : nat_lt place (end_of q) ≡ false = elim (bool_cases (nat_lt place (end_of q))) [
      | inl t ↦ let lt = lt_is place (end_of q) t in absurd (omega arith)
      | inr f ↦ f
    ] in
    let first : (nat_le q.replica place && nat_lt place (end_of q)) ≡ false =
    elim (bool_cases (nat_le q.replica place)) [ inl t ↦ rw t here | inr f ↦ rw f refl ] in
    rw first (not_in_replica ps low place (omega arith))

-- the replica that ends last
pub end_of_replicas-above : (ps : List Pair) (c low : ℕ) (p : Pair) → pair_to ps c ≡ Some p
    → end_of p ≤ end_of_replicas low ps
end_of_replicas-above [] c low p e = absurd (cc)
end_of_replicas-above (q ∷ ps) c low p e = elim (at_number q.replica c) [
  | inl is ↦ let e' = rw (eq_true c q.replica is) at e in let same : q ≡ p = cc in
      let h : end_of q ≤ max (end_of q) (end_of_replicas low ps) = omega arith in
      subst (λ (z : Pair). end_of z ≤ max (end_of q) (end_of_replicas low ps)) same h
  | inr ne ↦ let e' = rw ne at e in let h = end_of_replicas-above ps c low p e' in omega arith
]

pub end_of_replicas-high : (ps : List Pair) (low high : ℕ) → AreSingle ps → low ≤ high
    → ((c : ℕ) (p : Pair) → pair_to ps c ≡ Some p → end_of p ≤ high) → end_of_replicas low ps ≤ high
end_of_replicas-high [] low high single le h = le
end_of_replicas-high (q ∷ ps) low high single le h =
    let here : end_of q ≤ high = h q.replica q (let t = same_number q.replica in rw t refl) in
    let others : (c : ℕ) (p : Pair) → pair_to ps c ≡ Some p → end_of p ≤ high =
    λ c p e. h c p (elim (at_number q.replica c) [
      | inl is ↦ let bad = ap (pair_to ps) (sym is) ∙ e in let none = single.1 in absurd (cc)
      | inr ne ↦ rw ne e
    ]) in
    let rest = end_of_replicas-high ps low high single.2 le others in
    omega arith

-- ---- replicas as objects

pub object_at-replicas : (ps : List Pair) (c : ℕ)
    → object_at (replicas ps) c ≡ option_map as_object (pair_to ps c)
object_at-replicas [] c = refl
object_at-replicas (p ∷ ps) c = elim (at_number p.replica c) [
  | inl is ↦ let t = eq_true c p.replica is in rw t refl
  | inr ne ↦ rw ne (object_at-replicas ps c)
]

-- ---- fields that are filled

all_true_at : (bs : List Bool) (i : ℕ) → i < length bs → all_true bs ≡ true
    → slice_index_or bs i false ≡ true
all_true_at [] i h all = absurd (omega arith)
all_true_at (b ∷ bs) zero h all = (and_parts b (all_true bs) all).0
all_true_at (b ∷ bs) (suc i) h all =
    all_true_at bs i (omega arith) (and_parts b (all_true bs) all).1

pub all_filled_at : (ps : List Pair) (a i : ℕ) (p : Pair) → pair_of ps a ≡ Some p
    → all_filled ps ≡ true → i < length p.filled → slice_index_or p.filled i false ≡ true
all_filled_at [] a i p e all lt = absurd (cc)
all_filled_at (q ∷ ps) a i p e all lt =
    let parts = and_parts (all_true q.filled) (all_filled ps) all in
    elim (at_number q.original a) [
      | inl is ↦ let e' = rw (eq_true a q.original is) at e in let same : q ≡ p = cc in
          all_true_at p.filled i lt (ap (λ (z : Pair). all_true z.filled) (sym same) ∙ parts.0)
      | inr ne ↦ let e' = rw ne at e in all_filled_at ps a i p e' parts.1 lt
    ]

-- ---- lists of addresses

pub among-append : (xs ys : List ℕ) (b : ℕ) → among (xs ++ ys) b ≡ (among xs b || among ys b)
among-append [] ys b = refl
among-append (x ∷ xs) ys b = ap (λ (z : Bool). nat_eq b x || z) (among-append xs ys b)
    ∙ or_assoc (nat_eq b x) (among xs b) (among ys b)
  where
    or_assoc : (x y z : Bool) → (x || (y || z)) ≡ ((x || y) || z)
    or_assoc true y z = refl
    or_assoc false y z = refl
