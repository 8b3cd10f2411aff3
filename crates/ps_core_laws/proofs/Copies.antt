-- The words of the other space show the replicas, over every store; and after a flip they are the
-- standing objects.
use Rattle.std.proofs.Common.{◌≡◌, ◌≢◌, ◌⊎◌, ℕ, zero, suc, ◌+◌, ◌<◌, ◌≤◌, Bool, true, false, nat_eq, List, [], ◌∷◌}
use Rattle.std.proofs.Common.{length, Some, None, Option, refl, sym, ap, ◌∙◌, inl, inr, subst, arith, length-set}
use Rattle.std.proofs.Common.{slice_index_or}
use Rattle.std.specs.Prelude.{if◌then◌else◌, slice_set, slice_index, replicate}
use Rattle.std.proofs.lemmas.List.{get_or-set_same, get_or-set_other, get_or-replicate, length-replicate}
use native.Mathlib.Decide.{ℕ_discrete}
use Rattle.ps_word.specs.Headers.{fields_in}
use Rattle.ps_core_machine.specs.declared.events.Object.{Object}
use Rattle.ps_core_machine.specs.declared.events.Pair.{Pair}
use Rattle.ps_core_machine.specs.declared.events.Seen.{Seen}
use Rattle.ps_core_machine.specs.Objects.{object_at, pair_of, pair_to, seen_at, with_copy, end_of, is_in_replica}
use Rattle.ps_core_machine.specs.Objects.{end_of_replicas, replicas, all_filled, copied_to, as_object}
use Rattle.ps_core_laws.specs.Laws.{AreSingle}
use Rattle.ps_core_machine.specs.Steps.{new_pair}
use Rattle.ps_core_laws.proofs.HeapTests.{bool_cases, clash, number_not, at_number, eq_true}
use Rattle.ps_core_laws.proofs.Lookups.{pair_of-original, pair_to-replica, pair_of-to, pair_to-of, pair_to-with_copy}
use Rattle.ps_core_laws.proofs.Lookups.{off_replica, not_in_replica, end_of_replicas-above, end_of_replicas-high}
use Rattle.ps_core_laws.proofs.Lookups.{object_at-replicas, all_filled_at}
use Rattle.ps_core_machine.proofs.Ends.{end_of_replicas-low}
use Rattle.ps_core_laws.proofs.Shown.{some_map, ShowsIt, SpaceIs, Off, end_of_object}

-- the words show the replica: its first header, and its fields as far as the scan has stored them
pub record ShowsCopy (ws : List ℕ) (p : Pair) : Type 0 where
  pub head : slice_index ws p.replica ≡ p.header
  pub fields : (i : ℕ) → i < length p.fields → slice_index_or p.filled i false ≡ true
      → slice_index ws (p.replica + 2 + i) ≡ slice_index p.fields i

-- a word put into the other space stands there as long as it is in no replica
pub record IsPlaced (ws : List ℕ) (ps : List Pair) (low high place w : ℕ) : Type 0 where
  pub at_least : low ≤ place
  pub below : place < high
  pub there : is_in_replica ps place ≡ false → slice_index ws place ≡ w

pub record CopiesAre (ws : List ℕ) (ps : List Pair) (placed : List Seen) (low high : ℕ) : Type 0
  where
    pub shown : (c : ℕ) (p : Pair) → pair_to ps c ≡ Some p → ShowsCopy ws p
    pub apart : (c d : ℕ) (p q : Pair) → pair_to ps c ≡ Some p → pair_to ps d ≡ Some q → c ≢ d
        → (end_of p ≤ q.replica) ⊎ (end_of q ≤ p.replica)
    pub within : (c : ℕ) (p : Pair) → pair_to ps c ≡ Some p → (low ≤ p.replica) × (end_of p ≤ high)
    pub sized : (c : ℕ) (p : Pair) → pair_to ps c ≡ Some p → (length p.fields ≡ fields_in p.header)
        × (length p.filled ≡ length p.fields)
    pub placed_are : (place w : ℕ) → seen_at placed place ≡ Some w → IsPlaced ws ps low high place w

pub copies_start : (ws : List ℕ) (low high : ℕ) → CopiesAre ws [] [] low high
copies_start ws low high = record {
  shown = λ c p e. absurd (cc);
  apart = λ c d p q e f ne. absurd (cc);
  within = λ c p e. absurd (cc);
  sized = λ c p e. absurd (cc);
  placed_are = λ place w e. absurd (cc);
}

kept_copy : (ws : List ℕ) (p : Pair) (j w : ℕ) → (j < p.replica) ⊎ (end_of p ≤ j) → ShowsCopy ws p
    → ShowsCopy (slice_set ws j w) p
kept_copy ws p j w off h = elim off [
  | inl x ↦ record {
    head = get_or-set_other ws j p.replica w 0 (λ e. omega arith) ∙ h.head;
    fields = λ i lt f. get_or-set_other ws j (p.replica + 2 + i) w 0 (λ e. omega arith)
        ∙ h.fields i lt f;
  }
  | inr x ↦ record {
    head = get_or-set_other ws j p.replica w 0 (λ e. omega arith) ∙ h.head;
    fields = λ i lt f. get_or-set_other ws j (p.replica + 2 + i) w 0 (λ e. omega arith)
        ∙ h.fields i lt f;
  }
]

-- a store outside the other space
pub copies_off : (ws : List ℕ) (ps : List Pair) (placed : List Seen) (low high j w : ℕ) → (j < low)
    ⊎ (high ≤ j) → CopiesAre ws ps placed low high → CopiesAre (slice_set ws j w) ps placed low high
copies_off ws ps placed low high j w out h = record {
  shown = λ c p e. let lo = (h.within c p e).0 in let hi = (h.within c p e).1 in
      kept_copy ws p j w (elim out as (λ _. (j < p.replica) ⊎ (end_of p ≤ j))
      [ inl x ↦ inl (omega arith) | inr x ↦ inr (omega arith) ]) (h.shown c p e);
  apart = h.apart;
  within = h.within;
  sized = h.sized;
  placed_are = λ place v e. let q = h.placed_are place v e in let lo = q.at_least in let hi =
      q.below in record {
        at_least = q.at_least;
        below = q.below;
        there = λ off. get_or-set_other ws j place w 0
            (elim out as (λ _. place ≢ j) [ inl x ↦ (λ s. omega arith) | inr x ↦ (λ s. omega arith) ])
            ∙ q.there off;
      };
}

-- a header of a replica to be
pub copies_placed : (ws : List ℕ) (ps : List Pair) (placed : List Seen) (low high place w : ℕ)
    → high ≤ length ws → low ≤ place → place < high → is_in_replica ps place ≡ false
    → CopiesAre ws ps placed low high
    → CopiesAre (slice_set ws place w) ps (record { place = place; word = w } ∷ placed) low high
copies_placed ws ps placed low high place w wide lo hi off h = record {
  shown = λ c p e. kept_copy ws p place w (off_replica ps c place p e off) (h.shown c p e);
  apart = h.apart;
  within = h.within;
  sized = h.sized;
  placed_are = λ q v e. elim (at_number place q) [
    | inl is ↦ let e' = rw (eq_true q place is) at e in let same : w ≡ v = cc in record {
      at_least = omega arith;
      below = omega arith;
      there = λ _. ap (slice_index (slice_set ws place w)) is
          ∙ (get_or-set_same ws place w 0 (omega arith) ∙ same);
    }
    | inr ne ↦ let e' = rw ne at e in let k = h.placed_are q v e' in record {
      at_least = k.at_least;
      below = k.below;
      there = λ free. get_or-set_other ws place q w 0
          (λ s. clash (nat_eq q place) (eq_true q place s) ne) ∙ k.there free;
    }
  ];
}

-- the replicas cover the same words after a store to one
in_replica-with_copy : (ps : List Pair) (a i w : ℕ) (scans : Bool) (place : ℕ)
    → is_in_replica (with_copy ps a i w scans) place ≡ is_in_replica ps place
in_replica-with_copy [] a i w scans place = refl
in_replica-with_copy (p ∷ ps) a i w scans place = elim (bool_cases (nat_eq a p.original)) [
  | inl t ↦ rw (t, length-set p.fields i w, in_replica-with_copy ps a i w scans place) refl
  | inr f ↦ rw (f, in_replica-with_copy ps a i w scans place) refl
]

-- a field of a replica is stored
module _ (ws : List ℕ) (ps : List Pair) (placed : List Seen) (low high a i w : ℕ) (scans : Bool)
    (p : Pair) (single : AreSingle ps) (h : CopiesAre ws ps placed low high)
    (wide : high ≤ length ws) (at : pair_of ps a ≡ Some p) (lt : i < length p.fields) where
  there : pair_to ps p.replica ≡ Some p
  there = pair_to-of ps a p single at

  of_a : nat_eq a p.original ≡ true
  of_a = eq_true a p.original (sym (pair_of-original ps a p at))

  stored_pair : Pair
  stored_pair = record p {
    fields = slice_set p.fields i w;
    filled =
        if scans then slice_set p.filled i true else p.filled;
  }

  filled_length : (b : Bool)
      → length (if b then slice_set p.filled i true else p.filled) ≡ length p.filled
  filled_length true = length-set p.filled i true
  filled_length false = refl

  filled_apart : (b : Bool) (k : ℕ) → k ≢ i
      → slice_index_or (if b then slice_set p.filled i true else p.filled) k false ≡ slice_index_or
      p.filled k false
  filled_apart true k ne = get_or-set_other p.filled i k true false ne
  filled_apart false k ne = refl

  stored_shown : ShowsCopy (slice_set ws (p.replica + 2 + i) w) stored_pair
  unfolding stored_pair
  stored_shown =
      let s = h.shown p.replica p there in
      let hi = (h.within p.replica p there).1 in
      record {
        head = get_or-set_other ws (p.replica + 2 + i) p.replica w 0 (λ e. omega arith) ∙ s.head;
        fields = λ k lk f. elim (ℕ_discrete k i) [
          | yes e ↦
              let here : p.replica + 2 + k ≡ p.replica + 2 + i = omega arith in
              ap (λ (z : ℕ). slice_index (slice_set ws (p.replica + 2 + i) w) z) here
              ∙ (get_or-set_same ws (p.replica + 2 + i) w 0 (omega arith)
              ∙ (sym (get_or-set_same p.fields i w 0 lt)
              ∙ ap (slice_index (slice_set p.fields i w)) (sym e)))
          | no ne ↦ get_or-set_other ws (p.replica + 2 + i) (p.replica + 2 + k) w 0
              (λ e. ne (omega arith))
              ∙ (s.fields k (omega (arith, length-set p.fields i w))
              (sym (filled_apart scans k ne) ∙ f) ∙ sym (get_or-set_other p.fields i k w 0 ne))
        ];
      }

  -- the pairs found afterwards
  pub copied_cases : (c : ℕ) (q : Pair) → pair_to (with_copy ps a i w scans) c ≡ Some q
      → ((c ≡ p.replica) × (record p {
        fields = slice_set p.fields i w;
        filled =
            if scans then slice_set p.filled i true else p.filled;
      } ≡ q))
      ⊎ ((c ≢ p.replica) × (pair_to ps c ≡ Some q))
  copied_cases c q e =
      let m = some_map (copied_to a i w scans) (pair_to ps c) q
      (sym (pair_to-with_copy ps a i w scans c) ∙ e) in
      let at_c = pair_to-replica ps c m.0 m.1 in
      elim (at_number p.replica c) [
        | inl is ↦
            let same : Some m.0 ≡ Some p = sym m.1 ∙ (ap (pair_to ps) is ∙ there) in
            let this : m.0 ≡ p = cc in
            let q_is : copied_to a i w scans p ≡ q = ap (copied_to a i w scans) (sym this) ∙ m.2 in
            let t = of_a in
            inl (is, rw t at q_is)
        | inr ne ↦
            let ne' : c ≢ p.replica = λ s. clash (nat_eq c p.replica) (eq_true c p.replica s) ne in
            let t : nat_eq a m.0.original ≡ false = number_not a m.0.original (λ s.
            let by_original : pair_of ps m.0.original ≡ Some m.0 = pair_of-to ps c m.0 single m.1 in
            let same : Some m.0 ≡ Some p = sym by_original ∙ (ap (pair_of ps) (sym s) ∙ at) in
            let this : m.0 ≡ p = cc in
            ne' (sym at_c ∙ ap (λ (z : Pair). z.replica) this)) in
            let q_is : m.0 ≡ q = let r = m.2 in rw t at r in
            inr (ne', m.1 ∙ ap Some q_is)
      ]

  pub copies_stored : CopiesAre (slice_set ws (p.replica + 2 + i) w) (with_copy ps a i w scans)
      placed low high
  unfolding stored_pair
  copies_stored =
      let mine = h.within p.replica p there in
      let mine_lo = mine.0 in let mine_hi = mine.1 in
      let l = length-set p.fields i w in
      record {
        shown = λ c q e. elim (copied_cases c q e) [
          | inl this ↦ subst (ShowsCopy (slice_set ws (p.replica + 2 + i) w)) this.1 stored_shown
          | inr other ↦ kept_copy ws q (p.replica + 2 + i) w
              (elim (h.apart p.replica c p q there other.1 (λ s. other.0 (sym s))) as
              (λ _. (p.replica + 2 + i < q.replica) ⊎ (end_of q ≤ p.replica + 2 + i))
              [ inl x ↦ inl (omega arith) | inr x ↦ inr (omega arith) ])
              (h.shown c q other.1)
        ];
        apart = λ c d q r ec ed ne. elim (copied_cases c q ec) [
          | inl this ↦ elim (copied_cases d r ed) [
            | inl that ↦ absurd (ne (this.0 ∙ sym that.0))
            | inr other ↦ subst (λ (z : Pair). (end_of z ≤ r.replica) ⊎ (end_of r ≤ z.replica))
                this.1
                (elim (h.apart p.replica d p r there other.1 (λ s. other.0 (sym s))) as
                (λ _. (end_of stored_pair ≤ r.replica) ⊎ (end_of r ≤ p.replica))
                [ inl y ↦ inl (omega arith) | inr y ↦ inr y ])
          ]
          | inr other ↦ elim (copied_cases d r ed) [
            | inl that ↦ subst (λ (z : Pair). (end_of q ≤ z.replica) ⊎ (end_of z ≤ q.replica))
                that.1
                (elim (h.apart c p.replica q p other.1 there other.0) as
                (λ _. (end_of q ≤ p.replica) ⊎ (end_of stored_pair ≤ q.replica))
                [ inl y ↦ inl y | inr y ↦ inr (omega arith) ])
            | inr both ↦ h.apart c d q r other.1 both.1 ne
          ]
        ];
        within = λ c q e. elim (copied_cases c q e) [
          | inl this ↦ subst (λ (z : Pair). (low ≤ z.replica) × (end_of z ≤ high)) this.1
              (mine_lo, omega arith)
          | inr other ↦ h.within c q other.1
        ];
        sized = λ c q e. elim (copied_cases c q e) [
          | inl this ↦ subst (λ (z : Pair). (length z.fields ≡ fields_in z.header)
              × (length z.filled ≡ length z.fields)) this.1
              (let s = h.sized p.replica p there in (l ∙ s.0, filled_length scans ∙ (s.1 ∙ sym l)))
          | inr other ↦ h.sized c q other.1
        ];
        placed_are = λ place v e. let k = h.placed_are place v e in record {
          at_least = k.at_least;
          below = k.below;
          there = λ free.
              let free' : is_in_replica ps place ≡ false =
              sym (in_replica-with_copy ps a i w scans place) ∙ free in
              get_or-set_other ws (p.replica + 2 + i) place w 0
              (elim (off_replica ps p.replica place p there free') as
              (λ _. place ≢ p.replica + 2 + i)
              [ inl x ↦ (λ s. omega arith) | inr x ↦ (λ s. omega arith) ])
              ∙ k.there free';
        };
      }

-- a new pair, right behind the others
pub copies_paired : (ws : List ℕ) (ps : List Pair) (placed : List Seen) (low high a c header : ℕ)
    → CopiesAre ws ps placed low high → seen_at placed c ≡ Some header
    → c + 2 + fields_in header ≤ high
    → c ≡ end_of_replicas low ps → CopiesAre ws (new_pair a c header ∷ ps) placed low high
copies_paired ws ps placed low high a c header h first hi right =
    let lo : low ≤ c = let l = end_of_replicas-low ps low in omega arith in
    let new : Pair = new_pair a c header in
    let n = length-replicate {A = ℕ} (fields_in header) 0 in
    let m = length-replicate {A = Bool} (fields_in header) false in
    let word : slice_index ws c ≡ header =
    (h.placed_are c header first).there (not_in_replica ps low c (omega arith)) in
    let cases : (d : ℕ) (q : Pair) → pair_to (new ∷ ps) d ≡ Some q → ((d ≡ c) × (new ≡ q))
    ⊎ ((nat_eq d c ≡ false) × (pair_to ps d ≡ Some q)) = λ d q e. elim (at_number c d) [
      | inl is ↦ let e' = rw (eq_true d c is) at e in inl (is, cc)
      | inr ne ↦ let e' = rw ne at e in inr (ne, e')
    ] in
    record {
      shown = λ d q e. elim (cases d q e) [
        | inl this ↦ subst (ShowsCopy ws) this.1 record {
          head = word;
          fields = λ i lt f. clash (slice_index_or (replicate (fields_in header) false) i false) f
              (get_or-replicate (fields_in header) i false false (omega arith));
        }
        | inr other ↦ h.shown d q other.1
      ];
      apart = λ d e q r ed ee ne. elim (cases d q ed) [
        | inl this ↦ elim (cases e r ee) [
          | inl that ↦ absurd (ne (this.0 ∙ sym that.0))
          | inr other ↦ subst (λ (z : Pair). (end_of z ≤ r.replica) ⊎ (end_of r ≤ z.replica)) this.1
              (inr (let x = end_of_replicas-above ps e low r other.1 in omega arith))
        ]
        | inr other ↦ elim (cases e r ee) [
          | inl that ↦ subst (λ (z : Pair). (end_of q ≤ z.replica) ⊎ (end_of z ≤ q.replica)) that.1
              (inl (let x = end_of_replicas-above ps d low q other.1 in omega arith))
          | inr both ↦ h.apart d e q r other.1 both.1 ne
        ]
      ];
      within = λ d q e. elim (cases d q e) [
        | inl this ↦ subst (λ (z : Pair). (low ≤ z.replica) × (end_of z ≤ high)) this.1
            (lo, omega arith)
        | inr other ↦ h.within d q other.1
      ];
      sized = λ d q e. elim (cases d q e) [
        | inl this ↦ subst (λ (z : Pair). (length z.fields ≡ fields_in z.header)
            × (length z.filled ≡ length z.fields)) this.1 (n, m ∙ sym n)
        | inr other ↦ h.sized d q other.1
      ];
      placed_are = λ place v e. let k = h.placed_are place v e in record {
        at_least = k.at_least;
        below = k.below;
        there = λ free. k.there (free_of ps place new free);
      };
    }
  where
    free_of : (ps : List Pair) (place : ℕ) (q : Pair) → is_in_replica (q ∷ ps) place ≡ false
        → is_in_replica ps place ≡ false
    free_of ps place q free = elim (bool_cases (is_in_replica ps place)) [
      | inl t ↦ let bad = rw t at free in or_false _ bad
      | inr f ↦ f
    ]
      where
        or_false : {X : Type 0} (x : Bool) → Rattle.std.proofs.Common.◌||◌ x true ≡ false → X
        or_false true e = absurd (cc)
        or_false false e = absurd (cc)

-- the flip: the replicas are the standing objects
pub space_flipped : (ws : List ℕ) (ps : List Pair) (placed : List Seen) (low high : ℕ)
    → AreSingle ps → low ≤ high → all_filled ps ≡ true → CopiesAre ws ps placed low high
    → SpaceIs ws (replicas ps) (end_of_replicas low ps) 0 low high
space_flipped ws ps placed low high single le all h =
    let pair : (c : ℕ) (o : Object) → object_at (replicas ps) c ≡ Some o → (p : Pair)
    × (pair_to ps c ≡ Some p) × (as_object p ≡ o) =
    λ c o e. some_map as_object (pair_to ps c) o (sym (object_at-replicas ps c) ∙ e) in
    record {
      shown = λ c o e. let m = pair c o e in let s = h.shown c m.0 m.1 in
          subst (ShowsIt ws) m.2 record {
            head = s.head;
            fields = λ i lt. s.fields i lt
                (all_filled_at ps m.0.original i m.0 (pair_of-to ps c m.0 single m.1) all
                (let z = (h.sized c m.0 m.1).1 in omega arith));
          };
      apart = λ c d o q ec ed ne. let m = pair c o ec in let n = pair d q ed in
          subst (λ (z : Object). Off z q) m.2
          (subst (λ (z : Object). Off (as_object m.0) z) n.2 (h.apart c d m.0 n.0 m.1 n.1 ne));
      within = λ c o e. let m = pair c o e in let w = h.within c m.0 m.1 in let lo = w.0 in let is =
          pair_to-replica ps c m.0 m.1 in (
            omega arith,
            subst (λ (z : Object). end_of_object z ≤ end_of_replicas low ps) m.2
                (end_of_replicas-above ps c low m.0 m.1),
          );
      sized = λ c o e. let m = pair c o e in
          subst (λ (z : Object). length z.fields ≡ fields_in z.header) m.2 (h.sized c m.0 m.1).0;
      low_end = end_of_replicas-low ps low;
      end_high = end_of_replicas-high ps low high single le (λ c p e. (h.within c p e).1);
      cleared = λ m lo hi. absurd (omega arith);
    }
