-- The words of the current space show the standing objects, and those of the other space the
-- replicas, over every store.
use Rattle.std.proofs.Common.{◌≡◌, ◌≢◌, ◌⊎◌, ℕ, ◌+◌, ◌<◌, ◌≤◌, true, false, nat_eq, List, ◌∷◌, length, Some, None}
use Rattle.std.proofs.Common.{Option, refl, sym, ap, ◌∙◌, inl, inr, subst, arith, length-set}
use Rattle.std.specs.Prelude.{slice_set, slice_index, replicate}
use Rattle.std.specs.Option.{option_map}
use Rattle.std.proofs.lemmas.List.{get_or-set_same, get_or-set_other, get_or-replicate, length-replicate}
use native.Mathlib.Decide.{ℕ_discrete}
use Rattle.ps_word.specs.Headers.{fields_in}
use Rattle.ps_core_machine.specs.declared.events.Object.{Object}
use Rattle.ps_core_machine.specs.Objects.{object_at, with_field, stored}
use Rattle.ps_core_laws.proofs.HeapTests.{clash, number_not, at_number, eq_true}
use Rattle.ps_core_laws.proofs.Lookups.{object_at-address, object_at-with_field}

pub some_map : {A B : Type 0} (f : A → B) (o : Option A) (y : B) → option_map f o ≡ Some y
    → (x : A) × (o ≡ Some x) × (f x ≡ y)
some_map f None y e = absurd (cc)
some_map f (Some x) y e = (x, refl, cc)

-- ---- standing objects

abbrev pub end_of_object : Object → ℕ
end_of_object o = o.address + 2 + length o.fields

-- the words show the object: its first header and its fields
pub record ShowsIt (ws : List ℕ) (o : Object) : Type 0 where
  pub head : slice_index ws o.address ≡ o.header
  pub fields : (i : ℕ) → i < length o.fields → slice_index ws (o.address + 2 + i) ≡ slice_index o.fields i

abbrev pub Off : Object → Object → Type 0
Off o p = (end_of_object o ≤ p.address) ⊎ (end_of_object p ≤ o.address)

pub record SpaceIs (ws : List ℕ) (os : List Object) (end making low high : ℕ) : Type 0 where
  pub shown : (a : ℕ) (o : Object) → object_at os a ≡ Some o → ShowsIt ws o
  pub apart : (a b : ℕ) (o p : Object) → object_at os a ≡ Some o → object_at os b ≡ Some p → a ≢ b → Off o p
  pub within : (a : ℕ) (o : Object) → object_at os a ≡ Some o → (low ≤ a) × (end_of_object o ≤ end)
  pub sized : (a : ℕ) (o : Object) → object_at os a ≡ Some o → length o.fields ≡ fields_in o.header
  pub low_end : low ≤ end
  pub end_high : end ≤ high
  pub cleared : (m : ℕ) → 1 ≤ m → m ≤ making → (end + m < high) × (slice_index ws (end + m) ≡ 0)

-- a store at a word that is no first header and no field of the object
kept : (ws : List ℕ) (o : Object) (j w : ℕ) → o.address ≢ j → ((i : ℕ) → i < length o.fields → o.address + 2 + i ≢ j)
    → ShowsIt ws o → ShowsIt (slice_set ws j w) o
kept ws o j w head fields h = record {
  head = get_or-set_other ws j o.address w 0 head ∙ h.head;
  fields = λ i lt. get_or-set_other ws j (o.address + 2 + i) w 0 (fields i lt) ∙ h.fields i lt;
}

kept_off : (ws : List ℕ) (o : Object) (j w : ℕ) → (j < o.address) ⊎ (end_of_object o ≤ j) → ShowsIt ws o
    → ShowsIt (slice_set ws j w) o
kept_off ws o j w off h = elim off [
  | inl before ↦ kept ws o j w (λ e. omega arith) (λ i lt e. omega arith) h
  | inr after ↦ kept ws o j w (λ e. omega arith) (λ i lt e. omega arith) h
]

-- a store outside the space
pub space_off : (ws : List ℕ) (os : List Object) (end making low high j w : ℕ) → (j < low) ⊎ (high ≤ j)
    → SpaceIs ws os end making low high → SpaceIs (slice_set ws j w) os end making low high
space_off ws os end making low high j w out h = record {
  shown = λ a o e. let in_space = h.within a o e in let lo = in_space.0 in let hi = in_space.1 in
      let at = object_at-address os a o e in let eh = h.end_high in
      kept_off ws o j w (elim out as (λ _. (j < o.address) ⊎ (end_of_object o ≤ j)) [
        | inl x ↦ inl (omega arith)
        | inr x ↦ inr (omega arith)
      ]) (h.shown a o e);
  apart = h.apart;
  within = h.within;
  sized = h.sized;
  low_end = h.low_end;
  end_high = h.end_high;
  cleared = λ m lo hi. let c = h.cleared m lo hi in let near = c.0 in let le = h.low_end in (
    c.0,
    get_or-set_other ws j (end + m) w 0 (elim out as (λ _. end + m ≢ j) [
      | inl x ↦ (λ e. omega arith)
      | inr x ↦ (λ e. omega arith)
    ]) ∙ c.1,
  );
}

-- the next word of the object being made is zero already
pub space_clear : (ws : List ℕ) (os : List Object) (end making low high : ℕ) → end + 1 + making < high
    → slice_index ws (end + 1 + making) ≡ 0 → SpaceIs ws os end making low high
    → SpaceIs ws os end (making + 1) low high
space_clear ws os end making low high room zero h = record {
  shown = h.shown;
  apart = h.apart;
  within = h.within;
  sized = h.sized;
  low_end = h.low_end;
  end_high = h.end_high;
  cleared = λ m lo hi. elim (ℕ_discrete m (making + 1)) [
    | yes is ↦ (omega arith, ap (slice_index ws) (let e : end + m ≡ end + 1 + making = omega arith in e) ∙ zero)
    | no ne ↦ h.cleared m lo (omega arith)
  ];
}

-- the next word of the object being made is cleared
pub space_cleared : (ws : List ℕ) (os : List Object) (end making low high : ℕ) → high ≤ length ws
    → end + 1 + making < high → SpaceIs ws os end making low high
    → SpaceIs (slice_set ws (end + 1 + making) 0) os end (making + 1) low high
space_cleared ws os end making low high wide room h = record {
  shown = λ a o e. let in_space = h.within a o e in let hi = in_space.1 in
      kept_off ws o (end + 1 + making) 0 (inr (omega arith)) (h.shown a o e);
  apart = h.apart;
  within = h.within;
  sized = h.sized;
  low_end = h.low_end;
  end_high = h.end_high;
  cleared = λ m lo hi. elim (ℕ_discrete m (making + 1)) [
    | yes is ↦ (
      omega arith,
      ap (λ (z : ℕ). slice_index (slice_set ws (end + 1 + making) 0) z) (let e : end + m ≡ end + 1 + making =
          omega arith in e) ∙ get_or-set_same ws (end + 1 + making) 0 0 (omega arith),
    )
    | no ne ↦ let c = h.cleared m lo (omega arith) in
        (c.0, get_or-set_other ws (end + 1 + making) (end + m) 0 0 (λ e. omega arith) ∙ c.1)
  ];
}

-- the header store: one more object
module _ (ws : List ℕ) (os : List Object) (end making low high header : ℕ) (h : SpaceIs ws os end making low high)
    (wide : high ≤ length ws) (made : making ≡ fields_in header + 1) where
  n : ℕ
  n = fields_in header

  new : Object
  new = record { address = end; header = header; fields = replicate (fields_in header) 0 }

  new_length : length new.fields ≡ fields_in header
  unfolding new
  new_length = length-replicate (fields_in header) 0

  new_shown : ShowsIt (slice_set ws end header) new
  unfolding new
  new_shown =
      let eh = h.end_high in
      let last = (h.cleared making (omega arith) (omega arith)).0 in
      record {
        head = get_or-set_same ws end header 0 (omega arith);
        fields = λ i lt.
            let small : i < fields_in header = omega (arith, length-replicate {A = ℕ} (fields_in header) 0) in
            let place : end + 2 + i ≡ end + (i + 2) = omega arith in
            let zero_word : slice_index ws (end + (i + 2)) ≡ 0 = (h.cleared (i + 2) (omega arith) (omega arith)).1 in
            get_or-set_other ws end (end + 2 + i) header 0 (λ e. omega arith)
            ∙ (ap (slice_index ws) place ∙ (zero_word ∙ sym (get_or-replicate (fields_in header) i 0 0 small)));
      }

  -- the objects found afterwards
  pub made_cases : (b : ℕ) (o : Object)
      → object_at (record { address = end; header = header; fields = replicate (fields_in header) 0 } ∷ os) b ≡ Some o
      → ((b ≡ end) × (record { address = end; header = header; fields = replicate (fields_in header) 0 } ≡ o))
      ⊎ (object_at os b ≡ Some o)
  made_cases b o e = elim (at_number end b) [
    | inl is ↦ let e' = rw (eq_true b end is) at e in inl (is, cc)
    | inr ne ↦ let e' = rw ne at e in inr e'
  ]

  pub space_made : SpaceIs (slice_set ws end header) (record {
    address = end;
    header = header;
    fields = replicate (fields_in header) 0;
  } ∷ os) (end + 2 + fields_in header) 0 low high
  unfolding new
  space_made =
      let last = (h.cleared making (omega arith) (omega arith)).0 in
      let eh = h.end_high in
      let le = h.low_end in
      let long : end_of_object new ≡ end + 2 + fields_in header = omega (arith, new_length) in
      record {
        shown = λ b o e. elim (made_cases b o e) [
          | inl this ↦ subst (ShowsIt (slice_set ws end header)) this.1 new_shown
          | inr old ↦ let in_space = h.within b o old in let hi = in_space.1 in
              kept_off ws o end header (inr hi) (h.shown b o old)
        ];
        apart = λ b c o p eb ec ne. elim (made_cases b o eb) [
          | inl this ↦ elim (made_cases c p ec) [
            | inl that ↦ absurd (ne (this.0 ∙ sym that.0))
            | inr old ↦ let hi = (h.within c p old).1 in subst (λ (z : Object). Off z p) this.1 (inr hi)
          ]
          | inr old_b ↦ elim (made_cases c p ec) [
            | inl that ↦ let hi = (h.within b o old_b).1 in subst (λ (z : Object). Off o z) that.1 (inl hi)
            | inr old_c ↦ h.apart b c o p old_b old_c ne
          ]
        ];
        within = λ b o e. elim (made_cases b o e) [
          | inl this ↦ (
            let at = this.0 in omega arith,
            subst (λ (z : Object). end_of_object z ≤ end + 2 + fields_in header) this.1 (omega arith),
          )
          | inr old ↦ let w = h.within b o old in let hi = w.1 in (w.0, omega arith)
        ];
        sized = λ b o e. elim (made_cases b o e) [
          | inl this ↦ subst (λ (z : Object). length z.fields ≡ fields_in z.header) this.1 new_length
          | inr old ↦ h.sized b o old
        ];
        low_end = omega arith;
        end_high = omega arith;
        cleared = λ m lo hi. absurd (omega arith);
      }

-- a field of a standing object is stored
module _ (ws : List ℕ) (os : List Object) (end making low high a i w : ℕ) (o : Object)
    (h : SpaceIs ws os end making low high) (at : object_at os a ≡ Some o) (lt : i < length o.fields)
    (wide : high ≤ length ws) where
  place : a + 2 + i < end
  place = let hi = (h.within a o at).1 in let is = object_at-address os a o at in omega arith

  stored_shown : ShowsIt (slice_set ws (a + 2 + i) w) (record o { fields = slice_set o.fields i w })
  stored_shown =
      let s = h.shown a o at in
      let is = object_at-address os a o at in
      let p = place in let eh = h.end_high in
      record {
        head = get_or-set_other ws (a + 2 + i) o.address w 0 (λ e. omega arith) ∙ s.head;
        fields = λ k lk. elim (ℕ_discrete k i) [
          | yes e ↦
              let here : o.address + 2 + k ≡ a + 2 + i = omega arith in
              ap (λ (z : ℕ). slice_index (slice_set ws (a + 2 + i) w) z) here
              ∙ (get_or-set_same ws (a + 2 + i) w 0 (omega arith)
              ∙ (sym (get_or-set_same o.fields i w 0 lt) ∙ ap (slice_index (slice_set o.fields i w)) (sym e)))
          | no ne ↦ get_or-set_other ws (a + 2 + i) (o.address + 2 + k) w 0 (λ e. ne (omega arith))
              ∙ (s.fields k (omega (arith, length-set o.fields i w)) ∙ sym (get_or-set_other o.fields i k w 0 ne))
        ];
      }

  -- the objects found afterwards
  pub stored_cases : (b : ℕ) (q : Object) → object_at (with_field os a i w) b ≡ Some q
      → ((b ≡ a) × (record o { fields = slice_set o.fields i w } ≡ q)) ⊎ ((b ≢ a) × (object_at os b ≡ Some q))
  stored_cases b q e =
      let m = some_map (stored a i w) (object_at os b) q (sym (object_at-with_field os a i w b) ∙ e) in
      let at_b = object_at-address os b m.0 m.1 in
      elim (at_number a b) [
        | inl is ↦
            let same : Some m.0 ≡ Some o = sym m.1 ∙ (ap (object_at os) is ∙ at) in
            let this : m.0 ≡ o = cc in
            let t : nat_eq a o.address ≡ true = eq_true a o.address (sym (object_at-address os a o at)) in
            let q_is : stored a i w o ≡ q = ap (stored a i w) (sym this) ∙ m.2 in
            inl (is, rw t at q_is)
        | inr ne ↦
            let ne' : b ≢ a = λ s. clash (nat_eq b a) (eq_true b a s) ne in
            let t : nat_eq a m.0.address ≡ false = number_not a m.0.address (λ s. ne' (sym (s ∙ at_b))) in
            let q_is : m.0 ≡ q = let r = m.2 in rw t at r in
            inr (ne', m.1 ∙ ap Some q_is)
      ]

  pub space_stored : SpaceIs (slice_set ws (a + 2 + i) w) (with_field os a i w) end making low high
  space_stored =
      let is = object_at-address os a o at in
      let p = place in
      let mine = h.within a o at in
      let mine_lo = mine.0 in let mine_hi = mine.1 in
      let off_from : (b : ℕ) (q : Object) → object_at os b ≡ Some q → b ≢ a
      → (a + 2 + i < q.address) ⊎ (end_of_object q ≤ a + 2 + i) = λ b q e ne.
      elim (h.apart a b o q at e (λ s. ne (sym s))) as (λ _. (a + 2 + i < q.address) ⊎ (end_of_object q ≤ a + 2 + i)) [
        | inl x ↦ inl (omega arith)
        | inr x ↦ inr (omega arith)
      ] in
      record {
        shown = λ b q e. elim (stored_cases b q e) [
          | inl this ↦ subst (ShowsIt (slice_set ws (a + 2 + i) w)) this.1 stored_shown
          | inr other ↦ kept_off ws q (a + 2 + i) w (off_from b q other.1 other.0) (h.shown b q other.1)
        ];
        apart = λ b c q r eb ec ne. elim (stored_cases b q eb) [
          | inl this ↦ elim (stored_cases c r ec) [
            | inl that ↦ absurd (ne (this.0 ∙ sym that.0))
            | inr other ↦ subst (λ (z : Object). Off z r) this.1 (let x =
                h.apart a c o r at other.1 (λ s. other.0 (sym s)) in let l = length-set o.fields i w in
                elim x as (λ _. Off (record o { fields = slice_set o.fields i w }) r) [
                  | inl y ↦ inl (omega arith)
                  | inr y ↦ inr y
                ])
          ]
          | inr other ↦ elim (stored_cases c r ec) [
            | inl that ↦ subst (λ (z : Object). Off q z) that.1 (let x = h.apart b a q o other.1 at other.0 in
                let l = length-set o.fields i w in
                elim x as (λ _. Off q (record o { fields = slice_set o.fields i w })) [
                  | inl y ↦ inl y
                  | inr y ↦ inr (omega arith)
                ])
            | inr both ↦ h.apart b c q r other.1 both.1 ne
          ]
        ];
        within = λ b q e. elim (stored_cases b q e) [
          | inl this ↦ (
            let s = this.0 in omega arith,
            subst (λ (z : Object). end_of_object z ≤ end) this.1 (let l = length-set o.fields i w in omega arith),
          )
          | inr other ↦ h.within b q other.1
        ];
        sized = λ b q e. elim (stored_cases b q e) [
          | inl this ↦ subst (λ (z : Object). length z.fields ≡ fields_in z.header) this.1 (length-set o.fields i w
              ∙ h.sized a o at)
          | inr other ↦ h.sized b q other.1
        ];
        low_end = h.low_end;
        end_high = h.end_high;
        cleared = λ m lo hi. let c = h.cleared m lo hi in
            (c.0, get_or-set_other ws (a + 2 + i) (end + m) w 0 (λ e. omega arith) ∙ c.1);
      }

-- a second header is stored
pub space_second : (ws : List ℕ) (os : List Object) (end making low high a w : ℕ) (o : Object)
    → SpaceIs ws os end making low high → object_at os a ≡ Some o
    → SpaceIs (slice_set ws (a + 1) w) os end making low high
space_second ws os end making low high a w o h at =
    let is = object_at-address os a o at in
    let mine_hi = (h.within a o at).1 in
    record {
      shown = λ b q e. elim (ℕ_discrete b a) [
        | yes same ↦
            let this : Some q ≡ Some o = sym e ∙ (ap (object_at os) same ∙ at) in
            let q_is : q ≡ o = cc in
            subst (ShowsIt (slice_set ws (a + 1) w)) (sym q_is)
            (kept ws o (a + 1) w (λ x. omega arith) (λ k lk x. omega arith) (h.shown a o at))
        | no ne ↦ kept_off ws q (a + 1) w (elim (h.apart a b o q at e (λ s. ne (sym s))) as (λ _. (a + 1 < q.address)
            ⊎ (end_of_object q ≤ a + 1)) [ inl x ↦ inl (omega arith) | inr x ↦ inr (omega arith) ]) (h.shown b q e)
      ];
      apart = h.apart;
      within = h.within;
      sized = h.sized;
      low_end = h.low_end;
      end_high = h.end_high;
      cleared = λ m lo hi. let c = h.cleared m lo hi in
          (c.0, get_or-set_other ws (a + 1) (end + m) w 0 (λ e. omega arith) ∙ c.1);
    }

-- no object stands at the end
pub none_at_end : (ws : List ℕ) (os : List Object) (end making low high : ℕ) → SpaceIs ws os end making low high
    → object_at os end ≡ None
none_at_end ws os end making low high h = go (object_at os end) refl
  where
    go : (x : Option Object) → object_at os end ≡ x → x ≡ None
    go None e = refl
    go (Some o) e = let hi = (h.within end o e).1 in let is = object_at-address os end o e in absurd (omega arith)
