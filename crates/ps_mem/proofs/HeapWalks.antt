-- The heap of words in which objects stand one after another, after a write and with a new object.
use Rattle.std.proofs.Common.{◌≡◌, ℕ, zero, suc, ◌+◌, ◌<◌, ◌≤◌, List, [], ◌∷◌, length, take, drop, map, Some, refl, sym, ap, arith, ◌∙◌, subst, inl, inr}
use Rattle.std.specs.Prelude.{slice_get}
use Rattle.std.proofs.lemmas.Bool.Decides.{eqb_tells}
use Rattle.std.proofs.lemmas.List.{length-take-le}
use Rattle.ps_language.specs.Access.{splice}
use Rattle.ps_mem.specs.Heap.{Space, Standing, object_at, stored}
use Rattle.ps_word.specs.Headers.{fields_in, birth_in, kind_in}
use Rattle.ps_mem.specs.Objects.{object_in, wanting, all_headers, is_kind_number, word_of, heap_in, kind_of_number}
use Rattle.std.specs.Prelude.{true}
use Rattle.ps_mem.proofs.Lists.{take-splice, drop-splice, length-splice}
use Rattle.ps_mem.proofs.Walks.{object_in_within, field_in, header_in, header_says_kind}
use Rattle.ps_mem.proofs.WalkWrites.{written_same, written_other, written_wanting, written_headers}
use Rattle.ps_mem.proofs.HeapLemmas.{same_heap, object_at-stored_same, object_at-stored_other, next-stored, used-stored, space-stored}

pub next-in : (words : List ℕ) (used next : ℕ) (space : Space) → (heap_in words used next space).next ≡ next
unfolding heap_in
next-in words used next space = refl

pub used-in : (words : List ℕ) (used next : ℕ) (space : Space) → (heap_in words used next space).used ≡ used
unfolding heap_in
used-in words used next space = refl

pub space-in : (words : List ℕ) (used next : ℕ) (space : Space) → (heap_in words used next space).space ≡ space
unfolding heap_in
space-in words used next space = refl

slice_get-take : {A : Type 0} (n : ℕ) (xs : List A) (i : ℕ) → i < n → slice_get (take n xs) i ≡ slice_get xs i
slice_get-take zero xs i h = absurd (omega arith)
slice_get-take (suc n) [] i h = refl
slice_get-take (suc n) (x ∷ xs) zero h = refl
slice_get-take (suc n) (x ∷ xs) (suc i) h = slice_get-take n xs i (omega arith)

module _ (words : List ℕ) (used next : ℕ) (space : Space) (within : used ≤ length words)
    (whole : wanting (take used words) 0 ≡ 0) where
  object_at-in : (b : ℕ) → object_at (heap_in words used next space) b ≡ object_in (take used words) 0 b
  unfolding object_at heap_in
  object_at-in b = refl

  length_front : length (take used words) ≡ used
  length_front = length-take-le used words within

  -- the fields of what stands lie in the words used
  pub fields_within : (a : ℕ) (o : Standing) → object_at (heap_in words used next space) a ≡ Some o
      → a + 2 + length o.fields ≤ used
  fields_within a o e =
      let inside = object_in_within (take used words) 0 a o (sym (object_at-in a) ∙ e) whole in
      omega (arith, inside, length_front)

  module _ (a p : ℕ) (xs : List ℕ) (o : Standing) (at : object_at (heap_in words used next space) a
      ≡ Some o) (fits : p + length xs ≤ length o.fields) where
    below : a + 2 + p + length xs ≤ used
    below = let all = fields_within a o at in omega (arith, all)

    front : take used (splice words (a + 2 + p) xs) ≡ splice (take used words) (a + 2 + p) xs
    front = take-splice used words (a + 2 + p) xs below (omega (arith, below))

    there : object_in (take used words) 0 a ≡ Some o
    there = sym (object_at-in a) ∙ at

    heap_is : (b : ℕ) → object_at (heap_in (splice words (a + 2 + p) xs) used next space) b
        ≡ object_in (splice (take used words) (a + 2 + p) xs) 0 b
    unfolding object_at heap_in
    heap_is b = ap (λ ws. object_in ws 0 b) front

    -- a write into the fields of what stands is a store
    pub heap-written : heap_in (splice words (a + 2 + p) xs) used next space
        ≡ stored (heap_in words used next space) a p (map word_of xs)
    heap-written =
        let h = heap_in words used next space in
        let fits' : a + 2 + p + length xs ≤ length (take used words) = omega (arith, below, length_front) in
        same_heap (heap_in (splice words (a + 2 + p) xs) used next space) (stored h a p (map word_of xs))
        (λ b. elim (eqb_tells a b) [
          | inl (_, e) ↦ subst (λ c. object_at (heap_in (splice words (a + 2 + p) xs) used next space) c
              ≡ object_at (stored h a p (map word_of xs)) c) e
              (heap_is a ∙ (written_same xs (take used words) 0 a o p there fits fits'
              ∙ sym (object_at-stored_same h a p (map word_of xs) o at)))
          | inr (_, ne) ↦ heap_is b ∙ (written_other xs (take used words) 0 a o p b there fits fits' ne
              ∙ (sym (object_at-in b) ∙ sym (object_at-stored_other h a p (map word_of xs) b ne)))
        ])
        (next-in (splice words (a + 2 + p) xs) used next space
        ∙ (sym (next-in words used next space) ∙ sym (next-stored h a p (map word_of xs))))
        (used-in (splice words (a + 2 + p) xs) used next space
        ∙ (sym (used-in words used next space) ∙ sym (used-stored h a p (map word_of xs))))
        (space-in (splice words (a + 2 + p) xs) used next space
        ∙ (sym (space-in words used next space) ∙ sym (space-stored h a p (map word_of xs))))

    pub wanting-written : wanting (take used (splice words (a + 2 + p) xs)) 0 ≡ 0
    wanting-written =
        let fits' : a + 2 + p + length xs ≤ length (take used words) = omega (arith, below, length_front) in
        ap (λ ws. wanting ws 0) front ∙ (written_wanting xs (take used words) 0 a o p there fits fits' ∙ whole)

    pub headers-written : all_headers (take used (splice words (a + 2 + p) xs)) 0 ≡ all_headers (take used words) 0
    headers-written =
        let fits' : a + 2 + p + length xs ≤ length (take used words) = omega (arith, below, length_front) in
        ap (λ ws. all_headers ws 0) front ∙ written_headers xs (take used words) 0 a o p there fits fits'

    pub behind-written : drop used (splice words (a + 2 + p) xs) ≡ drop used words
    behind-written = drop-splice used words (a + 2 + p) xs below (omega (arith, below))

    pub length-written : length (splice words (a + 2 + p) xs) ≡ length words
    length-written = length-splice words (a + 2 + p) xs (omega (arith, below))

  -- a read of a field of what stands
  pub field-read : (a : ℕ) (o : Standing) (i x : ℕ) → object_at (heap_in words used next space) a ≡ Some o
      → i < length o.fields → slice_get words (a + 2 + i) ≡ Some x → slice_get o.fields i ≡ Some (word_of x)
  field-read a o i x at below read =
      let all = fields_within a o at in
      field_in (take used words) 0 a o i x (sym (object_at-in a)
      ∙ at) below (slice_get-take used words (a + 2 + i) (omega (arith, all)) ∙ read)

  pub header-read : (a : ℕ) (o : Standing) (x : ℕ) → object_at (heap_in words used next space) a ≡ Some o
      → slice_get words a ≡ Some x →
      (o.kind ≡ kind_of_number (kind_in x)) × (o.birth ≡ birth_in x) × (length o.fields ≡ fields_in x)
  header-read a o x at read =
      let all = fields_within a o at in
      header_in (take used words) 0 a o x (sym (object_at-in a) ∙ at) (slice_get-take used words a (omega (arith, all))
      ∙ read) whole

  pub header_kind : (a : ℕ) (o : Standing) (x : ℕ) → object_at (heap_in words used next space) a ≡ Some o
      → slice_get words a ≡ Some x → all_headers (take used words) 0 ≡ true → is_kind_number (kind_in x) ≡ true
  header_kind a o x at read all =
      let inside = fields_within a o at in
      header_says_kind (take used words) 0 a o x (sym (object_at-in a)
      ∙ at) (slice_get-take used words a (omega (arith, inside)) ∙ read) all
