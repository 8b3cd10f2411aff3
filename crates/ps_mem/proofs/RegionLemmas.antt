-- What the calls of a region do to the objects in its words.
use Rattle.std.proofs.Common.{◌≡◌, ℕ, ◌+◌, ◌-◌, ◌<◌, ◌≤◌, false, List, [], ◌∷◌, ◌++◌, length, take, drop, map, replicate, Some, sym, ap, arith, ◌∙◌, subst, length-append, length-drop}
use Rattle.std.specs.Prelude.{slice_get, slice_set, slice_range}
use Rattle.std.proofs.lemmas.List.{length-take-le, drop-take, take-take, drop-drop, take-map, take-append-le, drop-append-le, replicate-append-replicate, length-replicate}
use Rattle.ps_language.specs.Access.{splice}
use Rattle.ps_word.specs.declared.words.Word.{Word}
use Rattle.ps_mem.specs.Heap.{Heap, Space, object_at, fields_at, stored}
use Rattle.ps_mem.specs.Objects.{object_in, wanting, all_headers, word_of, heap_in}
use Rattle.ps_mem.proofs.Lists.{splice-one, drop-map}
use Rattle.ps_mem.proofs.Walks.{fields_in-words}
use Rattle.ps_mem.proofs.HeapLemmas.{standing_at}
use Rattle.ps_mem.proofs.HeapWalks.{fields_within, field-read, heap-written, wanting-written, headers-written, behind-written, length-written}

abbrev pub some_space : Space
some_space = record { size = 0; grows = false; flips = 0 }

take_front : {A : Type 0} (words : List A) (used j n : ℕ) → j + n ≤ used
    → take n (drop j (take used words)) ≡ take n (drop j words)
take_front words used j n fits =
    let split : used ≡ j + (used - j) = omega (arith, fits) in
    ap (λ k. take n (drop j (take k words))) split
    ∙ (ap (take n) (drop-take j (used - j) words) ∙ take-take n (used - j) (drop j words) (omega (arith, fits)))

module _ (words : List ℕ) (used next : ℕ) (within : used ≤ length words) (whole : wanting (take used words) 0 ≡ 0) where
  abbrev pub heap : Space → Heap
  heap space = heap_in words used next space

  -- what has a field stands in words that are used
  pub field_place : (a p : ℕ) → ((space : Space) → p < length (fields_at (heap space) a)) → a + 2 + p < used
  field_place a p below =
      let (o, at, fields) = standing_at (heap some_space) a p (below some_space) in
      let all = fields_within words used next some_space within whole a o at in
      let inside : p < length o.fields = subst (λ (ws : List Word). p < length ws) fields (below some_space) in
      omega (arith, all, inside)

  module _ (a p x : ℕ) (below : (space : Space) → p < length (fields_at (heap space) a)) where
    one : slice_set words (a + 2 + p) x ≡ splice words (a + 2 + p) (x ∷ [])
    one = let fits = field_place a p below in sym (splice-one words (a + 2 + p) x (omega (arith, fits)))

    pub heap-put : (space : Space)
        → heap_in (slice_set words (a + 2 + p) x) used next space ≡ stored (heap space) a p (word_of x ∷ [])
    heap-put space =
        let (o, at, fields) = standing_at (heap space) a p (below space) in
        let inside : p < length o.fields = subst (λ (ws : List Word). p < length ws) fields (below space) in
        ap (λ ws. heap_in ws used next space) one
        ∙ heap-written words used next space within whole a p (x ∷ []) o at (omega (arith, inside))

    pub wanting-put : wanting (take used (slice_set words (a + 2 + p) x)) 0 ≡ 0
    wanting-put =
        let (o, at, fields) = standing_at (heap some_space) a p (below some_space) in
        let inside : p < length o.fields = subst (λ (ws : List Word). p < length ws) fields (below some_space) in
        ap (λ ws. wanting (take used ws) 0) one
        ∙ wanting-written words used next some_space within whole a p (x ∷ []) o at (omega (arith, inside))

    pub headers-put : all_headers (take used (slice_set words (a + 2 + p) x)) 0 ≡ all_headers (take used words) 0
    headers-put =
        let (o, at, fields) = standing_at (heap some_space) a p (below some_space) in
        let inside : p < length o.fields = subst (λ (ws : List Word). p < length ws) fields (below some_space) in
        ap (λ ws. all_headers (take used ws) 0) one
        ∙ headers-written words used next some_space within whole a p (x ∷ []) o at (omega (arith, inside))

    pub behind-put : drop used (slice_set words (a + 2 + p) x) ≡ drop used words
    behind-put =
        let (o, at, fields) = standing_at (heap some_space) a p (below some_space) in
        let inside : p < length o.fields = subst (λ (ws : List Word). p < length ws) fields (below some_space) in
        ap (drop used) one
        ∙ behind-written words used next some_space within whole a p (x ∷ []) o at (omega (arith, inside))

    pub load-put : (w : ℕ) (space : Space) → slice_get words (a + 2 + p) ≡ Some w
        → slice_get (fields_at (heap space) a) p ≡ Some (word_of w)
    load-put w space read =
        let (o, at, fields) = standing_at (heap space) a p (below space) in
        let inside : p < length o.fields = subst (λ (ws : List Word). p < length ws) fields (below space) in
        ap (λ ws. slice_get ws p) fields ∙ field-read words used next space within whole a o p w at inside read

  -- ---- a copy

  -- what lies in the fields lies in the words
  fields_read : (a p n : ℕ) (space : Space) → 1 ≤ n → p + n ≤ length (fields_at (heap space) a)
      → slice_range (fields_at (heap space) a) p (p + n) ≡ map word_of (slice_range words (a + 2 + p) (a + 2 + p + n))
  unfolding object_at heap_in
  fields_read a p n space some fits =
      let (o, at, fields) = standing_at (heap space) a p (omega arith) in
      let long : p + n ≤ length o.fields = subst (λ (ws : List Word). p + n ≤ length ws) fields fits in
      let all = fields_within words used next space within whole a o at in
      let front : List ℕ = take used words in
      let m : ℕ = length o.fields in
      let are : o.fields ≡ map word_of (take m (drop (a + 2) front)) = fields_in-words front 0 a o at whole in
      let count : (p + n) - p ≡ n = omega arith in
      let count' : (a + 2 + p + n) - (a + 2 + p) ≡ n = omega arith in
      let split : m ≡ p + (m - p) = omega (arith, long) in
      let inner : take n (drop p (take m (drop (a + 2) front))) ≡ take n (drop (a + 2 + p) words) =
      ap (λ k. take n (drop p (take k (drop (a + 2) front)))) split
      ∙ (ap (take n) (drop-take p (m - p) (drop (a + 2) front))
      ∙ (take-take n (m - p) (drop p (drop (a + 2) front)) (omega (arith, long))
      ∙ (ap (take n) (drop-drop p (a + 2) front)
      ∙ take_front words used (a + 2 + p) n (omega (arith, all, long))))) in
      ap (λ ws. slice_range ws p (p + n)) (fields ∙ are)
      ∙ (ap (λ k. take k (drop p (map word_of (take m (drop (a + 2) front))))) count
      ∙ (ap (take n) (drop-map word_of p (take m (drop (a + 2) front)))
      ∙ (take-map word_of n (drop p (take m (drop (a + 2) front)))
      ∙ (ap (map word_of) inner
      ∙ ap (λ k. map word_of (take k (drop (a + 2 + p) words))) (sym count')))))

  module _ (f fp t tp n : ℕ) (some : 1 ≤ n)
      (source : (space : Space) → fp + n ≤ length (fields_at (heap space) f))
      (target : (space : Space) → tp + n ≤ length (fields_at (heap space) t)) where
    abbrev pub moved : List ℕ
    moved = slice_range words (f + 2 + fp) (f + 2 + fp + n)

    abbrev pub copied : List ℕ
    copied = take (t + 2 + tp) words ++ (moved ++ drop (t + 2 + tp + n) words)

    pub source_place : f + 2 + fp + n ≤ used
    source_place =
        let (o, at, fields) = standing_at (heap some_space) f fp (let s = source some_space in
        omega (arith, s, some)) in
        let all = fields_within words used next some_space within whole f o at in
        let inside : fp + n ≤ length o.fields =
        subst (λ (ws : List Word). fp + n ≤ length ws) fields (source some_space) in
        omega (arith, all, inside)

    pub target_place : t + 2 + tp + n ≤ used
    target_place =
        let (o, at, fields) = standing_at (heap some_space) t tp (let s = target some_space in
        omega (arith, s, some)) in
        let all = fields_within words used next some_space within whole t o at in
        let inside : tp + n ≤ length o.fields =
        subst (λ (ws : List Word). tp + n ≤ length ws) fields (target some_space) in
        omega (arith, all, inside)

    length_moved : length moved ≡ n
    length_moved =
        let place = source_place in
        let count : (f + 2 + fp + n) - (f + 2 + fp) ≡ n = omega arith in
        ap (λ k. length (take k (drop (f + 2 + fp) words))) count
        ∙ length-take-le n (drop (f + 2 + fp) words) (omega (arith, place, length-drop (f + 2 + fp) words))

    spliced : copied ≡ splice words (t + 2 + tp) moved
    unfolding splice
    spliced = ap (λ k. take (t + 2 + tp) words ++ (moved ++ drop k words)) (ap (λ k. t + 2 + tp + k) (sym length_moved))

    pub heap-copied : (space : Space)
        → heap_in copied used next space ≡ stored (heap space) t tp (slice_range (fields_at (heap space) f) fp (fp + n))
    heap-copied space =
        let (o, at, fields) = standing_at (heap space) t tp (let s = target space in omega (arith, s, some)) in
        let inside : tp + n ≤ length o.fields = subst (λ (ws : List Word). tp + n ≤ length ws) fields (target space) in
        ap (λ ws. heap_in ws used next space) spliced
        ∙ (heap-written words used next space within whole t tp moved o at (omega (arith, inside, length_moved))
        ∙ ap (stored (heap space) t tp) (sym (fields_read f fp n space some (source space))))

    pub wanting-copied : wanting (take used copied) 0 ≡ 0
    wanting-copied =
        let (o, at, fields) = standing_at (heap some_space) t tp (let s = target some_space in
        omega (arith, s, some)) in
        let inside : tp + n ≤ length o.fields =
        subst (λ (ws : List Word). tp + n ≤ length ws) fields (target some_space) in
        ap (λ ws. wanting (take used ws) 0) spliced
        ∙ wanting-written words used next some_space within whole t tp moved o
        at (omega (arith, inside, length_moved))

    pub headers-copied : all_headers (take used copied) 0 ≡ all_headers (take used words) 0
    headers-copied =
        let (o, at, fields) = standing_at (heap some_space) t tp (let s = target some_space in
        omega (arith, s, some)) in
        let inside : tp + n ≤ length o.fields =
        subst (λ (ws : List Word). tp + n ≤ length ws) fields (target some_space) in
        ap (λ ws. all_headers (take used ws) 0) spliced
        ∙ headers-written words used next some_space within whole t tp moved o
        at (omega (arith, inside, length_moved))

    pub behind-copied : drop used copied ≡ drop used words
    behind-copied =
        let (o, at, fields) = standing_at (heap some_space) t tp (let s = target some_space in
        omega (arith, s, some)) in
        let inside : tp + n ≤ length o.fields =
        subst (λ (ws : List Word). tp + n ≤ length ws) fields (target some_space) in
        ap (drop used) spliced
        ∙ behind-written words used next some_space within whole t tp moved o
        at (omega (arith, inside, length_moved))

    pub length-copied : length copied ≡ length words
    length-copied =
        let (o, at, fields) = standing_at (heap some_space) t tp (let s = target some_space in
        omega (arith, s, some)) in
        let inside : tp + n ≤ length o.fields =
        subst (λ (ws : List Word). tp + n ≤ length ws) fields (target some_space) in
        ap length spliced
        ∙ length-written words used next some_space within whole t tp moved o
        at (omega (arith, inside, length_moved))

  -- ---- growth

  pub front-grown : (more : List ℕ) → take used (words ++ more) ≡ take used words
  front-grown more = take-append-le used words more within

  pub heap-grown : (more : List ℕ) (space : Space) → heap_in (words ++ more) used next space ≡ heap space
  unfolding heap_in
  heap-grown more space =
      ap (λ ws. record { at = object_in ws 0; next = next; used = used; space = space }) (front-grown more)

  pub blank-grown : (k : ℕ) → drop used words ≡ replicate (length words - used) 0
      → drop used (words ++ replicate k 0) ≡ replicate (length (words ++ replicate k 0) - used) 0
  blank-grown k blank =
      let sum : length (words ++ replicate k 0) - used ≡ (length words - used) + k =
      omega (arith, length-append words (replicate k 0), length-replicate {A = ℕ} k 0) in
      drop-append-le used words (replicate k 0) within
      ∙ (ap (λ ws. ws ++ replicate k 0) blank
      ∙ (replicate-append-replicate {A = ℕ} (length words - used) k 0 ∙ ap (λ j. replicate {A = ℕ} j 0) (sym sum)))
