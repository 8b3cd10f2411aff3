-- A body whose index is filled in, position by position.
use Rattle.std.proofs.Common.{◌≡◌, ℕ, zero, suc, ◌+◌, ◌-◌, ◌*◌, ◌%◌, ◌^◌, ◌<◌, ◌≤◌, true, false, rules, List, [], ◌∷◌, ◌++◌, length, map, take, drop, replicate, Option, Some, None, refl, sym, ap, ◌∙◌, arith, subst, inl, inr, length-drop}
use Rattle.std.specs.Prelude.{pos, slice_get, slice_set, FitsSigned}
use Rattle.std.specs.List.{AllByRecursion}
use Rattle.std.specs.Int.{w32}
use Rattle.std.proofs.lemmas.List.{length-map, length-take-le, length-replicate, append-nil, take-append-drop}
use Rattle.std.proofs.lemmas.Bool.Decides.{eqb_tells}
use Rattle.ps_language.specs.declared.kinds.Kind.TheVariants.{Body as BodyKind}
use Rattle.ps_language.specs.Access.{splice}
use Rattle.ps_language.specs.Value.{Store}
use Rattle.ps_word.specs.declared.words.Word.{Word}
use Rattle.ps_word.specs.declared.values.Content.TheVariants.{Integer}
use Rattle.ps_word.specs.Format.{IsInFormat}
use Rattle.ps_word.proofs.Packing.{value_in-packed, IsWord-packed}
use Rattle.ps_mem.specs.Heap.{Heap, Standing, object_at, birth_at, fields_of, fields_at, stored, zero_word, IsKind}
use Rattle.ps_mem.specs.Index.{pairs_of_words, hash_of, hashes_of, has_free, placed, index_of, index_word, index_words}
use Rattle.ps_mem.specs.Keeps.{Keeps}
use Rattle.ps_mem.specs.Shows.{IsNatural, IsValue, AreValues, IsWithin, AreWithin}
use Rattle.ps_mem.proofs.Lists.{all_at, splice-zero, splice-one, length-splice}
use Rattle.ps_mem.proofs.HeapLemmas.{same_heap, object_at-stored_same, object_at-stored_other, birth_at-stored, next-stored, used-stored, space-stored}
use Rattle.ps_mem.proofs.KeepsLemmas.{Keeps-stored, IsValue-kept}
use Rattle.ps_dict.proofs.Pairs.{slice_get_there, pair_here, length-pairs_of_words}
use Rattle.ps_dict.proofs.Probing.{get-append_left, get-take}
use Rattle.ps_dict.proofs.IndexPlaces.{AreBelow, IsBelow, IsIndex, is-index, free_or}
use Rattle.ps_dict.proofs.Appending.{index_words-more, splice-behind, drop-splice_at}
use Rattle.ps_dict.proofs.Naturals.{natural-value, natural-within}
use Rattle.ps_dict.specs.Places.{IsPlaceFor}
use Rattle.ps_mem.proofs.ZeroLemmas.{zero_is_value, AreWithin-zeros}
use Rattle.ps_dict.proofs.Making.{no-index}

-- ---- lists

length-set : {A : Type 0} (xs : List A) (i : ℕ) (x : A) → length (slice_set xs i x) ≡ length xs
length-set [] i x = refl
length-set (y ∷ xs) zero x = refl
length-set (y ∷ xs) (suc i) x = ap suc (length-set xs i x)

set-left : {A : Type 0} (xs ys : List A) (i : ℕ) (x : A) → i < length xs
    → slice_set (xs ++ ys) i x ≡ slice_set xs i x ++ ys
set-left [] ys i x h = absurd (omega arith)
set-left (y ∷ xs) ys zero x h = refl
set-left (y ∷ xs) ys (suc i) x h = ap (λ zs. y ∷ zs) (set-left xs ys i x (omega (arith, h)))

pub set-right : {A : Type 0} (xs ys : List A) (i : ℕ) (x : A)
    → slice_set (xs ++ ys) (length xs + i) x ≡ xs ++ slice_set ys i x
set-right [] ys i x = ap (λ n. slice_set ys n x) (let e : 0 + i ≡ i = omega arith in e)
set-right (y ∷ xs) ys i x =
    ap (λ n. slice_set (y ∷ (xs ++ ys)) n x)
    (let e : length (y ∷ xs) + i ≡ suc (length xs + i) = omega arith in e)
    ∙ ap (λ zs. y ∷ zs) (set-right xs ys i x)

-- one item more, among those spliced in
pub splice-set : {A : Type 0} (old : List A) (m : ℕ) (xs : List A) (q : ℕ) (w : A) → q < length xs
    → m + length xs ≤ length old
    → splice (splice old m xs) (m + q) (w ∷ []) ≡ splice old m (slice_set xs q w)
unfolding splice
splice-set old m xs q w below fits =
    let all : length (splice old m xs) ≡ length old = length-splice old m xs fits in
    let front : length (take m old) ≡ m = length-take-le m old (omega (arith, fits)) in
    let long : length (slice_set xs q w) ≡ length xs = length-set xs q w in
    splice-one (splice old m xs) (m + q) w (omega (arith, all, below, fits))
    ∙ (ap (λ n. slice_set (take m old ++ (xs ++ drop (m + length xs) old)) (n + q) w) (sym front)
    ∙ (set-right (take m old) (xs ++ drop (m + length xs) old) q w
    ∙ (ap (λ zs. take m old ++ zs) (set-left xs (drop (m + length xs) old) q w below)
    ∙ ap (λ n. take m old ++ (slice_set xs q w ++ drop (m + n) old)) (sym long))))

pub drop-all : {A : Type 0} (n : ℕ) (xs : List A) → length xs ≤ n → drop n xs ≡ []
drop-all zero [] h = refl
drop-all zero (x ∷ xs) h = absurd (omega (arith, h))
drop-all (suc n) [] h = refl
drop-all (suc n) (x ∷ xs) h = drop-all n xs (omega (arith, h))

-- what stands there already
splice-same : {A : Type 0} (m : ℕ) (xs ys : List A) → drop m xs ≡ ys → length xs ≤ m + length ys
    → splice xs m ys ≡ xs
unfolding splice
splice-same m xs ys is ends = ap (λ zs. take m xs ++ (ys ++ zs)) (drop-all (m + length ys) xs ends)
    ∙ (ap (λ zs. take m xs ++ zs) (append-nil ys ∙ sym is) ∙ take-append-drop m xs)

-- the end of a list, spliced in
pub drop-end : {A : Type 0} (m : ℕ) (xs items : List A) → m + length items ≡ length xs
    → drop m (splice xs m items) ≡ items
drop-end m xs items ends =
    let left : length (drop m xs) ≡ length xs - m = length-drop m xs in
    ap (λ n. drop m (splice xs n items)) (let e : m ≡ m + 0 = omega arith in e)
    ∙ (drop-splice_at m xs 0 items (omega (arith, ends))
    ∙ (splice-zero (drop m xs) items
    ∙ (ap (λ zs. items ++ zs) (drop-all (length items) (drop m xs) (omega (arith, left, ends)))
    ∙ append-nil items)))

pub take-next : {A : Type 0} (xs : List A) (i : ℕ) (x : A) → slice_get xs i ≡ Some x
    → take (i + 1) xs ≡ take i xs ++ x ∷ []
take-next xs i x at = ap (λ n. take n xs) (let e : i + 1 ≡ suc i = omega arith in e)
    ∙ more xs i x at
  where
    more : {A : Type 0} (xs : List A) (i : ℕ) (x : A) → slice_get xs i ≡ Some x
        → take (suc i) xs ≡ take i xs ++ x ∷ []
    more [] i x at = cc
    more (y ∷ xs) zero x at = let is : y ≡ x = cc in ap (λ z. z ∷ []) is
    more (y ∷ xs) (suc i) x at = ap (λ zs. y ∷ zs) (more xs i x at)

-- ---- the words of an index

index_word-in_format : (q : ℕ) → q < 2 ^ 31
    → IsInFormat (record { content = Integer (pos q); executable = false })
index_word-in_format q small = let fits : FitsSigned w32 (pos q) = search rules in
    record { content = fits; literal_body = refl }

index_word-natural : (q : ℕ) → q < 2 ^ 31 → IsNatural (index_word (Some q)) q
index_word-natural q small =
    value_in-packed (record { content = Integer (pos q); executable = false })
    (index_word-in_format q small)

index_word-held : (h : Heap) (q : ℕ) → q < 2 ^ 31 → IsValue h (index_word (Some q))
index_word-held h q small =
    natural-value (index_word (Some q)) q (index_word-natural q small)
    (IsWord-packed (record { content = Integer (pos q); executable = false })
    (index_word-in_format q small)) h

module _ (P : Word → Type 0) (none : P zero_word)
    (some : (q : ℕ) → q < 2 ^ 31 → P (index_word (Some q))) where
  all_words : (n : ℕ) → n ≤ 21845 → (spots : List (Option ℕ)) → AreBelow n spots
      → AllByRecursion P (map index_word spots)
  all_words n few [] below = tt
  all_words n few (None ∷ spots) below = (none, all_words n few spots below.1)
  all_words n few (Some q ∷ spots) below =
      (some q (let e = below.0 in omega (arith, e, few)), all_words n few spots below.1)

  all_index : (births : ℕ → ℕ) (c : ℕ) (pairs : List (Word × Word)) → c ≤ 21845 → length pairs ≤ c
      → AllByRecursion P (index_words births c pairs)
  unfolding index_words
  all_index births c pairs few room =
      let count : length (hashes_of births pairs) ≡ length pairs =
      length-map pairs (λ (pair : Word × Word). hash_of births pair.0) in
      all_words (length (hashes_of births pairs)) (omega (arith, count, few, room))
      (index_of c (hashes_of births pairs))
      (is-index c (hashes_of births pairs) (omega (arith, count, room))).below

pub index-values : (h : Heap) (births : ℕ → ℕ) (c : ℕ) (pairs : List (Word × Word)) → c ≤ 21845
    → length pairs ≤ c → AreValues h (index_words births c pairs)
index-values h births c pairs few room =
    all_index (IsValue h) (zero_is_value h) (index_word-held h) births c pairs few room

pub index-within : (h : Heap) (names : List (List ℕ)) (s : Store) (births : ℕ → ℕ) (c : ℕ)
    (pairs : List (Word × Word)) → c ≤ 21845 → length pairs ≤ c
    → AreWithin h names s (index_words births c pairs)
index-within h names s births c pairs few room =
    all_index (IsWithin (birth_at h) names s) (AreWithin-zeros h names s 1).0
    (λ q small. natural-within (index_word (Some q)) q (index_word-natural q small) (birth_at h)
    names s) births c pairs few room

pub length-index_words : (births : ℕ → ℕ) (c : ℕ) (pairs : List (Word × Word)) → length pairs ≤ c
    → length (index_words births c pairs) ≡ c
unfolding index_words
length-index_words births c pairs room =
    let count : length (hashes_of births pairs) ≡ length pairs =
    length-map pairs (λ (pair : Word × Word). hash_of births pair.0) in
    length-map (index_of c (hashes_of births pairs)) index_word
    ∙ (is-index c (hashes_of births pairs) (omega (arith, count, room))).count

-- words, nulls, and another index in place of what was behind them
pub index-behind : (xs : List Word) (m : ℕ) (old index : List Word) → length index ≡ length old
    → splice (xs ++ (replicate m zero_word ++ old)) (length xs + m) index ≡ xs
    ++ (replicate m zero_word ++ index)
index-behind xs m old index long =
    let nulls : length (replicate m zero_word) ≡ m = length-replicate m zero_word in
    splice-behind xs (replicate m zero_word ++ old) (length xs + m) m index refl
    ∙ ap (λ zs. xs ++ zs) (splice-behind (replicate m zero_word) old m 0 index
    (omega (arith, nulls))
    ∙ ap (λ zs. replicate m zero_word ++ zs) (splice-zero old index
    ∙ (ap (λ zs. index ++ zs) (drop-all (length index) old (omega (arith, long)))
    ∙ append-nil index)))

-- ---- heaps

-- stores into one object that leave the same fields
pub stored_over : (h : Heap) (b m : ℕ) (xs : List Word) (j : ℕ) (ys zs : List Word) (o : Standing)
    → object_at h b ≡ Some o → splice (splice o.fields m xs) j ys ≡ splice o.fields m zs
    → stored (stored h b m xs) b j ys ≡ stored h b m zs
stored_over h b m xs j ys zs o at is =
    let first = stored h b m xs in
    same_heap (stored first b j ys) (stored h b m zs)
    (λ x. elim (eqb_tells b x) [
      | inl (_, e) ↦ subst (λ y. object_at (stored first b j ys) y ≡ object_at (stored h b m zs) y)
          e
          (object_at-stored_same first b j ys (record o { fields = splice o.fields m xs })
          (object_at-stored_same h b m xs o at)
          ∙ (ap (λ fields. Some (record o { fields = fields })) is
          ∙ sym (object_at-stored_same h b m zs o at)))
      | inr (_, ne) ↦
          object_at-stored_other first b j ys x ne
          ∙ (object_at-stored_other h b m xs x ne ∙ sym (object_at-stored_other h b m zs x ne))
    ])
    (next-stored first b j ys ∙ (next-stored h b m xs ∙ sym (next-stored h b m zs)))
    (used-stored first b j ys ∙ (used-stored h b m xs ∙ sym (used-stored h b m zs)))
    (space-stored first b j ys ∙ (space-stored h b m xs ∙ sym (space-stored h b m zs)))

stored_same : (h : Heap) (b m : ℕ) (xs : List Word) (o : Standing) → object_at h b ≡ Some o
    → splice o.fields m xs ≡ o.fields → stored h b m xs ≡ h
stored_same h b m xs o at is =
    same_heap (stored h b m xs) h
    (λ x. elim (eqb_tells b x) [
      | inl (_, e) ↦ subst (λ y. object_at (stored h b m xs) y ≡ object_at h y) e
          (object_at-stored_same h b m xs o at
          ∙ (ap (λ fields. Some (record o { fields = fields })) is ∙ sym at))
      | inr (_, ne) ↦ object_at-stored_other h b m xs x ne
    ])
    (next-stored h b m xs) (used-stored h b m xs) (space-stored h b m xs)

body_there : (x : Option Standing) → IsKind BodyKind x → (o : Standing) × (x ≡ Some o)
body_there (Some o) is = (o, refl)
body_there None is = absurd is

-- ---- the index

-- a body with the index of any pairs
module _ (h : Heap) (b c : ℕ) (stands : IsKind BodyKind (object_at h b))
    (long : length (fields_at h b) ≡ 3 * c) where
  abbrev o : Standing
  o = (body_there (object_at h b) stands).0

  at : object_at h b ≡ Some o
  at = (body_there (object_at h b) stands).1

  fields-are : fields_at h b ≡ o.fields
  unfolding fields_at
  fields-are = ap fields_of at

  abbrev pub indexing : List (Word × Word) → Heap
  indexing ps = stored h b (2 * c) (index_words (birth_at h) c ps)

  -- where it stands already
  pub indexing-same : (ps : List (Word × Word)) → length ps ≤ c
      → drop (2 * c) (fields_at h b) ≡ index_words (birth_at h) c ps → indexing ps ≡ h
  indexing-same ps room there =
      stored_same h b (2 * c) (index_words (birth_at h) c ps) o at
      (splice-same (2 * c) o.fields (index_words (birth_at h) c ps)
      (ap (drop (2 * c)) (sym fields-are) ∙ there)
      (let e = ap length fields-are in let n = length-index_words (birth_at h) c ps room in
      omega (arith, e, long, n)))

  module _ (ps : List (Word × Word)) (below : length ps < c) where
    abbrev hashes : List ℕ
    hashes = hashes_of (birth_at h) ps

    count : length hashes ≡ length ps
    count = length-map ps (λ (pair : Word × Word). hash_of (birth_at h) pair.0)

    abbrev pub places-of : List (Option ℕ)
    places-of = index_of c (hashes_of (birth_at h) ps)

    index : IsIndex c hashes places-of
    index = is-index c hashes (let n = count in omega (arith, n, below))

    length-index : length (index_words (birth_at h) c ps) ≡ c
    length-index = length-index_words (birth_at h) c ps (omega (arith, below))

    fits : 2 * c + length (index_words (birth_at h) c ps) ≤ length o.fields
    fits = let n = length-index in let e = ap length fields-are in omega (arith, n, e, long)

    pub indexing-fields : fields_at (indexing ps) b ≡ splice (fields_at h b) (2 * c)
        (index_words (birth_at h) c ps)
    unfolding fields_at
    indexing-fields = ap fields_of
        (object_at-stored_same h b (2 * c) (index_words (birth_at h) c ps) o at)
        ∙ ap (λ ws. splice ws (2 * c) (index_words (birth_at h) c ps)) (sym fields-are)

    pub indexing-long : length (fields_at (indexing ps) b) ≡ 3 * c
    indexing-long = ap length indexing-fields
        ∙ (length-splice (fields_at h b) (2 * c) (index_words (birth_at h) c ps)
        (let e = ap length fields-are in let f = fits in omega (arith, e, f)) ∙ long)

    pub indexing-keeps : Keeps h (indexing ps)
    indexing-keeps = Keeps-stored h b (2 * c) (index_words (birth_at h) c ps) o at fits

    pub indexing-births : birth_at (indexing ps) ≡ birth_at h
    indexing-births = birth_at-stored h b (2 * c) (index_words (birth_at h) c ps)

    pub indexing-words : drop (2 * c) (fields_at (indexing ps) b) ≡ map index_word places-of
    unfolding index_words
    indexing-words = ap (drop (2 * c)) indexing-fields
        ∙ drop-end (2 * c) (fields_at h b) (index_words (birth_at h) c ps)
        (let n = length-index in omega (arith, n, long))

    pub places-count : length places-of ≡ c
    places-count = index.count

    pub places-small : c ≤ 21845 → (place q : ℕ) → slice_get places-of place ≡ Some (Some q)
        → q < 2 ^ 31
    places-small few place q there =
        let low : IsBelow (length hashes) (Some q) =
        all_at (IsBelow (length hashes)) places-of place (Some q) index.below there in
        let n = count in
        omega (arith, low, n, below, few)

    pub places-free : has_free places-of ≡ true
    places-free = elim (free_or places-of) [
      | inl (has, _) ↦ has
      | inr (_, none) ↦ let left = index.left in let n = count in
          absurd (omega (arith, left, n, none, below))
    ]

    -- what the search for a free place says of it
    pub place-free : c ≤ 21845 → (g : Heap) (p : ℕ) (k : Word) → g ≡ indexing ps
        → IsPlaceFor (drop (2 * c) (fields_at g b)) c (hash_of (birth_at g) k % c) p
        → placed (length ps) (hash_of (birth_at h) k % c) places-of ≡ slice_set places-of p
        (Some (length ps))
    place-free few g p k now given =
        subst (λ (births : ℕ → ℕ). placed (length ps) (hash_of births k % c) places-of ≡ slice_set
        places-of p (Some (length ps))) (ap birth_at now ∙ indexing-births)
        (given places-of (ap (λ (x : Heap). drop (2 * c) (fields_at x b)) now ∙ indexing-words)
        places-count (places-small few) places-free (length ps))

    -- a position more
    pub indexing-next : (k v : Word) (place : ℕ) → place < c → (w : Word)
        → IsNatural w (length ps) → IsValue h w
        → placed (length ps) (hash_of (birth_at h) k % c) places-of ≡ slice_set places-of place
        (Some (length ps))
        → stored (indexing ps) b (2 * c + place) (w ∷ []) ≡ indexing (ps ++ (k, v) ∷ [])
    indexing-next k v place within w natural held there =
        let n = length-index in
        stored_over h b (2 * c) (index_words (birth_at h) c ps) (2 * c + place) (w ∷ [])
        (slice_set (index_words (birth_at h) c ps) place w) o at
        (splice-set o.fields (2 * c) (index_words (birth_at h) c ps) place w
        (omega (arith, n, within)) fits)
        ∙ ap (stored h b (2 * c)) (index_words-more (birth_at h) c ps k v place w
        (omega (arith, below)) natural held.word there)

-- a body whose first pairs are put into its index, which was blank
module _ (h : Heap) (b c : ℕ) (stands : IsKind BodyKind (object_at h b))
    (long : length (fields_at h b) ≡ 3 * c) (values : AreValues h (fields_at h b))
    (blank : drop (2 * c) (fields_at h b) ≡ replicate c zero_word) where
  abbrev pub fronts : ℕ → List (Word × Word)
  fronts p = take p (pairs_of_words (fields_at h b))

  abbrev pub indexed : ℕ → Heap
  indexed p = indexing h b c stands long (fronts p)

  pub indexed-none : indexed 0 ≡ h
  indexed-none = indexing-same h b c stands long [] (omega arith)
      (blank ∙ no-index (birth_at h) c)

  module _ (p : ℕ) (below : p < c) where
    pub pairs_fit : length (fronts p) ≡ p
    pairs_fit = length-take-le p (pairs_of_words (fields_at h b))
        (let n = length-pairs_of_words c (fields_at h b) (omega (arith, long)) in
        omega (arith, n, below))

    pub few_fronts : length (fronts p) < c
    few_fronts = let n = pairs_fit in omega (arith, n, below)

    pub indexed-long : length (fields_at (indexed p) b) ≡ 3 * c
    indexed-long = indexing-long h b c stands long (fronts p) few_fronts

    module _ (k : Word) (read : slice_get (fields_at (indexed p) b) (2 * p) ≡ Some k) where
      key-read : slice_get (fields_at h b) (2 * p) ≡ Some k
      unfolding splice
      key-read =
          let front : length (take (2 * c) (fields_at h b)) ≡ 2 * c =
          length-take-le (2 * c) (fields_at h b) (omega (arith, long)) in
          sym (get-take (2 * c) (fields_at h b) (2 * p) (omega (arith, below)))
          ∙ (sym (get-append_left (take (2 * c) (fields_at h b))
          (index_words (birth_at h) c (fronts p)
          ++ drop (2 * c + length (index_words (birth_at h) c (fronts p))) (fields_at h b))
          (2 * p) (omega (arith, front, below)))
          ∙ (ap (λ ws. slice_get ws (2 * p))
          (sym (indexing-fields h b c stands long (fronts p) few_fronts)) ∙ read))

      pub key-held : IsValue (indexed p) k
      key-held = IsValue-kept h (indexed p)
          (indexing-keeps h b c stands long (fronts p) few_fronts) k
          (all_at (IsValue h) (fields_at h b) (2 * p) k values key-read)

      pub indexed-next : c ≤ 21845 → (g : Heap) → g ≡ indexed p → (place : ℕ) → place < c
          → IsPlaceFor (drop (2 * c) (fields_at g b)) c (hash_of (birth_at g) k % c) place
          → (w : Word) → IsNatural w p → IsValue h w
          → stored (indexed p) b (2 * c + place) (w ∷ []) ≡ indexed (p + 1)
      indexed-next few g now place within given w natural held =
          let (v, second) = slice_get_there (fields_at h b) (2 * p + 1)
          (omega (arith, below, long)) in
          let pair = pair_here (fields_at h b) p k v key-read second in
          indexing-next h b c stands long (fronts p) few_fronts k v place within w
          (subst (IsNatural w) (sym pairs_fit) natural) held
          (place-free h b c stands long (fronts p) few_fronts few g place k now given)
          ∙ ap (indexing h b c stands long)
          (sym (take-next (pairs_of_words (fields_at h b)) p (k, v) pair))
