-- What a look into the index of a dictionary's body says of the place of a key.
use Rattle.std.proofs.Common.{◌≢◌, ◌≡◌, ℕ, zero, suc, ◌+◌, ◌-◌, ◌*◌, ◌%◌, ◌^◌, ◌<◌, ◌≤◌, true, false, List, [], ◌∷◌, ◌++◌, length, map, take, drop, Option, Some, None, refl, sym, ap, ◌∙◌, arith, subst, inl, inr, nat_lt, rules}
use Rattle.std.specs.Prelude.{pos, slice_get, if◌then◌else◌, FitsSigned}
use Rattle.std.specs.Int.{w32}
use Rattle.std.proofs.lemmas.List.{length-map, length-drop}
use Rattle.std.proofs.lemmas.Bool.{cases_lt}
use Rattle.std.proofs.lemmas.Bool.Decides.{nat_tests}
use Rattle.std.proofs.lemmas.Nat.{mod_below}
use Rattle.ps_language.specs.declared.kinds.Kind.TheVariants.{Dictionary as DictionaryKind}
use Rattle.ps_word.specs.declared.words.Word.{Word}
use Rattle.ps_word.specs.declared.values.Value.{Value as WordValue}
use Rattle.ps_word.specs.declared.values.Content.TheVariants.{Integer, Null}
use Rattle.ps_word.specs.Format.{content_in, value_in, packed, IsWord}
use Rattle.ps_word.specs.Readers.{as_integer}
use Rattle.ps_word.proofs.Packing.{value_in-packed}
use Rattle.ps_mem.specs.Heap.{Heap, birth_at, fields_at, zero_word}
use Rattle.ps_mem.specs.Index.{hash_of, hashes_of, index_of, index_word, index_words}
use Rattle.ps_mem.specs.References.{StandsAs}
use Rattle.ps_mem.specs.Shows.{IsSound}
use Rattle.ps_mem.proofs.Lists.{all_at}
use Rattle.ps_dict.specs.Keys.{same_words}
use Rattle.ps_dict.specs.Places.{count_at, capacity_at, body_at, pairs_at, place_of}
use Rattle.ps_dict.specs.Probes.{turned, going_round, looked_up, same_found, same_at, start_at, StillAhead, Tells}
use Rattle.ps_dict.specs.declared.dictionaries.Look.{Look}
use Rattle.ps_dict.proofs.Fields.{low_natural}
use Rattle.ps_dict.proofs.Reading.{key-pair, key-place, loaded}
use Rattle.ps_dict.proofs.Shapes.{shape, capacity-is, body-room, count-fits, length-pairs, indexed-is}
use Rattle.ps_dict.proofs.IndexPlaces.{IsBelow, AreBelow, IsIndex, is-index}
use Rattle.ps_dict.proofs.IndexSearch.{no_pair, index-finds}

-- ---- a word of the index

pub index_word-content : (q : ℕ) → q < 2 ^ 31 → content_in (index_word (Some q)).0 ≡ Integer (pos q)
index_word-content q small =
    let fits : FitsSigned w32 (pos q) = search rules in
    ap (λ (v : WordValue). v.content)
    (value_in-packed (record { content = Integer (pos q); executable = false })
    (record { content = fits; literal_body = refl }))

pub zero-content : as_integer (content_in zero_word.0) ≡ None
unfolding content_in
zero-content = refl

pub index_word-none : (x : Option ℕ) → IsBelow (2 ^ 31) x
    → as_integer (content_in (index_word x).0) ≡ None → x ≡ None
index_word-none None below e = refl
index_word-none (Some q) below e = let clash : Some (pos q) ≡ None =
    sym (ap as_integer (index_word-content q below)) ∙ e in cc

-- the word of a free place is zero
index_word-zero : (x : Option ℕ) → IsBelow (2 ^ 31) x → (index_word x).0 ≡ 0 → x ≡ None
index_word-zero None below e = refl
index_word-zero (Some q) below e = let clash : Some (pos q) ≡ None =
    sym (ap as_integer (index_word-content q below))
    ∙ (ap (λ n. as_integer (content_in n)) e ∙ zero-content) in cc

-- that of another has its position as its low half
index_word-low : (x : Option ℕ) → IsBelow (2 ^ 31) x → (index_word x).0 ≢ 0
    → x ≡ Some ((index_word x).0 % 2 ^ 32)
index_word-low None below other = absurd (other refl)
index_word-low (Some q) below other =
    ap Some (sym (low_natural (index_word (Some q)).0 q (index_word-content q below)))

-- ---- places going round

pub get-append_left : {A : Type 0} (xs ys : List A) (i : ℕ) → i < length xs
    → slice_get (xs ++ ys) i ≡ slice_get xs i
get-append_left [] ys i h = absurd (omega arith)
get-append_left (x ∷ xs) ys zero h = refl
get-append_left (x ∷ xs) ys (suc i) h = get-append_left xs ys i (omega (arith, h))

pub get-append_right : {A : Type 0} (xs ys : List A) (i : ℕ)
    → slice_get (xs ++ ys) (length xs + i) ≡ slice_get ys i
get-append_right [] ys i = ap (slice_get ys) (let e : 0 + i ≡ i = omega arith in e)
get-append_right (x ∷ xs) ys i =
    ap (slice_get (x ∷ (xs ++ ys)))
    (let e : length (x ∷ xs) + i ≡ suc (length xs + i) = omega arith in e)
    ∙ get-append_right xs ys i

pub get-drop : {A : Type 0} (n : ℕ) (xs : List A) (i : ℕ)
    → slice_get (drop n xs) i ≡ slice_get xs (n + i)
get-drop zero xs i = ap (slice_get xs) (let e : i ≡ 0 + i = omega arith in e)
get-drop (suc n) [] i = refl
get-drop (suc n) (x ∷ xs) i = get-drop n xs i
    ∙ sym (ap (slice_get (x ∷ xs)) (let e : suc n + i ≡ suc (n + i) = omega arith in e))

pub get-take : {A : Type 0} (n : ℕ) (xs : List A) (i : ℕ) → i < n
    → slice_get (take n xs) i ≡ slice_get xs i
get-take zero xs i h = absurd (omega (arith, h))
get-take (suc n) [] i h = refl
get-take (suc n) (x ∷ xs) zero h = refl
get-take (suc n) (x ∷ xs) (suc i) h = get-take n xs i (omega (arith, h))

pub below_test : (m n : ℕ) → m < n → nat_lt m n ≡ true
below_test m n h = grind (arith, nat_tests)

pub past_test : (m n : ℕ) → n ≤ m → nat_lt m n ≡ false
past_test m n h = grind (arith, nat_tests)

-- what stands so many behind the start
pub get-turned : {A : Type 0} (xs : List A) (start k : ℕ) → start < length xs → k < length xs
    → slice_get (turned start xs) k ≡ slice_get xs
    (if nat_lt (start + k) (length xs) then start + k else start + k - length xs)
unfolding turned
get-turned xs start k s h =
    let dropped : length (drop start xs) ≡ length xs - start = length-drop start xs in
    elim (cases_lt (start + k) (length xs)) [
      | inl below ↦
          rw (below_test (start + k) (length xs) below)
          (get-append_left (drop start xs) (take start xs) k (omega (arith, dropped, below))
          ∙ get-drop start xs k)
      | inr past ↦
          let rest : ℕ = start + k - length xs in
          let there : length (drop start xs) + rest ≡ k = omega (arith, dropped, past, s, h) in
          rw (past_test (start + k) (length xs) past)
          (sym (ap (slice_get (drop start xs ++ take start xs)) there)
          ∙ (get-append_right (drop start xs) (take start xs) rest
          ∙ get-take start xs rest (omega (arith, past, s, h))))
    ]

drop-at : {A : Type 0} (xs : List A) (k : ℕ) (x : A) → slice_get xs k ≡ Some x → drop k xs ≡ x
    ∷ drop (suc k) xs
drop-at [] k x e = cc
drop-at (y ∷ xs) zero x e = let is : y ≡ x = cc in ap (λ z. z ∷ xs) is
drop-at (y ∷ xs) (suc k) x e = drop-at xs k x e

pub from-map : (places : List (Option ℕ)) (i : ℕ) (w : Word)
    → slice_get (map index_word places) i ≡ Some w → (x : Option ℕ) × (slice_get places i ≡ Some x)
    × (index_word x ≡ w)
from-map [] i w e = cc
from-map (x ∷ places) zero w e = (x, refl, cc)
from-map (x ∷ places) (suc i) w e = from-map places i w e

-- ---- the index of a dictionary

-- the place itself is the one that lies nothing behind it
pub first-behind : (s n : ℕ) → s < n → s ≡ going_round s 0 n
first-behind s n below =
    let none : s ≡ s + 0 = omega (arith) in
    none ∙ ap (λ b. if b then s + 0 else s + 0 - n)
    (sym (below_test (s + 0) n (omega (arith, below))))

module _ (h : Heap) (a : ℕ) (known : StandsAs h DictionaryKind a 4) (sound : IsSound h) where
  abbrev pub places : List (Option ℕ)
  places = index_of (capacity_at h a) (hashes_of (birth_at h) (pairs_at h a))

  pub places-index : IsIndex (capacity_at h a) (hashes_of (birth_at h) (pairs_at h a)) places
  places-index =
      let count : length (hashes_of (birth_at h) (pairs_at h a)) ≡ length (pairs_at h a) =
      length-map (pairs_at h a) (λ (pair : Word × Word). hash_of (birth_at h) pair.0) in
      let pairs = length-pairs h a known sound in
      let fits = count-fits h a known sound in
      is-index (capacity_at h a) (hashes_of (birth_at h) (pairs_at h a))
      (omega (arith, count, pairs, fits))

  pub few-places : capacity_at h a ≤ 21845
  few-places = let e = capacity-is h a known sound in let f = (shape h a known sound).few in
      omega (arith, e, f)

  pub places-words : drop (2 * capacity_at h a) (fields_at h (body_at h a)) ≡ map index_word places
  unfolding index_words
  places-words = indexed-is h a known sound

  pub places-below : AreBelow (count_at h a) places
  places-below =
      let count : length (hashes_of (birth_at h) (pairs_at h a)) ≡ count_at h a =
      length-map (pairs_at h a) (λ (pair : Word × Word). hash_of (birth_at h) pair.0)
      ∙ length-pairs h a known sound in
      subst (λ n. AreBelow n places) count places-index.below

  module _ (key : Word) where
    pub ahead-first : StillAhead h a key 0
    ahead-first = let pairs = length-pairs h a known sound in let fits =
        count-fits h a known sound in
        index-finds (birth_at h) (capacity_at h a) (pairs_at h a) key (omega (arith, pairs, fits))

    pub ahead-none : capacity_at h a ≡ 0 → place_of (pairs_at h a) key ≡ None
    ahead-none none =
        let pairs = length-pairs h a known sound in
        let fits = count-fits h a known sound in
        empty (pairs_at h a) (omega (arith, pairs, fits, none))
      where
        empty : (ps : List (Word × Word)) → length ps ≡ 0 → place_of ps key ≡ None
        empty [] e = no_pair key
        empty (p ∷ ps) e = absurd (omega (arith, e))

  -- ---- a place of it

  module _ (place : ℕ) (below : place < capacity_at h a) (w : Word)
      (read : slice_get (fields_at h (body_at h a)) (2 * capacity_at h a + place) ≡ Some w) where
    look : (x : Option ℕ) × (slice_get places place ≡ Some x) × (index_word x ≡ w)
    look = from-map places place w (ap (λ ws. slice_get ws place) (sym places-words)
        ∙ (get-drop (2 * capacity_at h a) (fields_at h (body_at h a)) place ∙ read))

    look-below : IsBelow (count_at h a) look.0
    look-below = all_at (IsBelow (count_at h a)) places place look.0 places-below look.1

    look-small : IsBelow (2 ^ 31) look.0
    look-small = smaller look.0 look-below
      where
        smaller : (x : Option ℕ) → IsBelow (count_at h a) x → IsBelow (2 ^ 31) x
        smaller None b = tt
        smaller (Some q) b = let f = few-places in let g = count-fits h a known sound in
            omega (arith, b, f, g)

    -- it is what stands so many behind the first place of a key
    turned-at : (key : Word) (k : ℕ) → k < capacity_at h a
        → place ≡ going_round (start_at h a key) k (capacity_at h a)
        → slice_get (turned (start_at h a key) places) k ≡ Some look.0
    turned-at key k some at =
        let start : ℕ = start_at h a key in
        let count : length places ≡ capacity_at h a = places-index.count in
        let first : start < length places =
        (let s = mod_below (hash_of (birth_at h) key) (capacity_at h a) (omega (arith, some))
        in omega (arith, s, count)) in
        let here : k < length places = omega (arith, some, count) in
        get-turned places start k first here
        ∙ (ap (λ n. slice_get places (going_round start k n)) count
        ∙ (ap (slice_get places) (sym at) ∙ look.1))

    pub look-free : w.0 ≡ 0 → (key : Word) (k : ℕ)
        → k < capacity_at h a → place ≡ going_round (start_at h a key) k (capacity_at h a)
        → StillAhead h a key k → place_of (pairs_at h a) key ≡ None
    look-free e key k some at ahead =
        let start : ℕ = start_at h a key in
        let none : look.0 ≡ None =
        index_word-zero look.0 look-small (ap (λ (v : Word). v.0) look.2 ∙ e) in
        let now : drop k (turned start places) ≡ None ∷ drop (suc k) (turned start places) =
        drop-at (turned start places) k None (turned-at key k some at ∙ ap Some none) in
        sym (sym (ap (looked_up (same_at (pairs_at h a) key)) now) ∙ ahead)

    module _ (e : w.0 ≢ 0) where
      abbrev position : ℕ
      position = w.0 % 2 ^ 32

      position-is : look.0 ≡ Some position
      position-is =
          index_word-low look.0 look-small (λ none. e (sym (ap (λ (v : Word). v.0) look.2) ∙ none))
          ∙ ap (λ (v : Word). Some (v.0 % 2 ^ 32)) look.2

      pub position-within : position < count_at h a
      position-within = subst (IsBelow (count_at h a)) position-is look-below

      module _ (v : Word)
          (first : slice_get (fields_at h (body_at h a)) (2 * position) ≡ Some v)
          (key : Word) (k : ℕ) (some : k < capacity_at h a)
          (at : place ≡ going_round (start_at h a key) k (capacity_at h a))
          (ahead : StillAhead h a key k) where
        abbrev start : ℕ
        start = start_at h a key

        here : same_at (pairs_at h a) key position ≡ same_words v key
        here = let (value, there) = key-pair h a known sound position position-within v first in
            ap (λ o. same_found o key) there

        now : drop k (turned start places) ≡ Some position ∷ drop (suc k) (turned start places)
        now = drop-at (turned start places) k (Some position)
            (turned-at key k some at ∙ ap Some position-is)

        pub look-found : same_words v key ≡ true → place_of (pairs_at h a) key ≡ Some position
        look-found same =
            let is : same_at (pairs_at h a) key position ≡ true = here ∙ same in
            let found : looked_up (same_at (pairs_at h a) key)
            (Some position ∷ drop (suc k) (turned start places)) ≡ Some position =
            rw is refl in
            sym (sym found ∙ (sym (ap (looked_up (same_at (pairs_at h a) key)) now) ∙ ahead))

        pub look-on : same_words v key ≡ false → StillAhead h a key (k + 1)
        look-on other =
            let is : same_at (pairs_at h a) key position ≡ false = here ∙ other in
            let next : looked_up (same_at (pairs_at h a) key)
            (Some position ∷ drop (suc k) (turned start places)) ≡ looked_up
            (same_at (pairs_at h a) key) (drop (suc k) (turned start places)) = rw is refl in
            let one : k + 1 ≡ suc k = omega arith in
            ap (λ n. looked_up (same_at (pairs_at h a) key) (drop n (turned start places))) one
            ∙ (sym next ∙ (sym (ap (looked_up (same_at (pairs_at h a) key)) now) ∙ ahead))

-- what the first place tells, behind which none was looked at
pub first-tells : (g h : Heap) (a n s : ℕ) (key : Word) (look : Look)
    → StandsAs h DictionaryKind a 4 → IsSound h → g ≡ h → n ≡ capacity_at h a → 0 < n → s < n
    → s ≡ hash_of (birth_at h) key % n
    → ((behind : ℕ) → behind < n → s ≡ going_round (start_at g a key) behind n
    → StillAhead g a key behind → Tells g a key behind look)
    → Tells h a key 0 look
first-tells g h a n s key look known sound same capacity some below first tells =
    let here = subst (λ (x : Heap). (behind : ℕ) → behind < n
    → s ≡ going_round (start_at x a key) behind n → StillAhead x a key behind
    → Tells x a key behind look) same tells in
    here 0 some
    (first-behind s n below ∙ ap (λ t. going_round t 0 n)
    (first ∙ ap (λ m. hash_of (birth_at h) key % m) capacity))
    (ahead-first h a known sound key)

-- ---- what is read of a heap that is the same

module _ (g h : Heap) (a b n : ℕ) (known : StandsAs h DictionaryKind a 4) (sound : IsSound h)
    (same : g ≡ h) (is : b ≡ body_at h a) (capacity : n ≡ capacity_at h a) where
  fields-same : fields_at g b ≡ fields_at h (body_at h a)
  fields-same = ap (λ (x : Heap). fields_at x b) same ∙ ap (fields_at h) is

  pub few-here : n ≤ 21845
  few-here = let f = few-places h a known sound in omega (arith, f, capacity)

  pub look-fits : (p : ℕ) → p < n → 2 * n + p < length (fields_at g b)
  look-fits p below =
      let count : length (fields_at g b) ≡ length (fields_at h (body_at h a)) =
      ap length fields-same in
      let room = body-room h a known sound in
      omega (arith, count, room, below, capacity)

  pub key-fits : (q : ℕ) → q < count_at h a → 2 * q < length (fields_at g b)
  key-fits q below =
      let count : length (fields_at g b) ≡ length (fields_at h (body_at h a)) =
      ap length fields-same in
      let fits = key-place h a known sound q below in
      omega (arith, count, fits)

  -- a place of the index, and the key of a position
  pub looked-at : (p : ℕ) (w : Word) → slice_get (fields_at g b) (2 * n + p) ≡ Some w
      → slice_get (fields_at h (body_at h a)) (2 * capacity_at h a + p) ≡ Some w
  looked-at p w read =
      ap (λ m. slice_get (fields_at h (body_at h a)) (2 * m + p)) (sym capacity)
      ∙ loaded g h a b (2 * n + p) w same is read

  pub key-at : (p q : ℕ) (v : Word) → p ≡ q → slice_get (fields_at g b) (2 * p) ≡ Some v
      → slice_get (fields_at h (body_at h a)) (2 * q) ≡ Some v
  key-at p q v e read = loaded g h a b (2 * q) v same is
      (subst (λ r. slice_get (fields_at g b) (2 * r) ≡ Some v) e read)

-- ---- the word of a null

pub null-zero : (w : Word) → IsWord w.0
    → value_in w.0 ≡ record { content = Null; executable = false } → w.0 ≡ 0
unfolding packed
null-zero w word is = sym word.exact ∙ ap packed is
