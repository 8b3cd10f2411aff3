-- Pairs that move down, and the last pair taken off.
use Rattle.std.proofs.Common.{◌≡◌, ℕ, zero, suc, ◌+◌, ◌*◌, ◌-◌, ◌<◌, ◌≤◌, false, List, [], ◌∷◌, ◌++◌, length, map, take, drop, Some, None, refl, sym, ap, ◌∙◌, arith, subst}
use Rattle.std.specs.Prelude.{option_map, true, slice_range}
use Rattle.ps_language.specs.declared.kinds.Kind.TheVariants.{Dictionary as DictionaryKind}
use Rattle.ps_language.specs.Value.{Value}
use Rattle.ps_language.specs.Access.{splice}
use Rattle.ps_language.specs.Equality.{same_key}
use Rattle.ps_language.specs.Dictionaries.{without}
use Rattle.ps_word.specs.declared.words.Word.{Word}
use Rattle.ps_word.specs.declared.values.Content.TheVariants.{Null}
use Rattle.ps_word.specs.Format.{value_in, IsWord}
use Rattle.ps_mem.specs.Heap.{Heap, fields_at, zero_word}
use Rattle.ps_mem.specs.References.{StandsAs}
use Rattle.ps_mem.specs.Shows.{IsValue, AreValues, IsSound, words_of_pairs}
use Rattle.ps_mem.proofs.Lists.{splice-zero, all_take, all_drop}
use Rattle.ps_dict.specs.Places.{count_at, body_at, first_place}
use Rattle.ps_dict.specs.Removals.{without_place, shifted, moved_down}
use Rattle.ps_dict.proofs.Probing.{null-zero}
use Rattle.ps_dict.proofs.Pairs.{take-front_all, length-words_of_pairs}
use Rattle.ps_dict.proofs.Shapes.{count-fits, body-room, body-values}
use Rattle.ps_dict.proofs.WordRuns.{splice-two}

-- ---- lists

pub length-shifted : {A : Type 0} (x : A) (xs : List A) → length (shifted x xs) ≡ suc (length xs)
unfolding shifted
length-shifted x [] = refl
length-shifted x (y ∷ ys) = ap suc (length-shifted y ys)

pub length-moved_down : {A : Type 0} (xs : List A) (i : ℕ) → length (moved_down xs i) ≡ length xs
unfolding moved_down
length-moved_down [] i = refl
length-moved_down (x ∷ xs) zero = length-shifted x xs
length-moved_down (x ∷ xs) (suc i) = ap suc (length-moved_down xs i)

map-shifted : {A B : Type 0} (f : A → B) (x : A) (xs : List A)
    → map f (shifted x xs) ≡ shifted (f x) (map f xs)
unfolding shifted
map-shifted f x [] = refl
map-shifted f x (y ∷ ys) = ap (λ zs. f y ∷ zs) (map-shifted f y ys)

pub map-moved_down : {A B : Type 0} (f : A → B) (xs : List A) (i : ℕ)
    → map f (moved_down xs i) ≡ moved_down (map f xs) i
unfolding moved_down
map-moved_down f [] i = refl
map-moved_down f (x ∷ xs) zero = map-shifted f x xs
map-moved_down f (x ∷ xs) (suc i) = ap (λ zs. f x ∷ zs) (map-moved_down f xs i)

-- without the last, which stands twice
take-shifted : {A : Type 0} (x : A) (xs : List A) → take (length xs) (shifted x xs) ≡ xs
unfolding shifted
take-shifted x [] = refl
take-shifted x (y ∷ ys) = ap (λ zs. y ∷ zs) (take-shifted y ys)

pub take-moved_down : {A : Type 0} (xs : List A) (i n : ℕ) → i < length xs → n + 1 ≡ length xs
    → take n (moved_down xs i) ≡ without_place xs i
unfolding moved_down without_place
take-moved_down [] i n below is = absurd (omega arith)
take-moved_down (x ∷ xs) zero n below is = let same : n ≡ length xs = omega (arith, is) in
    ap (λ k. take k (shifted x xs)) same ∙ take-shifted x xs
take-moved_down (x ∷ xs) (suc i) zero below is = absurd (omega arith)
take-moved_down (x ∷ xs) (suc i) (suc n) below is =
    ap (λ zs. x ∷ zs) (take-moved_down xs i n (omega arith) (omega (arith, is)))

-- where nothing stands behind the place
pub moved_down-last : {A : Type 0} (xs : List A) (i : ℕ) → i + 1 ≡ length xs → moved_down xs i ≡ xs
unfolding moved_down shifted
moved_down-last [] i is = refl
moved_down-last (x ∷ []) zero is = refl
moved_down-last (x ∷ y ∷ ys) zero is = absurd (omega arith)
moved_down-last (x ∷ xs) (suc i) is = ap (λ zs. x ∷ zs) (moved_down-last xs i (omega (arith, is)))

pub without-present : (pairs : List (Value × Value)) (key : Value) (i : ℕ)
    → first_place pairs key ≡ Some i → without pairs key ≡ without_place pairs i
unfolding first_place without_place
without-present [] key i at = cc
without-present (pair ∷ pairs) key i at =
    elim (same_key pair.0 key) as
    (λ b. same_key pair.0 key ≡ b → without (pair ∷ pairs) key ≡ without_place (pair ∷ pairs) i) [
      | true ↦ λ e.
          let here : Some 0 ≡ Some i = rw e at at in
          let is : 0 ≡ i = cc in
          rw e (ap (λ n. without_place (pair ∷ pairs) n) is)
      | false ↦ λ e.
          let next : option_map suc (first_place pairs key) ≡ Some i = rw e at at in
          elim (first_place pairs key) as
          (λ o. first_place pairs key ≡ o → option_map suc o ≡ Some i
          → without (pair ∷ pairs) key ≡ without_place (pair ∷ pairs) i) [
            | None ↦ λ is h. cc
            | Some j ↦ λ is h.
                let one : suc j ≡ i = cc in
                rw e (ap (λ ps. pair ∷ ps) (without-present pairs key j is)
                ∙ ap (λ n. without_place (pair ∷ pairs) n) one)
          ] refl next
    ] refl

pub without-absent : (pairs : List (Value × Value)) (key : Value) → first_place pairs key ≡ None
    → without pairs key ≡ pairs
unfolding first_place
without-absent [] key at = refl
without-absent (pair ∷ pairs) key at =
    elim (same_key pair.0 key) as
    (λ b. same_key pair.0 key ≡ b → without (pair ∷ pairs) key ≡ pair ∷ pairs) [
      | true ↦ λ e. let clash : Some 0 ≡ None = rw e at at in cc
      | false ↦ λ e.
          let next : option_map suc (first_place pairs key) ≡ None = rw e at at in
          let rest : first_place pairs key ≡ None =
          elim (first_place pairs key) as (λ o. option_map suc o ≡ None → o ≡ None)
          [ None ↦ λ h. refl | Some j ↦ λ h. cc ] next in
          rw e (ap (λ ps. pair ∷ ps) (without-absent pairs key rest))
    ] refl

-- ---- words

shift-words : (p : Word × Word) (ps : List (Word × Word)) (rest : List Word) → words_of_pairs ps
    ++ drop (2 * length ps) (p.0 ∷ p.1 ∷ (words_of_pairs ps ++ rest)) ≡ words_of_pairs
    (shifted p ps) ++ rest
unfolding shifted
shift-words p [] rest = refl
shift-words p (q ∷ qs) rest =
    let two : 2 * suc (length qs) ≡ suc (suc (2 * length qs)) = omega arith in
    ap (λ n. q.0 ∷ q.1 ∷ (words_of_pairs qs
    ++ drop n (p.0 ∷ p.1 ∷ q.0 ∷ q.1 ∷ (words_of_pairs qs ++ rest)))) two
    ∙ ap (λ ws. q.0 ∷ q.1 ∷ ws) (shift-words q qs rest)

-- the words behind a pair copied over it
pub splice-down : (ps : List (Word × Word)) (i m : ℕ) (rest : List Word) → i + (m + 1) ≡ length ps →
    splice (words_of_pairs ps ++ rest) (2 * i)
    (take (2 * m) (drop (2 * i + 2) (words_of_pairs ps ++ rest))) ≡ words_of_pairs
    (moved_down ps i) ++ rest
unfolding moved_down
splice-down [] i m rest is = absurd (omega arith)
splice-down (p ∷ ps) zero m rest is =
    let count : m ≡ length ps = omega (arith, is) in
    let long = length-words_of_pairs ps in
    let items : take (2 * m) (words_of_pairs ps ++ rest) ≡ words_of_pairs ps =
    ap (λ n. take n (words_of_pairs ps ++ rest))
    (let same : 2 * m ≡ length (words_of_pairs ps) = omega (arith, count, long) in same)
    ∙ take-front_all (words_of_pairs ps) rest in
    ap (λ ws. splice (p.0 ∷ p.1 ∷ (words_of_pairs ps ++ rest)) 0 ws) items
    ∙ (splice-zero (p.0 ∷ p.1 ∷ (words_of_pairs ps ++ rest)) (words_of_pairs ps)
    ∙ (ap (λ n. words_of_pairs ps ++ drop n (p.0 ∷ p.1 ∷ (words_of_pairs ps ++ rest))) long
    ∙ shift-words p ps rest))
splice-down (p ∷ ps) (suc i) m rest is =
    let two : 2 * suc i + 2 ≡ suc (suc (2 * i + 2)) = omega arith in
    ap (λ n. splice (p.0 ∷ p.1 ∷ (words_of_pairs ps ++ rest)) (2 * suc i)
    (take (2 * m) (drop n (p.0 ∷ p.1 ∷ (words_of_pairs ps ++ rest))))) two
    ∙ (splice-two p.0 p.1 (words_of_pairs ps ++ rest) (2 * i) (2 * suc i)
    (take (2 * m) (drop (2 * i + 2) (words_of_pairs ps ++ rest))) (omega arith)
    ∙ ap (λ ws. p.0 ∷ p.1 ∷ ws) (splice-down ps i m rest (omega (arith, is))))

pub split-last : (n : ℕ) (ps : List (Word × Word)) → n + 1 ≡ length ps → (last : Word × Word)
    × (ps ≡ take n ps ++ last ∷ [])
split-last n [] is = absurd (omega arith)
split-last zero (p ∷ []) is = (p, refl)
split-last zero (p ∷ q ∷ qs) is = absurd (omega arith)
split-last (suc n) (p ∷ ps) is = let (last, e) = split-last n ps (omega (arith, is)) in
    (last, ap (λ qs. p ∷ qs) e)

pub null_is_zero : (w : Word) → value_in w.0 ≡ record { content = Null; executable = false }
    → IsWord w.0 → w ≡ zero_word
null_is_zero w is word = let same = null-zero w word is in λ i. record { 0 = same i }

module _ (h : Heap) (a : ℕ) (known : StandsAs h DictionaryKind a 4) (sound : IsSound h) where
  -- ---- moved down

  module _ (i m : ℕ) (is : i + (m + 1) ≡ count_at h a) where
    abbrev pub behind : List Word
    behind = slice_range (fields_at h (body_at h a)) (2 * i + 2) (2 * i + 2 + 2 * m)

    behind_is : behind ≡ take (2 * m) (drop (2 * i + 2) (fields_at h (body_at h a)))
    behind_is = let long : 2 * i + 2 + 2 * m - (2 * i + 2) ≡ 2 * m = omega arith in
        ap (λ n. take n (drop (2 * i + 2) (fields_at h (body_at h a)))) long

    pub behind-values : AreValues h behind
    behind-values = subst (AreValues h) (sym behind_is)
        (all_take (IsValue h) (2 * m) (drop (2 * i + 2) (fields_at h (body_at h a)))
        (all_drop (IsValue h) (2 * i + 2) (fields_at h (body_at h a))
        (body-values h a known sound)))

    pub behind-fits : 2 * i + 2 + 2 * m ≤ length (fields_at h (body_at h a))
    behind-fits = let room = body-room h a known sound in let fits = count-fits h a known sound in
        omega (arith, is, room, fits)
