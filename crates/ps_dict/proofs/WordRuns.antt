-- The words of pairs, with some of them replaced.
use Rattle.std.proofs.Common.{◌≡◌, ℕ, zero, suc, ◌+◌, ◌*◌, ◌<◌, List, [], ◌∷◌, ◌++◌, length, map, replicate, Some, None, refl, ap, ◌∙◌, arith}
use Rattle.std.specs.Prelude.{true, false, Option, option_map}
use Rattle.ps_language.specs.Value.{Value}
use Rattle.ps_language.specs.Equality.{same_key}
use Rattle.ps_language.specs.Dictionaries.{put_pair}
use Rattle.ps_language.specs.Access.{splice}
use Rattle.ps_word.specs.declared.words.Word.{Word}
use Rattle.ps_mem.specs.Heap.{zero_word}
use Rattle.ps_mem.specs.Meaning.{value_of}
use Rattle.ps_mem.specs.Shows.{words_of_pairs, pair_of}
use Rattle.ps_mem.proofs.Lists.{splice-suc, splice-zero}
use Rattle.ps_dict.specs.Places.{first_place}
use Rattle.ps_dict.specs.Puts.{with_value}

-- two words farther on
pub splice-two : (x y : Word) (old : List Word) (k m : ℕ) (items : List Word) → m ≡ suc (suc k)
    → splice (x ∷ y ∷ old) m items ≡ x ∷ y ∷ splice old k items
splice-two x y old k m items is =
    ap (λ n. splice (x ∷ y ∷ old) n items) is ∙ (splice-suc x (y ∷ old) (suc k) items
    ∙ ap (λ ws. x ∷ ws) (splice-suc y old k items))

-- ---- another value

pub splice-value : (pairs : List (Word × Word)) (i : ℕ) (v : Word) (rest : List Word) → i < length pairs →
    splice (words_of_pairs pairs ++ rest) (2 * i + 1) (v ∷ []) ≡ words_of_pairs (with_value pairs i v) ++ rest
unfolding with_value
splice-value [] i v rest below = absurd (omega arith)
splice-value (pair ∷ pairs) zero v rest below = splice-suc pair.0 (pair.1 ∷ (words_of_pairs pairs ++ rest)) 0 (v ∷ [])
    ∙ ap (λ ws. pair.0 ∷ ws) (splice-zero (pair.1 ∷ (words_of_pairs pairs ++ rest)) (v ∷ []))
splice-value (pair ∷ pairs) (suc i) v rest below =
    splice-two pair.0 pair.1 (words_of_pairs pairs ++ rest) (2 * i + 1) (2 * suc i + 1) (v ∷ []) (omega arith)
    ∙ ap (λ ws. pair.0 ∷ pair.1 ∷ ws) (splice-value pairs i v rest (omega arith))

pub length-with_value : {K V : Type 0} (pairs : List (K × V)) (i : ℕ) (v : V)
    → length (with_value pairs i v) ≡ length pairs
unfolding with_value
length-with_value [] i v = refl
length-with_value (pair ∷ pairs) zero v = refl
length-with_value (pair ∷ pairs) (suc i) v = ap suc (length-with_value pairs i v)

pub map-with_value : (births : ℕ → ℕ) (names : List (List ℕ)) (pairs : List (Word × Word)) (i : ℕ) (v : Word)
    → map (pair_of births names) (with_value pairs i v)
    ≡ with_value (map (pair_of births names) pairs) i (value_of births names v)
unfolding with_value
map-with_value births names [] i v = refl
map-with_value births names (pair ∷ pairs) zero v = refl
map-with_value births names (pair ∷ pairs) (suc i) v =
    ap (λ ps. pair_of births names pair ∷ ps) (map-with_value births names pairs i v)

-- ---- another last pair

pub splice-last : (pairs : List (Word × Word)) (last : Word × Word) (k v : Word) (rest : List Word) →
    splice (words_of_pairs (pairs ++ last ∷ []) ++ rest) (2 * length pairs) (k ∷ v ∷ [])
    ≡ words_of_pairs (pairs ++ (k, v) ∷ []) ++ rest
splice-last [] last k v rest = splice-zero (last.0 ∷ last.1 ∷ rest) (k ∷ v ∷ [])
splice-last (pair ∷ pairs) last k v rest =
    splice-two pair.0 pair.1 (words_of_pairs (pairs ++ last ∷ []) ++ rest) (2 * length pairs) (2 * suc (length pairs))
    (k ∷ v ∷ []) (omega arith) ∙ ap (λ ws. pair.0 ∷ pair.1 ∷ ws) (splice-last pairs last k v rest)

-- a null pair is two of the nulls behind the pairs
pub null-pair : (pairs : List (Word × Word)) (m n : ℕ) (index : List Word) → n ≡ m + 1 →
    words_of_pairs pairs ++ (replicate (2 * n) zero_word ++ index)
    ≡ words_of_pairs (pairs ++ (zero_word, zero_word) ∷ []) ++ (replicate (2 * m) zero_word ++ index)
null-pair [] m n index is = let two : 2 * n ≡ suc (suc (2 * m)) = omega (arith, is) in
    ap (λ k. replicate k zero_word ++ index) two
null-pair (pair ∷ pairs) m n index is = ap (λ ws. pair.0 ∷ pair.1 ∷ ws) (null-pair pairs m n index is)

-- ---- by values

pub put-present : (pairs : List (Value × Value)) (key value : Value) (i : ℕ) → first_place pairs key ≡ Some i
    → put_pair pairs (key, value) ≡ with_value pairs i value
unfolding first_place with_value
put-present [] key value i at = cc
put-present (pair ∷ pairs) key value i at =
    elim (same_key pair.0 key) as (λ b. same_key pair.0 key ≡ b
    → put_pair (pair ∷ pairs) (key, value) ≡ with_value (pair ∷ pairs) i value) [
      | true ↦ λ e.
          let here : Some 0 ≡ Some i = rw e at at in
          let is : 0 ≡ i = cc in
          rw e (ap (λ n. with_value (pair ∷ pairs) n value) is)
      | false ↦ λ e.
          let next : option_map suc (first_place pairs key) ≡ Some i = rw e at at in
          elim (first_place pairs key) as (λ o. first_place pairs key ≡ o → option_map suc o ≡ Some i
          → put_pair (pair ∷ pairs) (key, value) ≡ with_value (pair ∷ pairs) i value) [
            | None ↦ λ is h. cc
            | Some j ↦ λ is h.
                let one : suc j ≡ i = cc in
                rw e (ap (λ ps. pair ∷ ps) (put-present pairs key value j is)
                ∙ ap (λ n. with_value (pair ∷ pairs) n value) one)
          ] refl next
    ] refl

pub put-absent : (pairs : List (Value × Value)) (key value : Value) → first_place pairs key ≡ None
    → put_pair pairs (key, value) ≡ pairs ++ (key, value) ∷ []
unfolding first_place
put-absent [] key value at = refl
put-absent (pair ∷ pairs) key value at =
    elim (same_key pair.0 key) as (λ b. same_key pair.0 key ≡ b
    → put_pair (pair ∷ pairs) (key, value) ≡ (pair ∷ pairs) ++ (key, value) ∷ []) [
      | true ↦ λ e. let clash : Some 0 ≡ None = rw e at at in cc
      | false ↦ λ e.
          let next : option_map suc (first_place pairs key) ≡ None = rw e at at in
          rw e (ap (λ ps. pair ∷ ps) (put-absent pairs key value (none_before (first_place pairs key) next)))
    ] refl
  where
    none_before : (o : Option ℕ) → option_map suc o ≡ None → o ≡ None
    none_before None h = refl
    none_before (Some n) h = cc
