-- What a new object behind the others changes of what stands.
use Rattle.std.proofs.Common.{◌≡◌, ◌≢◌, ℕ, zero, suc, ◌+◌, ◌-◌, ◌<◌, ◌≤◌, List, [], ◌∷◌, ◌++◌, length, take, map, replicate, Some, None, refl, sym, ap, arith, ◌∙◌, inl, inr}
use Rattle.std.proofs.lemmas.Bool.{cases_lt}
use Rattle.std.proofs.lemmas.List.{take-append-le, length-replicate}
use Rattle.ps_word.specs.Headers.{fields_in, birth_in, kind_in}
use Rattle.ps_mem.specs.Heap.{Standing, zero_word}
use Rattle.std.specs.Prelude.{Bool, true, false, ◌&&◌}
use Rattle.ps_mem.specs.Objects.{standing_of, object_in, wanting, all_headers, is_kind_number, word_of, kind_of_number}
use Rattle.ps_mem.proofs.Walks.{wanting_none, object_in_past, object_in_skipped}

and_assoc : (a b c : Bool) → (a && b) && c ≡ a && (b && c)
and_assoc true b c = refl
and_assoc false b c = refl

module _ (new : List ℕ) where
  standing_append : (w : ℕ) (ws : List ℕ) → suc (fields_in w) ≤ length ws → standing_of w (ws ++ new) ≡ standing_of w ws
  unfolding standing_of
  standing_append w [] h = absurd (omega arith)
  standing_append w (v ∷ ws) h =
      ap (λ zs. record { kind = kind_of_number (kind_in w); birth = birth_in w; fields = map word_of zs })
      (take-append-le (fields_in w) ws new (omega arith))

  -- what stood stands
  pub object_in-append_old : (ws : List ℕ) (skip place : ℕ) → place < length ws → wanting ws skip ≡ 0
      → object_in (ws ++ new) skip place ≡ object_in ws skip place
  unfolding object_in wanting
  object_in-append_old [] skip place h whole = absurd (omega arith)
  object_in-append_old (w ∷ ws) zero zero h whole =
      ap Some (standing_append w ws (wanting_none ws (suc (fields_in w)) whole))
  object_in-append_old (w ∷ ws) zero (suc place) h whole =
      object_in-append_old ws (suc (fields_in w)) place (omega arith) whole
  object_in-append_old (w ∷ ws) (suc skip) zero h whole = refl
  object_in-append_old (w ∷ ws) (suc skip) (suc place) h whole = object_in-append_old ws skip place (omega arith) whole

  -- and what stands in the new words stands behind
  pub object_in-append_new : (ws : List ℕ) (skip place : ℕ)
      → object_in (ws ++ new) skip (length ws + place) ≡ object_in new (wanting ws skip) place
  unfolding object_in wanting
  object_in-append_new [] skip place = let e : 0 + place ≡ place = omega arith in rw e
  object_in-append_new (w ∷ ws) zero place =
      let e : suc (length ws) + place ≡ suc (length ws + place) = omega arith in
      rw e (object_in-append_new ws (suc (fields_in w)) place)
  object_in-append_new (w ∷ ws) (suc skip) place =
      let e : suc (length ws) + place ≡ suc (length ws + place) = omega arith in
      rw e (object_in-append_new ws skip place)

  pub wanting-append : (ws : List ℕ) (skip : ℕ) → wanting (ws ++ new) skip ≡ wanting new (wanting ws skip)
  unfolding wanting
  wanting-append [] skip = refl
  wanting-append (w ∷ ws) zero = wanting-append ws (suc (fields_in w))
  wanting-append (w ∷ ws) (suc skip) = wanting-append ws skip

headers-append : (new ws : List ℕ) (skip : ℕ)
    → all_headers (ws ++ new) skip ≡ all_headers ws skip && all_headers new (wanting ws skip)
unfolding all_headers wanting
headers-append new [] skip = refl
headers-append new (w ∷ ws) zero =
    ap (λ t. is_kind_number (kind_in w) && t) (headers-append new ws (suc (fields_in w)))
    ∙ sym (and_assoc (is_kind_number (kind_in w)) (all_headers ws (suc (fields_in w)))
    (all_headers new (wanting ws (suc (fields_in w)))))
headers-append new (w ∷ ws) (suc skip) = headers-append new ws skip

headers-skipped : (ws : List ℕ) (skip : ℕ) → length ws ≤ skip → all_headers ws skip ≡ true
unfolding all_headers
headers-skipped [] skip h = refl
headers-skipped (w ∷ ws) zero h = absurd (omega arith)
headers-skipped (w ∷ ws) (suc skip) h = headers-skipped ws skip (omega arith)

wanting-skipped : (ws : List ℕ) (skip : ℕ) → length ws ≡ skip → wanting ws skip ≡ 0
unfolding wanting
wanting-skipped [] skip e = sym e
wanting-skipped (w ∷ ws) zero e = absurd (omega (arith, e))
wanting-skipped (w ∷ ws) (suc skip) e = wanting-skipped ws skip (omega (arith, e))

map-zeros : (n : ℕ) → map word_of (replicate n 0) ≡ replicate n zero_word
map-zeros zero = refl
map-zeros (suc n) = ap (λ zs. zero_word ∷ zs) (map-zeros n)

take-zeros : (n : ℕ) → take {A = ℕ} n (replicate n 0) ≡ replicate n 0
take-zeros zero = refl
take-zeros (suc n) = ap (λ zs. 0 ∷ zs) (take-zeros n)

-- words of a new object: its first header, and zeros
abbrev pub new_words : ℕ → List ℕ
new_words header = header ∷ replicate (suc (fields_in header)) 0

abbrev pub new_standing : ℕ → Standing
new_standing header = record {
  kind = kind_of_number (kind_in header);
  birth = birth_in header;
  fields = replicate (fields_in header) zero_word;
}

new_first : (header : ℕ) → object_in (new_words header) 0 0 ≡ Some (new_standing header)
unfolding object_in standing_of
new_first header =
    ap (λ zs. Some (record { kind = kind_of_number (kind_in header); birth = birth_in header; fields = zs }))
    (ap (map word_of) (take-zeros (fields_in header)) ∙ map-zeros (fields_in header))

new_further : (header b : ℕ) → object_in (new_words header) 0 (suc b) ≡ None
unfolding object_in
new_further header b = object_in_skipped (replicate (suc (fields_in header)) 0) (suc (fields_in header)) b (let e =
    length-replicate {A = ℕ} (suc (fields_in header)) 0 in omega (arith, e))

new_wanting : (header : ℕ) → wanting (new_words header) 0 ≡ 0
unfolding wanting
new_wanting header = wanting-skipped (replicate (suc (fields_in header)) 0) (suc (fields_in header))
    (length-replicate {A = ℕ} (suc (fields_in header)) 0)

module _ (ws : List ℕ) (header : ℕ) (whole : wanting ws 0 ≡ 0) where
  pub with_new_old : (b : ℕ) → length ws ≢ b → object_in (ws ++ new_words header) 0 b ≡ object_in ws 0 b
  with_new_old b ne = elim (cases_lt b (length ws)) [
    | inl below ↦ object_in-append_old (new_words header) ws 0 b below whole
    | inr above ↦
        let further : ℕ = b - length ws - 1 in
        let at : b ≡ length ws + suc further = omega arith in
        let none : object_in ws 0 b ≡ None = object_in_past ws 0 b above in
        ap (object_in (ws ++ new_words header) 0) at
        ∙ (object_in-append_new (new_words header) ws 0 (suc further)
        ∙ (ap (λ s. object_in (new_words header) s (suc further)) whole
        ∙ (new_further header further ∙ sym none)))
  ]

  pub with_new_there : object_in (ws ++ new_words header) 0 (length ws) ≡ Some (new_standing header)
  with_new_there =
      let at : length ws ≡ length ws + 0 = omega arith in
      ap (object_in (ws ++ new_words header) 0) at
      ∙ (object_in-append_new (new_words header) ws 0 0
      ∙ (ap (λ s. object_in (new_words header) s 0) whole ∙ new_first header))

  pub with_new_wanting : wanting (ws ++ new_words header) 0 ≡ 0
  with_new_wanting = wanting-append (new_words header) ws 0
      ∙ (ap (wanting (new_words header)) whole ∙ new_wanting header)

  pub with_new_headers : is_kind_number (kind_in header) ≡ true → all_headers ws 0 ≡ true
      → all_headers (ws ++ new_words header) 0 ≡ true
  unfolding all_headers
  with_new_headers kind old =
      let behind : all_headers (replicate (suc (fields_in header)) 0) (suc (fields_in header)) ≡ true =
      headers-skipped (replicate (suc (fields_in header)) 0) (suc (fields_in header)) (let e =
      length-replicate {A = ℕ} (suc (fields_in header)) 0 in omega (arith, e)) in
      headers-append (new_words header) ws 0
      ∙ (ap (λ t. t && all_headers (new_words header) (wanting ws 0)) old
      ∙ (ap (λ s. all_headers (new_words header) s) whole
      ∙ (ap (λ t. t && all_headers (replicate (suc (fields_in header)) 0) (suc (fields_in header))) kind ∙ behind)))
