-- What a write into the fields of an object changes of what stands.
use Rattle.std.proofs.Common.{◌≡◌, ◌≢◌, ℕ, zero, suc, ◌+◌, ◌≤◌, List, [], ◌∷◌, ◌++◌, length, take, drop, map, Some, refl, sym, ap, arith, ◌∙◌, subst, length-take, length-drop}
use Rattle.std.proofs.lemmas.List.{length-map}
use Rattle.ps_language.specs.Access.{splice}
use Rattle.ps_word.specs.Headers.{fields_in, birth_in, kind_in}
use Rattle.ps_mem.specs.Heap.{Standing}
use Rattle.std.specs.Prelude.{◌&&◌}
use Rattle.ps_mem.specs.Objects.{standing_of, object_in, wanting, all_headers, is_kind_number, word_of, kind_of_number}
use Rattle.ps_mem.proofs.Lists.{splice-suc, splice-zero, map-splice, take-splice, take-splice_behind}
use Rattle.ps_mem.proofs.Walks.{object_in_behind}

module _ (xs : List ℕ) where
  -- a write into words that belong to the object before
  front_kept : (ys ws : List ℕ) (skip b : ℕ) → length ys ≤ skip → length ys ≤ length ws
      → object_in (ys ++ drop (length ys) ws) skip b ≡ object_in ws skip b
  unfolding object_in
  front_kept [] ws skip b h fits = refl
  front_kept (y ∷ ys) [] skip b h fits = absurd (omega arith)
  front_kept (y ∷ ys) (w ∷ ws) zero b h fits = absurd (omega arith)
  front_kept (y ∷ ys) (w ∷ ws) (suc skip) zero h fits = refl
  front_kept (y ∷ ys) (w ∷ ws) (suc skip) (suc b) h fits = front_kept ys ws skip b (omega arith) (omega arith)

  front_wanting : (ys ws : List ℕ) (skip : ℕ) → length ys ≤ skip → length ys ≤ length ws
      → wanting (ys ++ drop (length ys) ws) skip ≡ wanting ws skip
  unfolding wanting
  front_wanting [] ws skip h fits = refl
  front_wanting (y ∷ ys) [] skip h fits = absurd (omega arith)
  front_wanting (y ∷ ys) (w ∷ ws) zero h fits = absurd (omega arith)
  front_wanting (y ∷ ys) (w ∷ ws) (suc skip) h fits = front_wanting ys ws skip (omega arith) (omega arith)

  front_headers : (ys ws : List ℕ) (skip : ℕ) → length ys ≤ skip → length ys ≤ length ws
      → all_headers (ys ++ drop (length ys) ws) skip ≡ all_headers ws skip
  unfolding all_headers
  front_headers [] ws skip h fits = refl
  front_headers (y ∷ ys) [] skip h fits = absurd (omega arith)
  front_headers (y ∷ ys) (w ∷ ws) zero h fits = absurd (omega arith)
  front_headers (y ∷ ys) (w ∷ ws) (suc skip) h fits = front_headers ys ws skip (omega arith) (omega arith)

  skipped_kept : (ws : List ℕ) (j skip b : ℕ) → j + length xs ≤ skip → j + length xs ≤ length ws
      → object_in (splice ws j xs) skip b ≡ object_in ws skip b
  unfolding object_in
  skipped_kept ws zero skip b h fits = ap (λ zs. object_in zs skip b) (splice-zero ws xs)
      ∙ front_kept xs ws skip b (omega arith) (omega arith)
  skipped_kept [] (suc j) skip b h fits = absurd (omega arith)
  skipped_kept (w ∷ ws) (suc j) zero b h fits = absurd (omega arith)
  skipped_kept (w ∷ ws) (suc j) (suc skip) zero h fits = ap (λ zs. object_in zs (suc skip) zero) (splice-suc w ws j xs)
  skipped_kept (w ∷ ws) (suc j) (suc skip) (suc b) h fits =
      ap (λ zs. object_in zs (suc skip) (suc b)) (splice-suc w ws j xs)
      ∙ skipped_kept ws j skip b (omega arith) (omega arith)

  skipped_wanting : (ws : List ℕ) (j skip : ℕ) → j + length xs ≤ skip → j + length xs ≤ length ws
      → wanting (splice ws j xs) skip ≡ wanting ws skip
  unfolding wanting
  skipped_wanting ws zero skip h fits = ap (λ zs. wanting zs skip) (splice-zero ws xs)
      ∙ front_wanting xs ws skip (omega arith) (omega arith)
  skipped_wanting [] (suc j) skip h fits = absurd (omega arith)
  skipped_wanting (w ∷ ws) (suc j) zero h fits = absurd (omega arith)
  skipped_wanting (w ∷ ws) (suc j) (suc skip) h fits = ap (λ zs. wanting zs (suc skip)) (splice-suc w ws j xs)
      ∙ skipped_wanting ws j skip (omega arith) (omega arith)

  skipped_headers : (ws : List ℕ) (j skip : ℕ) → j + length xs ≤ skip → j + length xs ≤ length ws
      → all_headers (splice ws j xs) skip ≡ all_headers ws skip
  unfolding all_headers
  skipped_headers ws zero skip h fits = ap (λ zs. all_headers zs skip) (splice-zero ws xs)
      ∙ front_headers xs ws skip (omega arith) (omega arith)
  skipped_headers [] (suc j) skip h fits = absurd (omega arith)
  skipped_headers (w ∷ ws) (suc j) zero h fits = absurd (omega arith)
  skipped_headers (w ∷ ws) (suc j) (suc skip) h fits = ap (λ zs. all_headers zs (suc skip)) (splice-suc w ws j xs)
      ∙ skipped_headers ws j skip (omega arith) (omega arith)

  -- the fields of the object that is written
  drop_header : (ws : List ℕ) (p : ℕ) → suc p + length xs ≤ length ws
      → drop 1 (splice ws (suc p) xs) ≡ splice (drop 1 ws) p xs
  drop_header [] p fits = absurd (omega arith)
  drop_header (w ∷ ws) p fits = ap (drop 1) (splice-suc w ws p xs)

  standing_written : (w : ℕ) (ws : List ℕ) (p : ℕ) → p + length xs ≤ length (standing_of w ws).fields
      → suc p + length xs ≤ length ws →
      standing_of w (splice ws (suc p) xs)
      ≡ record (standing_of w ws) { fields = splice (standing_of w ws).fields p (map word_of xs) }
  unfolding standing_of
  standing_written w ws p h fits =
      let n = fields_in w in
      let many : p + length xs ≤ length (take n (drop 1 ws)) =
      subst (λ k. p + length xs ≤ k) (length-map (take n (drop 1 ws)) word_of) h in
      let short : p + length xs ≤ n = omega (arith, many, length-take n (drop 1 ws)) in
      let fields : map word_of (take n (drop 1 (splice ws (suc p) xs)))
      ≡ splice (map word_of (take n (drop 1 ws))) p (map word_of xs) =
      ap (λ zs. map word_of (take n zs)) (drop_header ws p fits)
      ∙ (ap (map word_of) (take-splice n (drop 1 ws) p xs short (omega (arith, length-drop 1 ws)))
      ∙ map-splice word_of (take n (drop 1 ws)) p xs) in
      ap (λ zs. record { kind = kind_of_number (kind_in w); birth = birth_in w; fields = zs }) fields

  -- an object that lies before what is written
  standing_before : (w : ℕ) (ws : List ℕ) (j : ℕ) → suc (fields_in w) ≤ j → j ≤ length ws
      → standing_of w (splice ws j xs) ≡ standing_of w ws
  unfolding standing_of
  standing_before w [] j h fits = absurd (omega arith)
  standing_before w (v ∷ ws) zero h fits = absurd (omega arith)
  standing_before w (v ∷ ws) (suc j) h fits =
      ap (λ zs. record {
        kind = kind_of_number (kind_in w);
        birth = birth_in w;
        fields = map word_of (take (fields_in w) (drop 1 zs));
      }) (splice-suc v ws j xs)
      ∙ ap (λ zs. record { kind = kind_of_number (kind_in w); birth = birth_in w; fields = map word_of zs })
      (take-splice_behind (fields_in w) ws j xs (omega arith) (omega arith))

  -- the place in the words of a field
  step : (place p : ℕ) → suc place + 2 + p ≡ suc (place + 2 + p)
  step place p = omega arith

  pub written_same : (ws : List ℕ) (skip place : ℕ) (o : Standing) (p : ℕ) → object_in ws skip place ≡ Some o
      → p + length xs ≤ length o.fields → place + 2 + p + length xs ≤ length ws →
      object_in (splice ws (place + 2 + p) xs) skip place
      ≡ Some (record o { fields = splice o.fields p (map word_of xs) })
  unfolding object_in
  written_same [] skip place o p e h fits = cc
  written_same (w ∷ ws) zero zero o p e h fits =
      let is : standing_of w ws ≡ o = cc in
      let at : 0 + 2 + p ≡ suc (suc p) = omega arith in
      ap (λ k. object_in (splice (w ∷ ws) k xs) zero zero) at
      ∙ (ap (λ zs. object_in zs zero zero) (splice-suc w ws (suc p) xs)
      ∙ ap Some (standing_written w ws p (subst (λ (x : Standing). p + length xs ≤ length x.fields) (sym is) h)
      (omega arith)
      ∙ ap (λ (x : Standing). record x { fields = splice x.fields p (map word_of xs) }) is))
  written_same (w ∷ ws) zero (suc place) o p e h fits =
      ap (λ k. object_in (splice (w ∷ ws) k xs) zero (suc place)) (step place p)
      ∙ (ap (λ zs. object_in zs zero (suc place)) (splice-suc w ws (place + 2 + p) xs)
      ∙ written_same ws (suc (fields_in w)) place o p e h (omega arith))
  written_same (w ∷ ws) (suc skip) zero o p e h fits = cc
  written_same (w ∷ ws) (suc skip) (suc place) o p e h fits =
      ap (λ k. object_in (splice (w ∷ ws) k xs) (suc skip) (suc place)) (step place p)
      ∙ (ap (λ zs. object_in zs (suc skip) (suc place)) (splice-suc w ws (place + 2 + p) xs)
      ∙ written_same ws skip place o p e h (omega arith))

  fields_short : (w : ℕ) (ws : List ℕ) (o : Standing) (p : ℕ) → standing_of w ws ≡ o → p + length xs ≤ length o.fields
      → suc p + length xs ≤ suc (fields_in w)
  unfolding standing_of
  fields_short w ws o p is h =
      let many : p + length xs ≤ length (standing_of w ws).fields =
      subst (λ (x : Standing). p + length xs ≤ length x.fields) (sym is) h in
      let long : p + length xs ≤ length (take (fields_in w) (drop 1 ws)) =
      subst (λ k. p + length xs ≤ k) (length-map (take (fields_in w) (drop 1 ws)) word_of) many in
      omega (arith, long, length-take (fields_in w) (drop 1 ws))

  pub written_other : (ws : List ℕ) (skip place : ℕ) (o : Standing) (p b : ℕ) → object_in ws skip place ≡ Some o
      → p + length xs ≤ length o.fields → place + 2 + p + length xs ≤ length ws → place ≢ b →
      object_in (splice ws (place + 2 + p) xs) skip b ≡ object_in ws skip b
  unfolding object_in
  written_other [] skip place o p b e h fits ne = cc
  written_other (w ∷ ws) zero zero o p zero e h fits ne = absurd (ne refl)
  written_other (w ∷ ws) zero zero o p (suc b) e h fits ne =
      let is : standing_of w ws ≡ o = cc in
      let at : 0 + 2 + p ≡ suc (suc p) = omega arith in
      ap (λ k. object_in (splice (w ∷ ws) k xs) zero (suc b)) at
      ∙ (ap (λ zs. object_in zs zero (suc b)) (splice-suc w ws (suc p) xs)
      ∙ skipped_kept ws (suc p) (suc (fields_in w)) b (fields_short w ws o p is h) (omega arith))
  written_other (w ∷ ws) zero (suc place) o p zero e h fits ne =
      let after = object_in_behind ws (suc (fields_in w)) place o e in
      ap (λ k. object_in (splice (w ∷ ws) k xs) zero zero) (step place p)
      ∙ (ap (λ zs. object_in zs zero zero) (splice-suc w ws (place + 2 + p) xs)
      ∙ ap Some (standing_before w ws (place + 2 + p) (omega (arith, after)) (omega arith)))
  written_other (w ∷ ws) zero (suc place) o p (suc b) e h fits ne =
      ap (λ k. object_in (splice (w ∷ ws) k xs) zero (suc b)) (step place p)
      ∙ (ap (λ zs. object_in zs zero (suc b)) (splice-suc w ws (place + 2 + p) xs)
      ∙ written_other ws (suc (fields_in w)) place o p b e h (omega arith) (λ q. ne (ap suc q)))
  written_other (w ∷ ws) (suc skip) zero o p b e h fits ne = cc
  written_other (w ∷ ws) (suc skip) (suc place) o p zero e h fits ne =
      ap (λ k. object_in (splice (w ∷ ws) k xs) (suc skip) zero) (step place p)
      ∙ ap (λ zs. object_in zs (suc skip) zero) (splice-suc w ws (place + 2 + p) xs)
  written_other (w ∷ ws) (suc skip) (suc place) o p (suc b) e h fits ne =
      ap (λ k. object_in (splice (w ∷ ws) k xs) (suc skip) (suc b)) (step place p)
      ∙ (ap (λ zs. object_in zs (suc skip) (suc b)) (splice-suc w ws (place + 2 + p) xs)
      ∙ written_other ws skip place o p b e h (omega arith) (λ q. ne (ap suc q)))

  pub written_wanting : (ws : List ℕ) (skip place : ℕ) (o : Standing) (p : ℕ) → object_in ws skip place ≡ Some o
      → p + length xs ≤ length o.fields → place + 2 + p + length xs ≤ length ws →
      wanting (splice ws (place + 2 + p) xs) skip ≡ wanting ws skip
  unfolding object_in wanting
  written_wanting [] skip place o p e h fits = cc
  written_wanting (w ∷ ws) zero zero o p e h fits =
      let is : standing_of w ws ≡ o = cc in
      let at : 0 + 2 + p ≡ suc (suc p) = omega arith in
      ap (λ k. wanting (splice (w ∷ ws) k xs) zero) at
      ∙ (ap (λ zs. wanting zs zero) (splice-suc w ws (suc p) xs)
      ∙ skipped_wanting ws (suc p) (suc (fields_in w)) (fields_short w ws o p is h) (omega arith))
  written_wanting (w ∷ ws) zero (suc place) o p e h fits =
      ap (λ k. wanting (splice (w ∷ ws) k xs) zero) (step place p)
      ∙ (ap (λ zs. wanting zs zero) (splice-suc w ws (place + 2 + p) xs)
      ∙ written_wanting ws (suc (fields_in w)) place o p e h (omega arith))
  written_wanting (w ∷ ws) (suc skip) zero o p e h fits = cc
  written_wanting (w ∷ ws) (suc skip) (suc place) o p e h fits =
      ap (λ k. wanting (splice (w ∷ ws) k xs) (suc skip)) (step place p)
      ∙ (ap (λ zs. wanting zs (suc skip)) (splice-suc w ws (place + 2 + p) xs)
      ∙ written_wanting ws skip place o p e h (omega arith))

  pub written_headers : (ws : List ℕ) (skip place : ℕ) (o : Standing) (p : ℕ) → object_in ws skip place ≡ Some o
      → p + length xs ≤ length o.fields → place + 2 + p + length xs ≤ length ws →
      all_headers (splice ws (place + 2 + p) xs) skip ≡ all_headers ws skip
  unfolding object_in all_headers
  written_headers [] skip place o p e h fits = cc
  written_headers (w ∷ ws) zero zero o p e h fits =
      let is : standing_of w ws ≡ o = cc in
      let at : 0 + 2 + p ≡ suc (suc p) = omega arith in
      ap (λ k. all_headers (splice (w ∷ ws) k xs) zero) at
      ∙ (ap (λ zs. all_headers zs zero) (splice-suc w ws (suc p) xs)
      ∙ ap (λ t. is_kind_number (kind_in w) && t)
      (skipped_headers ws (suc p) (suc (fields_in w)) (fields_short w ws o p is h) (omega arith)))
  written_headers (w ∷ ws) zero (suc place) o p e h fits =
      ap (λ k. all_headers (splice (w ∷ ws) k xs) zero) (step place p)
      ∙ (ap (λ zs. all_headers zs zero) (splice-suc w ws (place + 2 + p) xs)
      ∙ ap (λ t. is_kind_number (kind_in w) && t) (written_headers ws (suc (fields_in w)) place o p e h (omega arith)))
  written_headers (w ∷ ws) (suc skip) zero o p e h fits = cc
  written_headers (w ∷ ws) (suc skip) (suc place) o p e h fits =
      ap (λ k. all_headers (splice (w ∷ ws) k xs) (suc skip)) (step place p)
      ∙ (ap (λ zs. all_headers zs (suc skip)) (splice-suc w ws (place + 2 + p) xs)
      ∙ written_headers ws skip place o p e h (omega arith))
