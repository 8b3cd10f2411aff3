-- The heap of words in which objects stand one after another, with a new object behind them.
use Rattle.std.proofs.Common.{◌≡◌, ◌≢◌, ℕ, suc, ◌+◌, ◌-◌, ◌≤◌, List, ◌∷◌, ◌++◌, length, take, drop, replicate, Some, None, refl, sym, ap, arith, ◌∙◌, subst, inl, inr, length-append}
use Rattle.std.specs.Prelude.{slice_set}
use Rattle.std.proofs.lemmas.Bool.Decides.{eqb_tells}
use Rattle.std.proofs.lemmas.List.{length-take-le, take-append-drop, set_at, append_assoc, take_at, drop_at, replicate-append-replicate, length-replicate, length-set}
use Rattle.ps_mem.proofs.Walks.{object_in_past}
use Rattle.ps_language.specs.declared.kinds.Kind.{Kind}
use Rattle.ps_language.specs.declared.kinds.Kind.TheVariants.{Body}
use Rattle.ps_word.specs.Headers.{fields_in, birth_in, kind_in}
use Rattle.ps_mem.specs.Heap.{Heap, Space, object_at, made, made_body, zero_word}
use Rattle.std.specs.Prelude.{true}
use Rattle.ps_mem.specs.Objects.{object_in, wanting, all_headers, is_kind_number, heap_in, kind_of_number}
use Rattle.ps_mem.proofs.WalkNews.{new_words, with_new_old, with_new_there, with_new_wanting, with_new_headers}
use Rattle.ps_mem.proofs.HeapLemmas.{same_heap, object_at-made_same, object_at-made_other, object_at-made_body_same, object_at-made_body_other}
use Rattle.ps_mem.proofs.HeapWalks.{next-in, used-in, space-in}

abbrev zeros : ℕ → List ℕ
zeros n = replicate n 0

module _ (words : List ℕ) (used next : ℕ) (space : Space) (within : used ≤ length words)
    (whole : wanting (take used words) 0 ≡ 0)
    (blank : drop used words ≡ zeros (length words - used)) (header n : ℕ) (many : fields_in header
    ≡ n) (room : used + (2 + n) ≤ length words) where
  rest : ℕ
  rest = length words - used - (2 + n)

  length_front : length (take used words) ≡ used
  length_front = length-take-le used words within

  zeros_split : zeros (length words - used) ≡ 0 ∷ (zeros (suc n) ++ zeros rest)
  unfolding rest
  zeros_split =
      let count : length words - used ≡ suc (suc n + (length words - used - (2 + n))) = omega arith in
      ap (λ k. zeros k) count
      ∙ ap (λ zs. 0 ∷ zs) (sym (replicate-append-replicate {A = ℕ} (suc n) (length words - used - (2 + n)) 0))

  words_are : slice_set words used header ≡ (take used words ++ new_words header) ++ zeros rest
  words_are =
      let split : words ≡ take used words ++ 0 ∷ (zeros (suc n) ++ zeros rest) =
      sym (take-append-drop used words) ∙ ap (λ zs. take used words ++ zs) (blank ∙ zeros_split) in
      let counted : zeros (suc n) ≡ zeros (suc (fields_in header)) = ap (λ k. zeros (suc k)) (sym many) in
      ap (λ ws. slice_set ws used header) split
      ∙ (set_at (take used words) 0 (zeros (suc n) ++ zeros rest) header used length_front
      ∙ (ap (λ zs. take used words ++ header ∷ (zs ++ zeros rest)) counted
      ∙ sym (append_assoc (take used words) (new_words header) (zeros rest))))

  length_new : length (take used words ++ new_words header) ≡ used + (2 + n)
  length_new =
      length-append (take used words) (new_words header)
      ∙ (ap (λ k. k + length (new_words header)) length_front
      ∙ ap (λ k. used + suc k) (length-replicate {A = ℕ} (suc (fields_in header)) 0 ∙ ap suc many) ∙ omega arith)

  pub front-new : take (used + (2 + n)) (slice_set words used header) ≡ take used words ++ new_words header
  front-new = ap (take (used + (2 + n))) words_are
      ∙ take_at (take used words ++ new_words header) (zeros rest) (used + (2 + n)) length_new

  pub wanting-new : wanting (take (used + (2 + n)) (slice_set words used header)) 0 ≡ 0
  wanting-new = ap (λ ws. wanting ws 0) front-new ∙ with_new_wanting (take used words) header whole

  pub headers-new : is_kind_number (kind_in header) ≡ true → all_headers (take used words) 0 ≡ true
      → all_headers (take (used + (2 + n)) (slice_set words used header)) 0 ≡ true
  headers-new kind old = ap (λ ws. all_headers ws 0) front-new
      ∙ with_new_headers (take used words) header whole kind old

  pub length-new : length (slice_set words used header) ≡ length words
  length-new = length-set words used header

  pub blank-new : drop (used + (2 + n)) (slice_set words used header)
      ≡ zeros (length (slice_set words used header) - (used + (2 + n)))
  unfolding rest
  blank-new =
      ap (drop (used + (2 + n))) words_are
      ∙ (drop_at (take used words ++ new_words header) (zeros rest) (used + (2 + n)) length_new
      ∙ ap (λ k. zeros k) (omega (arith, length-new)))

  h : Heap
  h = heap_in words used next space

  old_is : (b : ℕ) → object_at (heap_in words used next space) b ≡ object_in (take used words) 0 b
  unfolding object_at heap_in
  old_is b = refl

  new_is : (next' b : ℕ) → object_at (heap_in (slice_set words used header) (used + (2 + n)) next' space) b
      ≡ object_in (take used words ++ new_words header) 0 b
  unfolding object_at heap_in
  new_is next' b = ap (λ ws. object_in ws 0 b) front-new

  new_there : object_in (take used words ++ new_words header) 0 used
      ≡ Some (record {
        kind = kind_of_number (kind_in header);
        birth = birth_in header;
        fields = replicate n zero_word;
      })
  new_there =
      ap (object_in (take used words ++ new_words header) 0) (sym length_front)
      ∙ (with_new_there (take used words) header whole
      ∙ ap (λ k. Some (record {
        kind = kind_of_number (kind_in header);
        birth = birth_in header;
        fields = replicate k zero_word;
      })) many)

  new_old : (b : ℕ) → used ≢ b → object_in (take used words ++ new_words header) 0 b ≡ object_in (take used words) 0 b
  new_old b ne = with_new_old (take used words) header whole b (λ e. ne (sym length_front ∙ e))

  -- nothing stood where the new object stands
  pub free : object_at (heap_in words used next space) used ≡ None
  free = old_is used ∙ object_in_past (take used words) 0 used (omega (arith, length_front))

  pub heap-new : (kind : Kind) → kind_of_number (kind_in header) ≡ kind → birth_in header ≡ next →
      heap_in (slice_set words used header) (used + (2 + n)) (next + 1) space
      ≡ made (heap_in words used next space) used kind n
  unfolding made
  heap-new kind kind_is birth_is =
      let g = heap_in words used next space in
      same_heap (heap_in (slice_set words used header) (used + (2 + n)) (next + 1) space) (made g used kind n)
      (λ b. elim (eqb_tells used b) [
        | inl (_, e) ↦ subst (λ c. object_at (heap_in (slice_set words used header) (used + (2 + n)) (next + 1) space) c
            ≡ object_at (made g used kind n) c) e
            (new_is (next + 1) used ∙ (new_there
            ∙ (ap (λ k. Some (record { kind = k; birth = birth_in header; fields = replicate n zero_word })) kind_is
            ∙ (ap (λ k. Some (record { kind = kind; birth = k; fields = replicate n zero_word })) (birth_is
            ∙ sym (next-in words used next space))
            ∙ sym (object_at-made_same g used kind n)))))
        | inr (_, ne) ↦ new_is (next + 1) b
            ∙ (new_old b ne ∙ (sym (old_is b) ∙ sym (object_at-made_other g used kind n b ne)))
      ])
      (next-in (slice_set words used header) (used + (2 + n)) (next + 1) space
      ∙ ap (λ k. k + 1) (sym (next-in words used next space)))
      (used-in (slice_set words used header) (used + (2 + n)) (next + 1) space
      ∙ ap (λ k. k + (2 + n)) (sym (used-in words used next space)))
      (space-in (slice_set words used header) (used + (2 + n)) (next + 1) space ∙ sym (space-in words used next space))

  pub heap-new_body : (birth : ℕ) → kind_of_number (kind_in header) ≡ Body → birth_in header ≡ birth →
      heap_in (slice_set words used header) (used + (2 + n)) next space
      ≡ made_body (heap_in words used next space) used birth n
  unfolding made_body
  heap-new_body birth kind_is birth_is =
      let g = heap_in words used next space in
      same_heap (heap_in (slice_set words used header) (used + (2 + n)) next space) (made_body g used birth n)
      (λ b. elim (eqb_tells used b) [
        | inl (_, e) ↦ subst (λ c. object_at (heap_in (slice_set words used header) (used + (2 + n)) next space) c
            ≡ object_at (made_body g used birth n) c) e
            (new_is next used ∙ (new_there
            ∙ (ap (λ k. Some (record { kind = k; birth = birth_in header; fields = replicate n zero_word })) kind_is
            ∙ (ap (λ k. Some (record { kind = Body; birth = k; fields = replicate n zero_word })) birth_is
            ∙ sym (object_at-made_body_same g used birth n)))))
        | inr (_, ne) ↦ new_is next b
            ∙ (new_old b ne ∙ (sym (old_is b) ∙ sym (object_at-made_body_other g used birth n b ne)))
      ])
      (next-in (slice_set words used header) (used + (2 + n)) next space ∙ sym (next-in words used next space))
      (used-in (slice_set words used header) (used + (2 + n)) next space
      ∙ ap (λ k. k + (2 + n)) (sym (used-in words used next space)))
      (space-in (slice_set words used header) (used + (2 + n)) next space ∙ sym (space-in words used next space))
