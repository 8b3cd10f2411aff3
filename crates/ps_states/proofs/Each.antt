-- The texts of contexts one behind another, by their identifiers.
use Rattle.std.proofs.Common.{◌≡◌, ℕ, zero, suc, ◌+◌, ◌<◌, ◌≤◌, List, [], ◌∷◌, ◌++◌, Option, Some, None, take, length, arith, refl, sym, ap, ◌∙◌, append_assoc}
use Rattle.std.specs.Prelude.{slice_get, map, option_map}
use Rattle.std.specs.Option.{option_map_or}
use Rattle.std.proofs.lemmas.List.{append-nil, length-map}
use Rattle.ps_language.specs.Contexts.{context_at, context_in}
use Rattle.ps_language.specs.World.{Context, World}
use Rattle.ps_mem.specs.Heap.{Heap}
use Rattle.ps_ctx_table.specs.declared.members.Member.{Member}
use Rattle.ps_ctx_table.specs.Worlds.{contexts_in, context_of}
use Rattle.ps_states.specs.States.{each_context}
use Rattle.ps_states.proofs.Lines.{all_taken}

-- of one that may not be there
abbrev pub of_one : (ℕ → Context → List ℕ) → ℕ → Option Context → List ℕ
of_one text identifier found = option_map_or (text identifier) found []

module _ (text : ℕ → Context → List ℕ) where
  one_further : (k : ℕ) (xs : List (Option Context)) (i : ℕ) → i < length xs
      → each_context text k (take (suc i) xs)
      ≡ each_context text k (take i xs) ++ of_one text (k + i) (context_in (slice_get xs i))
  one_further k [] i within = absurd (omega (arith, within))
  one_further k (None ∷ xs) zero within = refl
  one_further k (Some one ∷ xs) zero within =
      let same : k ≡ k + 0 = omega arith in
      append-nil (text k one) ∙ ap (λ n. text n one) same
  one_further k (None ∷ xs) (suc i) within =
      let same : suc k + i ≡ k + suc i = omega arith in
      one_further (suc k) xs i (omega (arith, within))
      ∙ ap (λ n. each_context text (suc k) (take i xs) ++ of_one text n (context_in (slice_get xs i))) same
  one_further k (Some one ∷ xs) (suc i) within =
      let same : suc k + i ≡ k + suc i = omega arith in
      ap (λ rest. text k one ++ rest) (one_further (suc k) xs i (omega (arith, within))
      ∙ ap (λ n. each_context text (suc k) (take i xs) ++ of_one text n (context_in (slice_get xs i))) same)
      ∙ sym (append_assoc (text k one) (each_context text (suc k) (take i xs))
      (of_one text (k + suc i) (context_in (slice_get xs i))))

  there : (w : World) (i : ℕ) → context_in (slice_get w.contexts i) ≡ context_at w (i + 1)
  unfolding context_at
  there w i = let next : suc i ≡ i + 1 = omega arith in ap (context_at w) next

  -- the next one
  pub each_more : (w : World) (i : ℕ) (old before new : List ℕ) → i < length w.contexts
      → before ≡ old ++ each_context text 1 (take i w.contexts)
      → new ≡ before ++ of_one text (i + 1) (context_at w (i + 1))
      → new ≡ old ++ each_context text 1 (take (i + 1) w.contexts)
  each_more w i old before new within so line =
      let next : suc i ≡ i + 1 = omega arith in
      let same : 1 + i ≡ i + 1 = omega arith in
      let further : each_context text 1 (take (i + 1) w.contexts)
      ≡ each_context text 1 (take i w.contexts) ++ of_one text (i + 1) (context_at w (i + 1)) =
      ap (λ n. each_context text 1 (take n w.contexts)) (sym next) ∙ one_further 1 w.contexts i within
      ∙ ap (λ n. each_context text 1 (take i w.contexts) ++ of_one text n (context_in (slice_get w.contexts i))) same
      ∙ ap (λ found. each_context text 1 (take i w.contexts) ++ of_one text (i + 1) found) (there w i) in
      line ∙ ap (λ front. front ++ of_one text (i + 1) (context_at w (i + 1))) so
      ∙ append_assoc old (each_context text 1 (take i w.contexts)) (of_one text (i + 1) (context_at w (i + 1)))
      ∙ ap (λ rest. old ++ rest) (sym further)

  -- behind the last, all were told
  pub each_told : (w : World) (i : ℕ) (old new : List ℕ) → length w.contexts ≤ i
      → new ≡ old ++ each_context text 1 (take i w.contexts) → new ≡ old ++ each_context text 1 w.contexts
  each_told w i old new short so =
      so ∙ ap (λ told. old ++ each_context text 1 told) (all_taken w.contexts i short)

-- as many as the table made
pub made_all : (h : Heap) (names : List (List ℕ)) (members : List (Option Member)) (w : World)
    → w.contexts ≡ contexts_in h names members → length w.contexts ≡ length members
unfolding contexts_in
made_all h names members w is =
    let same : length (map (option_map (context_of h names)) members) ≡ length members = simp length-map in
    ap length is ∙ same
