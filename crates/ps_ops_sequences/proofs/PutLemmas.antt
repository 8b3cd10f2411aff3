-- What put of an element leaves.
use Rattle.std.proofs.Common.{◌≡◌, ℕ, List, [], ◌∷◌, drop, true, Ok, Some, sym, ap, subst, ◌∙◌, refl}
use Rattle.std.specs.Prelude.{ℤ}
use Rattle.ps_language.specs.declared.kinds.Kind.TheVariants.{Array as ArrayKind}
use Rattle.ps_language.specs.Value.{Part as PartValue, Value, Store}
use Rattle.ps_language.specs.Objects.{changing}
use Rattle.ps_language.specs.Readers.{as_array, as_integer, index_below}
use Rattle.ps_language.specs.Access.{is_writable, with_part_elements}
use Rattle.ps_stacks.specs.Tops.{first_three_of}
use Rattle.ps_word.specs.declared.words.Word.{Word}
use Rattle.ps_word.specs.declared.values.Part.{Part}
use Rattle.ps_mem.specs.Heap.{Heap, Grants, birth_at}
use Rattle.ps_mem.specs.Keeps.{Keeps}
use Rattle.ps_mem.specs.References.{StandsAs}
use Rattle.ps_mem.specs.Meaning.{value_of, part_of}
use Rattle.ps_mem.specs.Shows.{IsValue, AreValues, IsSound, IsReady, IsWithin, AreWithin, Shows}
use Rattle.ps_ops_sequences.specs.ArrayRows.{array_put_row, one_stored}
use Rattle.ps_ops_operands.specs.Changes.{values_in, Changes}
use Rattle.ps_ops_operands.proofs.Operands.{first_three_split}
use Rattle.ps_ops_operands.proofs.Held.{first_of_three_held, rest_held}
use Rattle.ps_ops_operands.proofs.Changed.{does_changes, ready_changed}

put_row-is : (s : Store) (y k x : Value) (rest : List Value) (p : PartValue) (i : ℤ) (n : ℕ)
    → as_array x ≡ Some p → as_integer k ≡ Some i → is_writable p.access ≡ true → index_below i p.count ≡ Some n
    → array_put_row s (y ∷ k ∷ x ∷ rest) ≡ changing rest (with_part_elements s p n (y ∷ []))
put_row-is s y k x rest p i n array number writable index = rw (array, number, writable, index) refl

module _ (h now : Heap) (old new : List Word) (ready : IsReady h old) (word key array : Word)
    (tops : Some (word, key, array) ≡ first_three_of old)
    (rest : new ≡ drop 3 old) (keeps : Keeps h now) where
  pub put_ready : IsSound now → IsReady now new
  put_ready sound = ready_changed h now new keeps sound
      (subst (AreValues h) (sym rest) (rest_held (IsValue h) old ready.values 3))

  pub put_does : (slot : ℕ) (asked left : Grants) (part : Part) (n : ℕ) → StandsAs h ArrayKind part.address n
      → ((births : ℕ → ℕ) (names : List (List ℕ)) → as_array (value_of births names array) ≡ Some (part_of births part))
      → (number : ℤ) → ((births : ℕ → ℕ) (names : List (List ℕ)) → as_integer (value_of births names key) ≡ Some number)
      → is_writable part.access ≡ true → (index : ℕ) → Some index ≡ index_below number part.length
      → birth_at now ≡ birth_at h
      → ((names : List (List ℕ)) (s : Store) → Shows h names s → IsWithin (birth_at h) names s word
      → Shows now names (with_part_elements s (part_of (birth_at h) part) index
      (value_of (birth_at h) names word ∷ [])))
      → Changes array_put_row one_stored (Ok tt) slot asked left h now old new
  put_does slot asked left part n stands array_is number number_is writable index index_is births shows =
      does_changes array_put_row one_stored slot asked left h now old new part n index stands keeps births
      (subst (AreValues h) (sym rest) (rest_held (IsValue h) old ready.values 3))
      (λ names s shown within. record {
        items = value_of (birth_at h) names word ∷ [];
        is =
            ap (λ ws. array_put_row s (values_in h names ws)) (first_three_split old word key array tops)
            ∙ (put_row-is s (value_of (birth_at h) names word) (value_of (birth_at h) names key)
            (value_of (birth_at h) names array) (values_in h names (drop 3 old))
            (part_of (birth_at h) part) number index
            (array_is (birth_at h) names) (number_is (birth_at h) names) writable (sym index_is)
            ∙ ap (λ ws. changing (values_in h names ws)
            (with_part_elements s (part_of (birth_at h) part) index (value_of (birth_at h) names word ∷ [])))
            (sym rest));
        within = subst (AreWithin h names s) (sym rest) (rest_held (IsWithin (birth_at h) names s) old within 3);
        shows =
            shows names s shown (first_of_three_held (IsWithin (birth_at h) names s) old within word key array tops);
      })
