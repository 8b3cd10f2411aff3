-- What astore leaves.
use Rattle.std.proofs.Common.{◌≡◌, ℕ, ◌≤◌, List, ◌∷◌, drop, take, length, true, Ok, Some, sym, ap, subst, ◌∙◌, refl, arith}
use Rattle.std.specs.Prelude.{nat_le, reverse}
use Rattle.std.proofs.lemmas.Bool.Decides.{nat_tests}
use Rattle.std.proofs.lemmas.List.{length-map, drop-map}
use Rattle.ps_language.specs.declared.kinds.Kind.TheVariants.{Array as ArrayKind}
use Rattle.ps_language.specs.Value.{Part as PartValue, Value, Store}
use Rattle.ps_language.specs.Objects.{changing}
use Rattle.ps_language.specs.Readers.{as_array}
use Rattle.ps_language.specs.Access.{is_writable, with_part_elements}
use Rattle.ps_language.specs.RowsSequences.{astore_row}
use Rattle.ps_stacks.specs.Tops.{first_of}
use Rattle.ps_word.specs.declared.words.Word.{Word}
use Rattle.ps_word.specs.declared.values.Part.{Part}
use Rattle.ps_mem.specs.Heap.{Heap, Grants, birth_at}
use Rattle.ps_mem.specs.Keeps.{Keeps}
use Rattle.ps_mem.specs.References.{StandsAs}
use Rattle.ps_mem.specs.Meaning.{value_of, part_of}
use Rattle.ps_mem.specs.Shows.{IsValue, AreValues, IsSound, IsReady, IsWithin, AreWithin, Shows}
use Rattle.ps_mem.proofs.Lists.{all_drop}
use Rattle.ps_ops_sequences.specs.ArrayRows.{topmost_count}
use Rattle.ps_ops_operands.specs.Changes.{values_in, Changes}
use Rattle.ps_ops_operands.proofs.Operands.{first_split}
use Rattle.ps_ops_operands.proofs.Held.{first_held, rest_held}
use Rattle.ps_ops_operands.proofs.Changed.{does_changes, ready_changed}

astore_row-is : (s : Store) (x : Value) (rest : List Value) (p : PartValue) → as_array x ≡ Some p
    → is_writable p.access ≡ true → nat_le p.count (length rest) ≡ true
    → astore_row s (x ∷ rest)
    ≡ changing (x ∷ drop p.count rest) (with_part_elements s p 0 (reverse (take p.count rest)))
astore_row-is s x rest p array writable enough = rw (array, writable, enough) refl

module _ (h now : Heap) (old new : List Word) (ready : IsReady h old) (array : Word) (top : Some array
    ≡ first_of old) (part : Part) (rest : new ≡ array ∷ drop part.length (drop 1 old)) (keeps : Keeps h now) where
  astore_values : AreValues h new
  astore_values = subst (AreValues h) (sym rest) (
    first_held (IsValue h) old ready.values array top,
    all_drop (IsValue h) part.length (drop 1 old) (rest_held (IsValue h) old ready.values 1),
  )

  pub astore_ready : IsSound now → IsReady now new
  astore_ready sound = ready_changed h now new keeps sound astore_values

  pub astore_does : (slot : ℕ) (asked left : Grants) (n : ℕ) → StandsAs h ArrayKind part.address n
      → part.length ≤ length (drop 1 old)
      → ((births : ℕ → ℕ) (names : List (List ℕ)) → as_array (value_of births names array) ≡ Some (part_of births part))
      → is_writable part.access ≡ true → birth_at now ≡ birth_at h
      → ((names : List (List ℕ)) (s : Store) → Shows h names s → AreWithin h names s (drop 1 old)
      → Shows now names (with_part_elements s (part_of (birth_at h) part) 0
      (reverse (take part.length (values_in h names (drop 1 old))))))
      → Changes astore_row topmost_count (Ok tt) slot asked left h now old new
  astore_does slot asked left n stands enough array_is writable births shows =
      does_changes astore_row topmost_count slot asked left h now old new part n 0 stands keeps births astore_values
      (λ names s shown within.
      let below : List Value = values_in h names (drop 1 old) in
      let count : nat_le part.length (length below) ≡ true =
      grind (arith, nat_tests, length-map (drop 1 old) (value_of (birth_at h) names)) in
      record {
        items = reverse (take part.length below);
        is =
            ap (λ ws. astore_row s (values_in h names ws)) (first_split old array top)
            ∙ (astore_row-is s (value_of (birth_at h) names array) below (part_of (birth_at h) part)
            (array_is (birth_at h) names) writable count
            ∙ (ap (λ vs. changing (value_of (birth_at h) names array ∷ vs)
            (with_part_elements s (part_of (birth_at h) part) 0 (reverse (take part.length below))))
            (drop-map (value_of (birth_at h) names) part.length (drop 1 old))
            ∙ ap (λ ws. changing (values_in h names ws)
            (with_part_elements s (part_of (birth_at h) part) 0 (reverse (take part.length below)))) (sym rest)));
        within = subst (AreWithin h names s) (sym rest) (
          first_held (IsWithin (birth_at h) names s) old within array top,
          all_drop (IsWithin (birth_at h) names s) part.length (drop 1 old)
              (rest_held (IsWithin (birth_at h) names s) old within 1),
        );
        shows = shows names s shown (rest_held (IsWithin (birth_at h) names s) old within 1);
      })
