-- What the operator that makes strings leaves.
use Rattle.std.proofs.Common.{◌≡◌, ℕ, ◌+◌, ◌/◌, ◌≤◌, List, [], ◌∷◌, ◌++◌, drop, length, replicate, true, Some, refl, sym, ap, arith, ◌∙◌}
use Rattle.std.specs.Prelude.{ℤ, nat_le}
use Rattle.std.proofs.lemmas.Bool.Decides.{nat_tests}
use Rattle.std.proofs.lemmas.List.{length-replicate}
use Rattle.ps_language.specs.Value.{Value, Store, string_value, string_object}
use Rattle.ps_language.specs.Objects.{making}
use Rattle.ps_language.specs.Readers.{literal, whole, as_integer, as_count}
use Rattle.ps_language.specs.Access.{bytes, bytes_in}
use Rattle.ps_language.specs.RowsSequences.{string_row}
use Rattle.ps_stacks.specs.Tops.{first_of}
use Rattle.ps_word.specs.declared.words.Word.{Word}
use Rattle.ps_word.specs.declared.values.Part.{Part}
use Rattle.ps_mem.specs.Heap.{Heap, birth_at}
use Rattle.ps_mem.specs.Meaning.{value_of, part_of}
use Rattle.ps_mem.specs.Shows.{IsWithin, AreWithin, Shows}
use Rattle.ps_mem.proofs.Lists.{slice_get-append_end}
use Rattle.ps_ops_operands.specs.Changes.{values_in}
use Rattle.ps_ops_operands.proofs.Operands.{first_split}
use Rattle.ps_ops_operands.proofs.Held.{rest_held}
use Rattle.ps_ops_operands.proofs.Making.{whole_part, whole_part-end, part_of-whole, MakesObject, IsMaking}

-- the bytes of the newest object of a store
newest_bytes : (s : Store) (text : List ℕ) → bytes (s ++ string_object text ∷ []) (length s) ≡ text
unfolding bytes
newest_bytes s text = ap bytes_in (slice_get-append_end s [] (string_object text))

string_row-is : (s : Store) (k : Value) (rest : List Value) (i : ℤ) (n : ℕ)
    → as_integer k ≡ Some i → as_count i ≡ Some n → nat_le n 65535 ≡ true
    → string_row s (k ∷ rest) ≡ making (string_object (replicate n 0)) rest s
string_row-is s k rest i n number count limit = rw (number, count, limit) refl

-- the number of bytes is the topmost operand, and permitted
module _ (h : Heap) (old : List Word) (top : Word) (number : ℤ) (n : ℕ)
    (first : Some top ≡ first_of old)
    (number_is : (births : ℕ → ℕ) (names : List (List ℕ))
    → as_integer (value_of births names top) ≡ Some number) (count : Some n ≡ as_count number)
    (limit : n ≤ 65535) where
  row_is : (names : List (List ℕ)) (s : Store) → string_row s (values_in h names old)
      ≡ making (string_object (replicate n 0)) (values_in h names (drop 1 old)) s
  row_is names s =
      let few : nat_le n 65535 ≡ true = grind (arith, nat_tests) in
      ap (λ ws. string_row s (values_in h names ws)) (first_split old top first)
      ∙ string_row-is s (value_of (birth_at h) names top) (values_in h names (drop 1 old)) number n
      (number_is (birth_at h) names) (sym count) few

  pub string_making : (names : List (List ℕ)) (s : Store)
      → IsMaking string_row h (2 + (n + 7) / 8) old names s
  string_making names s = record {
    object = string_object (replicate n 0);
    rest = values_in h names (drop 1 old);
    is = row_is names s;
    size = ap (λ m. 2 + (m + 7) / 8) (length-replicate n 0);
  }

  pub string_makes : (now : Heap) (w : Word) (part : Part) → part ≡ whole_part part.address n
      → birth_at now part.address ≡ h.next
      → ((births : ℕ → ℕ) (names : List (List ℕ))
      → value_of births names w ≡ literal (string_value (part_of births part)))
      → ((births : ℕ → ℕ) (names : List (List ℕ)) (s : Store)
      → part.offset + part.length ≤ length (bytes s (births part.address))
      → IsWithin births names s w)
      → (names : List (List ℕ)) (s : Store) → Shows h names s → AreWithin h names s old
      → Shows now names (s ++ string_object (replicate n 0) ∷ [])
      → MakesObject string_row h now old (drop 1 old) w names s
  string_makes now w part part_is birth value_is word_within names s shows within shown =
      let text : List ℕ = replicate n 0 in
      let long : length text ≡ n = length-replicate n 0 in
      let born : birth_at now part.address ≡ length s = birth ∙ shows.next in
      let made : bytes (s ++ string_object text ∷ []) (birth_at now part.address) ≡ text =
      ap (bytes (s ++ string_object text ∷ [])) born ∙ newest_bytes s text in
      record {
        object = string_object text;
        is = row_is names s;
        reference =
            value_is (birth_at now) names
            ∙ (ap (λ p. literal (string_value p))
            (part_of-whole (birth_at now) part n (length s) part_is born)
            ∙ ap (λ m. literal (string_value (whole (length s) m))) (sym long));
        word_within = word_within (birth_at now) names (s ++ string_object text ∷ [])
            (omega (arith, ap length made, long, whole_part-end part n part_is));
        within = rest_held (IsWithin (birth_at h) names s) old within 1;
        shows = shown;
      }
