-- What the operators that read strings leave.
use Rattle.std.proofs.Common.{◌≡◌, ℕ, ◌+◌, ◌≤◌, List, ◌∷◌, drop, length, true, Ok, Some, refl, sym, ap, subst, ◌∙◌}
use Rattle.std.specs.Prelude.{ℤ, pos, slice_get}
use Rattle.ps_language.specs.Value.{Part as PartValue, Value, Store}
use Rattle.ps_language.specs.Outcome.{leaves}
use Rattle.ps_language.specs.Readers.{as_string, as_integer, index_below, natural, integer}
use Rattle.ps_language.specs.Access.{is_readable, bytes}
use Rattle.ps_stacks.specs.Tops.{first_two_of}
use Rattle.ps_word.specs.declared.words.Word.{Word}
use Rattle.ps_word.specs.declared.values.Part.{Part}
use Rattle.ps_mem.specs.Heap.{Heap, birth_at}
use Rattle.ps_mem.specs.Meaning.{value_of, part_of}
use Rattle.ps_mem.specs.Shows.{IsWithin, Shows}
use Rattle.ps_ops_operands.specs.Plain.{IsPlain}
use Rattle.ps_ops_operands.specs.Changes.{values_in, Observes}
use Rattle.ps_ops_sequences.proofs.ArrayReads.{observes_leaves}
use Rattle.ps_ops_operands.proofs.Operands.{first_two_split}
use Rattle.ps_ops_operands.proofs.Held.{second_held, rest_held}
use Rattle.ps_ops_operands.proofs.Ready.{plain_within}
use Rattle.ps_ops_sequences.specs.StringRows.{string_get_row}

get_row-is : (s : Store) (k x : Value) (rest : List Value) (p : PartValue) (i : ℤ) (n byte : ℕ)
    → as_string x ≡ Some p → as_integer k ≡ Some i → is_readable p.access ≡ true
    → index_below i p.count ≡ Some n → slice_get (bytes s p.birth) (p.offset + n) ≡ Some byte
    → string_get_row s (k ∷ x ∷ rest) ≡ leaves (natural byte ∷ rest)
get_row-is s k x rest p i n byte string number readable index read = rw
    (string, number, readable, index, read) refl

-- get leaves the byte that was read
pub get_done : (h : Heap) (old new : List Word) (key string : Word) → Some (key, string)
    ≡ first_two_of old → (part : Part)
    → ((births : ℕ → ℕ) (names : List (List ℕ)) → as_string (value_of births names string) ≡ Some
    (part_of births part))
    → ((births : ℕ → ℕ) (names : List (List ℕ)) (s : Store) → IsWithin births names s string
    → part.offset + part.length ≤ length (bytes s (births part.address)))
    → (number : ℤ) → ((births : ℕ → ℕ) (names : List (List ℕ)) → as_integer
    (value_of births names key) ≡ Some number)
    → is_readable part.access ≡ true → (index : ℕ) → Some index ≡ index_below number part.length
    → (byte : ℕ) → ((names : List (List ℕ)) (s : Store) → Shows h names s
    → part.offset + part.length ≤ length (bytes s (birth_at h part.address)) → slice_get
    (bytes s (birth_at h part.address)) (part.offset + index) ≡ Some byte)
    → (found : Word) → ((births : ℕ → ℕ) (names : List (List ℕ)) → value_of births names found
    ≡ integer (pos byte)) → IsPlain found → new ≡ found ∷ drop 2 old
    → Observes string_get_row (Ok tt) h old new
get_done h old new key string tops part string_is part_within number number_is readable index
    index_is byte read found found_is plain is =
    subst (Observes string_get_row (Ok tt) h old) (sym is) (observes_leaves string_get_row h old
    (found ∷ drop 2 old) (λ names s shows within. (
      ap (λ ws. string_get_row s (values_in h names ws)) (first_two_split old key string tops)
          ∙ (get_row-is s (value_of (birth_at h) names key) (value_of (birth_at h) names string)
          (values_in h names (drop 2 old)) (part_of (birth_at h) part) number index byte
          (string_is (birth_at h) names) (number_is (birth_at h) names) readable (sym index_is)
          (read names s shows (part_within (birth_at h) names s (second_held (IsWithin
          (birth_at h) names s) old within key string tops)))
          ∙ ap (λ v. leaves (v ∷ values_in h names (drop 2 old))) (sym (found_is
          (birth_at h) names))),
      (
        plain_within (birth_at h) names s found plain,
        rest_held (IsWithin
            (birth_at h) names s) old within 2,
      ),
    )))
