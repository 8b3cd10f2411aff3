-- What the operators that make arrays leave.
use Rattle.std.proofs.Common.{◌≡◌, ℕ, ◌+◌, ◌≤◌, List, [], ◌∷◌, ◌++◌, drop, take, length, replicate, true, Some, refl, sym, ap, arith, ◌∙◌}
use Rattle.std.specs.Prelude.{ℤ, reverse, nat_le}
use Rattle.std.proofs.lemmas.Bool.Decides.{nat_tests}
use Rattle.std.proofs.lemmas.List.{length-replicate, length-map, length-reverse, length-take-le, drop-map}
use Rattle.ps_language.specs.Value.{Value, Store, array_value, array_object}
use Rattle.ps_language.specs.Outcome.{Outcome, Change}
use Rattle.ps_language.specs.Objects.{making}
use Rattle.ps_language.specs.Readers.{literal, whole, null, as_integer, as_count}
use Rattle.ps_language.specs.RowsSequences.{array_row, end_array_row}
use Rattle.ps_language.specs.RowsStack.{split_at_mark}
use Rattle.ps_stacks.specs.Tops.{first_of}
use Rattle.ps_word.specs.declared.words.Word.{Word}
use Rattle.ps_word.specs.declared.values.Part.{Part}
use Rattle.ps_mem.specs.Heap.{Heap, birth_at}
use Rattle.ps_mem.specs.Meaning.{value_of, part_of}
use Rattle.ps_mem.specs.Shows.{IsWithin, AreWithin, Shows}
use Rattle.ps_ops_operands.specs.Marks.{IsMarkAt}
use Rattle.ps_ops_operands.specs.Changes.{values_in}
use Rattle.ps_ops_operands.proofs.Operands.{first_split}
use Rattle.ps_ops_operands.proofs.Making.{whole_part, part_of-whole, MakesObject, IsMaking}

-- the row makes an array of these elements above these operands
pub record MakesElements (row : Store → List Value → Outcome Change) (h : Heap) (count : ℕ)
    (old rest : List Word) (elements : List Value) (names : List (List ℕ)) (s : Store) : Type 0
  where
    pub is : row s (values_in h names old)
        ≡ making (array_object elements) (values_in h names rest) s
    pub count_is : length elements ≡ count

-- so it asks for their words and two more
pub making_elements : (row : Store → List Value → Outcome Change) (h : Heap) (count : ℕ)
    (old rest : List Word) (elements : List Value) (names : List (List ℕ)) (s : Store)
    → MakesElements row h count old rest elements names s
    → IsMaking row h (2 + count) old names s
making_elements row h count old rest elements names s m = record {
  object = array_object elements;
  rest = values_in h names rest;
  is = m.is;
  size = ap (λ n. 2 + n) m.count_is;
}

-- and the word of all of a new array refers to it
module _ (h now : Heap) (old rest : List Word) (w : Word) (part : Part) (count : ℕ)
    (part_is : part ≡ whole_part part.address count) (birth : birth_at now part.address ≡ h.next)
    (value_is : (births : ℕ → ℕ) (names : List (List ℕ))
    → value_of births names w ≡ literal (array_value (part_of births part)))
    (word_within : (births : ℕ → ℕ) (names : List (List ℕ)) (s : Store)
    → IsWithin births names s w) where
  pub made_elements : (row : Store → List Value → Outcome Change) (elements : List Value)
      (names : List (List ℕ)) (s : Store) → Shows h names s → AreWithin h names s rest
      → MakesElements row h count old rest elements names s
      → Shows now names (s ++ array_object elements ∷ [])
      → MakesObject row h now old rest w names s
  made_elements row elements names s shows within m shown = record {
    object = array_object elements;
    is = m.is;
    reference =
        value_is (birth_at now) names
        ∙ (ap (λ p. literal (array_value p))
        (part_of-whole (birth_at now) part count (length s) part_is (birth ∙ shows.next))
        ∙ ap (λ n. literal (array_value (whole (length s) n))) (sym m.count_is));
    word_within = word_within (birth_at now) names (s ++ array_object elements ∷ []);
    within = within;
    shows = shown;
  }

-- ---- array

array_row-is : (s : Store) (k : Value) (rest : List Value) (i : ℤ) (n : ℕ) → as_integer k ≡ Some i
    → as_count i ≡ Some n → nat_le n 65535 ≡ true
    → array_row s (k ∷ rest) ≡ making (array_object (replicate n null)) rest s
array_row-is s k rest i n number count limit = rw (number, count, limit) refl

pub array_makes : (h : Heap) (old : List Word) (top : Word) (number : ℤ) (n : ℕ)
    → Some top ≡ first_of old
    → ((births : ℕ → ℕ) (names : List (List ℕ))
    → as_integer (value_of births names top) ≡ Some number) → Some n ≡ as_count number
    → n ≤ 65535 → (names : List (List ℕ)) (s : Store)
    → MakesElements array_row h n old (drop 1 old) (replicate n null) names s
array_makes h old top number n first number_is count limit names s =
    let few : nat_le n 65535 ≡ true = grind (arith, nat_tests) in
    record {
      is =
          ap (λ ws. array_row s (values_in h names ws)) (first_split old top first)
          ∙ array_row-is s (value_of (birth_at h) names top) (values_in h names (drop 1 old)) number
          n (number_is (birth_at h) names) (sym count) few;
      count_is = length-replicate n null;
    }

-- ---- `]`

end_row-is : (s : Store) (operands above below : List Value)
    → split_at_mark operands ≡ Some (above, below)
    → end_array_row s operands ≡ making (array_object (reverse above)) below s
end_row-is s operands above below split = rw split refl

-- what stands above the mark, as the elements of an array
abbrev pub elements_above : Heap → List Word → ℕ → List (List ℕ) → List Value
elements_above h old depth names = reverse (take depth (values_in h names old))

pub end_makes : (h : Heap) (old : List Word) (depth : ℕ) → IsMarkAt old depth
    → depth ≤ length old → (names : List (List ℕ)) (s : Store)
    → MakesElements end_array_row h depth old (drop (depth + 1) old)
    (elements_above h old depth names) names s
end_makes h old depth mark few names s =
    let values : List Value = values_in h names old in
    record {
      is =
          end_row-is s values (take depth values) (drop (depth + 1) values)
          (mark.splits (birth_at h) names)
          ∙ ap (λ vs. making (array_object (reverse (take depth values))) vs s)
          (drop-map (value_of (birth_at h) names) (depth + 1) old);
      count_is = length-reverse (take depth values)
          ∙ length-take-le depth values
          (omega (arith, few, length-map old (value_of (birth_at h) names)));
    }
