-- When what a search did is its row, or it was not made for want of memory.
use Rattle.std.specs.Prelude.{◌≡◌, ◌⊎◌, ℕ, ◌+◌, ◌-◌, ◌<◌, true, List, ◌∷◌, drop, Result}
use Rattle.ps_language.specs.Value.{Value, Store}
use Rattle.ps_language.specs.Outcome.{Outcome}
use Rattle.ps_language.specs.Readers.{as_string, boolean, part_at, with_part}
use Rattle.ps_ops_sequences.specs.ArrayRows.{count_in}
use Rattle.ps_word.specs.declared.words.Word.{Word}
use Rattle.ps_word.specs.declared.values.Part.{Part}
use Rattle.ps_mem.specs.Heap.{Heap}
use Rattle.ps_mem.specs.Meaning.{value_of, part_of}
use Rattle.ps_ops_operands.specs.Plain.{IsPlain}
use Rattle.ps_mem.specs.Shows.{IsValue, IsWithin, AreWithin, Shows}
use Rattle.ps_ops_operands.specs.declared.failure.Failure.{Failure}
use Rattle.ps_ops_operands.specs.Does.{Agrees}
use Rattle.ps_ops_operands.specs.Changes.{values_in, concluded_of, no_records, no_words, IsReasonFor}

-- a list into which bytes are read is too small for them: that of the string searched, or that of
-- the one sought, which is topmost
abbrev pub LacksRoom : (room sought_room : ℕ) → List Value → Type 0
LacksRoom room sought_room (y ∷ x ∷ rest) = (room < count_in (as_string x)) ⊎
    (sought_room < count_in (as_string y))
LacksRoom room sought_room _ = ⊥

-- the row; or a lack of memory where it leaves something, with the operands as they were
abbrev pub SearchesAs : (Lacks : Type 0) → Result Unit Failure → Outcome (List Value)
    → List (List ℕ) → Store → Heap → (before after : List Word) → Type 0
SearchesAs Lacks result outcome names store h before after =
    Agrees (λ operands. (values_in h names after ≡ operands) × AreWithin h names store after)
    (λ reason operands. IsReasonFor no_records no_words Lacks reason) (after ≡ before)
    (concluded_of result) outcome

-- for every store that the memory shows; room, sought_room: of the two lists into which the bytes
-- are read
pub record Searches (row : Store → List Value → Outcome (List Value)) (room sought_room : ℕ)
    (result : Result Unit Failure) (h : Heap) (before after : List Word) : Type 0 where
  pub meets : (names : List (List ℕ)) (store : Store) → Shows h names store
      → AreWithin h names store before →
      SearchesAs (LacksRoom room sought_room (values_in h names before)) result (row store
      (values_in h names before)) names store h before after

-- ---- what is pushed

-- the word of so many bytes of a string from a place on
pub record IsInterval (string : Word) (part : Part) (place count : ℕ) (w : Word) : Type 0 where
  pub value : (births : ℕ → ℕ) (names : List (List ℕ)) → value_of births names w ≡ with_part
      (value_of births names string) (part_at (part_of births part) place count)
  pub held : (h : Heap) → IsValue h string → IsValue h w
  pub within : (births : ℕ → ℕ) (names : List (List ℕ)) (store : Store)
      → IsWithin births names store string → IsWithin births names store w

-- in the place of two operands, what stands behind a match, the match, what stands before it, and
-- true
pub record IsFound (before : List Word) (string : Word) (part : Part) (place count : ℕ)
    (after : List Word) : Type 0 where
  pub truth : Word
  pub front : Word
  pub matched : Word
  pub behind : Word
  pub are : after ≡ truth ∷ front ∷ matched ∷ behind ∷ drop 2 before
  pub is_true : (births : ℕ → ℕ) (names : List (List ℕ)) → value_of births names truth
      ≡ boolean true
  pub plain : IsPlain truth
  pub front_is : IsInterval string part 0 place front
  pub matched_is : IsInterval string part place count matched
  pub behind_is : IsInterval string part (place + count) (part.length - (place + count)) behind
