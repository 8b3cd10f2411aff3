-- The objects of a procedure, once its names are met.
use Rattle.std.specs.Prelude.{◌≡◌, ℕ, Bool, true, Some, List, [], ◌∷◌, slice_get}
use Rattle.std.specs.List.{AllByRecursion, list_any}
use Rattle.std.specs.Str.{bytes_eq}
use Rattle.ps_language.specs.StepTokens.{Made, elements_made, look_in, made_turn, named, names_in}
use Rattle.ps_language.specs.StepTokens.{procedure_made}
use Rattle.ps_language.specs.StepValues.{LookedUp, Turn}
use Rattle.ps_language.specs.Token.{Token, Tokens, no_tokens, more_tokens}
use Rattle.ps_language.specs.Value.{Store}
use Rattle.ps_word.specs.declared.words.Word.{Word}
use Rattle.ps_word.specs.declared.values.Content.TheVariants.{Name}
use Rattle.ps_word.specs.Format.{value_in, IsWord}
use Rattle.ps_mem.specs.Heap.{Heap, birth_at}
use Rattle.ps_mem.specs.Keeps.{Extends}
use Rattle.ps_mem.specs.Meaning.{value_of}
use Rattle.ps_mem.specs.Shows.{AreWithin, IsSound, IsValue, IsWithin, Shows}
use Rattle.ps_ops_state.specs.Acts.{Asked}
use Rattle.ps_ops_state.specs.Lent.{Lent, scene_of}
use Rattle.ps_step_tokens.specs.Missing.{look_by}
use Rattle.ps_step_tokens.specs.Procedures.{list_asks, procedure_words}

-- these texts were met
abbrev pub AreMet : (names : List (List ℕ)) → List (List ℕ) → Type 0
AreMet names texts = AllByRecursion (λ text. list_any (bytes_eq text) names ≡ true) texts

-- the word of the name of a text
pub record IsMetWord (names : List (List ℕ)) (text : List ℕ) (executable : Bool) (w : Word)
    : Type 0 where
  pub number : ℕ
  pub is : value_in w.0 ≡ record { content = Name number; executable = executable }
  pub word : IsWord w.0
  pub stands : slice_get names number ≡ Some text

-- a procedure, and an element
abbrev pub whole_made : Tokens → (List ℕ → LookedUp) → Store → Made
whole_made elements look s = procedure_made (elements_made look elements s)

abbrev pub one_made : Token → (List ℕ → LookedUp) → Store → Made
one_made token look s = elements_made look (more_tokens token no_tokens) s

-- The word is in its memory what was made, and whatever store was shown is shown as what was made
-- left it; all that stood stands as it was
pub record IsMade (make : (List ℕ → LookedUp) → Store → Made) (names : List (List ℕ))
    (dictionaries : List Word) (old new : Heap) (word : Word) : Type 0 where
  pub sound : IsSound new
  pub extends : Extends old new
  pub held : IsValue new word
  pub shows : (s : Store) → Shows old names s → AreWithin old names s dictionaries
      → Shows new names (make (look_by old names dictionaries s) s).store
  pub within : (s : Store) → Shows old names s
      → AreWithin old names s dictionaries
      → IsWithin (birth_at new) names (make (look_by old names dictionaries s) s).store word
  pub value : (s : Store) → Shows old names s → AreWithin old names s dictionaries
      → (make (look_by old names dictionaries s) s).values
      ≡ value_of (birth_at new) names word ∷ []

-- once its names are met they are made, and the procedure becomes an operand
abbrev pub formed_turn : Tokens → Lent → Store → Turn
formed_turn elements l s =
    made_turn (scene_of l s) (whole_made elements (look_in (scene_of l s)) s)

abbrev pub formed_asks : Tokens → Lent → Store → Asked
formed_asks elements l s = list_asks (procedure_words elements) (formed_turn elements l s)

-- its names are met first
abbrev pub named_turn : Tokens → Lent → Store → Turn
named_turn elements l s =
    named (names_in elements) (scene_of l s) (λ formed.
    made_turn formed (whole_made elements (look_in formed) formed.store))

abbrev pub named_asks : Tokens → Lent → Store → Asked
named_asks elements l s = list_asks (procedure_words elements) (named_turn elements l s)
