-- The word as which a token is done, where it forms no name (PLRM2, 3.2.2, 3.5).
use Rattle.std.specs.Prelude.{◌≡◌, ℕ, Bool, true, false, List, Some}
use Rattle.std.specs.List.{list_any}
use Rattle.std.specs.Str.{bytes_eq}
use Rattle.ps_language.specs.Token.{Token, number_token, literal_name_token, executable_name_token}
use Rattle.ps_language.specs.Value.{name_value, Store}
use Rattle.ps_word.specs.declared.words.Word.{Word}
use Rattle.ps_mem.specs.Heap.{Heap}
use Rattle.ps_mem.specs.Meaning.{value_of}
use Rattle.ps_mem.specs.Shows.{IsValue, IsWithin}
use Rattle.ps_names.specs.Names.{place_of}
use Rattle.ps_ops_state.specs.Lent.{Lent}
use Rattle.ps_step_execute.specs.Values.{Asks, executed_asks, done_turn}
use Rattle.ps_step_tokens.specs.Tokens.{token_asks, token_turn}

-- the word of a name that was met
pub record IsMet (names : List (List ℕ)) (text : List ℕ) (executable : Bool) (word : Word) : Type 0
  where
    pub number : ℕ
    pub at : place_of text names ≡ Some number
    pub held : (heap : Heap) → IsValue heap word
    pub within : (births : ℕ → ℕ) (s : Store) → IsWithin births names s word
    pub means : (births : ℕ → ℕ) → value_of births names word
        ≡ record { what = name_value text; executable = executable }

-- a number, or a name that was met and doesn't stand behind //
abbrev pub has_word : (names : List (List ℕ)) → Token → Bool
has_word names (number_token number) = true
has_word names (literal_name_token text) = list_any (bytes_eq text) names
has_word names (executable_name_token text) = list_any (bytes_eq text) names
has_word names token = false

-- whatever is lent under these names, doing the token is doing the word as an element
pub record IsDoneAs (names : List (List ℕ)) (token : Token) (word : Word) : Type 0 where
  pub held : (heap : Heap) → IsValue heap word
  pub within : (births : ℕ → ℕ) (s : Store) → IsWithin births names s word
  pub turn : (l : Lent) (s : Store) → l.names ≡ names
      → token_turn token l s ≡ done_turn word word l s
  pub asked : (asks : Asks) (l : Lent) (s : Store) → l.names ≡ names
      → token_asks asks token l s ≡ executed_asks asks word l s
