-- Procedures of tokens: the room that their objects take, and the list that they are put together
-- in.
use Rattle.std.specs.Prelude.{◌≡◌, ℕ, ◌+◌, ◌/◌, ◌^◌, ◌++◌, nat_lt, List, length, map, if◌then◌else◌}
use Rattle.ps_language.specs.StepValues.{Turn, tries}
use Rattle.ps_language.specs.Token.{Token, Tokens, number_token, literal_name_token}
use Rattle.ps_language.specs.Token.{executable_name_token, immediate_name_token, string_token}
use Rattle.ps_language.specs.Token.{procedure_token, no_tokens, more_tokens}
use Rattle.ps_ops_state.specs.Acts.{Asked, no_rooms}
use Rattle.ps_scan.specs.declared.tokens.TokenKind.{TokenKind}
use Rattle.ps_scan.specs.Shown.{elements_in, token_of}

-- the tokens of a text
abbrev pub tokens_in : (text : List ℕ) → List TokenKind → Tokens
tokens_in text kinds = elements_in (map (token_of text) kinds)

-- one of them
abbrev pub token_in : (text : List ℕ) → TokenKind → Tokens
token_in text kind = more_tokens (token_of text kind) no_tokens

-- ---- room

abbrev mutual
  -- the words of the strings and arrays that a token makes, two of header each
  pub token_words : Token → ℕ
  token_words (number_token number) = 0
  token_words (literal_name_token text) = 0
  token_words (executable_name_token text) = 0
  token_words (immediate_name_token text) = 0
  token_words (string_token bytes) = 2 + (length bytes + 7) / 8
  token_words (procedure_token elements) = 2 + element_words elements

  -- a word for each element, and the words of what it makes
  pub element_words : Tokens → ℕ
  element_words no_tokens = 0
  element_words (more_tokens token rest) = 1 + token_words token + element_words rest

abbrev mutual
  -- how many strings and arrays a token makes, and how many its elements make
  pub token_births : Token → ℕ
  token_births (number_token number) = 0
  token_births (literal_name_token text) = 0
  token_births (executable_name_token text) = 0
  token_births (immediate_name_token text) = 0
  token_births (string_token bytes) = 1
  token_births (procedure_token elements) = 1 + element_births elements

  pub element_births : Tokens → ℕ
  element_births no_tokens = 0
  element_births (more_tokens token rest) = token_births token + element_births rest

-- the words and the birth numbers of a procedure's objects, its own and those within it
abbrev pub procedure_words : Tokens → ℕ
procedure_words elements = 2 + element_words elements

abbrev pub procedure_births : Tokens → ℕ
procedure_births elements = 1 + element_births elements

-- ---- the list that its words are put together in

-- the words that it must hold; what is past 32 bits no list holds
abbrev pub listed : ℕ → ℕ
listed words = if nat_lt words (2 ^ 32) then words else 2 ^ 64

-- where objects are made, so many words
abbrev pub list_asks : (words : ℕ) → Turn → Asked
list_asks words (tries command kept scene output) =
    record { records = 0; scratch = record no_rooms { words = listed words } }
list_asks words turn = record { records = 0; scratch = no_rooms }

-- ---- names

-- names are only added
abbrev pub IsMore : (old new : List (List ℕ)) → Type 0
IsMore old new = (more : List (List ℕ)) × (new ≡ old ++ more)
