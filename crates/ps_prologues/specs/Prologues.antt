-- The text of a definition that is put before a program (PLRM2, 3.2, 8 'def').
use Rattle.std.specs.Prelude.{◌≡◌, ◌≤◌, ◌<◌, ◌+◌, ◌/◌, ◌%◌, ◌^◌, ◌++◌, ℕ, List, [], ◌∷◌, length}
use Rattle.std.specs.Prelude.{true, nat_lt, codes, if◌then◌else◌}
use Rattle.std.specs.List.{AllByRecursion, flat_map}
use Rattle.std.specs.Fmt.{signed_decimal}
use Rattle.ps_language.specs.Bytes.{is_regular}
use Rattle.ps_language.specs.Limits.{name_limit, sequence_limit}
use Rattle.ps_language.specs.Reading.{fits_integer}
use Rattle.ps_language.specs.Scan.{scan}
use Rattle.ps_language.specs.Syntax.{EachIs}
use Rattle.ps_language.specs.Texts.{boolean_text}
use Rattle.ps_language.specs.Token.{Token, number_token, executable_name_token, string_token, found}
use Rattle.ps_prologues.specs.declared.definitions.DefinitionFault.{DefinitionFault}
use Rattle.ps_prologues.specs.declared.definitions.DefinitionFault.TheVariants.{BadName, TooLong, Memory}
use Rattle.ps_prologues.specs.declared.definitions.DefinedValue.{DefinedValue}
use Rattle.ps_prologues.specs.declared.definitions.DefinedValue.TheVariants.{Integer, Boolean, Text}

-- ---- what may be defined

-- the bytes of a name as a token has them: regular, and no more than a name has
pub record IsNameText (text : List ℕ) : Type 0 where
  pub each : EachIs is_regular text
  pub short : length text ≤ name_limit

-- a string that isn't too long (appendix B)
abbrev pub FitsLimit : DefinedValue → Type 0
FitsLimit (Integer number) = Unit {0}
FitsLimit (Boolean truth) = Unit {0}
FitsLimit (Text bytes) = length bytes.now ≤ sequence_limit

-- an integer of 32 bits, and bytes
abbrev pub IsDefinable : DefinedValue → Type 0
IsDefinable (Integer number) = fits_integer number ≡ true
IsDefinable (Boolean truth) = Unit {0}
IsDefinable (Text bytes) = AllByRecursion (λ b. b < 2 ^ 8) bytes.now

-- why there is no definition; or memory was refused to it
abbrev pub IsNoDefinition : (name : List ℕ) → DefinedValue → DefinitionFault → Type 0
IsNoDefinition name value BadName = ¬ IsNameText name
IsNoDefinition name value TooLong = IsNameText name × (¬ FitsLimit value)
IsNoDefinition name value Memory = IsNameText name × FitsLimit value

-- ---- its text

-- the digit of a number below 16: from 48 on 0 to 9, and from 97 on a to f
abbrev pub hex_digit : ℕ → ℕ
hex_digit n = if nat_lt n 10 then 48 + n else 87 + n

-- two digits for each byte
abbrev pub hex_pair : ℕ → List ℕ
hex_pair b = hex_digit (b / 16) ∷ hex_digit (b % 16) ∷ []

abbrev pub hex_text : List ℕ → List ℕ
hex_text bytes = flat_map hex_pair bytes

-- a string stands in angles, 60 and 62
abbrev pub value_text : DefinedValue → List ℕ
value_text (Integer number) = signed_decimal number
value_text (Boolean truth) = boolean_text truth
value_text (Text bytes) = 60 ∷ (hex_text bytes.now ++ 62 ∷ [])

-- /NAME VALUE def
abbrev pub definition_text : (name : List ℕ) → DefinedValue → List ℕ
definition_text name value =
    47 ∷ (name ++ 32 ∷ (value_text value ++ codes " def\n"))

-- ---- how it is read

-- the token of a value
abbrev pub value_token : DefinedValue → Token
value_token (Integer number) = number_token number
value_token (Boolean truth) = executable_name_token (boolean_text truth)
value_token (Text bytes) = string_token bytes.now

-- these are the next tokens from a place on, and the last one ends at this place
abbrev pub HasTokens : (bytes : List ℕ) → (at : ℕ) → List Token → (end : ℕ) → Type 0
HasTokens bytes at [] end = at ≡ end
HasTokens bytes at (token ∷ rest) end =
    (next : ℕ) × (scan bytes at ≡ found token next) × HasTokens bytes next rest end
