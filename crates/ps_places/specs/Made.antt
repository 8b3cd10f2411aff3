-- What stands at places of a text, and what was made of it.
use Rattle.std.specs.Prelude.{◌≡◌, ℕ, ⊤, List, [], ◌∷◌}
use Rattle.ps_language.specs.Scan.{scan}
use Rattle.ps_language.specs.StepTokens.{Made, string_made, procedure_made, elements_made}
use Rattle.ps_language.specs.StepValues.{LookedUp}
use Rattle.ps_language.specs.Token.{Token, Tokens, no_tokens, more_tokens, found, string_token}
use Rattle.ps_language.specs.Token.{procedure_token, number_token, literal_name_token}
use Rattle.ps_language.specs.Token.{executable_name_token, immediate_name_token}
use Rattle.ps_language.specs.Value.{Object, array_object, string_object, dictionary_object}
use Rattle.ps_language.specs.Value.{lock_object, condition_object, Store}

-- ---- tokens

-- the token is read at a place
abbrev pub IsReadAt : (text : List ℕ) (place : ℕ) → Token → Type 0
IsReadAt text place token = (end : ℕ) × (scan text place ≡ found token end)

-- each of these tokens is so at its place, and there are as many places
abbrev pub Stand : (IsSo : ℕ → Token → Type 0) → List ℕ → Tokens → Type 0
Stand IsSo [] no_tokens = ⊤
Stand IsSo [] (more_tokens _ _) = ⊥
Stand IsSo (place ∷ places) no_tokens = ⊥
Stand IsSo (place ∷ places) (more_tokens token rest) = IsSo place token × Stand IsSo places rest

abbrev pub StandAt : (text : List ℕ) → List ℕ → Tokens → Type 0
StandAt text = Stand (IsReadAt text)

-- ---- objects

-- what a token makes
abbrev pub token_made : (List ℕ → LookedUp) → Token → Store → Made
token_made look (number_token _) store = record { values = []; store = store }
token_made look (literal_name_token _) store = record { values = []; store = store }
token_made look (executable_name_token _) store = record { values = []; store = store }
token_made look (immediate_name_token _) store = record { values = []; store = store }
token_made look (string_token text) store = string_made text store
token_made look (procedure_token elements) store =
    procedure_made (elements_made look elements store)

-- the object is made of the token at a place: a string of its bytes, or an array of the values of
-- its elements
abbrev pub IsMadeAt : (List ℕ → LookedUp) → (text : List ℕ) (place : ℕ) → Object → Type 0
IsMadeAt look text place (string_object bytes) = IsReadAt text place (string_token bytes)
IsMadeAt look text place (array_object values) = (elements : Tokens) × (store : Store)
    × (values ≡ (elements_made look elements store).values)
    × IsReadAt text place (procedure_token elements)
IsMadeAt look text place (dictionary_object _) = ⊥
IsMadeAt look text place (lock_object _) = ⊥
IsMadeAt look text place condition_object = ⊥

-- each of these objects is made of the token at its place, and there are as many places
abbrev pub AreMadeAt : (List ℕ → LookedUp) → (text : List ℕ) → List ℕ → List Object → Type 0
AreMadeAt look text [] [] = ⊤
AreMadeAt look text [] (object ∷ objects) = ⊥
AreMadeAt look text (place ∷ places) [] = ⊥
AreMadeAt look text (place ∷ places) (object ∷ objects) =
    IsMadeAt look text place object × AreMadeAt look text places objects
