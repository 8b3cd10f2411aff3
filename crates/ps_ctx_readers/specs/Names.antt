-- Under which name a context has a procedure (PLRM2, 3.7).
use Rattle.std.specs.Prelude.{ℕ, ◌&&◌, ◌==◌, Bool, false, Option, Some, None, List, [], ◌∷◌, if◌then◌else◌}
use Rattle.std.specs.Option.{option_map_or, option_or}
use Rattle.ps_language.specs.Access.{dictionary_at}
use Rattle.ps_language.specs.Contexts.{context_at}
use Rattle.ps_language.specs.Control.{as_procedure}
use Rattle.ps_language.specs.StepValues.{name_in}
use Rattle.ps_language.specs.Readers.{as_dictionary}
use Rattle.ps_language.specs.Value.{Value, Store}
use Rattle.ps_language.specs.World.{World}

-- a procedure of this object
abbrev pub is_of : (birth : ℕ) → Value → Bool
is_of birth value = option_map_or (λ part. part.birth == birth) (as_procedure value) false

-- a name with such a procedure
abbrev pub names_it : (birth : ℕ) → Value × Value → Bool
names_it birth pair = name_in pair.0.what && is_of birth pair.1

-- the first such name
abbrev pub name_among : (birth : ℕ) → List (Value × Value) → Option Value
name_among birth [] = None
name_among birth (pair ∷ rest) =
    if names_it birth pair then Some pair.0 else name_among birth rest

-- the pairs of what stands on the dictionary stack
abbrev pub pairs_in : Store → Value → List (Value × Value)
pairs_in store value =
    option_map_or (λ birth. (dictionary_at store birth).pairs) (as_dictionary value) []

-- the first from the top down
abbrev pub name_through : Store → (birth : ℕ) → (dictionaries : List Value) → Option Value
name_through store birth [] = None
name_through store birth (one ∷ below) =
    option_or (name_among birth (pairs_in store one)) (name_through store birth below)

-- the name under which a context has a procedure, if it has one
abbrev pub procedure_name : World → (context birth : ℕ) → Option Value
procedure_name now context birth = option_map_or
    (λ one. name_through now.store birth one.dictionaries) (context_at now context) None
