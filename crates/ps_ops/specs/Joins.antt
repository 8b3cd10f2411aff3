-- What operators on composite objects of several types ask for, by the type.
use Rattle.std.specs.Prelude.{Bool, false, is_some, List, ◌∷◌, if◌then◌else◌}
use Rattle.ps_ops_sequences.specs.ArrayRows.{one_stored}
use Rattle.ps_language.specs.Effect.{Scene}
use Rattle.ps_language.specs.Readers.{as_dictionary}
use Rattle.ps_language.specs.Value.{Value}
use Rattle.ps_ops_state.specs.Acts.{Asked, stores}
use Rattle.ps_ops_dictionaries.specs.Asks.{copy_asks as dictionary_copy_asks}
use Rattle.ps_ops_dictionaries.specs.Asks.{put_asks as dictionary_put_asks}
use Rattle.ps_ops_sequences.specs.Asks.{copy_asks as sequence_copy_asks}

-- whether the third operand is a dictionary
abbrev pub is_third_dictionary : (operands : List Value) → Bool
is_third_dictionary (x ∷ k ∷ d ∷ rest) = is_some (as_dictionary d)
is_third_dictionary operands = false

-- put, into a dictionary or into an array or a string
abbrev pub put_asks : Scene → Asked
put_asks scene =
    if is_third_dictionary scene.operands then dictionary_put_asks scene else
    stores one_stored scene

-- whether the topmost operand is a dictionary
abbrev pub is_first_dictionary : (operands : List Value) → Bool
is_first_dictionary (y ∷ rest) = is_some (as_dictionary y)
is_first_dictionary operands = false

-- copy, onto a dictionary or onto anything else
abbrev pub copy_asks : Scene → Asked
copy_asks scene =
    if is_first_dictionary scene.operands then dictionary_copy_asks scene else
    sequence_copy_asks scene
