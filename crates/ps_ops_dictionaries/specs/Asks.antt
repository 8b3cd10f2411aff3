-- What the operators on dictionaries ask for: records, and room in which words are put together.
use Rattle.std.specs.Prelude.{ℕ, Option, Some, None, List, ◌∷◌, length}
use Rattle.ps_language.specs.Access.{dictionary_at}
use Rattle.ps_language.specs.Dictionaries.{current, look_up}
use Rattle.ps_language.specs.Effect.{Scene}
use Rattle.ps_language.specs.Equality.{key_of}
use Rattle.ps_language.specs.Outcome.{Outcome, leaves, fails}
use Rattle.ps_language.specs.Readers.{as_dictionary}
use Rattle.ps_language.specs.RowsDictionaries.{storing_place}
use Rattle.ps_language.specs.RowsStack.{split_at_mark}
use Rattle.ps_language.specs.Value.{Value, Dictionary}
use Rattle.ps_dict.specs.Merges as merges
use Rattle.ps_dict.specs.Merges.{merge_planned, merge_room_of}
use Rattle.ps_dict.specs.Places.{first_place}
use Rattle.ps_dict.specs.Puts.{planned, records_of}
use Rattle.ps_dict.specs.Removals.{removal_records}
use Rattle.ps_ops_state.specs.Acts.{Asked, no_rooms, nothing_asked}

-- ---- puts

-- of this key into the dictionary of this birth number
abbrev pub put_asked : Scene → Option ℕ → Value → Asked
put_asked scene (Some birth) k = record {
  records = records_of (planned (dictionary_at scene.store birth) (key_of scene.store k));
  scratch = no_rooms;
}
put_asked scene None k = nothing_asked scene

-- into this dictionary
abbrev pub asked_into : Scene → Option Value → Value → Asked
asked_into scene (Some d) k = put_asked scene (as_dictionary d) k
asked_into scene None k = nothing_asked scene

-- put, into the third operand
abbrev pub put_asked_by : Scene → (operands : List Value) → Asked
put_asked_by scene (x ∷ k ∷ d ∷ rest) = asked_into scene (Some d) k
put_asked_by scene operands = nothing_asked scene

abbrev pub put_asks : Scene → Asked
put_asks scene = put_asked_by scene scene.operands

-- def, into the current dictionary
abbrev pub def_asked_by : Scene → (operands : List Value) → Asked
def_asked_by scene (x ∷ k ∷ rest) = asked_into scene (current scene.dictionaries) k
def_asked_by scene operands = nothing_asked scene

abbrev pub def_asks : Scene → Asked
def_asks scene = def_asked_by scene scene.operands

-- store, into that where the key was found
abbrev pub asked_where : Scene → Outcome (Option (Value × Value)) → Value → Asked
asked_where scene (leaves found) k = asked_into scene (storing_place found scene.dictionaries) k
asked_where scene (fails error) k = nothing_asked scene

abbrev pub store_asked_by : Scene → (operands : List Value) → Asked
store_asked_by scene (x ∷ k ∷ rest) =
    asked_where scene (look_up scene.store scene.dictionaries (key_of scene.store k)) k
store_asked_by scene operands = nothing_asked scene

abbrev pub store_asks : Scene → Asked
store_asks scene = store_asked_by scene scene.operands

-- ---- removals

-- of the pair at this place; the index of the others is put together outside
abbrev pub removal_asked : Dictionary → Option ℕ → Asked
removal_asked d (Some place) = record {
  records = removal_records (length d.pairs) place;
  scratch = record no_rooms { words = d.capacity };
}
removal_asked d None = record { records = 0; scratch = no_rooms }

-- of this key from the dictionary of this birth number
abbrev pub undef_asked : Scene → Option ℕ → Value → Asked
undef_asked scene (Some birth) k =
    removal_asked (dictionary_at scene.store birth)
    (first_place (dictionary_at scene.store birth).pairs (key_of scene.store k))
undef_asked scene None k = nothing_asked scene

abbrev pub undef_asked_by : Scene → (operands : List Value) → Asked
undef_asked_by scene (k ∷ d ∷ rest) = undef_asked scene (as_dictionary d) k
undef_asked_by scene operands = nothing_asked scene

abbrev pub undef_asks : Scene → Asked
undef_asks scene = undef_asked_by scene scene.operands

-- ---- copies

-- of the pairs of one dictionary into another; they are put together outside
abbrev pub merge_asked : (to from : Dictionary) → Asked
merge_asked to from = record {
  records = merges.records_of (merge_planned to from);
  scratch = record no_rooms { words = merge_room_of to from };
}

-- of the dictionaries of these birth numbers
abbrev pub copy_asked : Scene → (to from : Option ℕ) → Asked
copy_asked scene (Some to) (Some from) =
    merge_asked (dictionary_at scene.store to) (dictionary_at scene.store from)
copy_asked scene to from = nothing_asked scene

abbrev pub copy_asked_by : Scene → (operands : List Value) → Asked
copy_asked_by scene (y ∷ x ∷ rest) = copy_asked scene (as_dictionary y) (as_dictionary x)
copy_asked_by scene operands = nothing_asked scene

abbrev pub copy_asks : Scene → Asked
copy_asks scene = copy_asked_by scene scene.operands

-- ---- what stands above a mark

-- its words are put together outside
abbrev pub end_dict_asked : Option (List Value × List Value) → Asked
end_dict_asked (Some parts) =
    record { records = 0; scratch = record no_rooms { words = length parts.0 } }
end_dict_asked None = record { records = 0; scratch = no_rooms }

abbrev pub end_dict_asks : Scene → Asked
end_dict_asks scene = end_dict_asked (split_at_mark scene.operands)
