-- What the operators that change strings and arrays ask for, and why they are not made.
use Rattle.std.specs.Prelude.{ℕ, ◌+◌, min, List, ◌∷◌, vec_capacity}
use Rattle.ps_language.specs.Value.{What, integer_value, array_value, string_value, dictionary_value, Value}
use Rattle.ps_ops_sequences.specs.ArrayRows.{count_in}
use Rattle.ps_language.specs.Readers.{as_string}
use Rattle.ps_language.specs.Effect.{Scene}
use Rattle.ps_mem.specs.Heap.{Grants}
use Rattle.ps_mem.specs.References.{words_for}
use Rattle.ps_ops_operands.specs.declared.failure.NotMade.{NotMade}
use Rattle.ps_ops_operands.specs.Changes.{IsRecordReason}
use Rattle.ps_ops_sequences.specs.Copies.{IsCopyReason}
use Rattle.ps_ops_state.specs.declared.lent.Scratch.{Scratch}
use Rattle.ps_ops_state.specs.Acts.{Asked, no_rooms}
use Rattle.ps_ops_sequences.specs.declared.pairs.Sequence.{Sequence}
use Rattle.ps_ops_sequences.specs.declared.pairs.Sequence.TheVariants.{Arrays, Strings}

-- so many elements are stored as they lie; bytes are read first, and then the words that have them
abbrev pub asked_for : Sequence → (count : ℕ) → Asked
asked_for Arrays count = record { records = min 1 count; scratch = no_rooms }
asked_for Strings count = record {
  records = min 1 count;
  scratch = record { text = count; sought = 0; words = words_for (count + 7) };
}

-- why so many are not stored
abbrev pub IsStoreReason : Sequence → (count : ℕ) → Scratch → (slot : ℕ) → (asked left : Grants)
    → NotMade → Type 0
IsStoreReason Arrays count scratch slot asked left reason =
    IsRecordReason reason (min 1 count) slot asked left
IsStoreReason Strings count scratch slot asked left reason =
    IsCopyReason reason (vec_capacity scratch.text) (vec_capacity scratch.words) count slot asked
    left

-- ---- by the operands

-- of what is copied
abbrev pub asked_in : What → Asked
asked_in (array_value part) = asked_for Arrays part.count
asked_in (string_value part) = asked_for Strings part.count
asked_in _ = record { records = 0; scratch = no_rooms }

abbrev pub asked_first : List Value → Asked
asked_first (x ∷ rest) = asked_in x.what
asked_first _ = record { records = 0; scratch = no_rooms }

-- putinterval copies the topmost
abbrev pub putinterval_asks : Scene → Asked
putinterval_asks scene = asked_first scene.operands

-- by what is topmost: a number of operands is copied within the stack
abbrev pub copy_asked : What → List Value → Asked
copy_asked (integer_value _) rest = record { records = 0; scratch = no_rooms }
copy_asked _ rest = asked_first rest

abbrev pub copy_asked_by : List Value → Asked
copy_asked_by (y ∷ rest) = copy_asked y.what rest
copy_asked_by _ = record { records = 0; scratch = no_rooms }

-- copy copies the second
abbrev pub copy_asks : Scene → Asked
copy_asks scene = copy_asked_by scene.operands

-- a dictionary's access is stored in its object
abbrev pub reduced_in : What → Asked
reduced_in (dictionary_value _) = record { records = 1; scratch = no_rooms }
reduced_in _ = record { records = 0; scratch = no_rooms }

abbrev pub reduced_first : List Value → Asked
reduced_first (x ∷ rest) = reduced_in x.what
reduced_first _ = record { records = 0; scratch = no_rooms }

-- readonly and noaccess reduce the topmost
abbrev pub reduce_asks : Scene → Asked
reduce_asks scene = reduced_first scene.operands

-- both strings are read
abbrev pub search_asked : List Value → Asked
search_asked (y ∷ x ∷ rest) = record {
  records = 0;
  scratch = record {
    text = count_in (as_string x);
    sought = count_in (as_string y);
    words = 0;
  };
}
search_asked _ = record { records = 0; scratch = no_rooms }

-- search looks for the topmost in the second
abbrev pub search_asks : Scene → Asked
search_asks scene = search_asked scene.operands
