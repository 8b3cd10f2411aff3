-- Two arrays or two strings, of which one is copied into the other.
use Rattle.std.specs.Prelude.{ℕ, ◌+◌, ◌≤◌, Option, length}
use Rattle.ps_language.specs.declared.kinds.Kind.TheVariants.{Array, Text}
use Rattle.ps_language.specs.Value.{Part as PartValue, Value, Store}
use Rattle.ps_language.specs.Readers.{as_array, as_string}
use Rattle.ps_language.specs.Access.{bytes, part_elements, part_bytes, with_part_elements, with_part_bytes}
use Rattle.ps_word.specs.declared.values.Part.{Part}
use Rattle.ps_word.specs.declared.values.Content.{Content}
use Rattle.ps_word.specs.Readers as words
use Rattle.ps_mem.specs.Heap.{Heap}
use Rattle.ps_mem.specs.References.{StandsAs, words_for}
use Rattle.ps_mem.specs.Meaning.{part_of}
use Rattle.ps_ops_sequences.specs.declared.pairs.Sequence.{Sequence}
use Rattle.ps_ops_sequences.specs.declared.pairs.Sequence.TheVariants.{Arrays, Strings}
use Rattle.ps_ops_sequences.specs.declared.pairs.SequencePair.{SequencePair}

-- the store after what one part holds was written into another from a place on
abbrev pub written : Sequence → Store → (from to : PartValue) → (place : ℕ) → Store
written Arrays store from to place =
    with_part_elements store to place (part_elements store from)
written Strings store from to place = with_part_bytes store to place (part_bytes store from)

-- the part of an array, or that of a string
abbrev pub read_as : Sequence → Value → Option PartValue
read_as Arrays x = as_array x
read_as Strings x = as_string x

-- ---- in memory

-- the same of a word
abbrev pub part_in : Sequence → Content → Option Part
part_in Arrays content = words.as_array content
part_in Strings content = words.as_text content

-- that a part stands in its object
abbrev pub StandsIn : Heap → Sequence → Part → Type 0
StandsIn h Arrays part = StandsAs h Array part.address (part.offset + part.length)
StandsIn h Strings part = StandsAs h Text part.address (words_for (part.offset + part.length))

pub record IsPair (h : Heap) (pair : SequencePair) : Type 0 where
  pub from : StandsIn h pair.of pair.from
  pub to : StandsIn h pair.of pair.to

-- that a part of a string lies within its bytes
abbrev pub LiesIn : (births : ℕ → ℕ) → Store → Sequence → Part → Type 0
LiesIn births store Arrays part = Unit {0}
LiesIn births store Strings part =
    part.offset + part.length ≤ length (bytes store (births part.address))

pub record IsPairWithin (births : ℕ → ℕ) (store : Store) (pair : SequencePair) : Type 0 where
  pub from : LiesIn births store pair.of pair.from
  pub to : LiesIn births store pair.of pair.to

-- the store after what the first of a pair holds was written into the second
abbrev pub pair_written : (births : ℕ → ℕ) → Store → SequencePair → (place : ℕ) → Store
pair_written births store pair place =
    written pair.of store (part_of births pair.from) (part_of births pair.to) place
