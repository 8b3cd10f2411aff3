-- Why a copy of bytes is not made: for want of a record, or of memory.
use Rattle.std.specs.Prelude.{◌⊎◌, ℕ, ◌+◌, ◌<◌, min}
use Rattle.ps_mem.specs.Heap.{Grants}
use Rattle.ps_mem.specs.References.{words_for}
use Rattle.ps_ops_operands.specs.declared.failure.NotMade.{NotMade}
use Rattle.ps_ops_operands.specs.Changes.{records_asked, no_words, IsReasonFor}

-- why it is not made: as a step that stores so many bytes; or the list into which they are read is
-- too small for them, or that of the words that have them
abbrev pub IsCopyReason : NotMade → (room words_room count slot : ℕ) → (asked left : Grants)
    → Type 0
IsCopyReason reason room words_room count slot asked left =
    IsReasonFor (records_asked (min 1 count) slot asked left) no_words
    ((room < count) ⊎ (words_room < words_for (count + 7))) reason
