-- When a text was read as far as it may be, and why one is not written.
use Rattle.std.specs.Prelude.{◌≡◌, ℕ, ◌+◌, ◌<◌, ◌≤◌, min, List, Result, Ok, Err, length}
use Rattle.ps_mem.specs.Heap.{Grants}
use Rattle.ps_mem.specs.References.{words_for}
use Rattle.ps_ops_operands.specs.declared.failure.NotMade.{NotMade}
use Rattle.ps_ops_operands.specs.Changes.{records_asked, no_words, IsReasonFor}
use Rattle.ps_ops_values.specs.declared.texts.TextFault.{TextFault}
use Rattle.ps_ops_values.specs.declared.texts.TextFault.TheVariants.{TooLong, Memory as NoMemory}

-- most: how many bytes it may have; room: those that fit the list; read: what was read
abbrev pub ReadsText : Result Unit TextFault → (most room : ℕ) → (read text : List ℕ) → Type 0
ReadsText (Ok _) most room read text = read ≡ text
ReadsText (Err TooLong) most room read text = most < length text
ReadsText (Err NoMemory) most room read text = (length text ≤ most) × (room < length text)

-- words_room: how many words fit the list of those that have the bytes
abbrev pub IsTextReason : NotMade → (count words_room slot : ℕ) → (asked left : Grants) → Type 0
IsTextReason reason count words_room slot asked left =
    IsReasonFor (records_asked (min 1 count) slot asked left) no_words
    (words_room < words_for (count + 7)) reason
