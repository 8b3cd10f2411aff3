-- When what an operator did to operands and memory is its row.
use Rattle.std.specs.Prelude.{◌≡◌, ◌≢◌, ℕ, ◌+◌, ◌-◌, ◌<◌, ◌≤◌, min, Bool, true, false, IsTrue, List, length, map, Result, Ok, Err, if◌then◌else◌}
use Rattle.ps_language.specs.declared.errors.ErrorName.{ErrorName}
use Rattle.ps_language.specs.declared.errors.ErrorName.TheVariants.{VmError}
use Rattle.ps_language.specs.Value.{Value, Store}
use Rattle.ps_language.specs.Objects.{lacks_room, made_between}
use Rattle.ps_language.specs.Outcome.{Outcome, leaves, fails, Change}
use Rattle.ps_word.specs.declared.words.Word.{Word}
use Rattle.ps_ops_operands.specs.Does.{Conclusion, did, raised, unmade, Agrees, AgreesMade}
use Rattle.ps_mem.specs.Heap.{Heap, Grants, birth_at, has_room}
use Rattle.ps_mem.specs.Meaning.{value_of}
use Rattle.ps_mem.specs.Shows.{AreWithin, Shows}
use Rattle.ps_ops_operands.specs.declared.failure.NotMade.{NotMade}
use Rattle.ps_ops_operands.specs.declared.failure.NotMade.TheVariants.{LogFull, LogClosed, NeedSpace, Memory}
use Rattle.ps_ops_operands.specs.declared.failure.Failure.{Failure}
use Rattle.ps_ops_operands.specs.declared.failure.Failure.TheVariants.{Error, NotMade as NotMadeOf}

-- what words stand for in a memory, under the names met
abbrev pub values_in : Heap → List (List ℕ) → List Word → List Value
values_in h names words = map (value_of (birth_at h) names) words

-- ---- operators that only read memory

-- the operands that the row leaves, or its error with the operands as they were
abbrev pub ObservesAs : Result Unit ErrorName → Outcome (List Value) → List (List ℕ) → Store → Heap
    → (before after : List Word) → Type 0
ObservesAs result outcome names store h before after =
    AgreesMade (λ operands. (values_in h names after ≡ operands) × AreWithin h names store after)
    (after ≡ before) result outcome

-- for every store that the memory shows, the operator did what its row says
pub record Observes (row : Store → List Value → Outcome (List Value))
    (result : Result Unit ErrorName) (h : Heap) (before after : List Word) : Type 0 where
  pub meets : (names : List (List ℕ)) (store : Store) → Shows h names store
      → AreWithin h names store before →
      ObservesAs result (row store (values_in h names before)) names store h before after

-- ---- operators that change memory

-- memory and operands show what a row left
pub record IsLeft (change : Change) (names : List (List ℕ)) (h : Heap) (words : List Word) : Type 0
  where
    pub operands : values_in h names words ≡ change.operands
    pub store : Shows h names change.store
    pub within : AreWithin h names change.store words

abbrev pub concluded_of : Result Unit Failure → Conclusion NotMade
concluded_of (Ok _) = did
concluded_of (Err (Error error)) = raised error
concluded_of (Err (NotMadeOf reason)) = unmade reason

-- what the row leaves, or its error with memory and operands as they were, or a reason with both as
-- they were
abbrev pub ChangesAs : (IsReason : NotMade → Change → Type 0) → Result Unit Failure
    → Outcome Change → List (List ℕ) → (old new : Heap) → (before after : List Word) → Type 0
ChangesAs IsReason result outcome names old new before after =
    Agrees (λ change. IsLeft change names new after) IsReason ((new ≡ old) × (after ≡ before))
    (concluded_of result) outcome

-- the logs of other slots are as they were, no cycle and no log was closed or opened; at most so
-- many records were put into its own log, and at most so many used up
pub record KeepsLogsWithin (most : ℕ) (old new : Grants) (slot : ℕ) : Type 0 where
  pub cycle_open : new.cycle_open ≡ old.cycle_open
  pub closed : new.closed ≡ old.closed
  pub others : (s : ℕ) → s ≢ slot → new.records s ≡ old.records s
  pub used : old.records slot ≤ new.records slot + most
  pub kept : old.put slot ≤ new.put slot
  pub put : new.put slot ≤ old.put slot + most
  pub put_no_other : (s : ℕ) → s ≢ slot → new.put s ≡ old.put s

-- the most records of a step
abbrev pub most_records : ℕ
most_records = 5

-- of any step
abbrev pub KeepsLogs : (old new : Grants) → (slot : ℕ) → Type 0
KeepsLogs old new slot = KeepsLogsWithin most_records old new slot

-- of these records, how many what came to this may put and use up: none by what did nothing
abbrev pub spent : {A E : Type 0} → Result A E → (most : ℕ) → ℕ
spent (Ok _) most = most
spent (Err _) most = 0

-- ---- why a step is not made

-- records that are asked for, of a log that is closed or takes so many
pub record RecordsAsked : Type 0 where
  pub records : ℕ
  pub closed : Bool
  pub free : ℕ

-- words that are asked for, and whether they have room
pub record WordsAsked : Type 0 where
  pub words : ℕ
  pub fit : Bool

-- asked, left: what was granted before and what is after
abbrev pub records_asked : (records slot : ℕ) → (asked left : Grants) → RecordsAsked
records_asked records slot asked left =
    record { records = records; closed = asked.closed slot; free = left.records slot }

abbrev pub words_asked : (words births : ℕ) → Heap → WordsAsked
words_asked words births h = record { words = words; fit = has_room h words births }

abbrev pub no_records : RecordsAsked
no_records = record { records = 0; closed = false; free = 0 }

abbrev pub no_words : WordsAsked
no_words = record { words = 0; fit = true }

-- LogFull: the log is open and takes fewer records than are asked for. LogClosed: it is closed, and
-- one at least is asked for. NeedSpace: the words have no room. Memory: what was needed of it is
-- short
abbrev pub IsReasonFor : RecordsAsked → WordsAsked → (short : Type 0) → NotMade → Type 0
IsReasonFor asked words short LogFull = (asked.closed ≡ false) × (asked.free < asked.records)
IsReasonFor asked words short LogClosed = (1 ≤ asked.records) × IsTrue asked.closed
IsReasonFor asked words short (NeedSpace room) =
    (room ≡ words.words) × (1 ≤ room) × (words.fit ≡ false)
IsReasonFor asked words short Memory = short

-- of a step that only puts records
abbrev pub IsRecordReason : NotMade → (records slot : ℕ) → (asked left : Grants) → Type 0
IsRecordReason reason records slot asked left =
    IsReasonFor (records_asked records slot asked left) no_words ⊥ reason

-- of one that only makes objects: of so many words
abbrev pub IsRoomReason : NotMade → Heap → (words births : ℕ) → Type 0
IsRoomReason reason h words births =
    IsReasonFor no_records (words_asked words births h) (IsTrue h.space.grows) reason

-- ---- those that store elements

-- for every store that the memory shows, the operator did what its row says; stores: how many
-- elements the row stores; asked, left: what was granted before and what is after
pub record Changes (row : Store → List Value → Outcome Change) (stores : List Value → ℕ)
    (result : Result Unit Failure) (slot : ℕ) (asked left : Grants) (old new : Heap)
    (before after : List Word) : Type 0 where
  pub meets : (names : List (List ℕ)) (store : Store) → Shows old names store
      → AreWithin old names store before →
      ChangesAs (λ reason change. IsRecordReason reason
      (min 1 (stores (values_in old names before))) slot asked left) result
      (row store (values_in old names before)) names old new before after

-- ---- those that make objects

-- a refused step that would make something raises VMerror
abbrev pub refusing : Bool → Store → Outcome Change → Outcome Change
refusing refused store (leaves change) =
    if lacks_room refused store change.store then fails VmError else leaves change
refusing refused store (fails error) = fails error

-- for every store that the memory shows, the operator did what its row says
pub record Makes (row : Store → List Value → Outcome Change) (refused : Bool)
    (result : Result Unit Failure) (old new : Heap) (before after : List Word) : Type 0 where
  pub meets : (names : List (List ℕ)) (store : Store) → Shows old names store
      → AreWithin old names store before →
      ChangesAs (λ reason change. IsRoomReason reason old (made_between store change.store)
      (length change.store - length store)) result
      (refusing refused store (row store (values_in old names before))) names old new before
      after
