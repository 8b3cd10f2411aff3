-- When what an operator did is the effect of its row.
use Rattle.std.specs.Prelude.{◌≡◌, ◌⊎◌, ℕ, zero, suc, ◌+◌, ◌-◌, ◌<◌, ◌≤◌, ◌++◌, min, Bool, true}
use Rattle.std.specs.Prelude.{false, IsTrue, List, length, Result, Ok, Err, OnErr}
use Rattle.ps_language.specs.declared.errors.ErrorName.TheVariants.{VmError}
use Rattle.ps_language.specs.Value.{Value, Store}
use Rattle.ps_language.specs.Access.{bytes}
use Rattle.ps_language.specs.Objects.{made_between, lacks_room}
use Rattle.ps_language.specs.Effect.{Around, Scene, Effect, makes, unwinds, raises}
use Rattle.ps_language.specs.Rows.{Row}
use Rattle.ps_language.specs.Acts.{effect_of}
use Rattle.ps_word.specs.declared.words.Word.{Word}
use Rattle.ps_mem.specs.Heap.{Heap, Grants}
use Rattle.ps_mem.specs.Keeps.{Keeps}
use Rattle.ps_ops_operands.specs.declared.failure.NotMade.{NotMade as Reason}
use Rattle.ps_ops_operands.specs.Changes.{KeepsLogsWithin, most_records, spent, records_asked, words_asked}
use Rattle.ps_ops_operands.specs.Changes.{IsReasonFor}
use Rattle.ps_ops_control.specs.Turns.{cause_of}
use Rattle.ps_ops_state.specs.declared.breaks.Break.{Break}
use Rattle.ps_ops_state.specs.declared.breaks.Break.TheVariants.{Unwinds, Raises, NotMade}
use Rattle.ps_ops_state.specs.declared.lent.Attempt.{Attempt}
use Rattle.ps_ops_state.specs.Lent.{Lent, Rooms, rooms_of, scene_of, around_of, IsShown, IsGood}

-- ---- what is asked for

abbrev pub no_rooms : Rooms
no_rooms = record { text = 0; sought = 0; words = 0 }

-- what an operator asks for that the language doesn't say: records of the log, and room for what it
-- reads
pub record Asked : Type 0 where
  pub records : ℕ
  pub scratch : Rooms

-- fewer records than a step may put: the end of a context changes one entry more
abbrev pub IsFew : Asked → Type 0
IsFew asked = asked.records < most_records

-- whatever asks
abbrev pub AreFew : {A : Type 0} → (A → Around → Scene → Asked) → Type 0
AreFew asks = (by : _) (around : Around) (scene : Scene) → IsFew (asks by around scene)

-- what a step asks for: bytes of the output, names, records of the log, words and birth numbers,
-- and room for what it reads
pub record Needs : Type 0 where
  pub bytes : ℕ
  pub names : ℕ
  pub records : ℕ
  pub words : ℕ
  pub births : ℕ
  pub scratch : Rooms

abbrev pub nothing_needed : Needs
nothing_needed =
    record { bytes = 0; names = 0; records = 0; words = 0; births = 0; scratch = no_rooms }

-- the names that a scene has more
abbrev pub names_formed : (before after : Scene) → ℕ
names_formed before after = length after.names - length before.names

-- a scene that is made asks for its output, its names and its new objects too
abbrev pub needs_between : Asked → (before after : Scene) → (output : List ℕ) → Needs
needs_between asked before after output = record {
  bytes = length output;
  names = names_formed before after;
  records = asked.records;
  words = made_between before.store after.store;
  births = length after.store - length before.store;
  scratch = asked.scratch;
}

-- A refused step reads, forms its names and makes nothing. Where it forms some it asks for its note
-- too
abbrev pub needs_of_refused : (scratch : Rooms) → (names : ℕ) → Needs
needs_of_refused scratch zero = record nothing_needed { scratch = scratch }
needs_of_refused scratch (suc names) =
    record nothing_needed { names = suc names; records = most_records; scratch = scratch }

-- whether the effect is refused the room that it asks for
abbrev pub lacks : (refused : Bool) → (before : Scene) → Effect → Bool
lacks refused before (makes scene output) = lacks_room refused before.store scene.store
lacks refused before effect = false

-- by the effect, and whether it lacks room
abbrev pub needs_as : Asked → (before : Scene) → Effect → (lacking : Bool) → Needs
needs_as asked before (makes scene output) false = needs_between asked before scene output
needs_as asked before (makes scene output) true =
    needs_of_refused asked.scratch (names_formed before scene)
needs_as asked before effect lacking = nothing_needed

-- of operators that store nothing and read into no list, and of those that store so many elements
-- at once
abbrev pub nothing_asked : Scene → Asked
nothing_asked scene = record { records = 0; scratch = no_rooms }

abbrev pub stores : (List Value → ℕ) → Scene → Asked
stores count scene = record { records = min 1 (count scene.operands); scratch = no_rooms }

-- ---- why a step is not made

-- one of the lists is too small
abbrev pub LacksRooms : (has needs : Rooms) → Type 0
LacksRooms has needs =
    (has.text < needs.text) ⊎ ((has.sought < needs.sought) ⊎ (has.words < needs.words))

-- the output has less room than its bytes, or a name is formed, or an object is made in a memory
-- that grows, or a list that is read into is too small
abbrev pub IsShort : Needs → (old : Lent) → Type 0
IsShort needs old =
    (old.room < needs.bytes)
    ⊎ ((1 ≤ needs.names)
    ⊎ (((1 ≤ needs.words) × IsTrue old.heap.space.grows)
    ⊎ LacksRooms (rooms_of old.scratch) needs.scratch))

-- by the records and words that are asked for, or memory is short
abbrev pub IsReason : Needs → (slot : ℕ) → (old new : Lent) → Reason → Type 0
IsReason needs slot old new reason =
    IsReasonFor (records_asked needs.records slot old.grants new.grants)
    (words_asked needs.words needs.births old.heap) (IsShort needs old) reason

-- ---- what is left

-- no string is shorter
abbrev pub Lasts : (before after : Store) → Type 0
Lasts before after = (birth : ℕ) → length (bytes before birth) ≤ length (bytes after birth)

-- after what showed a store the scene is shown
pub record IsLeft (before : Store) (l : Lent) (scene : Scene) : Type 0 where
  pub is : scene_of l scene.store ≡ scene
  pub shown : IsShown l scene.store
  pub lasts : Lasts before scene.store

-- nothing has changed but what was granted, and how much room the output and the lists have
abbrev pub IsSame : (old new : Lent) → Type 0
IsSame old new = new ≡ record old { grants = new.grants; room = new.room; scratch = new.scratch }

-- An error can be noted: where a refused step formed names, it asked first for the records of its
-- note. The names stay, so the note must not be refused then
abbrev pub MayNote : (slot : ℕ) → (old new : Lent) → (names : List (List ℕ)) → Type 0
MayNote slot old new names =
    (names ≡ old.names)
    ⊎ ((most_records ≤ new.grants.records slot) × (new.grants.closed slot ≡ false))

-- a refused step: nothing has changed but for its names, which are shown
pub record IsRefused (slot : ℕ) (before : Scene) (old new : Lent) (names : List (List ℕ)) : Type 0
  where
    pub is : new ≡ record old
        { grants = new.grants; room = new.room; names = names; scratch = new.scratch }
    pub left : IsLeft before.store new (record before { names = names })
    pub may_note : MayNote slot old new names

-- What the effect makes is left and printed. Or its unwinding begins, or its error is raised, and
-- nothing has changed. Or it lacks room, VMerror is raised, and only its names are formed. Or it is
-- not made, nothing has changed, and there is a reason
abbrev pub ActsAs : Needs → (slot : ℕ) → (before : Scene) → Result Unit Break → Effect
    → (lacking : Bool) → (old new : Lent) → Type 0
ActsAs needs slot before (Ok _) (makes scene output) false old new =
    IsLeft before.store new scene × (new.printed ≡ old.printed ++ output)
ActsAs needs slot before (Err (Unwinds cause)) (unwinds for scene) lacking old new =
    (cause_of cause ≡ for) × IsLeft before.store new scene × IsSame old new
ActsAs needs slot before (Err (Raises error)) (raises raised) lacking old new =
    (error ≡ raised) × IsSame old new
ActsAs needs slot before (Err (Raises error)) (makes scene output) true old new =
    (error ≡ VmError) × IsRefused slot before old new scene.names
ActsAs needs slot before (Err (NotMade reason)) (makes scene output) lacking old new =
    IsReason needs slot old new reason × IsSame old new
ActsAs needs slot before result effect lacking old new = ⊥

-- ---- the relation

-- no list is smaller
pub record IsAtLeast (few more : Rooms) : Type 0 where
  pub text : few.text ≤ more.text
  pub sought : few.sought ≤ more.sought
  pub words : few.words ≤ more.words

-- The program, the place of $error and the bound of the output stay, names are only added, and no
-- list shrinks: neither the output's capacity, its bytes and its room, nor that of those that are
-- read into
pub record Stays (old new : Lent) : Type 0 where
  pub program : new.program ≡ old.program
  pub most : new.most ≡ old.most
  pub error_dictionary : new.error_dictionary ≡ old.error_dictionary
  pub formed : List (List ℕ)
  pub names : new.names ≡ old.names ++ formed
  pub capacity : length old.printed + old.room ≤ length new.printed + new.room
  pub scratch : IsAtLeast (rooms_of old.scratch) (rooms_of new.scratch)

-- of a store that is shown: the effect came about, and by no more records than it asks for
pub record Meets (asks : Scene → Asked) (effect : Effect) (attempt : Attempt)
    (result : Result Unit Break) (before : Scene) (old new : Lent) : Type 0 where
  pub did : ActsAs (needs_as (asks before) before effect (lacks attempt.refused before effect))
      attempt.slot before result effect (lacks attempt.refused before effect) old new
  pub logs : KeepsLogsWithin (spent result (asks before).records) old.grants new.grants attempt.slot

-- the effect of a row on what a store shows
abbrev pub effect_in : Row → Lent → Store → Effect
effect_in row l store = effect_of row (around_of l) (scene_of l store)

-- For every store that the memory shows, the operator of this row did what the row says. What is
-- lent stays good, what stood goes on standing, and the logs are kept
pub record Acts (asks : Scene → Asked) (row : Row) (attempt : Attempt) (result : Result Unit Break)
    (old new : Lent) : Type 0 where
  pub meets : (store : Store) → IsShown old store
      → Meets asks (effect_in row old store) attempt result (scene_of old store) old new
  pub good : IsGood new
  pub keeps : Keeps old.heap new.heap
  pub stays : Stays old new
  pub logs : KeepsLogsWithin (spent result most_records) old.grants new.grants attempt.slot
  -- an element that was taken can be put back
  pub framed : OnErr result (new.frames ≡ old.frames)

-- ---- narrower operators: the same, whatever else is lent

-- other operands over another memory
abbrev pub over : Lent → Heap → Grants → List Word → Lent
over l heap grants operands = record l { heap = heap; grants = grants; operands = operands }
