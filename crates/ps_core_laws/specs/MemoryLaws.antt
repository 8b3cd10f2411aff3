-- What the part of a run gives to a seat that serves the mutator as a memory.
use Rattle.std.specs.Prelude.{◌≡◌, ◌≢◌, ℕ, ◌+◌, ◌-◌, ◌^◌, ◌<◌, ◌≤◌, ◌&&◌, true, false, min, nat_le}
use Rattle.std.specs.Prelude.{List, [], ◌∷◌, length, take, drop, Option, Some, None, IsTrue, IsSome}
use Rattle.std.specs.Prelude.{IfSome, slice_get, slice_index, slice_range}
use Rattle.ps_language.specs.declared.kinds.Kind.{Kind}
use Rattle.ps_language.specs.declared.kinds.Kind.TheVariants.{Dictionary, Body}
use Rattle.ps_word.specs.declared.words.Word.{Word}
use Rattle.ps_word.specs.declared.headers.Header.{Header}
use Rattle.ps_word.specs.Headers.{kind_in, fields_in, birth_in, kind_number, cycle_limit}
use Rattle.ps_mem.specs.Heap.{Standing, standing_words, fields_at, stored, made, made_body}
use Rattle.ps_mem.specs.Heap.{birth_at, IsKind, has_room, empty_heap, Grants, AfterNew, AfterStore}
use Rattle.ps_mem.specs.Heap.{records_put}
use Rattle.ps_mem.specs.Heap as memory
use Rattle.ps_mem.specs.Bounded.{bounded_space}
use Rattle.ps_mem.specs.Objects.{kind_of_number, word_of}
use Rattle.ps_mem.specs.References.{NamesStanding}
use Rattle.ps_record.specs.declared.Record.TheVariants.{Place, Close}
use Rattle.ps_record.specs.Format.{slots, ring_length, log_limit, head_place}
use Rattle.ps_core_machine.specs.declared.events.Event.{Event}
use Rattle.ps_core_machine.specs.declared.events.Event.TheVariants.{VmLoad, ClearStore, HeaderStore}
use Rattle.ps_core_machine.specs.declared.events.Event.TheVariants.{FieldStore, RecordStore}
use Rattle.ps_core_machine.specs.declared.events.Event.TheVariants.{EpochStore}
use Rattle.ps_core_machine.specs.declared.events.Vm.{Vm}
use Rattle.ps_core_machine.specs.declared.events.Gc.{Gc}
use Rattle.ps_core_machine.specs.Objects.{log_of}
use Rattle.ps_core_machine.specs.Steps.{start, is_open, table_size, field_stored, vm_after}
use Rattle.ps_core_machine.specs.Steps.{with_record}
use Rattle.ps_core_machine.specs.Conditions.{CanClear, HasRoom, VmMay}
use Rattle.ps_core_laws.specs.Shown.{VmRuns, VmFinds}
use Rattle.ps_core_laws.specs.Memory.{heap_of, grants_of, records_left, is_shut}
use Rattle.ps_core_laws.specs.Stores.{number_of, numbers, fields_stored, MayStoreFields}
use Rattle.ps_core_laws.specs.Stores.{fields_stored_down, MayStoreFieldsDown, part_made}

-- ---- my part is the part of some run

-- what the other seat and the table need not be asked for
abbrev pub IsOwnStore : Event → Type 0
IsOwnStore ClearStore = Unit {0}
IsOwnStore (HeaderStore header) = Unit {0}
IsOwnStore (FieldStore a i w) = Unit {0}
IsOwnStore (RecordStore slot r) = Unit {0}
IsOwnStore EpochStore = Unit {0}
IsOwnStore _ = ⊥

-- it is so after each store that the part permits, and after a load
abbrev pub StoresGoOn : Vm → Type 0
StoresGoOn v = (g : Gc) (e : Event) → IsOwnStore e → VmMay v e → VmRuns (vm_after v g e)

abbrev pub LoadsGoOn : Vm → Type 0
LoadsGoOn v = (g : Gc) (place word : ℕ) → place < table_size v.space → VmFinds v place word
    → VmRuns (vm_after v g (VmLoad place word))

-- ---- loads

-- a load of another word than a head leaves the part, and so memory and grants
abbrev pub StaysAfterLoad : Vm → ℕ → Type 0
StaysAfterLoad v place = (g : Gc) (word : ℕ) → vm_after v g (VmLoad place word) ≡ v

-- the cycle word and the epoch word are no heads
abbrev pub LoadsControl : Vm → Type 0
LoadsControl v = (place : ℕ) → place < 2 → StaysAfterLoad v place

-- a field's word lies in the table, and is the memory's
pub record LoadsField (v : Vm) (a i : ℕ) : Type 0 where
  pub place : a + 2 + i < table_size v.space
  pub word : (n : ℕ) → VmFinds v (a + 2 + i) n
      → slice_get (fields_at (heap_of v) a) i ≡ Some (word_of n)
  pub stays : StaysAfterLoad v (a + 2 + i)

abbrev pub LoadsFields : Vm → Type 0
LoadsFields v = (a i : ℕ) → i < length (fields_at (heap_of v) a) → LoadsField v a i

-- the first header as the memory tells it
abbrev pub header_of : ℕ → Header
header_of n = record { kind = kind_of_number (kind_in n); fields = fields_in n; birth = birth_in n }

abbrev pub header_told : Standing → Header
header_told o = record { kind = o.kind; fields = length o.fields; birth = o.birth }

-- so does the first header of what stands
pub record LoadsHeader (v : Vm) (a : ℕ) : Type 0 where
  pub place : a < table_size v.space
  pub word : (n : ℕ) → VmFinds v a n
      → IfSome (memory.object_at (heap_of v) a) (λ o. header_of n ≡ header_told o)
  pub stays : StaysAfterLoad v a

abbrev pub LoadsHeaders : Vm → Type 0
LoadsHeaders v = (a : ℕ) → IsSome (memory.object_at (heap_of v) a) → LoadsHeader v a

-- ---- room

-- what is used is the words of all that stands
abbrev pub IsCounted : Vm → Type 0
IsCounted v = (heap_of v).used ≡ standing_words (heap_of v)

-- there is room for just what is granted
abbrev pub HasRoomGranted : Vm → Type 0
HasRoomGranted v = (words births : ℕ) → has_room (heap_of v) words births
    ≡ (nat_le words (grants_of v).words && nat_le births (grants_of v).births)

-- ---- a store

-- at least one word, within the object, of which each reference names what stands
pub record CanStore (v : Vm) (a i : ℕ) (items : List Word) : Type 0 where
  pub some : 1 ≤ length items
  pub within : i + length items ≤ length (fields_at (heap_of v) a)
  pub known : NamesStanding (heap_of v) a items
  pub settled : v.written ≡ None

-- the stores are permitted one by one, lie in the table, make the memory's store, and log nothing;
-- where no record is owed nothing is to be logged
pub record StoresWords (v : Vm) (a i : ℕ) (items : List Word) : Type 0 where
  pub may : MayStoreFields v a i (numbers items)
  pub place : a + 2 + i + length items ≤ table_size v.space
  pub heap : heap_of (fields_stored v a i (numbers items)) ≡ stored (heap_of v) a i items
  pub grants : (slot : ℕ)
      → AfterStore (grants_of v) (grants_of (fields_stored v a i (numbers items))) slot
  pub logs : (fields_stored v a i (numbers items)).logs ≡ v.logs
  pub settled : records_put (grants_of v) a ≡ 0
      → (fields_stored v a i (numbers items)).written ≡ None

abbrev pub Stores : Vm → Type 0
Stores v = (a i : ℕ) (items : List Word) → CanStore v a i items → StoresWords v a i items

-- the part after the stores and their record
abbrev pub logged : Vm → Gc → ℕ → ℕ → ℕ → List Word → Vm
logged v g slot a i items =
    vm_after (fields_stored v a i (numbers items)) g (RecordStore slot (Place a i (length items)))

-- where a record is owed and granted, it is permitted, is the one that the log gets, and leaves the
-- memory
pub record StoresRecord (v : Vm) (g : Gc) (slot a i : ℕ) (items : List Word) : Type 0 where
  pub may : VmMay (fields_stored v a i (numbers items))
      (RecordStore slot (Place a i (length items)))
  pub heap : heap_of (logged v g slot a i items) ≡ stored (heap_of v) a i items
  pub logs : (logged v g slot a i items).logs
      ≡ with_record v.logs slot (Place a i (length items))
  pub settled : (logged v g slot a i items).written ≡ None
  pub grants : AfterStore (grants_of v) (grants_of (logged v g slot a i items)) slot
  pub counted : (grants_of (logged v g slot a i items)).put slot
      ≡ (grants_of v).put slot + records_put (grants_of v) a

abbrev pub Logs : Vm → Type 0
Logs v = (g : Gc) (slot a i : ℕ) (items : List Word) → CanStore v a i items
    → records_put (grants_of v) a ≡ 1 → 1 ≤ records_left v slot → StoresRecord v g slot a i items

-- ---- a word put into an object that may be filled

pub record CanFill (v : Vm) (a i : ℕ) (w : Word) : Type 0 where
  pub fresh : IsTrue ((grants_of v).fresh a)
  pub within : i < length (fields_at (heap_of v) a)
  pub known : NamesStanding (heap_of v) a (w ∷ [])

-- one store, which leaves what is granted, what was logged and what is to be
pub record FillsField (v : Vm) (a i : ℕ) (w : Word) : Type 0 where
  pub may : VmMay v (FieldStore a i (number_of w))
  pub place : a + 2 + i < table_size v.space
  pub heap : heap_of (field_stored v a i (number_of w)) ≡ stored (heap_of v) a i (w ∷ [])
  pub grants : grants_of (field_stored v a i (number_of w)) ≡ grants_of v
  pub logs : (field_stored v a i (number_of w)).logs ≡ v.logs
  pub settled : (field_stored v a i (number_of w)).written ≡ v.written

abbrev pub Fills : Vm → Type 0
Fills v = (a i : ℕ) (w : Word) → CanFill v a i w → FillsField v a i w

-- ---- a copy of so many words, from a place of an object to one of another or of the same

abbrev pub words_copied : Vm → ℕ → ℕ → ℕ → List Word
words_copied v source place count = slice_range (fields_at (heap_of v) source) place (place + count)

pub record CanCopy (v : Vm) (source place target i count : ℕ) : Type 0 where
  pub some : 1 ≤ count
  pub source_within : place + count ≤ length (fields_at (heap_of v) source)
  pub target_within : i + count ≤ length (fields_at (heap_of v) target)
  pub known : NamesStanding (heap_of v) target (words_copied v source place count)
  pub settled : v.written ≡ None

-- the source's word at a place in a part
abbrev pub word_at : Vm → ℕ → ℕ → Option Word
word_at v a i = slice_get (fields_at (heap_of v) a) i

-- a copy is the store of the words that stood in the source. Word by word, each is still there when
-- it is read: in rising order where the target isn't behind the source in one object, in falling
-- order where it isn't before it. Both orders are permitted, and leave the same part
pub record CopiesWords (v : Vm) (source place target i count : ℕ) (items : List Word) : Type 0
  where
    pub can : CanStore v target i items
    pub count_is : length items ≡ count
    pub down : MayStoreFieldsDown v target i (numbers items)
    pub same : fields_stored_down v target i (numbers items)
        ≡ fields_stored v target i (numbers items)
    pub rising : (source ≡ target → i ≤ place) → (k : ℕ) → k < count
        → word_at (fields_stored v target i (numbers (take k items))) source (place + k)
        ≡ slice_get items k
    pub falling : (source ≡ target → place ≤ i) → (k : ℕ) → k < count
        → word_at (fields_stored_down v target (i + (k + 1)) (numbers (drop (k + 1) items)))
        source (place + k) ≡ slice_get items k

abbrev pub Copies : Vm → Type 0
Copies v = (source place target i count : ℕ) → CanCopy v source place target i count
    → CopiesWords v source place target i count (words_copied v source place count)

-- ---- records

-- in a cycle a closed log is granted no record, and another as many as its ring has free places by
-- the head last loaded, but none past the last that may be a place
pub record GrantsRecords (v : Vm) (slot : ℕ) : Type 0 where
  pub shut : is_shut v slot ≡ true → records_left v slot ≡ 0
  pub left : is_shut v slot ≡ false → records_left v slot
      ≡ min (slice_index v.heads slot + ring_length) log_limit - length (log_of v.logs slot)

abbrev pub GrantsLogs : Vm → Type 0
GrantsLogs v = (slot : ℕ) → slot < slots → is_open v ≡ true → GrantsRecords v slot

-- ---- a new object

-- the header says the kind, the number of fields and the next birth number
pub record IsNew (v : Vm) (header : ℕ) (kind : Kind) (fields : ℕ) : Type 0 where
  pub kind_is : kind_in header ≡ kind_number kind
  pub fields_is : fields_in header ≡ fields
  pub birth_is : birth_in header ≡ v.next_birth
  pub no_body : kind ≢ Body

-- so many words are granted
pub record CanMake (v : Vm) (header : ℕ) (kind : Kind) (fields : ℕ) : Type 0 where
  pub new : IsNew v header kind fields
  pub few : fields < 2 ^ 16
  pub granted : 2 + fields ≤ (grants_of v).words

-- its words are cleared one by one, and then the first header is stored
pub record MayMake (v : Vm) (header fields : ℕ) : Type 0 where
  pub clears : (k : ℕ) → k ≤ fields → CanClear (record v { making = k })
  pub stands : VmMay (record v { making = fields + 1 }) (HeaderStore header)
  pub made : (g : Gc) → vm_after (record v { making = fields + 1 }) g (HeaderStore header)
      ≡ part_made v header

-- it is made at the end of use, where nothing stands, and makes the memory's new object
pub record MakesObject (v : Vm) (header : ℕ) (kind : Kind) (fields : ℕ) : Type 0 where
  pub may : MayMake v header fields
  pub place : v.end + 2 + fields ≤ table_size v.space
  pub free : memory.object_at (heap_of v) v.end ≡ None
  pub low : v.end < 2 ^ 24
  pub heap : heap_of (part_made v header) ≡ made (heap_of v) v.end kind fields
  pub grants : AfterNew (grants_of v) (grants_of (part_made v header)) v.end (2 + fields) 1

abbrev pub Makes : Vm → Type 0
Makes v = (header : ℕ) (kind : Kind) (fields : ℕ) → CanMake v header kind fields
    → MakesObject v header kind fields

-- the same of a body, with the birth number of a dictionary that stands
pub record CanMakeBody (v : Vm) (header dictionary fields : ℕ) : Type 0 where
  pub kind_is : kind_in header ≡ kind_number Body
  pub fields_is : fields_in header ≡ fields
  pub stands : IsKind Dictionary (memory.object_at (heap_of v) dictionary)
  pub birth_is : birth_in header ≡ birth_at (heap_of v) dictionary
  pub few : fields < 2 ^ 16
  pub granted : 2 + fields ≤ (grants_of v).words

-- it takes no birth number
pub record MakesBody (v : Vm) (header dictionary fields : ℕ) : Type 0 where
  pub may : MayMake v header fields
  pub place : v.end + 2 + fields ≤ table_size v.space
  pub free : memory.object_at (heap_of v) v.end ≡ None
  pub low : v.end < 2 ^ 24
  pub heap : heap_of (part_made v header)
      ≡ made_body (heap_of v) v.end (birth_at (heap_of v) dictionary) fields
  pub grants : AfterNew (grants_of v) (grants_of (part_made v header)) v.end (2 + fields) 0

abbrev pub MakesBodies : Vm → Type 0
MakesBodies v = (header dictionary fields : ℕ) → CanMakeBody v header dictionary fields
    → MakesBody v header dictionary fields

-- ---- heads, and cycles

-- the part after a load of a head
abbrev pub seen : Vm → Gc → ℕ → ℕ → Vm
seen v g slot n = vm_after v g (VmLoad (head_place slot) n)

-- a head word is no lower than the one last loaded, and within the log; once it is loaded no record
-- less is granted, of other slots as many, and all else as before
pub record SeesHead (v : Vm) (g : Gc) (slot n : ℕ) : Type 0 where
  pub low : slice_index v.heads slot ≤ n
  pub high : n ≤ length (log_of v.logs slot)
  pub heap : heap_of (seen v g slot n) ≡ heap_of v
  pub grants : grants_of (seen v g slot n)
      ≡ record (grants_of v) { records = records_left (seen v g slot n) }
  pub more : records_left v slot ≤ records_left (seen v g slot n) slot
  pub others : (s : ℕ) → s ≢ slot → records_left (seen v g slot n) s ≡ records_left v s
  pub settled : (seen v g slot n).written ≡ v.written

abbrev pub SeesHeads : Vm → Type 0
SeesHeads v = (g : Gc) (slot n : ℕ) → slot < slots → VmFinds v (head_place slot) n
    → SeesHead v g slot n

-- in a cycle just opened no log is closed, and no object may be filled; nothing was put
pub record AfterOpen (old new : Grants) : Type 0 where
  pub fresh : (a : ℕ) → new.fresh a ≡ false
  pub words : new.words ≡ old.words
  pub births : new.births ≡ old.births
  pub cycle_open : IsTrue new.cycle_open
  pub put : new.put ≡ old.put
  pub closed : (slot : ℕ) → new.closed slot ≡ false

-- a cycle is opened; memory and logs stay
pub record OpensCycle (v : Vm) (g : Gc) : Type 0 where
  pub may : VmMay v EpochStore
  pub heap : heap_of (vm_after v g EpochStore) ≡ heap_of v
  pub grants : AfterOpen (grants_of v) (grants_of (vm_after v g EpochStore))
  pub logs : (vm_after v g EpochStore).logs ≡ v.logs

abbrev pub Opens : Vm → Type 0
Opens v = (g : Gc) → is_open v ≡ false → v.epoch + 1 < cycle_limit → OpensCycle v g

-- the close is one record put; the log is closed then and granted no other. No object may be filled
pub record AfterClose (old new : Grants) (slot : ℕ) : Type 0 where
  pub fresh : (a : ℕ) → new.fresh a ≡ false
  pub words : new.words ≡ old.words
  pub births : new.births ≡ old.births
  pub cycle_open : new.cycle_open ≡ old.cycle_open
  pub records : new.records slot ≡ 0
  pub records_others : (s : ℕ) → s ≢ slot → new.records s ≡ old.records s
  pub put : new.put slot ≡ old.put slot + 1
  pub put_others : (s : ℕ) → s ≢ slot → new.put s ≡ old.put s
  pub closed : IsTrue (new.closed slot)
  pub closed_others : (s : ℕ) → s ≢ slot → new.closed s ≡ old.closed s

-- a log is closed: it gets a close and no other record; the memory stays
pub record ClosesLog (v : Vm) (g : Gc) (slot : ℕ) : Type 0 where
  pub may : VmMay v (RecordStore slot Close)
  pub heap : heap_of (vm_after v g (RecordStore slot Close)) ≡ heap_of v
  pub grants : AfterClose (grants_of v) (grants_of (vm_after v g (RecordStore slot Close))) slot
  pub logs : (vm_after v g (RecordStore slot Close)).logs ≡ with_record v.logs slot Close
  pub settled : (vm_after v g (RecordStore slot Close)).written ≡ v.written

-- in an open cycle that may be where the log isn't closed, and its ring has a free place
pub record CanClose (v : Vm) (slot : ℕ) : Type 0 where
  pub in_range : slot < slots
  pub opened : is_open v ≡ true
  pub not_shut : is_shut v slot ≡ false
  pub room : HasRoom v slot

abbrev pub ClosesLogs : Vm → Type 0
ClosesLogs v = (g : Gc) (slot : ℕ) → CanClose v slot → ClosesLog v g slot

-- ---- all of it

-- what holds of the part of every run
abbrev pub OfParts : (Vm → Type 0) → Type 0
OfParts P = (v : Vm) → VmRuns v → P v

-- at the start the memory is empty
abbrev pub StartsEmpty : ℕ → Type 0
StartsEmpty space = heap_of (start space).vm ≡ empty_heap (bounded_space space)
