-- When an event may happen. All but the word that a load finds is a fact of the part of the seat
-- that makes it, so that a seat can know it whatever the other one did meanwhile; an event of both
-- seats joined reads both parts.
use Rattle.std.specs.Prelude.{◌≡◌, ◌≢◌, ℕ, ◌+◌, ◌^◌, ◌<◌, ◌≤◌, ◌==◌, ◌&&◌, Bool, true, false, List}
use Rattle.std.specs.Prelude.{length, Option, Some, None, MatchOption, slice_index, MatchBool}
use Rattle.std.specs.List.{list_any}
use Rattle.ps_word.specs.Headers.{kind_in, fields_in, birth_in, cycle_limit}
use Rattle.ps_record.specs.declared.Record.{Record}
use Rattle.ps_record.specs.declared.Record.TheVariants.{Place, Close}
use Rattle.ps_record.specs.Format.{slots, ring_length, ring_place, IsRecord, log_limit}
use Rattle.ps_core_machine.specs.declared.events.Event.{Event}
use Rattle.ps_core_machine.specs.declared.events.Event.TheVariants.{VmLoad, GcLoad, TakeLoad}
use Rattle.ps_core_machine.specs.declared.events.Event.TheVariants.{CopyLoad, HandOver, ClearLoad}
use Rattle.ps_core_machine.specs.declared.events.Event.TheVariants.{ClearStore, HeaderStore}
use Rattle.ps_core_machine.specs.declared.events.Event.TheVariants.{FieldStore, RecordStore}
use Rattle.ps_core_machine.specs.declared.events.Event.TheVariants.{EpochStore, ReplicaHeaderStore}
use Rattle.ps_core_machine.specs.declared.events.Event.TheVariants.{ReplicaFieldStore, ForwardStore}
use Rattle.ps_core_machine.specs.declared.events.Event.TheVariants.{HeadStore, CycleStore}
use Rattle.ps_core_machine.specs.declared.events.Object.{Object}
use Rattle.ps_core_machine.specs.declared.events.Carried.{Carried}
use Rattle.ps_core_machine.specs.declared.events.Written.{Written}
use Rattle.ps_core_machine.specs.declared.events.Vm.{Vm}
use Rattle.ps_core_machine.specs.declared.events.Gc.{Gc}
use Rattle.ps_core_machine.specs.Objects.{among, object_at, pair_of, seen_at, log_of}
use Rattle.ps_core_machine.specs.Objects.{word_has_replica, values_have_replicas, word_stands}
use Rattle.ps_core_machine.specs.Objects.{values_stand, closes, adjoins, is_done, is_in_replica}
use Rattle.ps_core_machine.specs.Objects.{end_of_replicas, all_filled}
use Rattle.ps_core_machine.specs.Steps.{State, table_size, space_base, other_base, is_open}
use Rattle.ps_core_machine.specs.Steps.{knows_open, next_word, header_of, forwarding}

-- a dictionary with this birth stands
abbrev pub dictionary_stands : List Object → ℕ → Bool
dictionary_stands objects birth =
    list_any (λ o. kind_in o.header == 8 && birth_in o.header == birth) objects

-- a body has its dictionary's birth, and any other object the next one
abbrev pub IsBirth : Vm → ℕ → Type 0
IsBirth v header = MatchBool (kind_in header == 11)
    (dictionary_stands v.objects (birth_in header) ≡ true)
    (birth_in header ≡ v.next_birth)

-- the first header of an object of one of the six kinds, with as many fields as were cleared
pub record CanStand (v : Vm) (header : ℕ) : Type 0 where
  pub kind : (6 ≤ kind_in header) × (kind_in header ≤ 11)
  pub fields : fields_in header < 2 ^ 16
  pub cleared : v.making ≡ fields_in header + 1
  pub birth : IsBirth v header

-- the object has this field, and a reference may be put there: it names a standing object
abbrev pub HasField : Vm → Option Object → ℕ → ℕ → Type 0
HasField v None i w = ⊥
HasField v (Some o) i w = (i < length o.fields) × (word_stands v.objects o.header w ≡ true)

-- in a cycle what is written and not logged is one range of fields of one object
abbrev pub IsOneRange : Vm → ℕ → ℕ → Type 0
IsOneRange v a i = among v.fresh a ≡ false → is_open v ≡ true → adjoins v.written a i ≡ true

abbrev pub CanStoreField : Vm → ℕ → ℕ → ℕ → Type 0
CanStoreField v a i w = HasField v (object_at v.objects a) i w × IsOneRange v a i

-- a place record names just what is written
abbrev pub IsNamed : Option Written → Record → Type 0
IsNamed written (Place a first count) =
    written ≡ Some (record { address = a; first = first; count = count })
IsNamed written Close = Unit {0}

-- the slot's ring has a free place, by its head as it was last loaded
abbrev pub HasRoom : Vm → ℕ → Type 0
HasRoom v slot = length (log_of v.logs slot) < slice_index v.heads slot + ring_length

-- the slot's log may get the record: no further place where there are as many as may be. A close is
-- never too many, since a log gets one a cycle
abbrev pub HasNumber : Vm → ℕ → Record → Type 0
HasNumber v slot (Place a first count) = length (log_of v.logs slot) < log_limit
HasNumber v slot Close = Unit {0}

-- in an open cycle a log that isn't closed gets a record
pub record CanLog (v : Vm) (slot : ℕ) (r : Record) : Type 0 where
  pub in_range : slot < slots
  pub opened : is_open v ≡ true
  pub not_closed : closes (log_of v.logs slot) ≢ v.epoch
  pub room : HasRoom v slot
  pub short : HasNumber v slot r
  pub fits : IsRecord r
  pub written : IsNamed v.written r

-- the next word of the object being made is in the current space
abbrev pub CanClear : Vm → Type 0
CanClear v = next_word v < space_base v.space v.cycle + v.space

-- each log is closed in the open cycle
abbrev pub AllClosed : Vm → Type 0
AllClosed v = (slot : ℕ) → slot < slots → closes (log_of v.logs slot) ≡ v.epoch

-- what the mutator's seat has to know of its own part
abbrev pub VmMay : Vm → Event → Type 0
VmMay v (VmLoad place word) = place < table_size v.space
VmMay v (HandOver word roots) = values_stand v.objects roots ≡ true
VmMay v ClearLoad = CanClear v
VmMay v ClearStore = CanClear v
VmMay v (HeaderStore header) = CanStand v header
VmMay v (FieldStore a i w) = CanStoreField v a i w
VmMay v (RecordStore slot r) = CanLog v slot r
VmMay v EpochStore = (v.epoch ≡ v.cycle) × (v.epoch + 1 < cycle_limit) × (v.written ≡ None)
VmMay v (CycleStore roots) = (is_open v ≡ true) × AllClosed v × (v.written ≡ None)
VmMay v _ = Unit {0}

-- the replica's headers stand: the first is the original's, the second leads back to it; and the
-- replica lies right behind the others, whole in the other space
pub record IsReady (g : Gc) (a c header : ℕ) : Type 0 where
  pub first : seen_at g.placed c ≡ Some header
  pub second : seen_at g.placed (c + 1) ≡ Some (forwarding g.epoch a)
  pub right : c ≡ end_of_replicas (other_base g.space g.cycle) g.pairs
  pub high : c + 2 + fields_in header ≤ other_base g.space g.cycle + g.space

pub record CanForward (g : Gc) (a c : ℕ) : Type 0 where
  pub opened : knows_open g ≡ true
  pub single : pair_of g.pairs a ≡ None
  pub known : among g.known a ≡ true
  pub headed : MatchOption (seen_at g.headers a) ⊥ (IsReady g a c)

-- its reference, if it is one, has a replica
abbrev pub CanStore : Gc → Option Carried → Type 0
CanStore g None = ⊥
CanStore g (Some k) = word_has_replica g.pairs (header_of (pair_of g.pairs k.address)) k.word ≡ true

-- a field of an original
abbrev pub IsPairField : Gc → ℕ → ℕ → Type 0
IsPairField g a i = MatchOption (pair_of g.pairs a) ⊥ (λ p. i < length p.fields)

-- what the collector's seat has to know of its own part
abbrev pub GcMay : Gc → Event → Type 0
GcMay g (GcLoad place word) = place < table_size g.space
GcMay g (TakeLoad slot word) = (slot < slots) × (g.taking ≡ None)
GcMay g (CopyLoad a i word) = (g.copying ≡ None) × IsPairField g a i
GcMay g (ReplicaHeaderStore place word) = (other_base g.space g.cycle ≤ place)
    × (place < other_base g.space g.cycle + g.space) × (is_in_replica g.pairs place ≡ false)
GcMay g (ReplicaFieldStore scans) = CanStore g g.copying
GcMay g (ForwardStore a c) = CanForward g a c
GcMay g HeadStore = is_done g.pairs g.copying g.taking ≡ true
GcMay g (CycleStore roots) = (g.taking ≡ None) × (g.copying ≡ None)
    × (all_filled g.pairs ≡ true) × (values_have_replicas g.pairs roots ≡ true)
GcMay g _ = Unit {0}

-- the word that a load finds; and what a joined store reads of both parts
abbrev pub BothMay : List ℕ → Vm → Gc → Event → Type 0
BothMay ws v g (VmLoad place word) = slice_index ws place ≡ word
BothMay ws v g (GcLoad place word) = slice_index ws place ≡ word
BothMay ws v g (TakeLoad slot word) =
    slice_index ws (ring_place slot (length (log_of g.taken slot))) ≡ word
BothMay ws v g (CopyLoad a i word) = slice_index ws (a + 2 + i) ≡ word
BothMay ws v g (HandOver word roots) = slice_index ws 0 ≡ word
BothMay ws v g ClearLoad = slice_index ws (next_word v) ≡ 0
BothMay ws v g (CycleStore roots) = g.taken ≡ v.logs
BothMay ws v g _ = Unit {0}

pub record Permitted (s : State) (e : Event) : Type 0 where
  pub vm : VmMay s.vm e
  pub gc : GcMay s.gc e
  pub both : BothMay s.words s.vm s.gc e
