-- What each event makes of the two parts and of the words (Nettles and O'Toole, PLDI 1993, 2 and
-- 3). A state is the words and a part for each seat.
use Rattle.std.specs.Prelude.{ℕ, ◌+◌, ◌-◌, ◌*◌, ◌%◌, ◌==◌, ◌&&◌, Bool, true, false, nat_le, nat_lt}
use Rattle.std.specs.Prelude.{List, [], ◌∷◌, ◌++◌, length, map, replicate, Option, Some, None}
use Rattle.std.specs.Prelude.{slice_set, if◌then◌else◌, unwrap_or}
use Rattle.ps_word.specs.Headers.{kind_in, fields_in, forward_packed}
use Rattle.ps_record.specs.declared.Record.{Record}
use Rattle.ps_record.specs.declared.Record.TheVariants.{Place, Close}
use Rattle.ps_record.specs.Format.{slots, spaces_start, ring_place, packed, read_record}
use Rattle.ps_record.specs.Format.{heads_start, head_place}
use Rattle.ps_core_machine.specs.declared.events.Event.{Event}
use Rattle.ps_core_machine.specs.declared.events.Event.TheVariants.{VmLoad, GcLoad, TakeLoad}
use Rattle.ps_core_machine.specs.declared.events.Event.TheVariants.{CopyLoad, HandOver, ClearLoad}
use Rattle.ps_core_machine.specs.declared.events.Event.TheVariants.{ClearStore, HeaderStore}
use Rattle.ps_core_machine.specs.declared.events.Event.TheVariants.{FieldStore, RecordStore}
use Rattle.ps_core_machine.specs.declared.events.Event.TheVariants.{EpochStore, ReplicaHeaderStore}
use Rattle.ps_core_machine.specs.declared.events.Event.TheVariants.{ReplicaFieldStore, ForwardStore}
use Rattle.ps_core_machine.specs.declared.events.Event.TheVariants.{HeadStore, CycleStore}
use Rattle.ps_core_machine.specs.declared.events.Object.{Object}
use Rattle.ps_core_machine.specs.declared.events.Pair.{Pair}
use Rattle.ps_core_machine.specs.declared.events.Seen.{Seen}
use Rattle.ps_core_machine.specs.declared.events.Half.{Half}
use Rattle.ps_core_machine.specs.declared.events.Carried.{Carried}
use Rattle.ps_core_machine.specs.declared.events.Written.{Written}
use Rattle.ps_core_machine.specs.declared.events.Vm.{Vm}
use Rattle.ps_core_machine.specs.declared.events.Gc.{Gc}
use Rattle.ps_core_machine.specs.Objects.{among, pair_of, seen_at, log_of, holds_values, with_field}
use Rattle.ps_core_machine.specs.Objects.{with_copy, address_named, addresses_named, renamed_value}
use Rattle.ps_core_machine.specs.Objects.{renamed, widened, with_load, end_of_replicas, replicas}

pub record State : Type 0 where
  pub words : List ℕ
  pub vm : Vm
  pub gc : Gc

-- ---- the table: control words, heads and rings, then space A and space B

abbrev pub table_size : ℕ → ℕ
table_size space = spaces_start + 2 * space

-- the current space, A in even cycles; and the other one
abbrev pub space_base : ℕ → ℕ → ℕ
space_base space cycle = spaces_start + (cycle % 2) * space

abbrev pub other_base : ℕ → ℕ → ℕ
other_base space cycle = spaces_start + ((cycle + 1) % 2) * space

abbrev pub start : ℕ → State
start space = record {
  words = replicate (table_size space) 0;
  vm = record {
    space = space;
    cycle = 0;
    epoch = 0;
    heads = replicate slots 0;
    logs = replicate slots [];
    written = None;
    objects = [];
    fresh = [];
    making = 0;
    end = spaces_start;
    next_birth = 0;
    roots = [];
    stored = false;
  };
  gc = record {
    space = space;
    cycle = 0;
    epoch = 0;
    taken = replicate slots [];
    taking = None;
    copying = None;
    pairs = [];
    headers = [];
    placed = [];
    known = [];
    handed = [];
  };
}

-- a cycle is open
abbrev pub is_open : Vm → Bool
is_open v = v.epoch == v.cycle + 1

-- as far as the collector knows
abbrev pub knows_open : Gc → Bool
knows_open g = g.epoch == g.cycle + 1

-- ---- the mutator's part; the collector's is read by the flip alone

abbrev pub heads_after : List ℕ → ℕ → ℕ → List ℕ
heads_after heads place word =
    if nat_le heads_start place && nat_lt place (head_place slots)
    then slice_set heads (place - heads_start) word else heads

-- where the next word of the object being made is, behind its first header and what is cleared
abbrev pub next_word : Vm → ℕ
next_word v = v.end + 1 + v.making

-- a body takes no birth of its own
abbrev pub next_birth_after : ℕ → ℕ → ℕ
next_birth_after next header = if kind_in header == 11 then next else next + 1

-- what is written and not logged after a store there
abbrev pub written_after : Vm → ℕ → ℕ → Option Written
written_after v a i = if is_open v then Some (widened v.written a i) else v.written

-- the part with a word in a field
abbrev pub field_put : Vm → ℕ → ℕ → ℕ → Vm
field_put v a i w = record v { objects = with_field v.objects a i w; stored = true }

-- a field of a new object is filled; a store to another one ends what is new and, in a cycle, is to
-- be logged
abbrev pub field_stored : Vm → ℕ → ℕ → ℕ → Vm
field_stored v a i w =
    if among v.fresh a then field_put v a i w
    else record (field_put v a i w) { fresh = []; written = written_after v a i }

-- a place record names all that was written
abbrev pub unlogged_after : Option Written → Record → Option Written
unlogged_after written (Place _ _ _) = None
unlogged_after written Close = written

-- an object with this first header, its fields zero
abbrev pub new_object : ℕ → ℕ → Object
new_object address header =
    record { address = address; header = header; fields = replicate (fields_in header) 0 }

-- a log with one record more
abbrev pub with_record : List (List Record) → ℕ → Record → List (List Record)
with_record logs slot r = slice_set logs slot (log_of logs slot ++ r ∷ [])

abbrev pub vm_after : Vm → Gc → Event → Vm
vm_after v g (VmLoad place word) = record v { heads = heads_after v.heads place word }
vm_after v g (GcLoad place word) = v
vm_after v g (TakeLoad slot word) = v
vm_after v g (CopyLoad a i word) = v
vm_after v g (HandOver word roots) = record v { fresh = [] }
vm_after v g ClearLoad = record v { making = v.making + 1 }
vm_after v g ClearStore = record v { making = v.making + 1 }
vm_after v g (HeaderStore header) = record v {
  objects = new_object v.end header ∷ v.objects;
  fresh = v.end ∷ v.fresh;
  making = 0;
  end = v.end + 2 + fields_in header;
  next_birth = next_birth_after v.next_birth header;
  stored = true;
}
vm_after v g (FieldStore a i w) = field_stored v a i w
vm_after v g (RecordStore slot r) = record v {
  fresh = [];
  logs = with_record v.logs slot r;
  written = unlogged_after v.written r;
}
vm_after v g EpochStore = record v { epoch = v.epoch + 1; fresh = []; stored = false }
vm_after v g (ReplicaHeaderStore place word) = v
vm_after v g (ReplicaFieldStore scans) = v
vm_after v g (ForwardStore a c) = v
vm_after v g HeadStore = v
vm_after v g (CycleStore roots) = record v {
  cycle = v.cycle + 1;
  objects = replicas g.pairs;
  fresh = [];
  making = 0;
  end = end_of_replicas (other_base v.space v.cycle) g.pairs;
  roots = map (renamed_value g.pairs) roots;
}

-- ---- the collector's part; the mutator's is read by the events of both seats joined

abbrev pub taken_up : ℕ → Option Record → Option Half
taken_up slot None = None
taken_up slot (Some r) = Some (record { slot = slot; what = r; loaded = 0 })

abbrev pub header_of : Option Pair → ℕ
header_of None = 0
header_of (Some p) = p.header

abbrev pub replica_of : Option Pair → ℕ
replica_of None = 0
replica_of (Some p) = p.replica

-- the word that a place being copied gets in the replica
abbrev pub word_stored : Gc → Carried → ℕ
word_stored g k = renamed g.pairs (header_of (pair_of g.pairs k.address)) k.word

abbrev pub copied : Gc → Option Carried → Bool → List Pair
copied g None scans = g.pairs
copied g (Some k) scans = with_copy g.pairs k.address k.field (word_stored g k) scans

abbrev pub taken_after : List (List Record) → Option Half → List (List Record)
taken_after taken None = taken
taken_after taken (Some h) = with_record taken h.slot h.what

abbrev pub new_pair : ℕ → ℕ → ℕ → Pair
new_pair original replica header = record {
  original = original;
  replica = replica;
  header = header;
  fields = replicate (fields_in header) 0;
  filled = replicate (fields_in header) false;
}

-- a word that stands at a place
abbrev pub seen_word : ℕ → ℕ → Seen
seen_word place word = record { place = place; word = word }

-- the address that a field of an object with this header names
abbrev pub named_in_field : ℕ → ℕ → List ℕ
named_in_field header word = if holds_values header then address_named word else []

abbrev pub gc_after : Gc → Vm → Event → Gc
gc_after g v (VmLoad place word) = g
gc_after g v (GcLoad place word) = record g {
  epoch = if place == 1 then word else g.epoch;
  headers = if among g.known place then seen_word place word ∷ g.headers else g.headers;
}
gc_after g v (TakeLoad slot word) =
    record g { taking = taken_up slot (read_record (length (log_of g.taken slot)) word) }
gc_after g v (CopyLoad a i word) = record g {
  taking = with_load g.taking a i;
  copying = Some (record { address = a; field = i; word = word });
  known = named_in_field (header_of (pair_of g.pairs a)) word ++ g.known;
}
gc_after g v (HandOver word roots) = record g {
  epoch = v.epoch;
  known = (if is_open v then addresses_named roots else []) ++ g.known;
  handed = (if is_open v then roots else []) ++ g.handed;
}
gc_after g v ClearLoad = g
gc_after g v ClearStore = g
gc_after g v (HeaderStore header) = g
gc_after g v (FieldStore a i w) = g
gc_after g v (RecordStore slot r) = g
gc_after g v EpochStore = g
gc_after g v (ReplicaHeaderStore place word) = record g { placed = seen_word place word ∷ g.placed }
gc_after g v (ReplicaFieldStore scans) =
    record g { pairs = copied g g.copying scans; copying = None }
gc_after g v (ForwardStore a c) =
    record g { pairs = new_pair a c (unwrap_or (seen_at g.headers a) 0) ∷ g.pairs }
gc_after g v HeadStore = record g { taken = taken_after g.taken g.taking; taking = None }
gc_after g v (CycleStore roots) = record g {
  cycle = g.cycle + 1;
  epoch = v.epoch;
  pairs = [];
  headers = [];
  placed = [];
  known = [];
  handed = [];
}

-- ---- the words: a load leaves them, a store changes one

-- the way from an original to its replica, and back
abbrev pub forwarding : ℕ → ℕ → ℕ
forwarding cycle address = forward_packed (record { cycle = cycle; address = address })

abbrev pub copy_stored : List ℕ → Gc → Option Carried → List ℕ
copy_stored ws g None = ws
copy_stored ws g (Some k) =
    slice_set ws (replica_of (pair_of g.pairs k.address) + 2 + k.field) (word_stored g k)

abbrev pub head_stored : List ℕ → Gc → Option Half → List ℕ
head_stored ws g None = ws
head_stored ws g (Some h) =
    slice_set ws (head_place h.slot) (length (log_of g.taken h.slot) + 1)

-- record k of a slot in its ring
abbrev pub record_stored : List ℕ → ℕ → ℕ → Record → List ℕ
record_stored ws slot k r = slice_set ws (ring_place slot k) (packed k r)

abbrev pub words_after : List ℕ → Vm → Gc → Event → List ℕ
words_after ws v g (VmLoad place word) = ws
words_after ws v g (GcLoad place word) = ws
words_after ws v g (TakeLoad slot word) = ws
words_after ws v g (CopyLoad a i word) = ws
words_after ws v g (HandOver word roots) = ws
words_after ws v g ClearLoad = ws
words_after ws v g ClearStore = slice_set ws (next_word v) 0
words_after ws v g (HeaderStore header) = slice_set ws v.end header
words_after ws v g (FieldStore a i w) = slice_set ws (a + 2 + i) w
words_after ws v g (RecordStore slot r) = record_stored ws slot (length (log_of v.logs slot)) r
words_after ws v g EpochStore = slice_set ws 1 (v.epoch + 1)
words_after ws v g (ReplicaHeaderStore place word) = slice_set ws place word
words_after ws v g (ReplicaFieldStore scans) = copy_stored ws g g.copying
words_after ws v g (ForwardStore a c) = slice_set ws (a + 1) (forwarding g.epoch c)
words_after ws v g HeadStore = head_stored ws g g.taking
words_after ws v g (CycleStore roots) = slice_set ws 0 (g.cycle + 1)

abbrev pub happens : State → Event → State
happens s e = record {
  words = words_after s.words s.vm s.gc e;
  vm = vm_after s.vm s.gc e;
  gc = gc_after s.gc s.vm e;
}
