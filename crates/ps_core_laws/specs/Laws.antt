-- What every run keeps: pairs, agreement, references, logs, the flip, and the words of the table.
use Rattle.std.specs.Prelude.{◌≡◌, ◌≢◌, ◌⊎◌, ℕ, ◌+◌, ◌<◌, ◌≤◌, true, false, List, [], ◌∷◌, ◌++◌}
use Rattle.std.specs.Prelude.{length, drop, map, Option, Some, None, MatchOption, slice_get}
use Rattle.std.specs.Prelude.{slice_index, slice_index_or}
use Rattle.ps_word.specs.Headers.{cycle_in}
use Rattle.ps_record.specs.declared.Record.{Record}
use Rattle.ps_record.specs.Format.{slots, ring_length, ring_place, packed, head_place}
use Rattle.ps_core_machine.specs.declared.events.Event.{Event}
use Rattle.ps_core_machine.specs.declared.events.Event.TheVariants.{CycleStore}
use Rattle.ps_core_machine.specs.declared.events.Object.{Object}
use Rattle.ps_core_machine.specs.declared.events.Pair.{Pair}
use Rattle.ps_core_machine.specs.declared.events.Carried.{Carried}
use Rattle.ps_core_machine.specs.Objects.{among, object_at, pair_of, pair_to, log_of, renamed_value}
use Rattle.ps_core_machine.specs.Objects.{renamed, values_have_replicas, closes, named_in, is_written}
use Rattle.ps_core_machine.specs.Objects.{is_left, half_of, all_filled, replicas}
use Rattle.ps_core_machine.specs.Steps.{State, happens, forwarding, is_open, table_size}
use Rattle.ps_core_laws.specs.Reach.{Refers, named_by}
use Rattle.ps_core_laws.specs.Runs.{run, IsRun}

-- ---- due and being copied

-- what was logged in a slot, and neither taken nor being taken
abbrev pub ahead_of : State → ℕ → List Record
ahead_of s slot =
    drop (length (log_of s.gc.taken slot) + half_of s.gc.taking slot) (log_of s.vm.logs slot)

-- a place is due where it was written and not yet logged, or is in the part of the record being
-- taken that wasn't yet loaded, or is named in a record that is neither taken nor being taken
abbrev pub IsDue : State → ℕ → ℕ → Type 0
IsDue s a i = (is_written s.vm.written a i ≡ true) ⊎ ((is_left s.gc.taking a i ≡ true)
    ⊎ ((slot : ℕ) × (named_in (ahead_of s slot) a i ≡ true)))

abbrev pub IsCopying : Option Carried → ℕ → ℕ → Type 0
IsCopying None a i = ⊥
IsCopying (Some k) a i = (k.address ≡ a) × (k.field ≡ i)

-- ---- pairs

-- no original and no replica is in two pairs
abbrev pub AreSingle : List Pair → Type 0
AreSingle [] = Unit {0}
AreSingle (p ∷ ps) = (pair_of ps p.original ≡ None) × (pair_to ps p.replica ≡ None) × AreSingle ps

-- the original stands and isn't new, and the replica has its first header, so the same kind, birth
-- and number of fields
pub record IsPair (s : State) (a : ℕ) (p : Pair) (o : Object) : Type 0 where
  pub opened : is_open s.vm ≡ true
  pub old : among s.vm.fresh a ≡ false
  pub header : o.header ≡ p.header
  pub fields : length o.fields ≡ length p.fields

-- pairs belong to the open cycle
abbrev pub PairsHold : State → Type 0
PairsHold s = AreSingle s.gc.pairs × ((a : ℕ) (p : Pair) → pair_of s.gc.pairs a ≡ Some p
    → MatchOption (object_at s.vm.objects a) ⊥ (IsPair s a p))

-- ---- agreement

-- field i of the replica is that of the original, renamed
abbrev pub IsRenamed : State → Pair → Object → ℕ → Type 0
IsRenamed s p o i = slice_index p.fields i ≡ renamed s.gc.pairs p.header (slice_index o.fields i)

-- so it is for each filled field of each replica; or its place is due or being copied
abbrev pub ReplicasAgree : State → Type 0
ReplicasAgree s = (a i : ℕ) (p : Pair) (o : Object) → pair_of s.gc.pairs a ≡ Some p
    → object_at s.vm.objects a ≡ Some o → i < length o.fields
    → slice_index_or p.filled i false ≡ true
    → IsRenamed s p o i ⊎ (IsDue s a i ⊎ IsCopying s.gc.copying a i)

-- the word being copied is what now stands at its place, or the place is due
abbrev pub IsCurrent : State → Carried → Object → Type 0
IsCurrent s k o = (k.word ≡ slice_index o.fields k.field) ⊎ IsDue s k.address k.field

abbrev pub CopyAgrees : State → Type 0
CopyAgrees s = (k : Carried) → s.gc.copying ≡ Some k
    → MatchOption (object_at s.vm.objects k.address) ⊥ (IsCurrent s k)

-- ---- references

-- each reference in a standing object names a standing object, which is new only where the first is
abbrev pub NamesStanding : State → Type 0
NamesStanding s = (a i : ℕ) (o : Object) → object_at s.vm.objects a ≡ Some o → Refers o i
    → (object_at s.vm.objects (named_by o i) ≢ None)
    × (among s.vm.fresh a ≡ false → among s.vm.fresh (named_by o i) ≡ false)

-- ---- logs

abbrev pub IsBeginningOf : List Record → List Record → Type 0
IsBeginningOf xs ys = (rest : List Record) × (ys ≡ xs ++ rest)

-- each record once, in order: equal records at two positions are two
abbrev pub TakenBegins : State → Type 0
TakenBegins s = (slot : ℕ) → slot < slots
    → IsBeginningOf (log_of s.gc.taken slot) (log_of s.vm.logs slot)

-- in the open cycle
abbrev pub IsClosed : State → ℕ → Type 0
IsClosed s slot = (is_open s.vm ≡ true) × (closes (log_of s.vm.logs slot) ≡ s.vm.epoch)

-- while the cycle is the same, the log is
abbrev pub KeepsLog : ℕ → State → State → Type 0
KeepsLog slot old new = new.vm.cycle ≡ old.vm.cycle
    → log_of new.vm.logs slot ≡ log_of old.vm.logs slot

-- from a close to the flip of its cycle a log gets no record
abbrev pub NoneAfterClose : ℕ → Type 0
NoneAfterClose space = (newer older : List Event) (slot : ℕ) → IsRun space (newer ++ older)
    → IsClosed (run space older) slot → KeepsLog slot (run space older) (run space (newer ++ older))

-- ---- the flip

-- what gets a replica isn't new
abbrev pub IsOld : State → ℕ → Type 0
IsOld s a = among s.vm.fresh a ≡ false

-- before a flip
pub record IsReadyToFlip (s : State) (roots : List ℕ) : Type 0 where
  pub closed : (slot : ℕ) → slot < slots → IsClosed s slot
  pub drained : (slot : ℕ) → slot < slots → log_of s.gc.taken slot ≡ log_of s.vm.logs slot
  pub filled : all_filled s.gc.pairs ≡ true
  pub logged : s.vm.written ≡ None
  pub copied : s.gc.copying ≡ None
  pub carried : values_have_replicas s.gc.pairs roots ≡ true

-- after it the object is where its replica was, with its header and its fields, renamed
pub record IsMoved (s : State) (o : Object) (p : Pair) (moved : Object) : Type 0 where
  pub address : moved.address ≡ p.replica
  pub header : moved.header ≡ o.header
  pub count : length moved.fields ≡ length o.fields
  pub fields : (i : ℕ) → i < length o.fields
      → slice_index moved.fields i ≡ renamed s.gc.pairs o.header (slice_index o.fields i)

-- each object that has a replica
abbrev pub AreMoved : State → List Object → Type 0
AreMoved s objects = (a : ℕ) (o : Object) (p : Pair) → object_at s.vm.objects a ≡ Some o
    → pair_of s.gc.pairs a ≡ Some p → MatchOption (object_at objects p.replica) ⊥ (IsMoved s o p)

-- the standing objects are the replicas, and the roots are renamed
pub record FlipsTo (s now : State) (roots : List ℕ) : Type 0 where
  pub objects : now.vm.objects ≡ replicas s.gc.pairs
  pub moved : AreMoved s now.vm.objects
  pub roots_are : now.vm.roots ≡ map (renamed_value s.gc.pairs) roots

abbrev pub Flips : State → List ℕ → Type 0
Flips s roots = FlipsTo s (happens s (CycleStore roots)) roots

-- ---- the words of the table

-- the words of a standing object are its first header and its fields
pub record ShowsObject (s : State) (o : Object) : Type 0 where
  pub header : slice_index s.words o.address ≡ o.header
  pub fields : (i : ℕ) → i < length o.fields
      → slice_index s.words (o.address + 2 + i) ≡ slice_index o.fields i

-- those of a replica too, as far as the scan has stored it
pub record ShowsReplica (s : State) (p : Pair) : Type 0 where
  pub header : slice_index s.words p.replica ≡ p.header
  pub fields : (i : ℕ) → i < length p.fields → slice_index_or p.filled i false ≡ true
      → slice_index s.words (p.replica + 2 + i) ≡ slice_index p.fields i

-- the last records of each log stand in its ring, as many as it holds
abbrev pub ShowsRings : List ℕ → List (List Record) → Type 0
ShowsRings words logs = (slot k : ℕ) (r : Record) → slot < slots
    → slice_get (log_of logs slot) k ≡ Some r → length (log_of logs slot) ≤ k + ring_length
    → slice_index words (ring_place slot k) ≡ packed k r

-- the words follow from the two parts: control words, rings, standing objects and replicas
pub record WordsFollow (s : State) : Type 0 where
  pub table : length s.words ≡ table_size s.vm.space
  pub cycle : slice_index s.words 0 ≡ s.vm.cycle
  pub epoch : slice_index s.words 1 ≡ s.vm.epoch
  pub heads : (slot : ℕ) → slot < slots
      → slice_index s.words (head_place slot) ≡ length (log_of s.gc.taken slot)
  pub rings : ShowsRings s.words s.vm.logs
  pub objects : (a : ℕ) (o : Object) → object_at s.vm.objects a ≡ Some o → ShowsObject s o
  pub replicas_are : (a : ℕ) (p : Pair) → pair_of s.gc.pairs a ≡ Some p → ShowsReplica s p

-- the second header leads to the replica, where there is one; else its cycle was flipped before
abbrev pub IsForwarded : List ℕ → ℕ → ℕ → ℕ → Option Pair → Type 0
IsForwarded words a cycle epoch None = cycle_in (slice_index words (a + 1)) ≤ cycle
IsForwarded words a cycle epoch (Some p) = slice_index words (a + 1) ≡ forwarding epoch p.replica

-- so a forwarding word of the open cycle, whose number is the epoch, is the way to a replica
abbrev pub SecondsLead : State → Type 0
SecondsLead s = (a : ℕ) (o : Object) → object_at s.vm.objects a ≡ Some o
    → IsForwarded s.words a s.vm.cycle s.vm.epoch (pair_of s.gc.pairs a)
