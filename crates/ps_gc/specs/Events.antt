-- The events that a call of the collector makes, the oldest first, and what they make of its part.
use Rattle.std.specs.Prelude.{◌≡◌, ◌==◌, ◌&&◌, ℕ, ◌+◌, Bool, true, false, nat_le, nat_lt, List, []}
use Rattle.std.specs.Prelude.{◌∷◌, length, Some, None, is_some, slice_index_or, if◌then◌else◌}
use Rattle.ps_word.specs.Format.{address_in}
use Rattle.ps_word.specs.Readers.{is_reference}
use Rattle.ps_record.specs.declared.Record.{Record}
use Rattle.ps_record.specs.Format.{read_record}
use Rattle.ps_core_machine.specs.declared.events.Event.{Event}
use Rattle.ps_core_machine.specs.declared.events.Event.TheVariants.{GcLoad, TakeLoad}
use Rattle.ps_core_machine.specs.declared.events.Event.TheVariants.{ReplicaHeaderStore, ForwardStore}
use Rattle.ps_core_machine.specs.declared.events.Gc.{Gc}
use Rattle.ps_core_machine.specs.declared.events.Pair.{Pair}
use Rattle.ps_core_machine.specs.Objects.{among, pair_of, log_of, closes, with_load, with_copy}
use Rattle.ps_core_machine.specs.Objects.{renamed, word_has_replica, end_of_replicas}
use Rattle.ps_core_machine.specs.Steps.{other_base, forwarding, new_pair, seen_word, with_record}
use Rattle.ps_table.specs.declared.plays.View.{View}
use Rattle.ps_table.specs.Shown.{gc_did}

-- where the next replica goes
abbrev pub next_replica : Gc → ℕ
next_replica g = end_of_replicas (other_base g.space g.cycle) g.pairs

-- a word of the other space, by its index there
abbrev pub other_word : Gc → ℕ → ℕ
other_word g index = other_base g.space g.cycle + index

-- it is in that space, behind the last replica
abbrev pub is_free : Gc → ℕ → Bool
is_free g index = nat_lt index g.space && nat_le (next_replica g) (other_word g index)

-- a replica is made of the object at an address, whose first header is found
abbrev pub replica_made : Gc → ℕ → ℕ → List Event
replica_made g a header =
    GcLoad a header ∷ ReplicaHeaderStore (next_replica g) header
    ∷ ReplicaHeaderStore (next_replica g + 1) (forwarding (g.cycle + 1) a)
    ∷ ForwardStore a (next_replica g) ∷ []

-- the second header is looked at, and where there is no replica, one is made
abbrev pub object_replicated : Gc → ℕ → ℕ → ℕ → List Event
object_replicated g a second header =
    GcLoad (a + 1) second ∷ (if is_some (pair_of g.pairs a) then [] else replica_made g a header)

abbrev pub word_replicated : Gc → ℕ → ℕ → ℕ → List Event
word_replicated g w second header =
    if is_reference w then object_replicated g (address_in w) second header else []

-- the part after a replica was made
abbrev pub with_replica : Gc → ℕ → ℕ → Gc
with_replica g a header = record g {
  pairs = new_pair a (next_replica g) header ∷ g.pairs;
  headers = seen_word a header ∷ g.headers;
  placed = seen_word (next_replica g + 1) (forwarding (g.cycle + 1) a)
      ∷ seen_word (next_replica g) header ∷ g.placed;
}

-- replicas may have been made, and what was there stays
pub record Adds (g h : Gc) : Type 0 where
  pub space : h.space ≡ g.space
  pub cycle : h.cycle ≡ g.cycle
  pub epoch : h.epoch ≡ g.epoch
  pub taken : h.taken ≡ g.taken
  pub taking : h.taking ≡ g.taking
  pub copying : h.copying ≡ g.copying
  pub known : h.known ≡ g.known
  pub handed : h.handed ≡ g.handed
  pub pairs : (a : ℕ) (p : Pair) → pair_of g.pairs a ≡ Some p → pair_of h.pairs a ≡ Some p

-- the value's reference, if it is one, was named to the collector in this cycle
abbrev pub IsKnown : Gc → ℕ → Type 0
IsKnown g w = is_reference w ≡ true → among g.known (address_in w) ≡ true

abbrev pub AreKnown : Gc → List ℕ → Type 0
AreKnown g [] = Unit {0}
AreKnown g (w ∷ ws) = IsKnown g w × AreKnown g ws

-- ---- a field that is copied

-- the replica stays where it is, with as many fields
pub record IsLike (p q : Pair) : Type 0 where
  pub replica : q.replica ≡ p.replica
  pub header : q.header ≡ p.header
  pub count : length q.fields ≡ length p.fields

-- a word was found in field i of an original; what it names has a replica among these pairs, those
-- of before and perhaps one more; and the replica's field gets it, renamed. The scan fills it
pub record CopiesTo (before : List Pair) (a i : ℕ) (scans : Bool) (after : List Pair) : Type 0 where
  pub word : ℕ
  pub led : List Pair
  pub pair : Pair
  pub at : pair_of led a ≡ Some pair
  pub kept : (b : ℕ) (p : Pair) → pair_of before b ≡ Some p → pair_of led b ≡ Some p
  pub has : word_has_replica led pair.header word ≡ true
  pub is : after ≡ with_copy led a i (renamed led pair.header word) scans

-- field i of an original was copied, and no other
pub record Copied (g h : Gc) (a i : ℕ) (scans : Bool) : Type 0 where
  pub copied : CopiesTo g.pairs a i scans h.pairs
  pub space : h.space ≡ g.space
  pub cycle : h.cycle ≡ g.cycle
  pub epoch : h.epoch ≡ g.epoch
  pub taken : h.taken ≡ g.taken
  pub taking : h.taking ≡ with_load g.taking a i
  pub copying : h.copying ≡ None
  pub known : (b : ℕ) → among g.known b ≡ true → among h.known b ≡ true
  pub handed : h.handed ≡ g.handed
  pub pairs : (b : ℕ) (p : Pair) → pair_of g.pairs b ≡ Some p
      → (q : Pair) × (pair_of h.pairs b ≡ Some q) × IsLike p q
  pub filled : (p : Pair) → pair_of h.pairs a ≡ Some p → scans ≡ true
      → slice_index_or p.filled i false ≡ true

-- what stays while the fields that a record names are copied
pub record Applied (g h : Gc) : Type 0 where
  pub space : h.space ≡ g.space
  pub cycle : h.cycle ≡ g.cycle
  pub epoch : h.epoch ≡ g.epoch
  pub taken : h.taken ≡ g.taken
  pub copying : h.copying ≡ None
  pub known : (b : ℕ) → among g.known b ≡ true → among h.known b ≡ true
  pub handed : h.handed ≡ g.handed
  pub pairs : (b : ℕ) (p : Pair) → pair_of g.pairs b ≡ Some p
      → (q : Pair) × (pair_of h.pairs b ≡ Some q) × IsLike p q

-- the record was taken, and nothing is half taken or being copied; replicas stay where they were,
-- with as many fields
pub record DrainedOf (g h : Gc) (slot : ℕ) (what : Record) : Type 0 where
  pub space : h.space ≡ g.space
  pub cycle : h.cycle ≡ g.cycle
  pub epoch : h.epoch ≡ g.epoch
  pub taken : h.taken ≡ with_record g.taken slot what
  pub taking : h.taking ≡ None
  pub copying : h.copying ≡ None
  pub known : (b : ℕ) → among g.known b ≡ true → among h.known b ≡ true
  pub handed : h.handed ≡ g.handed
  pub pairs : (b : ℕ) (p : Pair) → pair_of g.pairs b ≡ Some p
      → (q : Pair) × (pair_of h.pairs b ≡ Some q) × IsLike p q

-- the close of the open cycle was taken
abbrev pub is_drained : Gc → ℕ → Bool
is_drained g slot = closes (log_of g.taken slot) == g.cycle + 1

-- the word that was found in the ring place of the slot's next record isn't that record
pub record FindsNothing (old new : View) (slot : ℕ) : Type 0 where
  pub word : ℕ
  pub did : new ≡ gc_did old (TakeLoad slot word)
  pub absent : read_record (length (log_of old.gc.taken slot)) word ≡ None
  pub taken : new.gc.taken ≡ old.gc.taken
  pub taking : new.gc.taking ≡ None
  pub left : is_drained old.gc slot ≡ false
