-- What each seat knows of its own part, whatever the other did meanwhile, and what ties the parts.
use Rattle.std.specs.Prelude.{◌≡◌, ◌≢◌, ℕ, ◌+◌, ◌<◌, ◌≤◌, ◌==◌, Bool, true, false, List, [], ◌∷◌}
use Rattle.std.specs.Prelude.{length, Some, None, MatchBool, MatchOption, slice_get, slice_index}
use Rattle.ps_word.specs.Headers.{kind_in, birth_in, birth_limit, cycle_limit}
use Rattle.ps_record.specs.declared.Record.{Record}
use Rattle.ps_record.specs.Format.{slots, ring_length, ring_place, lap_in, lap_of, IsRecord}
use Rattle.ps_record.specs.Format.{log_limit}
use Rattle.ps_core_machine.specs.declared.events.Object.{Object}
use Rattle.ps_core_machine.specs.declared.events.Carried.{Carried}
use Rattle.ps_core_machine.specs.declared.events.Half.{Half}
use Rattle.ps_core_machine.specs.declared.events.Vm.{Vm}
use Rattle.ps_core_machine.specs.declared.events.Gc.{Gc}
use Rattle.ps_core_machine.specs.Objects.{among, object_at, seen_at, log_of, closes, is_close}
use Rattle.ps_core_machine.specs.Steps.{State, is_open, space_base}
use Rattle.ps_core_machine.specs.Conditions.{IsPairField}
use Rattle.ps_core_laws.specs.Runs.{IsSpace}
use Rattle.ps_core_laws.specs.Places.{IsHeaded, ObjectsLie, ObjectsApart, AreDistinct, IsTight}
use Rattle.ps_core_laws.specs.Places.{ReplicasLie, ReplicasApart, AreTight, LeadBack}

-- ---- the mutator's part

-- a cycle is open or none is, and its number is below the limit
pub record CycleKept (cycle epoch : ℕ) : Type 0 where
  pub low : cycle ≤ epoch
  pub high : epoch ≤ cycle + 1
  pub small : epoch < cycle_limit

-- birth numbers were given out before; but for bodies, no two objects have the same
pub record BirthsKept (v : Vm) : Type 0 where
  pub given : (a : ℕ) (o : Object) → object_at v.objects a ≡ Some o
      → birth_in o.header < v.next_birth
  pub single : (a b : ℕ) (o p : Object) → object_at v.objects a ≡ Some o
      → object_at v.objects b ≡ Some p → kind_in o.header ≢ 11 → kind_in p.header ≢ 11
      → birth_in o.header ≡ birth_in p.header → a ≡ b
  pub limit : v.next_birth ≤ birth_limit

-- a dictionary with this birth number stands
abbrev pub HasDictionary : List Object → ℕ → Type 0
HasDictionary objects birth = (a : ℕ) × (o : Object) × (object_at objects a ≡ Some o)
    × (kind_in o.header ≡ 8) × (birth_in o.header ≡ birth)

-- an object is made with the next birth number, and a body with that of a standing dictionary
abbrev pub IsNumbered : State → ℕ → Type 0
IsNumbered s header = MatchBool (kind_in header == 11)
    (HasDictionary s.vm.objects (birth_in header)) (birth_in header ≡ s.vm.next_birth)

-- the last record is a close
abbrev pub ends_closed : List Record → Bool
ends_closed [] = false
ends_closed (r ∷ []) = is_close r
ends_closed (r ∷ s ∷ rest) = ends_closed (s ∷ rest)

-- the slot's log: the head last loaded is within it and at most a ring behind; it was closed
-- in each cycle that was flipped, at most once in the open one, and ends then with that close; of
-- places it has at most as many as may be; its records are of the format
pub record LogKept (v : Vm) (slot : ℕ) : Type 0 where
  pub seen : slice_index v.heads slot ≤ length (log_of v.logs slot)
  pub room : length (log_of v.logs slot) ≤ slice_index v.heads slot + ring_length
  pub short : length (log_of v.logs slot) ≤ log_limit + v.epoch
  pub flipped : v.cycle ≤ closes (log_of v.logs slot)
  pub opened : closes (log_of v.logs slot) ≤ v.epoch
  pub shut : v.cycle < v.epoch → closes (log_of v.logs slot) ≡ v.epoch
      → ends_closed (log_of v.logs slot) ≡ true
  pub records : (k : ℕ) (r : Record) → slice_get (log_of v.logs slot) k ≡ Some r → IsRecord r

pub record LogsKept (v : Vm) : Type 0 where
  pub heads : length v.heads ≡ slots
  pub logs : length v.logs ≡ slots
  pub each : (slot : ℕ) → slot < slots → LogKept v slot

-- where an object is being made, its cleared words are in the space, behind what stands
abbrev pub IsMaking : Vm → Type 0
IsMaking v = 0 < v.making → v.end + v.making < space_base v.space v.cycle + v.space

pub record VmKnows (v : Vm) : Type 0 where
  pub size : IsSpace v.space
  pub cycles : CycleKept v.cycle v.epoch
  pub births : BirthsKept v
  pub logs : LogsKept v
  pub lie : ObjectsLie v
  pub apart : ObjectsApart v.objects
  pub distinct : AreDistinct v.objects
  pub tight : IsTight v
  pub whole : v.end ≤ space_base v.space v.cycle + v.space
  pub making : IsMaking v
  -- outside a cycle nothing is unlogged
  pub quiet : is_open v ≡ false → v.written ≡ None

-- ---- the collector's part

-- what was named in this cycle has its two headers in the current space
abbrev pub KnownLie : Gc → Type 0
KnownLie g = (a : ℕ) → among g.known a ≡ true
    → (space_base g.space g.cycle ≤ a) × (a + 2 ≤ space_base g.space g.cycle + g.space)

abbrev pub HeadersKept : Gc → Type 0
HeadersKept g = (a header : ℕ) → seen_at g.headers a ≡ Some header → IsHeaded header

-- the record being taken is one of the format, and has a slot
abbrev pub TakingKept : Gc → Type 0
TakingKept g = (h : Half) → g.taking ≡ Some h → (h.slot < slots) × IsRecord h.what

-- the place being copied is a field of an original
abbrev pub CopyingKept : Gc → Type 0
CopyingKept g = (k : Carried) → g.copying ≡ Some k → IsPairField g k.address k.field

pub record GcKnows (g : Gc) : Type 0 where
  pub size : IsSpace g.space
  pub cycles : CycleKept g.cycle g.epoch
  pub taken : length g.taken ≡ slots
  pub taking : TakingKept g
  pub copying : CopyingKept g
  pub known : KnownLie g
  pub headers : HeadersKept g
  pub lie : ReplicasLie g
  pub apart : ReplicasApart g.pairs
  pub tight : AreTight g

-- ---- both

-- the record being taken is the next of its log
abbrev pub IsNext : State → Half → Type 0
IsNext s h = slice_get (log_of s.vm.logs h.slot) (length (log_of s.gc.taken h.slot)) ≡ Some h.what

-- a ring place that has yet to be written has the other lap bit
abbrev pub Unwritten : State → Type 0
Unwritten s = (slot k : ℕ) → slot < slots → length (log_of s.vm.logs slot) ≤ k
    → k < length (log_of s.vm.logs slot) + ring_length
    → lap_in (slice_index s.words (ring_place slot k)) ≢ lap_of k

-- what was named in this cycle stands, and isn't new
abbrev pub KnownStand : State → Type 0
KnownStand s = (a : ℕ) → among s.gc.known a ≡ true
    → (object_at s.vm.objects a ≢ None) × (among s.vm.fresh a ≡ false)

abbrev pub HasHeader : ℕ → Object → Type 0
HasHeader header o = o.header ≡ header

-- the first headers that were loaded are those of what stands
abbrev pub HeadersStand : State → Type 0
HeadersStand s = (a header : ℕ) → seen_at s.gc.headers a ≡ Some header
    → MatchOption (object_at s.vm.objects a) ⊥ (HasHeader header)

-- the parts agree on the space and the cycle; what a part knows of the other was so
pub record PartsMeet (s : State) : Type 0 where
  pub space : s.gc.space ≡ s.vm.space
  pub cycle : s.gc.cycle ≡ s.vm.cycle
  pub epoch : s.gc.epoch ≤ s.vm.epoch
  pub heads : (slot : ℕ) → slot < slots
      → slice_index s.vm.heads slot ≤ length (log_of s.gc.taken slot)
  pub next : (h : Half) → s.gc.taking ≡ Some h → IsNext s h
  pub unwritten : Unwritten s
  pub known : KnownStand s
  pub headers : HeadersStand s
  pub back : LeadBack s

pub record Kept (s : State) : Type 0 where
  pub mutator : VmKnows s.vm
  pub collector : GcKnows s.gc
  pub both : PartsMeet s
