-- What a cycle copies: where nothing is stored meanwhile, just what is reachable from the roots.
use Rattle.std.specs.Prelude.{◌≡◌, ◌≢◌, ◌↔◌, ℕ, ◌<◌, Bool, true, false, List, [], ◌∷◌, ◌++◌, length}
use Rattle.std.specs.Prelude.{Some, None, slice_index}
use Rattle.ps_word.specs.Format.{address_in}
use Rattle.ps_word.specs.Readers.{is_reference}
use Rattle.ps_core_machine.specs.declared.events.Event.{Event}
use Rattle.ps_core_machine.specs.declared.events.Event.TheVariants.{HandOver, HeaderStore, FieldStore}
use Rattle.ps_core_machine.specs.declared.events.Event.TheVariants.{EpochStore, CycleStore}
use Rattle.ps_core_machine.specs.declared.events.Object.{Object}
use Rattle.ps_core_machine.specs.declared.events.Pair.{Pair}
use Rattle.ps_core_machine.specs.Objects.{among, addresses_named, object_at, pair_of, holds_values}
use Rattle.ps_core_machine.specs.Steps.{State, is_open}
use Rattle.ps_core_machine.specs.Conditions.{Permitted}
use Rattle.ps_core_laws.specs.Runs.{run}

-- ---- references

-- field i of the object is a value that refers to an object
pub record Refers (o : Object) (i : ℕ) : Type 0 where
  pub within : i < length o.fields
  pub value : holds_values o.header ≡ true
  pub reference : is_reference (slice_index o.fields i) ≡ true

-- the address that it names
abbrev pub named_by : Object → ℕ → ℕ
named_by o i = address_in (slice_index o.fields i)

-- the addresses that are reachable: those that the roots name, and those that objects there name
pub data Reach (objects : List Object) (roots : List ℕ) : ℕ → Type 0 where
  root : (a : ℕ) → among (addresses_named roots) a ≡ true → Reach objects roots a
  through : (a i : ℕ) (o : Object) → Reach objects roots a → object_at objects a ≡ Some o
      → Refers o i → Reach objects roots (named_by o i)

-- ---- what was done since the last cycle was opened, the newest event first

-- whether a field or a first header was stored
abbrev pub stored_since : List Event → Bool
stored_since [] = false
stored_since (EpochStore ∷ events) = false
stored_since (FieldStore a i w ∷ events) = true
stored_since (HeaderStore header ∷ events) = true
stored_since (e ∷ events) = stored_since events

-- the roots handed over
abbrev pub handed_since : List Event → List ℕ
handed_since [] = []
handed_since (EpochStore ∷ events) = []
handed_since (HandOver word roots ∷ events) = roots ++ handed_since events
handed_since (e ∷ events) = handed_since events

-- the parts note both, the roots as long as the cycle is open
pub record Notes (s : State) (events : List Event) : Type 0 where
  pub stored : s.vm.stored ≡ stored_since events
  pub handed : is_open s.vm ≡ true → s.gc.handed ≡ handed_since events
  pub shut : is_open s.vm ≡ false → s.gc.handed ≡ []

abbrev pub AreNoted : ℕ → List Event → Type 0
AreNoted space events = Notes (run space events) events

-- ---- what has a replica when a flip comes

-- what an object that has a replica names has one too
abbrev pub Carries : State → List ℕ → Type 0
Carries s roots = (a i : ℕ) (o : Object) (p : Pair) → object_at s.vm.objects a ≡ Some o
    → pair_of s.gc.pairs a ≡ Some p → Refers o i → pair_of s.gc.pairs (named_by o i) ≢ None

abbrev pub NameTheSame : List ℕ → List ℕ → Type 0
NameTheSame xs ys = (a : ℕ) → among (addresses_named xs) a ≡ among (addresses_named ys) a

-- just what is reachable from the roots
abbrev pub ReachableHave : State → List ℕ → Type 0
ReachableHave s roots = (a : ℕ) → (pair_of s.gc.pairs a ≢ None) ↔ Reach s.vm.objects roots a

-- in a cycle without stores, where the flip carries what was handed over
abbrev pub CopiesReachable : ℕ → List Event → Type 0
CopiesReachable space events = (roots : List ℕ) → Permitted (run space events) (CycleStore roots)
    → stored_since events ≡ false → NameTheSame (handed_since events) roots
    → ReachableHave (run space events) roots
