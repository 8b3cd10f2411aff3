-- The rule of the table: some interleaving of the seats' own events is a run, its state has the
-- words, and the parts that the seats know are that state's.
use Rattle.std.specs.Prelude.{◌≡◌, ℕ, ◌-◌, ◌/◌, ◌==◌, Bool, true, false, List, [], ◌∷◌, Option}
use Rattle.std.specs.Prelude.{Some, None, is_some, slice_index, if◌then◌else◌}
use Rattle.std.specs.List.{filter}
use Rattle.std.specs.Option.{option_map}
use mathlib.Core.Option.{some}
use lib.ListN.{get_elem?}
use Rattle.atomic_table.specs.Table as table
use Rattle.ps_record.specs.Format.{control_words, ring_length, record_in}
use Rattle.ps_word.specs.Headers.{forward_address_in}
use Rattle.ps_core_machine.specs.declared.events.Event.{Event}
use Rattle.ps_core_machine.specs.declared.events.Event.TheVariants.{VmLoad, GcLoad, TakeLoad}
use Rattle.ps_core_machine.specs.declared.events.Event.TheVariants.{CopyLoad, HandOver, ClearLoad}
use Rattle.ps_core_machine.specs.declared.events.Event.TheVariants.{ClearStore, HeaderStore}
use Rattle.ps_core_machine.specs.declared.events.Event.TheVariants.{FieldStore, RecordStore}
use Rattle.ps_core_machine.specs.declared.events.Event.TheVariants.{EpochStore, ReplicaHeaderStore}
use Rattle.ps_core_machine.specs.declared.events.Event.TheVariants.{ReplicaFieldStore, ForwardStore}
use Rattle.ps_core_machine.specs.declared.events.Event.TheVariants.{HeadStore, CycleStore}
use Rattle.ps_core_machine.specs.declared.events.Vm.{Vm}
use Rattle.ps_core_machine.specs.declared.events.Gc.{Gc}
use Rattle.ps_core_machine.specs.Steps.{start, vm_after, gc_after}
use Rattle.ps_core_laws.specs.Runs.{run, IsRun, IsSpace}
use Rattle.ps_core_laws.specs.Shown.{VmRuns, VmFinds}
use Rattle.ps_table.specs.declared.plays.View.{View}

-- ---- who makes an event: one seat, or both joined

abbrev pub by_vm : Event → Bool
by_vm (VmLoad place word) = true
by_vm (GcLoad place word) = false
by_vm (TakeLoad slot word) = false
by_vm (CopyLoad a i word) = false
by_vm (HandOver word roots) = true
by_vm ClearLoad = true
by_vm ClearStore = true
by_vm (HeaderStore header) = true
by_vm (FieldStore a i w) = true
by_vm (RecordStore slot r) = true
by_vm EpochStore = true
by_vm (ReplicaHeaderStore place word) = false
by_vm (ReplicaFieldStore scans) = false
by_vm (ForwardStore a c) = false
by_vm HeadStore = false
by_vm (CycleStore roots) = true

abbrev pub by_gc : Event → Bool
by_gc (VmLoad place word) = false
by_gc (GcLoad place word) = true
by_gc (TakeLoad slot word) = true
by_gc (CopyLoad a i word) = true
by_gc (HandOver word roots) = true
by_gc ClearLoad = false
by_gc ClearStore = false
by_gc (HeaderStore header) = false
by_gc (FieldStore a i w) = false
by_gc (RecordStore slot r) = false
by_gc EpochStore = false
by_gc (ReplicaHeaderStore place word) = true
by_gc (ReplicaFieldStore scans) = true
by_gc (ForwardStore a c) = true
by_gc HeadStore = true
by_gc (CycleStore roots) = true

-- ---- the rule

-- what a run gives to a view; at most one seat has each part
pub record Fits (space : ℕ) (events : List Event) (vm_at gc_at at : ℕ) (v : View) : Type 0 where
  pub vm_here : v.acts_vm ≡ true → at ≡ vm_at
  pub vm_list : v.acts_vm ≡ true → filter by_vm events ≡ v.vm_events
  pub vm_is : v.acts_vm ≡ true → (run space events).vm ≡ v.vm
  pub gc_here : v.acts_gc ≡ true → at ≡ gc_at
  pub gc_list : v.acts_gc ≡ true → filter by_gc events ≡ v.gc_events
  pub gc_is : v.acts_gc ≡ true → (run space events).gc ≡ v.gc
  pub whole_is : (es : List Event) → v.whole ≡ Some es
      → (events ≡ es) × (v.acts_vm ≡ true) × (v.acts_gc ≡ true)

pub record Shows (space : ℕ) (s : table.State (Unit {0}) View) : Type 0 where
  pub size : IsSpace space
  pub events : List Event
  pub vm_at : ℕ
  pub gc_at : ℕ
  pub is_run : IsRun space events
  pub words_are : s.words ≡ (run space events).words
  pub each_view : (at : ℕ) (v : View) → get_elem? s.views at ≡ some v
      → Fits space events vm_at gc_at at v

-- ---- views

abbrev pub first_view : ℕ → View
first_view space = record {
  acts_vm = true;
  acts_gc = true;
  vm_events = [];
  gc_events = [];
  vm = (start space).vm;
  gc = (start space).gc;
  whole = Some [];
}

abbrev pub spent_view : View
spent_view = record (first_view 0) { acts_vm = false; acts_gc = false; whole = None }

abbrev pub vm_side : View → View
vm_side v = record v { acts_gc = false; gc_events = []; gc = (start 0).gc; whole = None }

abbrev pub gc_side : View → View
gc_side v = record v { acts_vm = false; vm_events = []; vm = (start 0).vm; whole = None }

abbrev pub both_sides : View → View → View
both_sides v w =
    record v { acts_gc = w.acts_gc; gc_events = w.gc_events; gc = w.gc; whole = None }

abbrev pub same_view : View → View
same_view v = v

abbrev pub no_view : View → View
no_view v = spent_view

-- a run that is known is one event longer
abbrev pub longer : Event → Option (List Event) → Option (List Event)
longer e whole = option_map (λ es. e ∷ es) whole

-- the view after an event of the mutator's, of the collector's, and of both
abbrev pub vm_did : View → Event → View
vm_did v e = record v {
  vm_events = e ∷ v.vm_events;
  vm = vm_after v.vm v.gc e;
  whole = longer e v.whole;
}

abbrev pub gc_did : View → Event → View
gc_did v e = record v {
  gc_events = e ∷ v.gc_events;
  gc = gc_after v.gc v.vm e;
  whole = longer e v.whole;
}

abbrev pub both_did : View → Event → View
both_did v e = record v {
  vm_events = e ∷ v.vm_events;
  gc_events = e ∷ v.gc_events;
  vm = vm_after v.vm v.gc e;
  gc = gc_after v.gc v.vm e;
  whole = longer e v.whole;
}

-- both seats joined, then an event of both, then apart again
pub record AreJoined (vm gc vm_new gc_new : View) (e : Event) : Type 0 where
  pub vm_is : vm_new ≡ vm_side (both_did (both_sides vm gc) e)
  pub gc_is : gc_new ≡ gc_side (both_did (both_sides vm gc) e)

-- ---- what the collector's seat knows of its part: it is that of some run; and of a word that it
-- found: it stood at that place in some run with that part

pub record GcRuns (g : Gc) : Type 0 where
  pub size : IsSpace g.space
  pub events : List Event
  pub is_run : IsRun g.space events
  pub is : (run g.space events).gc ≡ g

pub record GcFinds (g : Gc) (place word : ℕ) : Type 0 where
  pub size : IsSpace g.space
  pub events : List Event
  pub is_run : IsRun g.space events
  pub is : (run g.space events).gc ≡ g
  pub found : slice_index (run g.space events).words place ≡ word

-- the same of both parts
pub record BothFind (v : Vm) (g : Gc) (place word : ℕ) : Type 0 where
  pub size : IsSpace v.space
  pub events : List Event
  pub is_run : IsRun v.space events
  pub vm_is : (run v.space events).vm ≡ v
  pub gc_is : (run v.space events).gc ≡ g
  pub found : slice_index (run v.space events).words place ≡ word

-- some run leads to both parts
pub record BothRun (v : Vm) (g : Gc) : Type 0 where
  pub size : IsSpace v.space
  pub events : List Event
  pub is_run : IsRun v.space events
  pub vm_is : (run v.space events).vm ≡ v
  pub gc_is : (run v.space events).gc ≡ g

-- ---- what each step tells

-- a seat at the table: its view, and what it holds
abbrev pub SeatState : Type 0
SeatState = table.Me (Unit {0}) View

-- the mutator's seat makes the event; its part is that of a run before it and after it. Where the
-- seat has the other part too, both are of the run in which the word was found
pub record VmDoes (m : SeatState) (place found : ℕ) (e : Event) (m' : SeatState) : Type 0 where
  pub did : m' ≡ (vm_did m.0 e, m.1)
  pub finds : VmFinds m.0.vm place found
  pub both : m.0.acts_gc ≡ true → BothFind m.0.vm m.0.gc place found
  pub runs : VmRuns m'.0.vm

pub record GcDoes (m : SeatState) (place found : ℕ) (e : Event) (m' : SeatState) : Type 0 where
  pub did : m' ≡ (gc_did m.0 e, m.1)
  pub finds : GcFinds m.0.gc place found
  pub both : m.0.acts_vm ≡ true → BothFind m.0.vm m.0.gc place found
  pub runs : GcRuns m'.0.gc

pub record VmStores (m : SeatState) (e : Event) (m' : SeatState) : Type 0 where
  pub did : m' ≡ (vm_did m.0 e, m.1)
  pub runs : VmRuns m'.0.vm

pub record GcStores (m : SeatState) (e : Event) (m' : SeatState) : Type 0 where
  pub did : m' ≡ (gc_did m.0 e, m.1)
  pub runs : GcRuns m'.0.gc

pub record BothDo (m : SeatState) (e : Event) (m' : SeatState) : Type 0 where
  pub did : m' ≡ (both_did m.0 e, m.1)
  pub from : BothRun m.0.vm m.0.gc
  pub vm_runs : VmRuns m'.0.vm
  pub gc_runs : GcRuns m'.0.gc

-- both seats joined look at a word, as the mutator's
pub record BothLook (m : SeatState) (place found : ℕ) (m' : SeatState) : Type 0 where
  pub did : m' ≡ (vm_did m.0 (VmLoad place found), m.1)
  pub finds : BothFind m.0.vm m.0.gc place found

-- where the whole run is known before a step that tells this, it is known after it
abbrev pub GoesOnKnown : SeatState → (SeatState → Type 0) → Type 0
GoesOnKnown m tells = (m' : SeatState) → tells m' → is_some m'.0.whole ≡ is_some m.0.whole

abbrev pub slot_at : ℕ → ℕ
slot_at place = (place - control_words) / ring_length

abbrev pub vm_loads : table.Step (Unit {0}) → SeatState → ℕ → SeatState → Type 0
vm_loads st m n m' = VmDoes m st.word n (VmLoad st.word n) m'

-- a look at the next word of an object being made clears it where it is zero
abbrev pub looked : ℕ → ℕ → Event
looked place found = if found == 0 then ClearLoad else VmLoad place found

abbrev pub finds_clear : table.Step (Unit {0}) → SeatState → ℕ → SeatState → Type 0
finds_clear st m n m' = VmDoes m st.word n (looked st.word n) m'

abbrev pub clears : table.Step (Unit {0}) → SeatState → ℕ → SeatState → Type 0
clears st m n m' = VmStores m ClearStore m'

abbrev pub makes : table.Step (Unit {0}) → SeatState → ℕ → SeatState → Type 0
makes st m n m' = VmStores m (HeaderStore st.first) m'

abbrev pub stores_field : ℕ → ℕ → table.Step (Unit {0}) → SeatState → ℕ → SeatState → Type 0
stores_field a i st m n m' = VmStores m (FieldStore a i st.first) m'

abbrev pub records : table.Step (Unit {0}) → SeatState → ℕ → SeatState → Type 0
records st m n m' = VmStores m (RecordStore (slot_at st.word) (record_in st.first)) m'

abbrev pub opens_cycle : table.Step (Unit {0}) → SeatState → ℕ → SeatState → Type 0
opens_cycle st m n m' = VmStores m EpochStore m'

abbrev pub gc_loads : table.Step (Unit {0}) → SeatState → ℕ → SeatState → Type 0
gc_loads st m n m' = GcDoes m st.word n (GcLoad st.word n) m'

abbrev pub takes : table.Step (Unit {0}) → SeatState → ℕ → SeatState → Type 0
takes st m n m' = GcDoes m st.word n (TakeLoad (slot_at st.word) n) m'

abbrev pub copies_field : ℕ → ℕ → table.Step (Unit {0}) → SeatState → ℕ → SeatState → Type 0
copies_field a i st m n m' = GcDoes m st.word n (CopyLoad a i n) m'

abbrev pub stores_copy : Bool → table.Step (Unit {0}) → SeatState → ℕ → SeatState → Type 0
stores_copy scans st m n m' = GcStores m (ReplicaFieldStore scans) m'

abbrev pub places_header : table.Step (Unit {0}) → SeatState → ℕ → SeatState → Type 0
places_header st m n m' = GcStores m (ReplicaHeaderStore st.word st.first) m'

abbrev pub forwards : table.Step (Unit {0}) → SeatState → ℕ → SeatState → Type 0
forwards st m n m' = GcStores m (ForwardStore (st.word - 1) (forward_address_in st.first)) m'

abbrev pub advances : table.Step (Unit {0}) → SeatState → ℕ → SeatState → Type 0
advances st m n m' = GcStores m HeadStore m'

abbrev pub hands : List ℕ → table.Step (Unit {0}) → SeatState → ℕ → SeatState → Type 0
hands roots st m n m' = BothDo m (HandOver n roots) m'

abbrev pub looks : table.Step (Unit {0}) → SeatState → ℕ → SeatState → Type 0
looks st m n m' = BothLook m st.word n m'

abbrev pub flips : List ℕ → table.Step (Unit {0}) → SeatState → ℕ → SeatState → Type 0
flips roots st m n m' = BothDo m (CycleStore roots) m'
