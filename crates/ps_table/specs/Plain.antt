-- Words that one seat steps through by itself: its view tells the run, and the run tells the words.
use Rattle.std.specs.Prelude.{◌≡◌, ℕ, true, List, [], length, Some, is_some, slice_set}
use mathlib.Core.Option.{none, some}
use lib.ListN.{get_elem?}
use base.Stored.{coded_unit}
use Rattle.std.specs.Coded.{Coded-set, coded_ℕ, coded_bool, coded_list, coded×}
use Rattle.atomic_table.specs.Seated.{TableId, table_id_coded}
use Rattle.atomic_table.specs.declared.shared.Seat.{Seat}
use Rattle.atomic_table.specs.Table as table
use Rattle.ps_core_machine.specs.declared.events.Event.{Event}
use Rattle.ps_core_laws.specs.Runs.{run, IsRun, IsSpace}
use Rattle.ps_table.specs.declared.plays.View.{View}
use Rattle.ps_table.specs.Shown.{Fits, SeatState}

-- the view's run, where it is known, is one that fits the view
pub record Notes (space : ℕ) (events : List Event) (v : View) : Type 0 where
  pub size : IsSpace space
  pub is_run : IsRun space events
  pub fits : Fits space events 0 0 0 v

-- the rule of the table that a seat notes its steps by: so are the views of all seats
abbrev pub AreNoted : ℕ → table.State (Unit {0}) View → Type 0
AreNoted space s = (at : ℕ) (v : View) → get_elem? s.views at ≡ some v → (events : List Event)
    → v.whole ≡ Some events → Notes space events v

-- these are the words of the run that a seat knows
pub record ShowWords (space : ℕ) (items : List ℕ) (v : View) : Type 0 where
  pub known : is_some v.whole ≡ true
  pub words_are : (events : List Event) → v.whole ≡ Some events → items ≡ (run space events).words

-- the seat is at words that are noted by a table
pub record IsAt (noted_by : TableId) (space : ℕ) (items : List ℕ) (s : Seat (Unit {0}) View)
    : Type 0 where
  pub seated : s.table_id ≡ noted_by
  pub empty : s.me.1 ≡ []
  pub shown : ShowWords space items s.me.0

-- a step of a play came to this word, which stands at the place then
abbrev pub DoesPlay : (space : ℕ)
    → (then : table.Step (Unit {0}) → SeatState → ℕ → SeatState → Type 0)
    → (place first word : ℕ) → (items : List ℕ) → (m m' : SeatState) → Type 0
DoesPlay space then place first word items m m' =
    then (table.step 0 place first 0 none) m word m' × (m'.1 ≡ [])
    × ShowWords space (slice_set items place word) m'.0

-- the table that such words stand for: it has as many words
abbrev pub noted_id : TableId → List ℕ → TableId
noted_id noted_by items = record noted_by { words = length items }

-- a seat is at such words in one way
pub is_at_once : (noted_by : TableId) (space : ℕ) (items : List ℕ) (s : Seat (Unit {0}) View)
    → IsProp (IsAt noted_by space items s)
is_at_once noted_by space items s x y i = record {
  seated = Coded-set table_id_coded s.table_id noted_by x.seated y.seated i;
  empty = Coded-set (coded_list (coded× coded_ℕ coded_unit)) s.me.1 [] x.empty y.empty i;
  shown = record {
    known = Coded-set coded_bool (is_some s.me.0.whole) true x.shown.known y.shown.known i;
    words_are = λ events known. Coded-set (coded_list coded_ℕ) items (run space events).words
        (x.shown.words_are events known) (y.shown.words_are events known) i;
  };
}
