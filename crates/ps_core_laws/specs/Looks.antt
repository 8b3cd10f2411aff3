-- Events that only look, and the flip.
use Rattle.std.specs.Prelude.{ℕ, ◌≡◌, ◌≤◌, Bool, true, false, List, ◌++◌, length}
use Rattle.std.specs.List.{list_all}
use Rattle.ps_core_machine.specs.declared.events.Event.{Event}
use Rattle.ps_core_machine.specs.declared.events.Event.TheVariants.{VmLoad, GcLoad, CycleStore}

-- a load, or the flip
abbrev pub is_look_or_flip : Event → Bool
is_look_or_flip (VmLoad place word) = true
is_look_or_flip (GcLoad place word) = true
is_look_or_flip (CycleStore roots) = true
is_look_or_flip _ = false

-- at most so many events more, each a load or the flip
pub record OnlyLooks (most : ℕ) (old new : List Event) : Type 0 where
  pub more : List Event
  pub is : new ≡ more ++ old
  pub looks : list_all is_look_or_flip more ≡ true
  pub few : length more ≤ most
