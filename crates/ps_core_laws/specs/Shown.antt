-- What a seat knows of its part: it is that of some run; and of a word that it found.
use Rattle.std.specs.Prelude.{◌≡◌, ℕ, List, slice_index}
use Rattle.ps_core_machine.specs.declared.events.Event.{Event}
use Rattle.ps_core_machine.specs.declared.events.Vm.{Vm}
use Rattle.ps_core_laws.specs.Runs.{run, IsRun, IsSpace}

-- the part of the state that some run leads to
pub record VmRuns (v : Vm) : Type 0 where
  pub size : IsSpace v.space
  pub events : List Event
  pub is_run : IsRun v.space events
  pub is : (run v.space events).vm ≡ v

-- a word that stands at the place in the state of such a run
pub record VmFinds (v : Vm) (place word : ℕ) : Type 0 where
  pub size : IsSpace v.space
  pub events : List Event
  pub is_run : IsRun v.space events
  pub is : (run v.space events).vm ≡ v
  pub found : slice_index (run v.space events).words place ≡ word
