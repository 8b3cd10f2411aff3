-- Runs: lists of events from two empty spaces, the newest event first.
use Rattle.std.specs.Prelude.{ℕ, ◌≤◌, List, [], ◌∷◌}
use Rattle.ps_core_machine.specs.declared.events.Event.{Event}
use Rattle.ps_core_machine.specs.Steps.{State, start, happens}
use Rattle.ps_core_machine.specs.Conditions.{Permitted}

-- the state after them
abbrev pub run : ℕ → List Event → State
run space [] = start space
run space (e ∷ es) = happens (run space es) e

-- each was permitted where it happened
abbrev pub IsRun : ℕ → List Event → Type 0
IsRun space [] = Unit {0}
IsRun space (e ∷ es) = IsRun space es × Permitted (run space es) e

-- the sizes of a space
abbrev pub IsSpace : ℕ → Type 0
IsSpace space = (4096 ≤ space) × (space ≤ 1048576)

-- ---- what a law speaks of

-- every run
abbrev pub EveryRun : (ℕ → List Event → Type 0) → Type 0
EveryRun P = (space : ℕ) → IsSpace space → (events : List Event) → IsRun space events
    → P space events

-- the state that it leads to
abbrev pub Always : (State → Type 0) → Type 0
Always P = EveryRun (λ space events. P (run space events))

-- the state in which an event of this form comes
abbrev pub Whenever : {A : Type 0} → (A → Event) → (State → A → Type 0) → Type 0
Whenever form P = EveryRun (λ space events. (x : _)
    → Permitted (run space events) (form x) → P (run space events) x)

-- a run with the size of its spaces
pub record History : Type 0 where
  pub space : ℕ
  pub events : List Event
