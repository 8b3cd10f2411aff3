-- What a turn leaves to the world.
use Rattle.std.specs.Prelude.{◌≡◌, Bool, true, false, if◌then◌else◌}
use Rattle.std.proofs.Common.{ap, ◌∙◌}
use Rattle.std.proofs.lemmas.Bool.{true≢false}
use Rattle.ps_language.specs.Effect.{Scene, Calling}
use Rattle.ps_language.specs.Machines.{with_scene, Reached, reaches, leaves_to_world, after_turn}
use Rattle.ps_language.specs.Objects.{lacks_room}
use Rattle.ps_language.specs.StepValues.{Turn, goes, tries, breaks, errs, asks as leaves_to}
use Rattle.ps_language.specs.World.{running, Machine}

is_reached : Reached → Bool
is_reached (reaches machine) = true
is_reached (leaves_to_world calling machine) = false

pub reaches≢leaves : (one other : Machine) (calling : Calling)
    → reaches one ≡ leaves_to_world calling other → ⊥
unfolding is_reached
reaches≢leaves one other calling same = true≢false (ap is_reached same)

either_reaches : (lacks : Bool) (one other left : Machine) (calling : Calling)
    → (if lacks then reaches one else reaches other) ≡ leaves_to_world calling left → ⊥
either_reaches true one other left calling same = reaches≢leaves one left calling same
either_reaches false one other left calling same = reaches≢leaves other left calling same

calling_in : Calling → Reached → Calling
calling_in other (reaches machine) = other
calling_in other (leaves_to_world calling machine) = calling

machine_in : Machine → Reached → Machine
machine_in other (reaches machine) = machine
machine_in other (leaves_to_world calling machine) = machine

-- the turn asks for the operator
pub record IsLeft (machine : Machine) (turn : Turn) (calling : Calling) (left : Machine) : Type 0
  where
    pub kept : Scene
    pub asks : turn ≡ leaves_to calling kept
    pub is : with_scene kept running machine ≡ left

pub left_by : (refused : Bool) (machine : Machine) (turn : Turn) (calling : Calling)
    (left : Machine) → after_turn refused machine turn ≡ leaves_to_world calling left
    → IsLeft machine turn calling left
unfolding calling_in machine_in
left_by refused machine (goes scene output) calling left same =
    absurd (reaches≢leaves _ left calling same)
left_by refused machine (tries command kept scene output) calling left same =
    absurd (either_reaches (lacks_room refused kept.store scene.store) _ _ left calling same)
left_by refused machine (breaks cause scene) calling left same =
    absurd (reaches≢leaves _ left calling same)
left_by refused machine (errs error command kept) calling left same =
    absurd (reaches≢leaves _ left calling same)
left_by refused machine (leaves_to other kept) calling left same = record {
  kept = kept;
  asks = ap (λ (c : Calling). leaves_to c kept) (ap (calling_in calling) same);
  is = ap (machine_in machine) same;
}

-- refused or not
pub leaves_whatever : (other : Bool) (machine : Machine) (turn : Turn) (calling : Calling)
    (left : Machine) → IsLeft machine turn calling left
    → after_turn other machine turn ≡ leaves_to_world calling left
leaves_whatever other machine turn calling left is =
    ap (after_turn other machine) is.asks ∙ ap (leaves_to_world calling) is.is
