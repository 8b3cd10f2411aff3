use Rattle.std.proofs.Common.{◌≡◌, ◌+◌, ◌-◌, ◌*◌, ℕ, List, ◌++◌, length}
use Rattle.std.specs.List.{flat_map}
use Rattle.ps_places.specs.Objects.{token_places, objects_at}
use Rattle.ps_places.proofs.objects.+objects.Given as goal

abbrev pub decreases-seek_at : goal.decreases-seek_at
decreases-seek_at l = 2 * l.room

abbrev pub decreases-seek_within : goal.decreases-seek_within
decreases-seek_within l = 2 * l.room + 1

-- the objects of some tokens were looked through
abbrev pub invariant-seek_within-loop-token : goal.invariant-seek_within-loop-token
invariant-seek_within-loop-token l = (front : List ℕ)
    × (token_places l.fn.text l.fn.at ≡ front ++ token_places l.text l.place)
    × (l.fn.number ≡ length (flat_map (objects_at l.room l.text) front) + l.left)

abbrev pub decreases-seek_within-loop-token : goal.decreases-seek_within-loop-token
decreases-seek_within-loop-token l = length l.text - l.place
