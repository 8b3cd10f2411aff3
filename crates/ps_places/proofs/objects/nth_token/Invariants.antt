use Rattle.std.proofs.Common.{◌≡◌, ◌-◌, length}
use Rattle.std.specs.Prelude.{slice_get}
use Rattle.ps_places.specs.Objects.{token_places}
use Rattle.ps_places.proofs.objects.nth_token.Given as goal

-- what is looked for is left
abbrev pub invariant-loop-token : goal.invariant-loop-token
invariant-loop-token l =
    slice_get (token_places l.text l.place) l.left ≡ slice_get (token_places l.fn.text l.fn.at) l.fn.index

abbrev pub decreases-loop-token : goal.decreases-loop-token
decreases-loop-token l = length l.text - l.place
