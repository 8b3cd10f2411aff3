-- The object of the number among those of the token.
use Rattle.std.proofs.Common.{sym, ◌≤◌, length, arith}
use Rattle.std.proofs.lemmas.Option.{slice_get_past}
use Rattle.ps_places.specs.Objects.{objects_at, object_begin}
use Rattle.ps_places.proofs.objects.object_begin.Goals as goal

pub returns-in-Begins : goal.returns-in-Begins
unfolding object_begin
returns-in-Begins c = sym c.in-Begins.ensures

pub returns-in-Behind : goal.returns-in-Behind
unfolding object_begin
returns-in-Behind c =
    let objects = objects_at 33 c.args.text.now c.args.begin in
    let past : length objects ≤ c.args.object = omega (arith, c.in-Behind.ensures) in
    sym (slice_get_past objects c.args.object past)
