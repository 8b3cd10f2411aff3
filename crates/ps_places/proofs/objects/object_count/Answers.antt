-- As many as lie before the number behind all of them.
use Rattle.std.proofs.Common.{arith}
use Rattle.std.proofs.lemmas.Option.{slice_get_within}
use Rattle.ps_places.specs.Objects.{objects_at, object_count}
use Rattle.ps_places.proofs.objects.object_count.Goals as goal

pub returns-in-Begins : goal.returns-in-Begins
unfolding object_count
returns-in-Begins c =
    let within = slice_get_within (objects_at 33 c.args.text.now c.args.begin) _ _ c.in-Begins.ensures in
    omega (arith, within)

pub returns-in-Behind : goal.returns-in-Behind
unfolding object_count
returns-in-Behind c = omega (arith, c.in-Behind.ensures)
