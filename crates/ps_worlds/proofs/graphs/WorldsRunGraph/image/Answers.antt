use Rattle.std.proofs.lemmas.Result.{IfOk-weaker}
use Rattle.ps_worlds.proofs.Following.{image_at}
use Rattle.ps_worlds.proofs.graphs.WorldsRunGraph.image.Goals as goal

pub returns-clause-image : goal.returns-clause-image
returns-clause-image g c =
    IfOk-weaker c.image.result _ _
    (λ image of made at. image_at _ _ _ _ image made c.requires.same c.as_slice.ensures.value of
    at) c.image.ensures
