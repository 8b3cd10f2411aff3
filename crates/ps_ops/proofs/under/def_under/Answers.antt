-- By what its own contract says.
use Rattle.std.proofs.Common.{refl}
use Rattle.ps_language.specs.declared.operators.Operator.TheVariants.{Def}
use Rattle.ps_ops.proofs.Unframed.{acted}
use Rattle.ps_ops.proofs.under.def_under.Goals as goal

pub returns-clause-acts : goal.returns-clause-acts
returns-clause-acts g c =
    acted _ _ _ c.def.ensures.frames {operator = Def} refl c.came.ensures refl (λ scene frames. refl)
    c.def.ensures.acts
