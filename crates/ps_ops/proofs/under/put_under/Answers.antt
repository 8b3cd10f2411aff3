-- By what its own contract says.
use Rattle.std.proofs.Common.{refl}
use Rattle.ps_language.specs.declared.operators.Operator.TheVariants.{Put}
use Rattle.ps_ops.proofs.Unframed.{acted}
use Rattle.ps_ops.proofs.under.put_under.Goals as goal

pub returns-clause-acts : goal.returns-clause-acts
returns-clause-acts g c =
    acted _ _ _ c.put.ensures.frames {operator = Put} refl c.came.ensures refl (λ scene frames. refl)
    c.put.ensures.acts
