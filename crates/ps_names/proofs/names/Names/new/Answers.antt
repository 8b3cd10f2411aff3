use Rattle.std.proofs.Common.{sym, subst}
use Rattle.ps_names.specs.Names.{texts_of, AreNames}
use Rattle.ps_names.proofs.Places.{no_names}
use Rattle.ps_names.proofs.names.Names.new.Goals as goal

pub invariant_of-result : goal.invariant_of-result
invariant_of-result c = subst (λ keys. AreNames (texts_of keys)) (sym c.with_hasher.ensures.empty) no_names
