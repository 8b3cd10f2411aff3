-- The texts of the buffers that stay.
use Rattle.std.proofs.Common.{sym, ap, subst, ◌∙◌, take}
use Rattle.std.proofs.lemmas.List.{take-map}
use Rattle.ps_names.specs.Names.{texts_of, AreNames}
use Rattle.ps_names.proofs.Places.{names_taken}
use Rattle.ps_names.proofs.names.Names.truncate.Goals as goal

pub invariant_of-self : goal.invariant_of-self
invariant_of-self c =
    let taken = ap texts_of c.truncate.ensures.keys ∙ sym (take-map _ c.args.count _) in
    subst AreNames (sym taken) (names_taken _ c.args.count c.self.invariant)

pub returns : goal.returns
returns c =
    ap texts_of c.truncate.ensures.keys ∙ sym (take-map _ c.args.count _)
    ∙ ap (take c.args.count) c.self.view_is
