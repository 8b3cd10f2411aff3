use Rattle.std.proofs.Common.{◌≡◌, ℕ, subst}
use Rattle.std.specs.Prelude.{IfOk}
use Rattle.ps_core_machine.specs.Objects.{pair_of, renamed, with_copy}
use Rattle.ps_core_machine.specs.Steps.{header_of}
use Rattle.ps_core.proofs.pairs.copied.Goals as goal

pub returns : goal.returns
returns c =
    let word_is : c.renamed-word.result
    ≡ renamed c.args.pairs.items (header_of (pair_of c.args.pairs.items c.args.k.address)) c.args.k.word = cc in
    subst (λ (w : ℕ). IfOk c.with_copy.result (λ v. v.items
    ≡ with_copy c.args.pairs.items c.args.k.address c.args.k.field w c.args.scans)) word_is c.with_copy.ensures
