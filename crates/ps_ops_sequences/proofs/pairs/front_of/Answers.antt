-- A smaller part of what stands.
use Rattle.std.proofs.Common.{◌+◌, ap, arith, sym, subst}
use Rattle.std.specs.Prelude.{IfSome}
use Rattle.ps_language.specs.declared.kinds.Kind.TheVariants.{Array}
use Rattle.ps_word.specs.declared.values.Part.{Part}
use Rattle.ps_mem.specs.References.{StandsAs}
use Rattle.ps_ops_operands.proofs.Held.{stands_less}
use Rattle.ps_ops_operands.proofs.Reading.{as_array-stands}
use Rattle.ps_ops_sequences.proofs.pairs.front_of.Goals as goal

pub returns-in-Arrays-clause-held : goal.returns-in-Arrays-clause-held
returns-in-Arrays-clause-held c = λ h held.
    let to = c.args.pair.to in
    let part = c.interval.result in
    let target = rw c.in-Arrays.is at c.requires.target in
    let stands = subst (λ found. IfSome found (λ (p : Part).
    StandsAs h Array p.address (p.offset + p.length))) target
    (as_array-stands h c.args.target held) in
    let inner = stands_less h Array to.address (to.offset + to.length) (part.offset + part.length)
    (omega (
      arith,
      ap (λ (p : Part). p.offset) c.interval.ensures,
      ap (λ (p : Part). p.length) c.interval.ensures,
      c.requires.fits,
    )) stands in
    c.with_part.ensures.held h (subst (λ a. StandsAs h Array a (part.offset + part.length))
    (sym (ap (λ (p : Part). p.address) c.interval.ensures)) inner)
