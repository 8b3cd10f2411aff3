-- By the part that the word has.
use Rattle.std.proofs.Common.{w32, arith, sym, ap, ◌∙◌}
use Rattle.std.proofs.lemmas.Int.{to_z_pos}
use Rattle.ps_language.specs.Readers.{integer}
use Rattle.ps_ops_sequences.proofs.Quickly.{part_measured}
use Rattle.ps_ops_sequences.proofs.lengths.length_quickly.Goals as goal

pub returns-clause-acts : goal.returns-clause-acts
returns-clause-acts c = rw c.replace.ensures (λ yes. part_measured _ _ c.in-Some.ensures _
    c.in-Some-as_part.ensures (sym c.is_readable.ensures ∙ c.if-not-is_readable.false) _
    c.integer.ensures.plain
    (λ births names. c.integer.ensures.value births names
    ∙ ap integer (to_z_pos w32 c.in-Some-as_part.part.length (omega arith))))
