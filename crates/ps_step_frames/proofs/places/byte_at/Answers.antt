-- The byte is there, or the place is past the last.
use Rattle.std.proofs.Common.{arith, rules, ap, w32, ◌∙◌}
use Rattle.std.proofs.lemmas.Int.{to_z-of_z}
use mir.Val.{SFits}
use Rattle.ps_language.specs.Readers.{integer}
use Rattle.ps_step_frames.proofs.Placing.{known_text, past_bytes, byte_pushed}
use Rattle.ps_step_frames.proofs.places.byte_at.Goals as goal

pub byte-found-requires-clause-known : goal.byte-found-requires-clause-known
byte-found-requires-clause-known g c =
    known_text _ c.args.over c.args.part c.requires.held c.requires.text

pub returns-then-at-part-clause-pushed : goal.returns-then-at-part-clause-pushed
returns-then-at-part-clause-pushed g c =
    past_bytes _ c.args.over c.args.at c.args.part c.requires.text (omega arith)

pub returns-clause-pushed : goal.returns-clause-pushed
returns-clause-pushed g c =
    let read : SFits w32 c.from.result = search rules in
    byte_pushed _ c.args.over c.args.at c.args.part c.requires.text (omega arith)
    c.byte-found.result c.integer.result c.integer.ensures.plain
    (λ births names. (simp to_z-of_z at (c.integer.ensures.value births names))
    ∙ ap integer c.from.ensures)
    c.byte-found.ensures.value
