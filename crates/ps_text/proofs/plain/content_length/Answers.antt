-- A string has as many bytes as its part; what has no text has those of none.
use Rattle.std.proofs.Common.{length, ap, sym, ◌∙◌}
use Rattle.ps_language.specs.Access.{bytes}
use Rattle.ps_seq.proofs.CompareLemmas.{length_part}
use Rattle.ps_text.proofs.Shown.{no_text_is}
use Rattle.ps_text.proofs.plain.content_length.Goals as goal

pub returns-then-is_readable : goal.returns-then-is_readable
returns-then-is_readable c = λ births s. rw c.in-Text.is λ within.
    rw (sym c.is_readable.ensures ∙ c.if-is_readable.true)
    (sym (length_part (bytes s (births c.in-Text.part.address)) c.in-Text.part.offset
    c.in-Text.part.length within))

pub returns-in-Null : goal.returns-in-Null
returns-in-Null c = λ births s within.
    sym (ap length (no_text_is births c.args.names.now s c.args.content c.in-Null.is))
