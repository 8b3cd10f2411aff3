-- A backslash, a carriage return, or a byte that stands for itself.
use Rattle.std.proofs.Common.{◌∙◌, sym, ap, ◌∷◌, [], drop, ◌+◌}
use Rattle.ps_language.specs.Reading.{with_front}
use Rattle.ps_language.specs.Scan.{string_from, string_escape}
use Rattle.ps_language.proofs.StringPlaces.{string_backslash, string_returns, string_plain}
use Rattle.ps_scan.proofs.StringForms.{same_part, plain_mark}
use Rattle.ps_scan.proofs.strings.string_part.Goals as goal

pub returns-then-byte-eq92-clause-part : goal.returns-then-byte-eq92-clause-part
returns-then-byte-eq92-clause-part c =
    same_part c.args.bytes.now c.escape_part.result
    (λ depth. string_escape string_from depth (drop (c.args.at + 1) c.args.bytes.now))
    (λ depth. string_from depth (drop c.args.at c.args.bytes.now))
    (λ depth. string_backslash depth c.args.bytes.now c.args.at c.requires.inside c.if-byte-eq92.true)
    c.escape_part.ensures.part

pub returns-then-byte-eq13-clause-part : goal.returns-then-byte-eq13-clause-part
returns-then-byte-eq13-clause-part c depth =
    string_returns depth c.args.bytes.now c.args.at c.requires.inside c.if-byte-eq13.true
    ∙ ap (λ t. with_front (10 ∷ []) (string_from depth t)) (sym c.return_end.ensures.rest)

pub returns-clause-part : goal.returns-clause-part
returns-clause-part c depth =
    string_plain depth c.args.bytes.now c.args.at c.requires.inside
    (plain_mark _ c.requires.opening c.requires.closing c.if-byte-eq92.false c.if-byte-eq13.false)
