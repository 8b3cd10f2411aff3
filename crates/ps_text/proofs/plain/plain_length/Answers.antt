-- By the content.
use Rattle.std.proofs.Common.{length, ap, sym, ◌∙◌}
use Rattle.ps_text.proofs.Shown.{within_content, plain_is}
use Rattle.ps_text.proofs.plain.plain_length.Goals as goal

pub returns : goal.returns
returns c = λ births s within.
    let names = c.args.names.now in
    c.content_length.ensures births s
    (within_content c.args.word c.content.result c.content.ensures births names s within)
    ∙ sym (ap length (plain_is c.args.word c.content.result c.content.ensures births names s))
