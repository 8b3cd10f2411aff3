use Rattle.std.proofs.Common.{refl}
use Rattle.std.proofs.lemmas.Str.Ascii.{trim_ascii_is}
use Rattle.ps_debug.specs.Words.{trimmed, unled}
use Rattle.ps_debug.proofs.commands.trimmed.Goals as goal

pub returns : goal.returns
unfolding trimmed
returns c =
    trim_ascii_is c.args.text.now c.trim_ascii.result.now (unled c.args.text.now) refl
    c.trim_ascii.ensures.value
