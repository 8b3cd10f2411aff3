-- A byte more that is shown as it is.
use Rattle.std.proofs.Common.{◌∙◌, ap, sym}
use Rattle.std.specs.List.{flat_map}
use Rattle.ps_language.specs.Texts.{escaped}
use Rattle.ps_text.proofs.Rests.{slice_none}
use Rattle.ps_text.proofs.escapes.are_plain.Goals as goal

pub loop-at-init : goal.loop-at-init
loop-at-init c = λ plain. ap (flat_map escaped) (slice_none c.args.bytes.now 0)
    ∙ sym (slice_none c.args.bytes.now 0)
