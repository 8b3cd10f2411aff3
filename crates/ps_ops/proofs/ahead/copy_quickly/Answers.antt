-- By the topmost operand.
use Rattle.std.proofs.Common.{◌∙◌, ap}
use Rattle.std.specs.Prelude.{not}
use Rattle.ps_ops.proofs.Acted.{counted_alone}
use Rattle.ps_ops.proofs.ahead.copy_quickly.Goals as goal

pub returns : goal.returns
returns c =
    counted_alone _ _ _ c.in-Some.ensures _ c.as_integer.ensures
    (c.is_none.ensures ∙ ap not c.if-is_none.false) _ _ c.is_ok.ensures.value
    c.copy_count.ensures.row c.copy_count.ensures.kept
