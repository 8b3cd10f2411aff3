-- What exit comes to.
use Rattle.std.specs.Prelude.{Bool, true, false, Result, Err}
use Rattle.ps_language.specs.declared.errors.ErrorName.TheVariants.{InvalidExit}
use Rattle.ps_ops_control.specs.declared.frames.Cause.TheVariants.{Exit}
use Rattle.ps_ops_state.specs.declared.breaks.Break.{Break}
use Rattle.ps_ops_state.specs.declared.breaks.Break.TheVariants.{Unwinds, Raises}

-- whether there is a loop to leave
abbrev pub exit_as : Bool → Result Unit Break
exit_as true = Err (Unwinds Exit)
exit_as false = Err (Raises InvalidExit)
