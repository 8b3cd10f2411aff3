-- What operators of narrower results came to.
use Rattle.std.specs.Prelude.{Result, Ok, Err}
use Rattle.ps_language.specs.declared.errors.ErrorName.{ErrorName}
use Rattle.ps_ops_operands.specs.declared.failure.Failure.{Failure}
use Rattle.ps_ops_operands.specs.declared.failure.Failure.TheVariants.{Error, NotMade as NotMadeOf}
use Rattle.ps_ops_state.specs.declared.breaks.Break.{Break}
use Rattle.ps_ops_state.specs.declared.breaks.Break.TheVariants.{Raises, NotMade}

abbrev pub made : Result Unit ErrorName → Result Unit Break
made (Ok done) = Ok done
made (Err error) = Err (Raises error)

abbrev pub tried : Result Unit Failure → Result Unit Break
tried (Ok done) = Ok done
tried (Err (Error error)) = Err (Raises error)
tried (Err (NotMadeOf reason)) = Err (NotMade reason)
