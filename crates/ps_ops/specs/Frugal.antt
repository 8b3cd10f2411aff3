-- The operators that take no memory: those of the operand stack but copy, of arithmetic, and
-- relations (PLRM2, 8 'Operators').
use Rattle.std.specs.Prelude.{List, [], ◌∷◌}
use Rattle.ps_language.specs.declared.operators.Operator.{Operator}
use Rattle.ps_language.specs.declared.operators.Operator.TheVariants.{Pop, Exch, Dup, Index, Roll}
use Rattle.ps_language.specs.declared.operators.Operator.TheVariants.{Clear, Count, Mark}
use Rattle.ps_language.specs.declared.operators.Operator.TheVariants.{ClearToMark, CountToMark, Add}
use Rattle.ps_language.specs.declared.operators.Operator.TheVariants.{Sub, Mul, Idiv, Mod, Neg, Abs}
use Rattle.ps_language.specs.declared.operators.Operator.TheVariants.{Eq, Ne, Gt, Ge, Lt, Le, And}
use Rattle.ps_language.specs.declared.operators.Operator.TheVariants.{Or, Xor, Not, Bitshift}

abbrev pub frugal_operators : List Operator
frugal_operators =
    Pop ∷ Exch ∷ Dup ∷ Index ∷ Roll ∷ Clear ∷ Count ∷ Mark ∷ ClearToMark ∷ CountToMark ∷
    Add ∷ Sub ∷ Mul ∷ Idiv ∷ Mod ∷ Neg ∷ Abs ∷
    Eq ∷ Ne ∷ Gt ∷ Ge ∷ Lt ∷ Le ∷ And ∷ Or ∷ Xor ∷ Not ∷ Bitshift ∷ []
