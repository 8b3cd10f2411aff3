-- An operator by its name, and by what it came to.
use Rattle.std.proofs.Common.{◌≡◌, Result, sym, subst}
use Rattle.ps_language.specs.declared.operators.Operator.{Operator}
use Rattle.ps_ops_state.specs.declared.breaks.Break.{Break}
use Rattle.ps_ops_state.specs.declared.lent.Attempt.{Attempt}
use Rattle.ps_ops_state.specs.Lent.{Lent}
use Rattle.ps_ops_state.specs.Acts.{Acts}
use Rattle.ps_ops.specs.Operators.{asked_of, row_now}

abbrev Does : Operator → Attempt → Result Unit Break → (old new : Lent) → Type 0
Does operator attempt result old new =
    Acts (asked_of operator) (row_now operator) attempt result old new

pub named : {operator which : Operator} {attempt : Attempt} {result other : Result Unit Break}
    {old new : Lent} → operator ≡ which → result ≡ other
    → Acts (asked_of which) (row_now which) attempt other old new
    → Acts (asked_of operator) (row_now operator) attempt result old new
named {operator} {which} {attempt} {result} {other} {old} {new} is same did =
    subst (λ o. Does o attempt result old new) (sym is)
    (subst (λ r. Does which attempt r old new) (sym same) did)

pub came : (operator : Operator) {attempt : Attempt} {result other : Result Unit Break}
    {old new : Lent} → result ≡ other
    → Acts (asked_of operator) (row_now operator) attempt result old new
    → Acts (asked_of operator) (row_now operator) attempt other old new
came operator {attempt} {result} {other} {old} {new} same did =
    subst (λ r. Does operator attempt r old new) same did
