-- The row of each operator, and what it asks for that the language does not say.
use Rattle.std.specs.Prelude.{Bool, not}
use Rattle.ps_language.specs.declared.operators.Operator.{Operator}
use Rattle.ps_language.specs.declared.operators.Operator.TheVariants.{Put, Copy, PutInterval}
use Rattle.ps_language.specs.declared.operators.Operator.TheVariants.{Astore, Search, EndDict, Def}
use Rattle.ps_language.specs.declared.operators.Operator.TheVariants.{Store as StoreKey, Undef}
use Rattle.ps_language.specs.declared.operators.Operator.TheVariants.{NoAccess, ReadOnly, Cvs}
use Rattle.ps_language.specs.Effect.{Scene}
use Rattle.ps_language.specs.Scan.{scan}
use Rattle.ps_language.specs.Rows.{Row, row_of}
use Rattle.ps_ops_sequences.specs.ArrayRows.{topmost_count}
use Rattle.ps_ops_sequences.specs.Asks.{putinterval_asks, reduce_asks, search_asks}
use Rattle.ps_ops_values.specs.Asks.{cvs_asks}
use Rattle.ps_ops_dictionaries.specs.Asks.{def_asks, end_dict_asks, store_asks, undef_asks}
use Rattle.ps_ops.specs.Joins.{copy_asks, put_asks}
use Rattle.ps_ops_state.specs.Acts.{Asked, nothing_asked, stores}
use Rattle.ps_step_outcome.specs.Turns.{is_for_world}

abbrev pub row_now : Operator → Row
row_now operator = row_of scan operator

abbrev pub asked_of : Operator → Scene → Asked
asked_of Put = put_asks
asked_of Copy = copy_asks
asked_of Def = def_asks
asked_of StoreKey = store_asks
asked_of Undef = undef_asks
asked_of EndDict = end_dict_asks
asked_of PutInterval = putinterval_asks
asked_of ReadOnly = reduce_asks
asked_of NoAccess = reduce_asks
asked_of Astore = stores topmost_count
asked_of Search = search_asks
asked_of Cvs = cvs_asks
asked_of operator = nothing_asked

-- those that are here: none is left to the world
abbrev pub is_done : Operator → Bool
is_done operator = not (is_for_world operator)
