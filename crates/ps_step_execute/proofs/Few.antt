-- What a value asks for is few records where what each operator asks for is.
use Rattle.std.proofs.Common.{◌<◌, arith, Bool, true, false}
use Rattle.std.specs.Prelude.{if◌then◌else◌}
use Rattle.ps_language.specs.StepValues.{known, is_executable_name, looked_up}
use Rattle.ps_language.specs.Value.{operator_value}
use Rattle.ps_ops_operands.specs.Changes.{most_records}
use Rattle.ps_ops_state.specs.Acts.{Asked, IsFew, AreFew}
use Rattle.ps_step_execute.specs.Values.{Asks, what_asks, value_asks, found_asks, done_asks}

pub none_few : 0 < most_records
none_few = omega arith

-- by a condition
pub either_few : (b : Bool) (one other : Asked) → IsFew one → IsFew other
    → IsFew (if b then one else other)
either_few true one other one_few other_few = one_few
either_few false one other one_few other_few = other_few

module _ (asks : Asks) (few : AreFew asks) where
  what_few : AreFew (what_asks asks)
  what_few (operator_value operator) around scene = few operator around scene
  what_few what around scene = none_few

  value_few : AreFew (value_asks asks)
  value_few value around scene =
      either_few value.executable _ _ (what_few value.what around scene) none_few

  found_few : AreFew (found_asks asks)
  found_few (known value) around scene = value_few value around scene
  found_few found around scene = none_few

  pub done_few : AreFew (done_asks asks)
  done_few value around scene =
      either_few (is_executable_name value) _ _
      (found_few (looked_up value scene.dictionaries scene.store) around scene)
      (value_few value around scene)
