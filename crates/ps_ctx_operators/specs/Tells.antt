-- What operators came to that tell their caller something.
use Rattle.std.specs.Prelude.{◌≡◌, Result, Ok, Err, OnErr}
use Rattle.ps_language.specs.Value.{Store}
use Rattle.ps_language.specs.Effect.{Scene}
use Rattle.ps_language.specs.Rows.{Row}
use Rattle.ps_mem.specs.Keeps.{Keeps}
use Rattle.ps_ops_operands.specs.Changes.{KeepsLogsWithin, most_records, spent}
use Rattle.ps_ops_state.specs.declared.breaks.Break.{Break}
use Rattle.ps_ops_state.specs.declared.lent.Attempt.{Attempt}
use Rattle.ps_ops_state.specs.Lent.{Lent, scene_of, IsShown, IsGood}
use Rattle.ps_ops_state.specs.Acts.{Asked, Stays, Meets, effect_in}

-- whatever it tells
abbrev pub done : {A : Type 0} → Result A Break → Result Unit Break
done (Ok told) = Ok tt
done (Err why) = Err why

-- as `Acts`, of the stores of which this holds
pub record ActsWhere (Holds : Store → Type 0) (asks : Scene → Asked) (row : Row) (attempt : Attempt)
    (result : Result Unit Break) (old new : Lent) : Type 0 where
  pub meets : (store : Store) → IsShown old store → Holds store
      → Meets asks (effect_in row old store) attempt result (scene_of old store) old new
  pub good : IsGood new
  pub keeps : Keeps old.heap new.heap
  pub stays : Stays old new
  pub logs : KeepsLogsWithin (spent result most_records) old.grants new.grants attempt.slot
  pub framed : OnErr result (new.frames ≡ old.frames)
