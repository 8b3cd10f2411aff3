-- What an operator does to operands alone, to frames, and whatever frames are above.
use Rattle.std.specs.Prelude.{◌≡◌, ℕ, Bool, List, Result, Ok, Err}
use Rattle.ps_language.specs.declared.operators.Operator.{Operator}
use Rattle.ps_word.specs.declared.words.Word.{Word}
use Rattle.ps_ops_control.specs.declared.ahead.Ahead.{Ahead}
use Rattle.ps_ops_control.specs.declared.frames.Frame.{Frame}
use Rattle.ps_ops_control.specs.Ahead.{HasRoom, OnDone, OnLeft, done_ahead, frames_ahead}
use Rattle.ps_ops_state.specs.declared.breaks.Break.{Break}
use Rattle.ps_ops_state.specs.declared.lent.Attempt.{Attempt}
use Rattle.ps_ops_state.specs.Acts.{Acts}
use Rattle.ps_ops_state.specs.Lent.{Lent, IsGood}
use Rattle.ps_ops_state.specs.Attempts.{ordinary}
use Rattle.ps_ops_state.specs.Unframed.{under, IsUndone}
use Rattle.ps_step_execute.specs.declared.under.Under.{Under}
use Rattle.ps_step_execute.specs.declared.under.Under.TheVariants as variants
use Rattle.ps_ops.specs.Operators.{asked_of, row_now}

-- whatever else is lent in this setting and however it is tried it acts and raises no error, once
-- the frame is pushed of the procedure that it enters, if that has room; or nothing has changed
abbrev pub ActsIn : (setting : Lent → Lent) → Operator → Ahead → (old new : List Word) → Type 0
ActsIn setting operator came old new = OnLeft came (new ≡ old)
    × OnDone came ((l : Lent) (attempt : Attempt) → IsGood (record (setting l) { operands = old })
    → HasRoom 1 came (setting l).frames
    → Acts (asked_of operator) (row_now operator) attempt (Ok tt)
    (record (setting l) { operands = old })
    (record (setting l) { operands = new; frames = frames_ahead came (setting l).frames }))

-- in every setting
abbrev pub ActsAhead : Operator → Ahead → (old new : List Word) → Type 0
ActsAhead operator came old new = ActsIn (λ l. l) operator came old new

-- by operands alone: it acts, or nothing has changed
abbrev pub ActsAlone : Operator → (acts : Bool) → (old new : List Word) → Type 0
ActsAlone operator acts old new = ActsAhead operator (done_ahead acts) old new

-- in an ordinary step it acts and raises no error, as it would under any more frames; or nothing
-- was
-- done; or nothing has changed
abbrev pub ActsUnder : Operator → (slot : ℕ) → Under → (old new : Lent) → Type 0
ActsUnder operator slot variants.Done old new =
    (above : List Frame) → IsGood (under above old)
    → Acts (asked_of operator) (row_now operator) (ordinary slot) (Ok tt) (under above old)
    (under above new)
ActsUnder operator slot variants.Fails old new = IsUndone slot old new
ActsUnder operator slot variants.Left old new = new ≡ old

-- what came about is kept, and an error was not raised
abbrev pub came_under : Result Unit Break → Under
came_under (Ok _) = variants.Done
came_under (Err break) = variants.Fails
