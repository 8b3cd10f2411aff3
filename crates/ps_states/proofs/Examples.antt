-- What the text of a state is, by examples that a near neighbour of the definitions fails.
use Rattle.std.proofs.Common.{◌≡◌, refl, List, [], ◌∷◌, Some, None, true, false}
use Rattle.std.specs.Prelude.{codes, pos}
use Rattle.ps_language.specs.declared.access.Access.TheVariants.{Unlimited}
use Rattle.ps_language.specs.Owners.{as_lock, owner_of}
use Rattle.ps_language.specs.Readers.{literal, integer, as_integer}
use Rattle.ps_language.specs.Value.{Part, Value, array_value, lock_value, condition_value, dictionary_value, lock_object, Store}
use Rattle.ps_language.specs.World.{for_stop, Frame, repeat_frame, monitor_frame, stopped_frame}
use Rattle.ps_language.specs.World.{Status, running, unwinding, again, waiting, retaking, finished, Context}
use Rattle.ps_views.specs.declared.frames.Coming.TheVariants.{Nothing, Turn, Unwinding, Unwound, Joining, Entering, Retaking}
use Rattle.ps_views.specs.declared.frames.FrameLine.TheVariants.{Repeat, Stopped}
use Rattle.ps_views.specs.declared.states.StatusLine.TheVariants.{Ready, Finished, InMonitor, InJoin, ForCondition, Notified}
use Rattle.ps_states.specs.Charts.{Chart}
use Rattle.ps_states.specs.Next.{bare, next_of}
use Rattle.ps_states.specs.States.{own_line, keys_end, told_birth, locks_of, each_context}
use Rattle.ps_states.specs.Statuses.{status_line}

-- a context with these
abbrev one_of : Status → List Frame → Context
one_of status frames = record {
  operands = [];
  dictionaries = [];
  frames = frames;
  error_dictionary = 2;
  is_detached = false;
  status = status;
}

-- with operands, that tries a call again
abbrev calling : List Value → Context
calling operands = record (one_of again []) { operands = operands }

abbrev body : Part
body = record { birth = 9; offset = 0; count = 1; access = Unlimited }

abbrev procedure : Value
procedure = record { what = array_value body; executable = true }

-- two locks that context 2 has, and a free one
abbrev locks : Store
locks = lock_object (Some 2) ∷ lock_object (Some 2) ∷ lock_object None ∷ []

-- ---- statuses

-- who may go on waits for nothing, whatever it tried
ready_again : status_line locks true (calling (integer (pos 3) ∷ [])) ≡ Ready
unfolding status_line
ready_again = refl

-- the topmost operand tells what is waited for: an identifier, or a lock below a procedure
in_join : status_line locks false (calling (integer (pos 3) ∷ [])) ≡ InJoin 3
unfolding status_line as_integer
in_join = refl

in_monitor : status_line locks false (calling (procedure ∷ literal (lock_value 1) ∷ [])) ≡ InMonitor 1 2
unfolding status_line as_integer as_lock owner_of
in_monitor = refl

-- the condition, and then the lock
awaiting : status_line locks false (one_of (waiting 1 7) []) ≡ ForCondition 7 1
unfolding status_line
awaiting = refl

notified : status_line locks false (one_of (retaking 0) []) ≡ Notified 0 2
unfolding status_line owner_of
notified = refl

done : status_line locks false (one_of finished []) ≡ Finished
unfolding status_line
done = refl

-- ---- what comes

module _ (chart : Chart) where
  -- the topmost frame makes the step
  turn : next_of chart [] (one_of running (repeat_frame 2 body ∷ stopped_frame ∷ [])) ≡ bare (Turn (Repeat 2))
  unfolding next_of
  turn = refl

  -- or is taken off
  taken_off : next_of chart [] (one_of (unwinding for_stop) (stopped_frame ∷ repeat_frame 2 body ∷ []))
      ≡ bare (Unwinding Stopped)
  unfolding next_of
  taken_off = refl

  bottom : next_of chart [] (one_of (unwinding for_stop) []) ≡ bare Unwound
  unfolding next_of
  bottom = refl

  joins : next_of chart [] (calling (integer (pos 3) ∷ [])) ≡ bare Joining
  unfolding next_of as_integer
  joins = refl

  enters : next_of chart [] (calling (procedure ∷ literal (lock_value 1) ∷ [])) ≡ bare Entering
  unfolding next_of as_integer
  enters = refl

  retakes : next_of chart [] (one_of (retaking 0) []) ≡ bare Retaking
  unfolding next_of
  retakes = refl

  waits : next_of chart [] (one_of (waiting 1 7) []) ≡ bare Nothing
  unfolding next_of
  waits = refl

-- ---- operands and dictionaries

-- a number stands behind locks and conditions alone
of_lock : told_birth (lock_value 3) ≡ Some 3
of_lock = refl

of_condition : told_birth (condition_value 4) ≡ Some 4
of_condition = refl

of_dictionary : told_birth (dictionary_value 5) ≡ None
of_dictionary = refl

-- systemdict and userdict aren't told
system_hidden : own_line [] 0 ≡ []
system_hidden = refl

user_hidden : own_line [] 1 ≡ []
user_hidden = refl

-- the seventh key isn't told, but that there is one
six_keys : keys_end 6 ≡ codes "\n"
six_keys = refl

seven_keys : keys_end 7 ≡ codes " ..\n"
seven_keys = refl

-- ---- locks

-- the outermost first
outermost : locks_of locks 2 (one_of running (monitor_frame 1 ∷ monitor_frame 0 ∷ [])) ≡ 0 ∷ 1 ∷ []
unfolding locks_of owner_of
outermost = refl

-- neither a free one nor that of another
free : locks_of locks 2 (one_of (waiting 2 7) (monitor_frame 2 ∷ [])) ≡ []
unfolding locks_of owner_of
free = refl

of_another : locks_of locks 3 (one_of running (monitor_frame 0 ∷ [])) ≡ []
unfolding locks_of owner_of
of_another = refl

-- ---- contexts

-- one that is ended keeps its identifier, and has no line
ended : each_context (λ identifier one. identifier ∷ []) 1
    (Some (one_of running []) ∷ None ∷ Some (one_of finished []) ∷ []) ≡ 1 ∷ 3 ∷ []
ended = refl
