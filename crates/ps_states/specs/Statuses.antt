-- Whether a context may go on, and what it waits for (PLRM2, 7.1).
use Rattle.std.specs.Prelude.{ℕ, ℤ, Bool, Option, Some, None, List, [], ◌∷◌, unwrap_or}
use Rattle.std.specs.Prelude.{if◌then◌else◌}
use Rattle.ps_language.specs.Contexts.{identifier_of}
use Rattle.ps_language.specs.Owners.{as_lock, owner_of}
use Rattle.ps_language.specs.Readers.{as_integer}
use Rattle.ps_language.specs.Value.{Value, Store}
use Rattle.ps_language.specs.World.{Status, running, unwinding, again, waiting, retaking, finished}
use Rattle.ps_language.specs.World.{Context}
use Rattle.ps_views.specs.declared.states.StatusLine.{StatusLine}
use Rattle.ps_views.specs.declared.states.StatusLine.TheVariants.{Ready, Finished, InMonitor}
use Rattle.ps_views.specs.declared.states.StatusLine.TheVariants.{InJoin, ForCondition, Notified}

-- the lock of a call of monitor, below its procedure
abbrev pub lock_below : List Value → Option ℕ
lock_below (body ∷ lock ∷ rest) = as_lock lock
lock_below operands = None

-- who has it; no context is 0
abbrev pub owner_or_none : Store → (lock : ℕ) → ℕ
owner_or_none store lock = unwrap_or (owner_of store lock) 0

abbrev pub lock_line : Store → Option ℕ → StatusLine
lock_line store None = InMonitor 0 0
lock_line store (Some lock) = InMonitor lock (owner_or_none store lock)

-- what is waited for in a call that is tried again: on top an identifier is for join, and a
-- procedure for monitor
abbrev pub tried_for : Store → List Value → Option ℤ → StatusLine
tried_for store operands (Some number) = InJoin (identifier_of number)
tried_for store operands None = lock_line store (lock_below operands)

abbrev pub tried_line : Store → List Value → StatusLine
tried_line store [] = InJoin 0
tried_line store (value ∷ rest) = tried_for store (value ∷ rest) (as_integer value)

-- of one that may not go on
abbrev pub waiting_line : Store → List Value → Status → StatusLine
waiting_line store operands running = Ready
waiting_line store operands (unwinding cause) = Ready
waiting_line store operands again = tried_line store operands
waiting_line store operands (waiting lock condition) = ForCondition condition lock
waiting_line store operands (retaking lock) = Notified lock (owner_or_none store lock)
waiting_line store operands finished = Finished

unfoldable pub status_line : Store → (ready : Bool) → Context → StatusLine
status_line store ready one = if ready then Ready else waiting_line store one.operands one.status
