-- The text of which contexts may go on, and what the others wait for.
use Rattle.std.specs.Prelude.{ℕ, List}
use Rattle.ps_language.specs.Locks.{is_ready}
use Rattle.ps_language.specs.World.{Context, World}
use Rattle.ps_states.specs.States.{context_line, each_context}

-- the line of the status of a context, in a world
abbrev pub status_in : World → (identifier : ℕ) → Context → List ℕ
status_in now identifier one = context_line now.store (is_ready now identifier) identifier one

-- of each context that isn't ended
unfoldable pub waits_text : World → List ℕ
waits_text now = each_context (status_in now) 1 now.contexts
