-- What a context by itself prints, computed.
use Rattle.std.proofs.Common.{◌≡◌, ℕ, Bool, true, false, None, [], ◌∷◌, refl}
use Rattle.std.specs.Prelude.{codes}
use Rattle.ps_language.specs.declared.schedules.Entry.{Entry}
use Rattle.ps_language.specs.Schedules.{moves}
use Rattle.ps_language.proofs.Evaluation.{evaluation}
use Rattle.ps_ctx_start.specs.Starts.{first_machine}
use Rattle.ps_step_interpreter.specs.Alone.{alone_step, is_alone_ready, after_alone_move, after_alone_moves, alone_machine}
use Rattle.ps_step_interpreter.specs.Alone.{alone_printed, all_alone_ready}
use Rattle.ps_step_interpreter.specs.Owns.{are_own}

-- so many steps of the first context, of which the last may be refused
abbrev steps_of : (steps : ℕ) → (refused : Bool) → Entry
steps_of steps refused = record { context = 1; steps = steps; refused = refused; shown = None }

-- five steps: a number, a number, an operator, an operator, the end
sum : alone_printed (codes "1 2 add =") (steps_of 5 false ∷ []) ≡ codes "3\n"
unfolding evaluation alone_printed alone_machine after_alone_moves after_alone_move is_alone_ready
    alone_step
sum = refl

-- each of its own
sum_own : are_own (codes "1 2 add =") (first_machine (codes "1 2 add ="))
    (moves (steps_of 5 false ∷ [])) ≡ true
unfolding evaluation after_alone_move is_alone_ready alone_step
sum_own = refl

-- an operator on contexts is undefined, and is the command of its error
missing_operator : alone_printed (codes "fork") (steps_of 2 false ∷ [])
    ≡ codes "%%[ Error: undefined; OffendingCommand: fork ]%%\n"
unfolding evaluation alone_printed alone_machine after_alone_moves after_alone_move is_alone_ready
    alone_step
missing_operator = refl

-- and is left to the world
missing_own : are_own (codes "fork") (first_machine (codes "fork"))
    (moves (steps_of 2 false ∷ [])) ≡ false
unfolding evaluation after_alone_move is_alone_ready alone_step
missing_own = refl

-- a refused step makes no object
refused : alone_printed (codes "{1}") (steps_of 1 true ∷ steps_of 1 false ∷ [])
    ≡ codes "%%[ Error: VMerror; OffendingCommand: --nostringval-- ]%%\n"
unfolding evaluation alone_printed alone_machine after_alone_moves after_alone_move is_alone_ready
    alone_step
refused = refl

-- the end is a step, and none is left behind it
last_step : all_alone_ready (codes "") (first_machine (codes "")) (moves (steps_of 1 false ∷ []))
    ≡ true
unfolding evaluation after_alone_move is_alone_ready alone_step
last_step = refl

past_end : all_alone_ready (codes "") (first_machine (codes "")) (moves (steps_of 2 false ∷ []))
    ≡ false
unfolding evaluation after_alone_move is_alone_ready alone_step
past_end = refl
