-- What the line of a step tells, by examples that a near neighbour of the definitions fails.
use Rattle.std.proofs.Common.{◌≡◌, refl, List, [], ◌∷◌, ◌++◌, Option, Some, None, Bool, true, false}
use Rattle.std.specs.Prelude.{codes}
use Rattle.std.specs.Fmt.{decimal}
use Rattle.ps_language.specs.Contexts.{context_at}
use Rattle.ps_language.specs.Owners.{owner_of}
use Rattle.ps_language.specs.Readers.{literal}
use Rattle.ps_language.specs.Value.{null_value, mark_value, lock_object, Object, Value}
use Rattle.ps_language.specs.Texts.{full_text}
use Rattle.ps_language.specs.World.{for_exit, Frame, monitor_frame, Status, running, unwinding, Context, World}
use Rattle.ps_views.specs.declared.states.StatusLine.TheVariants.{Ready, Finished, InJoin}
use Rattle.ps_states.specs.States.{locks_of}
use Rattle.ps_views.specs.declared.frames.Coming.TheVariants.{Nothing}
use Rattle.ps_states.specs.Next.{bare}
use Rattle.ps_states.specs.Steps.{Known, remarks_text, operands_text, started, printed_text, lock_beside, locks_at, is_stopping, status_remark, left_text, and_remark}

abbrev pub one_of : Status → List Frame → Context
one_of status frames = record {
  operands = [];
  dictionaries = [];
  frames = frames;
  error_dictionary = 0;
  is_detached = false;
  status = status;
}

abbrev some_of : List Context → List (Option Context)
some_of [] = []
some_of (one ∷ rest) = Some one ∷ some_of rest

abbrev pub world_of : List Object → List Context → World
world_of store contexts = record {
  program = [];
  store = store;
  contexts = some_of contexts;
  printed = [];
  error_lines = 0;
  names = [];
}

abbrev null : Value
null = literal null_value

abbrev mark : Value
mark = literal mark_value

-- ---- operands

-- the top is the last, and four need no dots
four : operands_text [] (mark ∷ null ∷ null ∷ null ∷ []) ≡ codes "null null null -mark-"
unfolding full_text
four = refl

-- the fifth isn't told, but that there is one
five : operands_text [] (mark ∷ null ∷ null ∷ null ∷ mark ∷ []) ≡ codes ".. null null null -mark-"
unfolding full_text
five = refl

-- ---- what others see

-- the new context is the last that was made
new_context : started 1
    (world_of [] (one_of running [] ∷ one_of running [] ∷ [])) ≡ Some (codes "starts context " ++ decimal 2)
new_context = refl

no_context : started 1 (world_of [] (one_of running [] ∷ [])) ≡ None
no_context = refl

-- a line's end is told by its escape
line_printed : printed_text (49 ∷ 10 ∷ []) ≡ Some (codes "prints (1\\n)")
line_printed = refl

-- what one has and the other hasn't
taken : lock_beside (3 ∷ 5 ∷ []) (3 ∷ []) ≡ Some 5
taken = refl

kept : lock_beside (3 ∷ []) (3 ∷ 5 ∷ []) ≡ None
kept = refl

-- a lock is that of who owns it
owned : locks_at (world_of (lock_object (Some 1) ∷ []) (one_of running (monitor_frame 0 ∷ []) ∷ [])) 1 ≡ 0 ∷ []
unfolding locks_of owner_of context_at
owned = refl

-- exit is no stop
exits : is_stopping (unwinding for_exit) ≡ false
exits = refl

-- who may go on needs no word, and one that is gone ends
goes_on : status_remark Ready ≡ None
goes_on = refl

finishes : status_remark Finished ≡ Some (codes "finishes")
finishes = refl

joins : status_remark (InJoin 3) ≡ Some (codes "waits in join for context " ++ decimal 3)
joins = refl

gone : left_text (world_of [] []) 1 None ≡ Some (codes "ends")
gone = refl

-- remarks stand behind one another, and none leaves no mark
first_remark : and_remark [] (Some (codes "ends")) ≡ codes "ends"
first_remark = refl

second_remark : and_remark (codes "frees") (Some (codes "waits")) ≡ codes "frees; waits"
second_remark = refl

no_remark : and_remark (codes "frees") None ≡ codes "frees"
no_remark = refl

-- a step that isn't made is no end of its context
abbrev known_if : (is_made : Bool) → Known
known_if is_made = record {
  step = 1;
  context = 1;
  is_made = is_made;
  next = bare Nothing;
  contexts = 0;
  printed = 0;
  locks = [];
  stops = false;
}

idle : remarks_text (known_if false) (world_of [] []) ≡ []
unfolding remarks_text
idle = refl

ended : remarks_text (known_if true) (world_of [] []) ≡ codes "ends"
unfolding remarks_text context_at
ended = refl
