-- What is told to lines, by examples that a near neighbour of the definitions fails.
use Rattle.std.proofs.Common.{◌≡◌, refl, List, [], ◌∷◌, ◌++◌, ℕ, Option, Some, None, codes}
use Rattle.std.specs.Fmt.{decimal}
use Rattle.ps_debug.specs.declared.answers.TheConstants.{HELP, NONE_FURTHER}
use Rattle.ps_debug.specs.declared.sessions.TheConstants.{NO_COMMAND}
use Rattle.ps_debug.specs.Answers.{IsReached, Walk, no_step}
use Rattle.ps_debug.specs.Commands.{command_in}
use Rattle.ps_debug.specs.Sessions.{AreAnswers, first, IsAnswer, Session}
use Rattle.ps_debug.specs.Words.{trimmed}

module _ (walk : Walk) (session : Session) where
  -- behind the end nothing is told, whatever the lines
  ends : (lines : List (List ℕ)) → AreAnswers walk session (codes "q" ∷ lines) []
  unfolding AreAnswers command_in trimmed
  ends lines = (None, session, (refl, refl), refl)

  -- what is no command is told, and nothing changes, nor does it end the session
  unknown : IsAnswer walk session (codes "x") (Some NO_COMMAND.now) session
  unfolding command_in trimmed
  unknown = (refl, refl)

  -- what only tells leaves one where one stood, and is the last command
  helps : IsAnswer walk session (codes "h") (Some HELP.now)
      (record { step = session.step; last = codes "h" })
  unfolding command_in trimmed
  helps = (HELP.now, refl, (refl, refl), refl)

  -- a line of blanks is the last command again
  again : (answer : Option (List ℕ)) (behind : Session)
      → IsAnswer walk (record session { last = codes "p" }) (codes "p") answer behind
      → IsAnswer walk (record session { last = codes "p" }) (codes " ") answer behind
  unfolding command_in trimmed
  again answer behind is = is

-- at first a step
step : (walk : Walk) (answer : Option (List ℕ)) (behind : Session)
    → IsAnswer walk first (codes "s") answer behind → IsAnswer walk first [] answer behind
unfolding command_in trimmed
step walk answer behind is = is

-- where none is found one stays
stays : (walk : Walk) → IsReached walk 3 None NONE_FURTHER.now 3
stays walk = (refl, refl)

none_such : no_step 41 ≡ codes "no such step: the last one is " ++ (decimal 41 ++ codes "\n")
none_such = refl
