-- A run that is walked line by line.
use Rattle.std.specs.Prelude.{◌≡◌, ℕ, Option, Some, None, List, [], ◌∷◌, ◌++◌, codes}
use Rattle.std.specs.Fmt.{decimal}
use Rattle.ps_debug.specs.declared.sessions.Session.{Session as SessionOf}
use Rattle.ps_debug.specs.declared.sessions.TheConstants.{NO_COMMAND}
use Rattle.ps_debug.specs.Answers.{IsReply, Walk, steps_in}
use Rattle.ps_debug.specs.Commands.{Command, command_in, quit, forward, back, go_to, until, state, waits, help}
use Rattle.ps_debug.specs.Words.{trimmed}

-- the first line
abbrev pub opening_text : Walk → List ℕ
opening_text walk = walk.file ++ (codes ": " ++ (decimal (steps_in walk) ++ codes " steps\n"))

-- behind which step one stands, and the last line that was a command
pub record Session : Type 0 where
  pub step : ℕ
  pub last : List ℕ

abbrev pub session_of : SessionOf → Session
session_of session = record { step = session.step; last = session.last.items }

-- at the start, where an empty line makes a step
abbrev pub first : Session
first = record { step = 0; last = codes "s" }

-- what is told to a command that a line is, if it is one, and what it leaves
abbrev pub IsObeyedBy : Walk → Session → (line : List ℕ) → Option Command
    → (answer : Option (List ℕ)) → Session → Type 0
IsObeyedBy walk session line None answer behind =
    (answer ≡ Some NO_COMMAND.now) × (behind ≡ session)
IsObeyedBy walk session line (Some quit) answer behind = (answer ≡ None) × (behind ≡ session)
IsObeyedBy walk session line (Some command) answer behind = (text : List ℕ) × (answer ≡ Some text)
    × IsReply walk session.step command text behind.step × (behind.last ≡ line)

abbrev pub IsObeyed : Walk → Session → (line : List ℕ) → (answer : Option (List ℕ)) → Session
    → Type 0
IsObeyed walk session line answer behind =
    IsObeyedBy walk session line (command_in line) answer behind

-- what a line stands for: the last command, where there is none but blanks
abbrev pub meant : Session → (line words : List ℕ) → List ℕ
meant session line [] = session.last
meant session line (byte ∷ words) = line

-- what is told to a line, unless it ends the session, and what it leaves
abbrev pub IsAnswer : Walk → Session → (line : List ℕ) → (answer : Option (List ℕ)) → Session
    → Type 0
IsAnswer walk session line answer behind =
    IsObeyed walk session (meant session line (trimmed line)) answer behind

-- what was told, and then what is told to the lines behind, unless the session has ended
abbrev pub IsFollowed : (then : List ℕ → Type 0) → (answer : Option (List ℕ)) → (text : List ℕ)
    → Type 0
IsFollowed then None text = text ≡ []
IsFollowed then (Some told) text = (rest : List ℕ) × (text ≡ told ++ rest) × then rest

-- what is told to these lines, up to one that ends the session
unfoldable pub AreAnswers : Walk → Session → (lines : List (List ℕ)) → (text : List ℕ) → Type 0
AreAnswers walk session [] text = text ≡ []
AreAnswers walk session (line ∷ lines) text = (answer : Option (List ℕ)) × (behind : Session)
    × IsAnswer walk session line answer behind
    × IsFollowed (λ rest. AreAnswers walk behind lines rest) answer text
