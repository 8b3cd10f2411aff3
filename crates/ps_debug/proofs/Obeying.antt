-- What a line stands for, and what is told to a command that it is.
use Rattle.std.proofs.Common.{◌≡◌, ◌<◌, ◌≤◌, ◌-◌, ◌+◌, ℕ, zero, suc, List, [], ◌∷◌, Option, Some, None, length, refl, sym, subst, arith}
use Rattle.ps_debug.specs.declared.sessions.TheConstants.{NO_COMMAND}
use Rattle.ps_debug.specs.Answers.{AreLinesOf, IsReply, IsStanding, Walk}
use Rattle.ps_debug.specs.Commands.{Command, forward, back, go_to, until, state, waits, help, quit}
use Rattle.ps_debug.specs.Sessions.{IsObeyedBy, Session, meant}

-- the line of a step that isn't the start
pub standing_at : (walk : Walk) (step : ℕ) (text : List ℕ) → 0 < step
    → AreLinesOf walk (step - 1) step text → IsStanding walk step text
standing_at walk zero text some lines = absurd (omega (arith, some))
standing_at walk (suc past) text some lines =
    let same : suc past - 1 ≡ past = omega arith in
    subst (λ n. AreLinesOf walk n (suc past) text) same lines

-- a line that isn't blank stands for itself, and another for the last
pub meant_line : (session : Session) (line words : List ℕ) → 0 < length words
    → meant session line words ≡ line
meant_line session line [] some = absurd (omega (arith, some))
meant_line session line (byte ∷ words) some = refl

pub meant_last : (session : Session) (line words : List ℕ) → length words ≤ 0
    → meant session line words ≡ session.last
meant_last session line [] none = refl
meant_last session line (byte ∷ words) none = absurd (omega (arith, none))

module _ (walk : Walk) (session : Session) (line : List ℕ) (asked : Option Command) where
  pub unknown : asked ≡ None → IsObeyedBy walk session line asked (Some NO_COMMAND.now) session
  unknown is = subst (λ one. IsObeyedBy walk session line one (Some NO_COMMAND.now) session)
      (sym is) (refl, refl)

  pub ended : asked ≡ Some quit → IsObeyedBy walk session line asked None session
  ended is = subst (λ one. IsObeyedBy walk session line one None session) (sym is) (refl, refl)

-- by the command
by_command : (walk : Walk) (session : Session) (line : List ℕ) (command : Command)
    (text : List ℕ) (behind : Session) → (command ≡ quit → ⊥)
    → IsReply walk session.step command text behind.step → behind.last ≡ line
    → IsObeyedBy walk session line (Some command) (Some text) behind
by_command walk session line (forward more) text behind goes reply last = (text, refl, reply, last)
by_command walk session line (back fewer) text behind goes reply last = (text, refl, reply, last)
by_command walk session line (go_to to) text behind goes reply last = (text, refl, reply, last)
by_command walk session line (until sought) text behind goes reply last = (text, refl, reply, last)
by_command walk session line state text behind goes reply last = (text, refl, reply, last)
by_command walk session line waits text behind goes reply last = (text, refl, reply, last)
by_command walk session line help text behind goes reply last = (text, refl, reply, last)
by_command walk session line quit text behind goes reply last = absurd (goes refl)

pub obeyed : (walk : Walk) (session : Session) (line : List ℕ) (asked : Option Command)
    (command : Command) (text : List ℕ) (behind : Session) → asked ≡ Some command
    → (command ≡ quit → ⊥) → IsReply walk session.step command text behind.step
    → behind.last ≡ line → IsObeyedBy walk session line asked (Some text) behind
obeyed walk session line asked command text behind is goes reply last =
    subst (λ one. IsObeyedBy walk session line one (Some text) behind) (sym is)
    (by_command walk session line command text behind goes reply last)
