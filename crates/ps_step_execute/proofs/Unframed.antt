-- An operator that neither sees nor changes frames, as a value that is treated.
use Rattle.std.proofs.Common.{◌≡◌, ℕ, true, [], ◌∷◌}
use Rattle.ps_language.specs.declared.operators.Operator.{Operator as Named}
use Rattle.ps_word.specs.declared.values.Content.TheVariants.{Operator}
use Rattle.ps_word.specs.declared.words.Word.{Word}
use Rattle.ps_word.specs.Format.{content_in, executable_in}
use Rattle.ps_ops_state.specs.Lent.{Lent}
use Rattle.ps_ops_state.specs.Attempts.{ordinary}
use Rattle.ps_ops_state.specs.Unframed.{under}
use Rattle.ps_step_execute.specs.declared.under.Under.{Under}
use Rattle.ps_step_execute.specs.declared.under.Under.TheVariants.{Done, Fails, Left}
use Rattle.ps_step_execute.specs.Values.{GoesUnder, operated_turn, treated_turn, Asks, operated_asks, treated_asks}
use Rattle.ps_step_execute.proofs.Alone.{treated_by_operator}

pub operator_under : (asks : Asks) (command word : Word) → executable_in word.0 ≡ true
    → (operator : Named) → content_in word.0 ≡ Operator operator → (slot : ℕ) (came : Under)
    (old new : Lent)
    → GoesUnder [] (operated_asks asks operator) (operated_turn operator) slot came old new
    → GoesUnder (word ∷ command ∷ []) (treated_asks asks word) (treated_turn command word) slot came
    old new
operator_under asks command word may operator content slot Done old new goes = λ above good values.
    treated_by_operator asks command word (under above old) (under above new) (ordinary slot)
    operator may content (goes above good tt)
operator_under asks command word may operator content slot Fails old new undone = undone
operator_under asks command word may operator content slot Left old new same = same
