-- What an operator did that neither sees nor changes frames, under any more of them.
use Rattle.std.proofs.Common.{◌≡◌, ℕ, true, List, [], Ok, Err, sym, subst}
use Rattle.std.specs.Prelude.{Result}
use Rattle.ps_language.specs.declared.operators.Operator.{Operator}
use Rattle.ps_language.specs.Effect.{Scene}
use Rattle.ps_language.specs.World.{Frame}
use Rattle.ps_ops_state.specs.declared.breaks.Break.{Break}
use Rattle.ps_ops_state.specs.Acts.{Acts}
use Rattle.ps_ops_state.specs.Lent.{Lent}
use Rattle.ps_ops_state.specs.Attempts.{ordinary}
use Rattle.ps_ops_state.specs.Unframed.{is_unframed, under}
use Rattle.ps_ops_state.proofs.Unframed.{acts_under, undone}
use Rattle.ps_step_execute.specs.declared.under.Under.{Under}
use Rattle.ps_step_execute.specs.declared.under.Under.TheVariants as variants
use Rattle.ps_step_execute.specs.Values.{GoesUnder, operated_asks, operated_turn}
use Rattle.ps_ops.specs.Alone.{ActsUnder, came_under}
use Rattle.ps_ops.specs.Operators.{asked_of, row_now}
use Rattle.ps_ops.specs.Turns.{operator_asks}
use Rattle.ps_ops.proofs.Acted.{stepped}

module _ (l new : Lent) (slot : ℕ) (same : new.frames ≡ l.frames) where
  by_outcome : (which : Operator) → is_unframed (row_now which) ≡ true
      → ((scene : Scene) (frames : List Frame)
      → asked_of which (record scene { frames = frames }) ≡ asked_of which scene)
      → (outcome : Result Unit Break)
      → Acts (asked_of which) (row_now which) (ordinary slot) outcome l new
      → ActsUnder which slot (came_under outcome) l new
  by_outcome which unframed asked (Ok _) acts = λ above good.
      acts_under above l new (asked_of which) (row_now which) (ordinary slot) acts same good unframed
      asked
  by_outcome which unframed asked (Err break) acts =
      undone (asked_of which) (row_now which) slot break l new acts

  pub acted : {operator which : Operator} {came : Under} {outcome : Result Unit Break}
      → operator ≡ which → came ≡ came_under outcome → is_unframed (row_now which) ≡ true
      → ((scene : Scene) (frames : List Frame)
      → asked_of which (record scene { frames = frames }) ≡ asked_of which scene)
      → Acts (asked_of which) (row_now which) (ordinary slot) outcome l new
      → ActsUnder operator slot came l new
  acted {operator} {which} {came} {outcome} is by unframed asked acts =
      subst (λ (o : Operator). ActsUnder o slot came l new) (sym is)
      (subst (λ (u : Under). ActsUnder which slot u l new) (sym by)
      (by_outcome which unframed asked outcome acts))

-- as a step
pub goes_under : (operator : Operator) (slot : ℕ) (came : Under) (old new : Lent)
    → ActsUnder operator slot came old new
    → GoesUnder [] (operated_asks operator_asks operator) (operated_turn operator) slot came old new
goes_under operator slot variants.Done old new acts = λ above good none.
    stepped operator (ordinary slot) (under above old) (under above new) (acts above good)
goes_under operator slot variants.Fails old new undone = undone
goes_under operator slot variants.Left old new same = same
