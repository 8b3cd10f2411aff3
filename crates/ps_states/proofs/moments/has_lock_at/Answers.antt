use Rattle.std.proofs.Common.{◌≡◌, ◌∙◌, List, ℕ, [], ◌∷◌, suc, length, refl, ap, arith}
use Rattle.std.specs.Prelude.{◌==◌, not}
use Rattle.std.proofs.lemmas.Bool.{ne_eqb}
use Rattle.ps_states.specs.Moments.{has_any}
use Rattle.ps_states.proofs.moments.has_lock_at.Goals as goal

any_is : (locks : List ℕ) → not (length locks == 0) ≡ has_any locks
any_is [] = refl
any_is (lock ∷ locks) = ap not (ne_eqb (suc (length locks)) 0 (λ e. omega (arith, e)))

pub returns-clause-has : goal.returns-clause-has
returns-clause-has g c = λ w is.
    ap not c.is_empty.ensures ∙ any_is c.as_slice.result.now
    ∙ ap has_any (c.as_slice.ensures.value ∙ c.in_ok-locks.ensures.locks w is)
