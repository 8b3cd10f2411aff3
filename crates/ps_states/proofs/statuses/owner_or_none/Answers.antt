use Rattle.std.proofs.Common.{ℕ, Option, sym, ap, ◌∙◌}
use Rattle.std.specs.Prelude.{unwrap_or}
use Rattle.ps_states.proofs.Calling.{owner_plain}
use Rattle.ps_states.proofs.statuses.owner_or_none.Goals as goal

pub returns-clause-owner : goal.returns-clause-owner
returns-clause-owner g c = λ names s shows.
    owner_plain c.owner.result
    ∙ ap (λ (owner : Option ℕ). unwrap_or owner 0) (sym (c.owner.ensures.value names s shows))
