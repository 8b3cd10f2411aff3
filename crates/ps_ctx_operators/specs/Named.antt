-- The context that an operator names by the identifier on top of its operands (PLRM2, 7.1).
use Rattle.std.specs.Prelude.{◌≡◌, ℕ, List, Option, Some, Result, IfOk, IsSome}
use Rattle.ps_language.specs.declared.errors.ErrorName.{ErrorName}
use Rattle.ps_language.specs.declared.errors.ErrorName.TheVariants.{InvalidContext}
use Rattle.ps_language.specs.Contexts.{named_context}
use Rattle.ps_language.specs.Outcome.{Outcome, leaves, given, and_then}
use Rattle.ps_language.specs.Value.{Value}
use Rattle.ps_language.specs.World.{World}
use Rattle.ps_mem.specs.Heap.{Heap}
use Rattle.ps_ops_operands.specs.Does.{outcome_of}
use Rattle.ps_ops_operands.specs.Changes.{values_in}
use Rattle.ps_ctx_table.specs.declared.members.Member.{Member}
use Rattle.ps_ctx_table.specs.Desks.{named_member}
use Rattle.ps_ctx_table.specs.Seats.{item_at}
use Rattle.ps_ctx_table.specs.Worlds.{contexts_in}
use Rattle.ps_ctx_operators.specs.Rows.{identifier_operand}

-- its identifier; nothing is named that is ended or detached
abbrev pub named_in : World → (operands : List Value) → Outcome ℕ
named_in world operands =
    and_then (identifier_operand operands) λ identifier.
    given (named_context identifier world) InvalidContext λ context. leaves identifier

-- what the operands of a caller name in every world of these contexts
pub record Names (caller : ℕ) (result : Result ℕ ErrorName) (members : List (Option Member))
    : Type 0 where
  pub member : Member
  pub found : item_at members caller ≡ Some member
  pub names : (h : Heap) (names : List (List ℕ)) (w : World)
      → w.contexts ≡ contexts_in h names members
      → named_in w (values_in h names member.context.operands) ≡ outcome_of result
  pub there : IfOk result (λ identifier. IsSome (named_member members identifier))
