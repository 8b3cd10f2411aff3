-- What `join` finds of the context that it names (PLRM2, 7.1, 8 'join').
use Rattle.std.specs.Prelude.{◌≡◌, ◌≢◌, ◌+◌, ◌≤◌, ℕ, ℤ, true, List, Option, Some, Result, Ok, Err}
use Rattle.std.specs.Prelude.{length}
use Rattle.ps_language.specs.declared.errors.ErrorName.{ErrorName}
use Rattle.ps_language.specs.Contexts.{join_row}
use Rattle.ps_language.specs.Effect.{Deed, waits}
use Rattle.ps_language.specs.Limits.{operand_limit}
use Rattle.ps_language.specs.Outcome.{Outcome, leaves, fails}
use Rattle.ps_language.specs.World.{World}
use Rattle.ps_mem.specs.Heap.{Heap}
use Rattle.ps_ctx_table.specs.declared.members.Member.{Member}
use Rattle.ps_ctx_table.specs.Desks.{has_finished}
use Rattle.ps_ctx_table.specs.Seats.{item_at}
use Rattle.ps_ctx_table.specs.Worlds.{context_of, contexts_in}
use Rattle.ps_ctx.specs.Calls.{call_by}
use Rattle.ps_ctx_operators.specs.declared.joining.Found.{Found}
use Rattle.ps_ctx_operators.specs.declared.joining.Found.TheVariants.{Unfinished, Finished}
use Rattle.ps_ctx_operators.specs.Named.{Names}

-- what it comes to in every world of these contexts
abbrev pub JoinsTo : (caller : ℕ) → Outcome Deed → List (Option Member) → Type 0
JoinsTo caller outcome members =
    (h : Heap) (names : List (List ℕ)) (member : Member) (w : World) (shown : Option (ℤ × ℤ))
    → item_at members caller ≡ Some member → w.contexts ≡ contexts_in h names members
    → join_row (context_of h names member).operands
    (call_by caller shown w (context_of h names member)) ≡ outcome

-- another is finished, and its operands have room under a mark
pub record HandsOver (caller identifier : ℕ) (members : List (Option Member)) : Type 0 where
  pub named : Names caller (Ok identifier) members
  pub apart : identifier ≢ caller
  pub other : Member
  pub there : item_at members identifier ≡ Some other
  pub finished : has_finished other.course ≡ true
  pub fits : (member : Member) → item_at members caller ≡ Some member
      → length other.context.operands + length member.context.operands ≤ operand_limit

abbrev pub Finds : (caller : ℕ) → Result Found ErrorName → List (Option Member) → Type 0
Finds caller (Ok (Finished identifier)) members = HandsOver caller identifier members
Finds caller (Ok Unfinished) members = JoinsTo caller (leaves waits) members
Finds caller (Err error) members = JoinsTo caller (fails error) members
