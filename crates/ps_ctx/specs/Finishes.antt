-- What a turn of one context comes to among all of them (PLRM2, 7.1).
use Rattle.std.specs.Prelude.{◌≡◌, ℕ, ℤ, ◌||◌, Option, Some, None, Result, Ok}
use Rattle.ps_language.specs.Effect.{Around, Scene}
use Rattle.ps_language.specs.World.{Status}
use Rattle.ps_ops_operands.specs.declared.failure.NotMade.{NotMade as Reason}
use Rattle.ps_ops_state.specs.declared.lent.Attempt.{Attempt}
use Rattle.ps_ops_state.specs.Acts.{Asked}
use Rattle.ps_step_outcome.specs.declared.turned.Turned.{Turned}
use Rattle.ps_step_outcome.specs.declared.turned.Turned.TheVariants.{Calls}
use Rattle.ps_ctx_table.specs.Desks.{Desk, tells, turned_members}
use Rattle.ps_ctx.specs.declared.notes.Note.{Note}
use Rattle.ps_ctx.specs.declared.notes.Note.TheVariants.{Nothing}
use Rattle.ps_ctx.specs.declared.worlds.Calling.{Calling}
use Rattle.ps_ctx.specs.Held.{Held, held}
use Rattle.ps_ctx.specs.Steps.{Steps}

-- the call that is left to be made
abbrev pub calling_after : Turned → (identifier : ℕ) → Option Calling
calling_after (Calls operator) identifier =
    Some (record { caller = identifier; operator = operator })
calling_after turned identifier = None

-- all contexts once that one has settled
abbrev pub settled_desk : Turned → (identifier : ℕ) → Desk → Desk
settled_desk turned identifier d = record d {
  members = turned_members turned identifier d.members;
  has_faulted = d.has_faulted || tells turned;
}

abbrev pub settled_held : Turned → (identifier : ℕ) → Desk → Held
settled_held turned identifier d =
    held (settled_desk turned identifier d) (calling_after turned identifier)

-- a turn that calls comes to what the call comes to; any other has settled
abbrev pub Finishes : Turned → (identifier : ℕ) → Attempt → (shown : Option (ℤ × ℤ))
    → Result Note Reason → (settled new : Held) → Type 0
Finishes (Calls operator) identifier attempt shown result settled new =
    (asks : Status → Around → Scene → Asked) → Steps asks identifier attempt shown result settled
    new
Finishes turned identifier attempt shown result settled new =
    (result ≡ Ok Nothing) × (new ≡ settled)
