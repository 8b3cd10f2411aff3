-- No run stood there, and the one that began finds no room for its box.
use Rattle.std.proofs.Common.{◌≡◌, ◌∙◌, ap, false, None, Err, rules, subst, sym}
use Rattle.core.specs.Option.{is_some}
use Rattle.ps_run_hosts.specs.declared.hosting.Refusal.TheVariants.{NoRoom}
use Rattle.tallowmarch.specs.declared.engines.Engine.{Engine}
use Rattle.tallowmarch.specs.Handles.{told}
use Rattle.tallowmarch.proofs.Starts.{no_room, told_none}
use Rattle.tallowmarch.proofs.slices.tallowmarch_start.Goals as goal
use Rattle.tallowmarch.proofs.slices.tallowmarch_start.Goals.{in-Some+else-is_some, in_default}

pub returns-in_default-new : goal.returns-in_default-new
returns-in_default-new c =
    let closed : told c.args.run.now.handle.value ≡ None = elim c.match-take.branch [
      | in-Some+else-is_some w ↦ told_none w.in-Some.engine.value c.args.run.now.handle.value
          (sym (rw w.in-Some.is at c.take.ensures.value))
          (subst (λ (e : Engine). is_some e.run ≡ false) w.deref.ensures
          (sym w.is_some.ensures ∙ w.if-is_some.false))
      | in_default w ↦ search rules
    ] in
    rw closed (
      Err NoRoom,
      no_room _ _ _ c.in-Ok.ensures,
      (ap told c.take.ensures.none, c.code_of_refusal-in_default-new.ensures),
    )
