-- The text that was made, or the fault.
use Rattle.std.proofs.Common.{List, ℕ, Ok, Err, refl, ap, ◌∙◌, rules}
use Rattle.ps_run_hosts.specs.Hosts.{handed}
use Rattle.ps_run_hosts.proofs.definitions.hand_definition.Goals as goal

pub returns-in-Err : goal.returns-in-Err
returns-in-Err c =
    (Err c.in-Err.fault, c.in-Err.ensures.fault, (refl, c.code_of_fault.ensures))

pub returns : goal.returns
returns c =
    let made = c.in-Ok.ensures in
    let room = c.args.room.now in (
      Ok c.in-Ok.text.items,
      (made.sound.0, made.sound.1, made.text),
      (
        c.hand.ensures ∙ ap (λ (found : List ℕ). handed found room) c.as_slice.ensures.value,
        search rules,
        refl,
      ),
    )
