-- An entry that was handed out and is given back is the same.
use Rattle.std.proofs.Common.{◌≡◌, ℕ, refl}
use Rattle.std.specs.Prelude.{Bool, true, false, ℤ, Option, Some, None}
use Rattle.ps_language.specs.declared.schedules.Entry.{Entry}
use Rattle.ps_run_hosts.specs.Hosts.{given_entry, handed_entry}

parts : (context steps : ℕ) (refused : Bool) (shown : Option (ℤ × ℤ)) → (entry : Entry)
    → entry ≡ record { context = context; steps = steps; refused = refused; shown = shown }
    → given_entry (handed_entry entry) ≡ entry
parts context steps false None entry is = rw is refl
parts context steps false (Some pair) entry is = rw is refl
parts context steps true None entry is = rw is refl
parts context steps true (Some pair) entry is = rw is refl

pub given_of_handed : (entry : Entry) → given_entry (handed_entry entry) ≡ entry
given_of_handed entry =
    parts entry.context entry.steps entry.refused entry.shown entry refl
