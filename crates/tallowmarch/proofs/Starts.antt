-- A handle that is to be started holds no run; and a run that begins might have found no room.
use Rattle.std.proofs.Common.{◌≡◌, ℕ, false, List, Option, Some, None, inl, inr, Ok, Err, refl, sym, subst}
use Rattle.std.proofs.lemmas.Bool.{true≢false}
use Rattle.core.specs.Option.{is_some}
use Rattle.ps_vault.specs.Stories.{Story}
use Rattle.ps_run_hosts.specs.declared.hosting.Refusal.TheVariants.{NoRoom}
use Rattle.ps_run_hosts.specs.Handles.{HasStarted}
use Rattle.ps_run_hosts.specs.Hosts.{IsMadeOf}
use Rattle.tallowmarch.specs.declared.engines.Engine.{Engine}
use Rattle.tallowmarch.specs.Handles.{told}

none_in : (run : Option Story) → is_some run ≡ false → run ≡ None
none_in None none = refl
none_in (Some story) none = absurd (true≢false none)

pub told_none : (engine : Engine) (value : Option Engine) → value ≡ Some engine
    → is_some engine.run ≡ false → told value ≡ None
told_none engine value is none =
    subst (λ (v : Option Engine). told v ≡ None) (sym is) (none_in engine.run none)

pub no_room : (program numbers : List ℕ) (story : Story)
    → IsMadeOf numbers (HasStarted program) (Ok story)
    → IsMadeOf numbers (HasStarted program) (Err NoRoom)
no_room program numbers story (inl made) = inl (made.0, made.1.0)
no_room program numbers story (inr other) = let is = other.1 in absurd (cc)
