-- What a turn keeps, and what an operator that is left to the world sees: words for the laws.
use Rattle.std.specs.Prelude.{◌≡◌, ℕ, ℤ, List, Option, None, ⊤}
use mathlib.Core.List.{IsPrefix}
use Rattle.ps_language.specs.Value.{Value, Store}
use Rattle.ps_language.specs.World.{Context, World}
use Rattle.ps_language.specs.Effect.{Scene, Call, shows_memory, Deed, does}
use Rattle.ps_language.specs.Outcome.{Outcome, leaves}
use Rattle.ps_language.specs.StepValues.{Turn, goes, tries, breaks, errs, asks}

-- the same outcome, or both show memory and have the same objects
pub data IsAlike : Outcome Deed → Outcome Deed → Type 0 where
  the_same : {outcome : Outcome Deed} → IsAlike outcome outcome
  both_show : {a b : World} → a.store ≡ b.store
      → IsAlike (leaves (does shows_memory a)) (leaves (does shows_memory b))

-- what is shown makes no difference but where memory is shown
abbrev pub IsBlind : (List Value → Call → Outcome Deed) → Type 0
IsBlind deed = (operands : List Value) (caller : ℕ) (context : Context) (world : World)
    (shown : Option (ℤ × ℤ))
    → IsAlike (deed operands (record
    { caller = caller; context = context; shown = None; world = world }))
    (deed operands (record {
      caller = caller;
      context = context;
      shown = shown;
      world =
          world;
    }))

-- the operands, the dictionary stack and the objects of a scene
abbrev pub Stays : Type 0
Stays = List Value × List Value × Store

abbrev pub stays : Scene → Stays
stays scene = (scene.operands, scene.dictionaries, scene.store)

-- what an error of this turn leaves, or what the turn leaves to the world, has these
abbrev pub Keeps : Stays → Turn → Type 0
Keeps before (goes scene output) = ⊤
Keeps before (tries command kept scene output) = stays kept ≡ before
Keeps before (breaks cause scene) = ⊤
Keeps before (errs error command kept) = stays kept ≡ before
Keeps before (asks calling kept) = (stays kept ≡ before) × IsBlind calling.deed

-- what was printed before, and perhaps more
abbrev pub PrintsOn : (before after : List ℕ) → Type 0
PrintsOn before after = IsPrefix before after
