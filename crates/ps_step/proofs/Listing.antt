-- A turn that reads into a list for which no room is kept.
use Rattle.std.proofs.Common.{◌≡◌, ℕ, arith, Bool, true, false, List, Result, refl}
use Rattle.ps_language.specs.Effect.{Scene}
use Rattle.ps_language.specs.Objects.{lacks_room}
use Rattle.ps_language.specs.StepValues.{Turn, goes, tries, breaks, errs, asks as leaves_to}
use Rattle.ps_language.specs.World.{for_stop, for_exit, for_quit}
use Rattle.ps_language.specs.Value.{Store}
use Rattle.ps_mem.specs.Heap.{birth_at}
use Rattle.ps_ops_operands.specs.declared.failure.NotMade.{NotMade as Reason}
use Rattle.ps_ops_state.specs.declared.lent.Attempt.{Attempt}
use Rattle.ps_ops_state.specs.Acts.{Asked, IsAtLeast}
use Rattle.ps_ops_state.specs.Lent.{Lent, IsShown, scene_of}
use Rattle.ps_step_outcome.specs.declared.turned.Turned.{Turned}
use Rattle.ps_step_outcome.specs.Turns.{Turns, turn_needs}
use Rattle.ps_ops_state.proofs.Meeting.{AreNeedsWithin}
use Rattle.ps_step_tokens.proofs.Alike.{done_alike}
use Rattle.ps_step.specs.Texts.{unkept}

-- ---- what every turn asks for beside

module _ (refused : Bool) (birth : ℕ) (before : Scene) where
  module _ (few many : Asked) (records : few.records ≡ many.records)
      (rooms : IsAtLeast few.scratch many.scratch) where
    between : (scene : Scene) (output : List ℕ) → AreNeedsWithin
        (turn_needs refused few birth before (goes scene output))
        (turn_needs refused many birth before (goes scene output))
    between scene output = record {
      bytes = omega arith;
      names = omega arith;
      records = let same = records in omega (arith, same);
      words = refl;
      births = refl;
      scratch = rooms;
    }

    -- whether it lacks room
    tried : (lacking : Bool) (command : _) (kept scene : Scene) (output : List ℕ)
        → lacks_room refused kept.store scene.store ≡ lacking → AreNeedsWithin
        (turn_needs refused few birth before (tries command kept scene output))
        (turn_needs refused many birth before (tries command kept scene output))
    tried true command kept scene output is = rw is (record {
      bytes = omega arith;
      names = omega arith;
      records = omega arith;
      words = refl;
      births = refl;
      scratch = rooms;
    })
    tried false command kept scene output is = rw is (between scene output)

    broken : (cause : _) (scene : Scene) → AreNeedsWithin
        (turn_needs refused few birth before (breaks cause scene))
        (turn_needs refused many birth before (breaks cause scene))
    broken for_stop scene = rw records (record {
      bytes = omega arith;
      names = omega arith;
      records = omega arith;
      words = refl;
      births = refl;
      scratch = rooms;
    })
    broken for_exit scene = record {
      bytes = omega arith;
      names = omega arith;
      records = let same = records in omega (arith, same);
      words = refl;
      births = refl;
      scratch = rooms;
    }
    broken for_quit scene = record {
      bytes = omega arith;
      names = omega arith;
      records = let same = records in omega (arith, same);
      words = refl;
      births = refl;
      scratch = rooms;
    }

    -- the same, and as much room or more
    pub covers : (turn : Turn) → AreNeedsWithin (turn_needs refused few birth before turn)
        (turn_needs refused many birth before turn)
    covers (goes scene output) = between scene output
    covers (tries command kept scene output) = tried _ command kept scene output refl
    covers (breaks cause scene) = broken cause scene
    covers (errs error command kept) = record {
      bytes = omega arith;
      names = omega arith;
      records = omega arith;
      words = refl;
      births = refl;
      scratch = rooms;
    }
    covers (leaves_to calling kept) = record {
      bytes = omega arith;
      names = omega arith;
      records = omega arith;
      words = refl;
      births = refl;
      scratch = rooms;
    }

  -- of lists
  pub rooms_needed : (asked : Asked) (turn : Turn)
      → (turn_needs refused asked birth before turn).scratch ≡ asked.scratch
  rooms_needed asked (goes scene output) = refl
  rooms_needed asked (tries command kept scene output) =
      by (lacks_room refused kept.store scene.store) refl
    where
      by : (lacking : Bool) → lacks_room refused kept.store scene.store ≡ lacking
          → (turn_needs refused asked birth before (tries command kept scene output)).scratch
          ≡ asked.scratch
      by true is = rw is refl
      by false is = rw is refl
  rooms_needed asked (breaks for_stop scene) = refl
  rooms_needed asked (breaks for_exit scene) = refl
  rooms_needed asked (breaks for_quit scene) = refl
  rooms_needed asked (errs error command kept) = refl
  rooms_needed asked (leaves_to calling kept) = refl

-- ---- turns

-- with a list
pub unkept_more : (asked : Asked) → IsAtLeast asked.scratch (unkept asked).scratch
unkept_more asked = record { text = omega arith; sought = omega arith; words = omega arith }

-- one that asks for less is one that asks for more
pub listed_turns : (asks more : Lent → Store → Asked) (turn : Lent → Store → Turn) (attempt : Attempt)
    (result : Result Turned Reason) (l new : Lent)
    → ((s : Store) → IsShown l s → (asks l s).records ≡ (more l s).records)
    → ((s : Store) → IsShown l s → IsAtLeast (asks l s).scratch (more l s).scratch)
    → Turns asks turn attempt result l new → Turns more turn attempt result l new
listed_turns asks more turn attempt result l new records rooms turns =
    done_alike more asks turn turn attempt l new result (λ s shown. record {
      is = λ machine. refl;
      needs = covers attempt.refused (birth_at l.heap l.error_dictionary) (scene_of l s) (asks l s)
          (more l s) (records s shown) (rooms s shown) (turn l s);
    }) turns
