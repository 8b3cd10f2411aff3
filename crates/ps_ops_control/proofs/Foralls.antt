-- The beginning of forall.
use Rattle.std.proofs.Common.{◌≡◌, ℕ, ◌<◌, ◌≤◌, ◌&&◌, true, false, List, ◌∷◌, drop, length, Option, Some, None, Ok, Err}
use Rattle.std.proofs.Common.{refl, arith}
use Rattle.ps_language.specs.declared.access.Access.{Access}
use Rattle.ps_language.specs.declared.errors.ErrorName.TheVariants.{ExecStackOverflow, InvalidAccess, TypeCheck}
use Rattle.ps_language.specs.Access.{is_executable, is_readable}
use Rattle.ps_language.specs.Control.{as_procedure, forall_row}
use Rattle.ps_stacks.specs.Tops.{first_two_of}
use Rattle.ps_word.specs.declared.words.Word.{Word}
use Rattle.ps_word.specs.declared.values.Part.{Part}
use Rattle.ps_mem.specs.Heap.{Heap, birth_at}
use Rattle.ps_mem.specs.Meaning.{value_of, part_of}
use Rattle.ps_mem.specs.Shows.{IsValue, IsWithin}
use Rattle.ps_ops_operands.proofs.Operands.{first_two_split}
use Rattle.ps_ops_operands.proofs.Held.{second_held, rest_held}
use Rattle.ps_ops_operands.proofs.Ready.{ready_drop}
use Rattle.ps_ops_control.specs.declared.frames.Frame.{Frame}
use Rattle.ps_ops_control.specs.declared.frames.Frame.TheVariants.{Forall}
use Rattle.ps_ops_control.specs.Frames.{frame_of, IsHeld}
use Rattle.ps_ops_control.specs.Controls.{stacks, IsReadyFor, IsSecondAccess, Controls}
use Rattle.ps_ops_control.proofs.Rooms.{fits, full}

module _ (h : Heap) (size : ℕ) (operands : List Word) (frames : List Frame)
    (ready : IsReadyFor h size (stacks operands frames)) (access : Option Access)
    (second : IsSecondAccess h operands access)
    (p x : Word) (two : Some (p, x) ≡ first_two_of operands) (body : Part)
    (procedure : (births : ℕ → ℕ) (names : List (List ℕ)) → as_procedure (value_of births names p)
    ≡ Some (part_of births body)) where
  pub forall_wrong : access ≡ None
      → Controls forall_row (Err TypeCheck) h size (stacks operands frames) (stacks operands frames)
  forall_wrong none = record {
    meets = λ names store dictionaries shows within.
        rw (
          first_two_split operands p x two,
          procedure (birth_at h) names,
          second.meets names store shows p x two,
          none,
        ) (refl, refl);
    ready = ready;
  }

  module _ (a : Access) (known : access ≡ Some a) where
    pub forall_hidden : (is_executable body.access && is_readable a) ≡ false
        → Controls forall_row (Err InvalidAccess) h size (stacks operands frames) (stacks operands frames)
    forall_hidden hidden = record {
      meets = λ names store dictionaries shows within.
          rw (
            first_two_split operands p x two,
            procedure (birth_at h) names,
            second.meets names store shows p x two,
            known,
            hidden,
          ) (refl, refl);
      ready = ready;
    }

    module _ (may : (is_executable body.access && is_readable a) ≡ true) where
      pub forall_full : 250 ≤ length frames
          → Controls forall_row (Err ExecStackOverflow) h size (stacks operands frames) (stacks operands frames)
      forall_full many = record {
        meets = λ names store dictionaries shows within.
            rw (
              first_two_split operands p x two,
              procedure (birth_at h) names,
              second.meets names store shows p x two,
              known,
              may,
              full (frame_of (birth_at h) names) frames 1 (omega (arith, many)),
            ) (refl, refl);
        ready = ready;
      }

      pub forall_begins : length frames < 250 → IsHeld h body
          → Controls forall_row (Ok tt) h size (stacks operands frames)
          (stacks (drop 2 operands) (Forall x 0 body ∷ frames))
      forall_begins room held = record {
        meets = λ names store dictionaries shows within.
            let over = second_held (IsWithin (birth_at h) names store) operands within.operands p x two in
            let below = rest_held (IsWithin (birth_at h) names store) operands within.operands 2 in
            let above = within.frames in
            rw (
              first_two_split operands p x two,
              procedure (birth_at h) names,
              second.meets names store shows p x two,
              known,
              may,
              fits (frame_of (birth_at h) names) frames 1 (omega (arith, room)),
            )
            (refl, record { operands = below; frames = (over, above) });
        ready = record {
          operands = ready_drop h operands 2 ready.operands;
          frames = ((second_held (IsValue h) operands ready.operands.values p x two, held), ready.frames);
        };
      }
