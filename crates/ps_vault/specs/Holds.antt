-- When a step is held up.
use Rattle.std.specs.Prelude.{◌≡◌, ◌<◌, ◌≤◌, ◌%◌, ℕ, ℤ, Bool, true, false, Option, Some, None, Result, Ok, Err}
use Rattle.ps_language.specs.Effect.{Around, Scene}
use Rattle.ps_language.specs.Live.{asked_words}
use Rattle.ps_language.specs.Locks.{is_ready}
use Rattle.ps_language.specs.World.{Status}
use Rattle.ps_record.specs.Format.{slots}
use Rattle.ps_mem.specs.Heap.{Heap, Grants}
use Rattle.ps_ops_operands.specs.declared.failure.NotMade.{NotMade}
use Rattle.ps_ops_operands.specs.declared.failure.NotMade.TheVariants.{NeedSpace}
use Rattle.ps_ops_operands.specs.Changes.{most_records}
use Rattle.ps_ops_state.specs.Acts.{Asked}
use Rattle.ps_ctx.specs.declared.notes.Note.{Note}
use Rattle.ps_ctx.specs.declared.notes.Note.TheVariants.{Wishes}
use Rattle.ps_ctx.specs.Calls.{IsHeldUpAs}
use Rattle.ps_ctx.specs.Needs.{step_wants}
use Rattle.ps_vault.specs.Stories.{Story, IsMemoryOf, LacksRoom, world_at}

-- the slot of the log that a context's records go into
abbrev pub slot_of : (context : ℕ) → ℕ
slot_of context = context % slots

-- the context is ready, and its step is not made for this reason in a memory with the numbers of
-- the story: the log is closed, or takes fewer records than a step may put, or what the step may
-- want isn't to be had
pub record IsHeldUp {M : Type 0} (heap : M → Heap) (grants : M → Grants)
    (asks : Status → Around → Scene → Asked) (context : ℕ) (refused : Bool) (story : Story)
    (reason : NotMade) : Type 0 where
  pub ready : is_ready (world_at story) context ≡ true
  pub memory : M
  pub is_of : IsMemoryOf story (heap memory) (grants memory)
  pub held_up : IsHeldUpAs (step_wants asks context refused (world_at story)) (slot_of context)
      (heap memory) (grants memory) reason

-- whether steps were held up
abbrev pub is_held_up : Result Note NotMade → Bool
is_held_up (Ok note) = false
is_held_up (Err reason) = true

-- where an unrefused step isn't made for want of room, it asks for so many words, and there is no
-- room for what it asks for
abbrev pub IfForRoom : (refused : Bool) → Story → (context : ℕ) → NotMade → Type 0
IfForRoom refused story context (NeedSpace words) =
    refused ≡ false → (words ≡ asked_words (world_at story) context) × LacksRoom story context
IfForRoom refused story context reason = Unit {0}

-- the number of the vmreclaim that a step was, if it was one
abbrev pub wish_in : Note → Option ℤ
wish_in (Wishes number) = Some number
wish_in _ = None

abbrev pub wish_told : Result Note NotMade → Option ℤ
wish_told (Ok note) = wish_in note
wish_told (Err reason) = None

-- a memory that grows, and logs that aren't closed and take as many records as a step may put
pub record Grows (heap : Heap) (grants : Grants) : Type 0 where
  pub grows : heap.space.grows ≡ true
  pub opened : (slot : ℕ) → slot < slots → grants.closed slot ≡ false
  pub free : (slot : ℕ) → slot < slots → most_records ≤ grants.records slot

-- each memory of this kind is so
abbrev pub OnlyGrows : {M : Type 0} → (M → Heap) → (M → Grants) → Type 0
OnlyGrows heap grants = (m : _) → Grows (heap m) (grants m)
