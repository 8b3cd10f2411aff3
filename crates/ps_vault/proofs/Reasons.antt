-- Why a step of a vault isn't made, in its own memory.
use Rattle.std.proofs.Common.{◌≡◌, ℕ, ℤ, ◌+◌, ◌<◌, ◌≤◌, Bool, true, false, ◌&&◌, Option, Some, None, Err, List, length, refl, sym, ◌∙◌, ap, subst, inl, inr, arith}
use Rattle.std.specs.Prelude.{IsTrue, IsSome, is_some, ◌||◌, ◌⊎◌, nat_le}
use Rattle.std.proofs.lemmas.Bool.{true≢false}
use Rattle.std.proofs.lemmas.Bool.Decides.{nat_tests}
use Rattle.ps_language.specs.declared.schedules.Entry.{Entry}
use Rattle.ps_language.specs.Effect.{Around, Scene}
use Rattle.ps_language.specs.Keeping.{Stays, stays, Keeps as KeepsOf}
use Rattle.ps_language.specs.Live.{asked_births, asked_words}
use Rattle.ps_language.specs.Locks.{is_ready}
use Rattle.ps_language.specs.Machines.{around_of, scene_of, turn_as, own_step}
use Rattle.ps_language.specs.Step.{machine_of}
use Rattle.ps_language.specs.StepValues.{Turn}
use Rattle.ps_language.specs.World.{Status, Machine, World}
use Rattle.ps_language.specs.Worlds.{world}
use Rattle.ps_language.proofs.LeftTurns.{left_by}
use Rattle.ps_language.proofs.OperandsKept.{turn_as-keeps}
use Rattle.ps_word.specs.Headers.{birth_limit}
use Rattle.ps_record.specs.Format.{slots}
use Rattle.ps_mem.specs.Heap.{Heap, Grants, has_room}
use Rattle.ps_ops_operands.specs.declared.failure.NotMade.{NotMade as Reason}
use Rattle.ps_ops_operands.specs.declared.failure.NotMade.TheVariants.{LogFull, LogClosed, NeedSpace, Memory}
use Rattle.ps_ops_state.specs.declared.lent.Attempt.{Attempt}
use Rattle.ps_ops_state.specs.Acts.{Asked}
use Rattle.ps_ctx_table.specs.Desks.{Desk}
use Rattle.ps_step_outcome.specs.Turns.{calling_of}
use Rattle.ps_ctx.specs.declared.worlds.Calling.{Calling}
use Rattle.ps_ctx.specs.Calls.{IsHeldUpAs}
use Rattle.ps_ctx.specs.Growth.{Growth, may_fail}
use Rattle.ps_ctx.specs.Held.{Held, IsAtBy, IsCalling}
use Rattle.ps_ctx.specs.Needs.{step_wants}
use Rattle.ps_ctx.specs.Steps.{Steps}
use Rattle.ps_ctx.proofs.Asked.{asked-words, asked-births}
use Rattle.ps_ctx.proofs.Starving.{not_grows}
use Rattle.ps_vault.specs.Holds.{slot_of, Grows, IfForRoom, IsHeldUp, OnlyGrows}
use Rattle.ps_vault.specs.Reports.{MayWant}
use Rattle.ps_vault.specs.Stories.{Story, IsMemoryOf, Keeps, LacksRoom, few_words, few_births, logs_closed, world_at}
use Rattle.ps_vault.proofs.Keeping.{caller_of, keeps_unmade, no_call}

-- ---- its memory

-- a desk has the numbers of a story
pub record HasNumbersOf (story : Story) (d : Desk) : Type 0 where
  pub space : d.heap.space.size ≡ story.space
  pub used : d.heap.used ≡ story.used
  pub flips : d.heap.space.flips ≡ story.flips
  pub cycle_open : d.grants.cycle_open ≡ story.cycle_open
  pub closed : logs_closed d.grants.closed ≡ story.closed

-- what the element of a call left has the operands, dictionaries and objects of before
pub left_stays : (calling : Calling) (d : Desk) (w : World) (at : IsCalling calling d w)
    → stays (scene_of at.left) ≡ stays (scene_of (machine_of w at.context))
unfolding own_step
left_stays calling d w at =
    let machine : Machine = machine_of w at.context in
    let around : Around = around_of w.program machine in
    let turn : Turn = turn_as around at.context.status at.context.frames (scene_of machine) in
    let left = left_by false machine turn (calling_of calling.operator) at.left
    (at.leaves false) in
    let kept : KeepsOf (stays (scene_of machine)) turn =
    (turn_as-keeps around at.context.status at.context.frames (scene_of machine)).0 in
    sym (ap (λ (m : Machine). stays (scene_of m)) left.is)
    ∙ (subst (KeepsOf (stays (scene_of machine))) left.asks kept).0

births_by : (calling : Option Calling) (d : Desk) (w : World) → IsAtBy calling d w
    → d.heap.next ≡ length w.store
births_by None d w at = at.shows.next
births_by (Some calling) d w at =
    at.world.shows.next
    ∙ ap (λ (x : Stays). length x.2) (left_stays calling d w at)

pub memory_of : (h : Held) (schedule : List Entry) (story : Story) → Keeps h schedule
    → story.program ≡ h.desk.program → story.schedule ≡ schedule → HasNumbersOf story h.desk
    → IsMemoryOf story h.desk.heap h.desk.grants
memory_of h schedule story keeps program made numbers = record {
  space = numbers.space;
  used = numbers.used;
  flips = numbers.flips;
  births = births_by h.calling h.desk (world h.desk.program schedule) keeps.at
      ∙ ap (λ (p : List ℕ). length (world p schedule).store) (sym program)
      ∙ ap (λ (s : List Entry). length (world story.program s).store) (sym made);
  cycle_open = numbers.cycle_open;
  closed = numbers.closed;
}

-- ---- a step that isn't made

module _ (asks : Status → Around → Scene → Asked) (context : ℕ) (attempt : Attempt)
    (shown : Option (ℤ × ℤ)) (old new : Held) (schedule : List Entry) (keeps : Keeps old schedule)
    (ready : is_ready (world old.desk.program schedule) context ≡ true) (reason : Reason)
    (steps : Steps asks context attempt shown (Err reason) old new) where
  abbrev here : World
  here = world old.desk.program schedule

  -- what stands is as before, unless a call waits that didn't
  pub heap_left : (caller_of new.calling ≡ None) ⊎ IsSome (caller_of old.calling)
      → new.desk.heap ≡ old.desk.heap
  heap_left why =
      ap (λ (d : Desk). d.heap) (steps.same here keeps.at (stays_calling old.calling refl why))
    where
      stays_calling : (calling : Option Calling) → old.calling ≡ calling
          → (caller_of new.calling ≡ None) ⊎ IsSome (caller_of old.calling)
          → new.calling ≡ old.calling
      stays_calling None is (inl none) = no_call new.calling none ∙ sym is
      stays_calling None is (inr some) =
          absurd (true≢false (sym some
          ∙ ap (λ (c : Option Calling). is_some (caller_of c)) is))
      stays_calling (Some calling) is why = steps.waits (subst IsSome (sym is) refl)

  -- there is a reason, of its own memory
  pub held_step : {M : Type 0} (heap : M → Heap) (grants : M → Grants) (memory : M)
      (story : Story) → story.program ≡ new.desk.program → story.schedule ≡ schedule
      → HasNumbersOf story new.desk
      → new.desk.heap ≡ heap memory → new.desk.grants ≡ grants memory
      → attempt.slot ≡ slot_of context
      → IsHeldUp heap grants asks context attempt.refused story reason
  held_step heap grants memory story program made numbers same_heap same_grants logged =
      let now : here ≡ world_at story =
      ap (λ (p : List ℕ). world p schedule) (sym (program ∙ steps.program))
      ∙ ap (world story.program) (sym made) in
      let wanted : World → Growth = step_wants asks context attempt.refused in
      let is_of : IsMemoryOf story new.desk.heap new.desk.grants =
      memory_of new schedule story (keeps_unmade asks context attempt shown old new schedule keeps ready reason steps)
      program made numbers in
      record {
        ready = subst (λ (w : World). is_ready w context ≡ true) now ready;
        memory = memory;
        is_of = subst (λ (h : Heap). IsMemoryOf story h (grants memory)) same_heap
            (subst (IsMemoryOf story new.desk.heap) same_grants is_of);
        held_up = subst (λ (w : World). IsHeldUpAs (wanted w) (slot_of context) (heap memory)
            (grants memory) reason) now
            (subst (λ (n : ℕ). IsHeldUpAs (wanted here) n (heap memory) (grants memory) reason)
            logged
            (subst (λ (g : Grants). IsHeldUpAs (wanted here) attempt.slot (heap memory) g reason)
            same_grants (subst (λ (h : Heap).
            IsHeldUpAs (wanted here) attempt.slot h new.desk.grants reason) same_heap
            (steps.held_up reason refl here keeps.at ready))));
      }

-- ---- want of memory

-- a growth fails, in memories that all grow, or of which none does
pub memory_wanted : {M : Type 0} (heap : M → Heap) (grants : M → Grants)
    (asks : Status → Around → Scene → Asked) (context : ℕ) (refused : Bool) (story : Story)
    (grows : Bool) → ((m : M) → (heap m).space.grows ≡ grows)
    → IsHeldUp heap grants asks context refused story Memory
    → MayWant asks grows context refused (world_at story)
memory_wanted heap grants asks context refused story grows all held = record {
  ready = held.ready;
  wants = subst (λ b. IsTrue (may_fail b (step_wants asks context refused (world_at story))))
      (all held.memory) held.held_up;
}

-- ---- want of room

-- words or births that a step asks for aren't to be had
room_lacks : (heap : Heap) (words births : ℕ) → has_room heap words births ≡ false
    → (heap.space.size < heap.used + words) ⊎ (birth_limit < heap.next + births)
unfolding has_room
room_lacks heap words births none =
    by heap.space.grows (nat_le (heap.used + words) heap.space.size)
    (nat_le (heap.next + births) birth_limit) refl refl none
  where
    by : (grows fits born : Bool) → nat_le (heap.used + words) heap.space.size ≡ fits
        → nat_le (heap.next + births) birth_limit ≡ born → (grows || (fits && born)) ≡ false
        → (heap.space.size < heap.used + words) ⊎ (birth_limit < heap.next + births)
    by true fits born f b is = absurd (true≢false is)
    by false true true f b is = absurd (true≢false is)
    by false true false f b is = inr (grind (arith, nat_tests, b))
    by false false born f b is = inl (grind (arith, nat_tests, f))

pub lacks_room : {M : Type 0} (heap : M → Heap) (grants : M → Grants)
    (asks : Status → Around → Scene → Asked) (context words : ℕ) (story : Story)
    → IsHeldUp heap grants asks context false story (NeedSpace words)
    → (words ≡ asked_words (world_at story) context) × LacksRoom story context
lacks_room heap grants asks context words story held =
    let now : World = world_at story in
    let wanted : Growth = step_wants asks context false now in
    let some : 1 ≤ wanted.words =
    subst (λ (n : ℕ). 1 ≤ n) held.held_up.0 held.held_up.1 in
    let same : wanted.words ≡ asked_words now context =
    asked-words asks now context held.ready some in
    let born : wanted.births ≡ asked_births now context =
    asked-births asks now context held.ready some in
    let is_of = held.is_of in (
      held.held_up.0 ∙ same,
      elim (room_lacks (heap held.memory) wanted.words wanted.births held.held_up.2) [
        | inl few ↦ few_words (omega (arith, few, same, is_of.space, is_of.used))
        | inr few ↦ few_births (omega (arith, few, born, is_of.births))
      ],
    )

pub for_room : {M : Type 0} (heap : M → Heap) (grants : M → Grants)
    (asks : Status → Around → Scene → Asked) (context : ℕ) (refused : Bool) (story : Story)
    (reason : Reason) → IsHeldUp heap grants asks context refused story reason
    → IfForRoom refused story context reason
for_room heap grants asks context refused story LogFull held = tt
for_room heap grants asks context refused story LogClosed held = tt
for_room heap grants asks context refused story Memory held = tt
for_room heap grants asks context refused story (NeedSpace words) held = λ ordinary.
    lacks_room heap grants asks context words story
    (subst (λ (b : Bool). IsHeldUp heap grants asks context b story (NeedSpace words)) ordinary
    held)

-- ---- a memory that only grows

no_other : (heap : Heap) (grants : Grants) (wanted : Growth) (slot : ℕ) (reason : Reason)
    → slot < slots → Grows heap grants → IsHeldUpAs wanted slot heap grants reason
    → reason ≡ Memory
no_other heap grants wanted slot LogFull below grows held =
    let less = held.1 in let free = grows.free slot below in absurd (omega (arith, less, free))
no_other heap grants wanted slot LogClosed below grows held =
    absurd (true≢false (sym held ∙ grows.opened slot below))
no_other heap grants wanted slot (NeedSpace words) below grows held =
    absurd (true≢false (sym grows.grows ∙ not_grows heap wanted.words wanted.births held.2))
no_other heap grants wanted slot Memory below grows held = refl

-- a step over it is held up for want of memory alone
pub may_want : {M : Type 0} (heap : M → Heap) (grants : M → Grants)
    (asks : Status → Around → Scene → Asked) (context : ℕ) (refused : Bool) (story : Story)
    (reason : Reason) → OnlyGrows heap grants
    → IsHeldUp heap grants asks context refused story reason
    → MayWant asks true context refused (world_at story)
may_want heap grants asks context refused story reason grows held =
    memory_wanted heap grants asks context refused story true (λ m. (grows m).grows)
    (subst (IsHeldUp heap grants asks context refused story)
    (no_other (heap held.memory) (grants held.memory)
    (step_wants asks context refused (world_at story)) (slot_of context) reason (omega arith)
    (grows held.memory) held.held_up) held)
