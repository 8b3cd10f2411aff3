-- What a step of bind comes to.
use Rattle.std.proofs.Common.{◌≡◌, ℕ, ◌+◌, ◌-◌, ◌≤◌, arith, Bool, true, false, List, ◌∷◌, length, Option, Some, None, Ok, Err, refl, sym, ap, subst, ◌∙◌}
use Rattle.std.specs.Prelude.{nat_le, IfSome, if◌then◌else◌}
use Rattle.std.proofs.lemmas.Bool.Decides.{nat_tests}
use Rattle.std.proofs.lemmas.List.{length-map}
use Rattle.ps_language.specs.declared.errors.ErrorName.{ErrorName}
use Rattle.ps_language.specs.declared.errors.ErrorName.TheVariants.{ExecStackOverflow, InvalidAccess, LimitCheck}
use Rattle.ps_language.specs.declared.operators.Operator.TheVariants.{Bind as BindOperator}
use Rattle.ps_language.specs.Value.{Store}
use Rattle.ps_language.specs.World.{running, bind_frame}
use Rattle.ps_language.specs.Access.{with_part_elements}
use Rattle.ps_language.specs.Effect.{Scene}
use Rattle.ps_language.specs.Limits.{frame_limit, nesting_limit}
use Rattle.ps_language.specs.Outcome.{Outcome, leaves, fails, given_that}
use Rattle.ps_language.specs.Control.{frames_fit}
use Rattle.ps_language.specs.Machines.{turn_as}
use Rattle.ps_language.specs.StepValues.{Turn, leads, turned, command_of}
use Rattle.ps_language.specs.StepBind.{rewritten, bound_scene, bind_step}
use Rattle.ps_language.specs.StepFrames.{frame_turn}
use Rattle.ps_word.specs.declared.values.Part.{Part}
use Rattle.ps_word.specs.declared.words.Word.{Word}
use Rattle.ps_mem.specs.Heap.{Heap, birth_at}
use Rattle.ps_mem.specs.Meaning.{value_of, part_of}
use Rattle.ps_ops_operands.specs.Changes.{values_in}
use Rattle.ps_ops_control.specs.declared.frames.Frame.{Frame}
use Rattle.ps_ops_control.specs.declared.frames.Frame.TheVariants.{Bind}
use Rattle.ps_ops_control.specs.Frames.{IsHeld, frame_of, frames_in, IsFrame, AreFrames, AreFramesWithin}
use Rattle.ps_ops_state.specs.Acts.{Asked, no_rooms}
use Rattle.ps_ops_state.specs.Lent.{Lent, scene_of, around_of, IsShown, IsGood}
use Rattle.ps_step_outcome.specs.Turns.{turn_needs, operator_error}
use Rattle.ps_step_outcome.proofs.Composing.{AreGood}
use Rattle.ps_step_frames.specs.declared.binds.Bindings.{Bindings}
use Rattle.ps_step_frames.specs.Binds.{IsThere, look_in, values_from, ends_at, all_left, BindsAll, entered_within, within_limits, bind_frames}
use Rattle.ps_step_frames.specs.Steps.{running_turn, bind_asks}
use Rattle.ps_step_frames.proofs.Unchanged.{nothing_new, stored_same}

-- ---- the limits

-- an if within an if, by what it comes to
fits_or : (deep room : Bool) (bindings other : Bindings)
    → (if deep then (if room then Ok bindings else Err ExecStackOverflow) else Err LimitCheck)
    ≡ Ok other → (deep ≡ true) × (room ≡ true) × (bindings ≡ other)
fits_or true true bindings other is = (refl, refl, cc)
fits_or true false bindings other is = cc
fits_or false room bindings other is = cc

fails_or : (deep room : Bool) (bindings : Bindings) (error : ErrorName) (left : Outcome Scene)
    → (if deep then (if room then Ok bindings else Err ExecStackOverflow) else Err LimitCheck)
    ≡ Err error
    → given_that deep LimitCheck (given_that room ExecStackOverflow left) ≡ fails error
fails_or true true bindings error left is = cc
fails_or true false bindings error left is =
    let same : ExecStackOverflow ≡ error = cc in ap fails same
fails_or false room bindings error left is =
    let same : LimitCheck ≡ error = cc in ap fails same

entered_same : (bindings other : Bindings) (inner : Option Part) (depth count : ℕ)
    → entered_within bindings inner depth count ≡ Ok other → bindings ≡ other
entered_same bindings other None depth count is = cc
entered_same bindings other (Some part) depth count is =
    (fits_or (nat_le (depth + 1) nesting_limit) (nat_le (count + 1) frame_limit) bindings other
    is).2

pub limits_ok : (bound : Option Bindings) (bindings : Bindings) (depth count : ℕ)
    → within_limits bound depth count ≡ Ok bindings → bound ≡ Some bindings
limits_ok None bindings depth count is = cc
limits_ok (Some found) bindings depth count is =
    ap Some (entered_same found bindings found.inner depth count is)

-- ---- the scene

module _ (h : Heap) (names : List (List ℕ)) (over : Part) (at depth : ℕ) (below : List Frame)
    (scene : Scene) (count : ℕ) (same : length scene.frames ≡ count) (words : List Word) where
  abbrev scene_by : Option Part → Outcome Scene
  scene_by inner =
      bound_scene (part_of (birth_at h) over) at depth (frames_in h names below) scene
      (ends_at (birth_at h) (values_in h names words) inner)

  fits_as : frames_fit 1 scene.frames ≡ nat_le (count + 1) frame_limit
  unfolding frames_fit
  fits_as = ap (λ n. nat_le (n + 1) frame_limit) same

  entered_fails : (bindings : Bindings) (inner : Option Part) (error : ErrorName)
      → entered_within bindings inner depth count ≡ Err error → scene_by inner ≡ fails error
  entered_fails bindings None error is = cc
  entered_fails bindings (Some part) error is =
      let left : Outcome Scene = leaves (rewritten (part_of (birth_at h) over) at
      (values_in h names words) (bind_frame (part_of (birth_at h) part) 0 (depth + 1)
      ∷ bind_frame (part_of (birth_at h) over) (at + length (values_in h names words)) depth
      ∷ frames_in h names below) scene) in
      (λ i. given_that (nat_le (depth + 1) nesting_limit) LimitCheck
      (given_that (fits_as i) ExecStackOverflow left))
      ∙ fails_or (nat_le (depth + 1) nesting_limit) (nat_le (count + 1) frame_limit) bindings
      error left is

  -- the first error
  pub bound_fails : (bound : Option Bindings) (error : ErrorName)
      → within_limits bound depth count ≡ Err error
      → bound_scene (part_of (birth_at h) over) at depth (frames_in h names below) scene
      (all_left h names words bound) ≡ fails error
  bound_fails None error is = let same : InvalidAccess ≡ error = cc in ap fails same
  bound_fails (Some bindings) error is = entered_fails bindings bindings.inner error is

  -- the elements are stored
  pub bound_leaves : (bindings other : Bindings) (inner : Option Part)
      → entered_within bindings inner depth count ≡ Ok other
      → scene_by inner ≡ leaves (rewritten (part_of (birth_at h) over) at
      (values_in h names words)
      (frames_in h names (bind_frames over (at + length words) depth inner below)) scene)
  bound_leaves bindings other None is = refl
  bound_leaves bindings other (Some part) is =
      let both = fits_or (nat_le (depth + 1) nesting_limit) (nat_le (count + 1) frame_limit)
      bindings other is in
      let left : (n : ℕ) → Outcome Scene = λ n. leaves (rewritten (part_of (birth_at h) over) at
      (values_in h names words) (bind_frame (part_of (birth_at h) part) 0 (depth + 1)
      ∷ bind_frame (part_of (birth_at h) over) (at + n) depth ∷ frames_in h names below) scene) in
      (λ i. given_that (both.0 i) LimitCheck
      (given_that ((fits_as ∙ both.1) i) ExecStackOverflow
      (left (length (values_in h names words)))))
      ∙ ap left (length-map words (value_of (birth_at h) names))

-- ---- what is needed

needs_room : (refused : Bool) (asked : Asked) (birth : ℕ) (before kept : Scene)
    (outcome : Outcome Scene)
    → (turn_needs refused asked birth before (turned (command_of BindOperator) kept outcome)).scratch
    ≡ asked.scratch
needs_room refused asked birth before kept (leaves scene) = refl
needs_room refused asked birth before kept (fails error) = refl

-- ---- the turn

module _ (l : Lent) (good : IsGood l) (over : Part) (at depth : ℕ) (below : List Frame)
    (top : l.frames ≡ Bind over at depth ∷ below) where
  pub bind_held : IsFrame l.heap (length l.program) (Bind over at depth)
  bind_held = (subst (AreFrames l.heap (length l.program)) top good.frames).0

  there : (s : Store) → IsShown l s → IsThere l.heap l.dictionaries l.names s
  there s shown = record {
    shows = shown.shows;
    dictionaries_within = shown.dictionaries;
    apart = good.names.different;
  }

  frames_count : (s : Store) → length (scene_of l s).frames ≡ length l.frames
  frames_count s = length-map l.frames (frame_of (birth_at l.heap) l.names)

  stepped : (s : Store) → running_turn l s ≡ turned (command_of BindOperator) (scene_of l s)
      (bind_step (part_of (birth_at l.heap) over) at depth (frames_in l.heap l.names below)
      (scene_of l s))
  unfolding frame_turn
  stepped s =
      (λ i. turn_as (around_of l) running (frames_in l.heap l.names (top i)) (scene_of l s))

  pub bind_needs : (refused : Bool) (s : Store)
      → (turn_needs refused (bind_asks over at l s) (birth_at l.heap l.error_dictionary)
      (scene_of l s) (running_turn l s)).scratch
      ≡ record no_rooms { words = over.length - at }
  bind_needs refused s =
      ap (λ (t : Turn). (turn_needs refused (bind_asks over at l s)
      (birth_at l.heap l.error_dictionary) (scene_of l s) t).scratch) (stepped s)
      ∙ needs_room refused (bind_asks over at l s) (birth_at l.heap l.error_dictionary)
      (scene_of l s) (scene_of l s) (bind_step (part_of (birth_at l.heap) over) at depth
      (frames_in l.heap l.names below) (scene_of l s))

  module _ (bound : Option Bindings) (words : List Word)
      (all : BindsAll l.heap l.dictionaries over at bound words) where
    bind_is : (s : Store) → IsShown l s → running_turn l s
        ≡ turned (command_of BindOperator) (scene_of l s)
        (bound_scene (part_of (birth_at l.heap) over) at depth (frames_in l.heap l.names below)
        (scene_of l s) (all_left l.heap l.names words bound))
    unfolding bind_step
    bind_is s shown =
        stepped s
        ∙ ap (λ b. turned (command_of BindOperator) (scene_of l s)
        (bound_scene (part_of (birth_at l.heap) over) at depth (frames_in l.heap l.names below)
        (scene_of l s) b)) (all.binds l.names s (there s shown))

    pub bind_errs : (error : ErrorName) → within_limits bound depth (length l.frames) ≡ Err error
        → (s : Store) → IsShown l s
        → operator_error BindOperator error l s ≡ running_turn l s
    bind_errs error is s shown =
        sym (bind_is s shown
        ∙ ap (λ o. turned (command_of BindOperator) (scene_of l s) o)
        (bound_fails l.heap l.names over at depth below (scene_of l s) (length l.frames)
        (frames_count s) words bound error is))

  module _ (bindings : Bindings) (words : List Word)
      (all : BindsAll l.heap l.dictionaries over at (Some bindings) words)
      (within : within_limits (Some bindings) depth (length l.frames) ≡ Ok bindings) where
    abbrev pub later_frames : List Frame
    later_frames = bind_frames over (at + length words) depth bindings.inner below

    pub bind_leaves : (s : Store) → IsShown l s → running_turn l s
        ≡ leads (record (scene_of l s) {
          frames = frames_in l.heap l.names later_frames;
          store = with_part_elements s (part_of (birth_at l.heap) over) at
              (values_in l.heap l.names words);
        })
    bind_leaves s shown =
        bind_is (Some bindings) words all s shown
        ∙ ap (λ o. turned (command_of BindOperator) (scene_of l s) o)
        (bound_leaves l.heap l.names over at depth below (scene_of l s) (length l.frames)
        (frames_count s) words bindings bindings bindings.inner within)

    -- where nothing was replaced the store is as it was
    pub left_as : (s : Store) → IsShown l s → (changed : Bool) → bindings.changed ≡ changed
        → (if changed then with_part_elements s (part_of (birth_at l.heap) over) at
        (values_in l.heap l.names words) else s)
        ≡ with_part_elements s (part_of (birth_at l.heap) over) at (values_in l.heap l.names words)
    left_as s shown true is = refl
    left_as s shown false is =
        let t = there s shown in
        sym (ap (λ vs. with_part_elements s (part_of (birth_at l.heap) over) at vs)
        (nothing_new (look_in l.heap l.dictionaries l.names s) (values_from l.heap over at s)
        (values_in l.heap l.names words) (birth_at l.heap) bindings.inner
        (all.replaced l.names s t ∙ is) (all.binds l.names s t))
        ∙ stored_same l.heap over bind_held.0 at bind_held.1 l.names s shown.shows)

    pub bind_records : (s : Store) → IsShown l s
        → (bind_asks over at l s).records ≡ (if bindings.changed then 1 else 0)
    bind_records s shown =
        ap (λ (b : Bool). if b then 1 else 0) (all.replaced l.names s (there s shown))

    -- ---- the frames

    below_held : AreFrames l.heap (length l.program) below
    below_held = (subst (AreFrames l.heap (length l.program)) top good.frames).1

    frames_held : (inner : Option Part) → IfSome inner (IsHeld l.heap)
        → entered_within bindings inner depth (length l.frames) ≡ Ok bindings
        → AreFrames l.heap (length l.program)
        (bind_frames over (at + length words) depth inner below)
    frames_held None held is = below_held
    frames_held (Some part) held is =
        let both = fits_or (nat_le (depth + 1) nesting_limit)
        (nat_le (length l.frames + 1) frame_limit) bindings bindings is in
        let deep : depth + 1 ≤ 32 = let so = both.0 in grind (arith, nat_tests, so) in (
          (held, omega arith, omega arith, deep),
          ((bind_held.0, all.count, bind_held.2, bind_held.3), below_held),
        )

    frames_within : (s : Store) → IsShown l s → (inner : Option Part)
        → AreFramesWithin l.heap l.names s (bind_frames over (at + length words) depth inner below)
    frames_within s shown None =
        (subst (AreFramesWithin l.heap l.names s) top shown.frames).1
    frames_within s shown (Some part) =
        (tt, (tt, (subst (AreFramesWithin l.heap l.names s) top shown.frames).1))

    pub later_good : AreGood l l.operands later_frames
    later_good = record {
      operands_held = good.operands;
      frames_held = frames_held bindings.inner all.inner within;
      operands_within = λ s shown. shown.operands;
      frames_within = λ s shown. frames_within s shown bindings.inner;
    }
