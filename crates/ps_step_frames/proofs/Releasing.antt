-- An unwinding that frees a lock, by what it comes to.
use Rattle.std.proofs.Common.{◌≡◌, ◌≢◌, ℕ, zero, suc, ◌+◌, ◌≤◌, arith, Bool, false, List, [], ◌∷◌, Option, Some, None, Ok, Err, refl, sym, ap, subst, ◌∙◌}
use Rattle.std.specs.Option.{option_map_or}
use Rattle.std.specs.Prelude.{slice_get, slice_range, slice_set, if◌then◌else◌}
use Rattle.ps_language.specs.Value.{What, null_value, mark_value, integer_value, boolean_value, name_value, operator_value, array_value, string_value, dictionary_value, lock_value, condition_value, Value, lock_object, dictionary_object, Dictionary, Store}
use Rattle.ps_language.specs.World.{unwinding, Machine}
use Rattle.ps_language.specs.Access.{is_readable, dictionary_at, with_dictionary}
use Rattle.ps_language.specs.Effect.{Scene}
use Rattle.ps_language.specs.Owners.{with_owner}
use Rattle.ps_language.specs.Texts.{no_text, plain_text, plain_text_in}
use Rattle.ps_language.specs.StepErrors.{command_key, error_line, errorname_key, has_new_error}
use Rattle.ps_language.specs.Dictionaries.{find}
use Rattle.ps_language.specs.StepValues.{breaks}
use Rattle.ps_language.specs.Machines.{turn_as, with_scene, settled, reaches, after_turn}
use Rattle.ps_language.specs.StepFrames.{unwound_turn}
use Rattle.ps_mem.specs.Heap.{Heap, Grants, birth_at}
use Rattle.ps_mem.specs.Keeps.{Keeps}
use Rattle.ps_mem.specs.References.{StandsAs}
use Rattle.ps_mem.specs.Shows.{IsSound, Shows}
use Rattle.ps_language.specs.declared.kinds.Kind.TheVariants.{Lock as LockKind}
use Rattle.ps_ops_operands.specs.declared.failure.NotMade.{NotMade as Reason}
use Rattle.ps_ops_operands.specs.Changes.{KeepsLogsWithin, most_records}
use Rattle.ps_ops_control.specs.declared.frames.Cause.{Cause}
use Rattle.ps_ops_control.specs.declared.frames.Cause.TheVariants.{Stop, Exit, Quit}
use Rattle.ps_ops_control.specs.declared.frames.Frame.{Frame}
use Rattle.ps_ops_control.specs.declared.frames.Frame.TheVariants.{Monitor}
use Rattle.ps_ops_control.specs.Frames.{frames_in}
use Rattle.ps_ops_control.specs.Turns.{cause_of}
use Rattle.ps_ops_state.specs.declared.lent.Attempt.{Attempt}
use Rattle.ps_ops_state.specs.Lent.{Lent, scene_of, around_of, IsShown, IsGood}
use Rattle.ps_ops_state.proofs.Meeting.{at_least-same, logs_more}
use Rattle.ps_step_outcome.specs.Turns.{IsUnlogged, LeavesHeap, IsUnderWay, Turns, is_told, needs_in, reached_by, status_of, lines_after}
use Rattle.ps_step_outcome.proofs.Breaking.{ended, quits, exits, stops_untold}
use Rattle.ps_step_outcome.proofs.Composing.{here_good}
use Rattle.ps_step_outcome.proofs.Unlogged.{unlogged_reason}
use Rattle.ps_step_frames.specs.Steps.{lock_asks, releasing_turn, tells, unwinding_turn, unwinding_asks, unwound_asks, untold, with_frames}
use Rattle.ps_step_frames.proofs.Freeing.{free, bytes_free, dictionary_free, lasts_free}
use Rattle.ps_step_frames.proofs.Locking.{lock_shown}
use Rattle.ps_step_frames.proofs.Rooming.{not_turned}
use Rattle.ps_step_outcome.proofs.Storing.{stored_on}

-- ---- the machine

-- where no error is told
untold_as : (kept : Scene) (h : Heap) (names : List (List ℕ)) (cause : Cause)
    (frames : List Frame) → kept.frames ≡ frames_in h names frames → (refused : Bool)
    (machine : Machine) (birth : ℕ) → machine.context.error_dictionary ≡ birth
    → tells (cause_of cause) kept.frames (dictionary_at kept.store birth) ≡ false
    → (printed : List ℕ) → machine.printed ≡ printed
    → after_turn refused machine (breaks (cause_of cause) kept)
    ≡ reached_by (untold cause frames) (record
    (with_scene kept (status_of (untold cause frames)) machine) {
      printed = printed;
      error_lines = lines_after (untold cause frames) machine.error_lines;
    })
untold_as kept h names cause (frame ∷ frames) are refused machine birth address is printed was =
    (λ i. reaches (settled (record (with_scene kept (unwinding (cause_of cause)) machine)
    { printed = was i })))
untold_as kept h names Stop [] are refused machine birth address is printed was =
    stops_untold kept are refused machine birth address
    (sym (ap (λ fs. is_told fs (dictionary_at kept.store birth)) are) ∙ is)
    ∙ (λ i. reaches (settled (ended kept are refused machine kept.store (was i)
    machine.error_lines)))
untold_as kept h names Exit [] are refused machine birth address is printed was =
    exits kept are refused machine
    ∙ (λ i. reaches (settled (ended kept are refused machine kept.store (was i)
    machine.error_lines)))
untold_as kept h names Quit [] are refused machine birth address is printed was =
    quits kept are refused machine
    ∙ (λ i. reaches (settled (ended kept are refused machine kept.store (was i)
    machine.error_lines)))

untold_leaves : (cause : Cause) (frames : List Frame) (old new : Heap)
    → LeavesHeap (untold cause frames) old new
untold_leaves cause [] old new = tt
untold_leaves cause (frame ∷ frames) old new = tt

untold_goes : (cause : Cause) (frames : List Frame) → IsUnderWay (untold cause frames) frames
untold_goes cause [] = tt
untold_goes cause (frame ∷ frames) = tt

-- ---- texts, where only a lock has changed

module _ (s : Store) (lock : ℕ) (old : Option ℕ) (there : slice_get s lock ≡ Some (lock_object old))
  where
    text_in-free : (what : What)
        → plain_text_in (free s lock old there) what ≡ plain_text_in s what
    text_in-free (string_value part) =
        ap (λ (bs : List ℕ). if is_readable part.access then
        slice_range bs part.offset (part.offset + part.count) else no_text)
        (bytes_free s lock old there part.birth)
    text_in-free null_value = refl
    text_in-free mark_value = refl
    text_in-free (integer_value _) = refl
    text_in-free (boolean_value _) = refl
    text_in-free (name_value _) = refl
    text_in-free (operator_value _) = refl
    text_in-free (array_value _) = refl
    text_in-free (dictionary_value _) = refl
    text_in-free (lock_value _) = refl
    text_in-free (condition_value _) = refl

    text-free : (value : Option Value)
        → option_map_or (plain_text (free s lock old there)) value no_text
        ≡ option_map_or (plain_text s) value no_text
    unfolding plain_text
    text-free (Some value) = text_in-free value.what
    text-free None = refl

    pub line_free : (d : Dictionary) → error_line (free s lock old there) d ≡ error_line s d
    unfolding error_line
    line_free d =
        rw (text-free (find d.pairs errorname_key), text-free (find d.pairs command_key)) refl

    -- a dictionary stands apart
    set_apart : {A : Type 0} (xs : List A) (i j : ℕ) (a b : A) → i ≢ j
        → slice_set (slice_set xs i a) j b ≡ slice_set (slice_set xs j b) i a
    set_apart [] i j a b other = refl
    set_apart (x ∷ xs) zero zero a b other = absurd (other refl)
    set_apart (x ∷ xs) zero (suc j) a b other = refl
    set_apart (x ∷ xs) (suc i) zero a b other = refl
    set_apart (x ∷ xs) (suc i) (suc j) a b other =
        ap (λ ys. x ∷ ys) (set_apart xs i j a b λ same. other (ap suc same))

    pub dictionary_apart : (birth : ℕ) (d new : Dictionary)
        → slice_get s birth ≡ Some (dictionary_object d)
        → with_owner (with_dictionary s birth new) lock None
        ≡ with_dictionary (free s lock old there) birth new
    unfolding with_owner with_dictionary
    dictionary_apart birth d new stands =
        set_apart s birth lock (dictionary_object new) (lock_object None) λ same.
        let clash : dictionary_object d ≡ lock_object old =
        (let both : Some (dictionary_object d) ≡ Some (lock_object old) =
        sym stands ∙ (ap (slice_get s) same ∙ there) in cc) in cc

-- ---- what is lent

module _ (l : Lent) (good : IsGood l) (lock : ℕ) (known : StandsAs l.heap LockKind lock 1)
    (attempt : Attempt) where
  abbrev birth : ℕ
  birth = birth_at l.heap l.error_dictionary

  abbrev pub freed_store : Store → Store
  freed_store s = with_owner s (birth_at l.heap lock) None

  pub same_dictionary : (s : Store) → IsShown l s
      → dictionary_at (freed_store s) birth ≡ dictionary_at s birth
  same_dictionary s shown =
      let there = lock_shown l.heap lock known l.names s shown.shows in
      dictionary_free s (birth_at l.heap lock) there.0 there.1 birth

  release_records : (cause : Cause) (s : Store) (b : Bool)
      → tells (cause_of cause) (scene_of l s).frames (dictionary_at (freed_store s) birth) ≡ b
      → (needs_in attempt lock_asks (releasing_turn cause lock) l s).records
      ≡ (if b then 2 else 1)
  release_records Stop s b is = ap (λ (c : Bool). if c then 2 else 1) is
  release_records Exit s b is = ap (λ (c : Bool). if c then 2 else 1) is
  release_records Quit s b is = ap (λ (c : Bool). if c then 2 else 1) is

  module _ (cause : Cause) (b : Bool) (is : (s : Store) → IsShown l s
      → tells (cause_of cause) (scene_of l s).frames (dictionary_at s birth) ≡ b) where
    is_freed : (s : Store) → IsShown l s
        → tells (cause_of cause) (scene_of l s).frames (dictionary_at (freed_store s) birth) ≡ b
    is_freed s shown =
        ap (λ d. tells (cause_of cause) (scene_of l s).frames d) (same_dictionary s shown)
        ∙ is s shown

    pub asked_records : (s : Store) → IsShown l s
        → (needs_in attempt lock_asks (releasing_turn cause lock) l s).records
        ≡ (if b then 2 else 1)
    asked_records s shown = release_records cause s b (is_freed s shown)

    -- the log takes too few records
    pub release_unmade : (grants : Grants) → KeepsLogsWithin 0 l.grants grants attempt.slot
        → (reason : Reason) (count : ℕ) → 1 ≤ count → count ≡ (if b then 2 else 1)
        → IsUnlogged count attempt.slot l.grants grants reason
        → Turns lock_asks (releasing_turn cause lock) attempt (Err reason) l
        (record l { grants = grants })
    release_unmade grants logs reason count some all why =
        not_turned l l.scratch good.empty (at_least-same _) good grants l.room
        (omega arith) lock_asks
        (releasing_turn cause lock) attempt reason logs λ s shown.
        unlogged_reason attempt.slot count some l (record l { grants = grants }) reason why
        (needs_in attempt lock_asks (releasing_turn cause lock) l s)
        (let asked = asked_records s shown in omega (arith, asked, all))

  -- nothing is told
  pub released : (cause : Cause) → ((s : Store) → IsShown l s
      → tells (cause_of cause) (scene_of l s).frames (dictionary_at s birth) ≡ false)
      → (heap : Heap) (grants : Grants) → Keeps l.heap heap → IsSound heap
      → KeepsLogsWithin 1 l.grants grants attempt.slot
      → ((names : List (List ℕ)) (s : Store) → Shows l.heap names s
      → Shows heap names (with_owner s (birth_at l.heap lock) None))
      → Turns lock_asks (releasing_turn cause lock) attempt (Ok (untold cause l.frames)) l
      (record l { heap = heap; grants = grants })
  released cause is heap grants keeps sound logs shows =
      stored_on l good l.frames (here_good l good) heap grants l.scratch l.printed l.room keeps sound
      good.empty (at_least-same _) (omega arith) lock_asks (releasing_turn cause lock) attempt
      (untold cause l.frames) (untold_goes cause l.frames)
      (logs_more 1 most_records l.grants grants attempt.slot (omega arith) logs) λ s shown.
      let there = lock_shown l.heap lock known l.names s shown.shows in
      record {
        later = freed_store s;
        is = λ machine was address.
            untold_as (record (scene_of l s) { store = freed_store s }) l.heap l.names cause
            l.frames refl attempt.refused machine birth address (is_freed cause false is s shown)
            l.printed was;
        shows = shows l.names s shown.shows;
        lasts = lasts_free s (birth_at l.heap lock) there.0 there.1;
        leaves = untold_leaves cause l.frames l.heap heap;
        logs = subst (λ n. KeepsLogsWithin n l.grants grants attempt.slot)
            (sym (asked_records cause false is s shown)) logs;
      }

-- where an unwinding tells an error if it is new
pub told_here : (h : Heap) (names : List (List ℕ)) (cause : Cause) (frames : List Frame)
    (d : Dictionary) → cause ≡ Stop → frames ≡ []
    → tells (cause_of cause) (frames_in h names frames) d ≡ has_new_error d
told_here h names cause frames d stops none =
    (λ i. tells (cause_of (stops i)) (frames_in h names (none i)) d)

-- over the frames below
module _ (l : Lent) (lock : ℕ) (below : List Frame) (top : l.frames ≡ Monitor lock ∷ below) where
  pub release_is : (cause : Cause) (s : Store)
      → releasing_turn cause lock (with_frames below l) s ≡ unwinding_turn cause l s
  unfolding unwound_turn
  release_is cause s =
      sym (λ i. turn_as (around_of l) (unwinding (cause_of cause))
      (frames_in l.heap l.names (top i)) (scene_of l s))

  pub release_asks : (s : Store) → lock_asks (with_frames below l) s ≡ unwinding_asks l s
  release_asks s = ap (λ (fs : List Frame). unwound_asks (frames_in l.heap l.names fs)) (sym top)
