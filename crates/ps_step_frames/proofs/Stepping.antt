-- A step of bind: it lacks room, raises an error, is not logged, or leaves its elements.
use Rattle.std.proofs.Common.{◌≡◌, ℕ, ◌+◌, ◌-◌, ◌<◌, ◌≤◌, arith, Bool, true, false, IsTrue, List, ◌∷◌, drop, length, Option, Some, Ok, Err, refl, sym, ap, subst, ◌∙◌, inr}
use Rattle.std.specs.Prelude.{Result, slice_get, if◌then◌else◌}
use Rattle.ps_language.specs.declared.errors.ErrorName.{ErrorName}
use Rattle.ps_language.specs.declared.operators.Operator.TheVariants.{Bind as BindOperator}
use Rattle.ps_language.specs.Value.{Value, Store}
use Rattle.ps_language.specs.Access.{bytes, bytes_in, elements, splice, with_part_elements}
use Rattle.ps_language.specs.StepValues.{Turn}
use Rattle.ps_word.specs.declared.values.Part.{Part}
use Rattle.ps_word.specs.declared.words.Word.{Word}
use Rattle.ps_mem.specs.Heap.{Heap, Grants, birth_at}
use Rattle.ps_mem.specs.Keeps.{Keeps}
use Rattle.ps_mem.specs.Meaning.{part_of}
use Rattle.ps_mem.specs.Shows.{IsSound, AreWithin, Shows}
use Rattle.ps_mem.proofs.StoreShows.{array-shown}
use Rattle.ps_seq.proofs.ArrayLemmas.{birth-array}
use Rattle.ps_ops_operands.specs.declared.failure.NotMade.{NotMade as Reason}
use Rattle.ps_ops_operands.specs.declared.failure.NotMade.TheVariants.{Memory}
use Rattle.ps_ops_operands.specs.Changes.{KeepsLogsWithin, values_in, most_records}
use Rattle.ps_ops_control.specs.declared.frames.Frame.TheVariants.{Bind}
use Rattle.ps_ops_control.specs.Frames.{IsHeld}
use Rattle.ps_ops_state.specs.declared.lent.Scratch.{Scratch}
use Rattle.ps_ops_state.specs.declared.lent.Attempt.{Attempt}
use Rattle.ps_ops_state.specs.Acts.{Lasts, IsAtLeast}
use Rattle.ps_ops_state.specs.Lent.{Lent, Rooms, rooms_of, IsEmpty, scene_of, IsShown, IsGood}
use Rattle.ps_ops_state.proofs.Changing.{elements_last}
use Rattle.ps_ops_state.proofs.Meeting.{logs-same, logs_more, AreNeedsWithin}
use Rattle.ps_step_outcome.specs.declared.turned.Turned.{Turned}
use Rattle.ps_step_outcome.specs.declared.turned.Turned.TheVariants.{Goes}
use Rattle.ps_step_outcome.specs.Turns.{IsUnlogged, Turns, turn_needs, needs_in, nothing_more, operator_error}
use Rattle.ps_step_outcome.proofs.Unlogged.{unlogged_reason}
use Rattle.ps_step_frames.specs.declared.binds.Bindings.{Bindings}
use Rattle.ps_step_frames.specs.Binds.{BindsAll, within_limits, bind_frames}
use Rattle.ps_step_frames.specs.Steps.{running_turn, bind_asks}
use Rattle.ps_step_frames.proofs.Rooming.{roomy, over_roomy, not_turned}
use Rattle.ps_step_outcome.proofs.Storing.{goes_as, stored_on}
use Rattle.ps_step_frames.proofs.Rewriting.{bind_held, bind_needs, bind_errs, bind_leaves, left_as, bind_records, later_good}

-- where an array stands there is no string
part_last : (h : Heap) (part : Part) → IsHeld h part → (names : List (List ℕ)) (s : Store)
    → Shows h names s → (at : ℕ) (values : List Value)
    → Lasts s (with_part_elements s (part_of (birth_at h) part) at values)
unfolding bytes
part_last h part held names s shows at values =
    elements_last s (birth_at h part.address)
    (splice (elements s (birth_at h part.address)) (part.offset + at) values)
    (ap (λ b. bytes_in (slice_get s b))
    (birth-array h part.address (part.offset + part.length) held.stands)
    ∙ ap bytes_in (array-shown h names s shows part.address held.stands.object held.stands.at
    held.stands.kind_is))

one_or_none : (b : Bool) → (if b then 1 else 0) ≤ most_records
one_or_none true = omega arith
one_or_none false = omega arith

module _ (l : Lent) (good : IsGood l) (over : Part) (at depth : ℕ)
    (top : l.frames ≡ Bind over at depth ∷ drop 1 l.frames) (attempt : Attempt) (scratch : Scratch)
    (empty : IsEmpty scratch) (least : IsAtLeast (rooms_of l.scratch) (rooms_of scratch)) where
  abbrev Steps : Result Turned Reason → Lent → Type 0
  Steps result new = Turns (bind_asks over at) running_turn attempt result l new

  -- the list of words has too little room
  pub bind_lacks : (rooms_of l.scratch).words < over.length - at
      → Steps (Err Memory) (roomy l scratch empty least)
  bind_lacks few =
      not_turned l scratch empty least good l.grants l.room (omega arith) (bind_asks over at) running_turn attempt Memory
      (logs-same 0 l.grants attempt.slot) λ s shown.
      let asked = ap (λ (r : Rooms). r.words)
      (bind_needs l good over at depth (drop 1 l.frames) top attempt.refused s) in
      inr (inr (inr (inr (inr (omega (arith, asked, few))))))

  pub bind_raises : (bound : Option Bindings) (words : List Word)
      → BindsAll l.heap l.dictionaries over at bound words → (error : ErrorName)
      → within_limits bound depth (length l.frames) ≡ Err error → (result : Result Turned Reason)
      (new : Lent) → Turns nothing_more (operator_error BindOperator error) attempt result
      (roomy l scratch empty least) new → Steps result new
  bind_raises bound words all error is result new turns =
      over_roomy l scratch empty least (bind_asks over at) nothing_more running_turn
      (operator_error BindOperator error) attempt result new same
      (λ s shown. subst (λ (t : Turn). AreNeedsWithin
      (needs_in attempt nothing_more (operator_error BindOperator error)
      (roomy l scratch empty least) s)
      (turn_needs attempt.refused (bind_asks over at l s) (birth_at l.heap l.error_dictionary)
      (scene_of l s) t)) (same s shown) (record {
        bytes = omega arith;
        names = omega arith;
        records = omega arith;
        words = refl;
        births = refl;
        scratch = record { text = omega arith; sought = omega arith; words = omega arith };
      })) turns
    where
      same : (s : Store) → IsShown l s
          → operator_error BindOperator error l s ≡ running_turn l s
      same = bind_errs l good over at depth (drop 1 l.frames) top bound words all error is

  module _ (bindings : Bindings) (words : List Word)
      (all : BindsAll l.heap l.dictionaries over at (Some bindings) words)
      (within : within_limits (Some bindings) depth (length l.frames) ≡ Ok bindings) where
    leads_records : (s : Store) → IsShown l s
        → (needs_in attempt (bind_asks over at) running_turn l s).records
        ≡ (if bindings.changed then 1 else 0)
    leads_records s shown =
        ap (λ (t : Turn). (turn_needs attempt.refused (bind_asks over at l s)
        (birth_at l.heap l.error_dictionary) (scene_of l s) t).records)
        (bind_leaves l good over at depth (drop 1 l.frames) top bindings words all within s shown)
        ∙ bind_records l good over at depth (drop 1 l.frames) top bindings words all within s
        shown

    -- the log takes no record
    pub bind_unlogged : IsTrue bindings.changed → (grants : Grants)
        → KeepsLogsWithin 0 l.grants grants attempt.slot → (reason : Reason)
        → IsUnlogged 1 attempt.slot l.grants grants reason
        → Steps (Err reason) (record (roomy l scratch empty least) { grants = grants })
    bind_unlogged changed grants logs reason why =
        not_turned l scratch empty least good grants l.room (omega arith) (bind_asks over at)
        running_turn attempt reason logs λ s shown. unlogged_reason attempt.slot 1 (omega arith) l
        (record (roomy l scratch empty least) { grants = grants }) reason why
        (needs_in attempt (bind_asks over at) running_turn l s)
        (let is = leads_records s shown ∙ one bindings.changed changed in omega (arith, is))
      where
        one : (b : Bool) → IsTrue b → ◌≡◌ {A = ℕ} (if b then 1 else 0) 1
        one true is = refl
        one false is = cc

    -- the elements are stored where one was replaced
    pub bind_stored : (heap : Heap) (grants : Grants) → Keeps l.heap heap → IsSound heap
        → KeepsLogsWithin (if bindings.changed then 1 else 0) l.grants grants attempt.slot
        → ((names : List (List ℕ)) (s : Store) → Shows l.heap names s
        → AreWithin l.heap names s words → Shows heap names (if bindings.changed then
        with_part_elements s (part_of (birth_at l.heap) over) at (values_in l.heap names words)
        else s))
        → Steps (Ok Goes) (record l {
          heap = heap;
          grants = grants;
          frames = bind_frames over (at + length words) depth bindings.inner (drop 1 l.frames);
          scratch = scratch;
        })
    bind_stored heap grants keeps sound logs shows =
        stored_on l good _ (later_good l good over at depth (drop 1 l.frames) top bindings words
        all within) heap grants scratch l.printed l.room keeps sound empty least (omega arith)
        (bind_asks over at) running_turn attempt Goes tt
        (logs_more _ _ l.grants grants attempt.slot (one_or_none bindings.changed) logs)
        λ s shown. record {
          later = with_part_elements s (part_of (birth_at l.heap) over) at
              (values_in l.heap l.names words);
          is = λ machine was address.
              goes_as attempt.refused (running_turn l s) _ (bind_leaves l good over at depth
              (drop 1 l.frames) top bindings words all within s shown) l.printed machine was;
          shows = subst (Shows heap l.names) (left_as l good over at depth (drop 1 l.frames) top
              bindings words all within s shown bindings.changed refl)
              (shows l.names s shown.shows (all.within l.names s (record {
                shows = shown.shows;
                dictionaries_within = shown.dictionaries;
                apart = good.names.different;
              })));
          lasts = part_last l.heap over
              (bind_held l good over at depth (drop 1 l.frames) top).0 l.names s shown.shows at _;
          leaves = tt;
          logs = subst (λ n. KeepsLogsWithin n l.grants grants attempt.slot)
              (sym (leads_records s shown)) logs;
        }
