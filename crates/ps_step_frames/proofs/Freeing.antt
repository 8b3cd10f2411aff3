-- A store where a lock is freed, and the step that frees it.
use Rattle.std.proofs.Common.{◌≡◌, ℕ, arith, List, [], ◌∷◌, drop, length, Option, Some, None, Ok, Err, refl, sym, ap, subst, ◌∙◌, inl, inr}
use Rattle.std.specs.Prelude.{slice_get, slice_set}
use Rattle.std.proofs.lemmas.Bool.Decides.{eqb_tells}
use Rattle.ps_language.specs.Value.{Object, lock_object, Store}
use Rattle.ps_language.specs.World.{running}
use Rattle.ps_language.specs.Access.{bytes, bytes_in, dictionary_at, dictionary_object_in}
use Rattle.ps_language.specs.Owners.{with_owner}
use Rattle.ps_language.specs.Machines.{turn_as}
use Rattle.ps_language.specs.StepFrames.{frame_turn, freed}
use Rattle.ps_language.specs.StepValues.{Turn, leads}
use Rattle.ps_mem.specs.Heap.{Heap, Grants, birth_at}
use Rattle.ps_mem.specs.Keeps.{Keeps}
use Rattle.ps_mem.specs.Shows.{IsSound, Shows}
use Rattle.ps_mem.proofs.Lists.{slice_get-set_same, slice_get-set_other}
use Rattle.ps_ops_operands.specs.declared.failure.NotMade.{NotMade as Reason}
use Rattle.ps_ops_operands.specs.Changes.{KeepsLogsWithin, most_records}
use Rattle.ps_ops_control.specs.declared.frames.Frame.TheVariants.{Monitor}
use Rattle.ps_ops_control.specs.Frames.{frames_in, IsFrame, AreFrames}
use Rattle.ps_ops_state.specs.declared.lent.Attempt.{Attempt}
use Rattle.ps_ops_state.specs.Acts.{Lasts}
use Rattle.ps_ops_state.specs.Lent.{Lent, scene_of, around_of, IsGood}
use Rattle.ps_ops_state.proofs.Meeting.{at_least-same, logs_more}
use Rattle.ps_step_outcome.specs.declared.turned.Turned.TheVariants.{Goes}
use Rattle.ps_step_outcome.specs.Turns.{IsUnlogged, Turns, turn_needs, needs_in}
use Rattle.ps_step_outcome.proofs.Unlogged.{unlogged_reason}
use Rattle.ps_step_frames.specs.Steps.{running_turn, lock_asks}
use Rattle.ps_step_frames.proofs.Framing.{below_good}
use Rattle.ps_step_frames.proofs.Locking.{lock_shown}
use Rattle.ps_step_frames.proofs.Rooming.{not_turned}
use Rattle.ps_step_outcome.proofs.Storing.{goes_as, stored_on}

-- ---- the store

module _ (s : Store) (lock : ℕ) (old : Option ℕ) (there : slice_get s lock ≡ Some (lock_object old))
  where
    abbrev pub free : Store
    free = with_owner s lock None

    -- what is read of objects that are no locks
    kept_in : {A : Type 0} (read : Option Object → A) (nothing : A)
        → ((owner : Option ℕ) → read (Some (lock_object owner)) ≡ nothing) → (birth : ℕ)
        → read (slice_get free birth) ≡ read (slice_get s birth)
    unfolding with_owner
    kept_in read nothing none birth = elim (eqb_tells lock birth) [
      | inl (_, same) ↦ subst (λ (b : ℕ). read (slice_get (slice_set s lock (lock_object None)) b)
          ≡ read (slice_get s b)) same
          (ap read (slice_get-set_same s lock (lock_object None) (lock_object old) there)
          ∙ (none None ∙ (sym (none old) ∙ sym (ap read there))))
      | inr (_, other) ↦ ap read (slice_get-set_other s lock birth (lock_object None) other)
    ]

    pub bytes_free : (birth : ℕ) → bytes free birth ≡ bytes s birth
    unfolding bytes
    bytes_free birth = kept_in bytes_in [] (λ owner. refl) birth

    pub dictionary_free : (birth : ℕ) → dictionary_at free birth ≡ dictionary_at s birth
    unfolding dictionary_at
    dictionary_free birth = kept_in dictionary_object_in _ (λ owner. refl) birth

    pub lasts_free : Lasts s free
    lasts_free birth = let same = ap length (bytes_free birth) in omega (arith, same)

-- ---- a running context

module _ (l : Lent) (good : IsGood l) (lock : ℕ)
    (top : l.frames ≡ Monitor lock ∷ drop 1 l.frames) (attempt : Attempt) where
  pub monitor_held : IsFrame l.heap (length l.program) (Monitor lock)
  monitor_held = (subst (AreFrames l.heap (length l.program)) top good.frames).0

  monitor_is : (s : Store) → running_turn l s
      ≡ leads (freed (birth_at l.heap lock) (frames_in l.heap l.names (drop 1 l.frames))
      (scene_of l s))
  unfolding frame_turn
  monitor_is s =
      (λ i. turn_as (around_of l) running (frames_in l.heap l.names (top i)) (scene_of l s))

  monitor_records : (s : Store) → (needs_in attempt lock_asks running_turn l s).records ≡ 1
  monitor_records s =
      ap (λ (t : Turn). (turn_needs attempt.refused (lock_asks l s)
      (birth_at l.heap l.error_dictionary) (scene_of l s) t).records) (monitor_is s)

  pub monitor_unmade : (grants : Grants) → KeepsLogsWithin 0 l.grants grants attempt.slot
      → (reason : Reason) → IsUnlogged 1 attempt.slot l.grants grants reason
      → Turns lock_asks running_turn attempt (Err reason) l (record l { grants = grants })
  monitor_unmade grants logs reason why =
      not_turned l l.scratch good.empty (at_least-same _) good grants l.room
      (omega arith) lock_asks running_turn attempt
      reason logs λ s shown.
      unlogged_reason attempt.slot 1 (omega arith) l (record l { grants = grants }) reason why
      (needs_in attempt lock_asks running_turn l s)
      (let one = monitor_records s in omega (arith, one))

  pub monitor_goes : (heap : Heap) (grants : Grants) → Keeps l.heap heap → IsSound heap
      → KeepsLogsWithin 1 l.grants grants attempt.slot
      → ((names : List (List ℕ)) (s : Store) → Shows l.heap names s
      → Shows heap names (with_owner s (birth_at l.heap lock) None))
      → Turns lock_asks running_turn attempt (Ok Goes) l
      (record l { heap = heap; grants = grants; frames = drop 1 l.frames })
  monitor_goes heap grants keeps sound logs shows =
      stored_on l good (drop 1 l.frames) (below_good l good) heap grants l.scratch l.printed l.room
      keeps sound good.empty (at_least-same _) (omega arith) lock_asks running_turn attempt Goes tt
      (logs_more 1 most_records l.grants grants attempt.slot (omega arith) logs) λ s shown.
      let there = lock_shown l.heap lock monitor_held l.names s shown.shows in
      record {
        later = with_owner s (birth_at l.heap lock) None;
        is = λ machine was address.
            goes_as attempt.refused (running_turn l s) _ (monitor_is s) l.printed machine was;
        shows = shows l.names s shown.shows;
        lasts = lasts_free s (birth_at l.heap lock) there.0 there.1;
        leaves = tt;
        logs = subst (λ n. KeepsLogsWithin n l.grants grants attempt.slot)
            (sym (monitor_records s)) logs;
      }
