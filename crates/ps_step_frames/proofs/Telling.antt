-- An unwinding that frees a lock and tells the error of its context's end.
use Rattle.std.proofs.Common.{◌≡◌, ◌≢◌, ℕ, ◌+◌, ◌≤◌, ◌<◌, arith, true, List, [], ◌++◌, length, Some, Ok, Err, None, refl, sym, ap, subst, ◌∙◌, inl}
use Rattle.std.specs.Prelude.{slice_get, if◌then◌else◌}
use Rattle.ps_language.specs.declared.kinds.Kind.TheVariants.{Lock as LockKind}
use Rattle.ps_language.specs.Value.{lock_object, dictionary_object, Dictionary, Store}
use Rattle.ps_language.specs.World.{for_stop}
use Rattle.ps_language.specs.Access.{dictionary_at, with_dictionary}
use Rattle.ps_language.specs.Effect.{Scene}
use Rattle.ps_language.specs.Owners.{with_owner}
use Rattle.ps_language.specs.StepErrors.{error_line, has_new_error, told}
use Rattle.ps_language.specs.Machines.{settled, reaches}
use Rattle.ps_mem.specs.Heap.{Heap, Grants, birth_at}
use Rattle.ps_mem.specs.Keeps.{Keeps}
use Rattle.ps_mem.specs.References.{StandsAs}
use Rattle.ps_mem.specs.Shows.{IsSound, Shows}
use Rattle.ps_mem.proofs.Lists.{slice_get-set_other}
use Rattle.ps_ops_operands.specs.declared.failure.NotMade.TheVariants.{Memory}
use Rattle.ps_ops_operands.specs.Changes.{KeepsLogsWithin, most_records}
use Rattle.ps_dict.proofs.Changing.{with-lengths}
use Rattle.ps_dict.proofs.Shapes.{there}
use Rattle.ps_ops_control.specs.declared.frames.Cause.TheVariants.{Stop}
use Rattle.ps_ops_control.specs.Frames.{frames_in}
use Rattle.ps_ops_state.specs.declared.lent.Attempt.{Attempt}
use Rattle.ps_ops_state.specs.Acts.{Lasts}
use Rattle.ps_ops_state.specs.Lent.{Lent, scene_of, IsShown, IsGood}
use Rattle.ps_ops_state.proofs.Meeting.{at_least-same, logs_more}
use Rattle.ps_step_outcome.specs.declared.turned.Turned.TheVariants.{Ends}
use Rattle.ps_step_outcome.specs.Turns.{Turns, is_told, needs_in}
use Rattle.ps_step_outcome.proofs.Breaking.{ended, stops_told}
use Rattle.ps_step_frames.specs.Steps.{lock_asks, releasing_turn, tells}
use Rattle.ps_step_frames.proofs.Freeing.{lasts_free}
use Rattle.ps_step_frames.proofs.Locking.{lock_shown}
use Rattle.ps_step_frames.proofs.Releasing.{told_here, same_dictionary, freed_store, asked_records, line_free, dictionary_apart}
use Rattle.ps_step_frames.proofs.Rooming.{not_turned}
use Rattle.ps_step_outcome.proofs.Composing.{here_good}
use Rattle.ps_step_outcome.proofs.Storing.{stored_on}

-- what stands apart from a lock
free_apart : (t : Store) (i j : ℕ) → i ≢ j → slice_get (with_owner t i None) j ≡ slice_get t j
unfolding with_owner
free_apart t i j other = slice_get-set_other t i j (lock_object None) other

module _ (l : Lent) (good : IsGood l) (lock : ℕ) (known : StandsAs l.heap LockKind lock 1)
    (attempt : Attempt) (last : l.frames ≡ []) (new : (s : Store) → IsShown l s
    → has_new_error (dictionary_at s (birth_at l.heap l.error_dictionary)) ≡ true) where
  abbrev birth : ℕ
  birth = birth_at l.heap l.error_dictionary

  abbrev d : Store → Dictionary
  d s = dictionary_at s birth

  abbrev free : Store → Store
  free s = freed_store l good lock known attempt s

  same : (s : Store) → IsShown l s → dictionary_at (free s) birth ≡ d s
  same s shown = same_dictionary l good lock known attempt s shown

  pub is_told_here : (s : Store) → IsShown l s
      → tells for_stop (scene_of l s).frames (d s) ≡ true
  is_told_here s shown = told_here l.heap l.names Stop l.frames (d s) refl last ∙ new s shown

  line_same : (s : Store) → IsShown l s
      → error_line (free s) (dictionary_at (free s) birth) ≡ error_line s (d s)
  line_same s shown =
      let lock_there = lock_shown l.heap lock known l.names s shown.shows in
      ap (error_line (free s)) (same s shown)
      ∙ line_free s (birth_at l.heap lock) lock_there.0 lock_there.1 (d s)

  new_free : (s : Store) → IsShown l s → has_new_error (dictionary_at (free s) birth) ≡ true
  new_free s shown = ap has_new_error (same s shown) ∙ new s shown

  none : (s : Store) → (scene_of l s).frames ≡ []
  none s = ap (frames_in l.heap l.names) last

  line_needed : (s : Store) → IsShown l s
      → (needs_in attempt lock_asks (releasing_turn Stop lock) l s).bytes
      ≡ length (error_line s (d s))
  line_needed s shown =
      (λ i. length (if is_told (none s i) (dictionary_at (free s) birth) then
      error_line (free s) (dictionary_at (free s) birth) else []))
      ∙ ((λ i. length (if new_free s shown i then
      error_line (free s) (dictionary_at (free s) birth) else []))
      ∙ ap length (line_same s shown))

  -- the output has no room for the line
  pub line_lacks : (grants : Grants) (room : ℕ) → l.room ≤ room
      → KeepsLogsWithin 0 l.grants grants attempt.slot
      → ((s : Store) → IsShown l s → l.room < length (error_line s (d s)))
      → Turns lock_asks (releasing_turn Stop lock) attempt (Err Memory) l
      (record l { grants = grants; room = room })
  line_lacks grants room more logs few =
      not_turned l l.scratch good.empty (at_least-same _) good grants room more lock_asks
      (releasing_turn Stop lock) attempt Memory logs λ s shown.
      let less = few s shown in
      let needed = line_needed s shown in
      inl (omega (arith, less, needed))

  told_last : (s : Store) → IsShown l s → Lasts s (with_dictionary (free s) birth (told (d s)))
  told_last s shown = λ b.
      let lock_there = lock_shown l.heap lock known l.names s shown.shows in
      let stands = there l.heap l.error_dictionary good.error_stands.stands good.sound l.names s
      shown.shows in
      let apart : birth_at l.heap lock ≢ birth = λ same_birth.
      (let both : Some (lock_object lock_there.0) ≡ Some (dictionary_object (d s)) =
      sym lock_there.1 ∙ (ap (slice_get s) same_birth ∙ stands) in cc) in
      let stood : slice_get (free s) birth ≡ Some (dictionary_object (d s)) =
      free_apart s (birth_at l.heap lock) birth apart ∙ stands in
      let one = lasts_free s (birth_at l.heap lock) lock_there.0 lock_there.1 b in
      let other = with-lengths (free s) birth (d s) (told (d s)) stood b in
      omega (arith, one, other)

  -- the line is printed, and the error is new no more
  pub told_release : (heap : Heap) (grants : Grants) (printed : List ℕ) (room : ℕ)
      → Keeps l.heap heap → IsSound heap → length l.printed + l.room ≤ length printed + room
      → KeepsLogsWithin 2 l.grants grants attempt.slot
      → ((s : Store) → IsShown l s → printed ≡ l.printed ++ error_line s (d s))
      → ((s : Store) → IsShown l s → Shows heap l.names
      (with_owner (with_dictionary s birth (told (d s))) (birth_at l.heap lock) None))
      → Turns lock_asks (releasing_turn Stop lock) attempt (Ok (Ends true)) l
      (record l { heap = heap; grants = grants; printed = printed; room = room })
  told_release heap grants printed room keeps sound capacity logs lined shows =
      stored_on l good l.frames (here_good l good) heap grants l.scratch printed
      room keeps sound good.empty (at_least-same _) capacity lock_asks (releasing_turn Stop lock)
      attempt (Ends true) tt
      (logs_more 2 most_records l.grants grants attempt.slot (omega arith) logs) λ s shown.
      let kept : Scene = record (scene_of l s) { store = free s } in
      let lock_there = lock_shown l.heap lock known l.names s shown.shows in
      let stands = there l.heap l.error_dictionary good.error_stands.stands good.sound l.names s
      shown.shows in
      record {
        later = with_dictionary (free s) birth (told (d s));
        is = λ machine was address.
            stops_told kept (none s) attempt.refused machine birth address (new_free s shown)
            ∙ (λ i. reaches (settled (ended kept (none s) attempt.refused machine
            (with_dictionary (free s) birth (told (same s shown i)))
            (((λ j. was j ++ error_line (free s) (dictionary_at (free s) birth))
            ∙ (ap (λ line. l.printed ++ line) (line_same s shown) ∙ sym (lined s shown))) i)
            (machine.error_lines + 1))));
        shows = subst (Shows heap l.names) (dictionary_apart s (birth_at l.heap lock)
            lock_there.0 lock_there.1 birth (d s) (told (d s)) stands) (shows s shown);
        lasts = told_last s shown;
        leaves = tt;
        logs = subst (λ n. KeepsLogsWithin n l.grants grants attempt.slot)
            (sym (asked_records l good lock known attempt Stop true is_told_here s shown)) logs;
      }
