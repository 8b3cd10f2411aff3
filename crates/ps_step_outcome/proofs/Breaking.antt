-- An unwinding that leaves no frame ends its context (PLRM2, 3.10).
use Rattle.std.proofs.Common.{◌≡◌, ℕ, ◌+◌, ◌≤◌, ◌++◌, arith, Bool, true, false, List, [], ◌∷◌, length, Ok, Err, refl}
use Rattle.std.proofs.Common.{sym, ap, subst, ◌∙◌}
use Rattle.std.specs.Prelude.{if◌then◌else◌}
use Rattle.ps_language.specs.Value.{Dictionary, Store}
use Rattle.ps_language.specs.World.{Cause, for_stop, for_exit, for_quit, unwinding, finished, Machine}
use Rattle.ps_language.specs.Access.{dictionary_at, with_dictionary}
use Rattle.ps_language.specs.Effect.{Scene}
use Rattle.ps_language.specs.StepErrors.{has_new_error, error_line, told}
use Rattle.ps_language.specs.StepValues.{breaks}
use Rattle.ps_language.specs.Machines.{with_status, with_scene, with_line, with_line_of, settled, reaches, after_turn}
use Rattle.ps_mem.specs.Heap.{Heap, Grants, birth_at}
use Rattle.ps_mem.specs.Keeps.{Keeps}
use Rattle.ps_mem.specs.Shows.{IsSound, Shows}
use Rattle.ps_ops_operands.specs.declared.failure.NotMade.{NotMade as Reason}
use Rattle.ps_ops_operands.specs.Changes.{KeepsLogsWithin, most_records}
use Rattle.ps_ops_control.specs.declared.frames.Frame.{Frame}
use Rattle.ps_ops_control.specs.Frames.{frames_in}
use Rattle.ps_dict.proofs.Changing.{with-lengths}
use Rattle.ps_dict.proofs.Shapes.{there}
use Rattle.ps_ops_state.specs.declared.lent.Attempt.{Attempt}
use Rattle.ps_ops_state.specs.Lent.{Lent, scene_of, IsShown, IsGood}
use Rattle.ps_ops_state.specs.Acts.{Needs, nothing_needed, IsReason}
use Rattle.ps_ops_state.proofs.Meeting.{keeps-same, lasts-same, logs-same, logs_more, stays_as, at_least-same}
use Rattle.ps_step_outcome.specs.declared.turned.Turned.TheVariants.{Ends}
use Rattle.ps_step_outcome.specs.Turns.{IsUnlogged, Turns, break_needs, break_turn, is_told, last_line, none_asked}
use Rattle.ps_step_outcome.specs.Turns.{nothing_more}
use Rattle.ps_step_outcome.proofs.Ending.{ends_as, finished_as}
use Rattle.ps_step_outcome.proofs.Composing.{here_good}
use Rattle.ps_step_outcome.proofs.Unlogged.{unlogged_reason}
use Rattle.ps_step_outcome.proofs.Storing.{LeavesStore, stored_on}

pub no_frames : (frames : List Frame) → length frames ≤ 0 → frames ≡ []
no_frames [] none = refl
no_frames (frame ∷ frames) none = absurd (omega (arith, none))

-- ---- the machine

-- an unwinding that tells no error
quits_as : (machine : Machine) → machine.context.frames ≡ []
    → machine.context.status ≡ unwinding for_quit → settled machine ≡ with_status finished machine
unfolding settled
quits_as machine none status = rw (none, status) refl

exits_as : (machine : Machine) → machine.context.frames ≡ []
    → machine.context.status ≡ unwinding for_exit → settled machine ≡ with_status finished machine
unfolding settled
exits_as machine none status = rw (none, status) refl

module _ (kept : Scene) (none : kept.frames ≡ []) (refused : Bool) (machine : Machine) where
  -- once it has ended
  abbrev pub ended : Store → (printed : List ℕ) → (lines : ℕ) → Machine
  ended store printed lines =
      record (with_scene (record kept { store = store }) finished machine)
      { printed = printed; error_lines = lines }

  abbrev pub Ended : Cause → Store → (printed : List ℕ) → (lines : ℕ) → Type 0
  Ended cause store printed lines = after_turn refused machine (breaks cause kept)
      ≡ reaches (settled (ended store printed lines))

  pub quits : Ended for_quit kept.store machine.printed machine.error_lines
  quits = ap reaches (quits_as (with_scene kept (unwinding for_quit) machine) none refl
      ∙ sym (finished_as (ended kept.store machine.printed machine.error_lines) refl))

  pub exits : Ended for_exit kept.store machine.printed machine.error_lines
  exits = ap reaches (exits_as (with_scene kept (unwinding for_exit) machine) none refl
      ∙ sym (finished_as (ended kept.store machine.printed machine.error_lines) refl))

  module _ (birth : ℕ) (address : machine.context.error_dictionary ≡ birth) where
    abbrev d : Dictionary
    d = dictionary_at kept.store birth

    abbrev unwinds : Machine
    unwinds = with_scene kept (unwinding for_stop) machine

    stops : after_turn refused machine (breaks for_stop kept)
        ≡ reaches (with_status finished (with_line_of d unwinds))
    stops = ap reaches (ends_as unwinds none refl
        ∙ ap (λ (e : ℕ). with_status finished (with_line_of (dictionary_at kept.store e) unwinds))
        address)

    pub stops_untold : has_new_error d ≡ false
        → Ended for_stop kept.store machine.printed machine.error_lines
    stops_untold old =
        stops
        ∙ (ap (λ (b : Bool). reaches (with_status finished
        (if b then with_line d unwinds else unwinds))) old
        ∙ ap reaches (sym
        (finished_as (ended kept.store machine.printed machine.error_lines) refl)))

    pub stops_told : has_new_error d ≡ true
        → Ended for_stop (with_dictionary kept.store birth (told d))
        (machine.printed ++ error_line kept.store d) (machine.error_lines + 1)
    stops_told new =
        stops
        ∙ (ap (λ (b : Bool). reaches (with_status finished
        (if b then with_line d unwinds else unwinds))) new
        ∙ ((λ i. reaches (ended (with_dictionary kept.store (address i) (told d))
        (machine.printed ++ error_line kept.store d) (machine.error_lines + 1)))
        ∙ ap reaches (sym (finished_as (ended (with_dictionary kept.store birth (told d))
        (machine.printed ++ error_line kept.store d) (machine.error_lines + 1)) refl))))

-- ---- what is lent

module _ (attempt : Attempt) (l : Lent) (good : IsGood l) (last : l.frames ≡ []) where
  abbrev birth : ℕ
  birth = birth_at l.heap l.error_dictionary

  none : (s : Store) → (scene_of l s).frames ≡ []
  none s = ap (frames_in l.heap l.names) last

  untold_in : (cause : Cause)
      → ((s : Store) → IsShown l s → (machine : Machine)
      → machine.context.error_dictionary ≡ birth
      → Ended (scene_of l s) (none s) attempt.refused machine cause s machine.printed
      machine.error_lines)
      → (s : Store) → IsShown l s
      → LeavesStore l good l.frames (here_good l good) l.heap l.grants l.scratch l.printed l.room
      (keeps-same l.heap) nothing_more (break_turn cause) attempt (Ends false) s
  untold_in cause ends s shown = record {
    later = s;
    shows = shown.shows;
    lasts = lasts-same s;
    leaves = tt;
    is = λ machine was address.
        ends s shown machine address
        ∙ (λ i. reaches (settled (ended (scene_of l s) (none s) attempt.refused machine s (was i)
        machine.error_lines)));
    logs = logs-same _ l.grants attempt.slot;
  }

  untold_turns : (cause : Cause)
      → ((s : Store) → IsShown l s → (machine : Machine)
      → machine.context.error_dictionary ≡ birth
      → Ended (scene_of l s) (none s) attempt.refused machine cause s machine.printed
      machine.error_lines)
      → Turns nothing_more (break_turn cause) attempt (Ok (Ends false)) l l
  untold_turns cause ends =
      stored_on l good l.frames (here_good l good) l.heap l.grants l.scratch l.printed l.room
      (keeps-same l.heap) good.sound good.empty (at_least-same _) (omega arith) nothing_more
      (break_turn cause) attempt (Ends false) tt (logs-same _ l.grants attempt.slot)
      (untold_in cause ends)

  pub quits_turns : Turns nothing_more (break_turn for_quit) attempt (Ok (Ends false)) l l
  quits_turns = untold_turns for_quit λ s shown machine address.
      quits (scene_of l s) (none s) attempt.refused machine

  pub exits_turns : Turns nothing_more (break_turn for_exit) attempt (Ok (Ends false)) l l
  exits_turns = untold_turns for_exit λ s shown machine address.
      exits (scene_of l s) (none s) attempt.refused machine

  pub stops_turns : ((s : Store) → IsShown l s → has_new_error (dictionary_at s birth) ≡ false)
      → Turns nothing_more (break_turn for_stop) attempt (Ok (Ends false)) l l
  stops_turns old = untold_turns for_stop λ s shown machine address.
      stops_untold (scene_of l s) (none s) attempt.refused machine birth address (old s shown)

  -- ---- where the error is new

  module _ (new : (s : Store) → IsShown l s → has_new_error (dictionary_at s birth) ≡ true) where
    abbrev asked : Store → Needs
    asked s = record nothing_needed {
      bytes = length (error_line s (dictionary_at s birth));
      records = 1;
    }

    needs_as : (s : Store) → IsShown l s
        → break_needs none_asked birth for_stop (scene_of l s) ≡ asked s
    needs_as s shown =
        (λ i. record nothing_needed {
          bytes = length (last_line (none s i) s (dictionary_at s birth));
          records = if is_told (none s i) (dictionary_at s birth) then 1 else 0;
        })
        ∙ (λ i. record nothing_needed {
          bytes = length (if new s shown i then error_line s (dictionary_at s birth) else []);
          records = if new s shown i then 1 else 0;
        })

    pub told_turns : (heap : Heap) (grants : Grants) (printed : List ℕ) (room : ℕ)
        → Keeps l.heap heap → IsSound heap → length l.printed + l.room ≤ length printed + room
        → KeepsLogsWithin 1 l.grants grants attempt.slot
        → ((s : Store) → IsShown l s
        → printed ≡ l.printed ++ error_line s (dictionary_at s birth))
        → ((s : Store) → IsShown l s → Shows heap l.names
        (with_dictionary s birth (told (dictionary_at s birth))))
        → Turns nothing_more (break_turn for_stop) attempt (Ok (Ends true)) l
        (record l { heap = heap; grants = grants; printed = printed; room = room })
    told_turns heap grants printed room keeps sound capacity logs lined shows =
        stored_on l good l.frames (here_good l good) heap grants l.scratch printed room keeps sound
        good.empty (at_least-same _) capacity nothing_more (break_turn for_stop) attempt (Ends true)
        tt (logs_more 1 most_records l.grants grants attempt.slot (omega arith) logs) λ s shown.
        record {
          later = with_dictionary s birth (told (dictionary_at s birth));
          shows = shows s shown;
          lasts = with-lengths s birth (dictionary_at s birth) _
              (there l.heap l.error_dictionary good.error_stands.stands good.sound l.names s
              shown.shows);
          leaves = tt;
          is = λ machine was address.
              stops_told (scene_of l s) (none s) attempt.refused machine birth address (new s shown)
              ∙ (λ i. reaches (settled (ended (scene_of l s) (none s) attempt.refused machine
              (with_dictionary s birth (told (dictionary_at s birth)))
              (((λ j. was j ++ error_line s (dictionary_at s birth)) ∙ sym (lined s shown)) i)
              (machine.error_lines + 1))));
          logs = subst (λ (n : Needs). KeepsLogsWithin n.records l.grants grants attempt.slot)
              (sym (needs_as s shown)) logs;
        }

    pub unlogged : (grants : Grants) (s : Store) (reason : Reason)
        → IsUnlogged 1 attempt.slot l.grants grants reason
        → IsReason (asked s) attempt.slot l (record l { grants = grants }) reason
    unlogged grants s reason why =
        unlogged_reason attempt.slot 1 (omega arith) l (record l { grants = grants }) reason why
        (asked s) (omega arith)

    -- it is not made
    pub untold_reason : (grants : Grants) (room : ℕ) (reason : Reason)
        → ((s : Store) → IsShown l s
        → IsReason (asked s) attempt.slot l (record l { grants = grants; room = room }) reason)
        → l.room ≤ room → KeepsLogsWithin 0 l.grants grants attempt.slot
        → Turns nothing_more (break_turn for_stop) attempt (Err reason) l
        (record l { grants = grants; room = room })
    untold_reason grants room reason why more logs =
        let left : Lent = record l { grants = grants; room = room } in
        record {
          meets = λ s shown. record {
            did = (
              subst (λ (n : Needs). IsReason n attempt.slot l left reason)
                  (sym (needs_as s shown)) (why s shown),
              refl,
            );
            logs = logs;
          };
          good = record {
            sound = good.sound;
            operands = good.operands;
            dictionaries = good.dictionaries;
            frames = good.frames;
            error_stands = good.error_stands;
            names = good.names;
            first = good.first;
            empty = good.empty;
          };
          keeps = keeps-same l.heap;
          stays = stays_as l left refl refl refl refl (omega (arith, more)) (at_least-same _);
          logs = logs;
          framed = refl;
          under_way = tt;
        }
