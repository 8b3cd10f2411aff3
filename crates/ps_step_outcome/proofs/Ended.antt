-- What is lent once a context has ended by an error.
use Rattle.std.proofs.Common.{◌≡◌, ℕ, ◌+◌, ◌<◌, ◌≤◌, ◌++◌, arith, Bool, false, List, [], ◌∷◌, length, Some, Ok, Err}
use Rattle.std.proofs.Common.{refl, sym, ap, subst, ◌∙◌, inl}
use Rattle.std.specs.Prelude.{slice_get, Result}
use Rattle.ps_language.specs.declared.errors.ErrorName.{ErrorName}
use Rattle.ps_language.specs.Value.{Value, dictionary_object, Store}
use Rattle.ps_language.specs.World.{finished}
use Rattle.ps_language.specs.Access.{dictionary_at, with_dictionary}
use Rattle.ps_language.specs.Readers.{literal_name}
use Rattle.ps_language.specs.StepErrors.{error_text}
use Rattle.ps_language.specs.Machines.{with_scene, settled, reaches}
use Rattle.ps_word.specs.declared.words.Word.{Word}
use Rattle.ps_mem.specs.Heap.{Heap, Grants, birth_at}
use Rattle.ps_mem.specs.Keeps.{Keeps}
use Rattle.ps_mem.specs.Meaning.{value_of}
use Rattle.ps_mem.specs.Shows.{IsSound, Shows}
use Rattle.ps_ops_operands.specs.declared.failure.NotMade.{NotMade as Reason}
use Rattle.ps_ops_operands.specs.declared.failure.NotMade.TheVariants.{Memory}
use Rattle.ps_ops_operands.specs.Changes.{KeepsLogsWithin, most_records}
use Rattle.ps_ops_control.specs.Frames.{frames_in}
use Rattle.ps_dict.specs.declared.entries.ErrorPlan.{ErrorPlan}
use Rattle.ps_dict.specs.Entries.{with_entries}
use Rattle.ps_dict.proofs.Changing.{with-lengths}
use Rattle.ps_dict.proofs.Shapes.{there}
use Rattle.ps_ops_state.specs.declared.lent.Attempt.{Attempt}
use Rattle.ps_ops_state.specs.Lent.{Lent, scene_of, IsShown, IsGood}
use Rattle.ps_ops_state.proofs.Meeting.{keeps-same, stays_as, at_least-same}
use Rattle.ps_step_outcome.specs.declared.turned.Turned.{Turned}
use Rattle.ps_step_outcome.specs.declared.turned.Turned.TheVariants.{Ends}
use Rattle.ps_step_outcome.specs.Ends.{newerror_stands, planned_line}
use Rattle.ps_step_outcome.specs.Entries.{entries_with}
use Rattle.ps_step_outcome.specs.Turns.{IsShownWith, TurnsWith, error_turn, lines_after, nothing_more}
use Rattle.ps_step_outcome.proofs.Telling.{plan}
use Rattle.ps_step_outcome.proofs.Ending.{after_end, asked_line, ends_by}
use Rattle.ps_step_outcome.proofs.Composing.{here_good}
use Rattle.ps_step_outcome.proofs.Storing.{LeavesStore, stored_over}

module _ (error : ErrorName) (command : Word) (attempt : Attempt) (l : Lent) (good : IsGood l)
    (last : l.frames ≡ []) where
  abbrev birth : ℕ
  birth = birth_at l.heap l.error_dictionary

  abbrev value : Value
  value = value_of (birth_at l.heap) l.names command

  abbrev name : Value
  name = literal_name (error_text error)

  none : (s : Store) → (scene_of l s).frames ≡ []
  none s = ap (frames_in l.heap l.names) last

  standing : (s : Store) → IsShown l s
      → slice_get s birth ≡ Some (dictionary_object (dictionary_at s birth))
  standing s shown =
      there l.heap l.error_dictionary good.error_stands.stands good.sound l.names s shown.shows

  -- a store that is shown with the command in hand
  abbrev Held : Store → Type 0
  Held s = IsShownWith (command ∷ []) [] l s

  abbrev TurnsTo : Result Turned Reason → Lent → Type 0
  TurnsTo result new =
      TurnsWith (command ∷ []) [] nothing_more (error_turn error command) attempt result l new

  module _ (entries : ErrorPlan)
      (planned : (s : Store) → Held s → entries ≡ plan error value (dictionary_at s birth))
    where
      line_as : (s : Store) → Held s
          → planned_line s (plan error value (dictionary_at s birth)) name value
          ≡ planned_line s entries name value
      line_as s held = ap (λ p. planned_line s p name value) (sym (planned s held))

      -- it has ended
      module _ (heap : Heap) (grants : Grants) (printed : List ℕ) (room : ℕ)
          (keeps : Keeps l.heap heap)
          (lined : (s : Store) → Held s
          → printed ≡ l.printed ++ planned_line s entries name value)
          (shows : (s : Store) → Held s → Shows heap l.names (with_dictionary s birth
          (with_entries (entries_with false error value) (dictionary_at s birth))))
          (logs : KeepsLogsWithin most_records l.grants grants attempt.slot) where
        ends_in : (s : Store) → Held s
            → LeavesStore l good l.frames (here_good l good) heap grants l.scratch printed room keeps
            nothing_more (error_turn error command) attempt (Ends (newerror_stands entries)) s
        ends_in s held =
            let at = standing s held.shown in
            record {
              later = after_end error value (scene_of l s) birth (none s) at;
              shows = shows s held;
              lasts = with-lengths s birth (dictionary_at s birth) _ at;
              leaves = tt;
              is = λ machine was address.
                  ends_by error value (scene_of l s) birth (none s) at attempt.refused machine address
                  ∙ (λ i. reaches (settled (record (with_scene (record (scene_of l s)
                  { store = after_end error value (scene_of l s) birth (none s) at })
                  finished machine) {
                    printed = ((λ j. was j ++ line_as s held j) ∙ sym (lined s held)) i;
                    error_lines = lines_after (Ends
                        (newerror_stands (sym (planned s held) i))) machine.error_lines;
                  })));
              logs = logs;
            }

        pub ended_on : IsSound heap → length l.printed + l.room ≤ length printed + room
            → (told : Bool) → told ≡ newerror_stands entries
            → TurnsTo (Ok (Ends told))
            (record l { heap = heap; grants = grants; printed = printed; room = room })
        ended_on sound capacity told is =
            subst (λ t. TurnsTo (Ok (Ends t))
            (record l { heap = heap; grants = grants; printed = printed; room = room })) (sym is)
            (stored_over l good l.frames (here_good l good) heap grants l.scratch printed room keeps
            sound good.empty (at_least-same _) capacity nothing_more (error_turn error command)
            attempt (Ends (newerror_stands entries)) tt logs (IsShownWith (command ∷ []) [])
            (λ s held. held.shown) ends_in)

      -- its line had no room
      pub not_ended : (grants : Grants) (room : ℕ)
          → ((s : Store) → Held s → l.room < length (planned_line s entries name value))
          → l.room ≤ room → KeepsLogsWithin 0 l.grants grants attempt.slot
          → TurnsTo (Err Memory)
          (record l { grants = grants; room = room })
      not_ended grants room lacks more logs =
          let new : Lent = record l { grants = grants; room = room } in
          record {
            meets = λ s held. record {
              did = (
                inl (subst (λ (line : List ℕ). l.room < length line)
                    (sym (asked_line error value (scene_of l s) birth (none s) (standing s held.shown)
                    ∙ line_as s held)) (lacks s held)),
                refl,
              );
              logs = logs;
            };
            good = record {
              sound = good.sound;
              operands = good.operands;
              dictionaries = good.dictionaries;
              frames = good.frames;
              error_stands = good.error_stands;
              names = good.names;
              first = good.first;
              empty = good.empty;
            };
            keeps = keeps-same l.heap;
            stays = stays_as l new refl refl refl refl (omega (arith, more)) (at_least-same _);
            logs = logs;
            framed = refl;
            under_way = tt;
          }
