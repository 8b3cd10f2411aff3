-- New objects that go onto the operand stack: made, or without room.
use Rattle.std.proofs.Common.{◌≡◌, ℕ, ◌≤◌, ◌-◌, arith, Bool, true, false, List, [], length, Ok, Err, refl, sym, ap}
use Rattle.std.proofs.Common.{subst, ◌∙◌, append-nil}
use Rattle.std.specs.Prelude.{◌==◌, ◌&&◌, not}
use Rattle.std.proofs.lemmas.Bool.Decides.{nat_tests}
use Rattle.ps_language.specs.Effect.{Scene}
use Rattle.ps_language.specs.Objects.{made_between, lacks_room}
use Rattle.ps_language.specs.StepValues.{Turn, tries}
use Rattle.ps_language.specs.Value.{Value, Store}
use Rattle.ps_language.specs.World.{running}
use Rattle.ps_language.specs.Machines.{with_scene, settled, reaches, after_turn}
use Rattle.ps_word.specs.declared.words.Word.{Word}
use Rattle.ps_mem.specs.Heap.{Heap, Grants, birth_at}
use Rattle.ps_mem.specs.Keeps.{Keeps}
use Rattle.ps_mem.specs.Shows.{IsSound, AreValues, AreWithin, Shows}
use Rattle.ps_ops_operands.specs.declared.failure.NotMade.{NotMade as Reason}
use Rattle.ps_ops_operands.specs.Changes.{values_in, KeepsLogsWithin, IsRoomReason}
use Rattle.ps_ops_state.specs.declared.lent.Attempt.{Attempt}
use Rattle.ps_ops_state.specs.declared.lent.Scratch.{Scratch}
use Rattle.ps_ops_state.specs.Lent.{Lent, rooms_of, IsEmpty, scene_of, IsShown, IsGood}
use Rattle.ps_ops_state.specs.Acts.{Asked, needs_between, IsReason, IsAtLeast, Lasts}
use Rattle.ps_ops_state.proofs.Reasons.{room_reason}
use Rattle.ps_ops_state.proofs.Lifts.{changed_good, changed_left}
use Rattle.ps_ops_state.proofs.Meeting.{logs_more, stays_as}
use Rattle.ps_step_outcome.specs.declared.turned.Turned.TheVariants.{Goes}
use Rattle.ps_step_outcome.specs.Turns.{IsTurned, Turns, turn_needs}
use Rattle.ps_step_tokens.proofs.Alike.{unmade_granted}

-- ---- the room that is asked for

some_lacks : (words : ℕ) → 1 ≤ words → (true && not (words == 0)) ≡ true
some_lacks words some = grind (arith, nat_tests, some)

-- a refused step lacks it
pub lacks_made : (refused : Bool) (s after : Store) → refused ≡ true → 1 ≤ made_between s after
    → lacks_room refused s after ≡ true
lacks_made refused s after is some = rw is (some_lacks (made_between s after) some)

-- another doesn't
pub has_made : (refused : Bool) (s after : Store) → refused ≡ false
    → lacks_room refused s after ≡ false
has_made refused s after is = rw is refl

module _ (asks : Lent → Store → Asked) (turn : Lent → Store → Turn) (attempt : Attempt) (l : Lent)
    (good : IsGood l) (refused : attempt.refused ≡ false) where
  -- the turn would leave what asks for so much room
  pub record Wants (words births : ℕ) (s : Store) : Type 0 where
    pub command : Value
    pub scene : Scene
    pub is : turn l s ≡ tries command (scene_of l s) scene []
    pub words_are : made_between s scene.store ≡ words
    pub births_are : length scene.store - length s ≡ births

  pub no_room : (words births : ℕ) → 1 ≤ words → (reason : Reason)
      → IsRoomReason reason l.heap words births → (grants : Grants)
      → KeepsLogsWithin 0 l.grants grants attempt.slot
      → ((s : Store) → IsShown l s → Wants words births s)
      → Turns asks turn attempt (Err reason) l (record l { grants = grants })
  no_room words births some reason why grants logs wants =
      unmade_granted asks turn attempt l good reason grants logs λ s shown.
      let w = wants s shown in
      let birth = birth_at l.heap l.error_dictionary in
      let needed = needs_between (asks l s) (scene_of l s) w.scene [] in
      subst (λ (t : Turn). IsReason (turn_needs attempt.refused (asks l s) birth (scene_of l s) t)
      attempt.slot l (record l { grants = grants }) reason) (sym w.is)
      (rw (has_made attempt.refused s w.scene.store refused)
      (room_reason needed attempt.slot l (record l { grants = grants }) words births w.words_are
      w.births_are some reason why))

  -- ---- made

  module _ (heap : Heap) (grants : Grants) (operands : List Word) (scratch : Scratch)
      (keeps : Keeps l.heap heap) where
    abbrev pub made : Lent
    made = record l { heap = heap; grants = grants; operands = operands; scratch = scratch }

    -- the turn leaves what these words stand for, and a store that is shown
    pub record Makes (s : Store) : Type 0 where
      pub command : Value
      pub values : List Value
      pub after : Store
      pub is : turn l s ≡ tries command (scene_of l s)
          (record (scene_of l s) { operands = values; store = after }) []
      pub lasts : Lasts s after
      pub shows : Shows heap l.names after
      pub within : AreWithin heap l.names after operands
      pub are : values_in heap l.names operands ≡ values

    made_turned : (s : Store) → IsShown l s → Makes s
        → IsTurned attempt.refused (turn l s) Goes s l made
    made_turned s shown m =
        let left = changed_left l good heap grants operands keeps s m.after m.lasts shown m.shows
        m.within m.values m.are in
        record {
          after = m.after;
          shown = record {
            shows = left.shown.shows;
            operands = left.shown.operands;
            dictionaries = left.shown.dictionaries;
            frames = left.shown.frames;
          };
          lasts = m.lasts;
          leaves = tt;
          is = λ machine was address.
              ap (after_turn attempt.refused machine) m.is
              ∙ rw (has_made attempt.refused s m.after refused)
              (λ i. reaches (settled (record (with_scene (sym left.is i) running machine)
              { printed = (append-nil machine.printed ∙ was) i })));
        }

    pub makes_turns : IsSound heap → AreValues heap operands
        → KeepsLogsWithin 0 l.grants grants attempt.slot → IsEmpty scratch
        → IsAtLeast (rooms_of l.scratch) (rooms_of scratch)
        → ((s : Store) → IsShown l s → Makes s)
        → Turns asks turn attempt (Ok Goes) l made
    makes_turns sound held logs empty least makes =
        let well = changed_good l good heap grants operands keeps
        (record { sound = sound; values = held }) in
        record {
          meets = λ s shown. record {
            did = made_turned s shown (makes s shown);
            logs = logs_more 0 _ l.grants grants attempt.slot (omega arith) logs;
          };
          good = record {
            sound = well.sound;
            operands = well.operands;
            dictionaries = well.dictionaries;
            frames = well.frames;
            error_stands = well.error_stands;
            names = well.names;
            first = well.first;
            empty = empty;
          };
          keeps = keeps;
          stays = stays_as l made refl refl refl refl (omega arith) least;
          logs = logs_more 0 _ l.grants grants attempt.slot (omega arith) logs;
          framed = tt;
          under_way = tt;
        }
