-- A turn that leaves other frames, and a store that makes no object; it may end the context.
use Rattle.std.proofs.Common.{◌≡◌, ℕ, ◌+◌, ◌≤◌, Bool, List, length, Ok, refl, sym, ap, ◌∙◌, append-nil}
use Rattle.ps_language.specs.Value.{Store}
use Rattle.ps_language.specs.World.{running, Machine}
use Rattle.ps_language.specs.Effect.{Scene}
use Rattle.ps_language.specs.StepValues.{Turn, leads}
use Rattle.ps_language.specs.Machines.{with_scene, settled, reaches, after_turn}
use Rattle.ps_mem.specs.Heap.{Heap, Grants, birth_at}
use Rattle.ps_mem.specs.Keeps.{Keeps}
use Rattle.ps_mem.specs.Shows.{IsSound, Shows}
use Rattle.ps_ops_operands.specs.Changes.{KeepsLogsWithin, most_records}
use Rattle.ps_ops_control.specs.declared.frames.Frame.{Frame}
use Rattle.ps_ops_state.specs.declared.lent.Scratch.{Scratch}
use Rattle.ps_ops_state.specs.declared.lent.Attempt.{Attempt}
use Rattle.ps_ops_state.specs.Lent.{Lent, rooms_of, IsEmpty, scene_of, IsShown, IsGood}
use Rattle.ps_ops_state.specs.Acts.{Asked, IsAtLeast, Lasts}
use Rattle.ps_ops_state.proofs.Meeting.{stays_as}
use Rattle.ps_step_outcome.specs.declared.turned.Turned.{Turned}
use Rattle.ps_step_outcome.specs.declared.turned.Turned.TheVariants.{Goes}
use Rattle.ps_step_outcome.specs.Turns.{LeavesHeap, IsTurned, IsUnderWay, TurnsOver, Turns, needs_in, reached_by, status_of}
use Rattle.ps_step_outcome.specs.Turns.{lines_after}
use Rattle.ps_step_outcome.proofs.Composing.{AreGood, restacked, restacked_good, restacked_shown}
use Rattle.ps_step_outcome.proofs.Raising.{left_over, good_over}

module _ (l : Lent) (good : IsGood l) (frames : List Frame) (are : AreGood l l.operands frames)
    (heap : Heap) (grants : Grants) (scratch : Scratch) (printed : List ℕ) (room : ℕ)
    (keeps : Keeps l.heap heap) where
  abbrev pub later_lent : Lent
  later_lent = record l {
    heap = heap;
    grants = grants;
    frames = frames;
    scratch = scratch;
    printed = printed;
    room = room;
  }

  -- what the turn leaves: those frames and this store, which is shown
  pub record LeavesStore (asks : Lent → Store → Asked) (turn : Lent → Store → Turn)
      (attempt : Attempt) (turned : Turned) (s : Store) : Type 0 where
    pub later : Store
    pub is : (machine : Machine) → machine.printed ≡ l.printed
        → machine.context.error_dictionary ≡ birth_at l.heap l.error_dictionary
        → after_turn attempt.refused machine (turn l s) ≡ reached_by turned (record
        (with_scene (record (scene_of (restacked l l.operands frames) s) { store = later })
        (status_of turned) machine)
        { printed = printed; error_lines = lines_after turned machine.error_lines })
    pub shows : Shows heap l.names later
    pub lasts : Lasts s later
    pub leaves : LeavesHeap turned l.heap heap
    pub logs : KeepsLogsWithin (needs_in attempt asks turn l s).records l.grants grants attempt.slot

  left_turned : (asks : Lent → Store → Asked) (turn : Lent → Store → Turn) (attempt : Attempt)
      (turned : Turned) (s : Store) → IsShown l s → LeavesStore asks turn attempt turned s
      → IsTurned attempt.refused (turn l s) turned s l later_lent
  left_turned asks turn attempt turned s shown leaves =
      let over : Lent = restacked l l.operands frames in
      let next = left_over over (restacked_good l l.operands frames are good) heap grants keeps s
      leaves.later (restacked_shown l l.operands frames are s shown) leaves.shows leaves.lasts in
      record {
        after = leaves.later;
        shown = record {
          shows = next.shown.shows;
          operands = next.shown.operands;
          dictionaries = next.shown.dictionaries;
          frames = next.shown.frames;
        };
        lasts = leaves.lasts;
        leaves = leaves.leaves;
        is = λ machine was address.
            leaves.is machine was address
            ∙ (λ i. reached_by turned (record
            (with_scene (sym next.is i) (status_of turned) machine)
            { printed = printed; error_lines = lines_after turned machine.error_lines }));
      }

  module _ (sound : IsSound heap) (empty : IsEmpty scratch)
      (least : IsAtLeast (rooms_of l.scratch) (rooms_of scratch))
      (capacity : length l.printed + l.room ≤ length printed + room)
      (asks : Lent → Store → Asked) (turn : Lent → Store → Turn) (attempt : Attempt) (turned : Turned)
      (under_way : IsUnderWay turned frames)
      (logs : KeepsLogsWithin most_records l.grants grants attempt.slot) where
    -- for some of the stores that are shown
    pub stored_over : (stores : Lent → Store → Type 0) → ((s : Store) → stores l s → IsShown l s)
        → ((s : Store) → stores l s → LeavesStore asks turn attempt turned s)
        → TurnsOver stores asks turn attempt (Ok turned) l later_lent
    stored_over stores shows leaves =
        let over : Lent = restacked l l.operands frames in
        let well = good_over over (restacked_good l l.operands frames are good) heap grants keeps
        sound in
        record {
          meets = λ s held. record {
            did = left_turned asks turn attempt turned s (shows s held) (leaves s held);
            logs = (leaves s held).logs;
          };
          good = record {
            sound = well.sound;
            operands = well.operands;
            dictionaries = well.dictionaries;
            frames = well.frames;
            error_stands = well.error_stands;
            names = well.names;
            first = well.first;
            empty = empty;
          };
          keeps = keeps;
          stays = stays_as l later_lent refl refl refl refl capacity least;
          logs = logs;
          framed = tt;
          under_way = under_way;
        }

    -- for each
    pub stored_on : ((s : Store) → IsShown l s → LeavesStore asks turn attempt turned s)
        → Turns asks turn attempt (Ok turned) l later_lent
    stored_on = stored_over IsShown (λ s shown. shown)

-- a turn that goes on and prints nothing
pub goes_as : (refused : Bool) (turn : Turn) (scene : Scene) → turn ≡ leads scene
    → (printed : List ℕ) (machine : Machine) → machine.printed ≡ printed
    → after_turn refused machine turn ≡ reached_by Goes (record
    (with_scene scene (status_of Goes) machine)
    { printed = printed; error_lines = lines_after Goes machine.error_lines })
goes_as refused turn scene is printed machine was =
    ap (after_turn refused machine) is
    ∙ (λ i. reaches (settled (record (with_scene scene running machine)
    { printed = (append-nil machine.printed ∙ was) i })))
