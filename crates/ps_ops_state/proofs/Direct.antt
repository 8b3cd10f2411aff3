-- An operator leaves other operands, and a store that was changed; for direct proofs.
use Rattle.std.proofs.Common.{◌≡◌, arith, List, [], Ok, refl, sym, ap, ◌∙◌, append-nil}
use Rattle.ps_language.specs.Value.{Store}
use Rattle.ps_language.specs.Objects.{made_between}
use Rattle.ps_language.specs.Effect.{Scene, makes}
use Rattle.ps_language.specs.Rows.{Row}
use Rattle.ps_language.proofs.AskedLemmas.{made-same}
use Rattle.ps_word.specs.declared.words.Word.{Word}
use Rattle.ps_mem.specs.Heap.{Heap, Grants}
use Rattle.ps_mem.specs.Keeps.{Keeps}
use Rattle.ps_mem.specs.Shows.{IsSound, AreValues, AreWithin, Shows}
use Rattle.ps_mem.proofs.KeepsLemmas.{AreValues-kept, AreWithin-kept, values_of-kept, known_values}
use Rattle.ps_ops_operands.specs.Changes.{values_in, KeepsLogsWithin, most_records}
use Rattle.ps_ops_state.specs.declared.lent.Attempt.{Attempt}
use Rattle.ps_ops_state.specs.declared.lent.Scratch.{Scratch}
use Rattle.ps_ops_state.specs.Lent.{Lent, rooms_of, IsEmpty, scene_of, IsShown, IsGood}
use Rattle.ps_ops_state.specs.Acts.{Asked, IsAtLeast, Lasts, effect_in, Acts}
use Rattle.ps_ops_state.proofs.Meeting.{keeps-same, lasts-same, logs-same, stays_as, at_least-same, lacks_nothing}
use Rattle.ps_ops_state.proofs.Acting.{Made, left_acts}
use Rattle.ps_ops_state.proofs.Lifts.{changed_good, changed_left}

module _ (row : Row) (attempt : Attempt) (asks : Scene → Asked) (l : Lent) (after : List Word) where
  -- the row leaves what these words stand for
  pub record LeavesWords (store : Store) : Type 0 where
    pub is : effect_in row l store
        ≡ makes (record (scene_of l store) { operands = values_in l.heap l.names after }) []
    pub within : AreWithin l.heap l.names store after

  -- the row leaves what these words stand for and a store that makes no object, which is shown
  pub record LeavesStore (new : Heap) (left : Grants) (store : Store) : Type 0 where
    pub later : Store
    pub is : effect_in row l store ≡ makes (record (scene_of l store)
        { operands = values_in l.heap l.names after; store = later }) []
    pub unasked : made_between store later ≡ 0
    pub lasts : Lasts store later
    pub shows : Shows new l.names later
    pub within : AreWithin l.heap l.names store after
    pub logs : KeepsLogsWithin (asks (scene_of l store)).records l.grants left attempt.slot

  module _ (good : IsGood l) (values : AreValues l.heap after) where
    module _ (new : Heap) (left : Grants) (scratch : Scratch) (keeps : Keeps l.heap new) where
      abbrev later_lent : Lent
      later_lent = record l { heap = new; grants = left; operands = after; scratch = scratch }

      made_store : (store : Store) → IsShown l store → LeavesStore new left store
          → Made row attempt asks l later_lent store
      made_store store shown leaves =
          let known = known_values l.heap after values in
          let is = changed_left l good new left after keeps store leaves.later leaves.lasts shown
          leaves.shows (AreWithin-kept l.heap new keeps l.names store leaves.later leaves.lasts after
          known leaves.within) _ (values_of-kept l.heap new keeps l.names after known) in
          record {
            after = leaves.later;
            output = [];
            is = leaves.is ∙ ap (λ scene. makes scene []) (sym is.is);
            enough = lacks_nothing attempt.refused store leaves.later leaves.unasked;
            shown = record {
              shows = is.shown.shows;
              operands = is.shown.operands;
              dictionaries = is.shown.dictionaries;
              frames = is.shown.frames;
            };
            lasts = leaves.lasts;
            printed = sym (append-nil l.printed);
            logs = leaves.logs;
          }

      -- a store that makes no object
      pub store_acts : IsSound new → IsAtLeast (rooms_of l.scratch) (rooms_of scratch)
          → IsEmpty scratch → KeepsLogsWithin most_records l.grants left attempt.slot
          → ((store : Store) → IsShown l store → LeavesStore new left store)
          → Acts asks row attempt (Ok tt) l later_lent
      store_acts sound least empty logs leaves =
          let well = changed_good l good new left after keeps
          (record { sound = sound; values = AreValues-kept l.heap new keeps after values }) in
          left_acts row attempt asks l good later_lent (record {
            sound = well.sound;
            operands = well.operands;
            dictionaries = well.dictionaries;
            frames = well.frames;
            error_stands = well.error_stands;
            names = well.names;
            first = well.first;
            empty = empty;
          }) keeps (stays_as l later_lent refl refl refl refl (omega arith) least) logs
          (λ store shown. made_store store shown (leaves store shown))

    -- operands alone
    pub words_acts : ((store : Store) → IsShown l store → LeavesWords store)
        → Acts asks row attempt (Ok tt) l (record l { operands = after })
    words_acts leaves =
        store_acts l.heap l.grants l.scratch (keeps-same l.heap) good.sound (at_least-same _)
        good.empty (logs-same _ l.grants attempt.slot) λ store shown.
        let words = leaves store shown in
        record {
          later = store;
          is = words.is;
          unasked = made-same store;
          lasts = lasts-same store;
          shows = shown.shows;
          within = words.within;
          logs = logs-same _ l.grants attempt.slot;
        }
