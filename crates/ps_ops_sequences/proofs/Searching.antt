-- What a search of strings says is what the one relation says.
use Rattle.std.proofs.Common.{◌≡◌, arith, List, [], ◌∷◌, Result, Ok, Err, refl, sym, ap, subst, append-nil, inl, inr}
use Rattle.std.specs.Prelude.{vec_capacity}
use Rattle.ps_language.specs.Value.{Value, Store}
use Rattle.ps_language.specs.Outcome.{Outcome, leaves, fails}
use Rattle.ps_language.specs.Acts.{operands_effect}
use Rattle.ps_language.specs.Rows.{reading_row}
use Rattle.ps_language.specs.RowsSequences.{search_row}
use Rattle.ps_word.specs.declared.words.Word.{Word}
use Rattle.ps_mem.specs.Heap.{Heap, Grants}
use Rattle.ps_mem.specs.Shows.{IsReady}
use Rattle.ps_ops_operands.specs.declared.failure.Failure.{Failure}
use Rattle.ps_ops_operands.specs.declared.failure.Failure.TheVariants.{Error, NotMade}
use Rattle.ps_ops_operands.specs.Changes.{values_in, no_records, no_words}
use Rattle.ps_ops_sequences.specs.Searches.{LacksRoom, SearchesAs, Searches}
use Rattle.ps_ops_state.specs.declared.lent.Attempt.{Attempt}
use Rattle.ps_ops_state.specs.declared.lent.Scratch.{Scratch}
use Rattle.ps_ops_state.specs.Breaks.{tried}
use Rattle.ps_ops_state.specs.Lent.{Lent, rooms_of, IsEmpty, scene_of, IsShown, IsGood}
use Rattle.ps_ops_state.specs.Acts.{IsAtLeast, IsLeft, LacksRooms, Meets, Acts}
use Rattle.ps_ops_state.proofs.Meeting.{keeps-same, lasts-same, logs-same, stays_as, lacks_for_same, made_meets, wanting_meets}
use Rattle.ps_ops_state.proofs.Reasons.{none_asked, reason_as}
use Rattle.ps_ops_state.proofs.Lifts.{changed_good, changed_left}
use Rattle.ps_ops_state.proofs.Changing.{tried_framed}
use Rattle.ps_ops_sequences.specs.Asks.{search_asked, search_asks}

lacks_rooms : (scratch : Scratch) (operands : List Value)
    → LacksRoom (vec_capacity scratch.text) (vec_capacity scratch.sought) operands
    → LacksRooms (rooms_of scratch) (search_asked operands).scratch
lacks_rooms scratch (y ∷ x ∷ rest) (inl text) = inl text
lacks_rooms scratch (y ∷ x ∷ rest) (inr sought) = inr (inl sought)
lacks_rooms scratch [] lacks = absurd lacks
lacks_rooms scratch (y ∷ []) lacks = absurd lacks

module _ (l : Lent) (good : IsGood l) (attempt : Attempt) (after : List Word) (scratch : Scratch) where
  abbrev new : Lent
  new = record l { operands = after; scratch = scratch }

  abbrev Lacks : Type 0
  Lacks = LacksRoom (vec_capacity l.scratch.text) (vec_capacity l.scratch.sought)
      (values_in l.heap l.names l.operands)

  left_as : (operands : List Value) (store : Store) → IsShown l store
      → SearchesAs Lacks (Ok tt) (leaves operands) l.names store l.heap l.operands after
      → IsLeft store new (record (scene_of l store) { operands = operands })
  left_as operands store shown did =
      let left = changed_left l good l.heap l.grants after (keeps-same l.heap) store store
      (lasts-same store) shown shown.shows did.1 operands did.0 in
      record {
        is = left.is;
        shown = record {
          shows = left.shown.shows;
          operands = left.shown.operands;
          dictionaries = left.shown.dictionaries;
          frames = left.shown.frames;
        };
        lasts = left.lasts;
      }

  searched_as : (result : Result Unit Failure) (outcome : Outcome (List Value)) (store : Store)
      → IsShown l store
      → SearchesAs Lacks result outcome l.names store l.heap l.operands after
      → Meets search_asks (operands_effect (scene_of l store) outcome) attempt (tried result)
      (scene_of l store) l new
  searched_as (Ok _) (leaves operands) store shown did =
      made_meets search_asks attempt (scene_of l store) l new _ [] (lacks_for_same attempt.refused store)
      (left_as operands store shown did) (sym (append-nil l.printed))
      (logs-same _ l.grants attempt.slot)
  searched_as (Ok _) (fails raised) store shown did = absurd did
  searched_as (Err (Error error)) (leaves operands) store shown did = absurd did
  searched_as (Err (Error error)) (fails raised) store shown did = record {
    did = (
      did.0,
      ap (λ (ws : List Word). record l { operands = ws; scratch = scratch }) did.1,
    );
    logs = logs-same 0 l.grants attempt.slot;
  }
  searched_as (Err (NotMade reason)) (leaves operands) store shown did =
      wanting_meets search_asks attempt (scene_of l store) l new
      (record (scene_of l store) { operands = operands }) [] (lacks_for_same attempt.refused store)
      reason
      (reason_as _ attempt.slot l new no_records no_words Lacks none_asked none_asked
      (λ lacks. inr (inr (inr (lacks_rooms l.scratch _ lacks)))) reason did.0)
      (ap (λ (ws : List Word). record l { operands = ws; scratch = scratch }) did.1)
      (logs-same 0 l.grants attempt.slot)
  searched_as (Err (NotMade reason)) (fails raised) store shown did = absurd did

  searched_here : (result : Result Unit Failure)
      → Searches search_row (vec_capacity l.scratch.text) (vec_capacity l.scratch.sought) result
      l.heap l.operands after
      → IsReady l.heap after → IsEmpty scratch
      → IsAtLeast (rooms_of l.scratch) (rooms_of scratch)
      → Acts search_asks (reading_row search_row) attempt (tried result) l new
  searched_here result did ready empty least =
      let well = changed_good l good l.heap l.grants after (keeps-same l.heap) ready in
      record {
        meets = λ store shown.
            searched_as result (search_row store (values_in l.heap l.names l.operands)) store shown
            (did.meets l.names store shown.shows shown.operands);
        good = record {
          sound = well.sound;
          operands = well.operands;
          dictionaries = well.dictionaries;
          frames = well.frames;
          error_stands = well.error_stands;
          names = well.names;
          first = well.first;
          empty = empty;
        };
        keeps = keeps-same l.heap;
        stays = stays_as l new refl refl refl refl (omega arith) least;
        logs = logs-same _ l.grants attempt.slot;
        framed = tried_framed l.frames result;
      }

pub searches_acts : (l : Lent) → IsGood l → (attempt : Attempt) (result : Result Unit Failure)
    (now : Heap) (left : Grants) (after : List Word) (scratch : Scratch) → now ≡ l.heap
    → left ≡ l.grants
    → Searches search_row (vec_capacity l.scratch.text) (vec_capacity l.scratch.sought) result
    l.heap l.operands after
    → IsReady l.heap after → IsEmpty scratch → IsAtLeast (rooms_of l.scratch) (rooms_of scratch)
    → Acts search_asks (reading_row search_row) attempt (tried result) l
    (record l { heap = now; grants = left; operands = after; scratch = scratch })
searches_acts l good attempt result now left after scratch same kept did ready empty least =
    subst (λ (h : Heap). Acts search_asks (reading_row search_row) attempt (tried result) l
    (record l { heap = h; grants = left; operands = after; scratch = scratch })) (sym same)
    (subst (λ (g : Grants). Acts search_asks (reading_row search_row) attempt (tried result) l
    (record l { grants = g; operands = after; scratch = scratch })) (sym kept)
    (searched_here l good attempt after scratch result did ready empty least))
