-- What narrower relations say is what the one relation says.
use Rattle.std.proofs.Common.{◌≡◌, ℕ, arith, List, [], length, Result, Ok, Err, refl, sym, ap, subst, append-nil}
use Rattle.std.specs.Prelude.{OnErr}
use Rattle.ps_language.specs.declared.errors.ErrorName.{ErrorName}
use Rattle.ps_language.specs.Value.{Value, Store}
use Rattle.ps_language.specs.Outcome.{Outcome, leaves, fails}
use Rattle.ps_language.specs.Effect.{Scene, Effect, unwinds, effect_by, quiet}
use Rattle.ps_language.specs.Acts.{operands_effect}
use Rattle.ps_language.specs.Control.{scene_effect}
use Rattle.ps_language.specs.Rows.{operand_row, reading_row, scene_row}
use Rattle.ps_word.specs.declared.words.Word.{Word}
use Rattle.ps_mem.specs.Heap.{Heap, Grants, birth_at}
use Rattle.ps_mem.specs.Keeps.{Keeps}
use Rattle.ps_mem.specs.Shows.{IsReady, IsWithin, AreWithin, Shows}
use Rattle.ps_mem.proofs.KeepsLemmas.{AreValues-kept, AreWithin-kept, values_of-kept, stands-kept, known_values}
use Rattle.ps_ops_operands.specs.Does.{Does, DoesAs}
use Rattle.ps_ops_operands.specs.Kept.{AreFrom}
use Rattle.ps_ops_operands.proofs.Sources.{have_from}
use Rattle.ps_ops_operands.specs.Changes.{values_in, ObservesAs, Observes}
use Rattle.ps_ops_operands.proofs.Ready.{plain_within, ready_from}
use Rattle.ps_ops_operands.specs.FirstNames.{ObservesMet}
use Rattle.ps_ops_control.specs.declared.frames.Frame.{Frame}
use Rattle.ps_ops_control.specs.declared.frames.Cause.{Cause}
use Rattle.ps_ops_control.specs.Turns.{cause_of}
use Rattle.ps_ops_control.specs.Controls as controls
use Rattle.ps_ops_control.specs.Controls.{Controls, ControlsAs}
use Rattle.ps_ops_state.specs.declared.breaks.Break.TheVariants.{Unwinds}
use Rattle.ps_ops_state.specs.declared.lent.Attempt.{Attempt}
use Rattle.ps_ops_state.specs.Breaks.{made}
use Rattle.ps_ops_state.specs.Lent.{Lent, scene_of, IsShown, IsErrorDictionary, IsGood}
use Rattle.ps_ops_state.specs.Acts.{nothing_asked, Lasts, IsLeft, Meets, Acts, over}
use Rattle.ps_ops_state.proofs.Kept.{frames-good, frames-same, frames-within}
use Rattle.ps_ops_state.proofs.Meeting.{keeps-same, lasts-same, logs-same, stays_as, at_least-same, lacks_for_same}
use Rattle.ps_ops_state.proofs.Meeting.{made_meets, unwound_meets, meets_by}

-- what is always made
made_framed : (P : Type 0) (result : Result Unit ErrorName) → OnErr result P
    → OnErr (made result) P
made_framed P (Ok _) framed = tt
made_framed P (Err _) framed = framed

-- one that leaves the frames
unframed : (P : Type 0) → P → (result : Result Unit ErrorName) → OnErr result P
unframed P p (Ok _) = tt
unframed P p (Err _) = p

-- the operands of what is good
pub held : {l : Lent} → IsGood l → IsReady l.heap l.operands
held good = record { sound = good.sound; values = good.operands }

-- $error stands on
pub error-kept : (old new : Heap) → Keeps old new → (address : ℕ)
    → IsErrorDictionary old address → IsErrorDictionary new address
error-kept old new keeps address good = record {
  stands = stands-kept old new keeps _ address _ good.stands;
  below = good.below;
}

-- ---- other operands over a memory that keeps what stood

module _ (l : Lent) (good : IsGood l) (new : Heap) (left : Grants) (after : List Word)
    (keeps : Keeps l.heap new) where
  pub changed_good : IsReady new after → IsGood (over l new left after)
  changed_good ready = record {
    sound = ready.sound;
    operands = ready.values;
    dictionaries = AreValues-kept l.heap new keeps l.dictionaries good.dictionaries;
    frames = frames-good l.heap new keeps (length l.program) l.frames good.frames;
    error_stands = error-kept l.heap new keeps l.error_dictionary good.error_stands;
    names = good.names;
    first = good.first;
    empty = good.empty;
  }

  pub changed_left : (s t : Store) → Lasts s t → IsShown l s → Shows new l.names t
      → AreWithin new l.names t after → (operands : List Value)
      → values_in new l.names after ≡ operands
      → IsLeft s (over l new left after) (record (scene_of l s) { operands = operands; store = t })
  changed_left s t lasts shown shows within operands are =
      let size = length l.program in
      let known = known_values l.heap l.dictionaries good.dictionaries in
      record {
        is = λ i. record {
          operands = are i;
          dictionaries = values_of-kept l.heap new keeps l.names l.dictionaries known i;
          frames = frames-same l.heap new keeps size l.names l.frames good.frames i;
          store = t;
          names = l.names;
        };
        shown = record {
          shows = shows;
          operands = within;
          dictionaries =
              AreWithin-kept l.heap new keeps l.names s t lasts l.dictionaries known
              shown.dictionaries;
          frames =
              frames-within l.heap new keeps size l.names s t lasts l.frames good.frames
              shown.frames;
        };
        lasts = lasts;
      }

-- ---- operators that read

-- operators on operands alone read no store
does_agrees : (result : Result Unit ErrorName) (outcome : Outcome (List Value))
    (names : List (List ℕ)) (store : Store) (h : Heap) (before after : List Word)
    → DoesAs result outcome (birth_at h) names before after → AreFrom before after
    → AreWithin h names store before → ObservesAs result outcome names store h before after
does_agrees (Ok _) (leaves left) names store h before after did from within = (
  did,
  have_from (IsWithin (birth_at h) names store) before after
      (plain_within (birth_at h) names store) within from,
)
does_agrees (Ok _) (fails raised) names store h before after did from within = absurd did
does_agrees (Err error) (leaves left) names store h before after did from within = absurd did
does_agrees (Err error) (fails raised) names store h before after did from within = did

pub does_observes : (row : List Value → Outcome (List Value)) (result : Result Unit ErrorName)
    (h : Heap) (before after : List Word) → Does row result before after → AreFrom before after
    → Observes (λ store. row) result h before after
does_observes row result h before after did from = record {
  meets = λ names store shows within.
      does_agrees result (row (values_in h names before)) names store h before after
      (did.agrees (birth_at h) names) from within;
}

-- under any names, so under those that begin with the first ones
pub under_first : (row : Store → List Value → Outcome (List Value)) (result : Result Unit ErrorName)
    (h : Heap) (before after : List Word) → Observes row result h before after
    → ObservesMet row result h before after
under_first row result h before after did =
    record { meets = λ names store met. did.meets names store }

module _ (l : Lent) (good : IsGood l) (attempt : Attempt) (after : List Word) where
  observed_as : (result : Result Unit ErrorName) (outcome : Outcome (List Value)) (store : Store)
      → IsShown l store → ObservesAs result outcome l.names store l.heap l.operands after
      → Meets nothing_asked (operands_effect (scene_of l store) outcome) attempt (made result)
      (scene_of l store) l (over l l.heap l.grants after)
  observed_as (Ok _) (leaves operands) store shown did =
      made_meets nothing_asked attempt (scene_of l store) l (over l l.heap l.grants after)
      (record (scene_of l store) { operands = operands }) [] (lacks_for_same attempt.refused store)
      (changed_left l good l.heap l.grants after (keeps-same l.heap) store store (lasts-same store)
      shown shown.shows did.1 operands did.0) (sym (append-nil l.printed))
      (logs-same 0 l.grants attempt.slot)
  observed_as (Ok _) (fails raised) store shown did = absurd did
  observed_as (Err error) (leaves operands) store shown did = absurd did
  observed_as (Err error) (fails raised) store shown did =
      record {
        did = (did.0, ap (over l l.heap l.grants) did.1);
        logs = logs-same 0 l.grants attempt.slot;
      }

  observed_here : (row : Store → List Value → Outcome (List Value)) (result : Result Unit ErrorName)
      → ObservesMet row result l.heap l.operands after → IsReady l.heap after
      → Acts nothing_asked (reading_row row) attempt (made result) l (over l l.heap l.grants after)
  observed_here row result did ready = record {
    meets = λ store shown.
        observed_as result (row store (values_in l.heap l.names l.operands)) store shown
        (did.meets l.names store good.first shown.shows shown.operands);
    good = changed_good l good l.heap l.grants after (keeps-same l.heap) ready;
    keeps = keeps-same l.heap;
    stays = stays_as l _ refl refl refl refl (omega arith) (at_least-same _);
    logs = logs-same _ l.grants attempt.slot;
    framed = made_framed _ result (unframed _ refl result);
  }

-- an operator that reads acts
pub observes_acts : (l : Lent) → IsGood l → (attempt : Attempt)
    (row : Store → List Value → Outcome (List Value)) (result : Result Unit ErrorName) (new : Heap)
    (left : Grants) (after : List Word) → new ≡ l.heap → left ≡ l.grants
    → Observes row result l.heap l.operands after → IsReady l.heap after
    → Acts nothing_asked (reading_row row) attempt (made result) l (over l new left after)
observes_acts l good attempt row result new left after same kept did ready =
    subst (λ h. Acts nothing_asked (reading_row row) attempt (made result) l (over l h left after))
    (sym same)
    (subst (λ g. Acts nothing_asked (reading_row row) attempt (made result) l (over l l.heap g after))
    (sym kept)
    (observed_here l good attempt after row result
    (under_first row result l.heap l.operands after did) ready))

-- one that reads no store
pub operands_acts : (l : Lent) → IsGood l → (attempt : Attempt)
    (row : List Value → Outcome (List Value)) (result : Result Unit ErrorName) (after : List Word)
    → ObservesMet (λ store. row) result l.heap l.operands after → IsReady l.heap after
    → Acts nothing_asked (operand_row row) attempt (made result) l (over l l.heap l.grants after)
operands_acts l good attempt row result after did ready =
    let acts = observed_here l good attempt after (λ store. row) result did ready in
    record {
      meets = acts.meets;
      good = acts.good;
      keeps = acts.keeps;
      stays = acts.stays;
      logs = acts.logs;
      framed = acts.framed;
    }

-- one on operands alone, whatever the memory
pub does_acts : (l : Lent) → IsGood l → (attempt : Attempt) (row : List Value → Outcome (List Value))
    (result : Result Unit ErrorName) (after : List Word) → Does row result l.operands after
    → AreFrom l.operands after
    → Acts nothing_asked (operand_row row) attempt (made result) l (over l l.heap l.grants after)
does_acts l good attempt row result after did from =
    operands_acts l good attempt row result after
    (under_first (λ store. row) result l.heap l.operands after
    (does_observes row result l.heap l.operands after did from))
    (ready_from l.heap l.operands after (held good) from)

-- ---- operators that push frames

module _ (l : Lent) (good : IsGood l) (operands : List Word) (frames : List Frame)
    (attempt : Attempt) where
  abbrev with_stacks : Lent
  with_stacks = record l { operands = operands; frames = frames }

  controlled_as : (result : Result Unit ErrorName) (outcome : Outcome Scene) (store : Store)
      → IsShown l store
      → ControlsAs result outcome l.heap l.names store (values_in l.heap l.names l.dictionaries)
      (controls.stacks l.operands l.frames) (controls.stacks operands frames)
      → Meets nothing_asked (effect_by quiet outcome) attempt (made result) (scene_of l store) l
      with_stacks
  controlled_as (Ok _) (leaves scene) store shown did =
      subst (λ (s : Scene). Meets nothing_asked (quiet s) attempt (Ok tt) (scene_of l store) l
      with_stacks) did.0
      (made_meets nothing_asked attempt (scene_of l store) l with_stacks (scene_of with_stacks store) []
      (lacks_for_same attempt.refused store)
      (record {
        is = refl;
        shown = record {
          shows = shown.shows;
          operands = did.1.operands;
          dictionaries = shown.dictionaries;
          frames = did.1.frames;
        };
        lasts = lasts-same store;
      })
      (sym (append-nil l.printed)) (logs-same 0 l.grants attempt.slot))
  controlled_as (Ok _) (fails raised) store shown did = absurd did
  controlled_as (Err error) (leaves scene) store shown did = absurd did
  controlled_as (Err error) (fails raised) store shown did = record {
    did = (
      did.0,
      ap (λ (s : controls.Stacks). record l
          { operands = s.operands; frames = s.frames }) did.1,
    );
    logs = logs-same 0 l.grants attempt.slot;
  }

  pub controls_acts : (row : List Value → Scene → Outcome Scene) (result : Result Unit ErrorName)
      → Controls row result l.heap (length l.program) (controls.stacks l.operands l.frames)
      (controls.stacks operands frames) → OnErr result (frames ≡ l.frames)
      → Acts nothing_asked (scene_row (scene_effect row)) attempt (made result) l with_stacks
  controls_acts row result did framed = record {
    meets = λ store shown.
        controlled_as result (row (scene_of l store).operands (scene_of l store)) store shown
        (did.meets l.names store (values_in l.heap l.names l.dictionaries) shown.shows
        (record { operands = shown.operands; frames = shown.frames }));
    good = record {
      sound = did.ready.operands.sound;
      operands = did.ready.operands.values;
      dictionaries = good.dictionaries;
      frames = did.ready.frames;
      error_stands = good.error_stands;
      names = good.names;
      first = good.first;
      empty = good.empty;
    };
    keeps = keeps-same l.heap;
    stays = stays_as l _ refl refl refl refl (omega arith) (at_least-same _);
    logs = logs-same _ l.grants attempt.slot;
    framed = made_framed _ result framed;
  }

-- ---- operators that begin an unwinding

pub unwinds_acts : (l : Lent) → IsGood l → (attempt : Attempt) (effect : Scene → Effect) (cause : Cause)
    → ((store : Store) → effect (scene_of l store) ≡ unwinds (cause_of cause) (scene_of l store))
    → Acts nothing_asked (scene_row effect) attempt (Err (Unwinds cause)) l l
unwinds_acts l good attempt effect cause is = record {
  meets = λ store shown.
      meets_by nothing_asked attempt (scene_of l store) l l (Err (Unwinds cause)) _ _ (is store)
      (unwound_meets nothing_asked attempt (scene_of l store) l l cause (scene_of l store)
      (record { is = refl; shown = shown; lasts = lasts-same store }) refl
      (logs-same 0 l.grants attempt.slot));
  good = good;
  keeps = keeps-same l.heap;
  stays = stays_as l l refl refl refl refl (omega arith) (at_least-same _);
  logs = logs-same _ l.grants attempt.slot;
  framed = refl;
}

-- operands and frames of what is good
pub ready : {l : Lent} → IsGood l
    → controls.IsReadyFor l.heap (length l.program) (controls.stacks l.operands l.frames)
ready good = record { operands = held good; frames = good.frames }
