-- The operands of another context under a mark.
use Rattle.std.proofs.Common.{◌≡◌, ℕ, ◌++◌, arith, List, [], ◌∷◌, take, drop, length, map, Result, Ok, Err, refl, sym}
use Rattle.std.proofs.Common.{ap, subst, ◌∙◌, append-nil}
use Rattle.std.proofs.Math.Seq.{take-append_seam, drop-append_seam, take-length}
use Rattle.std.specs.Prelude.{OnErr, reverse}
use Rattle.std.proofs.lemmas.List.{reverse-reverse}
use Rattle.ps_language.specs.declared.errors.ErrorName.{ErrorName}
use Rattle.ps_language.specs.Value.{Value, Store}
use Rattle.ps_language.specs.Acts.{operands_effect}
use Rattle.ps_language.specs.Outcome.{Outcome, leaves, fails}
use Rattle.ps_word.specs.declared.words.Word.{Word}
use Rattle.ps_mem.specs.Heap.{birth_at}
use Rattle.ps_mem.specs.Meaning.{value_of}
use Rattle.ps_mem.specs.Shows.{IsValue, AreValues, IsWithin, AreWithin}
use Rattle.ps_ops_operands.specs.Does.{DoesAs}
use Rattle.ps_ops_operands.specs.Kept.{AreFrom}
use Rattle.ps_ops_operands.specs.Plain.{IsPlain}
use Rattle.ps_ops_operands.proofs.Sources.{from_same, from_plain, from_append, from_drop, from_take, have_from}
use Rattle.ps_ops_operands.specs.Changes.{values_in}
use Rattle.ps_ops_operands.proofs.Held.{all_append}
use Rattle.ps_ops_operands.proofs.Ready.{plain_value, plain_within}
use Rattle.ps_ops_state.specs.declared.lent.Attempt.{Attempt}
use Rattle.ps_ops_state.specs.Breaks.{made}
use Rattle.ps_ops_state.specs.Lent.{Lent, scene_of, IsShown, IsGood}
use Rattle.ps_ops_state.specs.Acts.{nothing_asked, Meets}
use Rattle.ps_ops_state.proofs.Lifts.{changed_good, changed_left}
use Rattle.ps_ops_state.proofs.Meeting.{keeps-same, lasts-same, logs-same, stays_as, at_least-same, lacks_for_same}
use Rattle.ps_ops_state.proofs.Meeting.{made_meets}
use Rattle.ps_ctx_operators.specs.Tells.{ActsWhere}
use Rattle.ps_ctx_operators.specs.Rows.{join_part, join_caller}

-- ---- on operands alone

-- all that were taken, from the lowest up
pub taken_whole : (taken slice : List Word) (n : ℕ) → slice ≡ reverse (take n taken)
    → n ≡ length taken → reverse slice ≡ taken
taken_whole taken slice n is whole =
    ap reverse is ∙ (reverse-reverse (take n taken)
    ∙ (ap (λ (m : ℕ). take m taken) whole ∙ take-length taken))

-- what was held still is
pub join_kept : (taken old : List Word) → AreFrom (taken ++ old) old
join_kept taken old =
    subst (AreFrom (taken ++ old)) (drop-append_seam taken old)
    (from_drop (taken ++ old) (taken ++ old) (length taken) (from_same (taken ++ old)))

-- where they come from
pub join_from : (taken old : List Word) (mark : Word) → IsPlain mark
    → AreFrom (taken ++ old) (taken ++ mark ∷ drop 1 old)
join_from taken old mark plain =
    from_append (taken ++ old) taken (mark ∷ drop 1 old)
    (subst (AreFrom (taken ++ old)) (take-append_seam taken old)
    (from_take (taken ++ old) (taken ++ old) (length taken) (from_same (taken ++ old))))
    (from_plain (taken ++ old) (drop 1 old) mark plain
    (from_drop (taken ++ old) old 1 (join_kept taken old)))

-- ---- on what is lent

module _ (l : Lent) (good : IsGood l) (attempt : Attempt) (taken after : List Word)
    (held : AreValues l.heap taken) (from : AreFrom (taken ++ l.operands) after) where
  abbrev joined : Lent
  joined = record l { operands = after }

  joined_as : (result : Result Unit ErrorName) (outcome : Outcome (List Value)) (store : Store)
      → IsShown l store → AreWithin l.heap l.names store after
      → DoesAs result outcome (birth_at l.heap) l.names l.operands after
      → Meets nothing_asked (operands_effect (scene_of l store) outcome) attempt (made result)
      (scene_of l store) l joined
  joined_as (Ok _) (leaves operands) store shown within did =
      made_meets nothing_asked attempt (scene_of l store) l joined
      (record (scene_of l store) { operands = operands }) [] (lacks_for_same attempt.refused store)
      (changed_left l good l.heap l.grants after (keeps-same l.heap) store store (lasts-same store)
      shown shown.shows within operands did) (sym (append-nil l.printed))
      (logs-same 0 l.grants attempt.slot)
  joined_as (Ok _) (fails raised) store shown within did = absurd did
  joined_as (Err error) (leaves operands) store shown within did = absurd did
  joined_as (Err error) (fails raised) store shown within did = record {
    did = (did.0, ap (λ (ws : List Word). record l { operands = ws }) did.1);
    logs = logs-same 0 l.grants attempt.slot;
  }

  framed_as : (result : Result Unit ErrorName) → OnErr (made result) (l.frames ≡ l.frames)
  framed_as (Ok _) = tt
  framed_as (Err error) = refl

  pub joins_acts : (result : Result Unit ErrorName)
      → ((births : ℕ → ℕ) (names : List (List ℕ)) → DoesAs result
      (join_part (map (value_of births names) taken) (map (value_of births names) l.operands))
      births names l.operands after)
      → ActsWhere (λ store. AreWithin l.heap l.names store taken) nothing_asked
      (join_caller (values_in l.heap l.names taken)) attempt (made result) l joined
  joins_acts result did = record {
    meets = λ store shown inside.
        joined_as result _ store shown
        (have_from (IsWithin (birth_at l.heap) l.names store) (taken ++ l.operands) after
        (plain_within (birth_at l.heap) l.names store)
        (all_append (IsWithin (birth_at l.heap) l.names store) taken l.operands inside
        shown.operands) from) (did (birth_at l.heap) l.names);
    good = changed_good l good l.heap l.grants after (keeps-same l.heap) (record {
      sound = good.sound;
      values = have_from (IsValue l.heap) (taken ++ l.operands) after (plain_value l.heap)
          (all_append (IsValue l.heap) taken l.operands held good.operands) from;
    });
    keeps = keeps-same l.heap;
    stays = stays_as l _ refl refl refl refl (omega arith) (at_least-same _);
    logs = logs-same _ l.grants attempt.slot;
    framed = framed_as result;
  }
