-- Why a step is not made that asks for what something in it asks for.
use Rattle.std.proofs.Common.{◌≡◌, ℕ, ◌<◌, ◌≤◌, arith, false, subst, ap, sym, inl, inr}
use Rattle.std.specs.Prelude.{IsTrue}
use Rattle.ps_ops_operands.specs.declared.failure.NotMade.{NotMade as Reason}
use Rattle.ps_ops_operands.specs.declared.failure.NotMade.TheVariants.{LogFull, LogClosed, NeedSpace, Memory}
use Rattle.ps_ops_operands.specs.Changes.{RecordsAsked, WordsAsked, records_asked, words_asked, no_records, no_words, IsReasonFor}
use Rattle.ps_ops_operands.specs.Changes.{IsRecordReason, IsRoomReason}
use Rattle.ps_ops_state.specs.Lent.{Lent}
use Rattle.ps_ops_state.specs.Acts.{Needs, IsShort, IsReason}

-- where none is asked for
pub none_asked : {A : Type 0} → 1 ≤ 0 → A
none_asked some = absurd (omega (arith, some))

module _ (needs : Needs) (slot : ℕ) (old new : Lent) where
  -- the step asks for the same records and words as far as any are asked for, and memory is as short
  pub reason_as : (asked : RecordsAsked) (words : WordsAsked) (short : Type 0)
      → (1 ≤ asked.records → asked ≡ records_asked needs.records slot old.grants new.grants)
      → (1 ≤ words.words → words ≡ words_asked needs.words needs.births old.heap)
      → (short → IsShort needs old) → (reason : Reason) → IsReasonFor asked words short reason
      → IsReason needs slot old new reason
  reason_as asked words short records_are words_are shorter LogFull why =
      let few = why.1 in
      subst (λ (a : RecordsAsked). (a.closed ≡ false) × (a.free < a.records))
      (records_are (omega (arith, few))) why
  reason_as asked words short records_are words_are shorter LogClosed why =
      subst (λ (a : RecordsAsked). (1 ≤ a.records) × IsTrue a.closed) (records_are why.0) why
  reason_as asked words short records_are words_are shorter (NeedSpace room) why =
      let same = why.0 in
      let some = why.1 in
      subst (λ (w : WordsAsked). (room ≡ w.words) × (1 ≤ room) × (w.fit ≡ false))
      (words_are (omega (arith, same, some))) why
  reason_as asked words short records_are words_are shorter Memory why = shorter why

  -- as many records
  pub as_many : (records : ℕ) → needs.records ≡ records
      → records_asked records slot old.grants new.grants
      ≡ records_asked needs.records slot old.grants new.grants
  as_many records are =
      ap (λ (n : ℕ). records_asked n slot old.grants new.grants) (sym are)

  -- as much room
  pub as_large : (words births : ℕ) → needs.words ≡ words → needs.births ≡ births
      → words_asked words births old.heap ≡ words_asked needs.words needs.births old.heap
  as_large words births are born i = words_asked (sym are i) (sym born i) old.heap

  -- a memory that grows
  pub grows_as : (words : ℕ) → needs.words ≡ words
      → (1 ≤ words) × IsTrue old.heap.space.grows → IsShort needs old
  grows_as words are why =
      inr (inr (inl (subst (λ (n : ℕ). 1 ≤ n) (sym are) why.0, why.1)))

  -- of records alone
  pub record_reason : (records : ℕ) → needs.records ≡ records → (reason : Reason)
      → IsRecordReason reason records slot old.grants new.grants → IsReason needs slot old new reason
  record_reason records are =
      reason_as (records_asked records slot old.grants new.grants) no_words ⊥
      (λ some. as_many records are) none_asked absurd

  -- of room alone
  pub room_reason : (words births : ℕ) → needs.words ≡ words → needs.births ≡ births → 1 ≤ words
      → (reason : Reason) → IsRoomReason reason old.heap words births
      → IsReason needs slot old new reason
  room_reason words births are born some =
      reason_as no_records (words_asked words births old.heap) (IsTrue old.heap.space.grows)
      none_asked (λ some. as_large words births are born) (λ grows. grows_as words are (some, grows))
