-- What is a reason that a step is not made, and what is none.
use Rattle.std.proofs.Common.{◌≡◌, ◌∙◌, ℕ, ◌≤◌, arith, true, false, refl, sym}
use Rattle.std.proofs.lemmas.Bool.{true≢false}
use Rattle.ps_ops_operands.specs.declared.failure.NotMade.TheVariants.{LogFull, LogClosed, NeedSpace}
use Rattle.ps_ops_operands.specs.Changes.{RecordsAsked, WordsAsked, no_records, no_words, IsReasonFor}

-- ---- what is granted

-- a log that takes as many isn't full
pub taken_log : (asked : RecordsAsked) (words : WordsAsked) → asked.records ≤ asked.free
    → IsReasonFor asked words ⊥ LogFull → ⊥
taken_log asked words fits why = let few = why.1 in absurd (omega (arith, fits, few))

-- where no record is asked for it doesn't matter that the log is closed
pub unasked_log : (asked : RecordsAsked) (words : WordsAsked) → asked.records ≡ 0
    → IsReasonFor asked words ⊥ LogClosed → ⊥
unasked_log asked words none why = let some = why.0 in absurd (omega (arith, none, some))

-- words that fit have room
pub fitting_words : (asked : RecordsAsked) (words : WordsAsked) (room : ℕ) → words.fit ≡ true
    → IsReasonFor asked words ⊥ (NeedSpace room) → ⊥
fitting_words asked words room fits why = absurd (true≢false (sym fits ∙ why.2))

-- ---- what isn't

pub full_log : IsReasonFor (record { records = 2; closed = false; free = 1 }) no_words ⊥ LogFull
full_log = (refl, omega arith)

pub closed_log : IsReasonFor (record { records = 1; closed = true; free = 5 }) no_words ⊥ LogClosed
closed_log = (omega arith, refl)

pub no_room : IsReasonFor no_records (record { words = 3; fit = false }) ⊥ (NeedSpace 3)
no_room = (refl, omega arith, refl)
