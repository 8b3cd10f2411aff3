-- Bytes that begin with no line, since some part of one is missing.
use Rattle.std.proofs.Common.{◌≡◌, ◌≢◌, ℕ, Bool, Option, Some, None, List, ◌∷◌, ◌++◌, drop, arith, refl, sym, ap, ◌∙◌}
use Rattle.std.specs.Prelude.{ℤ, pos, negsuc, IfNone}
use Rattle.ps_language.specs.declared.schedules.Entry.{Entry}
use Rattle.ps_run_schedules.specs.Texts.{IsUpTo, IsWords, IsShown, IsEntry, space, line_feed, field_of, words_field}
use Rattle.ps_run_schedules.specs.Texts.{pair_of, flag_of, ending_of, line_of, BeginsNoLine}
use Rattle.ps_run_schedules.proofs.Beginnings.{field_once}
use Rattle.ps_run_schedules.proofs.Once.{pair_parts, line_parts, words_once}

pub if_none : {A P : Type 0} (found : Option A) → P → IfNone found P
if_none None is = is
if_none (Some value) is = tt

-- behind the first number of a pair there is no second
pub no_most : (bytes behind : List ℕ) (used : ℕ) → IsUpTo 2147483647 used
    → bytes ≡ field_of space used ++ behind
    → ((number : ℕ) → IsUpTo 2147483647 number → (rest : List ℕ)
    → behind ≢ field_of line_feed number ++ rest)
    → (pair : ℤ × ℤ) → IsShown (Some pair) → (rest : List ℕ) → bytes ≢ pair_of pair ++ rest
no_most bytes behind used up found none pair one rest is =
    no_words pair.1 rest one.1
    (words_once bytes (pos used) pair.0 space behind _ up one.0 refl found
    (is ∙ pair_parts pair rest)).1
  where
    no_words : (most : ℤ) (rest : List ℕ) → IsWords most
        → behind ≢ words_field line_feed most ++ rest
    no_words (pos number) rest up is = none number up rest is
    no_words (negsuc number) rest up is = up

-- ---- behind the first parts of a line

module _ (bytes behind : List ℕ) (context : ℕ) (up : IsUpTo 4294967295 context)
    (found : bytes ≡ field_of space context ++ behind) where
  -- what stands behind the context of a line
  behind_context : (entry : Entry) (rest : List ℕ) → IsEntry entry
      → bytes ≡ line_of entry ++ rest
      → behind
      ≡ field_of space entry.steps ++ flag_of entry.refused ∷ (ending_of entry.shown ++ rest)
  behind_context entry rest one is =
      (field_once bytes 4294967295 context entry.context space behind _ (omega arith) up one.context
      refl found (is ∙ line_parts entry rest)).1

  pub no_steps : ((number : ℕ) → IsUpTo 4294967295 number → (rest : List ℕ)
      → behind ≢ field_of space number ++ rest)
      → BeginsNoLine bytes
  no_steps none entry one rest is =
      none entry.steps one.steps (flag_of entry.refused ∷ (ending_of entry.shown ++ rest))
      (behind_context entry rest one is)

  module _ (third : List ℕ) (steps : ℕ) (more : IsUpTo 4294967295 steps)
      (next : behind ≡ field_of space steps ++ third) where
    -- and behind its steps
    behind_steps : (entry : Entry) (rest : List ℕ) → IsEntry entry
        → bytes ≡ line_of entry ++ rest
        → third ≡ flag_of entry.refused ∷ (ending_of entry.shown ++ rest)
    behind_steps entry rest one is =
        (field_once behind 4294967295 steps entry.steps space third _ (omega arith) more one.steps
        refl next (behind_context entry rest one is)).1

    pub no_flag : ((truth : Bool) (rest : List ℕ) → third ≢ flag_of truth ∷ rest)
        → BeginsNoLine bytes
    no_flag none entry one rest is =
        none entry.refused (ending_of entry.shown ++ rest) (behind_steps entry rest one is)

    pub no_end : (fourth : List ℕ) (refused : Bool) → third ≡ flag_of refused ∷ fourth
        → ((shown : Option (ℤ × ℤ)) → IsShown shown → (rest : List ℕ)
        → fourth ≢ ending_of shown ++ rest)
        → BeginsNoLine bytes
    no_end fourth refused flag none entry one rest is =
        none entry.shown one.shown rest
        (ap (drop 1) (sym flag ∙ behind_steps entry rest one is))
