-- What many runs leave behind.
use Rattle.std.proofs.Common.{◌≡◌, ◌+◌, ◌<◌, ◌≤◌, ◌^◌, ℕ, suc, List, ◌++◌, length, Option, Some, None, Bor, inl, inr, sym, subst, arith}
use Rattle.std.specs.Prelude.{All, codes, option_map, slice_index_or, IfSome}
use Rattle.std.specs.Fmt.{decimal}
use Rattle.std.proofs.Math.Nat.{eq-or-lt_of_le}
use Rattle.std.proofs.lemmas.Fmt.{decimal_injective}
use Rattle.std.proofs.lemmas.List.{append_cancel_left}
use Rattle.clap.specs.Words.{Text}
use Rattle.ps_language.specs.Effect.{Around, Scene}
use Rattle.ps_language.specs.World as world
use Rattle.ps_ops_state.specs.Acts as acts
use Rattle.ps_run_schedules.specs.Texts.{AreEntries, text_of}
use Rattle.ps_vault.specs.declared.reports.Report.{Report}
use Rattle.ps_vault.specs.Endings.{AreEndings}
use Rattle.ps_vault.specs.Reports.{Bounds}
use Rattle.ps_vault.proofs.Endings.{each_ending}
use Rattle.ps_run.specs.Telling.{Told}
use Rattle.ps_run.specs.declared.statuses.Status.{Status}
use Rattle.ps_run.specs.Driving.{AreRecorded, AreWritten, Contents, IsRecorded, IsRecordName, Outputs, numbered}
use Rattle.ps_run.proofs.Ranges.{are_entries}

-- names of different numbers differ
pub numbered_same : (prefix : Text) (a b : ℕ) → a < 2 ^ 64 → b < 2 ^ 64
    → numbered prefix a ≡ numbered prefix b → a ≡ b
numbered_same prefix a b few less same =
    decimal_injective a b few less
    (append_cancel_left (codes ".") (decimal a) (decimal b)
    (append_cancel_left prefix (codes "." ++ decimal a) (codes "." ++ decimal b) same))

module _ (old new : Contents) (prefix : Text) (endings : List Report) (count : ℕ)
    (few : length endings < 2 ^ 32) (less : count < length endings)
    (before : AreRecorded old (Some prefix) endings count)
    (kept : (other : Text) → ¬ (other ≡ numbered prefix (count + 1)) → new other ≡ old other) where
  -- they stay when the next is written, or isn't
  pub recorded_kept : AreRecorded new (Some prefix) endings count
  recorded_kept = λ place default low.
      subst (λ (known : Option (List ℕ)). IfSome known (λ bytes.
      bytes ≡ text_of (slice_index_or endings place default).schedule.items))
      (sym (kept (numbered prefix (place + 1)) (λ same.
      let equal = numbered_same prefix (place + 1) (count + 1) (omega (arith, few, less, low))
      (omega (arith, few, less)) same in
      omega (arith, equal, low))))
      (before place default low)

  -- and with the next there is one more
  pub recorded_more : ((default : Report) → IsRecorded new (Some (numbered prefix (count + 1)))
      (slice_index_or endings count default).schedule.items)
      → AreRecorded new (Some prefix) endings (count + 1)
  recorded_more here = λ place default within.
      elim (eq-or-lt_of_le (let le : suc place ≤ suc count = omega (arith, within) in le)) [
        | inl same ↦
            let at : count ≡ place = omega (arith, same) in
            subst (λ (k : ℕ). IsRecorded new (Some (numbered prefix (k + 1)))
            (slice_index_or endings k default).schedule.items) at (here default)
        | inr less_place ↦
            let low : place < count = omega (arith, less_place) in
            recorded_kept place default low
      ]

-- their schedules can be read again
pub endings_entries : (asks : world.Status → Around → Scene → acts.Asked) (program : List ℕ)
    (steps : ℕ) (most : Bounds) (runs : ℕ) (endings : List Report) → steps ≤ 4294967295
    → AreEndings asks program steps most runs endings
    → All (λ ending. AreEntries ending.schedule.items) endings
endings_entries asks program steps most runs endings few are = λ place default less.
    let ending = each_ending asks program steps most runs endings are place default less in
    are_entries program (slice_index_or endings place default).schedule.items
    (omega (arith, few, ending.run.run.within)) ending.run.run.longest ending.run.run.proper
    ending.run.run.fits

-- what was written, where what stood before is told of what stood earlier
pub all_written_from : (recorded : Option Text) (endings : List Report) (lines : List ℕ)
    (told : Status) (outputs : Outputs) (err : Told) (files : Contents) → outputs.err_old ≡ err
    → outputs.files_old ≡ files → AreWritten recorded endings lines told outputs
    → AreWritten recorded endings lines told
    (record outputs { err_old = err; files_old = files })
all_written_from recorded endings lines told outputs err files errs all written =
    subst (AreWritten recorded endings lines told)
    (λ i. record outputs { err_old = errs i; files_old = all i }) written

-- and by other words of it
pub all_written_as : (recorded : Option Text) (endings others : List Report)
    (lines more : List ℕ) (told : Status) (outputs : Outputs) → endings ≡ others
    → lines ≡ more → AreWritten recorded endings lines told outputs
    → AreWritten recorded others more told outputs
all_written_as recorded endings others lines more told outputs one two written =
    subst (λ (reports : List Report). AreWritten recorded reports more told outputs) one
    (subst (λ (text : List ℕ). AreWritten recorded endings text told outputs) two written)

-- a name with such a number is a record's, where the words give the name
pub named_record : (given : Option (Bor (List ℕ))) (prefix : Bor (List ℕ)) (name : Text)
    (number count : ℕ) → given ≡ Some prefix → 1 ≤ number → number ≤ count
    → name ≡ numbered prefix.now number
    → IsRecordName (option_map (λ word. word.now) given) (Some count) name
named_record given prefix name number count is some few same =
    subst (λ (g : Option (Bor (List ℕ))). IsRecordName (option_map (λ word. word.now) g)
    (Some count) name) (sym is) (number, some, few, same)

-- and it is one of more records
pub record_fewer : (recorded : Option Text) (few most : ℕ) (name : Text) → few ≤ most
    → IsRecordName recorded (Some few) name → IsRecordName recorded (Some most) name
record_fewer None few most name less is = is
record_fewer (Some prefix) few most name less is =
    (is.0, is.1, omega (arith, less, is.2), is.3)
