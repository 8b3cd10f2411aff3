-- Words that are the same in every memory, and grants that log nothing.
use Rattle.std.proofs.Common.{◌≡◌, ℕ, arith, ap, ◌∙◌}
use Rattle.ps_ops_operands.specs.Plain.{IsPlain}
use Rattle.ps_word.specs.declared.words.Word.{Word}
use Rattle.ps_mem.specs.Heap.{Grants, AfterNew, SameLogs, birth_at}
use Rattle.ps_ops_operands.specs.Changes.{KeepsLogsWithin}
use Rattle.ps_ops_operands.proofs.Ready.{plain_value, plain_within}
use Rattle.ps_ops_state.specs.Lent.{Lent}
use Rattle.ps_step_execute.specs.Values.{IsLent}

pub plain_lent : (l : Lent) (w : Word) → IsPlain w → IsLent l w
plain_lent l w plain = record {
  held = plain_value l.heap w plain;
  within = λ s shown. plain_within (birth_at l.heap) l.names s w plain;
}

module _ (old new : Grants) (slot : ℕ) (cycle_open : new.cycle_open ≡ old.cycle_open)
    (closed : new.closed ≡ old.closed) (records : new.records ≡ old.records)
    (put : new.put ≡ old.put) where
  unlogged : KeepsLogsWithin 0 old new slot
  unlogged =
      let here = ap (λ (f : ℕ → ℕ). f slot) records in
      let there = ap (λ (f : ℕ → ℕ). f slot) put in
      record {
        cycle_open = cycle_open;
        closed = closed;
        others = λ s other. ap (λ (f : ℕ → ℕ). f s) records;
        used = omega (arith, here);
        kept = omega (arith, there);
        put = omega (arith, there);
        put_no_other = λ s other. ap (λ (f : ℕ → ℕ). f s) put;
      }

module _ (old mid : Grants) (slot : ℕ)
    (is : mid ≡ record old { words = mid.words; births = mid.births }) where
  -- room was asked for
  pub asked_logs : KeepsLogsWithin 0 old mid slot
  asked_logs = unlogged old mid slot (ap (λ (g : Grants). g.cycle_open) is)
      (ap (λ (g : Grants). g.closed) is) (ap (λ (g : Grants). g.records) is)
      (ap (λ (g : Grants). g.put) is)

  -- and used
  pub used_logs : (new : Grants) (address size numbers : ℕ) → AfterNew mid new address size numbers
      → KeepsLogsWithin 0 old new slot
  used_logs new address size numbers used =
      unlogged old new slot (used.cycle_open ∙ ap (λ (g : Grants). g.cycle_open) is)
      (used.closed ∙ ap (λ (g : Grants). g.closed) is)
      (used.records ∙ ap (λ (g : Grants). g.records) is)
      (used.put ∙ ap (λ (g : Grants). g.put) is)

  -- and objects were made in it
  pub made_logs : (new : Grants) → SameLogs mid new → KeepsLogsWithin 0 old new slot
  made_logs new same =
      unlogged old new slot (same.cycle_open ∙ ap (λ (g : Grants). g.cycle_open) is)
      (same.closed ∙ ap (λ (g : Grants). g.closed) is)
      (same.records ∙ ap (λ (g : Grants). g.records) is)
      (same.put ∙ ap (λ (g : Grants). g.put) is)
