-- What the mutator's seat knows of its own part, since it is that of a run; and where its steps go.
use Rattle.std.proofs.Common.{◌≡◌, ◌⊎◌, ◌^◌, ℕ, ◌+◌, ◌<◌, ◌≤◌, true, false, List, [], ◌∷◌, length, Some, None, Option}
use Rattle.std.proofs.Common.{refl, sym, ◌∙◌, inl, inr, arith}
use Rattle.std.proofs.Math.Logic.{∥∥₁_elim}
use Rattle.std.proofs.Props.{props}
use Rattle.std.specs.Prelude.{nat_le, slice_index}
use Rattle.ps_record.specs.declared.Record.{Record}
use Rattle.ps_record.specs.declared.Record.TheVariants.{Place, Close}
use Rattle.ps_record.specs.Format.{IsRecord}
use Rattle.ps_core_machine.specs.declared.events.Object.{Object}
use Rattle.ps_core_machine.specs.declared.events.Vm.{Vm}
use Rattle.ps_core_machine.specs.declared.events.Event.TheVariants.{FieldStore, HeaderStore}
use Rattle.ps_core_machine.specs.Objects.{log_of, object_at}
use Rattle.ps_core_machine.specs.Steps.{table_size, next_word}
use Rattle.ps_core_machine.specs.Conditions.{CanClear, HasField, VmMay}
use Rattle.ps_core_laws.specs.Kept.{VmKnows, LogKept}
use Rattle.ps_core_laws.specs.Places.{AreDistinct}
use Rattle.ps_core_laws.specs.Laws.{WordsFollow, TakenBegins}
use Rattle.ps_core_laws.specs.Runs.{run, Always}
use Rattle.ps_core_laws.proofs.Bases.{spaces_wide}
use Rattle.ps_core_laws.proofs.HeapTests.{bool_cases, le_is, le_true}
use Rattle.ps_core_laws.proofs.Kept.{good}
use Rattle.ps_core_laws.proofs.KeptFacts.{kept}
use Rattle.ps_core_laws.proofs.LawFacts.{words_follow}
use Rattle.ps_core_laws.specs.Shown.{VmRuns}
use Rattle.ps_core_laws.proofs.Facts.{VmFacts, facts, part_knows}

-- ---- a run that is known to be there tells all that the run would tell

-- one of two orders, by the test of the first
one_of : (a b c d : ℕ) → ∥ (a ≤ b) ⊎ (c ≤ d) ∥₁ → (a ≤ b) ⊎ (c ≤ d)
one_of a b c d t = elim (bool_cases (nat_le a b)) [
  | inl is ↦ inl (le_is a b is)
  | inr not ↦ inr (∥∥₁_elim t (hlevel props) (λ e. elim e as (λ _. c ≤ d) [
    | inl le ↦ absurd (let b : true ≡ false = sym (le_true a b le) ∙ not in cc)
    | inr le ↦ le
  ]))
]

is_record : (r : Record) → ∥ IsRecord r ∥₁ → IsRecord r
is_record (Place a f n) t = ∥∥₁_elim t (hlevel props) (λ h. h)
is_record Close t = tt

distinct : (os : List Object) → ∥ AreDistinct os ∥₁ → AreDistinct os
distinct [] t = tt
distinct (o ∷ os) t =
    (∥∥₁_elim t (hlevel props) (λ d. d.0), distinct os (∥∥₁_elim t (hlevel props) (λ d. ∣ d.1 ∣₁)))

log_kept : (v : Vm) (slot : ℕ) → ∥ LogKept v slot ∥₁ → LogKept v slot
log_kept v slot t = record {
  seen = ∥∥₁_elim t (hlevel props) (λ k. k.seen);
  room = ∥∥₁_elim t (hlevel props) (λ k. k.room);
  short = ∥∥₁_elim t (hlevel props) (λ k. k.short);
  flipped = ∥∥₁_elim t (hlevel props) (λ k. k.flipped);
  opened = ∥∥₁_elim t (hlevel props) (λ k. k.opened);
  shut = ∥∥₁_elim t (hlevel props) (λ k. k.shut);
  records = λ k r e. is_record r (∥∥₁_elim t (hlevel props) (λ l. ∣ l.records k r e ∣₁));
}

known : (v : Vm) → ∥ VmKnows v ∥₁ → VmKnows v
known v t = record {
  size = ∥∥₁_elim t (hlevel props) (λ k. k.size);
  cycles = ∥∥₁_elim t (hlevel props) (λ k. k.cycles);
  births = ∥∥₁_elim t (hlevel props) (λ k. k.births);
  logs = record {
    heads = ∥∥₁_elim t (hlevel props) (λ k. k.logs.heads);
    logs = ∥∥₁_elim t (hlevel props) (λ k. k.logs.logs);
    each = λ slot lt. log_kept v slot (∥∥₁_elim t (hlevel props) (λ k. ∣ k.logs.each slot lt ∣₁));
  };
  lie = ∥∥₁_elim t (hlevel props) (λ k. k.lie);
  apart = λ a b o p e f ne. one_of (a + 2 + length o.fields) b (b + 2 + length p.fields) a
      (∥∥₁_elim t (hlevel props) (λ k. ∣ k.apart a b o p e f ne ∣₁));
  distinct = distinct v.objects (∥∥₁_elim t (hlevel props) (λ k. ∣ k.distinct ∣₁));
  tight = ∥∥₁_elim t (hlevel props) (λ k. k.tight);
  whole = ∥∥₁_elim t (hlevel props) (λ k. k.whole);
  making = ∥∥₁_elim t (hlevel props) (λ k. k.making);
  quiet = ∥∥₁_elim t (hlevel props) (λ k. k.quiet);
}

pub knows : (v : Vm) → ∥ VmRuns v ∥₁ → VmKnows v
knows v t = known v (∥∥₁_elim t (hlevel props) (λ r. ∣ part_knows kept v r ∣₁))

pub vm_facts : (v : Vm) → ∥ VmRuns v ∥₁ → VmFacts v
vm_facts v t = facts v (knows v t)

-- a log has no more records than the numbers of its ring places fit a word
pub few_logged : (v : Vm) → ∥ VmRuns v ∥₁ → (slot : ℕ) → slot < 32
    → (slice_index v.heads slot ≤ length (log_of v.logs slot))
    × (length (log_of v.logs slot) + 256 < 2 ^ 64)
few_logged v t slot lt =
    let k = knows v t in
    let log = k.logs.each slot lt in
    let short = log.short in let small = k.cycles.small in
    (log.seen, omega arith)

-- what the words of the table follow from, and what was taken of the logs, after every run
pub words : Always WordsFollow
words space size events h =
    words_follow space size (run space events) (good space size events h)

pub taken : Always TakenBegins
taken space size events h = (good space size events h).logs.begins

-- ---- where a step's word stands

field_inside : (v : Vm) (k : VmFacts v) (a i w : ℕ) (x : Option Object)
    → object_at v.objects a ≡ x → HasField v x i w
    → (a + 2 + i < table_size v.space) × (i < 2 ^ 16)
field_inside v k a i w None e has = absurd has
field_inside v k a i w (Some o) e has =
    let lt = has.0 in
    let hi = (k.within a o e).1 in
    let top = k.end_high in
    let wide = k.base_high in
    let n = k.sized a o e in
    let f = (k.headed a o e).fields in
    (omega arith, omega arith)

pub field_place : (v : Vm) (a i w : ℕ) → ∥ VmRuns v ∥₁ → VmMay v (FieldStore a i w)
    → (a + 2 + i < table_size v.space) × (i < 2 ^ 16)
field_place v a i w r may =
    field_inside v (vm_facts v r) a i w (object_at v.objects a) refl may.0

pub header_place : (v : Vm) (header : ℕ) → ∥ VmRuns v ∥₁ → VmMay v (HeaderStore header)
    → v.end < table_size v.space
header_place v header r may =
    let k = knows v r in
    let made = may.cleared in
    let last = k.making (omega arith) in
    let wide = (spaces_wide v.space v.cycle).0 in
    omega arith

pub clear_place : (v : Vm) → CanClear v → next_word v < table_size v.space
clear_place v may = let wide = (spaces_wide v.space v.cycle).0 in omega arith
