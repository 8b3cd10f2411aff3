-- What the mutator's seat knows of its own part, and of a word that it found, since its part is
-- that of a run: by the clauses of the law.
use Rattle.std.proofs.Common.{◌≡◌, ◌^◌, ℕ, ◌+◌, ◌<◌, ◌≤◌, length, Some, sym, ap, ◌∙◌, subst, arith, length-append}
use Rattle.std.specs.Prelude.{slice_index}
use Rattle.ps_word.specs.Headers.{fields_in}
use Rattle.ps_core_machine.specs.declared.events.Object.{Object}
use Rattle.ps_core_machine.specs.declared.events.Vm.{Vm}
use Rattle.ps_core_machine.specs.Objects.{object_at, log_of}
use Rattle.ps_core_machine.specs.Steps.{State, table_size, space_base}
use Rattle.ps_core_laws.specs.Kept.{VmKnows, Kept}
use Rattle.ps_core_laws.specs.Laws.{WordsFollow, TakenBegins}
use Rattle.ps_core_laws.specs.Runs.{run, IsSpace, Always}
use Rattle.ps_core_laws.proofs.Bases.{spaces_wide, spaces_far}
use Rattle.ps_core_laws.proofs.Lookups.{object_at-address}
use Rattle.ps_core_laws.proofs.Headed.{AreHeaded}
use Rattle.ps_core_laws.specs.Shown.{VmRuns, VmFinds}

-- what it is to know the part, in the words of the lemmas
pub record VmFacts (v : Vm) : Type 0 where
  pub size : IsSpace v.space
  pub within : (a : ℕ) (o : Object) → object_at v.objects a ≡ Some o
      → (space_base v.space v.cycle ≤ a) × (a + 2 + length o.fields ≤ v.end)
  pub sized : (a : ℕ) (o : Object) → object_at v.objects a ≡ Some o
      → length o.fields ≡ fields_in o.header
  pub headed : AreHeaded v.objects
  pub low_end : space_base v.space v.cycle ≤ v.end
  pub end_high : v.end ≤ space_base v.space v.cycle + v.space
  pub births : v.next_birth ≤ 2 ^ 40
  pub opened_low : v.cycle ≤ v.epoch
  pub opened_high : v.epoch ≤ v.cycle + 1
  pub wide_heads : length v.heads ≡ 32
  pub wide_logs : length v.logs ≡ 32
  pub base_low : 8256 ≤ space_base v.space v.cycle
  pub base_high : space_base v.space v.cycle + v.space ≤ table_size v.space

pub facts : (v : Vm) → VmKnows v → VmFacts v
facts v k = record {
  size = k.size;
  within = λ a o e. let w = k.lie a o e in (w.low, w.high);
  sized = λ a o e. (k.lie a o e).count;
  headed = λ a o e. (k.lie a o e).headed;
  low_end = let t = k.tight in omega arith;
  end_high = k.whole;
  births = k.births.limit;
  opened_low = k.cycles.low;
  opened_high = k.cycles.high;
  wide_heads = k.logs.heads;
  wide_logs = k.logs.logs;
  base_low = (spaces_far v.space v.cycle).0;
  base_high = (spaces_wide v.space v.cycle).0;
}

-- the clause of the law on the part of a run
pub part_knows : Always Kept → (v : Vm) → VmRuns v → VmKnows v
part_knows kept v r = subst VmKnows r.is (kept v.space r.size r.events r.is_run).mutator

-- ---- what a word that is found tells

-- the words of the table follow from the parts
module _ (words : Always WordsFollow) where
  pub field_found : (v : Vm) (a i n : ℕ) (o : Object) → VmFinds v (a + 2 + i) n
      → object_at v.objects a ≡ Some o → i < length o.fields → slice_index o.fields i ≡ n
  field_found v a i n o f e lt =
      let s : State = run v.space f.events in
      let h = words v.space f.size f.events f.is_run in
      let e' : object_at s.vm.objects a ≡ Some o =
      ap (λ (w : Vm). object_at w.objects a) f.is ∙ e in
      sym ((h.objects a o e').fields i lt)
      ∙ (ap (λ (z : ℕ). slice_index s.words (z + 2 + i)) (object_at-address s.vm.objects a o e')
      ∙ f.found)

  pub header_found : (v : Vm) (a n : ℕ) (o : Object) → VmFinds v a n
      → object_at v.objects a ≡ Some o → o.header ≡ n
  header_found v a n o f e =
      let s : State = run v.space f.events in
      let h = words v.space f.size f.events f.is_run in
      let e' : object_at s.vm.objects a ≡ Some o =
      ap (λ (w : Vm). object_at w.objects a) f.is ∙ e in
      sym (h.objects a o e').header
      ∙ (ap (λ (z : ℕ). slice_index s.words z) (object_at-address s.vm.objects a o e') ∙ f.found)

  -- a head lies between the one last loaded and the length of the log
  pub head_found : Always Kept → Always TakenBegins → (v : Vm) (slot n : ℕ) → slot < 32
      → VmFinds v (2 + slot) n
      → (slice_index v.heads slot ≤ n) × (n ≤ length (log_of v.logs slot))
  head_found kept taken v slot n lt f =
      let s : State = run v.space f.events in
      let word = (words v.space f.size f.events f.is_run).heads slot lt in
      let found = f.found in
      let seen = (kept v.space f.size f.events f.is_run).both.heads slot lt in
      let begins = taken v.space f.size f.events f.is_run slot lt in
      let long : length (log_of s.gc.taken slot) ≤ length (log_of s.vm.logs slot) = let e =
      ap length begins.1 in let l = length-append (log_of s.gc.taken slot) begins.0 in
      omega arith in
      let heads : slice_index s.vm.heads slot ≡ slice_index v.heads slot =
      ap (λ (w : Vm). slice_index w.heads slot) f.is in
      let logs : length (log_of s.vm.logs slot) ≡ length (log_of v.logs slot) =
      ap (λ (w : Vm). length (log_of w.logs slot)) f.is in
      (omega arith, omega arith)
