-- What the collector's seat knows of its own part, since it is that of a run.
use Rattle.std.proofs.Common.{◌≡◌, ◌^◌, ℕ, ◌+◌, ◌*◌, ◌<◌, ◌≤◌, true, length, Some, refl, sym, ap, ◌∙◌, subst, arith}
use Rattle.std.specs.Prelude.{not}
use Rattle.std.proofs.Common.{nat_eq}
use native.Mathlib.Decide.{ℕ_discrete}
use Rattle.ps_core_laws.proofs.HeapTests.{eq_true, number_not}
use Rattle.std.proofs.Math.Logic.{∥∥₁_elim}
use Rattle.std.proofs.Props.{props}
use Rattle.ps_word.specs.Headers.{forward_address_in, forward_packed}
use Rattle.ps_word.proofs.HeaderPlaces.{forward_address_in-packed}
use Rattle.ps_core_machine.specs.declared.events.Event.TheVariants.{ForwardStore}
use Rattle.ps_core_machine.specs.declared.events.Gc.{Gc}
use Rattle.ps_core_machine.specs.declared.events.Pair.{Pair}
use Rattle.ps_core_machine.specs.declared.events.Carried.{Carried}
use Rattle.ps_core_machine.specs.declared.events.Half.{Half}
use Rattle.ps_record.specs.Format.{slots}
use Rattle.ps_core_machine.specs.Objects.{among, pair_of, seen_at, end_of}
use Rattle.ps_core_machine.specs.Steps.{State, table_size, other_base, replica_of, forwarding}
use Rattle.ps_core_machine.specs.Conditions.{GcMay, IsPairField, IsReady}
use Rattle.ps_core_laws.specs.Runs.{run, IsSpace}
use Rattle.ps_core_laws.proofs.Bases.{spaces_wide, some_match}
use Rattle.ps_core_laws.proofs.KeptFacts.{kept}
use Rattle.ps_table.specs.Shown.{GcRuns, GcFinds}
use Rattle.ps_table.proofs.Facts.{words}
use Rattle.ps_table.proofs.Originals.{Lawful, lawful, original_inside, replica_inside}

-- what the steps of the seat rest on
pub record GcFacts (g : Gc) : Type 0 where
  pub size : IsSpace g.space
  pub epoch_small : g.epoch < 2 ^ 32
  pub known : (a : ℕ) → among g.known a ≡ true → a + 2 ≤ table_size g.space
  pub originals : (a : ℕ) (p : Pair) → pair_of g.pairs a ≡ Some p
      → a + 2 + length p.fields ≤ table_size g.space
  pub replicas_in : (a : ℕ) (p : Pair) → pair_of g.pairs a ≡ Some p
      → end_of p ≤ table_size g.space
  pub copying : (k : Carried) → g.copying ≡ Some k
      → replica_of (pair_of g.pairs k.address) + 2 + k.field < table_size g.space
  pub taking : (h : Half) → g.taking ≡ Some h → h.slot < slots

state_facts : (s : State) → Lawful s → GcFacts s.gc
state_facts s k =
    let c = k.kept.collector in
    record {
      size = c.size;
      epoch_small = c.cycles.small;
      known = λ a is.
          let hi = (c.known a is).1 in let wide = (spaces_wide s.gc.space s.gc.cycle).0 in
          omega arith;
      originals = original_inside s k;
      replicas_in = λ a p at. (replica_inside s k a p at).1;
      copying = λ w e.
          let m = some_match (λ (p : Pair). w.field < length p.fields)
          (pair_of s.gc.pairs w.address) (c.copying w e) in
          let lt = m.2 in
          let top = (replica_inside s k w.address m.0 m.1).1 in
          let there = ap replica_of m.1 in
          omega arith;
      taking = λ h is. (c.taking h is).0;
    }

runs_know : (g : Gc) → GcRuns g → GcFacts g
runs_know g r = subst GcFacts r.is
    (state_facts (run g.space r.events) (lawful g.space r.size r.events r.is_run))

pub gc_knows : (g : Gc) → ∥ GcRuns g ∥₁ → GcFacts g
gc_knows g t = ∥∥₁_elim t (hlevel props) (runs_know g)

-- ---- where a field lies

pub field_place : (g : Gc) (a i : ℕ) → ∥ GcRuns g ∥₁ → IsPairField g a i
    → a + 2 + i < table_size g.space
field_place g a i r is =
    let m = some_match (λ (p : Pair). i < length p.fields) (pair_of g.pairs a) is in
    let lt = m.2 in let top = (gc_knows g r).originals a m.0 m.1 in
    omega arith

pub copy_place : (g : Gc) (k : Carried) → ∥ GcRuns g ∥₁ → g.copying ≡ Some k
    → replica_of (pair_of g.pairs k.address) + 2 + k.field < table_size g.space
copy_place g k r is = (gc_knows g r).copying k is

-- ---- what a control word that is found tells

pub cycle_found : (g : Gc) (n : ℕ) → GcFinds g 0 n → n ≡ g.cycle
cycle_found g n f =
    let w = words g.space f.size f.events f.is_run in
    let k = kept g.space f.size f.events f.is_run in
    sym f.found ∙ (w.cycle ∙ (sym k.both.cycle ∙ ap (λ (h : Gc). h.cycle) f.is))

pub epoch_found : (g : Gc) (n : ℕ) → GcFinds g 1 n → (g.cycle ≤ n) × (n ≤ g.cycle + 1)
epoch_found g n f =
    let w = words g.space f.size f.events f.is_run in
    let k = kept g.space f.size f.events f.is_run in
    let is = sym f.found ∙ w.epoch in
    let low = k.mutator.cycles.low in let high = k.mutator.cycles.high in
    let same = sym k.both.cycle ∙ ap (λ (h : Gc). h.cycle) f.is in
    (omega arith, omega arith)

pub other_inside : (g : Gc) (place : ℕ) → other_base g.space g.cycle ≤ place → place < other_base
    g.space g.cycle + g.space → place < table_size g.space
other_inside g place lo hi = let wide = (spaces_wide g.space g.cycle).1 in omega arith

pub forward_inside : (g : Gc) (a c : ℕ) → ∥ GcRuns g ∥₁ → GcMay g (ForwardStore a c)
    → a + 1 < table_size g.space
forward_inside g a c r may = let k = (gc_knows g r).known a may.known in omega arith

pub forward_small : (g : Gc) (a c : ℕ) → ∥ GcRuns g ∥₁ → GcMay g (ForwardStore a c)
    → (g.epoch < 2 ^ 32) × (c < 2 ^ 24)
forward_small g a c r may =
    let k = gc_knows g r in
    let m = some_match (IsReady g a c) (seen_at g.headers a) may.headed in
    let hi = m.2.high in let wide = (spaces_wide g.space g.cycle).1 in let size = k.size.1 in
    (k.epoch_small, omega arith)

pub address_back : (epoch c : ℕ) → epoch < 2 ^ 32 → c < 2 ^ 24 → forward_address_in
    (forwarding epoch c) ≡ c
address_back epoch c e small = forward_address_in-packed (record { cycle = epoch; address = c })
    (record { cycle = e; address = small })

pub packed_is : (epoch c : ℕ) → epoch * 16777216 + c ≡ forwarding epoch c
unfolding forward_packed
packed_is epoch c = refl

-- the epoch word differs from the cycle word just in a cycle
pub open_told : (n m e c : ℕ) → e ≡ n → c ≡ m → m ≤ n → n ≤ m + 1
    → not (nat_eq n m) ≡ nat_eq e (c + 1)
open_told n m e c is_n is_m low high = elim (ℕ_discrete n m) as
    (λ _. not (nat_eq n m) ≡ nat_eq e (c + 1)) [
      | yes is ↦ let t = eq_true n m is in
          let f = number_not e (c + 1) (λ x. omega arith) in rw (t, f) refl
      | no ne ↦ let f = number_not n m ne in let t = eq_true e (c + 1) (omega arith) in
          rw (f, t) refl
    ]
