-- Logs that are closed and drained, roots that are handed over, and the flip.
use Rattle.std.proofs.Common.{◌≡◌, ℕ, ◌+◌, ◌<◌, ◌≤◌, true, false, nat_eq, List, [], ◌∷◌, ◌++◌, length, refl}
use Rattle.std.proofs.Common.{sym, ap, ◌∙◌, inl, inr, subst, arith, length-append, Bool, suc, replicate}
use Rattle.std.specs.Prelude.{if◌then◌else◌}
use Rattle.std.specs.List.{list_all}
use Rattle.std.proofs.lemmas.List.{ext_get_or, get_or-replicate, length-map}
use Rattle.ps_word.specs.declared.words.Word.{Word}
use Rattle.ps_word.specs.Format.{address_in}
use Rattle.ps_word.specs.Readers.{is_reference}
use Rattle.ps_record.specs.declared.Record.{Record}
use Rattle.ps_core_machine.specs.declared.events.Event.{Event}
use Rattle.ps_core_machine.specs.declared.events.Event.TheVariants.{CycleStore, HandOver}
use Rattle.ps_core_machine.specs.declared.events.Vm.{Vm}
use Rattle.ps_core_machine.specs.declared.events.Gc.{Gc}
use Rattle.ps_core_machine.specs.Objects.{among, addresses_named, log_of, closes}
use Rattle.ps_core_machine.specs.Conditions.{AllClosed, VmMay, GcMay, Permitted}
use Rattle.ps_core_machine.specs.Steps.{State, is_open, knows_open, other_base, vm_after, gc_after}
use Rattle.ps_core_laws.specs.Laws.{IsBeginningOf}
use Rattle.ps_core_laws.specs.Runs.{run}
use Rattle.ps_core_laws.proofs.HeapTests.{bool_cases, and_parts, and_both, or_left, or_right, eq_true, number_is}
use Rattle.ps_core_laws.proofs.HeapTests.{number_not, same_number}
use Rattle.ps_core_laws.proofs.Kept.{good}
use Rattle.ps_core_laws.proofs.Lookups.{among-append}
use Rattle.ps_core_laws.proofs.KeptFacts.{kept}
use Rattle.ps_core_laws.proofs.LawFacts.{pairs_hold, carries_so, flips_so}
use Rattle.ps_core_laws.specs.Memory.{heap_of, grants_of, is_shut}
use Rattle.ps_core_laws.specs.Stores.{number_of, numbers}
use Rattle.ps_core_laws.specs.Flips.{AfterFlip, replica_at, as_words}
use Rattle.ps_core_laws.specs.Moves.{IsMovedTo}
use Rattle.ps_core_laws.proofs.Moved.{moves-memory}
use Rattle.ps_core_laws.proofs.FlipFacts.{opens-logs}
use Rattle.ps_table.specs.Shown.{BothRun}
use Rattle.ps_table.proofs.Facts.{taken}
use Rattle.ps_table.specs.declared.plays.View.{View}
use Rattle.ps_core_laws.specs.Looks.{OnlyLooks, is_look_or_flip}
use Rattle.ps_table.specs.Events.{gc_did_all, root_looks}
use Rattle.ps_table.proofs.Looking.{more_looks, no_looks}
use Rattle.ps_table.specs.Shown.{gc_did}
use Rattle.ps_gc.specs.declared.taken.Taken.{Taken}
use Rattle.ps_gc.specs.Events.{AreKnown}
use Rattle.ps_gc.specs.Keeps.{CopiesAre, TakesAre, Takes}

-- ---- closed logs

pub shut_closes : (v : Vm) (slot : ℕ) → is_shut v slot ≡ true
    → closes (log_of v.logs slot) ≡ v.epoch
shut_closes v slot is = number_is (closes (log_of v.logs slot)) v.epoch
    (and_parts (is_open v) (nat_eq (closes (log_of v.logs slot)) v.epoch) is).1

pub closes_shut : (v : Vm) (slot : ℕ) → is_open v ≡ true → closes (log_of v.logs slot) ≡ v.epoch
    → is_shut v slot ≡ true
closes_shut v slot opened e = and_both (is_open v) (nat_eq (closes (log_of v.logs slot)) v.epoch)
    opened (eq_true (closes (log_of v.logs slot)) v.epoch e)

-- ---- what a run of both parts tells

pub meets : (v : Vm) (g : Gc) → BothRun v g → (v.space ≡ g.space) × (v.cycle ≡ g.cycle)
meets v g r =
    let both = (kept v.space r.size r.events r.is_run).both in
    subst (λ (x : Vm × Gc). (x.0.space ≡ x.1.space) × (x.0.cycle ≡ x.1.cycle))
    (λ i. (r.vm_is i, r.gc_is i)) (sym both.space, sym both.cycle)

append_none : (xs : List Record) → xs ++ [] ≡ xs
append_none [] = refl
append_none (x ∷ xs) = ap (λ (l : List Record). x ∷ l) (append_none xs)

-- a beginning that is as long is all
whole : (xs ys : List Record) → IsBeginningOf xs ys → length xs ≡ length ys → xs ≡ ys
whole xs ys ([], e) same = sym (e ∙ append_none xs)
whole xs ys (r ∷ rest, e) same =
    let long = ap length e in let sum = length-append xs (r ∷ rest) in absurd (omega arith)

-- what was taken is what was logged, where it is as long
pub all_drained : (v : Vm) (g : Gc) → BothRun v g → ((slot : ℕ) → slot < 32
    → length (log_of g.taken slot) ≡ length (log_of v.logs slot)) → g.taken ≡ v.logs
all_drained v g r same =
    let k = kept v.space r.size r.events r.is_run in
    let begins = taken v.space r.size r.events r.is_run in
    let wide : length g.taken ≡ 32 = ap (λ (x : Gc). length x.taken) (sym r.gc_is)
    ∙ k.collector.taken in
    let wide_logs : length v.logs ≡ 32 = ap (λ (x : Vm). length x.logs) (sym r.vm_is)
    ∙ k.mutator.logs.logs in
    ext_get_or [] g.taken v.logs (wide ∙ sym wide_logs)
    (λ slot lt. whole (log_of g.taken slot) (log_of v.logs slot)
    (subst (λ (x : Vm × Gc). IsBeginningOf (log_of x.1.taken slot) (log_of x.0.logs slot))
    (λ i. (r.vm_is i, r.gc_is i)) (begins slot (omega arith))) (same slot (omega arith)))

-- ---- roots that are handed over

pub roots_known : (g : Gc) (ws : List ℕ)
    → ((a : ℕ) → among (addresses_named ws) a ≡ true → among g.known a ≡ true) → AreKnown g ws
roots_known g [] all = tt
roots_known g (w ∷ ws) all = (
  λ ref. all (address_in w) (rw ref (or_left (nat_eq (address_in w) (address_in w))
      (among (addresses_named ws) (address_in w)) (same_number (address_in w)))),
  roots_known g ws (λ a is. all a (elim (bool_cases (is_reference w)) [
    | inl t ↦ rw t (or_right (nat_eq a (address_in w)) (among (addresses_named ws) a) is)
    | inr f ↦ rw f is
  ])),
)

-- the collector's part after roots were handed over
module _ (v : Vm) (g h : Gc) (word : ℕ) (ws : List ℕ) (r : BothRun v g)
    (is : h ≡ gc_after g v (HandOver word ws)) where
  pub handed_knows : knows_open h ≡ is_open v
  handed_knows = ap (λ (x : Gc). nat_eq x.epoch (x.cycle + 1)) is
      ∙ ap (λ (n : ℕ). nat_eq v.epoch (n + 1)) (sym (meets v g r).1)

  pub handed_known : is_open v ≡ true → AreKnown h ws
  handed_known opened =
      let known : h.known ≡ addresses_named ws ++ g.known =
      ap (λ (x : Gc). x.known) is ∙ rw opened refl in
      roots_known h ws (λ a is. ap (λ (l : List ℕ). among l a) known
      ∙ (among-append (addresses_named ws) g.known a
      ∙ or_left (among (addresses_named ws) a) (among g.known a) is))

-- ---- the flip

module _ (v : Vm) (g : Gc) (roots : List ℕ) (r : BothRun v g) (vm : VmMay v (CycleStore roots))
    (gc : GcMay g (CycleStore roots)) (drained : g.taken ≡ v.logs) where
  abbrev s : State
  s = run v.space r.events

  permitted : Permitted s (CycleStore roots)
  permitted = record {
    vm = subst (λ (x : Vm). VmMay x (CycleStore roots)) (sym r.vm_is) vm;
    gc = subst (λ (x : Gc). GcMay x (CycleStore roots)) (sym r.gc_is) gc;
    both = ap (λ (x : Gc). x.taken) r.gc_is ∙ (drained ∙ ap (λ (x : Vm). x.logs) (sym r.vm_is));
  }

  pub flip_moves : IsMovedTo (heap_of v) (heap_of (vm_after v g (CycleStore roots)))
      (replica_at g.pairs)
  flip_moves = subst (λ (x : Vm × Gc). IsMovedTo (heap_of x.0)
      (heap_of (vm_after x.0 x.1 (CycleStore roots))) (replica_at x.1.pairs))
      (λ i. (r.vm_is i, r.gc_is i))
      (moves-memory s roots (kept v.space r.size r.events r.is_run)
      (kept v.space r.size (CycleStore roots ∷ r.events) (r.is_run, permitted)).mutator
      (pairs_hold v.space r.size s (good v.space r.size r.events r.is_run))
      (carries_so v.space r.size s (good v.space r.size r.events r.is_run) roots permitted)
      (flips_so v.space r.size s (good v.space r.size r.events r.is_run) roots permitted))

  pub flip_grants : AfterFlip (grants_of v) (grants_of (vm_after v g (CycleStore roots)))
      (heap_of (vm_after v g (CycleStore roots)))
  flip_grants = subst (λ (x : Vm × Gc). AfterFlip (grants_of x.0)
      (grants_of (vm_after x.0 x.1 (CycleStore roots)))
      (heap_of (vm_after x.0 x.1 (CycleStore roots))))
      (λ i. (r.vm_is i, r.gc_is i))
      (opens-logs s roots permitted.vm.0
      (kept v.space r.size (CycleStore roots ∷ r.events) (r.is_run, permitted)).mutator)

-- the collector knows the epoch then, and that the cycle of that number is ended
pub flip_knows : (v : Vm) (g : Gc) (roots : List ℕ) → BothRun v g → is_open v ≡ true
    → knows_open (gc_after g v (CycleStore roots)) ≡ false
flip_knows v g roots r opened =
    let epoch = number_is v.epoch (v.cycle + 1) opened in
    let same = (meets v g r).1 in
    number_not v.epoch (g.cycle + 1 + 1) (λ e. absurd (omega arith))

-- words as numbers, and back
pub as_they_are : (ws : List Word) → as_words (numbers ws) ≡ ws
as_they_are [] = refl
as_they_are (w ∷ ws) = ap (λ (l : List Word). w ∷ l) (as_they_are ws)

-- ---- which events

looks_did : (m : View) (es : List Event) → list_all is_look_or_flip es ≡ true
    → OnlyLooks (length es) m.gc_events (gc_did_all m es).gc_events
looks_did m [] all = no_looks 0 m.gc_events
looks_did m (e ∷ es) all =
    let parts = and_parts (is_look_or_flip e) (list_all is_look_or_flip es) all in
    more_looks 1 (length es) (suc (length es)) m.gc_events (e ∷ m.gc_events)
    (gc_did_all (gc_did m e) es).gc_events (omega arith)
    (record {
      more = e ∷ [];
      is = refl;
      looks = and_both (is_look_or_flip e) true parts.0 refl;
      few = omega arith;
    })
    (looks_did (gc_did m e) es parts.1)

looks_few : (g : Gc) (ws : List ℕ) → (list_all is_look_or_flip (root_looks g ws) ≡ true)
    × (length (root_looks g ws) ≤ length ws)
looks_few g [] = (refl, omega arith)
looks_few g (w ∷ ws) =
    let rest = looks_few g ws in let few = rest.1 in
    elim (bool_cases (is_reference w)) [
      | inl t ↦ rw t (rest.0, omega (arith, few))
      | inr f ↦ rw f (rest.0, omega (arith, few))
    ]

-- a flip of so many words makes at most one look for each, and the flip
pub flip_looks : (m : View) (g : Gc) (ws : List Word)
    → OnlyLooks (length ws + 1) m.gc_events (CycleStore (numbers ws)
    ∷ (gc_did_all m (root_looks g (numbers ws))).gc_events)
flip_looks m g ws =
    let few = looks_few g (numbers ws) in
    let less = few.1 in
    let same : length (numbers ws) ≡ length ws = length-map ws number_of in
    more_looks (length (root_looks g (numbers ws))) 1 (length ws + 1) m.gc_events
    (gc_did_all m (root_looks g (numbers ws))).gc_events _ (omega (arith, less, same))
    (looks_did m (root_looks g (numbers ws)) few.0)
    (record { more = CycleStore (numbers ws) ∷ []; is = refl; looks = refl; few = omega arith })

-- ---- the collector's numbers after it

pub copies_none : (space cycle low : ℕ) → low ≡ other_base space cycle
    → CopiesAre space cycle [] (record {
      space = space;
      cycle = cycle;
      end = low;
      at = low;
      field = 0;
    })
copies_none space cycle low is = record {
  space_is = refl;
  cycle_is = refl;
  end_is = is;
  behind = λ a p e. absurd (cc);
  at_is = λ ne. absurd (ne refl);
  at_end = λ e. refl;
  within = λ a p e. absurd (cc);
  marked = λ a p e. absurd (cc);
}

-- each log has one close more than the cycle's number, and the cycle's number grows by one
pub takes_turned : (v : Vm) (g : Gc) (k : Taken) → Takes g k → AllClosed v → g.taken ≡ v.logs
    → v.epoch ≡ g.cycle + 1
    → TakesAre (g.cycle + 1) g.taken (record k { closed = replicate 32 false })
takes_turned v g k t closed drained epoch = record {
  wide = t.wide;
  wide_closed = refl;
  numbers_are = t.numbers_are;
  closed_are = λ slot lt.
      let log = ap (λ (l : List (List Record)). closes (log_of l slot)) drained in
      let one = closed slot lt in
      let none : g.cycle + 1 ≡ g.cycle + 1 + 0 = omega arith in
      log ∙ (one ∙ (epoch ∙ (none ∙ sym (ap (λ (b : Bool). g.cycle + 1 + (if b then 1 else 0))
      (get_or-replicate 32 slot false false lt)))));
}
