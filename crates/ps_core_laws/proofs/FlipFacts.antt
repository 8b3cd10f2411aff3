-- What follows of a flip: what the roots reach, numbers, words, grants, and the run.
use Rattle.std.proofs.Common.{◌≡◌, ◌≢◌, ℕ, ◌+◌, true, false, nat_eq, List, [], ◌∷◌, Some, None, Option, refl, sym, ap}
use Rattle.std.proofs.Common.{◌∙◌, subst, inl, inr, arith, is_some}
use Rattle.ps_word.specs.Format.{address_in}
use Rattle.ps_word.specs.Readers.{is_reference}
use Rattle.ps_core_machine.specs.declared.events.Event.{Event}
use Rattle.ps_core_machine.specs.declared.events.Event.TheVariants.{FieldStore, CycleStore}
use Rattle.ps_core_machine.specs.declared.events.Pair.{Pair}
use Rattle.ps_core_machine.specs.declared.events.Vm.{Vm}
use Rattle.ps_core_machine.specs.Objects.{among, addresses_named, pair_of, value_has_replica, values_have_replicas}
use Rattle.ps_core_machine.specs.Conditions.{Permitted}
use Rattle.ps_core_machine.specs.Steps.{State, happens, is_open}
use Rattle.ps_core_laws.specs.Kept.{VmKnows}
use Rattle.ps_core_laws.specs.Reach.{Carries}
use Rattle.ps_core_laws.specs.Reach.Reach.{root, through}
use Rattle.ps_core_laws.specs.Runs.{run, IsRun, IsSpace}
use Rattle.ps_core_laws.proofs.Closes.{stored_only}
use Rattle.ps_core_laws.proofs.HeapTests.{bool_cases, and_parts, or_parts, clash, number_is, number_not}
use Rattle.ps_core_laws.specs.Memory.{heap_of}
use Rattle.ps_core_laws.proofs.Counted.{counted}
use Rattle.ps_core_laws.specs.Shown.{VmRuns}
use Rattle.ps_core_laws.specs.Moves.{IsMovedTo, SameWords, OfMoves, KeepsRoom, KeepsWords}
use Rattle.ps_core_laws.specs.Flips.{flipped, as_words, AtFlip, KeepsNumbers, KeepsReachable, RenamesWords, OpensLogs}
use Rattle.ps_core_laws.proofs.Moved.{renamed-words, have-replicas}

-- ---- what the roots reach

root-has : (pairs : List Pair) (ws : List ℕ) (a : ℕ) → values_have_replicas pairs ws ≡ true
    → among (addresses_named ws) a ≡ true → pair_of pairs a ≢ None
root-has pairs [] a have named = clash false named refl
root-has pairs (w ∷ ws) a have named =
    let parts = and_parts (value_has_replica pairs w) (values_have_replicas pairs ws) have in
    elim (bool_cases (is_reference w)) [
      | inl is ↦ let named' = rw is at named in let here = rw is at parts.0 in
          elim (or_parts (nat_eq a (address_in w)) (among (addresses_named ws) a) named') [
            | inl t ↦ (λ none. clash (is_some (pair_of pairs (address_in w))) here
                (ap (λ n. is_some (pair_of pairs n)) (sym (number_is a (address_in w) t))
                ∙ ap is_some none))
            | inr f ↦ root-has pairs ws a parts.1 f
          ]
      | inr not ↦ let named' = rw not at named in root-has pairs ws a parts.1 named'
    ]

some_pair : (x : Option Pair) → x ≢ None → (p : Pair) × (x ≡ Some p)
some_pair None some = absurd (some refl)
some_pair (Some p) some = (p, refl)

pub keeps-reachable : (s : State) (roots : List ℕ) → values_have_replicas s.gc.pairs roots ≡ true
    → Carries s roots → KeepsReachable s roots
keeps-reachable s roots have carries b (root a named) =
    root-has s.gc.pairs roots a have named
keeps-reachable s roots have carries b (through a i o reach at refers) =
    let p = some_pair (pair_of s.gc.pairs a) (keeps-reachable s roots have carries a reach) in
    carries a i o p.0 at p.1 refers

-- ---- by the laws of moving

module _ (s : State) (roots : List ℕ) (moves : AtFlip IsMovedTo s roots) where
  pub keeps-numbers : OfMoves KeepsRoom → VmKnows s.vm → KeepsNumbers s roots
  keeps-numbers room knows = record {
    next = moves.next;
    space = moves.space;
    used = moves.used;
    room = let less = room _ _ _ moves in let was = counted s.vm knows in
        let is = moves.used in omega (arith, less, was, is);
  }

  pub renames-words : OfMoves KeepsWords → RenamesWords s roots
  renames-words same ws have =
      subst (SameWords (heap_of s.vm) (heap_of (flipped s roots)) (as_words ws))
      (sym (renamed-words s.gc.pairs ws))
      (same _ _ _ moves (as_words ws) (have-replicas s.gc.pairs ws have))

-- ---- what is granted

pub opens-logs : (s : State) (roots : List ℕ) → is_open s.vm ≡ true → VmKnows (flipped s roots)
    → OpensLogs s roots
opens-logs s roots opened knows =
    let epoch = number_is s.vm.epoch (s.vm.cycle + 1) opened in
    let shut : is_open (flipped s roots) ≡ false =
    number_not s.vm.epoch (s.vm.cycle + 1 + 1) (λ e. omega arith) in
    let whole = knows.whole in let tight = knows.tight in
    record {
      fresh = λ a. refl;
      words = omega arith;
      births = refl;
      cycle_open = shut;
      records = λ slot. rw shut refl;
      put = refl;
      closed = λ slot. rw shut refl;
    }

-- ---- a run again

space-stays : (s : State) (e : Event) → (happens s e).vm.space ≡ s.vm.space
space-stays s (FieldStore a i w) = ap (λ (v : Vm). v.space) (stored_only s.vm a i w)
space-stays s _ = refl

space-is : (space : ℕ) (events : List Event) → (run space events).vm.space ≡ space
space-is space [] = refl
space-is space (e ∷ events) = space-stays (run space events) e ∙ space-is space events

pub goes-on : (space : ℕ) → IsSpace space → (events : List Event) → IsRun space events
    → (roots : List ℕ) → Permitted (run space events) (CycleStore roots)
    → VmRuns (flipped (run space events) roots)
goes-on space size events h roots p =
    let longer : List Event = CycleStore roots ∷ events in
    let same : space ≡ (run space longer).vm.space = sym (space-is space longer) in
    record {
      size = subst IsSpace same size;
      events = longer;
      is_run = subst (λ n. IsRun n longer) same (h, p);
      is = subst (λ n. (run n longer).vm ≡ (run space longer).vm) same refl;
    }
