-- What the machine's roots reach is what they reach in the memory of the mutator's part.
use Rattle.std.proofs.Common.{◌≡◌, ◌≢◌, ℕ, zero, suc, ◌<◌, ◌≤◌, Bool, true, false, nat_eq, List, [], ◌∷◌, length, map}
use Rattle.std.proofs.Common.{Some, None, Option, option_map, refl, sym, ap, ◌∙◌, subst, inl, inr, arith}
use Rattle.std.specs.Prelude.{slice_index, not, ◌&&◌, ◌++◌}
use Rattle.std.specs.List.{Contains}
use Rattle.ps_language.specs.declared.kinds.Kind.TheVariants.{Text, Body}
use Rattle.ps_word.specs.Format.{address_in}
use Rattle.ps_word.specs.Headers.{kind_in}
use Rattle.ps_word.specs.Readers.{is_reference}
use Rattle.ps_word.proofs.Places.{by_type}
use Rattle.std.proofs.lemmas.Bool.Decides.{nat_tests}
use Rattle.ps_mem.specs.Heap as memory
use Rattle.ps_mem.specs.Objects.{kind_of_number, word_of}
use Rattle.ps_core_machine.specs.declared.events.Event.TheVariants.{CycleStore}
use Rattle.ps_core_machine.specs.declared.events.Pair.{Pair}
use Rattle.ps_core_machine.specs.declared.events.Vm.{Vm}
use Rattle.ps_core_machine.specs.declared.events.Gc.{Gc}
use Rattle.ps_core_machine.specs.Objects.{among, addresses_named, pair_of}
use Rattle.ps_core_machine.specs.Conditions.{VmMay, GcMay, Permitted}
use Rattle.ps_core_machine.specs.Steps.{State, is_open}
use Rattle.ps_core_laws.specs.Reach.{Reach, NameTheSame}
use Rattle.ps_core_laws.specs.Reach.Reach.{root, through}
use Rattle.ps_core_laws.specs.Runs.{run}
use Rattle.ps_core_laws.proofs.HeapTests.{bool_cases, or_parts, clash, number_is}
use Rattle.ps_core_laws.proofs.Reached.{exact, noted}
use Rattle.ps_core_laws.specs.Memory.{standing, heap_of}
use Rattle.ps_core_laws.specs.Flips.{replica_at, as_words}
use Rattle.ps_table.specs.Shown.{BothRun}
use Rattle.ps_core_laws.specs.Reached.{IsReached, by_root, by_field, MovesReached}

-- ---- words among words

-- what a list names is named by one of its words
record NamedBy (words : List ℕ) (a : ℕ) : Type 0 where
  word : ℕ
  there : Contains (as_words words) (word_of word)
  reference : is_reference word ≡ true
  named : address_in word ≡ a

named_more : (w a : ℕ) (ws : List ℕ) → NamedBy ws a → NamedBy (w ∷ ws) a
named_more w a ws n = record {
  word = n.word;
  there = (let low = n.there.1 in (suc n.there.0, omega (arith, low), n.there.2));
  reference = n.reference;
  named = n.named;
}

named_by_one : (ws : List ℕ) (a : ℕ) → among (addresses_named ws) a ≡ true → NamedBy ws a
named_by_one [] a is = clash false is refl
named_by_one (w ∷ ws) a is = elim (bool_cases (is_reference w)) [
  | inl holds ↦ (let is' = rw holds at is in
      elim (or_parts (nat_eq a (address_in w)) (among (addresses_named ws) a) is') [
        | inl t ↦ record {
          word = w;
          there = (0, omega arith, refl);
          reference = holds;
          named = sym (number_is a (address_in w) t);
        }
        | inr f ↦ named_more w a ws (named_by_one ws a f)
      ])
  | inr plain ↦ (let is' = rw plain at is in named_more w a ws (named_by_one ws a is'))
]

contains_at : (xs : List ℕ) (i : ℕ) → i < length xs
    → Contains (map word_of xs) (word_of (slice_index xs i))
contains_at [] i low = absurd (omega (arith, low))
contains_at (x ∷ xs) zero low = (0, omega arith, refl)
contains_at (x ∷ xs) (suc i) low =
    let rest = contains_at xs i (omega (arith, low)) in
    let within = rest.1 in
    (suc rest.0, omega (arith, within), rest.2)

-- what holds values is no string
past_kinds : (t : ℕ) → 12 ≤ t → kind_of_number t ≡ Body
past_kinds t h =
    let n6 : nat_eq t 6 ≡ false = grind (arith, nat_tests) in
    let n7 : nat_eq t 7 ≡ false = grind (arith, nat_tests) in
    let n8 : nat_eq t 8 ≡ false = grind (arith, nat_tests) in
    let n9 : nat_eq t 9 ≡ false = grind (arith, nat_tests) in
    let n10 : nat_eq t 10 ≡ false = grind (arith, nat_tests) in
    rw (n6, n7, n8, n9, n10) refl

no_text : (n : ℕ) → not (nat_eq n 7) ≡ true → kind_of_number n ≢ Text
no_text = by_type (λ n. not (nat_eq n 7) ≡ true → kind_of_number n ≢ Text)
    (λ h e. cc) (λ h e. cc) (λ h e. cc) (λ h e. cc) (λ h e. cc) (λ h e. cc) (λ h e. cc)
    (λ h e. cc) (λ h e. cc) (λ h e. cc) (λ h e. cc) (λ h e. cc)
    (λ t past h e. let body : Body ≡ Text = sym (past_kinds t past) ∙ e in cc)

module _ (v : Vm) (roots : List ℕ) where
  pub reached_there : (a : ℕ) → Reach v.objects roots a → IsReached (heap_of v) (as_words roots) a
  unfolding memory.object_at
  reached_there a (root b is) =
      let n = named_by_one roots b is in
      subst (IsReached (heap_of v) (as_words roots)) n.named
      (by_root (word_of n.word) n.there n.reference)
  reached_there b (through a i o reach at refers) =
      by_field a (standing o) (word_of (slice_index o.fields i)) (reached_there a reach)
      (ap (option_map standing) at) (no_text (kind_in o.header) refers.value)
      (contains_at o.fields i refers.within) refers.reference

-- ---- a cycle in which nothing was stored

none_before : (x : Option Pair) → option_map (λ (p : Pair). p.replica) x ≢ None → x ≢ None
none_before None some = absurd (some refl)
none_before (Some p) some = λ e. cc

module _ (v : Vm) (g : Gc) (roots : List ℕ) (r : BothRun v g) (vm : VmMay v (CycleStore roots))
    (gc : GcMay g (CycleStore roots)) (drained : g.taken ≡ v.logs) where
  abbrev s : State
  s = run v.space r.events

  permitted : Permitted s (CycleStore roots)
  permitted = record {
    vm = subst (λ (x : Vm). VmMay x (CycleStore roots)) (sym r.vm_is) vm;
    gc = subst (λ (x : Gc). GcMay x (CycleStore roots)) (sym r.gc_is) gc;
    both = ap (λ (x : Gc). x.taken) r.gc_is ∙ (drained ∙ ap (λ (x : Vm). x.logs) (sym r.vm_is));
  }

  has_reached : v.stored ≡ false → NameTheSame g.handed roots → (a : ℕ)
      → pair_of g.pairs a ≢ None → Reach v.objects roots a
  has_reached = subst (λ (x : Vm × Gc). x.0.stored ≡ false
      → NameTheSame x.1.handed roots → (a : ℕ) → pair_of x.1.pairs a ≢ None
      → Reach x.0.objects roots a) (λ i. (r.vm_is i, r.gc_is i))
      (λ none same a.
      let n = noted v.space r.size r.events r.is_run in
      (exact v.space r.size r.events r.is_run roots permitted (sym n.stored ∙ none)
      (λ b. ap (λ (xs : List ℕ). among (addresses_named xs) b) (sym (n.handed permitted.vm.0))
      ∙ same b) a).0)

  pub moves_reached : v.stored ≡ false → NameTheSame g.handed roots
      → MovesReached (heap_of v) (replica_at g.pairs) (as_words roots)
  moves_reached none same a some =
      reached_there v roots a (has_reached none same a (none_before (pair_of g.pairs a) some))

-- outside a cycle no roots are noted
pub none_handed : (v : Vm) (g : Gc) → BothRun v g → is_open v ≡ false → g.handed ≡ []
none_handed v g r shut = subst (λ (x : Vm × Gc). is_open x.0 ≡ false → x.1.handed ≡ [])
    (λ i. (r.vm_is i, r.gc_is i)) (noted v.space r.size r.events r.is_run).shut shut

pub shut_by : (opened other : Bool) → (not opened && other) ≡ true → opened ≡ false
shut_by true other both = absurd (cc)
shut_by false other both = refl

append-none : (xs : List ℕ) → xs ++ [] ≡ xs
append-none [] = refl
append-none (x ∷ xs) = ap (λ (ys : List ℕ). x ∷ ys) (append-none xs)

-- roots name the same where none were handed over before
pub names_alone : (xs handed : List ℕ) → handed ≡ [] → NameTheSame (xs ++ handed) xs
names_alone xs handed none a =
    ap (λ (ws : List ℕ). among (addresses_named ws) a)
    (ap (λ (ws : List ℕ). xs ++ ws) none ∙ append-none xs)
