-- What the two seats keep, each by itself.
use Rattle.std.proofs.Common.{◌≡◌, ℕ, ◌+◌, Bool, true, false, List, [], ◌∷◌, ◌++◌, refl, sym, ap, ◌∙◌, inl, inr, subst}
use Rattle.std.specs.Prelude.{if◌then◌else◌}
use Rattle.ps_word.specs.declared.words.Word.{Word}
use Rattle.ps_word.specs.Readers.{is_reference}
use Rattle.ps_core_machine.specs.declared.events.Gc.{Gc}
use Rattle.ps_core_machine.specs.declared.events.Vm.{Vm}
use Rattle.ps_core_machine.specs.declared.events.Event.TheVariants.{VmLoad}
use Rattle.ps_core_laws.proofs.HeapTests.{bool_cases, and_parts, and_both}
use Rattle.ps_core_laws.specs.Memory.{grants_of}
use Rattle.ps_core_laws.specs.Stores.{numbers}
use Rattle.ps_table.specs.declared.plays.View.{View}
use Rattle.ps_table.specs.Events.{did_all, head_loads}
use Rattle.ps_table.specs.Shown.{vm_did}
use Rattle.ps_gc.specs.Events.{IsKnown, AreKnown}
use Rattle.ps_gc.specs.Known.{is_known, are_known}

-- ---- what is known

pub known_is : (g : Gc) (w : Word) → is_known g w ≡ true → IsKnown g w.0
known_is g w is = λ ref. rw ref at is

pub is_known_as : (g : Gc) (w : Word) → IsKnown g w.0 → is_known g w ≡ true
is_known_as g w is = elim (bool_cases (is_reference w.0)) [
  | inl t ↦ rw t (is t)
  | inr f ↦ rw f refl
]

pub all_known : (g : Gc) (ws : List Word) → AreKnown g (numbers ws) → are_known g ws ≡ true
all_known g [] are = refl
all_known g (w ∷ ws) are =
    and_both (is_known g w) (are_known g ws) (is_known_as g w are.0) (all_known g ws are.1)

-- those before the last, and the last
pub known_split : (g : Gc) (ws : List Word) (w : Word) → are_known g (ws ++ w ∷ []) ≡ true
    → (are_known g ws ≡ true) × (is_known g w ≡ true)
known_split g [] w are = (refl, (and_parts (is_known g w) true are).0)
known_split g (x ∷ xs) w are =
    let parts = and_parts (is_known g x) (are_known g (xs ++ w ∷ [])) are in
    let rest = known_split g xs w parts.1 in
    (and_both (is_known g x) (are_known g xs) parts.0 rest.0, rest.1)

pub known_same : (g h : Gc) (ws : List Word) → h.known ≡ g.known → are_known g ws ≡ true
    → are_known h ws ≡ true
known_same g h ws same are = (λ i. are_known (record g { known = same i }) ws) ∙ are

-- words that were put behind none, or weren't
pub known_put : (g : Gc) (none ws : List Word) (put : Bool) → none ≡ [] → are_known g ws ≡ true
    → are_known g (if put then none ++ ws else none) ≡ true
known_put g none ws true is are = ap (λ l. are_known g (l ++ ws)) is ∙ are
known_put g none ws false is are = ap (are_known g) is

-- ---- the mutator's part

-- loads of heads leave cycles and logs
pub heads_only : (m : View) (slot : ℕ) (ns : List ℕ) →
    let v = (did_all m (head_loads slot ns)).vm in v ≡ record m.vm { heads = v.heads }
heads_only m slot [] = refl
heads_only m slot (n ∷ ns) = heads_only (vm_did m (VmLoad (2 + slot) n)) (slot + 1) ns

pub counted_only : (m n : View) (flips : ℕ) (ns : List ℕ)
    → n ≡ did_all m (VmLoad 0 flips ∷ head_loads 0 ns) → n.vm ≡ record m.vm { heads = n.vm.heads }
counted_only m n flips ns did = subst (λ (x : View). x.vm ≡ record m.vm { heads = x.vm.heads })
    (sym did) (heads_only (vm_did m (VmLoad 0 flips)) 0 ns)

pub counted_grants : (v w : Vm) → w ≡ record v { heads = w.heads }
    → grants_of w ≡ record (grants_of v) { records = (grants_of w).records }
counted_grants v w only =
    subst (λ (x : Vm). grants_of x ≡ record (grants_of v) { records = (grants_of x).records })
    (sym only) refl
