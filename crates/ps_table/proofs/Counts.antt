-- The heads that are loaded one after another.
use Rattle.std.proofs.Common.{◌≡◌, ℕ, zero, suc, ◌+◌, ◌<◌, List, [], ◌∷◌, ◌++◌, length, take, refl, sym, ap, ◌∙◌, arith}
use Rattle.std.proofs.Common.{length-take}
use Rattle.std.specs.Prelude.{slice_set}
use Rattle.ps_core_machine.specs.declared.events.Event.{Event}
use Rattle.ps_core_machine.specs.declared.events.Event.TheVariants.{VmLoad}
use Rattle.ps_core_machine.specs.declared.events.Vm.{Vm}
use Rattle.ps_core_laws.specs.Shown.{VmFinds}
use Rattle.ps_table.specs.declared.plays.View.{View}
use Rattle.ps_table.specs.Events.{did_all, head_loads}
use Rattle.ps_table.specs.Shown.{vm_did}
use Rattle.ps_table.proofs.Facts.{words}
use Rattle.ps_table.proofs.Storing.{did_more}

-- the heads before a slot and the one that is loaded next
take_set : (heads : List ℕ) (slot n : ℕ) → slot < length heads
    → take (suc slot) (slice_set heads slot n) ≡ take slot heads ++ n ∷ []
take_set [] slot n lt = absurd (omega arith)
take_set (x ∷ heads) zero n lt = refl
take_set (x ∷ heads) (suc slot) n lt =
    ap (λ (l : List ℕ). x ∷ l) (take_set heads slot n (omega arith))

loads_last : (slot : ℕ) (ns : List ℕ) (n : ℕ)
    → head_loads slot (ns ++ n ∷ []) ≡ head_loads slot ns ++ VmLoad (2 + (slot + length ns)) n ∷ []
loads_last slot [] n =
    ap (λ (k : ℕ). VmLoad (2 + k) n ∷ []) (let z : slot ≡ slot + 0 = omega arith in z)
loads_last slot (x ∷ ns) n = ap (λ (l : List Event). VmLoad (2 + slot) x ∷ l)
    (loads_last (slot + 1) ns n
    ∙ ap (λ (k : ℕ). head_loads (slot + 1) ns ++ VmLoad (2 + k) n ∷ [])
    (let z : slot + 1 + length ns ≡ slot + suc (length ns) = omega arith in z))

pub one_more_head : (m : View) (flips : ℕ) (heads : List ℕ) (slot n : ℕ) → slot < length heads
    → vm_did (did_all m (VmLoad 0 flips ∷ head_loads 0 (take slot heads))) (VmLoad (2 + slot) n)
    ≡ did_all m (VmLoad 0 flips ∷ head_loads 0 (take (slot + 1) (slice_set heads slot n)))
one_more_head m flips heads slot n lt =
    let first : View = vm_did m (VmLoad 0 flips) in
    let count = length-take slot heads in
    let there : slot ≡ 0 + length (take slot heads) = omega arith in
    ap (λ (k : ℕ). vm_did (did_all first (head_loads 0 (take slot heads))) (VmLoad (2 + k) n)) there
    ∙ (sym (did_more first (head_loads 0 (take slot heads))
    (VmLoad (2 + (0 + length (take slot heads))) n ∷ []))
    ∙ (ap (did_all first) (sym (loads_last 0 (take slot heads) n))
    ∙ (ap (λ (l : List ℕ). did_all first (head_loads 0 l)) (sym (take_set heads slot n lt))
    ∙ ap (λ (k : ℕ). did_all first (head_loads 0 (take k (slice_set heads slot n))))
    (let z : suc slot ≡ slot + 1 = omega arith in z))))

pub all_heads : (heads : List ℕ) (count : ℕ) → length heads ≡ count → take count heads ≡ heads
all_heads [] zero e = refl
all_heads [] (suc count) e = refl
all_heads (x ∷ heads) zero e = absurd (omega arith)
all_heads (x ∷ heads) (suc count) e =
    ap (λ (l : List ℕ). x ∷ l) (all_heads heads count (omega arith))

-- the cycle word says how many cycles were flipped
pub flips_found : (v : Vm) (n : ℕ) → VmFinds v 0 n → n ≡ v.cycle
flips_found v n f = sym f.found ∙ ((words v.space f.size f.events f.is_run).cycle
    ∙ ap (λ (w : Vm). w.cycle) f.is)
