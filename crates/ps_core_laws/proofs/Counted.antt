-- What is used is the words of all that stands.
use Rattle.std.proofs.Common.{◌≡◌, ◌≢◌, ◌^◌, ℕ, zero, suc, ◌+◌, ◌<◌, ◌≤◌, List, [], ◌∷◌, length, Some, None, Option}
use Rattle.std.proofs.Common.{refl, sym, ap, ◌∙◌, arith}
use Rattle.std.specs.List.{sum_by}
use Rattle.std.specs.Option.{option_map}
use Rattle.std.proofs.lemmas.List.Sums.{sum_by-cons}
use native.Mathlib.Decide.{ℕ_discrete}
use Rattle.ps_mem.specs.Heap.{Standing, words_below, standing_words}
use Rattle.ps_mem.specs.Heap as memory
use Rattle.ps_core_machine.specs.declared.events.Object.{Object}
use Rattle.ps_core_machine.specs.declared.events.Vm.{Vm}
use Rattle.ps_core_machine.specs.Objects.{object_at}
use Rattle.ps_core_laws.specs.Kept.{VmKnows}
use Rattle.ps_core_laws.specs.Places.{AreDistinct, size_of}
use Rattle.ps_core_laws.proofs.HeapTests.{eq_true, number_not}
use Rattle.ps_core_laws.specs.Memory.{standing}
use Rattle.ps_core_laws.specs.MemoryLaws.{IsCounted}
use Rattle.ps_core_laws.proofs.Facts.{facts}
use Rattle.ps_core_laws.proofs.Standing.{length_words}

abbrev at_of : List Object → ℕ → Option Standing
at_of os a = option_map standing (object_at os a)

-- ---- an object more

module _ (o : Object) (os : List Object) (alone : object_at os o.address ≡ None) where
  here : object_at (o ∷ os) o.address ≡ Some o
  here = let t = eq_true o.address o.address refl in rw t refl

  there : (a : ℕ) → a ≢ o.address → object_at (o ∷ os) a ≡ object_at os a
  there a ne = let f = number_not a o.address ne in rw f refl

  words_not_yet : (n : ℕ) → n ≤ o.address → words_below (at_of (o ∷ os)) n ≡ words_below (at_of os) n
  unfolding words_below
  words_not_yet zero le = refl
  words_not_yet (suc n) le =
      let rest = words_not_yet n (omega arith) in
      let same = ap (λ x. memory.size_of (option_map standing x)) (there n (λ e. omega arith)) in
      omega (arith, rest, same)

  words_more : (n : ℕ) → o.address < n
      → words_below (at_of (o ∷ os)) n ≡ words_below (at_of os) n + size_of o
  unfolding words_below
  words_more zero lt = absurd (omega arith)
  words_more (suc n) lt = elim (ℕ_discrete n o.address) [
    | yes e ↦
        let rest = words_not_yet n (omega arith) in
        let many = length_words o.fields in
        let now : memory.size_of (at_of (o ∷ os) n) ≡ 2 + length o.fields =
        ap (λ a. memory.size_of (at_of (o ∷ os) a)) e
        ∙ (ap (λ x. memory.size_of (option_map standing x)) here ∙ omega arith) in
        let before : memory.size_of (at_of os n) ≡ 0 = ap (λ a. memory.size_of (at_of os a)) e
        ∙ ap (λ x. memory.size_of (option_map standing x)) alone in
        omega (arith, rest, now, before)
    | no ne ↦
        let rest = words_more n (omega arith) in
        let same = ap (λ x. memory.size_of (option_map standing x)) (there n ne) in
        omega (arith, rest, same)
  ]

-- ---- all of them

words_of_none : (n : ℕ) → words_below (at_of []) n ≡ 0
unfolding words_below
words_of_none zero = refl
words_of_none (suc n) = let rest = words_of_none n in omega (arith, rest)

words_of_all : (os : List Object) (n : ℕ) → AreDistinct os
    → ((a : ℕ) (o : Object) → object_at os a ≡ Some o → a < n)
    → words_below (at_of os) n ≡ sum_by size_of os
words_of_all [] n distinct low = words_of_none n
words_of_all (o ∷ os) n distinct low =
    let alone = distinct.0 in
    let rest = words_of_all os n distinct.1 (λ a p e. low a p
    (there o os alone a (λ is. let x = sym e ∙ (ap (object_at os) is ∙ alone) in cc) ∙ e)) in
    let more = words_more o os alone n (low o.address o (here o os alone)) in
    let sum = sum_by-cons size_of o os in
    omega (arith, rest, more, sum)

pub counted : (v : Vm) → VmKnows v → IsCounted v
unfolding standing_words
counted v knows =
    let k = facts v knows in
    let size = k.size.1 in let top = k.end_high in let wide = k.base_high in
    let tight = knows.tight in
    let all = words_of_all v.objects (2 ^ 24) knows.distinct
    (λ a o e. let hi = (k.within a o e).1 in omega arith) in
    omega (arith, all, tight)
