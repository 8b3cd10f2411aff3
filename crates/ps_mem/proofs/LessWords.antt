-- How many words stand where an object is taken away.
use Rattle.std.proofs.Common.{◌≡◌, ◌≢◌, ℕ, zero, suc, ◌+◌, ◌<◌, ◌≤◌, None, Option, refl, sym, ap, ◌∙◌, arith}
use Rattle.std.specs.Prelude.{◌==◌, if◌then◌else◌}
use Rattle.std.proofs.lemmas.Bool.Decides.{eqb_tells}
use native.Mathlib.Decide.{ℕ_discrete}
use Rattle.ps_mem.specs.Heap.{Standing, size_of, words_below}

module _ (at : ℕ → Option Standing) (a : ℕ) where
  abbrev pub without : ℕ → Option Standing
  without b = if a == b then None else at b

  here : without a ≡ None
  here = grind (arith, eqb_tells a a)

  pub there : (b : ℕ) → a ≢ b → without b ≡ at b
  there b other = grind (arith, eqb_tells a b, other)

  words_before : (n : ℕ) → n ≤ a → words_below without n ≡ words_below at n
  unfolding words_below
  words_before zero le = refl
  words_before (suc n) le =
      let rest = words_before n (omega arith) in
      let same = ap size_of (there n (λ e. omega arith)) in
      omega (arith, rest, same)

  pub words_less : (n : ℕ) → a < n → words_below without n + size_of (at a) ≡ words_below at n
  unfolding words_below
  words_less zero lt = absurd (omega arith)
  words_less (suc n) lt = elim (ℕ_discrete a n) [
    | yes e ↦
        let rest = words_before n (omega arith) in
        let gone : size_of (without n) ≡ 0 =
        ap (λ b. size_of (without b)) (sym e) ∙ ap size_of here in
        let was : size_of (at a) ≡ size_of (at n) = ap (λ b. size_of (at b)) e in
        omega (arith, rest, gone, was)
    | no other ↦
        let rest = words_less n (omega arith) in
        let same = ap size_of (there n other) in
        omega (arith, rest, same)
  ]
