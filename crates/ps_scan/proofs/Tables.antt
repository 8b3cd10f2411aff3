-- Tables of the values of a function.
use Rattle.std.proofs.Common.{◌≡◌, ap, ◌∙◌, ℕ, zero, suc, ◌+◌, ◌<◌, List, [], ◌∷◌, arith}
use Rattle.std.specs.Prelude.{slice_index_or}

-- the values at so many numbers from one on
abbrev pub values : (ℕ → ℕ) → (count from : ℕ) → List ℕ
values f zero from = []
values f (suc count) from = f from ∷ values f count (suc from)

values-at : (f : ℕ → ℕ) (count from i : ℕ) → i < count
    → slice_index_or (values f count from) i 0 ≡ f (from + i)
values-at f zero from i below = absurd (omega (arith, below))
values-at f (suc count) from zero below = ap f (let e : from ≡ from + 0 = omega arith in e)
values-at f (suc count) from (suc i) below = values-at f count (suc from) i (omega (arith, below))
    ∙ ap f (let e : suc from + i ≡ from + suc i = omega arith in e)

-- of each byte
pub byte_value : (f : ℕ → ℕ) (b : ℕ) → b < 256 → slice_index_or (values f 256 0) b 0 ≡ f b
byte_value f b below = values-at f 256 0 b below ∙ ap f (let e : 0 + b ≡ b = omega arith in e)
