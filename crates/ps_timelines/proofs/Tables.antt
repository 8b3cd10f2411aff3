-- A table that is written from left to right, in place.
use Rattle.std.proofs.Common.{◌≡◌, ap, ◌∙◌, ℕ, ◌+◌, ◌<◌, ◌≤◌, List, length, get_or, arith}
use Rattle.std.proofs.Math.ListN.{set}
use Rattle.std.proofs.Math.Nat.{ne_of_gt}
use Rattle.std.proofs.lemmas.List.{get_or-set_other}
use Rattle.std.proofs.lemmas.List.Edits.{fill_by_more}

-- one place more has what it is to have
pub written : (f : ℕ → ℕ) (xs : List ℕ) (n i v : ℕ) → length xs ≡ n → i < n
    → ((k : ℕ) → k < i → get_or xs k 0 ≡ f k) → v ≡ f i → (k : ℕ) → k < i + 1 → get_or (set xs i v) k 0 ≡ f k
written f xs n i v size h done e k w =
    ap (λ x. get_or (set xs i x) k 0) e ∙ fill_by_more f xs i 0 (omega arith) done k w

-- and those behind it stay
pub unwritten : (g : ℕ → ℕ) (xs : List ℕ) (n i v : ℕ) → ((k : ℕ) → i ≤ k → k < n → get_or xs k 0 ≡ g k)
    → (k : ℕ) → i + 1 ≤ k → k < n → get_or (set xs i v) k 0 ≡ g k
unwritten g xs n i v rest k behind w =
    get_or-set_other xs i k v 0 (ne_of_gt (omega arith)) ∙ rest k (omega arith) w
