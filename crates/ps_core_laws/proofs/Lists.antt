-- Lists by their places.
use Rattle.std.proofs.Common.{◌≡◌, ◌⊎◌, ℕ, zero, suc, ◌<◌, List, [], ◌∷◌, ◌++◌, length, Some, refl, ap, inl, inr, arith}
use Rattle.std.proofs.Common.{drop}
use Rattle.std.specs.Prelude.{slice_get}

pub get_snoc : {X : Type 0} (xs : List X) (r : X) (k : ℕ) (q : X) → slice_get (xs ++ r ∷ []) k ≡ Some q
    → (slice_get xs k ≡ Some q) ⊎ ((k ≡ length xs) × (r ≡ q))
get_snoc [] r zero q e = inr (refl, cc)
get_snoc [] r (suc k) q e = absurd (cc)
get_snoc (x ∷ xs) r zero q e = inl e
get_snoc (x ∷ xs) r (suc k) q e = elim (get_snoc xs r k q e) [ inl h ↦ inl h | inr h ↦ inr (ap suc h.0, h.1) ]

pub get_front : {X : Type 0} (xs ys : List X) (k : ℕ) (p : X) → slice_get xs k ≡ Some p
    → slice_get (xs ++ ys) k ≡ Some p
get_front [] ys k p e = absurd (cc)
get_front (x ∷ xs) ys zero p e = e
get_front (x ∷ xs) ys (suc k) p e = get_front xs ys k p e

pub next : {X : Type 0} (xs rest : List X) (r : X) → slice_get (xs ++ rest) (length xs) ≡ Some r
    → (more : List X) × (xs ++ rest ≡ (xs ++ r ∷ []) ++ more)
next [] [] r e = absurd (cc)
next [] (y ∷ ys) r e = (ys, cc)
next (x ∷ xs) rest r e = let m = next xs rest r e in (m.0, ap (λ (z : _). x ∷ z) m.1)

pub get_some : {X : Type 0} (xs : List X) (k : ℕ) → k < length xs → (x : X) × (slice_get xs k ≡ Some x)
get_some [] k h = absurd (omega arith)
get_some (x ∷ xs) zero h = (x, refl)
get_some (x ∷ xs) (suc k) h = get_some xs k (omega arith)

-- what is dropped down to is there
pub drop_get : {X : Type 0} (xs : List X) (k : ℕ) (x : X) → slice_get xs k ≡ Some x → drop k xs ≡ x ∷ drop (suc k) xs
drop_get [] k x e = absurd (cc)
drop_get (y ∷ ys) zero x e = let same : y ≡ x = cc in ap (λ (z : _). z ∷ ys) same
drop_get (y ∷ ys) (suc k) x e = drop_get ys k x e
