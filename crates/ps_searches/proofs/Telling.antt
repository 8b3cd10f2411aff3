-- What is told, and what a map of it has.
use Rattle.std.proofs.Common.{◌≡◌, ◌≤◌, ◌+◌, ℕ, inl, inr, length, length-append, ◌++◌, suc, Bool, true, false, cond, List, [], ◌∷◌, None, Some, refl, sym, ◌∙◌, ap, subst, arith}
use Rattle.std.specs.Prelude.{◌⊎◌, ◌↔◌, Any, Contains, Option, is_some}
use Rattle.std.specs.Map.{lookup}
use Rattle.std.proofs.lemmas.Bool.{true≢false}
use Rattle.std.proofs.lemmas.List.Elements.{All-contains, All-from_recursion, Contains-append_left, Contains-push}
use Rattle.std.proofs.lemmas.Map.{none_passes_from_lookup}
use Rattle.ps_searches.specs.Searches.{AddsEnding, IsAmongTold, Keeps}

-- ---- elements

pub any_of : {X : Type 0} (P : X → Type 0) (xs : List X) (x : X) → Contains xs x → P x → Any P xs
any_of P xs x among holds = (among.0, x, among.1, among.2, holds)

-- the element of which it holds
pub among_of : {X : Type 0} (P : X → Type 0) (xs : List X) (some : Any P xs) → Contains xs some.1
among_of P xs some = (some.0, some.2, some.3)

pub none_of : {X : Type 0} (found : Option X) → is_some found ≡ false → found ≡ None
none_of None is = refl
none_of (Some one) is = absurd (true≢false is)

-- an element is there then, and one more at most
pub added_count : {X : Type 0} (P : X → Type 0) (Q : Type 0) (old : List X) (one : X)
    (new : List X) → ((new ≡ old) × Any P old) ⊎ ((new ≡ old ++ one ∷ []) × Q)
    → (length new ≤ length old + 1) × (1 ≤ length new)
added_count P Q old one new (inl is) =
    let same = ap {B = ℕ} length is.0 in
    let some = is.1.2 in (omega (arith, same), omega (arith, same, some))
added_count P Q old one new (inr is) =
    let same = ap {B = ℕ} length is.0 ∙ length-append old (one ∷ []) in (
      omega (arith, same),
      omega (arith, same),
    )

-- ---- entries

module _ {K V : Type 0} (test : K → Bool) where
  pub passes_later : (one : K × V) (entries : List (K × V))
      → Any (λ (e : K × V). test e.0 ≡ true) entries
      → Any (λ (e : K × V). test e.0 ≡ true) (one ∷ entries)
  passes_later one entries some =
      (suc some.0, some.1, omega (arith, some.2), some.3, some.4)

  pub looked_up : (entries : List (K × V)) → is_some (lookup test entries) ≡ true
      → Any (λ (e : K × V). test e.0 ≡ true) entries
  looked_up [] is = absurd (true≢false (sym is))
  looked_up (one ∷ entries) is = by (looked_up entries) (test one.0) refl
    where
      by : (is_some (lookup test entries) ≡ true → Any (λ (e : K × V). test e.0 ≡ true) entries)
          → (passes : Bool) → test one.0 ≡ passes
          → Any (λ (e : K × V). test e.0 ≡ true) (one ∷ entries)
      by later true passes = (0, one, omega arith, refl, passes)
      by later false fails = passes_later one entries (later
          (ap (λ (b : Bool). is_some (cond b (Some one.1) (lookup test entries))) (sym fails) ∙ is))

  pub not_looked_up : (entries : List (K × V)) → lookup test entries ≡ None
      → (e : K × V) → Contains entries e → test e.0 ≡ false
  not_looked_up entries none e among =
      All-contains (λ (e : K × V). test e.0 ≡ false) entries e
      (All-from_recursion _ entries (none_passes_from_lookup test entries none)) among

-- ---- endings

module _ {E V : Type 0} (Ends : (schedule : List ℕ) → E → Type 0) (eq : E → E → Bool)
    (equal : (schedule : List ℕ) (a b : E) → Ends schedule a
    → Ends schedule b ↔ (eq a b ≡ true)) where
  pub added_keeps : (old new : List (E × V)) (one : E × V) → AddsEnding eq old one new
      → Keeps Ends old new
  added_keeps old new one (inl same) schedule among =
      subst (λ (told : List (E × V)). IsAmongTold Ends told schedule) (sym same.0) among
  added_keeps old new one (inr added) schedule among =
      subst (λ (told : List (E × V)). IsAmongTold Ends told schedule) (sym added.0)
      (any_of _ (old ++ one ∷ []) among.1
      (Contains-append_left old (one ∷ []) among.1 (among_of _ old among)) among.4)

  -- it is among those that are told
  pub added_is : (old new : List (E × V)) (one : E × V) (schedule : List ℕ)
      → AddsEnding eq old one new → Ends schedule one.0 → IsAmongTold Ends new schedule
  added_is old new one schedule (inl same) ends =
      subst (λ (told : List (E × V)). IsAmongTold Ends told schedule) (sym same.0)
      (any_of _ old same.1.1 (among_of _ old same.1)
      ((equal schedule one.0 same.1.1.0 ends).1 same.1.4))
  added_is old new one schedule (inr added) ends =
      subst (λ (told : List (E × V)). IsAmongTold Ends told schedule) (sym added.0)
      (any_of _ (old ++ one ∷ []) one (Contains-push old one) ends)
