-- A store where a lock has another owner.
use Rattle.std.proofs.Common.{◌≡◌, ◌≢◌, ℕ, zero, suc, ◌≤◌, arith, true, false, length, Option, Some, refl, sym, ap}
use Rattle.std.proofs.Common.{subst, ◌∙◌, inl, inr}
use Rattle.std.specs.Prelude.{slice_get, slice_set}
use Rattle.std.proofs.lemmas.Bool.Decides.{eqb_tells, nat_tests}
use Rattle.ps_language.specs.Value.{lock_object, Store}
use Rattle.ps_language.specs.Access.{bytes, bytes_in}
use Rattle.ps_language.specs.Objects.{made_between}
use Rattle.ps_language.specs.Owners.{with_owner, is_owner, is_free}
use Rattle.ps_language.proofs.AskedLemmas.{made-set}
use Rattle.ps_mem.proofs.Lists.{slice_get-set_same, slice_get-set_other}
use Rattle.ps_ops_state.specs.Acts.{Lasts}
use Rattle.ps_ctx_operators.specs.Singles.{owner_by}

module _ (s : Store) (lock : ℕ) (old : Option ℕ) (there : slice_get s lock ≡ Some (lock_object old))
    (owner : Option ℕ) where
  -- it is no string
  bytes_owned : (birth : ℕ) → bytes (with_owner s lock owner) birth ≡ bytes s birth
  unfolding bytes with_owner
  bytes_owned birth = elim (eqb_tells lock birth) [
    | inl (_, same) ↦ subst (λ (b : ℕ). bytes_in (slice_get (slice_set s lock (lock_object owner))
        b) ≡ bytes_in (slice_get s b)) same
        (ap bytes_in (slice_get-set_same s lock (lock_object owner) (lock_object old) there)
        ∙ sym (ap bytes_in there))
    | inr (_, other) ↦ ap bytes_in (slice_get-set_other s lock birth (lock_object owner) other)
  ]

  pub lasts_owned : Lasts s (with_owner s lock owner)
  lasts_owned birth = let same = ap length (bytes_owned birth) in omega (arith, same)

  -- and asks for no room
  pub made_owned : made_between s (with_owner s lock owner) ≡ 0
  unfolding with_owner
  made_owned = made-set s lock (lock_object old) (lock_object owner) there

-- ---- owners by their numbers

pub is_owner-by : (caller n : ℕ) → 1 ≤ caller → n ≡ caller → is_owner caller (owner_by n) ≡ true
is_owner-by caller zero some same = absurd (omega (arith, some, same))
is_owner-by caller (suc n) some same = grind (arith, nat_tests)

pub is_owner-other : (caller n : ℕ) → n ≢ caller → is_owner caller (owner_by n) ≡ false
is_owner-other caller zero other = refl
is_owner-other caller (suc n) other = grind (arith, nat_tests)

pub is_free-by : (n : ℕ) → n ≡ 0 → is_free (owner_by n) ≡ true
is_free-by zero none = refl
is_free-by (suc n) none = absurd (omega (arith, none))

pub is_free-other : (n : ℕ) → n ≢ 0 → is_free (owner_by n) ≡ false
is_free-other zero some = absurd (some refl)
is_free-other (suc n) some = refl
