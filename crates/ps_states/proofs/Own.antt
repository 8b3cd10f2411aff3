-- The two dictionaries that every program has aren't told, and all others are.
use Rattle.std.proofs.Common.{◌≡◌, ℕ, zero, suc, ◌<◌, ◌≤◌, Bool, true, false, [], ◌++◌, arith, refl, ap}
use Rattle.std.proofs.lemmas.Bool.Decides.{nat_tests}
use Rattle.std.specs.Prelude.{◌==◌, ◌||◌, if◌then◌else◌}
use Rattle.ps_language.specs.Access.{dictionary_at}
use Rattle.ps_language.specs.Value.{Store}
use Rattle.ps_language.specs.Worlds.{systemdict, userdict}
use Rattle.ps_views.specs.States.{dictionary_text}
use Rattle.ps_states.specs.States.{own_line, keys_text}

is_first : (birth : ℕ) → birth ≤ 1 → ((birth == systemdict) || (birth == userdict)) ≡ true
is_first zero low = refl
is_first (suc zero) low = refl
is_first (suc (suc n)) low = absurd (omega (arith, low))

is_later : (birth : ℕ) → 1 < birth → ((birth == systemdict) || (birth == userdict)) ≡ false
is_later birth high = grind (arith, nat_tests)

module _ (s : Store) (birth : ℕ) where
  pub first_hidden : birth ≤ 1 → own_line s birth ≡ []
  first_hidden low = ap (λ (b : Bool). if b then []
      else dictionary_text birth ++ keys_text s (dictionary_at s birth).pairs) (is_first birth low)

  pub own_told : 1 < birth → own_line s birth
      ≡ dictionary_text birth ++ keys_text s (dictionary_at s birth).pairs
  own_told high = ap (λ (b : Bool). if b then []
      else dictionary_text birth ++ keys_text s (dictionary_at s birth).pairs) (is_later birth high)
