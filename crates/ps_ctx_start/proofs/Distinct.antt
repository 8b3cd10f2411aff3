-- The names met at the start are such as may be met: none comes twice.
use Rattle.std.proofs.Common.{◌≡◌, ◌≢◌, ◌≤◌, ℕ, Bool, true, false, List, [], ◌∷◌, length, arith, refl}
use Rattle.std.specs.Prelude.{not, nat_le, ◌&&◌}
use Rattle.std.specs.List.{All, AllPairs, AllByRecursion, IsDistinct, list_all}
use Rattle.std.specs.Str.{bytes_eq}
use Rattle.std.proofs.lemmas.Map.Made.{AllPairs-from_IsDistinct}
use Rattle.std.proofs.lemmas.Slice.Eq.{bytes_eq-Decides}
use Rattle.std.proofs.lemmas.Bool.Decides.{nat_tests}
use Rattle.std.proofs.lemmas.List.Elements.{All-nil, All-cons}
use Rattle.ps_language.specs.Limits.{name_limit}
use Rattle.ps_language.specs.Worlds.{first_names}
use Rattle.ps_names.specs.Names.{AreNames}

-- by comparing each with all behind it
abbrev is_new : List ℕ → List (List ℕ) → Bool
is_new text [] = true
is_new text (name ∷ names) = not (bytes_eq text name) && is_new text names

abbrev are_apart : List (List ℕ) → Bool
are_apart [] = true
are_apart (name ∷ names) = is_new name names && are_apart names

both : (a b : Bool) → (a && b) ≡ true → (a ≡ true) × (b ≡ true)
both true b e = (refl, e)
both false b e = cc

negated : (b : Bool) → not b ≡ true → b ≡ false
negated false e = refl
negated true e = cc

new_from : (text : List ℕ) (names : List (List ℕ)) → is_new text names ≡ true
    → AllByRecursion (λ name. bytes_eq text name ≡ false) names
new_from text [] e = tt
new_from text (name ∷ names) e =
    let (here, later) = both (not (bytes_eq text name)) (is_new text names) e in
    (negated (bytes_eq text name) here, new_from text names later)

distinct_from : (names : List (List ℕ)) → are_apart names ≡ true → IsDistinct bytes_eq names
unfolding IsDistinct
distinct_from [] e = tt
distinct_from (name ∷ names) e =
    let (here, later) = both (is_new name names) (are_apart names) e in
    (new_from name names here, distinct_from names later)

first_apart : are_apart first_names ≡ true
unfolding first_names
first_apart = refl

pub names-apart : AllPairs (λ first later. first ≢ later) first_names
names-apart = AllPairs-from_IsDistinct bytes_eq-Decides first_names
    (distinct_from first_names first_apart)

-- ---- they are short, and few

short_from : (names : List (List ℕ)) → list_all (λ name. nat_le (length name) name_limit) names ≡ true
    → All (λ name. length name ≤ name_limit) names
short_from [] e = All-nil (λ name. length name ≤ name_limit)
short_from (name ∷ names) e =
    let (here, later) = both (nat_le (length name) name_limit)
    (list_all (λ other. nat_le (length other) name_limit) names) e in
    All-cons (λ other. length other ≤ name_limit) name names (grind (arith, nat_tests, here))
    (short_from names later)

first_short : list_all (λ name. nat_le (length name) name_limit) first_names ≡ true
unfolding first_names
first_short = refl

first_few : length first_names ≤ 65535
unfolding first_names
first_few = omega arith

pub first-are : AreNames first_names
first-are = record {
  different = names-apart;
  short = short_from first_names first_short;
  few = first_few;
}
