-- The dictionary of an error that is told: the value of one entry is another.
use Rattle.std.proofs.Common.{◌≡◌, ℕ, ◌≤◌, arith, true, false, List, length, Some, ap, ◌∙◌}
use Rattle.std.specs.Prelude.{nat_le}
use Rattle.std.proofs.lemmas.Bool.Decides.{nat_tests}
use Rattle.ps_language.specs.Dictionaries.{put_pair, holding}
use Rattle.ps_language.specs.Limits.{capacity_limit}
use Rattle.ps_language.specs.Readers.{boolean}
use Rattle.ps_language.specs.StepErrors.{newerror_key, told}
use Rattle.ps_language.specs.Value.{Value, Dictionary}
use Rattle.ps_dict.specs.Places.{first_place}
use Rattle.ps_dict.proofs.Planning.{grown-same}
use Rattle.ps_dict.proofs.WordRuns.{put-present, length-with_value}

module _ (d : Dictionary) (place : ℕ) (at : first_place d.pairs newerror_key ≡ Some place)
    (within : length d.pairs ≤ d.capacity) (few : d.capacity ≤ capacity_limit) where
  abbrev put : List (Value × Value)
  put = put_pair d.pairs (newerror_key, boolean false)

  as_long : length put ≡ length d.pairs
  as_long =
      ap length (put-present d.pairs newerror_key (boolean false) place at)
      ∙ length-with_value d.pairs place (boolean false)

  pub holds_told : holding d put ≡ Some (told d)
  holds_told =
      let long = as_long in
      let fits : nat_le (length put) capacity_limit ≡ true =
      grind (arith, nat_tests, long, within, few) in
      rw fits (ap (λ (c : ℕ). Some (record d { pairs = put; capacity = c }))
      (grown-same d.capacity (length put) (omega (arith, long, within))))
