-- What stands, by whether it does.
use Rattle.std.proofs.Common.{◌≡◌, Bool, true, false, refl}
use Rattle.std.specs.Prelude.{IfSome, option_map}
use Rattle.ps_step_outcome.specs.Ends.{given_that_stands}

pub stands-map : {A B : Type 0} (f : A → B) (there : Bool) (a : A)
    → option_map f (given_that_stands there a) ≡ given_that_stands there (f a)
stands-map f true a = refl
stands-map f false a = refl

pub stands-if : {A : Type 0} (P : A → Type 0) (there : Bool) (a : A) → P a
    → IfSome (given_that_stands there a) P
stands-if P true a p = p
stands-if P false a p = tt
