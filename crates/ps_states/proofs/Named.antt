-- What a procedure has for a name is a name.
use Rattle.std.proofs.Common.{◌≡◌, ℕ, Bool, true, false, List, [], ◌∷◌, Option, Some, None, refl}
use Rattle.std.specs.Prelude.{◌&&◌, if◌then◌else◌}
use Rattle.std.specs.Option.{option_or}
use Rattle.ps_language.specs.StepValues.{name_in}
use Rattle.ps_language.specs.Value.{Value, Store}
use Rattle.ps_ctx_readers.specs.Names.{is_of, names_it, name_among, pairs_in, name_through}

and_left : (a b : Bool) → (a && b) ≡ true → a ≡ true
and_left true b is = refl
and_left false b is = cc

among_by : (birth : ℕ) (pair : Value × Value) (rest : List (Value × Value)) (v : Value) (b : Bool)
    → names_it birth pair ≡ b → (name_among birth rest ≡ Some v → name_in v.what ≡ true)
    → (if b then Some pair.0 else name_among birth rest) ≡ Some v → name_in v.what ≡ true
among_by birth pair rest v true it further is =
    let named : name_in pair.0.what ≡ true = and_left (name_in pair.0.what) (is_of birth pair.1) it in
    let e : pair.0 ≡ v = cc in cc
among_by birth pair rest v false it further is = further is

among_named : (birth : ℕ) (pairs : List (Value × Value)) (v : Value) → name_among birth pairs ≡ Some v
    → name_in v.what ≡ true
among_named birth [] v is = cc
among_named birth (pair ∷ rest) v is =
    among_by birth pair rest v (names_it birth pair) refl (among_named birth rest v) is

through_by : (found further : Option Value) (v : Value) → (found ≡ Some v → name_in v.what ≡ true)
    → (further ≡ Some v → name_in v.what ≡ true) → option_or found further ≡ Some v
    → name_in v.what ≡ true
through_by None further v one rest is = rest is
through_by (Some w) further v one rest is = one is

pub through_named : (s : Store) (birth : ℕ) (dictionaries : List Value) (v : Value)
    → name_through s birth dictionaries ≡ Some v → name_in v.what ≡ true
through_named s birth [] v is = cc
through_named s birth (one ∷ below) v is =
    through_by (name_among birth (pairs_in s one)) (name_through s birth below) v
    (among_named birth (pairs_in s one) v) (through_named s birth below v) is
