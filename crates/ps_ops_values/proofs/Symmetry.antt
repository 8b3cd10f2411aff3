-- It doesn't matter which of two keys comes first.
use Rattle.std.proofs.Common.{◌≡◌, ℕ, List, refl, sym}
use Rattle.std.specs.Prelude.{Bool, true, false, nat_eq}
use Rattle.std.specs.Str.{bytes_eq}
use Rattle.std.proofs.lemmas.Bool.Decides.{same_from_decides}
use Rattle.std.proofs.lemmas.Cmp.{nat_eq_equiv, int_eq_equiv}
use Rattle.std.proofs.lemmas.Slice.Eq.{bytes_eq-Decides}
use Rattle.ps_language.specs.declared.operators.Operator.{Operator}
use Rattle.ps_language.specs.Value.{Part, What, null_value, mark_value, integer_value, boolean_value, name_value}
use Rattle.ps_language.specs.Value.{operator_value, array_value, string_value, dictionary_value, lock_value}
use Rattle.ps_language.specs.Value.{condition_value, Value}
use Rattle.ps_language.specs.Equality.{same_truth, same_operator, same_part, same_what, same_key}

same_truth-turned : (a b : Bool) → same_truth a b ≡ same_truth b a
same_truth-turned true true = refl
same_truth-turned true false = refl
same_truth-turned false true = refl
same_truth-turned false false = refl

nat_eq-turned : (m n : ℕ) → nat_eq m n ≡ nat_eq n m
nat_eq-turned m n = nat_eq_equiv.symm m n

same_operator-turned : (a b : Operator) → same_operator a b ≡ same_operator b a
same_operator-turned a b = nat_eq-turned _ _

bytes_eq-turned : (a b : List ℕ) → bytes_eq a b ≡ bytes_eq b a
bytes_eq-turned a b =
    same_from_decides (bytes_eq a b) (bytes_eq b a) (bytes_eq-Decides a b) (
      (λ is. sym ((bytes_eq-Decides b a).0 is)),
      λ same. (bytes_eq-Decides b a).1 (sym same),
    )

same_part-turned : (p q : Part) → same_part p q ≡ same_part q p
same_part-turned p q =
    rw (
      nat_eq-turned p.birth q.birth,
      nat_eq-turned p.offset q.offset,
      nat_eq-turned p.count q.count,
    ) refl

same_what-turned : (v w : What) → same_what v w ≡ same_what w v
same_what-turned null_value null_value = refl
same_what-turned mark_value mark_value = refl
same_what-turned (integer_value i) (integer_value j) = int_eq_equiv.symm i j
same_what-turned (boolean_value a) (boolean_value b) = same_truth-turned a b
same_what-turned (name_value a) (name_value b) = bytes_eq-turned a b
same_what-turned (operator_value a) (operator_value b) = same_operator-turned a b
same_what-turned (array_value p) (array_value q) = same_part-turned p q
same_what-turned (string_value p) (string_value q) = refl
same_what-turned (dictionary_value a) (dictionary_value b) = nat_eq-turned a b
same_what-turned (lock_value a) (lock_value b) = nat_eq-turned a b
same_what-turned (condition_value a) (condition_value b) = nat_eq-turned a b
same_what-turned v w = refl

pub same_key-turned : (a b : Value) → same_key a b ≡ same_key b a
unfolding same_key
same_key-turned a b = same_what-turned a.what b.what
