-- What the readers of two integers and of a procedure tell by one test, one by one.
use Rattle.std.proofs.Common.{◌≡◌, ℤ, Bool, true, false, Some, None, refl, ap, subst}
use Rattle.std.specs.Prelude.{if◌then◌else◌}
use Rattle.ps_language.specs.Access.{is_executable}
use Rattle.ps_word.specs.declared.values.Part.{Part}
use Rattle.ps_word.specs.declared.values.Content.{Content}
use Rattle.ps_word.specs.declared.values.Content.TheVariants.{Integer, Array}
use Rattle.ps_word.specs.Readers.{as_integer, both_integers, as_enterable}

pub first_integer : (c d : Content) (i j : ℤ) → Some (i, j) ≡ both_integers c d
    → as_integer c ≡ Some i
first_integer (Integer k) (Integer l) i j both =
    let pair : (k, l) ≡ (i, j) = cc in
    ap (λ (p : ℤ × ℤ). Some p.0) pair
first_integer (Integer k) _ i j both = absurd (cc)
first_integer _ d i j both = absurd (cc)

pub second_integer : (c d : Content) (i j : ℤ) → Some (i, j) ≡ both_integers c d
    → as_integer d ≡ Some j
second_integer (Integer k) (Integer l) i j both =
    let pair : (k, l) ≡ (i, j) = cc in
    ap (λ (p : ℤ × ℤ). Some p.1) pair
second_integer (Integer k) _ i j both = absurd (cc)
second_integer _ d i j both = absurd (cc)

-- a word of this attribute and content is a procedure that may be executed
pub record IsEnterable (executable : Bool) (content : Content) (part : Part) : Type 0 where
  pub flag : executable ≡ true
  pub array : content ≡ Array part
  pub may : is_executable part.access ≡ true

pub enterable : (executable : Bool) (c : Content) (part : Part)
    → Some part ≡ as_enterable executable c → IsEnterable executable c part
enterable true (Array p) part is = by (is_executable p.access) refl is
  where
    by : (may : Bool) → is_executable p.access ≡ may
        → Some part ≡ (if may then Some p else None) → IsEnterable true (Array p) part
    by true may found =
        let same : p ≡ part = cc in
        record {
          flag = refl;
          array = ap Array same;
          may = subst (λ (q : Part). is_executable q.access ≡ true) same may;
        }
    by false may found = absurd (cc)
enterable true _ part is = absurd (cc)
enterable false _ part is = absurd (cc)
