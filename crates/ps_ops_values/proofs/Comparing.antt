-- How two values compare.
use Rattle.std.proofs.Common.{◌≡◌, ℤ, Bool, true, false, ◌&&◌, Some, None, refl, ap, ◌∙◌}
use Rattle.std.specs.Ordering.{int_cmp, int_eq, nat_cmp}
use Rattle.std.specs.Cmp.Lexicographic.{slice_cmp}
use Rattle.ps_language.specs.declared.errors.ErrorName.TheVariants.{InvalidAccess, TypeCheck}
use Rattle.ps_language.specs.Access.{is_readable, may_read_text, part_bytes}
use Rattle.ps_language.specs.Equality.{key_of, same_key}
use Rattle.ps_language.specs.Outcome.{leaves, fails, given_that}
use Rattle.ps_language.specs.Readers.{integer_in, string_in, as_integer, as_string}
use Rattle.ps_language.specs.RowsRelations.{compared, comparison}
use Rattle.ps_language.specs.Value.{Part, What, null_value, mark_value, integer_value, boolean_value, name_value}
use Rattle.ps_language.specs.Value.{operator_value, array_value, string_value, dictionary_value, lock_value}
use Rattle.ps_language.specs.Value.{condition_value, Value, Store}
use Rattle.ps_ops_values.specs.Relations.{equality, order}

-- ---- what a value is

integer_what : (v : What) (i : ℤ) → integer_in v ≡ Some i → v ≡ integer_value i
integer_what (integer_value j) i is = let same : j ≡ i = cc in ap integer_value same
integer_what null_value i is = absurd (cc)
integer_what mark_value i is = absurd (cc)
integer_what (boolean_value _) i is = absurd (cc)
integer_what (name_value _) i is = absurd (cc)
integer_what (operator_value _) i is = absurd (cc)
integer_what (array_value _) i is = absurd (cc)
integer_what (string_value _) i is = absurd (cc)
integer_what (dictionary_value _) i is = absurd (cc)
integer_what (lock_value _) i is = absurd (cc)
integer_what (condition_value _) i is = absurd (cc)

string_what : (v : What) (p : Part) → string_in v ≡ Some p → v ≡ string_value p
string_what (string_value q) p is = let same : q ≡ p = cc in ap string_value same
string_what null_value p is = absurd (cc)
string_what mark_value p is = absurd (cc)
string_what (integer_value _) p is = absurd (cc)
string_what (boolean_value _) p is = absurd (cc)
string_what (name_value _) p is = absurd (cc)
string_what (operator_value _) p is = absurd (cc)
string_what (array_value _) p is = absurd (cc)
string_what (dictionary_value _) p is = absurd (cc)
string_what (lock_value _) p is = absurd (cc)
string_what (condition_value _) p is = absurd (cc)

module _ (s : Store) where
  -- ---- values of no order

  unordered : (v w : What) → integer_in v ≡ None → string_in v ≡ None → compared s v w ≡ None
  unordered (integer_value i) w none neither = absurd (cc)
  unordered (string_value p) w none neither = absurd (cc)
  unordered v w none neither = refl

  no_integer : (i : ℤ) (w : What) → integer_in w ≡ None → compared s (integer_value i) w ≡ None
  no_integer i (integer_value j) none = absurd (cc)
  no_integer i w none = refl

  no_string : (p : Part) (w : What) → string_in w ≡ None → compared s (string_value p) w ≡ None
  no_string p (string_value q) none = absurd (cc)
  no_string p w none = refl

  module _ (a b : Value) where
    pub order_unordered : as_integer a ≡ None → as_string a ≡ None → order s a b ≡ fails TypeCheck
    unfolding as_integer as_string comparison
    order_unordered none neither = rw (unordered a.what b.what none neither) refl

    pub order_no_integer : (i : ℤ) → as_integer a ≡ Some i → as_integer b ≡ None
        → order s a b ≡ fails TypeCheck
    unfolding as_integer comparison
    order_no_integer i is none = rw (integer_what a.what i is, no_integer i b.what none) refl

    pub order_no_string : (p : Part) → as_string a ≡ Some p → as_string b ≡ None
        → order s a b ≡ fails TypeCheck
    unfolding as_string comparison
    order_no_string p is none = rw (string_what a.what p is, no_string p b.what none) refl

    -- ---- two integers

    pub order_integers : (i j : ℤ) → as_integer a ≡ Some i → as_integer b ≡ Some j
        → order s a b ≡ leaves (int_cmp i j)
    unfolding as_integer comparison may_read_text
    order_integers i j is also =
        rw (integer_what a.what i is, integer_what b.what j also) refl

    pub equal_integers : (i j : ℤ) → as_integer a ≡ Some i → as_integer b ≡ Some j
        → equality s a b ≡ leaves (int_eq i j)
    unfolding as_integer may_read_text key_of same_key
    equal_integers i j is also =
        rw (integer_what a.what i is, integer_what b.what j also) refl

    -- ---- two strings

    module _ (p q : Part) (is : as_string a ≡ Some p) (also : as_string b ≡ Some q) where
      order_strings : order s a b ≡ given_that (is_readable q.access && is_readable p.access)
          InvalidAccess (leaves (slice_cmp nat_cmp (part_bytes s p) (part_bytes s q)))
      unfolding as_string comparison may_read_text
      order_strings = rw (string_what a.what p is, string_what b.what q also) refl

      pub order_readable : is_readable p.access ≡ true → is_readable q.access ≡ true
          → order s a b ≡ leaves (slice_cmp nat_cmp (part_bytes s p) (part_bytes s q))
      order_readable first second = order_strings ∙ rw (second, first) refl

      pub order_hidden_first : is_readable p.access ≡ false → order s a b ≡ fails InvalidAccess
      order_hidden_first hidden = order_strings ∙ rw hidden (neither (is_readable q.access))
        where
          neither : (test : Bool) → given_that (test && false) InvalidAccess
              (leaves (slice_cmp nat_cmp (part_bytes s p) (part_bytes s q))) ≡ fails InvalidAccess
          neither true = refl
          neither false = refl

      pub order_hidden_second : is_readable q.access ≡ false → order s a b ≡ fails InvalidAccess
      order_hidden_second hidden = order_strings ∙ rw hidden refl
