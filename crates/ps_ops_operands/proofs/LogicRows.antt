-- What booleans, or integers bit by bit, come to, read from words.
use Rattle.std.proofs.Common.{◌≡◌, ℕ, ℤ, List, [], ◌∷◌, drop, Bool, Option, Some, None, Ok, Err, refl, sym, ◌∙◌, ap}
use Rattle.std.proofs.Common.{subst}
use Rattle.std.specs.Prelude.{option_map, not}
use Rattle.std.specs.Int.{w32, int_bit_not}
use Rattle.ps_language.specs.declared.errors.ErrorName.TheVariants.{TypeCheck}
use Rattle.ps_language.specs.Value.{What, boolean_value, integer_value, Value}
use Rattle.ps_language.specs.Outcome.{Outcome, leaves, fails, given}
use Rattle.ps_language.specs.Readers.{literal, integer, boolean}
use Rattle.ps_language.specs.RowsArithmetic.{combined, combination, logical, negated, negation, not_row}
use Rattle.ps_stacks.specs.Tops as tops
use Rattle.ps_word.specs.declared.words.Word.{Word}
use Rattle.ps_word.specs.declared.values.Content.{Content}
use Rattle.ps_word.specs.declared.values.Content.TheVariants.{Null, Integer, Boolean, Mark, Name, Operator, Array, Text}
use Rattle.ps_word.specs.declared.values.Content.TheVariants.{Dictionary, Lock, Condition, Body}
use Rattle.ps_word.specs.Format.{content_in}
use Rattle.ps_word.specs.Readers as words
use Rattle.ps_mem.specs.Meaning.{what_of, value_of}
use Rattle.ps_ops_operands.specs.Does.{values_of, Does}
use Rattle.ps_ops_operands.specs.Truths.{Combines, Negates}
use Rattle.ps_ops_operands.proofs.Doing.{does_leaves, does_fails}

-- ---- what a content is

is_boolean : (c : Content) (a : Bool) → Some a ≡ words.as_boolean c → c ≡ Boolean a
is_boolean Null a is = cc
is_boolean (Integer number) a is = cc
is_boolean (Boolean truth) a is = let same : truth ≡ a = cc in ap Boolean same
is_boolean Mark a is = cc
is_boolean (Name number) a is = cc
is_boolean (Operator operator) a is = cc
is_boolean (Array part) a is = cc
is_boolean (Text part) a is = cc
is_boolean (Dictionary address) a is = cc
is_boolean (Lock address) a is = cc
is_boolean (Condition address) a is = cc
is_boolean (Body address) a is = cc

is_integer : (c : Content) (i : ℤ) → Some i ≡ words.as_integer c → c ≡ Integer i
is_integer Null i is = cc
is_integer (Integer number) i is = let same : number ≡ i = cc in ap Integer same
is_integer (Boolean truth) i is = cc
is_integer Mark i is = cc
is_integer (Name number) i is = cc
is_integer (Operator operator) i is = cc
is_integer (Array part) i is = cc
is_integer (Text part) i is = cc
is_integer (Dictionary address) i is = cc
is_integer (Lock address) i is = cc
is_integer (Condition address) i is = cc
is_integer (Body address) i is = cc

module _ (births : ℕ → ℕ) (names : List (List ℕ)) (f : Bool → Bool → Bool) (g : ℤ → ℤ → ℤ) where
  no_boolean : (a : Bool) (d : Content) → None ≡ words.as_boolean d
      → combined f g (boolean_value a) (what_of births names d) ≡ None
  no_boolean a Null is = refl
  no_boolean a (Integer number) is = refl
  no_boolean a (Boolean truth) is = cc
  no_boolean a Mark is = refl
  no_boolean a (Name number) is = refl
  no_boolean a (Operator operator) is = refl
  no_boolean a (Array part) is = refl
  no_boolean a (Text part) is = refl
  no_boolean a (Dictionary address) is = refl
  no_boolean a (Lock address) is = refl
  no_boolean a (Condition address) is = refl
  no_boolean a (Body address) is = refl

  no_integer : (i : ℤ) (d : Content) → None ≡ words.as_integer d
      → combined f g (integer_value i) (what_of births names d) ≡ None
  no_integer i Null is = refl
  no_integer i (Integer number) is = cc
  no_integer i (Boolean truth) is = refl
  no_integer i Mark is = refl
  no_integer i (Name number) is = refl
  no_integer i (Operator operator) is = refl
  no_integer i (Array part) is = refl
  no_integer i (Text part) is = refl
  no_integer i (Dictionary address) is = refl
  no_integer i (Lock address) is = refl
  no_integer i (Condition address) is = refl
  no_integer i (Body address) is = refl

  neither : (c : Content) (what : What) → None ≡ words.as_boolean c → None ≡ words.as_integer c
      → combined f g (what_of births names c) what ≡ None
  neither Null what first second = refl
  neither (Integer number) what first second = cc
  neither (Boolean truth) what first second = cc
  neither Mark what first second = refl
  neither (Name number) what first second = refl
  neither (Operator operator) what first second = refl
  neither (Array part) what first second = refl
  neither (Text part) what first second = refl
  neither (Dictionary address) what first second = refl
  neither (Lock address) what first second = refl
  neither (Condition address) what first second = refl
  neither (Body address) what first second = refl

module _ (births : ℕ → ℕ) (names : List (List ℕ)) where
  not_neither : (c : Content) → None ≡ words.as_boolean c → None ≡ words.as_integer c
      → negated (what_of births names c) ≡ None
  not_neither Null first second = refl
  not_neither (Integer number) first second = cc
  not_neither (Boolean truth) first second = cc
  not_neither Mark first second = refl
  not_neither (Name number) first second = refl
  not_neither (Operator operator) first second = refl
  not_neither (Array part) first second = refl
  not_neither (Text part) first second = refl
  not_neither (Dictionary address) first second = refl
  not_neither (Lock address) first second = refl
  not_neither (Condition address) first second = refl
  not_neither (Body address) first second = refl

-- ---- two words

-- a boolean, an integer, or neither
abbrev pub IsBoolean : Option Bool → Word → Type 0
IsBoolean truth w = truth ≡ words.as_boolean (content_in w.0)

abbrev pub IsInteger : Option ℤ → Word → Type 0
IsInteger number w = number ≡ words.as_integer (content_in w.0)

module _ (f : Bool → Bool → Bool) (g : ℤ → ℤ → ℤ) (left right : Word) where
  combines : (result : Option Word) (what : Option What)
      → ((births : ℕ → ℕ) (names : List (List ℕ))
      → combined f g (what_of births names (content_in left.0)) (what_of births names (content_in right.0)) ≡ what)
      → ((births : ℕ → ℕ) (names : List (List ℕ)) → option_map (value_of births names) result ≡ option_map literal what)
      → Combines f g left right result
  unfolding combination value_of
  combines result what comes shows =
      record { agrees = λ births names. shows births names ∙ ap (option_map literal) (sym (comes births names)) }

  pub truths_combine : (a b : Bool) (w : Word) → IsBoolean (Some a) left → IsBoolean (Some b) right
      → ((births : ℕ → ℕ) (names : List (List ℕ)) → value_of births names w ≡ boolean (f a b))
      → Combines f g left right (Some w)
  truths_combine a b w first second value =
      combines (Some w) (Some (boolean_value (f a b)))
      (λ births names. rw (is_boolean (content_in left.0) a first, is_boolean (content_in right.0) b second) refl)
      (λ births names. ap Some (value births names))

  pub integers_combine : (i j : ℤ) (w : Word) → IsInteger (Some i) left → IsInteger (Some j) right
      → ((births : ℕ → ℕ) (names : List (List ℕ)) → value_of births names w ≡ integer (g i j))
      → Combines f g left right (Some w)
  integers_combine i j w first second value =
      combines (Some w) (Some (integer_value (g i j)))
      (λ births names. rw (is_integer (content_in left.0) i first, is_integer (content_in right.0) j second) refl)
      (λ births names. ap Some (value births names))

  pub one_truth : (a : Bool) (result : Option Word) → IsBoolean (Some a) left → IsBoolean None right → result ≡ None
      → Combines f g left right result
  one_truth a result first second lacks =
      subst (Combines f g left right) (sym lacks)
      (combines None None (λ births names. rw (is_boolean (content_in left.0) a first)
      (no_boolean births names f g a (content_in right.0) second)) (λ births names. refl))

  pub one_number : (i : ℤ) (result : Option Word) → IsInteger (Some i) left → IsInteger None right → result ≡ None
      → Combines f g left right result
  one_number i result first second lacks =
      subst (Combines f g left right) (sym lacks)
      (combines None None (λ births names. rw (is_integer (content_in left.0) i first)
      (no_integer births names f g i (content_in right.0) second)) (λ births names. refl))

  pub none_combines : IsBoolean None left → IsInteger None left → Combines f g left right None
  none_combines first second =
      combines None None (λ births names. neither births names f g (content_in left.0)
      (what_of births names (content_in right.0)) first second) (λ births names. refl)

-- ---- one word

negates : (operand : Word) (result : Option Word) (what : Option What)
    → ((births : ℕ → ℕ) (names : List (List ℕ)) → negated (what_of births names (content_in operand.0)) ≡ what)
    → ((births : ℕ → ℕ) (names : List (List ℕ)) → option_map (value_of births names) result ≡ option_map literal what)
    → Negates operand result
unfolding negation value_of
negates operand result what comes shows = record {
  agrees = λ births names. shows births names ∙ ap (option_map literal) (sym (comes births names));
}

pub truth_negates : (operand : Word) (a : Bool) (w : Word) → IsBoolean (Some a) operand
    → ((births : ℕ → ℕ) (names : List (List ℕ)) → value_of births names w ≡ boolean (not a)) → Negates operand (Some w)
truth_negates operand a w first value =
    negates operand (Some w) (Some (boolean_value (not a)))
    (λ births names. rw (is_boolean (content_in operand.0) a first) refl)
    (λ births names. ap Some (value births names))

pub integer_negates : (operand : Word) (i : ℤ) (w : Word) → IsInteger (Some i) operand
    → ((births : ℕ → ℕ) (names : List (List ℕ)) → value_of births names w ≡ integer (int_bit_not w32 i))
    → Negates operand (Some w)
integer_negates operand i w first value =
    negates operand (Some w) (Some (integer_value (int_bit_not w32 i)))
    (λ births names. rw (is_integer (content_in operand.0) i first) refl)
    (λ births names. ap Some (value births names))

pub none_negates : (operand : Word) → IsBoolean None operand → IsInteger None operand → Negates operand None
none_negates operand first second =
    negates operand None None (λ births names. not_neither births names (content_in operand.0) first second)
    (λ births names. refl)

-- ---- what the operators did

abbrev row_of : Option Value → List Value → Outcome (List Value)
row_of (Some value) rest = leaves (value ∷ rest)
row_of None rest = fails TypeCheck

same_row : (what : Option What) (rest : List Value)
    → given what TypeCheck (λ c. leaves (literal c ∷ rest)) ≡ row_of (option_map literal what) rest
same_row None rest = refl
same_row (Some c) rest = refl

logical_row : (births : ℕ → ℕ) (names : List (List ℕ)) (f : Bool → Bool → Bool)
    (g : ℤ → ℤ → ℤ) (old : List Word) (right left : Word) (result : Option Word)
    → Some (right, left) ≡ tops.first_two_of old → Combines f g left right result
    → logical f g (values_of births names old)
    ≡ row_of (option_map (value_of births names) result) (values_of births names (drop 2 old))
logical_row births names f g [] right left result two made = cc
logical_row births names f g (x ∷ []) right left result two made = cc
logical_row births names f g (x ∷ y ∷ below) right left result two made =
    let pair : (right, left) ≡ (x, y) = cc in
    let first : right ≡ x = ap (λ (p : Word × Word). p.0) pair in
    let second : left ≡ y = ap (λ (p : Word × Word). p.1) pair in
    rw (← first, ← second)
    (same_row (combination f g (value_of births names left) (value_of births names right))
    (values_of births names below)
    ∙ ap (λ value. row_of value (values_of births names below)) (sym (made.agrees births names)))

pub logical_done : (f : Bool → Bool → Bool) (g : ℤ → ℤ → ℤ) (old new : List Word) (right left w : Word)
    → Some (right, left) ≡ tops.first_two_of old → Combines f g left right (Some w) → new ≡ w ∷ drop 2 old
    → Does (logical f g) (Ok tt) old new
logical_done f g old new right left w two made is =
    does_leaves (logical f g) old new
    (λ births names. rw is (logical_row births names f g old right left (Some w) two made))

pub logical_lacks : (f : Bool → Bool → Bool) (g : ℤ → ℤ → ℤ) (old : List Word) (right left : Word)
    → Some (right, left) ≡ tops.first_two_of old → Combines f g left right None
    → Does (logical f g) (Err TypeCheck) old old
logical_lacks f g old right left two made =
    does_fails (logical f g) TypeCheck old old
    (λ births names. logical_row births names f g old right left None two made) refl

not_row_of : (births : ℕ → ℕ) (names : List (List ℕ)) (old : List Word) (top : Word) (result : Option Word)
    → Some top ≡ tops.first_of old → Negates top result
    → not_row (values_of births names old)
    ≡ row_of (option_map (value_of births names) result) (values_of births names (drop 1 old))
not_row_of births names [] top result first made = cc
not_row_of births names (x ∷ below) top result first made =
    let same : top ≡ x = cc in
    rw (← same)
    (same_row (negation (value_of births names top)) (values_of births names below)
    ∙ ap (λ value. row_of value (values_of births names below)) (sym (made.agrees births names)))

pub not_done : (old new : List Word) (top w : Word) → Some top ≡ tops.first_of old → Negates top (Some w)
    → new ≡ w ∷ drop 1 old → Does not_row (Ok tt) old new
not_done old new top w first made is =
    does_leaves not_row old new (λ births names. rw is (not_row_of births names old top (Some w) first made))

pub not_lacks : (old : List Word) (top : Word) → Some top ≡ tops.first_of old → Negates top None
    → Does not_row (Err TypeCheck) old old
not_lacks old top first made =
    does_fails not_row TypeCheck old old (λ births names. not_row_of births names old top None first made) refl

pub ruleset combining = (none_combines, none_negates)

pub ruleset logical_lemmas = (logical_done, logical_lacks, not_done, not_lacks)
