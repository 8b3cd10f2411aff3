-- What the type of a word says of its value; and the words with one of their places changed.
use Rattle.std.proofs.Common.{◌≡◌, ◌≢◌, ℕ, ◌+◌, ◌*◌, ◌/◌, ◌%◌, ◌^◌, ◌<◌, ◌≤◌, ◌&&◌, true, false, refl, sym, ap, ◌∙◌}
use Rattle.std.proofs.Common.{subst, arith, Some, None, is_some, nat_eq, nat_le}
use Rattle.std.proofs.lemmas.Bool.Decides.{nat_tests}
use native.Mathlib.Decide.{ℕ_discrete}
use Rattle.ps_word.specs.declared.values.Content.{Content}
use Rattle.std.specs.Prelude.{slice_index_or}
use Rattle.ps_language.specs.declared.operators.Operator.{Operator as OperatorName}
use Rattle.ps_language.specs.declared.operators.Operator.TheVariants.{Pop}
use Rattle.ps_language.specs.Operators.{every_operator}
use Rattle.ps_word.specs.declared.values.Content.TheVariants.{Null, Operator}
use Rattle.ps_word.specs.Format.{type_number, bit_of, content_bits, packed, IsContent, is_body, address_in, content_of}
use Rattle.ps_word.specs.Format.{content_in, executable_in, IsWord}
use Rattle.ps_word.specs.Readers.{is_null, is_mark, as_integer, as_boolean, as_name, as_operator, as_array, as_text}
use Rattle.ps_word.specs.Readers.{as_dictionary, as_lock, as_condition, as_body, as_part, address_of, kind_of}
use Rattle.ps_word.specs.Readers.{is_reference}
use Rattle.ps_language.proofs.Numbers.{operator_number-below}
use Rattle.ps_word.proofs.Packing.{content_bits-below, type-of_sum, low-of_sum}

-- ---- by the type

-- a number below twelve, or past it
pub by_type : (P : ℕ → Type 0) → P 0 → P 1 → P 2 → P 3 → P 4 → P 5 → P 6 → P 7 → P 8 → P 9 → P 10 → P 11
    → ((t : ℕ) → 12 ≤ t → P t) → (t : ℕ) → P t
by_type P p0 p1 p2 p3 p4 p5 p6 p7 p8 p9 p10 p11 past t =
    elim (ℕ_discrete t 0) [
      | yes e ↦ subst P (sym e) p0
      | no n0 ↦
          elim (ℕ_discrete t 1) [
            | yes e ↦ subst P (sym e) p1
            | no n1 ↦
                elim (ℕ_discrete t 2) [
                  | yes e ↦ subst P (sym e) p2
                  | no n2 ↦
                      elim (ℕ_discrete t 3) [
                        | yes e ↦ subst P (sym e) p3
                        | no n3 ↦
                            elim (ℕ_discrete t 4) [
                              | yes e ↦ subst P (sym e) p4
                              | no n4 ↦
                                  elim (ℕ_discrete t 5) [
                                    | yes e ↦ subst P (sym e) p5
                                    | no n5 ↦
                                        elim (ℕ_discrete t 6) [
                                          | yes e ↦ subst P (sym e) p6
                                          | no n6 ↦
                                              elim (ℕ_discrete t 7) [
                                                | yes e ↦ subst P (sym e) p7
                                                | no n7 ↦
                                                    elim (ℕ_discrete t 8) [
                                                      | yes e ↦ subst P (sym e) p8
                                                      | no n8 ↦
                                                          elim (ℕ_discrete t 9) [
                                                            | yes e ↦ subst P (sym e) p9
                                                            | no n9 ↦
                                                                elim (ℕ_discrete t 10) [
                                                                  | yes e ↦ subst P (sym e) p10
                                                                  | no n10 ↦
                                                                      elim (ℕ_discrete t 11) [
                                                                        | yes e ↦ subst P (sym e) p11
                                                                        | no n11 ↦
                                                                            past t (omega arith)
                                                                      ]
                                                                ]
                                                          ]
                                                    ]
                                              ]
                                        ]
                                  ]
                            ]
                      ]
                ]
          ]
    ]

pub content_of-past : (t w : ℕ) → 12 ≤ t → content_of t w ≡ Null
content_of-past t w h =
    let n1 : nat_eq t 1 ≡ false = grind (arith, nat_tests) in
    let n2 : nat_eq t 2 ≡ false = grind (arith, nat_tests) in
    let n3 : nat_eq t 3 ≡ false = grind (arith, nat_tests) in
    let n4 : nat_eq t 4 ≡ false = grind (arith, nat_tests) in
    let n5 : nat_eq t 5 ≡ false = grind (arith, nat_tests) in
    let n6 : nat_eq t 6 ≡ false = grind (arith, nat_tests) in
    let n7 : nat_eq t 7 ≡ false = grind (arith, nat_tests) in
    let n8 : nat_eq t 8 ≡ false = grind (arith, nat_tests) in
    let n9 : nat_eq t 9 ≡ false = grind (arith, nat_tests) in
    let n10 : nat_eq t 10 ≡ false = grind (arith, nat_tests) in
    let n11 : nat_eq t 11 ≡ false = grind (arith, nat_tests) in
    rw (n1, n2, n3, n4, n5, n6, n7, n8, n9, n10, n11) refl

-- the content of a word of this type
pub content_in-at : (w n : ℕ) → w / 2 ^ 60 ≡ n → content_in w ≡ content_of n w
unfolding content_in
content_in-at w n e = ap (λ t. content_of t w) e

pub content_in-past : (w : ℕ) → 12 ≤ w / 2 ^ 60 → content_in w ≡ Null
unfolding content_in
content_in-past w h = content_of-past (w / 2 ^ 60) w h

-- ---- the readers at another type

pub as_integer-other : (w : ℕ) → w / 2 ^ 60 ≢ 1 → None ≡ as_integer (content_in w)
unfolding content_in
as_integer-other w = by_type (λ t. t ≢ 1 → None ≡ as_integer (content_of t w)) (λ h. refl) (λ h. absurd (h refl))
    (λ h. refl) (λ h. refl) (λ h. refl) (λ h. refl) (λ h. refl) (λ h. refl) (λ h. refl) (λ h. refl) (λ h. refl)
    (λ h. refl) (λ t past h. ap as_integer (sym (content_of-past t w past))) (w / 2 ^ 60)

pub as_boolean-other : (w : ℕ) → w / 2 ^ 60 ≢ 2 → None ≡ as_boolean (content_in w)
unfolding content_in
as_boolean-other w = by_type (λ t. t ≢ 2 → None ≡ as_boolean (content_of t w)) (λ h. refl) (λ h. refl)
    (λ h. absurd (h refl)) (λ h. refl) (λ h. refl) (λ h. refl) (λ h. refl) (λ h. refl) (λ h. refl) (λ h. refl)
    (λ h. refl) (λ h. refl) (λ t past h. ap as_boolean (sym (content_of-past t w past))) (w / 2 ^ 60)

pub as_name-other : (w : ℕ) → w / 2 ^ 60 ≢ 4 → None ≡ as_name (content_in w)
unfolding content_in
as_name-other w = by_type (λ t. t ≢ 4 → None ≡ as_name (content_of t w)) (λ h. refl) (λ h. refl) (λ h. refl) (λ h. refl)
    (λ h. absurd (h refl)) (λ h. refl) (λ h. refl) (λ h. refl) (λ h. refl) (λ h. refl) (λ h. refl) (λ h. refl)
    (λ t past h. ap as_name (sym (content_of-past t w past))) (w / 2 ^ 60)

pub as_operator-other : (w : ℕ) → w / 2 ^ 60 ≢ 5 → None ≡ as_operator (content_in w)
unfolding content_in
as_operator-other w = by_type (λ t. t ≢ 5 → None ≡ as_operator (content_of t w)) (λ h. refl) (λ h. refl) (λ h. refl)
    (λ h. refl) (λ h. refl) (λ h. absurd (h refl)) (λ h. refl) (λ h. refl) (λ h. refl) (λ h. refl) (λ h. refl)
    (λ h. refl) (λ t past h. ap as_operator (sym (content_of-past t w past))) (w / 2 ^ 60)

pub as_array-other : (w : ℕ) → w / 2 ^ 60 ≢ 6 → None ≡ as_array (content_in w)
unfolding content_in
as_array-other w = by_type (λ t. t ≢ 6 → None ≡ as_array (content_of t w)) (λ h. refl) (λ h. refl) (λ h. refl)
    (λ h. refl) (λ h. refl) (λ h. refl) (λ h. absurd (h refl)) (λ h. refl) (λ h. refl) (λ h. refl) (λ h. refl)
    (λ h. refl) (λ t past h. ap as_array (sym (content_of-past t w past))) (w / 2 ^ 60)

pub as_text-other : (w : ℕ) → w / 2 ^ 60 ≢ 7 → None ≡ as_text (content_in w)
unfolding content_in
as_text-other w = by_type (λ t. t ≢ 7 → None ≡ as_text (content_of t w)) (λ h. refl) (λ h. refl) (λ h. refl) (λ h. refl)
    (λ h. refl) (λ h. refl) (λ h. refl) (λ h. absurd (h refl)) (λ h. refl) (λ h. refl) (λ h. refl) (λ h. refl)
    (λ t past h. ap as_text (sym (content_of-past t w past))) (w / 2 ^ 60)

pub as_dictionary-other : (w : ℕ) → w / 2 ^ 60 ≢ 8 → None ≡ as_dictionary (content_in w)
unfolding content_in
as_dictionary-other w = by_type (λ t. t ≢ 8 → None ≡ as_dictionary (content_of t w)) (λ h. refl) (λ h. refl) (λ h. refl)
    (λ h. refl) (λ h. refl) (λ h. refl) (λ h. refl) (λ h. refl) (λ h. absurd (h refl)) (λ h. refl) (λ h. refl)
    (λ h. refl) (λ t past h. ap as_dictionary (sym (content_of-past t w past))) (w / 2 ^ 60)

pub as_lock-other : (w : ℕ) → w / 2 ^ 60 ≢ 9 → None ≡ as_lock (content_in w)
unfolding content_in
as_lock-other w = by_type (λ t. t ≢ 9 → None ≡ as_lock (content_of t w)) (λ h. refl) (λ h. refl) (λ h. refl) (λ h. refl)
    (λ h. refl) (λ h. refl) (λ h. refl) (λ h. refl) (λ h. refl) (λ h. absurd (h refl)) (λ h. refl) (λ h. refl)
    (λ t past h. ap as_lock (sym (content_of-past t w past))) (w / 2 ^ 60)

pub as_condition-other : (w : ℕ) → w / 2 ^ 60 ≢ 10 → None ≡ as_condition (content_in w)
unfolding content_in
as_condition-other w = by_type (λ t. t ≢ 10 → None ≡ as_condition (content_of t w)) (λ h. refl) (λ h. refl) (λ h. refl)
    (λ h. refl) (λ h. refl) (λ h. refl) (λ h. refl) (λ h. refl) (λ h. refl) (λ h. refl) (λ h. absurd (h refl))
    (λ h. refl) (λ t past h. ap as_condition (sym (content_of-past t w past))) (w / 2 ^ 60)

pub as_body-other : (w : ℕ) → w / 2 ^ 60 ≢ 11 → None ≡ as_body (content_in w)
unfolding content_in
as_body-other w = by_type (λ t. t ≢ 11 → None ≡ as_body (content_of t w)) (λ h. refl) (λ h. refl) (λ h. refl)
    (λ h. refl) (λ h. refl) (λ h. refl) (λ h. refl) (λ h. refl) (λ h. refl) (λ h. refl) (λ h. refl)
    (λ h. absurd (h refl)) (λ t past h. ap as_body (sym (content_of-past t w past))) (w / 2 ^ 60)

pub as_part-other : (w : ℕ) → w / 2 ^ 60 ≢ 6 → w / 2 ^ 60 ≢ 7 → None ≡ as_part (content_in w)
unfolding content_in
as_part-other w = by_type (λ t. t ≢ 6 → t ≢ 7 → None ≡ as_part (content_of t w)) (λ g h. refl) (λ g h. refl)
    (λ g h. refl) (λ g h. refl) (λ g h. refl) (λ g h. refl) (λ g h. absurd (g refl)) (λ g h. absurd (h refl))
    (λ g h. refl) (λ g h. refl) (λ g h. refl) (λ g h. refl)
    (λ t past g h. ap as_part (sym (content_of-past t w past))) (w / 2 ^ 60)

pub kind_of-other : (w : ℕ) → (6 ≤ w / 2 ^ 60 → w / 2 ^ 60 ≤ 11 → ⊥) → None ≡ kind_of (content_in w)
unfolding content_in
kind_of-other w = by_type (λ t. (6 ≤ t → t ≤ 11 → ⊥)
    → None ≡ kind_of (content_of t w)) (λ h. refl) (λ h. refl) (λ h. refl) (λ h. refl) (λ h. refl) (λ h. refl)
    (λ h. absurd (h (omega arith) (omega arith))) (λ h. absurd (h (omega arith) (omega arith)))
    (λ h. absurd (h (omega arith) (omega arith))) (λ h. absurd (h (omega arith) (omega arith)))
    (λ h. absurd (h (omega arith) (omega arith))) (λ h. absurd (h (omega arith) (omega arith)))
    (λ t past h. ap kind_of (sym (content_of-past t w past))) (w / 2 ^ 60)

pub is_mark-at : (w : ℕ) → nat_eq (w / 2 ^ 60) 3 ≡ is_mark (content_in w)
unfolding content_in
is_mark-at w = by_type (λ t. nat_eq t 3 ≡ is_mark (content_of t w)) refl refl refl refl refl refl refl refl refl refl
    refl refl (λ t past. let n : nat_eq t 3 ≡ false = grind (arith, nat_tests) in
    n ∙ ap is_mark (sym (content_of-past t w past))) (w / 2 ^ 60)

pub is_reference-at : (w : ℕ) → is_reference w ≡ is_some (address_of (content_in w))
unfolding content_in
is_reference-at w = by_type (λ t. (nat_le 6 t && nat_le t 11)
    ≡ is_some (address_of (content_of t w))) refl refl refl refl refl refl refl refl refl refl refl refl
    (λ t past. let n : nat_le t 11 ≡ false = grind (arith, nat_tests) in
    let m : nat_le 6 t ≡ true = grind (arith, nat_tests) in
    rw (m, n) (ap (λ c. is_some (address_of c)) (sym (content_of-past t w past)))) (w / 2 ^ 60)

pub address_of-at : (w : ℕ) → is_some (address_of (content_in w)) ≡ true
    → Some (address_in w) ≡ address_of (content_in w)
unfolding content_in
address_of-at w = by_type (λ t. is_some (address_of (content_of t w)) ≡ true
    → Some (address_in w) ≡ address_of (content_of t w)) (λ h. cc) (λ h. cc) (λ h. cc) (λ h. cc) (λ h. cc) (λ h. cc)
    (λ h. refl) (λ h. refl) (λ h. refl) (λ h. refl) (λ h. refl) (λ h. refl)
    (λ t past h. let none : is_some (address_of (content_of t w)) ≡ false =
    ap (λ c. is_some (address_of c)) (content_of-past t w past) in let clash : false ≡ true = sym none ∙ h in
    cc) (w / 2 ^ 60)

pub address_of-above : (w : ℕ) → 6 ≤ w / 2 ^ 60 → nat_le (w / 2 ^ 60) 11 ≡ is_some (address_of (content_in w))
unfolding content_in
address_of-above w = by_type (λ t. 6 ≤ t → nat_le t 11 ≡ is_some (address_of (content_of t w)))
    (λ h. absurd (omega arith)) (λ h. absurd (omega arith)) (λ h. absurd (omega arith)) (λ h. absurd (omega arith))
    (λ h. absurd (omega arith)) (λ h. absurd (omega arith)) (λ h. refl) (λ h. refl) (λ h. refl) (λ h. refl)
    (λ h. refl) (λ h. refl)
    (λ t past h. let n : nat_le t 11 ≡ false = grind (arith, nat_tests) in
    n ∙ ap (λ c. is_some (address_of c)) (sym (content_of-past t w past))) (w / 2 ^ 60)

pub address_of-below : (w : ℕ) → w / 2 ^ 60 < 6 → nat_le 6 (w / 2 ^ 60) ≡ is_some (address_of (content_in w))
unfolding content_in
address_of-below w = by_type (λ t. t < 6 → nat_le 6 t ≡ is_some (address_of (content_of t w))) (λ h. refl) (λ h. refl)
    (λ h. refl) (λ h. refl) (λ h. refl) (λ h. refl) (λ h. absurd (omega arith)) (λ h. absurd (omega arith))
    (λ h. absurd (omega arith)) (λ h. absurd (omega arith)) (λ h. absurd (omega arith)) (λ h. absurd (omega arith))
    (λ t past h. absurd (omega arith)) (w / 2 ^ 60)

pub null-at : (w : ℕ) → (1 ≤ w / 2 ^ 60 → w / 2 ^ 60 ≤ 11 → ⊥) → Null ≡ content_in w
unfolding content_in
null-at w = by_type (λ t. (1 ≤ t → t ≤ 11 → ⊥) → Null ≡ content_of t w) (λ h. refl)
    (λ h. absurd (h (omega arith) (omega arith))) (λ h. absurd (h (omega arith) (omega arith)))
    (λ h. absurd (h (omega arith) (omega arith))) (λ h. absurd (h (omega arith) (omega arith)))
    (λ h. absurd (h (omega arith) (omega arith))) (λ h. absurd (h (omega arith) (omega arith)))
    (λ h. absurd (h (omega arith) (omega arith))) (λ h. absurd (h (omega arith) (omega arith)))
    (λ h. absurd (h (omega arith) (omega arith))) (λ h. absurd (h (omega arith) (omega arith)))
    (λ h. absurd (h (omega arith) (omega arith))) (λ t past h. sym (content_of-past t w past))
    (w / 2 ^ 60)

-- ---- words of the format

-- the bits above and below the attribute of a word
module _ (w : ℕ) (word : IsWord w) where
  content : Content
  content = content_in w

  pub sum-of_word : type_number (content_in w) * 2 ^ 60 + bit_of (executable_in w) * 2 ^ 59 + content_bits
      (content_in w) ≡ w
  unfolding packed
  sum-of_word = word.exact

  pub IsContent-of_word : IsContent (content_in w)
  IsContent-of_word = word.value.content

  pub literal_body-of_word : is_body (content_in w) && executable_in w ≡ false
  literal_body-of_word = word.value.literal_body

  pub type-of_word : w / 2 ^ 60 ≡ type_number (content_in w)
  type-of_word = ap (λ n. n / 2 ^ 60) (sym sum-of_word)
      ∙ type-of_sum _ _ (content_bits-below (content_in w) IsContent-of_word) (executable_in w)

  pub low-of_word : w % 2 ^ 59 ≡ content_bits (content_in w)
  low-of_word = ap (λ n. n % 2 ^ 59) (sym sum-of_word)
      ∙ low-of_sum _ _ (content_bits-below (content_in w) IsContent-of_word) (executable_in w)

-- a null is the only word of type 0
pub is_null-at : (w : ℕ) → IsWord w → nat_eq (w / 2 ^ 60) 0 ≡ is_null (content_in w)
is_null-at w word =
    let same : w / 2 ^ 60 ≡ type_number (content_in w) = type-of_word w word in
    ap (λ n. nat_eq n 0) same ∙ zero_type (content_in w)
  where
    zero_type : (c : Content) → nat_eq (type_number c) 0 ≡ is_null c
    zero_type Null = refl
    zero_type _ = refl

-- an operator of the layout is its type, its flag and its number
pub operator_below : (w : ℕ) → IsWord w → w / 2 ^ 60 ≡ 5 → w % 2 ^ 59 < 99
unfolding packed
operator_below w word is =
    let operator : OperatorName = slice_index_or every_operator (w % 2 ^ 8) Pop in
    let content : content_in w ≡ Operator operator = content_in-at w 5 is in
    let exact : type_number (Operator operator) * 2 ^ 60 + bit_of (executable_in w) * 2 ^ 59
    + content_bits (Operator operator) ≡ w =
    subst (λ (c : Content). type_number c * 2 ^ 60 + bit_of (executable_in w) * 2 ^ 59
    + content_bits c ≡ w) content word.exact in
    let below = operator_number-below operator in
    omega (arith, exact, below)
