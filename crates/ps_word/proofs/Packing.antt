-- The number of a value in the format says that value.
use Rattle.std.proofs.Common.{◌≡◌, ℕ, ◌+◌, ◌*◌, ◌/◌, ◌%◌, ◌^◌, ◌<◌, ◌≤◌, Bool, true, false, refl, sym, ap, ◌∙◌, subst}
use Rattle.std.proofs.Common.{arith, rules, Some, None, slice_index_or, w32}
use Rattle.std.specs.Prelude.{ℤ, ◌↔◌}
use Rattle.std.specs.Int.{cast_signed, cast_unsigned}
use Rattle.std.proofs.lemmas.Int.{to_z-of_z}
use Rattle.std.proofs.lemmas.List.{get_or_past}
use Rattle.std.specs.Prelude.{FitsSigned}
use mir.Val.{bool_byte}
use Rattle.ps_language.specs.declared.access.Access.{Access}
use Rattle.ps_language.specs.declared.access.Access.TheVariants.{Unlimited, ReadOnly, ExecuteOnly, NoAccess}
use Rattle.ps_language.specs.declared.operators.Operator.{Operator as OperatorName}
use Rattle.ps_language.specs.declared.operators.Operator.TheVariants.{Pop}
use Rattle.ps_language.specs.Operators.{every_operator, operator_number}
use Rattle.ps_language.proofs.Numbers.{operator_at-number, operator_number-below}
use Rattle.ps_word.specs.declared.values.Part.{Part}
use Rattle.ps_word.specs.declared.values.Content.{Content}
use Rattle.ps_word.specs.declared.values.Content.TheVariants.{Null, Integer, Boolean, Mark, Name, Operator, Array, Text}
use Rattle.ps_word.specs.declared.values.Content.TheVariants.{Dictionary, Lock, Condition, Body}
use Rattle.ps_word.specs.declared.values.Value.{Value}
use Rattle.ps_word.specs.Format.{type_number, access_number, bit_of, part_bits, content_bits, packed, IsPart, IsContent}
use Rattle.ps_word.specs.Format.{IsInFormat, access_of, address_in, part_in, content_of, content_in, executable_in}
use Rattle.ps_word.specs.Format.{value_in, IsWord}

-- ---- accesses and bits

pub access_of-number : (a : Access) → access_of (access_number a) ≡ a
access_of-number Unlimited = refl
access_of-number ReadOnly = refl
access_of-number ExecuteOnly = refl
access_of-number NoAccess = refl

pub access_number-below : (a : Access) → access_number a < 4
access_number-below Unlimited = omega arith
access_number-below ReadOnly = omega arith
access_number-below ExecuteOnly = omega arith
access_number-below NoAccess = omega arith

pub bool_byte-bit : (b : Bool) → bool_byte b ≡ bit_of b
bool_byte-bit true = refl
bool_byte-bit false = refl

-- ---- parts

module _ (p : Part) (fits : IsPart p) where
  part_bits-below : part_bits p < 2 ^ 59
  part_bits-below = let a = access_number-below p.access in let x = fits.address in let y = fits.within in omega arith

  part_in-bits : part_in (part_bits p) ≡ p
  part_in-bits =
      let n = access_number-below p.access in
      let x = fits.address in
      let y = fits.within in
      let access : (part_bits p / 2 ^ 57) % 4 ≡ access_number p.access = omega arith in
      let address : (part_bits p / 2 ^ 32) % 2 ^ 24 ≡ p.address = omega arith in
      let offset : (part_bits p / 2 ^ 16) % 2 ^ 16 ≡ p.offset = omega arith in
      let count : part_bits p % 2 ^ 16 ≡ p.length = omega arith in
      rw (access, address, offset, count, access_of-number p.access) refl

-- ---- contents

address_of-bits : (a : ℕ) → a < 2 ^ 24 → address_in (a * 2 ^ 32) ≡ a
address_of-bits a h = omega arith

cast_unsigned-below : (i : ℤ) → FitsSigned w32 i → cast_unsigned w32 i < 2 ^ 32
cast_unsigned-below i h = search rules

pub content_bits-below : (c : Content) → IsContent c → content_bits c < 2 ^ 59
content_bits-below Null h = omega arith
content_bits-below (Integer i) h = let b = cast_unsigned-below i h in omega arith
content_bits-below (Boolean true) h = omega arith
content_bits-below (Boolean false) h = omega arith
content_bits-below Mark h = omega arith
content_bits-below (Name n) h = omega arith
content_bits-below (Operator o) h = let b = operator_number-below o in omega arith
content_bits-below (Array p) h = part_bits-below p h
content_bits-below (Text p) h = part_bits-below p h
content_bits-below (Dictionary a) h = omega arith
content_bits-below (Lock a) h = omega arith
content_bits-below (Condition a) h = omega arith
content_bits-below (Body a) h = omega arith

pub type_number-below : (c : Content) → type_number c < 12
type_number-below Null = omega arith
type_number-below _ = omega arith

-- the bits of a content say it
pub content_of-bits : (c : Content) → IsContent c → content_of (type_number c) (content_bits c) ≡ c
content_of-bits Null h = refl
content_of-bits (Integer i) h =
    let b = cast_unsigned-below i h in
    let low : cast_unsigned w32 i % 2 ^ 32 ≡ cast_unsigned w32 i = omega arith in
    ap (λ n. Integer (cast_signed w32 n)) low ∙ ap Integer (to_z-of_z w32 i h)
content_of-bits (Boolean true) h = refl
content_of-bits (Boolean false) h = refl
content_of-bits Mark h = refl
content_of-bits (Name n) h = let low : n % 2 ^ 16 ≡ n = omega arith in ap Name low
content_of-bits (Operator o) h =
    let b = operator_number-below o in
    let low : operator_number o % 2 ^ 8 ≡ operator_number o = omega arith in
    ap (λ n. Operator (slice_index_or every_operator n Pop)) low ∙ ap Operator (operator_at-number o)
content_of-bits (Array p) h = ap Array (part_in-bits p h)
content_of-bits (Text p) h = ap Text (part_in-bits p h)
content_of-bits (Dictionary a) h = ap Dictionary (address_of-bits a h)
content_of-bits (Lock a) h = ap Lock (address_of-bits a h)
content_of-bits (Condition a) h = ap Condition (address_of-bits a h)
content_of-bits (Body a) h = ap Body (address_of-bits a h)

-- what a type says is below bit 59
pub content_of-low : (t w : ℕ) → content_of t (w % 2 ^ 59) ≡ content_of t w
content_of-low t w =
    let integer : (w % 2 ^ 59) % 2 ^ 32 ≡ w % 2 ^ 32 = omega arith in
    let truth : (w % 2 ^ 59) % 2 ≡ w % 2 = omega arith in
    let half : (w % 2 ^ 59) % 2 ^ 16 ≡ w % 2 ^ 16 = omega arith in
    let byte : (w % 2 ^ 59) % 2 ^ 8 ≡ w % 2 ^ 8 = omega arith in
    let address : ((w % 2 ^ 59) / 2 ^ 32) % 2 ^ 24 ≡ (w / 2 ^ 32) % 2 ^ 24 = omega arith in
    let offset : ((w % 2 ^ 59) / 2 ^ 16) % 2 ^ 16 ≡ (w / 2 ^ 16) % 2 ^ 16 = omega arith in
    let access : ((w % 2 ^ 59) / 2 ^ 57) % 4 ≡ (w / 2 ^ 57) % 4 = omega arith in
    rw (integer, truth, half, byte, address, offset, access) refl

-- ---- values

-- the three parts of a word
module _ (t b : ℕ) (below : b < 2 ^ 59) where
  pub type-of_sum : (e : Bool) → (t * 2 ^ 60 + bit_of e * 2 ^ 59 + b) / 2 ^ 60 ≡ t
  type-of_sum true = omega arith
  type-of_sum false = omega arith

  pub executable_in-of_sum : (e : Bool) → executable_in (t * 2 ^ 60 + bit_of e * 2 ^ 59 + b) ≡ e
  unfolding executable_in
  executable_in-of_sum true = let f : ((t * 2 ^ 60 + 1 * 2 ^ 59 + b) / 2 ^ 59) % 2 ≡ 1 = omega arith in rw f refl
  executable_in-of_sum false = let f : ((t * 2 ^ 60 + 0 * 2 ^ 59 + b) / 2 ^ 59) % 2 ≡ 0 = omega arith in rw f refl

  pub low-of_sum : (e : Bool) → (t * 2 ^ 60 + bit_of e * 2 ^ 59 + b) % 2 ^ 59 ≡ b
  low-of_sum true = omega arith
  low-of_sum false = omega arith

-- reading undoes packing
pub value_in-packed : (v : Value) → IsInFormat v → value_in (packed v) ≡ v
unfolding packed content_in
value_in-packed v h =
    let t : ℕ = type_number v.content in
    let b : ℕ = content_bits v.content in
    let below = content_bits-below v.content h.content in
    let w : ℕ = t * 2 ^ 60 + bit_of v.executable * 2 ^ 59 + b in
    let content : content_of (w / 2 ^ 60) w ≡ v.content =
    ap (λ n. content_of n w) (type-of_sum t b below v.executable)
    ∙ (sym (content_of-low t w) ∙ (ap (content_of t) (low-of_sum t b below v.executable)
    ∙ content_of-bits v.content h.content)) in
    let executable : executable_in w ≡ v.executable = executable_in-of_sum t b below v.executable in
    ap (λ (c : Content). record { content = c; executable = executable_in w }) content
    ∙ ap (λ (e : Bool). record { content = v.content; executable = e }) executable

-- the number as the code adds it up
pub packed-parts : (v : Value) (t b : ℕ) → t ≡ type_number v.content → b ≡ content_bits v.content
    → t * 2 ^ 60 + bool_byte v.executable * 2 ^ 59 + b ≡ packed v
unfolding packed
packed-parts v t b types bits = rw (types, bits, bool_byte-bit v.executable) refl

pub IsWord-packed : (v : Value) → IsInFormat v → IsWord (packed v)
IsWord-packed v h = record {
  value = subst IsInFormat (sym (value_in-packed v h)) h;
  exact = ap packed (value_in-packed v h);
}

-- a number that stands for a value is that value's
pub value_in-is : (w : ℕ) (v : Value) → IsInFormat v → packed v ≡ w → value_in w ≡ v
value_in-is w v h e = ap value_in (sym e) ∙ value_in-packed v h

pub IsWord-is : (w : ℕ) (v : Value) → IsInFormat v → packed v ≡ w → IsWord w
IsWord-is w v h e = subst IsWord e (IsWord-packed v h)

-- ---- what `pack` and `unpack` promise

module _ (w : ℕ) (v : Value) (is : v ≡ value_in w) where
  pub unpacks : IsInFormat v → packed v ≡ w → (u : Value) → (Some v ≡ Some u) ↔ (IsInFormat u × (packed u ≡ w))
  unpacks h e u = (
    (λ s. let same : v ≡ u = cc in (subst IsInFormat same h, ap packed (sym same) ∙ e)),
    (λ f. ap Some (is ∙ value_in-is w u f.0 f.1)),
  )

  pub unpacks_none : (IsInFormat v → packed v ≡ w → ⊥) → (u : Value) → (None ≡ Some u) ↔ (IsInFormat u × (packed u ≡ w))
  unpacks_none isnt u = (
    (λ s. cc),
    (λ f. let same : v ≡ u = is ∙ value_in-is w u f.0 f.1 in
        absurd (isnt (subst IsInFormat (sym same) f.0) (ap packed same ∙ f.1))),
  )
