-- Words with another attribute, another access or another address.
use Rattle.std.proofs.Common.{◌≡◌, ℕ, ◌+◌, ◌*◌, ◌/◌, ◌%◌, ◌^◌, ◌<◌, ◌&&◌, Bool, true, false, refl, sym, ap, ◌∙◌, arith}
use Rattle.std.proofs.Common.{is_some, IsSome}
use Rattle.ps_language.specs.declared.access.Access.{Access}
use Rattle.ps_word.specs.declared.values.Content.{Content}
use Rattle.ps_word.specs.declared.values.Content.TheVariants.{Null, Integer, Boolean, Mark, Name, Operator, Array, Text}
use Rattle.ps_word.specs.declared.values.Content.TheVariants.{Dictionary, Lock, Condition, Body}
use Rattle.ps_word.specs.declared.values.Value.{Value}
use Rattle.ps_word.specs.Format.{type_number, access_number, bit_of, content_bits, packed, IsContent, IsInFormat}
use Rattle.ps_word.specs.Format.{is_body, address_in, content_of, content_in, executable_in, value_in, IsWord}
use Rattle.ps_word.specs.Readers.{as_part, address_of, with_access, with_address, is_reference, readdressed}
use Rattle.ps_word.proofs.Packing.{access_number-below, type-of_sum, executable_in-of_sum, low-of_sum, content_of-low}
use Rattle.ps_word.proofs.Packing.{value_in-is, IsWord-is}
use Rattle.ps_word.proofs.Places.{sum-of_word, IsContent-of_word, literal_body-of_word, type-of_word, low-of_word}
use Rattle.ps_word.proofs.Places.{is_reference-at}

bit_of-below : (e : Bool) → bit_of e < 2
bit_of-below true = omega arith
bit_of-below false = omega arith

-- ---- another attribute

module _ (w : ℕ) (e : Bool) where
  changed : ℕ
  changed = (w / 2 ^ 60) * 2 ^ 60 + bit_of e * 2 ^ 59 + w % 2 ^ 59

  below : w % 2 ^ 59 < 2 ^ 59
  below = omega arith

  content_in-changed : content_in changed ≡ content_in w
  unfolding content_in changed
  content_in-changed =
      let t : ℕ = w / 2 ^ 60 in
      ap (λ n. content_of n changed) (type-of_sum t (w % 2 ^ 59) below e)
      ∙ (sym (content_of-low t changed) ∙ (ap (content_of t) (low-of_sum t (w % 2 ^ 59) below e) ∙ content_of-low t w))

  executable_in-changed : executable_in changed ≡ e
  unfolding changed
  executable_in-changed = executable_in-of_sum (w / 2 ^ 60) (w % 2 ^ 59) below e

  pub value_in-with_executable : value_in ((w / 2 ^ 60) * 2 ^ 60 + bit_of e * 2 ^ 59 + w % 2 ^ 59)
      ≡ record (value_in w) { executable = e }
  unfolding changed
  value_in-with_executable =
      ap (λ (c : Content). record { content = c; executable = executable_in changed }) content_in-changed
      ∙ ap (λ (b : Bool). record { content = content_in w; executable = b }) executable_in-changed

  pub IsWord-with_executable : IsWord w → is_body (content_in w) && e ≡ false
      → IsWord ((w / 2 ^ 60) * 2 ^ 60 + bit_of e * 2 ^ 59 + w % 2 ^ 59)
  unfolding packed
  IsWord-with_executable word literal =
      let v : Value = record { content = content_in w; executable = e } in
      let number : packed v ≡ (w / 2 ^ 60) * 2 ^ 60 + bit_of e * 2 ^ 59 + w % 2 ^ 59 =
      rw (type-of_word w word, low-of_word w word) refl in
      IsWord-is _ v (record { content = IsContent-of_word w word; literal_body = literal }) number

-- ---- another access

module _ (a : Access) (e : Bool) where
  -- in each part of an array or of a string
  pub accessed-sum : (c : Content) → IsContent c → IsSome (as_part c)
      → ((type_number c * 2 ^ 60 + bit_of e * 2 ^ 59 + content_bits c) / 2 ^ 59) * 2 ^ 59 + access_number a * 2 ^ 57
      + (type_number c * 2 ^ 60 + bit_of e * 2 ^ 59 + content_bits c) % 2 ^ 57
      ≡ type_number (with_access c a) * 2 ^ 60 + bit_of e * 2 ^ 59 + content_bits (with_access c a)
  accessed-sum (Array p) h is = let x = h.address in let y = h.within in let z = access_number-below p.access in
      let u = access_number-below a in let b = bit_of-below e in omega arith
  accessed-sum (Text p) h is = let x = h.address in let y = h.within in let z = access_number-below p.access in
      let u = access_number-below a in let b = bit_of-below e in omega arith
  accessed-sum Null h is = cc
  accessed-sum (Integer _) h is = cc
  accessed-sum (Boolean _) h is = cc
  accessed-sum Mark h is = cc
  accessed-sum (Name _) h is = cc
  accessed-sum (Operator _) h is = cc
  accessed-sum (Dictionary _) h is = cc
  accessed-sum (Lock _) h is = cc
  accessed-sum (Condition _) h is = cc
  accessed-sum (Body _) h is = cc

IsContent-with_access : (a : Access) (c : Content) → IsContent c → IsContent (with_access c a)
IsContent-with_access a (Array p) h = record { address = h.address; within = h.within }
IsContent-with_access a (Text p) h = record { address = h.address; within = h.within }
IsContent-with_access a Null h = h
IsContent-with_access a (Integer _) h = h
IsContent-with_access a _ h = h

is_body-with_access : (a : Access) (c : Content) → is_body (with_access c a) ≡ is_body c
is_body-with_access a Null = refl
is_body-with_access a _ = refl

module _ (w : ℕ) (word : IsWord w) (a : Access) (is : IsSome (as_part (content_in w))) where
  accessed_value : Value
  accessed_value = record { content = with_access (content_in w) a; executable = executable_in w }

  accessed_good : IsInFormat accessed_value
  unfolding accessed_value
  accessed_good = record {
    content = IsContent-with_access a (content_in w) (IsContent-of_word w word);
    literal_body = ap (λ b. b && executable_in w) (is_body-with_access a (content_in w)) ∙ literal_body-of_word w word;
  }

  accessed_number : packed accessed_value ≡ (w / 2 ^ 59) * 2 ^ 59 + access_number a * 2 ^ 57 + w % 2 ^ 57
  unfolding accessed_value packed
  accessed_number =
      sym (ap (λ m. (m / 2 ^ 59) * 2 ^ 59 + access_number a * 2 ^ 57 + m % 2 ^ 57) (sym (sum-of_word w word))
      ∙ accessed-sum a (executable_in w) (content_in w) (IsContent-of_word w word) is)

  pub value_in-with_access : value_in ((w / 2 ^ 59) * 2 ^ 59 + access_number a * 2 ^ 57 + w % 2 ^ 57)
      ≡ record (value_in w) { content = with_access (content_in w) a }
  unfolding accessed_value
  value_in-with_access = value_in-is _ accessed_value accessed_good accessed_number

  pub IsWord-with_access : IsWord ((w / 2 ^ 59) * 2 ^ 59 + access_number a * 2 ^ 57 + w % 2 ^ 57)
  IsWord-with_access = IsWord-is _ accessed_value accessed_good accessed_number

-- ---- another address

module _ (a : ℕ) (fits : a < 2 ^ 24) (e : Bool) where
  pub readdressed-sum : (c : Content) → IsContent c → is_some (address_of c) ≡ true
      → readdressed (type_number c * 2 ^ 60 + bit_of e * 2 ^ 59 + content_bits c) a
      ≡ type_number (with_address c a) * 2 ^ 60 + bit_of e * 2 ^ 59 + content_bits (with_address c a)
  unfolding readdressed
  readdressed-sum (Array p) h is = let x = h.address in let y = h.within in let z = access_number-below p.access in
      let b = bit_of-below e in omega arith
  readdressed-sum (Text p) h is = let x = h.address in let y = h.within in let z = access_number-below p.access in
      let b = bit_of-below e in omega arith
  readdressed-sum (Dictionary _) h is = let b = bit_of-below e in omega arith
  readdressed-sum (Lock _) h is = let b = bit_of-below e in omega arith
  readdressed-sum (Condition _) h is = let b = bit_of-below e in omega arith
  readdressed-sum (Body _) h is = let b = bit_of-below e in omega arith
  readdressed-sum Null h is = cc
  readdressed-sum (Integer _) h is = cc
  readdressed-sum (Boolean _) h is = cc
  readdressed-sum Mark h is = cc
  readdressed-sum (Name _) h is = cc
  readdressed-sum (Operator _) h is = cc

  IsContent-with_address : (c : Content) → IsContent c → IsContent (with_address c a)
  IsContent-with_address (Array p) h = record { address = fits; within = h.within }
  IsContent-with_address (Text p) h = record { address = fits; within = h.within }
  IsContent-with_address (Dictionary _) h = fits
  IsContent-with_address (Lock _) h = fits
  IsContent-with_address (Condition _) h = fits
  IsContent-with_address (Body _) h = fits
  IsContent-with_address Null h = h
  IsContent-with_address (Integer _) h = h
  IsContent-with_address _ h = h

is_body-with_address : (a : ℕ) (c : Content) → is_body (with_address c a) ≡ is_body c
is_body-with_address a Null = refl
is_body-with_address a _ = refl

module _ (w : ℕ) (word : IsWord w) (a : ℕ) (fits : a < 2 ^ 24) (is : is_reference w ≡ true) where
  readdressed_value : Value
  readdressed_value = record { content = with_address (content_in w) a; executable = executable_in w }

  readdressed_good : IsInFormat readdressed_value
  unfolding readdressed_value
  readdressed_good = record {
    content = IsContent-with_address a fits (executable_in w) (content_in w) (IsContent-of_word w word);
    literal_body = ap (λ b. b && executable_in w) (is_body-with_address a (content_in w)) ∙ literal_body-of_word w word;
  }

  readdressed_number : packed readdressed_value ≡ readdressed w a
  unfolding readdressed_value packed
  readdressed_number =
      sym (ap (λ m. readdressed m a) (sym (sum-of_word w word))
      ∙ readdressed-sum a fits (executable_in w) (content_in w) (IsContent-of_word w word) (sym (is_reference-at w)
      ∙ is))

  pub value_in-readdressed : value_in (readdressed w a)
      ≡ record (value_in w) { content = with_address (content_in w) a }
  unfolding readdressed_value
  value_in-readdressed = value_in-is _ readdressed_value readdressed_good readdressed_number

  pub IsWord-readdressed : IsWord (readdressed w a)
  IsWord-readdressed = IsWord-is _ readdressed_value readdressed_good readdressed_number

-- a word with its own address put again is the same
pub readdressed-same : (w : ℕ) → readdressed w (address_in w) ≡ w
unfolding readdressed
readdressed-same w = omega arith

pub address_in-readdressed : (w a : ℕ) → a < 2 ^ 24 → address_in (readdressed w a) ≡ a
unfolding readdressed
address_in-readdressed w a h = omega arith

pub readdressed-twice : (w a b : ℕ) → a < 2 ^ 24 → readdressed (readdressed w a) b ≡ readdressed w b
unfolding readdressed
readdressed-twice w a b h = omega arith

-- the type stays
pub type-readdressed : (w a : ℕ) → a < 2 ^ 24 → readdressed w a / 2 ^ 60 ≡ w / 2 ^ 60
unfolding readdressed
type-readdressed w a h = omega arith
