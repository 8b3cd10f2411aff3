-- The fields of a dictionary that stands in a sound memory by the bits of their words.
use Rattle.std.proofs.Common.{◌≡◌, ℕ, zero, suc, ◌^◌, ◌<◌, ◌/◌, ◌%◌, Some, None, sym, ap, ◌∙◌, arith, w32}
use Rattle.std.proofs.lemmas.Int.{of_z-to_z}
use native.Mathlib.Decide.{ℕ_discrete}
use Rattle.std.specs.Prelude.{pos, slice_get}
use Rattle.std.specs.Int.{cast_signed, cast_unsigned}
use Rattle.ps_language.specs.declared.kinds.Kind.TheVariants.{Dictionary as DictionaryKind}
use Rattle.ps_word.specs.declared.words.Word.{Word}
use Rattle.ps_word.specs.declared.values.Content.TheVariants.{Integer, Body}
use Rattle.ps_word.specs.declared.values.Value.{Value as WordValue}
use Rattle.ps_word.specs.Format.{content_in, address_in}
use Rattle.ps_word.specs.Readers.{as_integer, as_body}
use Rattle.ps_word.proofs.Places.{content_in-at, as_integer-other, as_body-other}
use Rattle.ps_mem.specs.Heap.{Heap, birth_at, fields_at}
use Rattle.ps_mem.specs.References.{StandsAs}
use Rattle.ps_mem.specs.Shows.{IsNatural, DictionaryFields, IsSound}
use Rattle.ps_dict.specs.Places.{natural_in, body_at}
use Rattle.ps_dict.proofs.Shapes.{shape, count-is, capacity-is, access-is, body-is}

-- the low half of a natural number's word
pub low_natural : (w n : ℕ) → content_in w ≡ Integer (pos n) → w % 2 ^ 32 ≡ n
low_natural w n is = elim (ℕ_discrete (w / 2 ^ 60) 1) [
  | yes e ↦
      let number : Integer (cast_signed w32 (w % 2 ^ 32)) ≡ Integer (pos n) =
      sym (content_in-at w 1 e) ∙ is in
      let same : cast_signed w32 (w % 2 ^ 32) ≡ pos n = cc in
      sym (of_z-to_z w32 (w % 2 ^ 32) (omega arith)) ∙ ap (cast_unsigned w32) same
  | no other ↦ let clash : None ≡ Some (pos n) = as_integer-other w other ∙ ap as_integer is in cc
]

-- the address in a body's word
body_address : (w b : ℕ) → content_in w ≡ Body b → address_in w ≡ b
body_address w b is = elim (ℕ_discrete (w / 2 ^ 60) 11) [
  | yes e ↦ let same : Body (address_in w) ≡ Body b = sym (content_in-at w 11 e) ∙ is in cc
  | no other ↦ let clash : None ≡ Some b = as_body-other w other ∙ ap as_body is in cc
]

natural_read : (v w : Word) (n m : ℕ) → Some v ≡ Some w → IsNatural v n → m ≡ n → w.0 % 2 ^ 32 ≡ m
natural_read v w n m same natural is =
    let one : v ≡ w = cc in
    ap (λ (x : Word). x.0 % 2 ^ 32) (sym one)
    ∙ (low_natural v.0 n (ap (λ (x : WordValue). x.content) natural) ∙ sym is)

module _ (h : Heap) (a : ℕ) (known : StandsAs h DictionaryKind a 4) (sound : IsSound h)
    (w : Word) where
  abbrev d : DictionaryFields h (birth_at h a) (fields_at h a)
  d = shape h a known sound

  pub natural_field : (place : ℕ) → place < 3 → slice_get (fields_at h a) place ≡ Some w
      → w.0 % 2 ^ 32 ≡ natural_in (fields_at h a) place
  natural_field zero below read = natural_read d.count_word w d.count _
      (sym (ap (λ ws. slice_get ws 0) d.are) ∙ read) d.count_is (count-is h a known sound)
  natural_field (suc zero) below read = natural_read d.capacity_word w d.capacity _
      (sym (ap (λ ws. slice_get ws 1) d.are) ∙ read) d.capacity_is (capacity-is h a known sound)
  natural_field (suc (suc zero)) below read = natural_read d.access_word w d.access _
      (sym (ap (λ ws. slice_get ws 2) d.are) ∙ read) d.access_is (access-is h a known sound)
  natural_field (suc (suc (suc n))) below read = absurd (omega (arith, below))

  pub body_field : slice_get (fields_at h a) 3 ≡ Some w → address_in w.0 ≡ body_at h a
  body_field read =
      let both : Some d.body_word ≡ Some w = sym (ap (λ ws. slice_get ws 3) d.are) ∙ read in
      let one : d.body_word ≡ w = cc in
      ap (λ (x : Word). address_in x.0) (sym one)
      ∙ (body_address d.body_word.0 d.body (ap (λ (x : WordValue). x.content) d.body_is)
      ∙ sym (body-is h a known sound))
