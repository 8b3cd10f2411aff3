-- What renaming does to the words of the format.
use Rattle.std.proofs.Common.{◌≡◌, ℕ, ◌+◌, ◌*◌, ◌^◌, ◌<◌, ◌&&◌, Bool, true, false, nat_eq, nat_le, List, Some, Option}
use Rattle.std.proofs.Common.{refl, ap, ◌∙◌, arith, is_some}
use Rattle.std.specs.Prelude.{if◌then◌else◌}
use Rattle.ps_language.specs.declared.kinds.Kind.{Kind}
use Rattle.ps_language.specs.declared.kinds.Kind.TheVariants as kinds
use Rattle.ps_word.specs.declared.headers.Header.{Header}
use Rattle.ps_word.specs.declared.values.Content.{Content}
use Rattle.ps_word.specs.declared.values.Content.TheVariants.{Null, Integer, Boolean, Mark, Name, Operator, Array, Text}
use Rattle.ps_word.specs.declared.values.Content.TheVariants.{Dictionary, Lock, Condition, Body}
use Rattle.ps_word.specs.declared.values.Value.{Value}
use Rattle.ps_word.specs.Format.{packed, IsInFormat, IsContent, type_number, content_bits, bit_of, address_in}
use Rattle.ps_word.specs.Headers.{header_packed, IsHeader, kind_number}
use Rattle.ps_word.specs.Readers.{address_of, with_address, is_reference, readdressed}
use Rattle.ps_word.proofs.Packing.{content_bits-below, type-of_sum, access_number-below}
use Rattle.ps_word.proofs.Changes.{readdressed-sum}
use Rattle.ps_word.proofs.HeaderPlaces.{kind_in-packed}
use Rattle.ps_core_machine.specs.declared.events.Pair.{Pair}
use Rattle.ps_core_machine.specs.Objects.{pair_of, renamed, redirected, holds_values}
use Rattle.ps_core_machine.specs.Steps.{State}
use Rattle.ps_core_machine.specs.Bounds.{AllLow}
use Rattle.ps_core_laws.specs.Renaming.{RenamesValue, renamed_in, Renames}

bit-below : (b : Bool) → bit_of b < 2
bit-below true = omega arith
bit-below false = omega arith

-- the types 6 to 11 are those of references
reference_type : (c : Content)
    → (nat_le 6 (type_number c) && nat_le (type_number c) 11) ≡ is_some (address_of c)
reference_type Null = refl
reference_type (Integer i) = refl
reference_type (Boolean b) = refl
reference_type Mark = refl
reference_type (Name n) = refl
reference_type (Operator o) = refl
reference_type (Array p) = refl
reference_type (Text p) = refl
reference_type (Dictionary a) = refl
reference_type (Lock a) = refl
reference_type (Condition a) = refl
reference_type (Body a) = refl

reference_is : (v : Value) → IsInFormat v → is_reference (packed v) ≡ is_some (address_of v.content)
unfolding packed
reference_is v h =
    let t = type-of_sum (type_number v.content) (content_bits v.content)
    (content_bits-below v.content h.content) v.executable in
    ap (λ (n : ℕ). nat_le 6 n && nat_le n 11) t ∙ reference_type v.content

address_is : (c : Content) (e : Bool) (a : ℕ) → IsContent c → address_of c ≡ Some a
    → address_in (type_number c * 2 ^ 60 + bit_of e * 2 ^ 59 + content_bits c) ≡ a
address_is Null e a h is = absurd (cc)
address_is (Integer i) e a h is = absurd (cc)
address_is (Boolean b) e a h is = absurd (cc)
address_is Mark e a h is = absurd (cc)
address_is (Name n) e a h is = absurd (cc)
address_is (Operator o) e a h is = absurd (cc)
address_is (Array p) e a h is = let same : p.address ≡ a = cc in let x = h.address in let y =
    h.within in let z = access_number-below p.access in let b = bit-below e in omega arith
address_is (Text p) e a h is = let same : p.address ≡ a = cc in let x = h.address in let y =
    h.within in let z = access_number-below p.access in let b = bit-below e in omega arith
address_is (Dictionary d) e a h is = let same : d ≡ a = cc in let b = bit-below e in omega arith
address_is (Lock d) e a h is = let same : d ≡ a = cc in let b = bit-below e in omega arith
address_is (Condition d) e a h is = let same : d ≡ a = cc in let b = bit-below e in omega arith
address_is (Body d) e a h is = let same : d ≡ a = cc in let b = bit-below e in omega arith

address_packed : (v : Value) (a : ℕ) → IsInFormat v → address_of v.content ≡ Some a
    → address_in (packed v) ≡ a
unfolding packed
address_packed v a h is = address_is v.content v.executable a h.content is

moved_packed : (v : Value) (c : ℕ) → IsInFormat v → c < 2 ^ 24
    → is_some (address_of v.content) ≡ true
    → readdressed (packed v) c ≡ packed (record v { content = with_address v.content c })
unfolding packed
moved_packed v c h low is = readdressed-sum c low v.executable v.content h.content is

module _ (pairs : List Pair) (low : AllLow pairs) where
  renames_value : (v : Value) → IsInFormat v → RenamesValue pairs v
  renames_value v h = record {
    plain = λ none. let f : is_reference (packed v) ≡ false = reference_is v h ∙ ap is_some none in
        rw f refl;
    alone = λ a is none.
        let t : is_reference (packed v) ≡ true = reference_is v h ∙ ap is_some is in
        rw t (ap (λ (x : Option Pair). redirected x (packed v))
        (ap (pair_of pairs) (address_packed v a h is) ∙ none));
    moved = λ a p is at.
        let t : is_reference (packed v) ≡ true = reference_is v h ∙ ap is_some is in
        rw t (ap (λ (x : Option Pair). redirected x (packed v))
        (ap (pair_of pairs) (address_packed v a h is) ∙ at)
        ∙ moved_packed v p.replica h (low a p at) (ap is_some is));
  }

  holds : (h : Header) → IsHeader h
      → holds_values (header_packed h) ≡ Rattle.std.specs.Prelude.not
      (nat_eq (kind_number h.kind) 7)
  holds h fits = ap (λ (n : ℕ). Rattle.std.specs.Prelude.not (nat_eq n 7)) (kind_in-packed h fits)

  in_kind : (k : Kind) (header w : ℕ)
      → holds_values header ≡ Rattle.std.specs.Prelude.not (nat_eq (kind_number k) 7)
      → renamed pairs header w ≡ renamed_in k pairs w
  in_kind kinds.Array header w e = rw e refl
  in_kind kinds.Text header w e = rw e refl
  in_kind kinds.Dictionary header w e = rw e refl
  in_kind kinds.Lock header w e = rw e refl
  in_kind kinds.Condition header w e = rw e refl
  in_kind kinds.Body header w e = rw e refl

pub renames : (s : State) → AllLow s.gc.pairs → Renames s
renames s low = record {
  values = renames_value s.gc.pairs low;
  words = λ h w fits. in_kind s.gc.pairs low h.kind (header_packed h) w
      (holds s.gc.pairs low h fits);
}
