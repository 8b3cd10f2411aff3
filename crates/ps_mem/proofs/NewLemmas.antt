-- The header of a new object, and the words with it.
use Rattle.std.proofs.Common.{◌≡◌, ℕ, zero, suc, ◌+◌, ◌-◌, ◌<◌, ◌≤◌, List, [], ◌∷◌, length, take, drop, replicate, get_or, Some, None, refl, sym, ap, arith, ◌∙◌, subst}
use Rattle.std.specs.Prelude.{slice_get, slice_set}
use Rattle.ps_language.specs.declared.kinds.Kind.{Kind}
use Rattle.ps_language.specs.declared.kinds.Kind.TheVariants.{Array, Text, Dictionary, Lock, Condition, Body}
use Rattle.ps_word.specs.declared.headers.Header.{Header}
use Rattle.ps_word.specs.Headers.{kind_number, header_packed, IsHeader, kind_in, fields_in, birth_in}
use Rattle.ps_word.proofs.HeaderPlaces.{kind_in-packed, fields_in-packed, birth_in-packed}
use Rattle.ps_mem.specs.Heap.{Space, object_at, made, made_body}
use Rattle.std.specs.Prelude.{true}
use Rattle.ps_mem.specs.Objects.{wanting, all_headers, is_kind_number, heap_in, kind_of_number}
use Rattle.ps_mem.proofs.RegionLemmas.{some_space}
use Rattle.ps_mem.proofs.HeapNews.{heap-new, heap-new_body, wanting-new, headers-new, blank-new, length-new, free}

pub kind_of_number-kind_number : (kind : Kind) → kind_of_number (kind_number kind) ≡ kind
kind_of_number-kind_number Array = refl
kind_of_number-kind_number Text = refl
kind_of_number-kind_number Dictionary = refl
kind_of_number-kind_number Lock = refl
kind_of_number-kind_number Condition = refl
kind_of_number-kind_number Body = refl

is_kind_number-kind_number : (kind : Kind) → is_kind_number (kind_number kind) ≡ true
is_kind_number-kind_number Array = refl
is_kind_number-kind_number Text = refl
is_kind_number-kind_number Dictionary = refl
is_kind_number-kind_number Lock = refl
is_kind_number-kind_number Condition = refl
is_kind_number-kind_number Body = refl

pub slice_get-index : (xs : List ℕ) (i : ℕ) → i < length xs → slice_get xs i ≡ Some (get_or xs i 0)
slice_get-index [] i h = absurd (omega arith)
slice_get-index (x ∷ xs) zero h = refl
slice_get-index (x ∷ xs) (suc i) h = slice_get-index xs i (omega arith)

module _ (words : List ℕ) (used next : ℕ) (within : used ≤ length words) (whole : wanting (take used words) 0
    ≡ 0) (blank : drop used words ≡ replicate (length words - used) 0)
    (h : Header) (fits : IsHeader h) (number : ℕ) (packed : number ≡ header_packed h) (n : ℕ) (count : h.fields
    ≡ n) (room : used + (2 + n) ≤ length words) where
  fields : fields_in number ≡ n
  fields = ap fields_in packed ∙ (fields_in-packed h fits ∙ count)

  kind_is : kind_of_number (kind_in number) ≡ h.kind
  kind_is = ap (λ k. kind_of_number (kind_in k)) packed
      ∙ (ap kind_of_number (kind_in-packed h fits) ∙ kind_of_number-kind_number h.kind)

  birth_is : birth_in number ≡ h.birth
  birth_is = ap birth_in packed ∙ birth_in-packed h fits

  end : used + 2 + n ≡ used + (2 + n)
  end = omega arith

  pub nothing_there : (space : Space) → object_at (heap_in words used next space) used ≡ None
  nothing_there space = free words used next space within whole blank number n fields room

  pub heap_with_new : h.birth ≡ next → (space : Space)
      → heap_in (slice_set words used number) (used + 2 + n) (next + 1) space
      ≡ made (heap_in words used next space) used h.kind n
  heap_with_new birth space =
      ap (λ k. heap_in (slice_set words used number) k (next + 1) space) end
      ∙ heap-new words used next space within whole blank number n fields room h.kind kind_is (birth_is ∙ birth)

  pub heap_with_body : h.kind ≡ Body → (space : Space)
      → heap_in (slice_set words used number) (used + 2 + n) next space
      ≡ made_body (heap_in words used next space) used h.birth n
  heap_with_body kind space =
      ap (λ k. heap_in (slice_set words used number) k next space) end
      ∙ heap-new_body words used next space within whole blank number n fields room h.birth (kind_is ∙ kind) birth_is

  pub whole_with_new : wanting (take (used + 2 + n) (slice_set words used number)) 0 ≡ 0
  whole_with_new = ap (λ k. wanting (take k (slice_set words used number)) 0) end
      ∙ wanting-new words used next some_space within whole blank number n fields room

  pub headers_with_new : all_headers (take used words) 0 ≡ true
      → all_headers (take (used + 2 + n) (slice_set words used number)) 0 ≡ true
  headers_with_new old =
      ap (λ k. all_headers (take k (slice_set words used number)) 0) end
      ∙ headers-new words used next some_space within whole blank number n fields room
      (ap (λ k. is_kind_number (kind_in k)) packed
      ∙ (ap is_kind_number (kind_in-packed h fits) ∙ is_kind_number-kind_number h.kind)) old

  pub blank_with_new : drop (used + 2 + n) (slice_set words used number)
      ≡ replicate (length (slice_set words used number) - (used + 2 + n)) 0
  blank_with_new =
      subst (λ k. drop k (slice_set words used number) ≡ replicate (length (slice_set words used number) - k) 0)
      (sym end)
      (blank-new words used next some_space within whole blank number n fields room)

  pub length_with_new : length (slice_set words used number) ≡ length words
  length_with_new = length-new words used next some_space within whole blank number n fields room
