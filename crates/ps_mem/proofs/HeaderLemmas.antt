-- The header of what stands, as it is read.
use Rattle.std.proofs.Common.{◌≡◌, ℕ, ◌<◌, ◌≤◌, List, length, take, Option, Some, None, refl, sym, ap, arith, ◌∙◌, subst, inl, inr}
use Rattle.std.proofs.lemmas.Bool.{cases_eq}
use Rattle.std.proofs.lemmas.Bool.Decides.{nat_tests}
use Rattle.std.specs.Prelude.{slice_get, slice_index, true, IsSome, IfSome, ◌↔◌}
use Rattle.ps_word.specs.declared.headers.Header.{Header}
use Rattle.ps_word.specs.Headers.{kind_number, header_packed, IsHeader, kind_in, fields_in, birth_in}
use Rattle.ps_word.proofs.HeaderPlaces.{header_packed-parts}
use Rattle.ps_mem.specs.Heap.{Space, Standing, object_at}
use Rattle.ps_mem.specs.Objects.{wanting, all_headers, is_kind_number, heap_in, kind_of_number}
use Rattle.ps_mem.proofs.RegionLemmas.{some_space}
use Rattle.ps_mem.proofs.HeapWalks.{fields_within, header-read, header_kind}
use Rattle.ps_mem.proofs.NewLemmas.{slice_get-index}

standing_some : (found : Option Standing) → IsSome found → (o : Standing) × (found ≡ Some o)
standing_some None h = cc
standing_some (Some o) h = (o, refl)

at_kind : (n k : ℕ) → n ≡ k → kind_number (kind_of_number k) ≡ k → kind_number (kind_of_number n) ≡ n
at_kind n k e h = subst (λ j. kind_number (kind_of_number j) ≡ j) (sym e) h

kind_number-kind_of_number : (n : ℕ) → is_kind_number n ≡ true → kind_number (kind_of_number n) ≡ n
kind_number-kind_of_number n h =
    let low : 6 ≤ n = grind (arith, nat_tests, h) in
    let high : n ≤ 11 = grind (arith, nat_tests, h) in
    elim (cases_eq n 6) [
      | inl e ↦ at_kind n 6 e refl
      | inr not6 ↦ elim (cases_eq n 7) [
        | inl e ↦ at_kind n 7 e refl
        | inr not7 ↦ elim (cases_eq n 8) [
          | inl e ↦ at_kind n 8 e refl
          | inr not8 ↦ elim (cases_eq n 9) [
            | inl e ↦ at_kind n 9 e refl
            | inr not9 ↦ elim (cases_eq n 10) [
              | inl e ↦ at_kind n 10 e refl
              | inr not10 ↦ at_kind n 11 (omega arith) refl
            ]
          ]
        ]
      ]
    ]

if_some : (found : Option Standing) (P : Standing → Type 0) (o : Standing) → found ≡ Some o → P o → IfSome found P
if_some None P o e p = cc
if_some (Some x) P o e p = let same : x ≡ o = cc in subst P (sym same) p

module _ (words : List ℕ) (used next : ℕ) (within : used ≤ length words) (whole : wanting (take used words) 0
    ≡ 0) (headers : all_headers (take used words) 0 ≡ true)
    (a : ℕ) (stands : (space : Space) → IsSome (object_at (heap_in words used next space) a)) where
  pub header_place : a < length words
  header_place =
      let (o, at) = standing_some (object_at (heap_in words used next some_space) a) (stands some_space) in
      let inside = fields_within words used next some_space within whole a o at in
      omega (arith, inside, within)

  module _ (x : ℕ) (read : x ≡ slice_index words a) where
    there : slice_get words a ≡ Some x
    there = slice_get-index words a header_place ∙ ap Some (sym read)

    abbrev pub found : Header
    found = record { kind = kind_of_number (kind_in x); fields = fields_in x; birth = birth_in x }

    fits : IsHeader found
    fits = record { fields = omega arith; birth = omega arith }

    packed : header_packed found ≡ x
    packed =
        let (o, at) = standing_some (object_at (heap_in words used next some_space) a) (stands some_space) in
        header_packed-parts x (kind_of_number (kind_in x))
        (kind_number-kind_of_number (kind_in x)
        (header_kind words used next some_space within whole a o x at there headers))

    module _ (result : Option Header)
        (unpacked : (h : Header) → (result ≡ Some h) ↔ (IsHeader h × (header_packed h ≡ x))) where
      pub header_some : result ≡ Some found
      header_some = (unpacked found).1 (fits, packed)

      pub header_is : (h : Header) → result ≡ Some h → (space : Space)
          → IfSome (object_at (heap_in words used next space) a) (λ o. h ≡ record {
            kind = o.kind;
            fields = length o.fields;
            birth = o.birth;
          })
      header_is h e space =
          let (o, at) = standing_some (object_at (heap_in words used next space) a) (stands space) in
          let (kind, birth, fields) = header-read words used next space within whole a o x at there in
          let one : Some h ≡ Some found = sym e ∙ header_some in
          let is : h ≡ found = cc in
          if_some (object_at (heap_in words used next space) a) (λ p. h ≡ record {
            kind = p.kind;
            fields = length p.fields;
            birth = p.birth;
          }) o at
          (is ∙ (λ i. record { kind = sym kind i; fields = sym fields i; birth = sym birth i }))
