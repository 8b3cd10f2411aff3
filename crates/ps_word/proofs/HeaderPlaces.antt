-- The places of headers and of forwarding words.
use Rattle.std.proofs.Common.{◌≡◌, ℕ, ◌/◌, ◌^◌, ◌<◌, ◌≤◌, refl, sym, ap, ◌∙◌, subst, arith, Option, Some, None}
use Rattle.std.specs.Prelude.{◌↔◌}
use Rattle.ps_language.specs.declared.kinds.Kind.{Kind}
use Rattle.ps_word.specs.declared.headers.Header.{Header}
use Rattle.ps_word.specs.declared.headers.Forward.{Forward}
use Rattle.ps_word.specs.Headers.{kind_number, header_packed, IsHeader, forward_packed, IsForward, kind_in, fields_in}
use Rattle.ps_word.specs.Headers.{birth_in, cycle_in, forward_address_in}

module _ (h : Header) (fits : IsHeader h) where
  pub kind_in-packed : kind_in (header_packed h) ≡ kind_number h.kind
  unfolding header_packed
  kind_in-packed = let f = fits.fields in let b = fits.birth in omega arith

  pub fields_in-packed : fields_in (header_packed h) ≡ h.fields
  unfolding header_packed
  fields_in-packed = let f = fits.fields in let b = fits.birth in omega arith

  pub birth_in-packed : birth_in (header_packed h) ≡ h.birth
  unfolding header_packed
  birth_in-packed = let f = fits.fields in let b = fits.birth in omega arith

-- a header by its parts
pub header_packed-parts : (w : ℕ) (kind : Kind) → kind_number kind ≡ w / 2 ^ 60
    → header_packed (record { kind = kind; fields = fields_in w; birth = birth_in w }) ≡ w
unfolding header_packed
header_packed-parts w kind e = omega arith

module _ (w : ℕ) (found : Option Kind)
    (is : (kind : Kind) → (found ≡ Some kind) ↔ (kind_number kind ≡ w / 2 ^ 60)) where
  pub header-some : (kind : Kind) → found ≡ Some kind → (h : Header)
      → (Some (record { kind = kind; fields = fields_in w; birth = birth_in w }) ≡ Some h)
      ↔ (IsHeader h × (header_packed h ≡ w))
  header-some kind at h =
      let r : Header = record { kind = kind; fields = fields_in w; birth = birth_in w } in
      let number : kind_number kind ≡ w / 2 ^ 60 = (is kind).0 at in
      let good : IsHeader r = record { fields = omega arith; birth = omega arith } in (
        (λ s. let same : r ≡ h = cc in
            (subst IsHeader same good, ap header_packed (sym same) ∙ header_packed-parts w kind number)),
        (λ f.
            let k : kind_number h.kind ≡ w / 2 ^ 60 = sym (kind_in-packed h f.0) ∙ ap kind_in f.1 in
            let same_kind : Some kind ≡ Some h.kind = sym at ∙ (is h.kind).1 k in
            let kinds : kind ≡ h.kind = cc in
            let fields : fields_in w ≡ h.fields = ap fields_in (sym f.1) ∙ fields_in-packed h f.0 in
            let birth : birth_in w ≡ h.birth = ap birth_in (sym f.1) ∙ birth_in-packed h f.0 in
            let same : r ≡ h = rw (kinds, fields, birth) refl in
            ap Some same),
      )

  pub header-none : found ≡ None → (h : Header) → (None ≡ Some h) ↔ (IsHeader h × (header_packed h ≡ w))
  header-none at h = (
    (λ s. cc),
    (λ f.
        let k : kind_number h.kind ≡ w / 2 ^ 60 = sym (kind_in-packed h f.0) ∙ ap kind_in f.1 in
        let is_some : found ≡ Some h.kind = (is h.kind).1 k in
        let clash : None ≡ Some h.kind = sym at ∙ is_some in
        cc),
  )

module _ (r : Forward) (fits : IsForward r) where
  pub cycle_in-packed : cycle_in (forward_packed r) ≡ r.cycle
  unfolding forward_packed
  cycle_in-packed = let f = fits.cycle in let b = fits.address in omega arith

  pub forward_address_in-packed : forward_address_in (forward_packed r) ≡ r.address
  unfolding forward_packed
  forward_address_in-packed = let f = fits.cycle in let b = fits.address in omega arith

pub forward_packed-parts : (w : ℕ) → forward_packed (record { cycle = cycle_in w; address = forward_address_in w }) ≡ w
unfolding forward_packed
forward_packed-parts w = omega arith

pub forward-some : (w : ℕ) → cycle_in w < 2 ^ 32 → (f : Forward)
    → (Some (record { cycle = cycle_in w; address = forward_address_in w }) ≡ Some f)
    ↔ (IsForward f × (forward_packed f ≡ w))
forward-some w fits f =
    let r : Forward = record { cycle = cycle_in w; address = forward_address_in w } in
    let good : IsForward r = record { cycle = fits; address = omega arith } in (
      (λ s. let same : r ≡ f = cc in
          (subst IsForward same good, ap forward_packed (sym same) ∙ forward_packed-parts w)),
      (λ g.
          let cycle : cycle_in w ≡ f.cycle = ap cycle_in (sym g.1) ∙ cycle_in-packed f g.0 in
          let address : forward_address_in w ≡ f.address = ap forward_address_in (sym g.1)
          ∙ forward_address_in-packed f g.0 in
          let same : r ≡ f = rw (cycle, address) refl in
          ap Some same),
    )

pub forward-none : (w : ℕ) → 2 ^ 32 ≤ cycle_in w → (f : Forward)
    → (None ≡ Some f) ↔ (IsForward f × (forward_packed f ≡ w))
forward-none w over f = (
  (λ s. cc),
  (λ g.
      let cycle : cycle_in w ≡ f.cycle = ap cycle_in (sym g.1) ∙ cycle_in-packed f g.0 in
      let small = g.0.cycle in
      absurd (omega arith)),
)
