-- The literal word of what refers to an object: as it stands, and once the object was moved.
use Rattle.std.proofs.Common.{◌≡◌, ◌≢◌, ℕ, ◌&&◌, Bool, true, false, Some, None, is_some, refl, sym, ap, ◌∙◌, subst}
use Rattle.ps_language.specs.declared.kinds.Kind.{Kind}
use Rattle.ps_word.specs.declared.words.Word.{Word}
use Rattle.ps_word.specs.declared.values.Content.{Content}
use Rattle.ps_word.specs.declared.values.Content.TheVariants.{Array, Text, Dictionary, Lock, Condition, Body}
use Rattle.ps_word.specs.Format.{IsContent, IsInFormat, IsWord, IsAddress, address_in, content_in, is_body}
use Rattle.ps_word.specs.Readers.{address_of}
use Rattle.ps_word.proofs.Packing.{value_in-packed, IsWord-packed}
use Rattle.ps_word.proofs.Places.{is_reference-at, address_of-at}
use Rattle.ps_mem.specs.Heap.{Heap, birth_at}
use Rattle.ps_mem.specs.References.{StandsAs, IsKnown, IsKnownContent}
use Rattle.ps_mem.specs.Shows.{IsValue}
use Rattle.ps_mem.specs.Stands.{IsAddressed}
use Rattle.ps_mem.proofs.StandsLemmas.{address-below}
use Rattle.ps_core_laws.specs.Moves.{Forwarding, IsMovedTo, HasReplica, moved_word}
use Rattle.ps_core_laws.proofs.Words.{placed, place, content-moved, birth_at-moved, IsValue-moved}
use Rattle.ps_gc_roots.specs.Roots.{literal}
use Rattle.ps_gc_roots.specs.Renamed.{renamed_address}

-- ---- as it stands

no_body : (b : Bool) → (b && false) ≡ false
no_body true = refl
no_body false = refl

-- what is literal and has a place in a word is in the format
pub in_format : (c : Content) → IsContent c
    → IsInFormat (record { content = c; executable = false })
in_format c form = record { content = form; literal_body = no_body (is_body c) }

pub content-literal : (c : Content) → IsContent c → content_in (literal c).0 ≡ c
unfolding literal
content-literal c form =
    ap (λ v. v.content) (value_in-packed (record { content = c; executable = false })
    (in_format c form))

word-literal : (c : Content) → IsContent c → IsWord (literal c).0
unfolding literal
word-literal c form = IsWord-packed (record { content = c; executable = false }) (in_format c form)

-- one whose object stands is a value
pub value-literal : (h : Heap) (c : Content) → IsContent c → is_body c ≡ false
    → IsKnownContent h c → IsValue h (literal c)
unfolding IsKnown
value-literal h c form visible known = record {
  word = word-literal c form;
  known = subst (IsKnownContent h) (sym (content-literal c form)) known;
  visible = ap is_body (content-literal c form) ∙ visible;
}

-- an object of a kind stands at an address of 24 bits
pub address-stands : (h : Heap) → IsAddressed h → (kind : Kind) (a n : ℕ) → StandsAs h kind a n
    → IsAddress a
address-stands h addressed kind a n stands =
    address-below h addressed a stands.object stands.at

-- ---- once it was moved

address_of-placed : (to : ℕ → ℕ) (c : Content) (a : ℕ) → address_of c ≡ Some a
    → address_of (placed to c) ≡ Some (to a)
address_of-placed to (Array p) a at = let e : p.address ≡ a = cc in ap (λ b. Some (to b)) e
address_of-placed to (Text p) a at = let e : p.address ≡ a = cc in ap (λ b. Some (to b)) e
address_of-placed to (Dictionary b) a at = let e : b ≡ a = cc in ap (λ b. Some (to b)) e
address_of-placed to (Lock b) a at = let e : b ≡ a = cc in ap (λ b. Some (to b)) e
address_of-placed to (Condition b) a at = let e : b ≡ a = cc in ap (λ b. Some (to b)) e
address_of-placed to (Body b) a at = let e : b ≡ a = cc in ap (λ b. Some (to b)) e
address_of-placed to _ a at = cc

module _ (w : Word) (c : Content) (a : ℕ) (holds : content_in w.0 ≡ c)
    (at : address_of c ≡ Some a) where
  refers : is_some (address_of (content_in w.0)) ≡ true
  refers = ap (λ x. is_some (address_of x)) holds ∙ ap is_some at

  address-held : address_in w.0 ≡ a
  address-held =
      let e : Some (address_in w.0) ≡ Some a =
      address_of-at w.0 refers ∙ (ap address_of holds ∙ at) in cc

module _ (h now : Heap) (forward : Forwarding) (moves : IsMovedTo h now forward) (c : Content)
    (a : ℕ) (form : IsContent c) (at : address_of c ≡ Some a)
    (have : HasReplica forward (literal c)) where
  has : forward a ≢ None
  has =
      let holds = content-literal c form in
      subst (λ b. forward b ≢ None) (address-held (literal c) c a holds at)
      (have (is_reference-at (literal c).0 ∙ refers (literal c) c a holds at))

  content-led : content_in (moved_word forward (literal c)).0
      ≡ placed (place h now forward moves) c
  content-led = content-moved h now forward moves (literal c) have
      ∙ ap (placed (place h now forward moves)) (content-literal c form)

  -- it is the replica's address
  pub address-led : renamed_address (moved_word forward) c ≡ place h now forward moves a
  address-led = address-held (moved_word forward (literal c))
      (placed (place h now forward moves) c) (place h now forward moves a) content-led
      (address_of-placed (place h now forward moves) c a at)

  pub birth-led : birth_at now (renamed_address (moved_word forward) c) ≡ birth_at h a
  birth-led = ap (birth_at now) address-led ∙ birth_at-moved h now forward moves a has

  pub known-led : is_body c ≡ false → IsKnownContent h c
      → IsKnownContent now (placed (place h now forward moves) c)
  unfolding IsKnown
  known-led visible known = subst (IsKnownContent now) content-led
      (IsValue-moved h now forward moves (literal c) have
      (value-literal h c form visible known)).known
