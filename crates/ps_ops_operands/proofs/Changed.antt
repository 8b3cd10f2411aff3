-- What the operators that change arrays leave.
use Rattle.std.proofs.Common.{◌≡◌, ℕ, ◌+◌, ◌≤◌, List, [], map, length, Ok, sym, ap, subst, arith, ◌∙◌, inl, inr}
use Rattle.std.specs.Prelude.{min, slice_get}
use Rattle.std.proofs.lemmas.Bool.Decides.{eqb_tells}
use Rattle.ps_language.specs.declared.kinds.Kind.TheVariants.{Array as ArrayKind}
use Rattle.ps_language.specs.Value.{Value, Store, array_object}
use Rattle.ps_language.specs.Outcome.{Outcome, Change}
use Rattle.ps_language.specs.Objects.{changing}
use Rattle.ps_language.specs.Access.{bytes, bytes_in, elements, with_elements, with_part_elements, splice}
use Rattle.ps_word.specs.declared.words.Word.{Word}
use Rattle.ps_word.specs.declared.values.Part.{Part}
use Rattle.ps_mem.specs.Heap.{Heap, Grants, birth_at}
use Rattle.ps_mem.specs.Keeps.{Keeps}
use Rattle.ps_mem.specs.References.{StandsAs}
use Rattle.ps_mem.specs.Meaning.{value_of, part_of}
use Rattle.ps_mem.specs.Shows.{AreValues, IsSound, IsReady, AreWithin, Shows}
use Rattle.ps_mem.proofs.Lists.{slice_get-set_other}
use Rattle.ps_mem.proofs.KeepsLemmas.{AreValues-kept, AreWithin-kept, known_values}
use Rattle.ps_mem.proofs.StoreShows.{array-shown}
use Rattle.ps_seq.proofs.ArrayLemmas.{birth-array}
use Rattle.ps_ops_operands.specs.Changes.{values_in, ChangesAs, IsRecordReason, Changes}

-- ---- bytes are as many as they were

longer : (s : Store) (b : ℕ) (es : List Value) → bytes s b ≡ [] → (c : ℕ)
    → length (bytes s c) ≤ length (bytes (with_elements s b es) c)
unfolding bytes with_elements
longer s b es none c = elim (eqb_tells b c) [
  | inl (_, same) ↦ let empty : length (bytes_in (slice_get s c)) ≡ 0 =
      ap (λ n. length (bytes_in (slice_get s n))) (sym same) ∙ ap length none in omega (arith, empty)
  | inr (_, other) ↦ let is = ap (λ o. length (bytes_in o)) (slice_get-set_other s b c (array_object es) other) in
      omega (arith, is)
]

module _ (h : Heap) (part : Part) (n : ℕ) (stands : StandsAs h ArrayKind part.address n) (names : List (List ℕ))
    (s : Store) (shows : Shows h names s) where
  no_bytes : bytes s (birth_at h part.address) ≡ []
  unfolding bytes
  no_bytes = ap (λ b. bytes_in (slice_get s b)) (birth-array h part.address n stands)
      ∙ ap bytes_in (array-shown h names s shows part.address stands.object stands.at stands.kind_is)

  -- words that were within the store are so after other elements
  pub within_changed : (now : Heap) → Keeps h now → (place : ℕ) (vs : List Value) (ws : List Word) → AreValues h ws
      → AreWithin h names s ws
      → AreWithin now names (with_part_elements s (part_of (birth_at h) part) place vs) ws
  within_changed now keeps place vs ws values within =
      AreWithin-kept h now keeps names s _
      (longer s (birth_at h part.address) (splice (elements s (birth_at h part.address)) (part.offset + place) vs)
      no_bytes) ws (known_values h ws values) within

-- ---- the row changed elements of a part

pub record ChangesElements
    (row : Store → List Value → Outcome Change) (h now : Heap) (part : Part) (place : ℕ) (old new : List Word)
    (names : List (List ℕ))
    (s : Store) : Type 0 where
  pub items : List Value
  pub is : row s (values_in h names old)
      ≡ changing (values_in h names new) (with_part_elements s (part_of (birth_at h) part) place items)
  pub within : AreWithin h names s new
  pub shows : Shows now names (with_part_elements s (part_of (birth_at h) part) place items)

pub does_changes : (row : Store → List Value → Outcome Change)
    (stores : List Value → ℕ) (slot : ℕ) (asked left : Grants) (h now : Heap) (old new : List Word) (part : Part)
    (n place : ℕ)
    → StandsAs h ArrayKind part.address n → Keeps h now → birth_at now ≡ birth_at h → AreValues h new
    → ((names : List (List ℕ)) (s : Store) → Shows h names s → AreWithin h names s old
    → ChangesElements row h now part place old new names s)
    → Changes row stores (Ok tt) slot asked left h now old new
does_changes row stores slot asked left h now old new part n place stands keeps births values changes = record {
  meets = λ names s shows within.
      let c = changes names s shows within in
      subst (λ outcome. ChangesAs
      (λ reason change. IsRecordReason reason (min 1 (stores (values_in h names old))) slot asked left)
      (Ok tt) outcome names h now old new) (sym c.is) (record {
        operands = ap (λ b. map (value_of b names) new) births;
        store = c.shows;
        within = within_changed h part n stands names s shows now keeps place c.items new values c.within;
      });
}

-- a memory that keeps what stood is ready under words that it held
pub ready_changed : (h now : Heap) (words : List Word) → Keeps h now → IsSound now → AreValues h words
    → IsReady now words
ready_changed h now words keeps sound values = record {
  sound = sound;
  values = AreValues-kept h now keeps words values;
}
