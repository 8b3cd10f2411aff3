-- What the operators that change strings leave.
use Rattle.std.proofs.Common.{◌≡◌, ℕ, ◌+◌, ◌≤◌, List, [], ◌∷◌, drop, length, map, true, Ok, Some, refl, sym, ap, subst, arith, ◌∙◌, inl, inr}
use Rattle.std.specs.Prelude.{ℤ, slice_get}
use Rattle.std.proofs.lemmas.Bool.Decides.{eqb_tells}
use Rattle.ps_language.specs.declared.kinds.Kind.TheVariants.{Text as TextKind}
use Rattle.ps_language.specs.Value.{Part as PartValue, Value, Store, string_object}
use Rattle.ps_language.specs.Outcome.{Outcome, Change}
use Rattle.ps_language.specs.Objects.{changing}
use Rattle.ps_language.specs.Readers.{as_string, as_integer, index_below}
use Rattle.ps_language.specs.Access.{is_writable, bytes, bytes_in, with_bytes, with_part_bytes, splice}
use Rattle.ps_ops_sequences.specs.ArrayRows.{one_stored}
use Rattle.ps_stacks.specs.Tops.{first_three_of}
use Rattle.ps_word.specs.declared.words.Word.{Word}
use Rattle.ps_word.specs.declared.values.Part.{Part}
use Rattle.ps_mem.specs.Heap.{Heap, Grants, birth_at}
use Rattle.ps_mem.specs.Keeps.{Keeps}
use Rattle.ps_mem.specs.References.{StandsAs}
use Rattle.ps_mem.specs.Meaning.{value_of, part_of}
use Rattle.ps_mem.specs.Shows.{IsValue, AreValues, IsReady, IsWithin, AreWithin, Shows}
use Rattle.ps_mem.proofs.Lists.{slice_get-set_other, slice_get-set_same, length-splice}
use Rattle.ps_mem.proofs.KeepsLemmas.{AreWithin-kept, known_values}
use Rattle.ps_seq.proofs.TextLemmas.{text_at}
use Rattle.ps_ops_operands.specs.declared.failure.NotMade.{NotMade}
use Rattle.ps_ops_operands.specs.Changes.{values_in, ChangesAs, IsRecordReason, Changes}
use Rattle.ps_ops_operands.proofs.Operands.{first_three_split}
use Rattle.ps_ops_operands.proofs.Held.{third_held, rest_held}
use Rattle.ps_ops_sequences.specs.StringRows.{string_put_row}

-- ---- bytes are as many as they were

pub longer : (s : Store) (b : ℕ) (text : List ℕ) → slice_get s b ≡ Some (string_object (bytes s b))
    → length text ≡ length (bytes s b) → (c : ℕ) → length (bytes s c) ≤ length (bytes
    (with_bytes s b text) c)
unfolding bytes with_bytes
longer s b text there long c = elim (eqb_tells b c) [
  | inl (_, same) ↦
      let before = ap (λ n. length (bytes_in (slice_get s n))) (sym same) in
      let after = ap (λ n. length (bytes_in (slice_get (with_bytes s b text) n))) (sym same) ∙ ap
      (λ o. length (bytes_in o)) (slice_get-set_same s b (string_object text) (string_object
      (bytes s b)) there) in
      omega (arith, before, after, long)
  | inr (_, other) ↦ let is = ap (λ o. length (bytes_in o)) (slice_get-set_other s b c
      (string_object text) other) in omega (arith, is)
]

module _ (h : Heap) (part : Part) (n : ℕ) (stands : StandsAs h TextKind part.address n)
    (names : List (List ℕ)) (s : Store) (shows : Shows h names s) where
  -- words that were within the store are so after other bytes
  pub within_changed : (now : Heap) → Keeps h now → (place : ℕ) (items : List ℕ) (ws : List Word)
      → part.offset + place + length items ≤ length (bytes s (birth_at h part.address))
      → AreValues h ws → AreWithin h names s ws
      → AreWithin now names (with_part_bytes s (part_of (birth_at h) part) place items) ws
  within_changed now keeps place items ws inside values within =
      let b = birth_at h part.address in
      AreWithin-kept h now keeps names s _
      (longer s b (splice (bytes s b) (part.offset + place) items)
      (text_at h part.address n stands names s shows).there (length-splice (bytes s b)
      (part.offset + place) items inside)) ws (known_values h ws values) within

-- ---- the row changed bytes of a part

pub record ChangesBytes (row : Store → List Value → Outcome Change) (h now : Heap) (part : Part)
    (place : ℕ) (old new : List Word) (names : List (List ℕ)) (s : Store) : Type 0 where
  pub items : List ℕ
  pub is : row s (values_in h names old) ≡ changing (values_in h names new) (with_part_bytes s
      (part_of (birth_at h) part) place items)
  pub inside : part.offset + place + length items ≤ length (bytes s (birth_at h part.address))
  pub within : AreWithin h names s new
  pub shows : Shows now names (with_part_bytes s (part_of (birth_at h) part) place items)

-- so it is as the row says, whatever may hinder the step
pub agrees_changes : (row : Store → List Value → Outcome Change)
    (IsReason : NotMade → Change → Type 0) (h now : Heap) (old new : List Word) (part : Part)
    (n place : ℕ) → StandsAs h TextKind part.address n → Keeps h now → birth_at now ≡ birth_at h
    → AreValues h new → (names : List (List ℕ)) (s : Store) → Shows h names s
    → ChangesBytes row h now part place old new names s
    → ChangesAs IsReason (Ok tt) (row s (values_in h names old)) names h now old new
agrees_changes row IsReason h now old new part n place stands keeps births values names s shows c =
    subst (λ outcome. ChangesAs IsReason (Ok tt) outcome names h now old new) (sym c.is) (record {
      operands = ap (λ b. map (value_of b names) new) births;
      store = c.shows;
      within = within_changed h part n stands names s shows now keeps place c.items new c.inside
          values c.within;
    })

pub does_changes : (row : Store → List Value → Outcome Change) (stores : List Value → ℕ) (slot : ℕ)
    (asked left : Grants) (h now : Heap) (old new : List Word) (part : Part) (n place : ℕ)
    → StandsAs h TextKind part.address n → Keeps h now → birth_at now ≡ birth_at h → AreValues h new
    → ((names : List (List ℕ)) (s : Store) → Shows h names s → AreWithin h names s old
    → ChangesBytes row h now part place old new names s)
    → Changes row stores (Ok tt) slot asked left h now old new
does_changes row stores slot asked left h now old new part n place stands keeps births values
    changes = record {
      meets = λ names s shows within.
          agrees_changes row (λ reason change. IsRecordReason reason (stores
          (values_in h names old)) slot asked left) h now old new part n place stands keeps births
          values names s shows (changes names s shows within);
    }

-- ---- put

put_row-is : (s : Store) (y k x : Value) (rest : List Value) (p : PartValue) (code i : ℤ)
    (n byte : ℕ)
    → as_string x ≡ Some p → as_integer y ≡ Some code → as_integer k ≡ Some i → is_writable p.access
    ≡ true → index_below i p.count ≡ Some n → index_below code 256 ≡ Some byte
    → string_put_row s (y ∷ k ∷ x ∷ rest) ≡ changing rest (with_part_bytes s p n (byte ∷ []))
put_row-is s y k x rest p code i n byte string value number writable index below = rw
    (string, value, number, writable, index, below) refl

pub put_does : (h now : Heap) (old new : List Word) → IsReady h old → (value key string : Word)
    → Some (value, key, string) ≡ first_three_of old
    → new ≡ drop 3 old → Keeps h now → (slot : ℕ) (asked left : Grants) (part : Part) (n : ℕ)
    → StandsAs h TextKind part.address n
    → ((births : ℕ → ℕ) (names : List (List ℕ)) → as_string (value_of births names string) ≡ Some
    (part_of births part))
    → ((births : ℕ → ℕ) (names : List (List ℕ)) (s : Store) → IsWithin births names s string
    → part.offset + part.length ≤ length (bytes s (births part.address)))
    → (code number : ℤ) → ((births : ℕ → ℕ) (names : List (List ℕ)) → as_integer
    (value_of births names value) ≡ Some code)
    → ((births : ℕ → ℕ) (names : List (List ℕ)) → as_integer (value_of births names key)
    ≡ Some number)
    → is_writable part.access ≡ true → (index : ℕ) → Some index ≡ index_below number part.length
    → index + 1 ≤ part.length → (byte : ℕ) → Some byte ≡ index_below code 256
    → birth_at now ≡ birth_at h
    → ((names : List (List ℕ)) (s : Store) → Shows h names s → part.offset + part.length ≤ length
    (bytes s (birth_at h part.address)) → Shows now names (with_part_bytes s (part_of
    (birth_at h) part) index (byte ∷ [])))
    → Changes string_put_row one_stored (Ok tt) slot asked left h now old new
put_does h now old new ready value key string tops rest keeps slot asked left part n stands
    string_is part_within code number code_is number_is writable index index_is below byte byte_is
    births shows =
    does_changes string_put_row one_stored slot asked left h now old new part n index stands keeps
    births (subst (AreValues h) (sym rest) (rest_held (IsValue h) old ready.values 3))
    (λ names s shown within.
    let inside = part_within (birth_at h) names s (third_held (IsWithin
    (birth_at h) names s) old within value key string tops) in
    record {
      items = byte ∷ [];
      is =
          ap (λ ws. string_put_row s (values_in h names ws)) (first_three_split old value key string
          tops)
          ∙ (put_row-is s (value_of (birth_at h) names value) (value_of (birth_at h) names key)
          (value_of (birth_at h) names string) (values_in h names (drop 3 old)) (part_of
          (birth_at h) part) code number index byte
          (string_is (birth_at h) names) (code_is (birth_at h) names) (number_is
          (birth_at h) names) writable (sym index_is) (sym byte_is)
          ∙ ap (λ ws. changing (values_in h names ws) (with_part_bytes s (part_of
          (birth_at h) part) index (byte ∷ []))) (sym rest));
      inside = omega (arith, inside, below);
      within = subst (AreWithin h names s) (sym rest) (rest_held (IsWithin
          (birth_at h) names s) old within 3);
      shows = shows names s shown inside;
    })
