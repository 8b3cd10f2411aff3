-- A new string.
use Rattle.std.proofs.Common.{◌≡◌, ℕ, zero, suc, ◌+◌, ◌-◌, ◌*◌, ◌<◌, ◌≤◌, List, [], ◌∷◌, ◌++◌, length, take, drop, get_or, replicate, refl, sym, ap, arith, ◌∙◌, inl, inr}
use Rattle.std.specs.Prelude.{slice_range}
use Rattle.std.specs.Int.{w64, to_le_bytes}
use Rattle.std.proofs.lemmas.Bool.{cases_lt}
use Rattle.std.proofs.lemmas.List.{get_or-take, get_or-drop, get_or_past, length-take-le, length-drop}
use Rattle.ps_language.specs.declared.kinds.Kind.TheVariants.{Text as TextKind}
use Rattle.ps_language.specs.Value.{Store, string_object}
use Rattle.ps_language.specs.Access.{splice}
use Rattle.ps_word.specs.declared.words.Word.{Word}
use Rattle.ps_mem.specs.Heap.{Heap}
use Rattle.ps_mem.specs.Objects.{word_of}
use Rattle.ps_mem.specs.References.{words_for}
use Rattle.ps_mem.specs.Strings.{AreBytes, number_of_bytes, words_of}
use Rattle.ps_mem.specs.Shows.{IsSound, text_fields, Shows, shown_text}
use Rattle.ps_mem.proofs.Lists.{length-splice}
use Rattle.ps_mem.proofs.NewShows.{NewObject, IsSound-new, Shows-new}
use Rattle.ps_seq.proofs.ByteLemmas.{word_at, get_of_word}
use Rattle.ps_seq.proofs.SpliceLemmas.{same_as_run, splice_within, splice_behind, length-words_from}

module _ (g h : Heap) (a : ℕ) (fields : List Word) (new : NewObject g h a
    (record { kind = TextKind; birth = g.next; fields = fields })) (sound : IsSound g)
    (next : h.next ≡ g.next + 1) where
  pub IsSound-new_text : IsSound h
  IsSound-new_text = IsSound-new g h a _ new sound next refl text_fields

  pub Shows-new_text : (names : List (List ℕ)) (s : Store) (text : List ℕ) → Shows g names s
      → AreBytes text → fields ≡ words_of text → Shows h names (s ++ string_object text ∷ [])
  Shows-new_text names s text shows are words = Shows-new g h a _ new sound next refl names s
      (string_object text) shows (shown_text are words) (λ no. absurd (no refl))

zeros_or : (n i : ℕ) → get_or {A = ℕ} (replicate n 0) i 0 ≡ 0
zeros_or zero i = refl
zeros_or (suc n) zero = refl
zeros_or (suc n) (suc i) = zeros_or n i

get_or-zeros : (i : ℕ) → i < 8 → get_or (to_le_bytes w64 0) i 0 ≡ 0
get_or-zeros i below = zeros_or 8 i

-- the word of a run of eight bytes, made of a word of zeros
pub filled_word : (text : List ℕ) (k stop : ℕ) → 8 * k ≤ stop → stop ≤ 8 * k + 8
    → stop ≤ length text → ((i : ℕ) → i < 8 → stop ≤ 8 * k + i → length text ≤ 8 * k + i) →
    number_of_bytes (splice (to_le_bytes w64 0) 0 (slice_range text (8 * k) stop)) ≡ number_of_bytes
    (take 8 (drop (8 * k) text))
filled_word text k stop low high within behind =
    let chunk = slice_range text (8 * k) stop in
    let zeros : List ℕ = to_le_bytes w64 0 in
    let count : length chunk ≡ stop - 8 * k = length-take-le (stop - 8 * k) (drop (8 * k) text)
    (omega (arith, within, length-drop (8 * k) text)) in
    let long : length (splice zeros 0 chunk) ≡ 8 = length-splice zeros 0 chunk (omega
    (arith, count, high)) in
    same_as_run (splice zeros 0 chunk) (drop (8 * k) text) (omega (arith, long)) (λ i below. elim
    (cases_lt i (length chunk)) [
      | inl inside ↦
          let e : 0 + i ≡ i = omega arith in
          ap (λ n. get_or (splice zeros 0 chunk) n 0) (sym e)
          ∙ (splice_within zeros 0 chunk i inside (omega arith) ∙ get_or-take (stop - 8 * k) (drop
          (8 * k) text) i 0 (omega (arith, inside, count)))
      | inr past ↦
          splice_behind zeros 0 chunk i (omega (arith, past)) (omega arith)
          ∙ (get_or-zeros i below ∙ sym (get_or-drop (8 * k) text i 0 ∙ get_or_past text
          (8 * k + i) 0 (behind i below (omega (arith, past, count, low)))))
    ])

-- a word of the words of a text
pub word_or : (text : List ℕ) (k : ℕ) (d : Word) → k < words_for (length text) → get_or
    (words_of text) k d ≡ word_of (number_of_bytes (take 8 (drop (8 * k) text)))
word_or text k d below = get_of_word (words_of text) k d _ (word_at (words_for
    (length text)) text k below)

pub length-words_of : (text : List ℕ) → length (words_of text) ≡ words_for (length text)
length-words_of text = length-words_from (words_for (length text)) text
