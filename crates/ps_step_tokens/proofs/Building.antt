-- Elements of a procedure by themselves: those that refer to nothing new, and strings.
use Rattle.std.proofs.Common.{◌≡◌, ℕ, ◌+◌, ◌≤◌, ◌++◌, arith, List, [], ◌∷◌, length, sym, ap, subst, ◌∙◌}
use Rattle.ps_language.specs.Access.{bytes}
use Rattle.ps_language.specs.Readers.{literal}
use Rattle.ps_language.specs.StepTokens.{Made}
use Rattle.ps_language.specs.Token.{Token, string_token}
use Rattle.ps_language.specs.Value.{string_value, string_object, Store}
use Rattle.ps_word.specs.declared.words.Word.{Word}
use Rattle.ps_word.specs.declared.values.Part.{Part}
use Rattle.ps_mem.specs.Heap.{Heap, birth_at}
use Rattle.ps_mem.specs.Keeps.{Extends}
use Rattle.ps_mem.specs.Meaning.{value_of, part_of}
use Rattle.ps_mem.specs.Shows.{AreWithin, IsSound, IsValue, IsWithin, Shows}
use Rattle.ps_mem.proofs.KeepsLemmas.{Extends-same}
use Rattle.ps_ops_operands.proofs.Making.{whole_part, whole_part-end, part_of-whole}
use Rattle.ps_step_tokens.specs.Made.{IsMade, one_made}
use Rattle.ps_step_tokens.specs.Missing.{look_by}
use Rattle.ps_step_tokens.proofs.StringTurns.{newest_bytes}

module _ (token : Token) (names : List (List ℕ)) (dictionaries : List Word) (h : Heap)
    (w : Word) where
  abbrev one : Store → Made
  one s = one_made token (look_by h names dictionaries s) s

  pub plain_made : IsSound h → IsValue h w
      → ((s : Store) → Shows h names s → AreWithin h names s dictionaries
      → IsWithin (birth_at h) names s w)
      → ((s : Store) → Shows h names s
      → one s ≡ record { values = value_of (birth_at h) names w ∷ []; store = s })
      → IsMade (one_made token) names dictionaries h h w
  plain_made sound held within is = record {
    sound = sound;
    extends = Extends-same h;
    held = held;
    shows = λ s shows inside.
        subst (Shows h names) (sym (ap (λ (m : Made). m.store) (is s shows))) shows;
    within = λ s shows inside.
        subst (λ (t : Store). IsWithin (birth_at h) names t w)
        (sym (ap (λ (m : Made). m.store) (is s shows))) (within s shows inside);
    value = λ s shows inside. ap (λ (m : Made). m.values) (is s shows);
  }

-- a new string
module _ (text : List ℕ) (names : List (List ℕ)) (dictionaries : List Word) (h now : Heap)
    (w : Word) (part : Part) (part_is : part ≡ whole_part part.address (length text))
    (birth : birth_at now part.address ≡ h.next)
    (value : (births : ℕ → ℕ) (names : List (List ℕ))
    → value_of births names w ≡ literal (string_value (part_of births part)))
    (inside : (births : ℕ → ℕ) (names : List (List ℕ)) (s : Store)
    → part.offset + part.length ≤ length (bytes s (births part.address))
    → IsWithin births names s w) where
  born : (s : Store) → Shows h names s → birth_at now part.address ≡ length s
  born s shows = birth ∙ shows.next

  pub string_is_made : IsSound now → Extends h now → IsValue now w
      → ((s : Store) → Shows h names s → Shows now names (s ++ string_object text ∷ []))
      → IsMade (one_made (string_token text)) names dictionaries h now w
  string_is_made sound extends held shown = record {
    sound = sound;
    extends = extends;
    held = held;
    shows = λ s shows within. shown s shows;
    within = λ s shows within.
        let size = ap length (ap (bytes (s ++ string_object text ∷ [])) (born s shows)
        ∙ newest_bytes s text) in
        let end = whole_part-end part (length text) part_is in
        inside (birth_at now) names (s ++ string_object text ∷ []) (omega (arith, size, end));
    value = λ s shows within. λ i. (sym (value (birth_at now) names
        ∙ ap (λ (p : _). literal (string_value p))
        (part_of-whole (birth_at now) part (length text) (length s) part_is (born s shows))) i)
        ∷ [];
  }
