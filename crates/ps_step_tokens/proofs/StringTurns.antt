-- A token that is a string comes to an error, or to a new string.
use Rattle.std.proofs.Common.{◌≡◌, ℕ, ◌+◌, ◌/◌, ◌≤◌, ◌<◌, ◌++◌, arith, true, false, List, [], ◌∷◌, length, refl, sym}
use Rattle.std.proofs.Common.{ap, ◌∙◌, length-append}
use Rattle.ps_language.specs.declared.errors.ErrorName.TheVariants.{StackOverflow}
use Rattle.ps_language.specs.Access.{bytes, bytes_in}
use Rattle.ps_language.specs.Effect.{Scene}
use Rattle.ps_language.specs.Objects.{made_between}
use Rattle.ps_language.specs.Readers.{literal, null, whole}
use Rattle.ps_language.specs.StepTokens.{token_done}
use Rattle.ps_language.specs.StepValues.{tries}
use Rattle.ps_language.specs.Token.{string_token}
use Rattle.ps_language.specs.Value.{Value, string_value, string_object, Store}
use Rattle.ps_language.proofs.AskedLemmas.{made-new}
use Rattle.ps_word.specs.declared.words.Word.{Word}
use Rattle.ps_word.specs.declared.values.Part.{Part}
use Rattle.ps_mem.specs.Heap.{Heap, Grants, birth_at}
use Rattle.ps_mem.specs.Keeps.{Keeps}
use Rattle.ps_mem.specs.Meaning.{value_of, part_of}
use Rattle.ps_mem.specs.Shows.{IsWithin, Shows}
use Rattle.ps_mem.proofs.KeepsLemmas.{AreWithin-kept, values_of-kept, known_values}
use Rattle.ps_mem.proofs.Lists.{slice_get-append_end}
use Rattle.ps_mem.proofs.NewShows.{longer}
use Rattle.ps_ops_operands.specs.Changes.{values_in}
use Rattle.ps_ops_operands.proofs.Making.{whole_part, whole_part-end, part_of-whole}
use Rattle.ps_ops_state.specs.declared.lent.Attempt.{Attempt}
use Rattle.ps_ops_state.specs.Lent.{Lent, scene_of, IsShown, IsGood}
use Rattle.ps_step_outcome.specs.Turns.{error_turn, nothing_more}
use Rattle.ps_step_execute.specs.Values.{meaning}
use Rattle.ps_ops_operands.proofs.StackRows.{not_full as free_operands, full as full_operands}
use Rattle.ps_step_tokens.specs.Tokens.{token_turn}
use Rattle.ps_step_tokens.proofs.Alike.{LacksRoom}
use Rattle.ps_step_tokens.proofs.Makes.{lacks_made, Wants, Makes}

pub newest_bytes : (s : Store) (text : List ℕ) → bytes (s ++ string_object text ∷ []) (length s) ≡ text
unfolding bytes
newest_bytes s text = ap bytes_in (slice_get-append_end s [] (string_object text))

module _ (l : Lent) (text : List ℕ) (command : Word) (means : meaning l command ≡ null) where
  pub string_overflows : 500 ≤ length l.operands → (s : Store)
      → token_turn (string_token text) l s ≡ error_turn StackOverflow command l s
  unfolding token_done
  string_overflows many s = rw (full_operands l.operands (birth_at l.heap) l.names many, means) refl

  module _ (few : length l.operands < 500) where
    abbrev grown : Store → Store
    grown s = s ++ string_object text ∷ []

    abbrev operands : Store → List Value
    operands s = literal (string_value (whole (length s) (length text)))
        ∷ values_in l.heap l.names l.operands

    abbrev scene : Store → Scene
    scene s = record (scene_of l s) { operands = operands s; store = grown s }

    string_tries : (s : Store)
        → token_turn (string_token text) l s ≡ tries null (scene_of l s) (scene s) []
    unfolding token_done
    string_tries s = rw (free_operands l.operands (birth_at l.heap) l.names few) refl

    some_words : (s : Store) → 1 ≤ made_between s (grown s)
    some_words s = let size = made-new s (string_object text) in omega (arith, size)

    -- refused
    pub string_lacks : (attempt : Attempt) (result : _) (new : Lent) → attempt.refused ≡ true
        → (s : Store)
        → LacksRoom nothing_more (token_turn (string_token text)) attempt result l new command s
    string_lacks attempt result new refused s = record {
      scene = scene s;
      is = string_tries s ∙ ap (λ (c : Value). tries c (scene_of l s) (scene s) []) (sym means);
      names = refl;
      lacking = lacks_made attempt.refused s (grown s) refused (some_words s);
    }

    module _ (attempt : Attempt) (good : IsGood l) (refused : attempt.refused ≡ false) where
      -- without room
      pub string_wants : (words : ℕ) → words ≡ 2 + (length text + 7) / 8 → (s : Store)
          → Wants nothing_more (token_turn (string_token text)) attempt l good refused words 1 s
      string_wants words are s = record {
        command = null;
        scene = scene s;
        is = string_tries s;
        words_are = made-new s (string_object text) ∙ sym are;
        births_are = let size = length-append s (string_object text ∷ []) in omega (arith, size);
      }

      -- made
      pub string_makes : (heap : Heap) (grants : Grants) (keeps : Keeps l.heap heap) (w : Word)
          (part : Part) → part ≡ whole_part part.address (length text)
          → birth_at heap part.address ≡ l.heap.next
          → ((births : ℕ → ℕ) (names : List (List ℕ)) → value_of births names w
          ≡ literal (string_value (part_of births part)))
          → ((births : ℕ → ℕ) (names : List (List ℕ)) (s : Store)
          → part.offset + part.length ≤ length (bytes s (births part.address))
          → IsWithin births names s w)
          → (s : Store) → IsShown l s → Shows heap l.names (grown s)
          → Makes nothing_more (token_turn (string_token text)) attempt l good refused heap grants
          (w ∷ l.operands) l.scratch keeps s
      string_makes heap grants keeps w part is birth value inside s shown shows =
          let born : birth_at heap part.address ≡ length s = birth ∙ shown.shows.next in
          let held : bytes (grown s) (birth_at heap part.address) ≡ text =
          ap (bytes (grown s)) born ∙ newest_bytes s text in
          let size = ap length held in
          let end = whole_part-end part (length text) is in
          let known = known_values l.heap l.operands good.operands in
          record {
            command = null;
            values = operands s;
            after = grown s;
            is = string_tries s;
            lasts = longer s (string_object text ∷ []);
            shows = shows;
            within = (
              inside (birth_at heap) l.names (grown s) (omega (arith, size, end)),
              AreWithin-kept l.heap heap keeps l.names s (grown s)
                  (longer s (string_object text ∷ [])) l.operands known shown.operands,
            );
            are = λ i. ((value (birth_at heap) l.names
                ∙ ap (λ p. literal (string_value p))
                (part_of-whole (birth_at heap) part (length text) (length s) is born)) i)
                ∷ values_of-kept l.heap heap keeps l.names l.operands known i;
          }
