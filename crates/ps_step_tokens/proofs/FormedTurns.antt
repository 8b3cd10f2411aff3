-- What a procedure whose names are met comes to.
use Rattle.std.proofs.Common.{◌≡◌, ℕ, ◌-◌, ◌<◌, ◌++◌, arith, true, false, List, [], ◌∷◌, length, Err, refl, sym, ap}
use Rattle.std.proofs.Common.{subst, ◌∙◌, inr, length-append, vec_capacity}
use Rattle.ps_language.specs.Effect.{Scene}
use Rattle.ps_language.specs.Objects.{made_between}
use Rattle.ps_language.specs.Readers.{null}
use Rattle.ps_language.specs.StepTokens.{Made, look_in}
use Rattle.ps_language.specs.StepValues.{LookedUp, tries}
use Rattle.ps_language.specs.Token.{Tokens}
use Rattle.ps_language.specs.Value.{Value, Store}
use Rattle.ps_word.specs.declared.words.Word.{Word}
use Rattle.ps_mem.specs.Heap.{Heap, Grants, birth_at}
use Rattle.ps_mem.specs.Keeps.{Keeps}
use Rattle.ps_mem.specs.Meaning.{value_of}
use Rattle.ps_mem.proofs.KeepsLemmas.{AreWithin-kept, values_of-kept, known_values}
use Rattle.ps_mem.proofs.NewShows.{longer}
use Rattle.ps_ops_operands.specs.declared.failure.NotMade.TheVariants.{Memory}
use Rattle.ps_ops_operands.specs.Changes.{values_in, KeepsLogsWithin}
use Rattle.ps_ops_state.specs.declared.lent.Attempt.{Attempt}
use Rattle.ps_ops_state.specs.declared.lent.Scratch.{Scratch}
use Rattle.ps_ops_state.specs.Acts.{IsAtLeast, Lasts}
use Rattle.ps_ops_state.specs.Lent.{Lent, rooms_of, IsEmpty, scene_of, IsShown, IsGood}
use Rattle.ps_step_outcome.specs.Turns.{Turns}
use Rattle.ps_step_execute.specs.Values.{meaning}
use Rattle.ps_step_tokens.specs.Made.{IsMade, whole_made, formed_asks, formed_turn}
use Rattle.ps_step_tokens.specs.Procedures.{listed, procedure_words, procedure_births}
use Rattle.ps_step_tokens.proofs.Adds.{made_added, adds_all}
use Rattle.ps_step_tokens.proofs.Alike.{LacksRoom, unmade_listed}
use Rattle.ps_step_tokens.proofs.Makes.{lacks_made, has_made, Wants, Makes}

module _ (l : Lent) (content : Tokens) where
  abbrev look : Store → List ℕ → LookedUp
  look s = look_in (scene_of l s)

  abbrev made : Store → Made
  made s = whole_made content (look s) s

  abbrev scene : Store → Scene
  scene s = record (scene_of l s)
      { operands = (made s).values ++ (scene_of l s).operands; store = (made s).store }

  words_made : (s : Store) → made_between s (made s).store ≡ procedure_words content
  words_made s =
      let a = adds_all (look s) content s in
      ap (made_between s) a.store_is ∙ (made_added s a.added ∙ a.words)

  births_made : (s : Store) → length (made s).store - length s ≡ procedure_births content
  births_made s =
      let a = adds_all (look s) content s in
      let all = ap length a.store_is ∙ length-append s a.added in
      let births = a.births in
      omega (arith, all, births)

  lasts_made : (s : Store) → Lasts s (made s).store
  lasts_made s =
      let a = adds_all (look s) content s in
      subst (Lasts s) (sym a.store_is) (longer s a.added)

  -- refused
  pub formed_lacks : (command : Word) → meaning l command ≡ null → (attempt : Attempt)
      (result : _) (new : Lent) → attempt.refused ≡ true → (s : Store)
      → LacksRoom (formed_asks content) (formed_turn content) attempt result l new command s
  formed_lacks command means attempt result new refused s =
      let words = words_made s in
      record {
        scene = scene s;
        is = ap (λ (c : Value). tries c (scene_of l s) (scene s) []) (sym means);
        names = refl;
        lacking = lacks_made attempt.refused s (made s).store refused (omega (arith, words));
      }

  module _ (attempt : Attempt) (good : IsGood l) (refused : attempt.refused ≡ false) where
    -- without room in the memory
    pub formed_wants : (s : Store) → Wants (formed_asks content) (formed_turn content) attempt l good
        refused (procedure_words content) (procedure_births content) s
    formed_wants s = record {
      command = null;
      scene = scene s;
      is = refl;
      words_are = words_made s;
      births_are = births_made s;
    }

    -- without room in the list
    pub formed_unlisted : vec_capacity l.scratch.words < listed (procedure_words content)
        → (grants : Grants) → KeepsLogsWithin 0 l.grants grants attempt.slot → (scratch : Scratch)
        → IsEmpty scratch → IsAtLeast (rooms_of l.scratch) (rooms_of scratch)
        → Turns (formed_asks content) (formed_turn content) attempt (Err Memory) l
        (record l { grants = grants; scratch = scratch })
    formed_unlisted less grants logs scratch empty least =
        unmade_listed (formed_asks content) (formed_turn content) attempt l good Memory grants logs
        scratch empty least λ s shown.
        rw (has_made attempt.refused s (made s).store refused) (inr (inr (inr (inr (inr less)))))

    -- made
    pub formed_makes : (heap : Heap) (grants : Grants) (keeps : Keeps l.heap heap) (w : Word)
        (scratch : Scratch)
        → IsMade (whole_made content) l.names l.dictionaries l.heap heap w
        → (s : Store) → IsShown l s
        → Makes (formed_asks content) (formed_turn content) attempt l good refused heap grants
        (w ∷ l.operands) scratch keeps s
    formed_makes heap grants keeps w scratch is s shown =
        let known = known_values l.heap l.operands good.operands in
        record {
          command = null;
          values = (made s).values ++ values_in l.heap l.names l.operands;
          after = (made s).store;
          is = refl;
          lasts = lasts_made s;
          shows = is.shows s shown.shows shown.dictionaries;
          within = (
            is.within s shown.shows shown.dictionaries,
            AreWithin-kept l.heap heap keeps l.names s (made s).store (lasts_made s) l.operands
                known shown.operands,
          );
          are = (λ i. value_of (birth_at heap) l.names w
              ∷ values_of-kept l.heap heap keeps l.names l.operands known i)
              ∙ sym (ap (λ (vs : List Value). vs ++ values_in l.heap l.names l.operands)
              (is.value s shown.shows shown.dictionaries));
        }
