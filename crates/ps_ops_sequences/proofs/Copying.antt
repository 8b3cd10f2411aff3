-- An operator that copies what the first of a pair holds into the second acts, or is not made.
use Rattle.std.proofs.Common.{◌≡◌, ℕ, ◌+◌, ◌≤◌, arith, List, [], Some, Ok, Err, refl, sym, ap, subst, ◌∙◌, inl, inr}
use Rattle.std.specs.Prelude.{min, ◌<◌, ◌⊎◌, vec_capacity}
use Rattle.std.proofs.lemmas.Bool.Decides.{nat_tests}
use Rattle.ps_language.specs.Value.{Part as PartValue, Value, Store}
use Rattle.ps_language.specs.Access.{bytes, part_bytes}
use Rattle.ps_language.specs.Objects.{made_between}
use Rattle.ps_language.specs.Effect.{Scene, makes}
use Rattle.ps_language.specs.Rows.{Row}
use Rattle.ps_language.proofs.AskedLemmas.{elements-unasked}
use Rattle.ps_word.specs.declared.words.Word.{Word}
use Rattle.ps_word.specs.declared.values.Part.{Part}
use Rattle.ps_mem.specs.Heap.{Heap, Grants, birth_at}
use Rattle.ps_mem.specs.Keeps.{Keeps}
use Rattle.ps_mem.specs.Meaning.{value_of, part_of}
use Rattle.ps_mem.specs.Shows.{IsSound, IsValue, IsWithin, AreValues, AreWithin, Shows}
use Rattle.ps_seq.proofs.CompareLemmas.{length_part}
use Rattle.ps_mem.specs.References.{words_for}
use Rattle.ps_ops_operands.specs.declared.failure.NotMade.{NotMade as Reason}
use Rattle.ps_ops_operands.specs.Changes.{values_in, KeepsLogsWithin, most_records, records_asked, no_words}
use Rattle.ps_ops_state.specs.declared.breaks.Break.TheVariants.{NotMade}
use Rattle.ps_ops_state.specs.declared.lent.Attempt.{Attempt}
use Rattle.ps_ops_state.specs.declared.lent.Scratch.{Scratch}
use Rattle.ps_ops_state.specs.Lent.{Lent, rooms_of, IsEmpty, scene_of, IsShown, IsGood}
use Rattle.ps_ops_state.specs.Acts.{Asked, Needs, IsShort, IsReason, IsAtLeast, Lasts, effect_in, Acts}
use Rattle.ps_ops_state.proofs.Reasons.{reason_as, as_many, none_asked, record_reason}
use Rattle.ps_ops_state.proofs.Meeting.{lacks_nothing, logs_more}
use Rattle.ps_ops_state.proofs.Acting.{wanting_acts}
use Rattle.ps_ops_state.proofs.Changing.{elements_last, array_bytes}
use Rattle.ps_ops_state.proofs.Direct.{store_acts}
use Rattle.ps_ops_sequences.specs.declared.pairs.Sequence.{Sequence}
use Rattle.ps_ops_sequences.specs.declared.pairs.Sequence.TheVariants.{Arrays, Strings}
use Rattle.ps_ops_sequences.specs.declared.pairs.SequencePair.{SequencePair}
use Rattle.ps_ops_sequences.specs.Pairs.{read_as, written, pair_written}
use Rattle.ps_ops_sequences.specs.Asks.{asked_for, IsStoreReason}
use Rattle.ps_ops_sequences.proofs.StringPuts.{bytes_unasked, bytes_last, string_lies}

-- ---- what is written makes nothing, and no string is shorter

written_unasked : (of : Sequence) (s : Store) (from to : PartValue) (place : ℕ)
    → made_between s (written of s from to place) ≡ 0
written_unasked Arrays s from to place = elements-unasked s to.birth _
written_unasked Strings s from to place = bytes_unasked s to.birth _

-- a word of what stands, within a store
pub record StandsWithin (h : Heap) (names : List (List ℕ)) (s : Store) (w : Word) : Type 0 where
  pub held : IsValue h w
  pub within : IsWithin (birth_at h) names s w

module _ (h : Heap) (names : List (List ℕ)) (s : Store) (shows : Shows h names s) where
  written_lasts : (of : Sequence) (source target : Word) → StandsWithin h names s source
      → StandsWithin h names s target → (from to : PartValue)
      → read_as of (value_of (birth_at h) names source) ≡ Some from
      → read_as of (value_of (birth_at h) names target) ≡ Some to → (place : ℕ)
      → place + from.count ≤ to.count → Lasts s (written of s from to place)
  written_lasts Arrays source target s_in t_in from to from_is to_is place fits =
      elements_last s to.birth _ (array_bytes h names s shows target t_in.held to to_is)
  written_lasts Strings source target s_in t_in from to from_is to_is place fits =
      let out = string_lies h names s shows source s_in.held s_in.within from from_is in
      let long = length_part (bytes s from.birth) from.offset from.count out.within in
      bytes_last s to (string_lies h names s shows target t_in.held t_in.within to to_is) place
      (part_bytes s from) (omega (arith, long, fits))

-- ---- why it is not made

records_of : (of : Sequence) (count : ℕ) → (asked_for of count).records ≡ min 1 count
records_of Arrays count = refl
records_of Strings count = refl

module _ (l new : Lent) (slot : ℕ) (needs : Needs) where
  short_of : (count : ℕ) → needs.scratch ≡ (asked_for Strings count).scratch
      → (vec_capacity l.scratch.text < count)
      ⊎ (vec_capacity l.scratch.words < words_for (count + 7))
      → IsShort needs l
  short_of count rooms (inl text) = inr (inr (inr (rw rooms (inl text))))
  short_of count rooms (inr words) = inr (inr (inr (rw rooms (inr (inr words)))))

  pub store_reason : (of : Sequence) (reason : Reason) (count : ℕ)
      → needs.records ≡ (asked_for of count).records
      → needs.scratch ≡ (asked_for of count).scratch
      → IsStoreReason of count l.scratch slot l.grants new.grants reason
      → IsReason needs slot l new reason
  store_reason Arrays reason count is rooms why =
      record_reason needs slot l new (min 1 count) is reason why
  store_reason Strings reason count is rooms why =
      reason_as needs slot l new (records_asked (min 1 count) slot l.grants new.grants) no_words _
      (λ some. as_many needs slot l new (min 1 count) is) none_asked (short_of count rooms) reason
      why

-- ---- an operator whose row leaves these values and what was written

module _ (row : Row) (asks : Scene → Asked) (attempt : Attempt) (l : Lent) (source target : Word)
    (operands : List Value) (pair : SequencePair) (place : ℕ) where
  abbrev part_value : Part → PartValue
  part_value part = part_of (birth_at l.heap) part

  -- on what a store shows: its effect, what it asks for, and the two words
  pub record Copies (store : Store) : Type 0 where
    pub is : effect_in row l store ≡ makes (record (scene_of l store) {
      operands = operands;
      store = pair_written (birth_at l.heap) store pair place;
    }) []
    pub asks_is : asks (scene_of l store) ≡ asked_for pair.of pair.from.length
    pub source_in : StandsWithin l.heap l.names store source
    pub target_in : StandsWithin l.heap l.names store target

  module _ (good : IsGood l) (fits : place + pair.from.length ≤ pair.to.length)
      (from_is : read_as pair.of (value_of (birth_at l.heap) l.names source)
      ≡ Some (part_value pair.from))
      (to_is : read_as pair.of (value_of (birth_at l.heap) l.names target)
      ≡ Some (part_value pair.to))
      (copies : (store : Store) → IsShown l store → Copies store) where
    unasked : (store : Store)
        → made_between store (pair_written (birth_at l.heap) store pair place) ≡ 0
    unasked store =
        written_unasked pair.of store (part_value pair.from) (part_value pair.to) place

    module _ (left : Grants) (scratch : Scratch)
        (least : IsAtLeast (rooms_of l.scratch) (rooms_of scratch)) (empty : IsEmpty scratch) where
      pub copied_acts : (new : Heap) → Keeps l.heap new → IsSound new → (after : List Word)
          → AreValues l.heap after → operands ≡ values_in l.heap l.names after
          → ((store : Store) → IsShown l store → AreWithin l.heap l.names store after)
          → KeepsLogsWithin (min 1 pair.from.length) l.grants left attempt.slot
          → ((store : Store) → IsShown l store
          → Shows new l.names (pair_written (birth_at l.heap) store pair place))
          → Acts asks row attempt (Ok tt) l
          (record l { heap = new; grants = left; operands = after; scratch = scratch })
      copied_acts new keeps sound after values are within logs shows =
          store_acts row attempt asks l after good values new left scratch keeps sound least empty
          (logs_more _ most_records l.grants left attempt.slot (few pair.from.length) logs)
          λ store shown.
          let c = copies store shown in
          record {
            later = pair_written (birth_at l.heap) store pair place;
            is = c.is ∙ ap (λ (vs : List Value). makes (record (scene_of l store) {
              operands = vs;
              store = pair_written (birth_at l.heap) store pair place;
            }) []) are;
            unasked = unasked store;
            lasts = written_lasts l.heap l.names store shown.shows pair.of source target
                c.source_in c.target_in (part_value pair.from) (part_value pair.to) from_is to_is
                place fits;
            shows = shows store shown;
            within = within store shown;
            logs = subst (λ (n : ℕ). KeepsLogsWithin n l.grants left attempt.slot)
                (sym (ap (λ (asked : Asked). asked.records) c.asks_is
                ∙ records_of pair.of pair.from.length)) logs;
          }
        where
          few : (n : ℕ) → min 1 n ≤ most_records
          few n = grind (arith, nat_tests)

      pub uncopied_acts : (reason : Reason) → KeepsLogsWithin 0 l.grants left attempt.slot
          → IsStoreReason pair.of pair.from.length l.scratch attempt.slot l.grants left reason
          → Acts asks row attempt (Err (NotMade reason)) l
          (record l { grants = left; scratch = scratch })
      uncopied_acts reason logs why =
          wanting_acts row attempt asks l good left l.room scratch (omega arith) least empty logs
          reason λ store shown.
          let c = copies store shown in
          record {
            scene = record (scene_of l store) {
              operands = operands;
              store = pair_written (birth_at l.heap) store pair place;
            };
            output = [];
            is = c.is;
            enough = lacks_nothing attempt.refused store
                (pair_written (birth_at l.heap) store pair place) (unasked store);
            why = store_reason l (record l { grants = left; scratch = scratch }) attempt.slot _
                pair.of reason pair.from.length
                (ap (λ (asked : Asked). asked.records) c.asks_is)
                (ap (λ (asked : Asked). asked.scratch) c.asks_is) why;
          }
