-- What cvs leaves or raises.
use Rattle.std.proofs.Common.{◌≡◌, ℕ, ◌+◌, ◌<◌, ◌≤◌, arith, List, [], ◌∷◌, drop, length, true, false, Some, None, Ok, Err, refl, sym, ap, subst, ◌∙◌, inr}
use Rattle.std.specs.Prelude.{min, nat_le}
use Rattle.std.proofs.lemmas.Bool.Decides.{nat_tests}
use Rattle.ps_language.specs.declared.errors.ErrorName.TheVariants.{InvalidAccess, RangeCheck, TypeCheck}
use Rattle.ps_language.specs.Value.{Part as PartValue, What, null_value, mark_value, integer_value, boolean_value, name_value, operator_value, array_value, string_value, dictionary_value, lock_value, condition_value, Value, Store}
use Rattle.ps_language.specs.Access.{is_readable, is_writable, bytes, part_bytes, with_part_bytes}
use Rattle.ps_language.specs.Readers.{string_in, as_string, part_at, with_part}
use Rattle.ps_language.specs.Effect.{makes, raises}
use Rattle.ps_language.specs.Objects.{made_between}
use Rattle.ps_language.specs.Rows.{changing_row}
use Rattle.ps_language.specs.RowsTypes.{cvs_row}
use Rattle.ps_language.specs.Texts.{plain_text_in, plain_text}
use Rattle.ps_stacks.specs.Tops.{first_two_of}
use Rattle.ps_word.specs.declared.words.Word.{Word}
use Rattle.ps_word.specs.declared.values.Part.{Part}
use Rattle.ps_mem.specs.Heap.{Heap, Grants, birth_at}
use Rattle.ps_mem.specs.Keeps.{Keeps}
use Rattle.ps_mem.specs.Meaning.{value_of, part_of}
use Rattle.ps_mem.specs.Shows.{IsSound, IsValue, IsWithin, Shows}
use Rattle.ps_ops_operands.specs.declared.failure.NotMade.{NotMade as Reason}
use Rattle.ps_ops_operands.specs.declared.failure.NotMade.TheVariants.{LogFull, LogClosed, NeedSpace, Memory}
use Rattle.ps_ops_operands.specs.Changes.{values_in, KeepsLogsWithin, most_records}
use Rattle.ps_ops_operands.proofs.Operands.{first_two_split}
use Rattle.ps_seq.proofs.CompareLemmas.{length_part}
use Rattle.ps_ops_operands.proofs.Held.{first_of_two_held, second_held, rest_held}
use Rattle.ps_ops_state.specs.declared.breaks.Break.TheVariants.{NotMade}
use Rattle.ps_ops_state.specs.declared.lent.Attempt.{Attempt}
use Rattle.ps_ops_state.specs.declared.lent.Scratch.{Scratch}
use Rattle.ps_ops_state.specs.Lent.{Lent, rooms_of, IsEmpty, scene_of, IsShown, IsGood}
use Rattle.ps_ops_state.specs.Acts.{Asked, IsAtLeast, effect_in, Acts}
use Rattle.ps_ops_state.proofs.Meeting.{lacks_nothing, logs_more}
use Rattle.ps_ops_state.proofs.Acting.{wanting_acts}
use Rattle.ps_ops_state.proofs.Direct.{store_acts}
use Rattle.ps_ops_sequences.specs.declared.pairs.Sequence.TheVariants.{Strings}
use Rattle.ps_ops_sequences.specs.Copies.{IsCopyReason}
use Rattle.ps_ops_values.specs.TextReads.{IsTextReason}
use Rattle.ps_ops_sequences.specs.Asks.{asked_for, IsStoreReason}
use Rattle.ps_ops_values.specs.Asks.{cvs_asks}
use Rattle.ps_ops_sequences.proofs.Copying.{store_reason}
use Rattle.ps_ops_sequences.proofs.StringPuts.{bytes_unasked, bytes_last, string_lies}

module _ (l : Lent) (target word : Word) (tops : Some (target, word) ≡ first_two_of l.operands)
  where
    pub cvs_wrong : as_string (value_of (birth_at l.heap) l.names target) ≡ None → (store : Store)
        → IsShown l store → effect_in (changing_row cvs_row) l store ≡ raises TypeCheck
    cvs_wrong none store shown = rw (first_two_split l.operands target word tops, none) refl

    pub cvs_hidden : (part : PartValue)
        → as_string (value_of (birth_at l.heap) l.names target) ≡ Some part
        → is_writable part.access ≡ false → (store : Store) → IsShown l store
        → effect_in (changing_row cvs_row) l store ≡ raises InvalidAccess
    cvs_hidden part part_is hidden store shown =
        rw (first_two_split l.operands target word tops, part_is, hidden) refl

-- a string that may be read is shown by its bytes
string_text_in : (store : Store) (what : What) (part : PartValue) → string_in what ≡ Some part
    → is_readable part.access ≡ true → plain_text_in store what ≡ part_bytes store part
string_text_in store null_value part is may = cc
string_text_in store mark_value part is may = cc
string_text_in store (integer_value number) part is may = cc
string_text_in store (boolean_value truth) part is may = cc
string_text_in store (name_value text) part is may = cc
string_text_in store (operator_value operator) part is may = cc
string_text_in store (array_value other) part is may = cc
string_text_in store (string_value other) part is may =
    let same : other ≡ part = cc in
    rw (same, may) refl
string_text_in store (dictionary_value birth) part is may = cc
string_text_in store (lock_value birth) part is may = cc
string_text_in store (condition_value birth) part is may = cc

pub string_text : (store : Store) (v : Value) (part : PartValue) → as_string v ≡ Some part
    → is_readable part.access ≡ true → plain_text store v ≡ part_bytes store part
unfolding as_string plain_text
string_text store v part is may = string_text_in store v.what part is may

-- and has as many
pub string_length : (l : Lent) (target word : Word)
    → Some (target, word) ≡ first_two_of l.operands → (from : Part)
    → ((store : Store) → plain_text store (value_of (birth_at l.heap) l.names word)
    ≡ part_bytes store (part_of (birth_at l.heap) from))
    → ((store : Store) → IsWithin (birth_at l.heap) l.names store word
    → from.offset + from.length ≤ length (bytes store (birth_at l.heap from.address)))
    → (store : Store) → IsShown l store
    → length (plain_text store (value_of (birth_at l.heap) l.names word)) ≡ from.length
string_length l target word tops from text within store shown =
    ap length (text store)
    ∙ length_part (bytes store (birth_at l.heap from.address)) from.offset from.length (within store
    (second_held (IsWithin (birth_at l.heap) l.names store) l.operands shown.operands target word
    tops))

-- why a text is not written
pub text_reason : (reason : Reason) (count text_room words_room slot : ℕ) (asked left : Grants)
    → IsTextReason reason count words_room slot asked left
    → IsCopyReason reason text_room words_room count slot asked left
text_reason LogFull count text_room words_room slot asked left why = why
text_reason LogClosed count text_room words_room slot asked left why = why
text_reason (NeedSpace words) count text_room words_room slot asked left why = why
text_reason Memory count text_room words_room slot asked left why = inr why

module _ (l : Lent) (good : IsGood l) (attempt : Attempt) (target word : Word)
    (tops : Some (target, word) ≡ first_two_of l.operands) (part : Part)
    (part_is : as_string (value_of (birth_at l.heap) l.names target)
    ≡ Some (part_of (birth_at l.heap) part)) (may : is_writable part.access ≡ true) where
  abbrev value : Word → Value
  value w = value_of (birth_at l.heap) l.names w

  abbrev text : Store → List ℕ
  text store = plain_text store (value word)

  abbrev part_value : PartValue
  part_value = part_of (birth_at l.heap) part

  split : l.operands ≡ target ∷ word ∷ drop 2 l.operands
  split = first_two_split l.operands target word tops

  pub cvs_long : (store : Store) → IsShown l store → part.length < length (text store)
      → effect_in (changing_row cvs_row) l store ≡ raises RangeCheck
  cvs_long store shown long =
      let test : nat_le (length (text store)) part.length ≡ false = grind (arith, nat_tests) in
      rw (split, part_is, may, test) refl

  -- the text of what a store shows fits
  abbrev Fits : Store → Type 0
  Fits store = length (text store) ≤ part.length

  abbrev left : Store → List Value
  left store = with_part (value target) (part_at part_value 0 (length (text store)))
      ∷ values_in l.heap l.names (drop 2 l.operands)

  abbrev later : Store → Store
  later store = with_part_bytes store part_value 0 (text store)

  cvs_is : (store : Store) → Fits store → effect_in (changing_row cvs_row) l store
      ≡ makes (record (scene_of l store) { operands = left store; store = later store }) []
  cvs_is store fits =
      let test : nat_le (length (text store)) part.length ≡ true = grind (arith, nat_tests) in
      rw (split, part_is, may, test) refl

  asks_is : (store : Store) → cvs_asks (scene_of l store) ≡ asked_for Strings (length (text store))
  asks_is store = rw split refl

  unasked : (store : Store) → made_between store (later store) ≡ 0
  unasked store = bytes_unasked store part_value.birth _

  -- ---- it is not made

  pub cvs_wants : ((store : Store) → IsShown l store → Fits store) → (grants : Grants)
      (scratch : Scratch) → IsAtLeast (rooms_of l.scratch) (rooms_of scratch) → IsEmpty scratch
      → KeepsLogsWithin 0 l.grants grants attempt.slot → (reason : Reason)
      → ((store : Store) → IsShown l store → IsStoreReason Strings (length (text store)) l.scratch
      attempt.slot l.grants grants reason)
      → Acts cvs_asks (changing_row cvs_row) attempt (Err (NotMade reason)) l
      (record l { grants = grants; scratch = scratch })
  cvs_wants fits grants scratch least empty logs reason why =
      wanting_acts (changing_row cvs_row) attempt cvs_asks l good grants l.room scratch (omega arith)
      least empty logs reason λ store shown. record {
        scene = record (scene_of l store) { operands = left store; store = later store };
        output = [];
        is = cvs_is store (fits store shown);
        enough = lacks_nothing attempt.refused store (later store) (unasked store);
        why = store_reason l (record l { grants = grants; scratch = scratch }) attempt.slot _ Strings
            reason (length (text store))
            (ap (λ (asked : Asked). asked.records) (asks_is store))
            (ap (λ (asked : Asked). asked.scratch) (asks_is store)) (why store shown);
      }

  -- ---- it is made

  pub cvs_acts : ((store : Store) → IsShown l store → Fits store) → (new : Heap) (grants : Grants)
      (scratch : Scratch) → IsAtLeast (rooms_of l.scratch) (rooms_of scratch) → IsEmpty scratch
      → Keeps l.heap new → IsSound new → (count : ℕ)
      → ((store : Store) → IsShown l store → length (text store) ≡ count)
      → KeepsLogsWithin (min 1 count) l.grants grants attempt.slot
      → ((store : Store) → IsShown l store
      → Shows new l.names (with_part_bytes store part_value 0 (text store)))
      → (front : Word) → IsValue l.heap front
      → value front ≡ with_part (value target) (part_at part_value 0 count)
      → ((store : Store) → IsWithin (birth_at l.heap) l.names store target
      → IsWithin (birth_at l.heap) l.names store front)
      → Acts cvs_asks (changing_row cvs_row) attempt (Ok tt) l (record l {
        heap = new;
        grants = grants;
        operands = front ∷ drop 2 l.operands;
        scratch = scratch;
      })
  cvs_acts fits new grants scratch least empty keeps sound count is logs shows front held front_is
      front_within =
      store_acts (changing_row cvs_row) attempt cvs_asks l (front ∷ drop 2 l.operands) good
      (held, rest_held (IsValue l.heap) l.operands good.operands 2) new grants scratch keeps sound
      least empty (logs_more _ most_records l.grants grants attempt.slot (few count) logs)
      λ store shown.
      let inside = first_of_two_held (IsWithin (birth_at l.heap) l.names store) l.operands
      shown.operands target word tops in
      let lies = string_lies l.heap l.names store shown.shows target
      (first_of_two_held (IsValue l.heap) l.operands good.operands target word tops) inside
      part_value part_is in
      let long = is store shown in
      let fitting = fits store shown in
      record {
        later = later store;
        is = cvs_is store fitting ∙ ap (λ (v : Value). makes (record (scene_of l store) {
          operands = v ∷ values_in l.heap l.names (drop 2 l.operands);
          store = later store;
        }) []) (ap (λ n. with_part (value target) (part_at part_value 0 n)) long ∙ sym front_is);
        unasked = unasked store;
        lasts = bytes_last store part_value lies 0 (text store) (omega (arith, fitting));
        shows = shows store shown;
        within = (
          front_within store inside,
          rest_held (IsWithin (birth_at l.heap) l.names store) l.operands shown.operands 2,
        );
        logs = subst (λ (n : ℕ). KeepsLogsWithin n l.grants grants attempt.slot)
            (ap (min 1) (sym long)
            ∙ sym (ap (λ (asked : Asked). asked.records) (asks_is store))) logs;
      }
    where
      few : (n : ℕ) → min 1 n ≤ most_records
      few n = grind (arith, nat_tests)
