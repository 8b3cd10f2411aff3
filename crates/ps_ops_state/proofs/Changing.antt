-- Operators that change objects or make them.
use Rattle.std.proofs.Common.{◌≡◌, ℕ, ◌-◌, ◌≤◌, arith, Bool, true, false, List, [], ◌∷◌, length, Option, Some, None}
use Rattle.std.proofs.Common.{Result, Ok, Err, refl, sym, ap, subst, ◌∙◌, append-nil, inl, inr}
use Rattle.std.proofs.lemmas.Bool.Decides.{eqb_tells, nat_tests}
use Rattle.std.specs.Prelude.{OnErr, min, slice_get, if◌then◌else◌}
use Rattle.ps_language.specs.declared.errors.ErrorName.{ErrorName}
use Rattle.ps_language.specs.declared.errors.ErrorName.TheVariants.{VmError}
use Rattle.ps_language.specs.Value.{Part as PartValue, Value, Store, Object, array_object, string_object}
use Rattle.ps_language.specs.Value.{dictionary_object, lock_object, condition_object}
use Rattle.ps_language.specs.Access.{bytes, bytes_in, with_elements}
use Rattle.ps_language.specs.Outcome.{Outcome, leaves, fails, given, given_that, Change}
use Rattle.ps_language.specs.Objects.{size_of, made_between, lacks_room}
use Rattle.ps_language.specs.Readers.{as_array, array_in}
use Rattle.ps_language.specs.Effect.{Scene, makes}
use Rattle.ps_language.specs.Acts.{change_effect}
use Rattle.ps_language.specs.Rows.{changing_row}
use Rattle.ps_language.proofs.AskedLemmas.{made-new}
use Rattle.ps_word.specs.declared.words.Word.{Word}
use Rattle.ps_word.specs.declared.values.Content.{Content}
use Rattle.ps_word.specs.declared.values.Content.TheVariants.{Null, Integer, Boolean, Mark, Name, Operator, Array, Text}
use Rattle.ps_word.specs.declared.values.Content.TheVariants.{Dictionary, Lock, Condition, Body}
use Rattle.ps_word.specs.Format.{content_in}
use Rattle.ps_mem.specs.Heap.{Heap, Grants, birth_at}
use Rattle.ps_mem.specs.Keeps.{Keeps}
use Rattle.ps_mem.specs.References.{IsKnownContent, IsKnown}
use Rattle.ps_mem.specs.Meaning.{what_of, value_of}
use Rattle.ps_mem.specs.Shows.{IsValue, IsReady, Shows}
use Rattle.ps_mem.proofs.Lists.{slice_get-set_other}
use Rattle.ps_mem.proofs.NewShows.{longer}
use Rattle.ps_mem.proofs.StoreShows.{array-shown}
use Rattle.ps_seq.proofs.ArrayLemmas.{birth-array}
use Rattle.ps_ops_operands.specs.declared.failure.Failure.{Failure}
use Rattle.ps_ops_operands.specs.declared.failure.Failure.TheVariants.{Error, NotMade}
use Rattle.ps_ops_operands.specs.Changes.{values_in, ChangesAs, KeepsLogsWithin, most_records, spent, IsRecordReason, Changes}
use Rattle.ps_ops_operands.specs.Changes.{refusing, IsRoomReason, Makes}
use Rattle.ps_ops_state.proofs.Asking.{Leaving, IsUnasked, IsMade}
use Rattle.ps_ops_control.specs.declared.frames.Frame.{Frame}
use Rattle.ps_ops_state.specs.declared.lent.Attempt.{Attempt}
use Rattle.ps_ops_state.specs.Breaks.{tried}
use Rattle.ps_ops_state.specs.Lent.{Lent, scene_of, IsShown, IsGood}
use Rattle.ps_ops_state.specs.Acts.{Asked, needs_as, nothing_asked, stores, Lasts, IsLeft, ActsAs, Meets, Acts, over}
use Rattle.ps_ops_state.proofs.Meeting.{lasts-same, logs_more, stays_as, at_least-same, lacks_nothing, made_meets}
use Rattle.ps_ops_state.proofs.Meeting.{wanting_meets}
use Rattle.ps_ops_state.proofs.Reasons.{record_reason, room_reason}
use Rattle.ps_ops_state.proofs.Lifts.{changed_good, changed_left}

-- ---- no string is shorter after what a row leaves

abbrev pub LastsAs : Store → Outcome Change → Type 0
LastsAs s (leaves change) = Lasts s change.store
LastsAs s (fails error) = Unit {0}

pub record RowLasts (s : Store) (outcome : Outcome Change) : Type 0 where
  pub lasts : LastsAs s outcome

pub made_lasts : (s : Store) (change : Change) → IsMade s change → Lasts s change.store
made_lasts s change made =
    subst (Lasts s) (sym made.grown) (longer s (made.object ∷ []))

pub lasts_given : {A : Type 0} (s : Store) (thing : Option A) (error : ErrorName)
    (next : A → Outcome Change) → ((a : A) → thing ≡ Some a → RowLasts s (next a))
    → RowLasts s (given thing error next)
lasts_given s None error next each = record { lasts = tt }
lasts_given s (Some a) error next each = each a refl

pub lasts_given_that : (s : Store) (test : Bool) (error : ErrorName) (next : Outcome Change)
    → RowLasts s next → RowLasts s (given_that test error next)
lasts_given_that s true error next left = left
lasts_given_that s false error next left = record { lasts = tt }

-- other elements where no string is
pub elements_last : (s : Store) (b : ℕ) (es : List Value) → bytes s b ≡ [] → (c : ℕ)
    → length (bytes s c) ≤ length (bytes (with_elements s b es) c)
unfolding bytes with_elements
elements_last s b es none c = elim (eqb_tells b c) [
  | inl (_, same) ↦ let empty : length (bytes_in (slice_get s c)) ≡ 0 =
      ap (λ n. length (bytes_in (slice_get s n))) (sym same)
      ∙ ap length none in omega (arith, empty)
  | inr (_, other) ↦ let is = ap (λ o. length (bytes_in o))
      (slice_get-set_other s b c (array_object es) other) in omega (arith, is)
]

module _ (h : Heap) (names : List (List ℕ)) (s : Store) (shows : Shows h names s) where
  array_content : (content : Content) → IsKnownContent h content → (p : PartValue)
      → array_in (what_of (birth_at h) names content) ≡ Some p → bytes s p.birth ≡ []
  unfolding bytes
  array_content (Array part) known p is =
      let same : birth_at h part.address ≡ p.birth = ap (λ (o : Option PartValue). birth_in o) is in
      ap (λ b. bytes_in (slice_get s b)) (sym same ∙ birth-array h part.address _ known)
      ∙ ap bytes_in (array-shown h names s shows part.address known.object known.at
      known.kind_is)
    where
      birth_in : Option PartValue → ℕ
      birth_in (Some q) = q.birth
      birth_in None = 0
  array_content Null known p is = cc
  array_content (Integer _) known p is = cc
  array_content (Boolean _) known p is = cc
  array_content Mark known p is = cc
  array_content (Name _) known p is = cc
  array_content (Operator _) known p is = cc
  array_content (Text _) known p is = cc
  array_content (Dictionary _) known p is = cc
  array_content (Lock _) known p is = cc
  array_content (Condition _) known p is = cc
  array_content (Body _) known p is = cc

  -- an array among the operands is no string
  pub array_bytes : (w : Word) → IsValue h w → (p : PartValue)
      → as_array (value_of (birth_at h) names w) ≡ Some p → bytes s p.birth ≡ []
  unfolding as_array value_of IsKnown
  array_bytes w value p is = array_content (content_in w.0) value.known p is

-- an object has a header at least
size_positive : (object : Object) → 1 ≤ size_of object
size_positive (array_object elements) = omega arith
size_positive (string_object bytes) = omega arith
size_positive (dictionary_object dictionary) = omega arith
size_positive (lock_object lock) = omega arith
size_positive condition_object = omega arith

-- ---- operators that store elements

pub tried_framed : (frames : List Frame) (result : Result Unit Failure)
    → OnErr (tried result) (frames ≡ frames)
tried_framed frames (Ok _) = tt
tried_framed frames (Err (Error error)) = refl
tried_framed frames (Err (NotMade reason)) = refl

tried_spent : (result : Result Unit Failure) (most : ℕ)
    → spent (tried result) most ≡ spent result most
tried_spent (Ok _) most = refl
tried_spent (Err (Error error)) most = refl
tried_spent (Err (NotMade reason)) most = refl

-- so many records are more
spent_more : (result : Result Unit Failure) (few most : ℕ) → few ≤ most
    → spent result few ≤ spent result most
spent_more (Ok _) few most more = more
spent_more (Err failure) few most more = omega arith

pub tried_logs : (result : Result Unit Failure) (few most : ℕ) (old new : Grants) (slot : ℕ)
    → few ≤ most
    → KeepsLogsWithin (spent result few) old new slot
    → KeepsLogsWithin (spent (tried result) most) old new slot
tried_logs result few most old new slot more logs =
    subst (λ (n : ℕ). KeepsLogsWithin n old new slot) (sym (tried_spent result most))
    (logs_more (spent result few) (spent result most) old new slot (spent_more result few most more)
    logs)

module _ (l : Lent) (good : IsGood l) (attempt : Attempt) (new : Heap) (left : Grants)
    (after : List Word) (keeps : Keeps l.heap new) where
  abbrev Logs : ℕ → Type 0
  Logs most = KeepsLogsWithin most l.grants left attempt.slot

  one_record : (n : ℕ) → min 1 n ≤ most_records
  one_record n = grind (arith, nat_tests)

  module _ (count : List Value → ℕ) where
    abbrev asks : Scene → Asked
    asks = stores count

    changed_as : (result : Result Unit Failure) (outcome : Outcome Change) (store : Store)
        → IsShown l store → Leaving (IsUnasked store) outcome → RowLasts store outcome
        → Logs (spent (tried result) (asks (scene_of l store)).records)
        → ChangesAs (λ reason change. IsRecordReason reason
        (min 1 (count (values_in l.heap l.names l.operands))) attempt.slot l.grants left) result
        outcome l.names l.heap new l.operands after
        → Meets asks (change_effect (scene_of l store) outcome) attempt (tried result)
        (scene_of l store) l (over l new left after)
    changed_as (Ok _) (leaves change) store shown none lasts logs did =
        made_meets asks attempt (scene_of l store) l (over l new left after) _ []
        (lacks_nothing attempt.refused store change.store none.such)
        (changed_left l good new left after keeps store change.store lasts.lasts shown did.store
        did.within change.operands did.operands) (sym (append-nil l.printed)) logs
    changed_as (Ok _) (fails raised) store shown none lasts logs did = absurd did
    changed_as (Err (Error error)) (leaves change) store shown none lasts logs did = absurd did
    changed_as (Err (Error error)) (fails raised) store shown none lasts logs did =
        record { did = (did.0, λ i. over l (did.1.0 i) left (did.1.1 i)); logs = logs }
    changed_as (Err (NotMade reason)) (leaves change) store shown none lasts logs did =
        wanting_meets asks attempt (scene_of l store) l (over l new left after) _ []
        (lacks_nothing attempt.refused store change.store none.such) reason
        (record_reason _ attempt.slot l (over l new left after) _ refl reason did.0)
        (λ i. over l (did.1.0 i) left (did.1.1 i)) logs
    changed_as (Err (NotMade reason)) (fails raised) store shown none lasts logs did = absurd did

    pub changes_acts : (row : Store → List Value → Outcome Change) (result : Result Unit Failure)
        → ((store : Store) (operands : List Value) → Leaving (IsUnasked store) (row store operands))
        → ((store : Store) → IsShown l store
        → RowLasts store (row store (values_in l.heap l.names l.operands)))
        → Changes row count result attempt.slot l.grants left l.heap new l.operands after
        → IsReady new after
        → ((names : List (List ℕ)) → Logs (spent result (min 1 (count (values_in l.heap names
        l.operands)))))
        → Acts asks (changing_row row) attempt (tried result) l (over l new left after)
    changes_acts row result none lasts did ready logs = record {
      meets = λ store shown.
          let values = values_in l.heap l.names l.operands in
          changed_as result (row store values) store shown (none store values) (lasts store shown)
          (tried_logs result _ _ l.grants left attempt.slot (omega arith) (logs l.names))
          (did.meets l.names store shown.shows shown.operands);
      good = changed_good l good new left after keeps ready;
      keeps = keeps;
      stays = stays_as l _ refl refl refl refl (omega arith) (at_least-same _);
      logs = tried_logs result _ _ l.grants left attempt.slot (one_record _) (logs l.names);
      framed = tried_framed l.frames result;
    }

  -- ---- operators that make objects

  -- nothing but what was granted
  same_left : new ≡ l.heap → after ≡ l.operands → (store : Store) → IsShown l store
      → IsLeft store (over l new left after) (scene_of l store)
  same_left same kept store shown =
      subst (λ h. IsLeft store (over l h left after) (scene_of l store)) (sym same)
      (subst (λ ws. IsLeft store (over l l.heap left ws) (scene_of l store)) (sym kept)
      (record {
        is = refl;
        shown = record {
          shows = shown.shows;
          operands = shown.operands;
          dictionaries = shown.dictionaries;
          frames = shown.frames;
        };
        lasts = lasts-same store;
      }))

  -- whether it lacks the room or not
  module _ (change : Change) (store : Store) (shown : IsShown l store)
      (made : IsMade store change) where
    abbrev made_scene : Scene
    made_scene = record (scene_of l store) { operands = change.operands; store = change.store }

    asks_some : 1 ≤ made_between store change.store
    asks_some = subst (λ (t : Store). 1 ≤ made_between store t) (sym made.grown)
        (subst (λ (n : ℕ). 1 ≤ n) (sym (made-new store made.object)) (size_positive made.object))

    made_as : (lacking : Bool) (result : Result Unit Failure)
        → ChangesAs (λ reason c. IsRoomReason reason l.heap (made_between store c.store)
        (length c.store - length store)) result
        (if lacking then fails VmError else leaves change) l.names l.heap new l.operands after
        → ActsAs (needs_as (nothing_asked (scene_of l store)) (scene_of l store) (makes made_scene []) lacking)
        attempt.slot
        (scene_of l store) (tried result) (makes made_scene []) lacking l (over l new left after)
    made_as true (Ok _) did = absurd did
    made_as true (Err (Error error)) did = (
      did.0,
      record {
        is = λ i. over l (did.1.0 i) left (did.1.1 i);
        left = same_left did.1.0 did.1.1 store shown;
        may_note = inl refl;
      },
    )
    made_as true (Err (NotMade reason)) did = absurd did
    made_as false (Ok _) did = (
      changed_left l good new left after keeps store change.store (made_lasts store change made)
          shown did.store did.within change.operands did.operands,
      sym (append-nil l.printed),
    )
    made_as false (Err (Error error)) did = absurd did
    made_as false (Err (NotMade reason)) did = (
      room_reason _ attempt.slot l (over l new left after) _ _ refl refl asks_some reason did.0,
      λ i. over l (did.1.0 i) left (did.1.1 i),
    )

  makes_as : (result : Result Unit Failure) (outcome : Outcome Change) (store : Store)
      → IsShown l store → Leaving (IsMade store) outcome → Logs (spent (tried result) 0)
      → ChangesAs (λ reason c. IsRoomReason reason l.heap (made_between store c.store)
      (length c.store - length store)) result (refusing attempt.refused store outcome) l.names l.heap
      new l.operands after
      → Meets nothing_asked (change_effect (scene_of l store) outcome) attempt (tried result)
      (scene_of l store) l (over l new left after)
  makes_as result (leaves change) store shown made logs did = record {
    did = made_as change store shown made.such (lacks_room attempt.refused store change.store) result
        did;
    logs = logs;
  }
  makes_as (Ok _) (fails raised) store shown made logs did = absurd did
  makes_as (Err (Error error)) (fails raised) store shown made logs did =
      record { did = (did.0, λ i. over l (did.1.0 i) left (did.1.1 i)); logs = logs }
  makes_as (Err (NotMade reason)) (fails raised) store shown made logs did = absurd did

  pub makes_acts : (row : Store → List Value → Outcome Change) (result : Result Unit Failure)
      → ((store : Store) (operands : List Value) → Leaving (IsMade store) (row store operands))
      → Makes row attempt.refused result l.heap new l.operands after → IsReady new after → Logs 0
      → Acts nothing_asked (changing_row row) attempt (tried result) l (over l new left after)
  makes_acts row result made did ready logs = record {
    meets = λ store shown.
        let values = values_in l.heap l.names l.operands in
        makes_as result (row store values) store shown (made store values)
        (logs_more 0 _ l.grants left attempt.slot (omega arith) logs)
        (did.meets l.names store shown.shows shown.operands);
    good = changed_good l good new left after keeps ready;
    keeps = keeps;
    stays = stays_as l _ refl refl refl refl (omega arith) (at_least-same _);
    logs = logs_more 0 _ l.grants left attempt.slot (omega arith) logs;
    framed = tried_framed l.frames result;
  }
