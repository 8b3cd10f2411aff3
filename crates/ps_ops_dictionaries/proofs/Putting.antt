-- What a put leaves, and what it lacks.
use Rattle.std.proofs.Common.{◌≡◌, ◌≢◌, ℕ, zero, suc, ◌-◌, ◌≤◌, ◌<◌, arith, Bool, true, false, [], drop, length, Option}
use Rattle.std.proofs.Common.{Some, None, Ok, Err, refl, sym, ap, subst, ◌∙◌, append-nil}
use Rattle.std.specs.Prelude.{IsTrue, not, ◌&&◌, ◌==◌}
use Rattle.std.proofs.lemmas.Bool.Decides.{nat_tests}
use Rattle.std.proofs.lemmas.List.{drop-map, length-set}
use Rattle.ps_language.specs.declared.kinds.Kind.TheVariants.{Dictionary as DictionaryKind}
use Rattle.ps_language.specs.Value.{Value, Dictionary, dictionary_object, Store}
use Rattle.ps_language.specs.Access.{dictionary_at, with_dictionary}
use Rattle.ps_language.specs.Dictionaries.{holding, put_pair}
use Rattle.ps_language.specs.Effect.{Scene, makes, raises}
use Rattle.ps_language.specs.declared.errors.ErrorName.TheVariants.{LimitCheck}
use Rattle.ps_language.specs.Objects.{made_between, lacks_room}
use Rattle.ps_language.proofs.AskedLemmas.{made-set}
use Rattle.ps_word.specs.declared.words.Word.{Word}
use Rattle.ps_mem.specs.Heap.{Heap, Grants, birth_at}
use Rattle.ps_mem.specs.Keeps.{Keeps}
use Rattle.ps_mem.specs.References.{StandsAs}
use Rattle.ps_mem.specs.Meaning.{value_of}
use Rattle.ps_mem.specs.Shows.{IsValue, IsSound, IsWithin, Shows}
use Rattle.ps_mem.proofs.KeepsLemmas.{AreValues-kept, AreWithin-kept, values_of-kept, known_values}
use Rattle.ps_dict.specs.declared.plans.PutPlan.{PutPlan}
use Rattle.ps_dict.specs.declared.plans.PutPlan.TheVariants.{Full, Replace, Append, Grow}
use Rattle.ps_dict.specs.Puts.{AfterChange, planned, plan_at, records_of, words_of}
use Rattle.ps_dict.proofs.Changing.{with-lengths}
use Rattle.ps_dict.proofs.Planning.{full-iff, plan-shown}
use Rattle.ps_dict.proofs.Probing.{few-places}
use Rattle.ps_dict.proofs.Shapes.{there, count-fits, count-shown, capacity-shown}
use Rattle.ps_ops_operands.specs.declared.failure.NotMade.{NotMade as Reason}
use Rattle.ps_ops_operands.specs.Changes.{KeepsLogsWithin, most_records, values_in, records_asked, words_asked}
use Rattle.ps_ops_operands.proofs.Held.{rest_held}
use Rattle.ps_ops_state.specs.declared.breaks.Break.TheVariants.{NotMade}
use Rattle.ps_ops_state.specs.declared.lent.Attempt.{Attempt}
use Rattle.ps_ops_state.specs.Lent.{Lent, Rooms, scene_of, IsShown, IsGood}
use Rattle.ps_ops_state.specs.Acts.{Needs, effect_in, needs_between, needs_of_refused, IsReason, Lasts, Acts, over}
use Rattle.ps_ops_state.proofs.Reasons.{reason_as, as_many, as_large, grows_as, none_asked}
use Rattle.ps_ops_state.proofs.Acting.{left_acts, wanting_acts}
use Rattle.ps_ops_state.proofs.Lifts.{changed_good, changed_left}
use Rattle.ps_ops_state.proofs.Meeting.{at_least-same, logs_more, stays_as}
use Rattle.ps_ops_dictionaries.specs.Puts.{putting, putting_asks, IsLack}
use Rattle.ps_ops_dictionaries.proofs.Growths.{put_room}

-- ---- records and room

-- what was asked for, and then changed
pub logs_changed : (old mid new : Grants) (slot records words : ℕ) → KeepsLogsWithin 0 old mid slot
    → AfterChange mid new slot records words → KeepsLogsWithin records old new slot
logs_changed old mid new slot records words asked after =
    let used = asked.used in
    let put = asked.put in
    let kept = asked.kept in
    let used_then = after.used in
    let put_then = after.put in
    let kept_then = after.kept in
    record {
      cycle_open = after.cycle_open ∙ asked.cycle_open;
      closed = after.closed ∙ asked.closed;
      others = λ s other. after.others s other ∙ asked.others s other;
      used = omega (arith, used, used_then);
      kept = omega (arith, kept, kept_then);
      put = omega (arith, put, put_then);
      put_no_other = λ s other. after.put_no_other s other ∙ asked.put_no_other s other;
    }

few_records : (plan : PutPlan) → records_of plan ≤ 5
few_records (Replace place) = omega arith
few_records Append = omega arith
few_records (Grow capacity) = omega arith
few_records Full = omega arith

pub enough_room : (refused : Bool) (words : ℕ) → (IsTrue refused → words ≡ 0)
    → refused && not (words == 0) ≡ false
enough_room true words none = rw (none refl) refl
enough_room false words none = refl

pub lacks_some : (refused : Bool) (words : ℕ) → refused ≡ true → 0 < words
    → refused && not (words == 0) ≡ true
lacks_some true words is some =
    let asks : (words == 0) ≡ false = grind (arith, nat_tests, some) in rw asks refl
lacks_some false words is some = absurd (cc)

-- ---- the note of a refused step

-- the log lacks its records
pub note_lack : (l : Lent) (attempt : Attempt) (grants : Grants) (scratch : Rooms) (n : ℕ) → 1 ≤ n
    → (reason : Reason) → IsLack most_records 0 attempt.slot l.heap l.grants grants reason
    → IsReason (needs_of_refused scratch n) attempt.slot l (record l { grants = grants }) reason
note_lack l attempt grants scratch zero some reason why = absurd (omega (arith, some))
note_lack l attempt grants scratch (suc n) some reason why =
    reason_as (needs_of_refused scratch (suc n)) attempt.slot l (record l { grants = grants })
    (records_asked most_records attempt.slot l.grants grants) (words_asked 0 0 l.heap) _
    (λ asked. refl) none_asked (λ none. none_asked none.0) reason why

-- of a change of so many records and words
pub lack_reason : (needs : Needs) (slot : ℕ) (l new : Lent) (records words : ℕ)
    → needs.records ≡ records → needs.words ≡ words → needs.births ≡ 0 → (reason : Reason)
    → IsLack records words slot l.heap l.grants new.grants reason → IsReason needs slot l new reason
lack_reason needs slot l new records words records_are words_are born =
    reason_as needs slot l new (records_asked records slot l.grants new.grants)
    (words_asked words 0 l.heap) _ (λ asked. as_many needs slot l new records records_are)
    (λ asked. as_large needs slot l new words 0 words_are born)
    (grows_as needs slot l new words words_are)

-- ---- a pair is put

module _ (l : Lent) (good : IsGood l) (a : ℕ) (k x : Word) (count : ℕ) (plan : PutPlan)
    (known : StandsAs l.heap DictionaryKind a 4) (k_held : IsValue l.heap k)
    (plan_is : plan ≡ plan_at l.heap a k) (possible : plan ≢ Full) (attempt : Attempt)
    (inside : (store : Store) → IsShown l store
    → IsWithin (birth_at l.heap) l.names store k × IsWithin (birth_at l.heap) l.names store x)
  where
    abbrev birth : ℕ
    birth = birth_at l.heap a

    abbrev key : Value
    key = value_of (birth_at l.heap) l.names k

    abbrev value : Value
    value = value_of (birth_at l.heap) l.names x

    module _ (store : Store) (shown : IsShown l store) where
      abbrev pub before : Dictionary
      before = dictionary_at store birth

      pub planned_is : planned before key ≡ plan
      planned_is = plan-shown l.heap a known good.sound l.names store shown.shows k k_held good.names.different
          (inside store shown).0 ∙ sym plan_is

      few : length before.pairs ≤ before.capacity
      few =
          let fits = count-fits l.heap a known good.sound in
          let pairs = count-shown l.heap a known good.sound l.names store shown.shows in
          let size = capacity-shown l.heap a known good.sound l.names store shown.shows in
          omega (arith, fits, pairs, size)

      limit : length before.pairs ≤ 21845
      limit =
          let fits = count-fits l.heap a known good.sound in
          let pairs = count-shown l.heap a known good.sound l.names store shown.shows in
          let most = few-places l.heap a known good.sound in
          omega (arith, fits, pairs, most)

      -- what it holds then
      pub held_then : (d : Dictionary) × (holding before (put_pair before.pairs (key, value)) ≡ Some d)
      held_then = by (holding before (put_pair before.pairs (key, value))) refl
        where
          by : (o : Option Dictionary)
              → holding before (put_pair before.pairs (key, value)) ≡ o
              → (d : Dictionary) × (holding before (put_pair before.pairs (key, value)) ≡ Some d)
          by (Some d) is = (d, is)
          by None is = absurd (possible
              (sym planned_is ∙ (full-iff before key value limit).1 is))

      abbrev pub after : Dictionary
      after = held_then.0

      abbrev pub left_store : Store
      left_store = with_dictionary store birth after

      abbrev pub left_scene : Scene
      left_scene = record (scene_of l store)
          { operands = drop count (values_in l.heap l.names l.operands); store = left_store }

      pub effect_is : effect_in (putting (birth_at l.heap) a k x count) l store ≡ makes left_scene []
      effect_is = rw held_then.1 refl

      words_are : made_between store left_store ≡ words_of plan
      unfolding with_dictionary
      words_are =
          made-set store birth (dictionary_object before) (dictionary_object after)
          (there l.heap a known good.sound l.names store shown.shows)
          ∙ (put_room before after key value few held_then.1 ∙ ap words_of planned_is)

      enough : (IsTrue attempt.refused → words_of plan ≡ 0)
          → lacks_room attempt.refused store left_store ≡ false
      enough room = enough_room attempt.refused (made_between store left_store)
          (λ refused. words_are ∙ room refused)

      -- refused the room of a new body
      pub lacking : attempt.refused ≡ true → 0 < words_of plan
          → lacks_room attempt.refused store left_store ≡ true
      lacking refused some =
          let same = words_are in
          lacks_some attempt.refused (made_between store left_store) refused (omega (arith, same, some))

      lasts : Lasts store left_store
      lasts = with-lengths store birth before after
          (there l.heap a known good.sound l.names store shown.shows)

      records_are : records_of (planned before key) ≡ records_of plan
      records_are = ap records_of planned_is

      births_same : length left_store - length store ≡ 0
      unfolding with_dictionary
      births_same =
          let same = length-set store birth (dictionary_object after) in omega (arith, same)

      lack_is : (new : Grants) (reason : Reason)
          → IsLack (records_of plan) (words_of plan) attempt.slot l.heap l.grants new reason
          → IsReason (needs_between (putting_asks (birth_at l.heap) a k (scene_of l store))
          (scene_of l store) left_scene []) attempt.slot l (record l { grants = new }) reason
      lack_is new reason =
          lack_reason _ attempt.slot l (record l { grants = new }) (records_of plan) (words_of plan)
          records_are words_are births_same reason

    pub lacking_acts : (IsTrue attempt.refused → words_of plan ≡ 0) → (grants : Grants)
        → KeepsLogsWithin 0 l.grants grants attempt.slot
        → (reason : Reason)
        → IsLack (records_of plan) (words_of plan) attempt.slot l.heap l.grants grants reason
        → Acts (putting_asks (birth_at l.heap) a k) (putting (birth_at l.heap) a k x count) attempt
        (Err (NotMade reason)) l (record l { grants = grants })
    lacking_acts room grants logs reason why =
        wanting_acts (putting (birth_at l.heap) a k x count) attempt
        (putting_asks (birth_at l.heap) a k) l good grants l.room l.scratch (omega arith)
        (at_least-same _) good.empty logs reason
        λ store shown. record {
          scene = left_scene store shown;
          output = [];
          is = effect_is store shown;
          enough = enough store shown room;
          why = lack_is store shown grants reason why;
        }

    pub put_acts : (IsTrue attempt.refused → words_of plan ≡ 0) → (new : Heap) (mid left : Grants) → IsSound new
        → (keeps : Keeps l.heap new)
        → KeepsLogsWithin 0 l.grants mid attempt.slot
        → AfterChange mid left attempt.slot (records_of plan) (words_of plan)
        → ((store : Store) → IsShown l store → (d : Dictionary)
        → holding (dictionary_at store birth) (put_pair (dictionary_at store birth).pairs
        (key, value)) ≡ Some d → Shows new l.names (with_dictionary store birth d))
        → Acts (putting_asks (birth_at l.heap) a k) (putting (birth_at l.heap) a k x count) attempt
        (Ok tt) l (over l new left (drop count l.operands))
    put_acts room new mid left sound keeps asked change shows =
        let logs = logs_changed l.grants mid left attempt.slot _ _ asked change in
        let words = drop count l.operands in
        let held = rest_held (IsValue l.heap) l.operands good.operands count in
        left_acts (putting (birth_at l.heap) a k x count) attempt (putting_asks (birth_at l.heap) a k)
        l good (over l new left words)
        (changed_good l good new left words keeps
        (record { sound = sound; values = AreValues-kept l.heap new keeps words held }))
        keeps (stays_as l _ refl refl refl refl (omega arith) (at_least-same _))
        (logs_more _ most_records l.grants left attempt.slot (few_records plan) logs)
        λ store shown.
        let is_left = changed_left l good new left words keeps store (left_store store shown)
        (lasts store shown) shown (shows store shown _ (held_then store shown).1)
        (AreWithin-kept l.heap new keeps l.names store (left_store store shown)
        (lasts store shown) words (known_values l.heap words held)
        (rest_held (IsWithin (birth_at l.heap) l.names store) l.operands shown.operands count))
        (drop count (values_in l.heap l.names l.operands))
        (values_of-kept l.heap new keeps l.names words (known_values l.heap words held)
        ∙ sym (drop-map (value_of (birth_at l.heap) l.names) count l.operands)) in
        record {
          after = left_store store shown;
          output = [];
          is = effect_is store shown ∙ ap (λ (s : Scene). makes s []) (sym is_left.is);
          enough = enough store shown room;
          shown = is_left.shown;
          lasts = lasts store shown;
          printed = sym (append-nil l.printed);
          logs = subst (λ (n : ℕ). KeepsLogsWithin n l.grants left attempt.slot)
              (sym (records_are store shown)) logs;
        }

-- the pairs would be too many
pub full_raises : (l : Lent) (a : ℕ) (k x : Word) (count : ℕ) (store : Store)
    → holding (dictionary_at store (birth_at l.heap a))
    (put_pair (dictionary_at store (birth_at l.heap a)).pairs
    (value_of (birth_at l.heap) l.names k, value_of (birth_at l.heap) l.names x)) ≡ None
    → effect_in (putting (birth_at l.heap) a k x count) l store ≡ raises LimitCheck
full_raises l a k x count store none = rw none refl
