-- What putting the pairs of one dictionary into another leaves, and what it lacks.
use Rattle.std.proofs.Common.{◌≡◌, ◌≢◌, ℕ, ◌-◌, ◌≤◌, ◌<◌, arith, true, false, List, [], ◌∷◌, drop, length, Option, Some}
use Rattle.std.proofs.Common.{None, Ok, Err, refl, sym, ap, subst, ◌∙◌, inl, inr, append-nil}
use Rattle.std.specs.Prelude.{IsTrue, ◌&&◌, slice_get, vec_capacity}
use Rattle.std.proofs.lemmas.List.{length-set}
use Rattle.ps_language.specs.declared.access.Access.{Access}
use Rattle.ps_language.specs.declared.errors.ErrorName.TheVariants.{InvalidAccess, LimitCheck, VmError}
use Rattle.ps_language.specs.declared.kinds.Kind.TheVariants.{Dictionary as DictionaryKind}
use Rattle.ps_language.specs.Value.{What, Value, Dictionary, dictionary_object, Store}
use Rattle.ps_language.specs.Access.{dictionary_at, is_readable, is_writable, with_dictionary}
use Rattle.ps_language.specs.Acts.{change_effect}
use Rattle.ps_language.specs.Dictionaries.{holding, put_pairs}
use Rattle.ps_language.specs.Effect.{Scene, makes, raises}
use Rattle.ps_language.specs.Objects.{made_between, lacks_room, changing}
use Rattle.ps_language.specs.Outcome.{Outcome, given, Change}
use Rattle.ps_language.specs.Rows.{changing_row}
use Rattle.ps_language.specs.RowsSequences.{copy_row, copy_by, copy_dictionary}
use Rattle.ps_language.proofs.AskedLemmas.{made-set}
use Rattle.ps_stacks.specs.Tops.{first_two_of}
use Rattle.ps_word.specs.declared.words.Word.{Word}
use Rattle.ps_word.specs.Format.{content_in}
use Rattle.ps_word.specs.Readers as words
use Rattle.ps_mem.specs.Heap.{Heap, Grants, birth_at}
use Rattle.ps_mem.specs.Keeps.{Keeps}
use Rattle.ps_mem.specs.References.{StandsAs}
use Rattle.ps_mem.specs.Meaning.{value_of}
use Rattle.ps_mem.specs.Shows.{IsValue, AreValues, IsSound, IsWithin, Shows}
use Rattle.ps_mem.proofs.KeepsLemmas.{AreValues-kept, AreWithin-kept, values_of-kept, known_values}
use Rattle.ps_dict.specs.declared.copies.MergePlan.{MergePlan}
use Rattle.ps_dict.specs.declared.copies.MergePlan.TheVariants.{Keep, Rewrite, Grow, Full}
use Rattle.ps_dict.specs.Merges.{merge_plan_at, merge_planned, merge_room, records_of, words_of}
use Rattle.ps_dict.specs.Puts.{AfterChange}
use Rattle.ps_dict.proofs.Changing.{with-lengths}
use Rattle.ps_dict.proofs.Copying.{planned-shown, planned-full, room-shown}
use Rattle.ps_dict.proofs.Shapes.{there, count-fits, count-shown, capacity-shown}
use Rattle.ps_ops_operands.specs.declared.failure.NotMade.{NotMade as Reason}
use Rattle.ps_ops_operands.specs.declared.failure.NotMade.TheVariants.{Memory}
use Rattle.ps_ops_operands.specs.Changes.{KeepsLogsWithin, most_records, values_in}
use Rattle.ps_ops_operands.proofs.Held.{rest_held, first_of_two_held, second_held}
use Rattle.ps_ops_operands.proofs.Operands.{first_two_split}
use Rattle.ps_ops_types.proofs.Accesses.{dictionary_stands}
use Rattle.ps_ops_state.specs.declared.breaks.Break.TheVariants.{Raises, NotMade}
use Rattle.ps_ops_state.specs.declared.lent.Attempt.{Attempt}
use Rattle.ps_ops_state.specs.declared.lent.Scratch.{Scratch}
use Rattle.ps_ops_state.specs.Lent.{Lent, rooms_of, IsEmpty, scene_of, IsShown, IsGood}
use Rattle.ps_ops_state.specs.Acts.{Asked, IsAtLeast, needs_between, IsReason, Lasts, effect_in, Acts, over}
use Rattle.ps_ops_state.proofs.Acting.{left_acts, wanting_acts}
use Rattle.ps_ops_state.proofs.Forming.{refused_acts}
use Rattle.ps_ops_state.proofs.Lifts.{changed_good, changed_left}
use Rattle.ps_ops_state.proofs.Meeting.{logs-same, logs_more, stays_as}
use Rattle.ps_step_lookup.proofs.Looking.{dictionary_is}
use Rattle.ps_ops_dictionaries.specs.Asks.{copy_asks, merge_asked}
use Rattle.ps_ops_dictionaries.specs.Puts.{IsLack}
use Rattle.ps_ops_dictionaries.proofs.Finding.{what_is}
use Rattle.ps_ops_dictionaries.proofs.Growths.{merge_growth}
use Rattle.ps_ops_dictionaries.proofs.Putting.{enough_room, lacks_some, lack_reason, logs_changed}

few_records : (plan : MergePlan) → records_of plan ≤ most_records
few_records Keep = omega arith
few_records (Rewrite count) = omega arith
few_records (Grow count capacity) = omega arith
few_records Full = omega arith

module _ (l : Lent) (good : IsGood l) (y x : Word) (two : Some (y, x) ≡ first_two_of l.operands)
    (to from : ℕ) (to_is : Some to ≡ words.as_dictionary (content_in y.0))
    (from_is : Some from ≡ words.as_dictionary (content_in x.0)) where
  abbrev births : ℕ → ℕ
  births = birth_at l.heap

  abbrev target_value : Value
  target_value = value_of births l.names y

  abbrev rest : List Value
  rest = values_in l.heap l.names (drop 2 l.operands)

  abbrev target_in : Store → Dictionary
  target_in store = dictionary_at store (births to)

  abbrev source_in : Store → Dictionary
  source_in store = dictionary_at store (births from)

  abbrev pairs_then : Store → List (Value × Value)
  pairs_then store = put_pairs (target_in store).pairs (source_in store).pairs

  pub target_stands : StandsAs l.heap DictionaryKind to 4
  target_stands = dictionary_stands l.heap y
      (first_of_two_held (IsValue l.heap) l.operands good.operands y x two) to to_is

  pub source_stands : StandsAs l.heap DictionaryKind from 4
  source_stands = dictionary_stands l.heap x
      (second_held (IsValue l.heap) l.operands good.operands y x two) from from_is

  copy_is : (store : Store) → effect_in (changing_row copy_row) l store
      ≡ change_effect (scene_of l store)
      (copy_dictionary store (births from) (births to) target_value rest)
  copy_is store = rw (first_two_split l.operands y x two)
      (ap (λ (w : What). change_effect (scene_of l store)
      (copy_by store target_value w (value_of births l.names x ∷ rest)))
      (what_is births l.names y to to_is)
      ∙ rw (dictionary_is births l.names x, sym from_is) refl)

  -- ---- one of them is closed

  module _ (readable writable : Access)
      (source_access : (names : List (List ℕ)) (s : Store) → Shows l.heap names s
      → readable ≡ (dictionary_at s (births from)).access)
      (target_access : (names : List (List ℕ)) (s : Store) → Shows l.heap names s
      → writable ≡ (dictionary_at s (births to)).access) where
    pub copy_hidden : (is_readable readable && is_writable writable) ≡ false → (store : Store)
        → IsShown l store → effect_in (changing_row copy_row) l store ≡ raises InvalidAccess
    copy_hidden hidden store shown =
        copy_is store
        ∙ rw (
          sym (source_access l.names store shown.shows),
          sym (target_access l.names store shown.shows),
          hidden,
        ) refl

    module _ (may : (is_readable readable && is_writable writable) ≡ true) where
      -- by what holds the pairs
      abbrev copied : Store → Option Dictionary → Outcome Change
      copied store held = given held LimitCheck λ new.
          changing (target_value ∷ rest) (with_dictionary store (births to) new)

      copied_is : (store : Store) → IsShown l store → (held : Option Dictionary)
          → holding (target_in store) (pairs_then store) ≡ held
          → effect_in (changing_row copy_row) l store
          ≡ change_effect (scene_of l store) (copied store held)
      copied_is store shown held is =
          let opened : change_effect (scene_of l store)
          (copy_dictionary store (births from) (births to) target_value rest)
          ≡ change_effect (scene_of l store)
          (copied store (holding (target_in store) (pairs_then store))) =
          rw (
            sym (source_access l.names store shown.shows),
            sym (target_access l.names store shown.shows),
            may,
          ) refl in
          copy_is store
          ∙ (opened
          ∙ ap (λ (o : Option Dictionary). change_effect (scene_of l store) (copied store o)) is)

      module _ (store : Store) (shown : IsShown l store) where
        plan_is : merge_plan_at l.heap to from ≡ merge_planned (target_in store) (source_in store)
        plan_is = planned-shown l.heap good.sound to from target_stands source_stands l.names store
            shown.shows good.names.different

        pub copy_full : merge_plan_at l.heap to from ≡ Full
            → effect_in (changing_row copy_row) l store ≡ raises LimitCheck
        copy_full full = copied_is store shown None
            ((planned-full l.heap good.sound to from target_stands source_stands l.names store
            shown.shows).0 (sym plan_is ∙ full))

      -- ---- they are not too many

      module _ (possible : merge_plan_at l.heap to from ≢ Full) (attempt : Attempt) where
        abbrev plan : MergePlan
        plan = merge_plan_at l.heap to from

        module _ (store : Store) (shown : IsShown l store) where
          held_then : (d : Dictionary)
              × (holding (target_in store) (pairs_then store) ≡ Some d)
          held_then = by (holding (target_in store) (pairs_then store)) refl
            where
              by : (o : Option Dictionary)
                  → holding (target_in store) (pairs_then store) ≡ o
                  → (d : Dictionary)
                  × (holding (target_in store) (pairs_then store) ≡ Some d)
              by (Some d) is = (d, is)
              by None is = absurd (possible (plan_is store shown
                  ∙ (planned-full l.heap good.sound to from target_stands source_stands l.names
                  store shown.shows).1 is))

          abbrev left_store : Store
          left_store = with_dictionary store (births to) held_then.0

          abbrev left_scene : Scene
          left_scene = record (scene_of l store)
              { operands = target_value ∷ rest; store = left_store }

          effect_is : effect_in (changing_row copy_row) l store ≡ makes left_scene []
          effect_is = copied_is store shown (Some held_then.0) held_then.1

          few : length (target_in store).pairs ≤ (target_in store).capacity
          few =
              let fits = count-fits l.heap to target_stands good.sound in
              let pairs = count-shown l.heap to target_stands good.sound l.names store
              shown.shows in
              let size = capacity-shown l.heap to target_stands good.sound l.names store
              shown.shows in
              omega (arith, fits, pairs, size)

          stands : slice_get store (births to) ≡ Some (dictionary_object (target_in store))
          stands = there l.heap to target_stands good.sound l.names store shown.shows

          words_are : made_between store left_store ≡ words_of plan
          unfolding with_dictionary merge_planned
          words_are =
              made-set store (births to) (dictionary_object (target_in store))
              (dictionary_object held_then.0) stands
              ∙ (merge_growth (target_in store) held_then.0 (source_in store).pairs few held_then.1
              ∙ ap words_of (sym (plan_is store shown)))

          enough : (IsTrue attempt.refused → words_of plan ≡ 0)
              → lacks_room attempt.refused store left_store ≡ false
          enough room = enough_room attempt.refused (made_between store left_store)
              (λ refused. words_are ∙ room refused)

          lacking : attempt.refused ≡ true → 0 < words_of plan
              → lacks_room attempt.refused store left_store ≡ true
          lacking refused some =
              let same = words_are in
              lacks_some attempt.refused (made_between store left_store) refused
              (omega (arith, same, some))

          lasts : Lasts store left_store
          lasts = with-lengths store (births to) (target_in store) held_then.0 stands

          asks_are : copy_asks (scene_of l store) ≡ merge_asked (target_in store) (source_in store)
          asks_are = rw (
            first_two_split l.operands y x two,
            dictionary_is births l.names y,
            sym to_is,
            dictionary_is births l.names x,
            sym from_is,
          ) refl

          records_are : (copy_asks (scene_of l store)).records ≡ records_of plan
          records_are = ap (λ (a : Asked). a.records) asks_are
              ∙ ap records_of (sym (plan_is store shown))

          room_is : (copy_asks (scene_of l store)).scratch.words ≡ merge_room l.heap to from
          room_is = ap (λ (a : Asked). a.scratch.words) asks_are
              ∙ sym (room-shown l.heap good.sound to from target_stands source_stands l.names
              store shown.shows good.names.different)

          births_same : length left_store - length store ≡ 0
          unfolding with_dictionary
          births_same =
              let same = length-set store (births to) (dictionary_object held_then.0) in
              omega (arith, same)

          lack_is : (new : Grants) (scratch : Scratch) (reason : Reason)
              → IsLack (records_of plan) (words_of plan) attempt.slot l.heap l.grants new reason
              → IsReason (needs_between (copy_asks (scene_of l store)) (scene_of l store)
              left_scene []) attempt.slot l (record l { grants = new; scratch = scratch }) reason
          lack_is new scratch reason =
              lack_reason _ attempt.slot l (record l { grants = new; scratch = scratch })
              (records_of plan) (words_of plan) records_are words_are births_same reason

        -- ---- a refused step that would make a new body

        pub copy_refused : attempt.refused ≡ true → 0 < words_of plan
            → Acts copy_asks (changing_row copy_row) attempt (Err (Raises VmError)) l l
        copy_refused refused some =
            refused_acts l [] l.names (sym (append-nil _)) (changing_row copy_row) attempt l.grants
            copy_asks good (logs-same 0 l.grants attempt.slot) (inl refl) λ store shown. record {
              scene = left_scene store shown;
              output = [];
              is = effect_is store shown;
              names_are = refl;
              lacking = lacking store shown refused some;
            }

        -- ---- what it may lack, once the pairs were put together

        module _ (room : IsTrue attempt.refused → words_of plan ≡ 0) (scratch : Scratch)
            (least : IsAtLeast (rooms_of l.scratch) (rooms_of scratch)) (empty : IsEmpty scratch)
          where
            wants : (grants : Grants) → KeepsLogsWithin 0 l.grants grants attempt.slot
                → (reason : Reason) → ((store : Store) (shown : IsShown l store)
                → IsReason (needs_between (copy_asks (scene_of l store)) (scene_of l store)
                (left_scene store shown) []) attempt.slot l
                (record l { grants = grants; scratch = scratch }) reason)
                → Acts copy_asks (changing_row copy_row) attempt (Err (NotMade reason)) l
                (record l { grants = grants; scratch = scratch })
            wants grants logs reason why =
                wanting_acts (changing_row copy_row) attempt copy_asks l good grants l.room scratch
                (omega arith) least empty logs reason λ store shown. record {
                  scene = left_scene store shown;
                  output = [];
                  is = effect_is store shown;
                  enough = enough store shown room;
                  why = why store shown;
                }

            pub copy_roomless : vec_capacity l.scratch.words < merge_room l.heap to from
                → Acts copy_asks (changing_row copy_row) attempt (Err (NotMade Memory)) l
                (record l { scratch = scratch })
            copy_roomless short =
                wants l.grants (logs-same 0 l.grants attempt.slot) Memory λ store shown.
                let is = room_is store shown in
                inr (inr (inr (inr (inr (omega (arith, is, short))))))

            pub copy_lacking : (grants : Grants) → KeepsLogsWithin 0 l.grants grants attempt.slot
                → (reason : Reason)
                → IsLack (records_of plan) (words_of plan) attempt.slot l.heap l.grants grants reason
                → Acts copy_asks (changing_row copy_row) attempt (Err (NotMade reason)) l
                (record l { grants = grants; scratch = scratch })
            copy_lacking grants logs reason lack =
                wants grants logs reason λ store shown. lack_is store shown grants scratch reason lack

            pub copy_acts : (new : Heap) (mid left : Grants) → IsSound new
                → (keeps : Keeps l.heap new) → KeepsLogsWithin 0 l.grants mid attempt.slot
                → AfterChange mid left attempt.slot (records_of plan) (words_of plan)
                → ((store : Store) → IsShown l store → (d : Dictionary)
                → holding (target_in store) (pairs_then store) ≡ Some d
                → Shows new l.names (with_dictionary store (births to) d))
                → Acts copy_asks (changing_row copy_row) attempt (Ok tt) l
                (record l {
                  heap = new;
                  grants = left;
                  operands = y ∷ drop 2 l.operands;
                  scratch = scratch;
                })
            copy_acts new mid left sound keeps asked change shows =
                let logs = logs_changed l.grants mid left attempt.slot _ _ asked change in
                let words = y ∷ drop 2 l.operands in
                let held : AreValues l.heap words = (
                  first_of_two_held (IsValue l.heap) l.operands good.operands y x two,
                  rest_held (IsValue l.heap) l.operands good.operands 2,
                ) in
                let known = known_values l.heap words held in
                let well = changed_good l good new left words keeps
                (record { sound = sound; values = AreValues-kept l.heap new keeps words held }) in
                let after = record (over l new left words) { scratch = scratch } in
                left_acts (changing_row copy_row) attempt copy_asks l good after
                (record {
                  sound = well.sound;
                  operands = well.operands;
                  dictionaries = well.dictionaries;
                  frames = well.frames;
                  error_stands = well.error_stands;
                  names = well.names;
                  first = well.first;
                  empty = empty;
                })
                keeps (stays_as l after refl refl refl refl (omega arith) least)
                (logs_more _ most_records l.grants left attempt.slot (few_records plan) logs)
                λ store shown.
                let is_left = changed_left l good new left words keeps store
                (left_store store shown) (lasts store shown) shown
                (shows store shown _ (held_then store shown).1)
                (AreWithin-kept l.heap new keeps l.names store (left_store store shown)
                (lasts store shown) words known (
                  first_of_two_held (IsWithin births l.names store) l.operands shown.operands y x
                      two,
                  rest_held (IsWithin births l.names store) l.operands shown.operands 2,
                ))
                (target_value ∷ rest) (values_of-kept l.heap new keeps l.names words known) in
                record {
                  after = left_store store shown;
                  output = [];
                  is = effect_is store shown ∙ ap (λ (s : Scene). makes s []) (sym is_left.is);
                  enough = enough store shown room;
                  shown = record {
                    shows = is_left.shown.shows;
                    operands = is_left.shown.operands;
                    dictionaries = is_left.shown.dictionaries;
                    frames = is_left.shown.frames;
                  };
                  lasts = lasts store shown;
                  printed = sym (append-nil l.printed);
                  logs = subst (λ (n : ℕ). KeepsLogsWithin n l.grants left attempt.slot)
                      (sym (records_are store shown)) logs;
                }
