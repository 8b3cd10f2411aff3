-- The dictionary of what stands above the mark, made or not.
use Rattle.std.proofs.Common.{◌≡◌, ℕ, ◌+◌, ◌-◌, ◌*◌, ◌/◌, ◌≤◌, ◌++◌, arith, inl, inr, length-append}
use Rattle.std.proofs.Common.{Bool, true, false, List, [], ◌∷◌, drop, take, length, map, Option, Some, None, Ok, Err}
use Rattle.std.proofs.Common.{refl, sym, ap, subst, ◌∙◌, append-nil}
use Rattle.std.specs.Prelude.{fold, not, reverse, unwrap_or}
use Rattle.std.specs.List.{list_all}
use Rattle.std.proofs.lemmas.List.{drop-map, length-map, length-reverse, length-take-le}
use Rattle.ps_language.specs.declared.errors.ErrorName.TheVariants.{InvalidAccess, LimitCheck, RangeCheck, TypeCheck}
use Rattle.ps_language.specs.Access.{empty_dictionary, may_read_text}
use Rattle.ps_language.specs.Dictionaries.{fits_key, form, meet, put_pairs}
use Rattle.ps_language.specs.Effect.{Scene, makes}
use Rattle.ps_language.specs.Objects.{lacks_room, made_between}
use Rattle.ps_language.specs.Outcome.{Outcome, leaves, fails, given, given_that}
use Rattle.ps_language.specs.Readers.{is_null, literal}
use Rattle.ps_language.specs.Rows.{naming_row}
use Rattle.ps_language.specs.RowsDictionaries.{end_dict_row, keys_among, pairs_among}
use Rattle.ps_language.specs.Value.{Value, Object, dictionary_value, dictionary_object, Store}
use Rattle.ps_language.proofs.AskedLemmas.{made-new}
use Rattle.ps_word.specs.declared.words.Word.{Word}
use Rattle.ps_mem.specs.Heap.{Heap, Grants, birth_at}
use Rattle.ps_mem.specs.Index.{pairs_of_words}
use Rattle.ps_mem.specs.Keeps.{Keeps}
use Rattle.ps_mem.specs.Meaning.{value_of}
use Rattle.ps_mem.specs.Shows.{AreValues, AreWithin, IsReady, IsValue, IsWithin, Shows, pair_of}
use Rattle.ps_mem.proofs.KeepsLemmas.{AreWithin-kept, values_of-kept, known_values}
use Rattle.ps_mem.proofs.NewShows.{longer}
use Rattle.ps_names.specs.Names.{AreNames}
use Rattle.ps_ops_operands.specs.Marks.{IsMarkAt}
use Rattle.ps_ops_operands.specs.declared.failure.NotMade.{NotMade as Reason}
use Rattle.ps_ops_operands.specs.Changes.{IsLeft as IsLeftBy, KeepsLogsWithin, values_in}
use Rattle.ps_ops_operands.proofs.Held.{rest_held}
use Rattle.ps_ops_operands.proofs.Tops.{top_elements, top_within}
use Rattle.ps_ops_state.specs.declared.breaks.Break.TheVariants.{NotMade}
use Rattle.ps_ops_state.specs.declared.lent.Scratch.{Scratch}
use Rattle.ps_ops_state.specs.declared.lent.Attempt.{Attempt}
use Rattle.ps_ops_state.specs.Lent.{Lent, IsEmpty, rooms_of, scene_of, IsShown, IsGood}
use Rattle.ps_ops_state.specs.Acts.{IsAtLeast, IsReason, Needs, needs_between, IsLeft, over, Acts}
use Rattle.ps_ops_state.proofs.Reasons.{room_reason}
use Rattle.ps_ops_state.proofs.Acting.{Made, left_acts, wanting_acts}
use Rattle.ps_ops_state.proofs.Forming.{formed_good, formed_left, cut_names}
use Rattle.ps_ops_state.proofs.Lifts.{changed_good, changed_left}
use Rattle.ps_ops_state.proofs.Meeting.{logs_more}
use Rattle.ps_ops_dictionaries.specs.Asks.{end_dict_asked, end_dict_asks}
use Rattle.ps_ops_dictionaries.specs.Literals.{LacksPairs, LeavesAs, making_pairs, met_among, tested, texts_among}
use Rattle.ps_ops_dictionaries.proofs.Counted.{met_again, pairs_half}
use Rattle.ps_ops_dictionaries.proofs.Ending.{within_elements, end_scene, end_makes, pairs_in}

-- ---- the words, as the dictionary

abbrev pub pairs_object : List (Value × Value) → Object
pairs_object pairs =
    dictionary_object (record (empty_dictionary (length pairs)) { pairs = put_pairs [] pairs })

module _ (h now : Heap) (keeps : Keeps h now) (names : List (List ℕ)) (operands : List Word)
    (depth : ℕ) (held : AreValues h operands) (w : Word) (new : List Word)
    (is : new ≡ w ∷ drop (depth + 1) operands) (address : ℕ) (birth : birth_at now address ≡ h.next)
    (value : (births : ℕ → ℕ) (ns : List (List ℕ))
    → value_of births ns w ≡ literal (dictionary_value (births address)))
    (inside : (births : ℕ → ℕ) (ns : List (List ℕ)) (s : Store) → IsWithin births ns s w) where
  abbrev below : List Word
  below = drop (depth + 1) operands

  below_held : AreValues h below
  below_held = rest_held (IsValue h) operands held (depth + 1)

  made_left : (s : Store) (pairs : List (Value × Value)) → Shows h names s
      → AreWithin h names s operands → Shows now names (s ++ pairs_object pairs ∷ [])
      → LeavesAs (making_pairs pairs (values_in h names below) s) names now new
  made_left s pairs shows within shown = record {
    operands =
        ap (values_in now names) is
        ∙ λ i. (value (birth_at now) names
        ∙ ap (λ (b : ℕ). literal (dictionary_value b)) (birth ∙ shows.next)) i
        ∷ values_of-kept h now keeps names below (known_values h below below_held) i;
    store = shown;
    within = subst (AreWithin now names (s ++ pairs_object pairs ∷ [])) (sym is) (
      inside (birth_at now) names (s ++ pairs_object pairs ∷ []),
      AreWithin-kept h now keeps names s (s ++ pairs_object pairs ∷ [])
          (longer s (pairs_object pairs ∷ [])) below (known_values h below below_held)
          (rest_held (IsWithin (birth_at h) names s) operands within (depth + 1)),
    );
  }

  -- of the words of what stands above the mark
  module _ (elements words : List Word) (are : elements ≡ reverse (take depth operands))
      (bound : depth ≤ length operands) (even : 2 * (depth / 2) ≡ depth)
      (count : length words ≡ length elements) (s : Store)
      (inside_words : AreWithin h names s elements → AreWithin h names s words)
      (gathered : AreWithin h names s elements
      → met_among names s (values_in h names elements) ≡ names
      → pairs_among s (values_in h names elements)
      ≡ Some (map (pair_of (birth_at h) names) (pairs_of_words words)))
      (shown : AreWithin h names s words → Shows now names
      (s ++ dictionary_object (record (empty_dictionary (length words / 2))
      { pairs = put_pairs [] (map (pair_of (birth_at h) names) (pairs_of_words words)) }) ∷ []))
    where
      abbrev stood : List Value
      stood = values_in h names (reverse (take depth operands))

      same : values_in h names elements ≡ stood
      same = ap (values_in h names) are

      taken : length (reverse (take depth operands)) ≡ depth
      taken = length-reverse (take depth operands) ∙ length-take-le depth operands bound

      stood_count : length stood ≡ 2 * (depth / 2)
      stood_count =
          length-map (reverse (take depth operands)) (value_of (birth_at h) names)
          ∙ (taken ∙ sym even)

      pub paired_left : (pairs : List (Value × Value)) → Shows h names s
          → AreWithin h names s operands → met_among names s stood ≡ names
          → pairs_among s stood ≡ Some pairs
          → LeavesAs (making_pairs pairs (values_in h names below) s) names now new
      paired_left pairs shows within met pairs_are =
          let above = top_within h names s operands depth elements within are in
          let found = gathered above (ap (met_among names s) same ∙ met) in
          let by_words : pairs ≡ map (pair_of (birth_at h) names) (pairs_of_words words) =
          ap (λ (o : Option (List (Value × Value))). unwrap_or o [])
          (sym pairs_are ∙ (ap (pairs_among s) (sym same) ∙ found)) in
          let size : length pairs ≡ length words / 2 =
          pairs_half s stood (depth / 2) stood_count pairs pairs_are
          ∙ ap (λ (n : ℕ). n / 2) (sym (count ∙ (ap length are ∙ taken))) in
          made_left s pairs shows within
          (subst (λ (o : Object). Shows now names (s ++ o ∷ []))
          (λ i. dictionary_object (record (empty_dictionary (sym size i))
          { pairs = put_pairs [] (sym by_words i) })) (shown (inside_words above)))

-- ---- the pairs that passed the tests

found_in : Outcome (List (Value × Value) × List (List ℕ)) → Option (List (Value × Value))
found_in (leaves passed) = Some passed.0
found_in (fails error) = None

abbrev passing : (nulls readable fits : Bool) → Option (List (Value × Value))
    → Option (List (List ℕ)) → Outcome (List (Value × Value) × List (List ℕ))
passing nulls readable fits found met =
    given_that nulls TypeCheck
    (given_that readable InvalidAccess
    (given found RangeCheck λ pairs.
    given_that fits LimitCheck
    (given met LimitCheck λ names.
    leaves (pairs, names))))

tested_pairs : (nulls readable fits : Bool) (found : Option (List (Value × Value)))
    (met : Option (List (List ℕ))) (pairs : List (Value × Value)) (names : List (List ℕ))
    → passing nulls readable fits found met ≡ leaves (pairs, names) → found ≡ Some pairs
unfolding found_in
tested_pairs false readable fits found met pairs names is =
    let e : None ≡ Some pairs = ap found_in is in absurd (cc)
tested_pairs true false fits found met pairs names is =
    let e : None ≡ Some pairs = ap found_in is in absurd (cc)
tested_pairs true true fits None met pairs names is = ap found_in is
tested_pairs true true false (Some ps) met pairs names is =
    let e : None ≡ Some pairs = ap found_in is in absurd (cc)
tested_pairs true true true (Some ps) None pairs names is =
    let e : None ≡ Some pairs = ap found_in is in absurd (cc)
tested_pairs true true true (Some ps) (Some ns) pairs names is = ap found_in is

-- ---- not made

module _ (needs : Needs) (slot : ℕ) (l new : Lent) (depth : ℕ)
    (scratch_is : needs.scratch.words ≡ depth) (words_are : needs.words ≡ 8 + 3 * (depth / 2))
    (births_are : needs.births ≡ 1) where
  lack_why : (reason : Reason) → LacksPairs reason l.heap (rooms_of l.scratch).words depth
      → IsReason needs slot l new reason
  lack_why reason (inl short) =
      let less = short.1 in
      subst (λ (r : Reason). IsReason needs slot l new r) (sym short.0)
      (inr (inr (inr (inr (inr (omega (arith, less, scratch_is)))))))
  lack_why reason (inr why) =
      room_reason needs slot l new (8 + 3 * (depth / 2)) 1 words_are births_are (omega arith) reason
      why

-- ---- as the row says

module _ (l : Lent) (depth : ℕ) (mark : IsMarkAt l.operands depth) (elements : List Word)
    (are : elements ≡ reverse (take depth l.operands)) (bound : depth ≤ length l.operands)
    (even : 2 * (length elements / 2) ≡ length elements)
    (passes : (s : Store) → Shows l.heap l.names s → AreWithin l.heap l.names s elements
    → (pairs : List (Value × Value))
    × (tested l.names s (values_in l.heap l.names elements)
    ≡ leaves (pairs, met_among l.names s (values_in l.heap l.names elements))))
    (good : IsGood l) (attempt : Attempt) (room : attempt.refused ≡ false) where
  abbrev above : List Value
  above = values_in l.heap l.names elements

  abbrev left : (store : Store) → IsShown l store → Scene
  left store shown = end_scene l depth mark elements are passes store shown

  abbrev paired : (store : Store) → IsShown l store → List (Value × Value)
  paired store shown = pairs_in l depth mark elements are passes store shown

  paired_are : (store : Store) (shown : IsShown l store)
      → pairs_among store above ≡ Some (paired store shown)
  paired_are store shown =
      tested_pairs (list_all (λ k. not (is_null k)) (keys_among above))
      (list_all may_read_text (keys_among above)) (list_all fits_key (keys_among above))
      (pairs_among store above) (form l.names (texts_among store above)) (paired store shown) _
      (passes store shown.shows (within_elements l depth mark elements are store shown)).1

  count_elements : length elements ≡ depth
  count_elements =
      ap length are
      ∙ (length-reverse (take depth l.operands) ∙ length-take-le depth l.operands bound)

  count_above : length above ≡ 2 * (depth / 2)
  count_above =
      length-map elements (value_of (birth_at l.heap) l.names)
      ∙ (sym even ∙ ap (λ (n : ℕ). 2 * (n / 2)) count_elements)

  enough : (store : Store) (shown : IsShown l store)
      → lacks_room attempt.refused store (left store shown).store ≡ false
  enough store shown = ap (λ (r : Bool). lacks_room r store (left store shown).store) room

  made_words : (store : Store) (shown : IsShown l store)
      → made_between store (left store shown).store ≡ 8 + 3 * (depth / 2)
  made_words store shown =
      let size : made_between store (left store shown).store
      ≡ 6 + (2 + 3 * length (paired store shown)) =
      made-new store (pairs_object (paired store shown)) in
      let half = pairs_half store above (depth / 2) count_above (paired store shown)
      (paired_are store shown) in
      let same : 6 + (2 + 3 * length (paired store shown)) ≡ 8 + 3 * (depth / 2) =
      omega (arith, half) in
      size ∙ same

  made_births : (store : Store) (shown : IsShown l store)
      → length (left store shown).store - length store ≡ 1
  made_births store shown =
      let more : length (left store shown).store ≡ length store + 1 =
      length-append store (pairs_object (paired store shown) ∷ []) in
      omega (arith, more)

  asked_words : (store : Store) → (end_dict_asks (scene_of l store)).scratch.words ≡ depth
  asked_words store =
      ap (λ (parts : Option (List Value × List Value)). (end_dict_asked parts).scratch.words)
      (mark.splits (birth_at l.heap) l.names)
      ∙ length-take-le depth (values_in l.heap l.names l.operands)
      (let size = length-map l.operands (value_of (birth_at l.heap) l.names) in
      omega (arith, size, bound))

  -- for want of room
  module _ (grants : Grants) (scratch : Scratch)
      (least : IsAtLeast (rooms_of l.scratch) (rooms_of scratch)) (empty : IsEmpty scratch)
      (logs : KeepsLogsWithin 0 l.grants grants attempt.slot) where
    roomless : (reason : Reason) → LacksPairs reason l.heap (rooms_of l.scratch).words depth
        → Acts end_dict_asks (naming_row end_dict_row) attempt (Err (NotMade reason)) l
        (record l { grants = grants; scratch = scratch })
    roomless reason why =
        wanting_acts (naming_row end_dict_row) attempt end_dict_asks l good grants l.room scratch
        (omega arith) least empty logs reason λ store shown. record {
          scene = left store shown;
          output = [];
          is = end_makes l depth mark elements are passes store shown;
          enough = enough store shown;
          why = lack_why (needs_between (end_dict_asks (scene_of l store)) (scene_of l store)
              (left store shown) []) attempt.slot l
              (record l { grants = grants; scratch = scratch }) depth (asked_words store)
              (made_words store shown) (made_births store shown) reason why;
        }

    pub end_roomless : (reason : Reason)
        → LacksPairs reason l.heap (rooms_of l.scratch).words depth
        → (more after cut : List (List ℕ)) → after ≡ l.names ++ more → (count : ℕ)
        → count ≡ length l.names → cut ≡ take count after
        → Acts end_dict_asks (naming_row end_dict_row) attempt (Err (NotMade reason)) l
        (record l { grants = grants; names = cut; scratch = scratch })
    end_roomless reason why more after cut are_after count count_is is =
        let same : cut ≡ l.names =
        is ∙ (ap (take count) (are_after ∙ sym (append-nil (l.names ++ more)))
        ∙ cut_names l.names more [] count count_is) in
        subst (λ (ns : List (List ℕ)). Acts end_dict_asks (naming_row end_dict_row) attempt
        (Err (NotMade reason)) l (record l { grants = grants; names = ns; scratch = scratch }))
        (sym same) (roomless reason why)

    -- made, under the names that were met
    module _ (more names : List (List ℕ)) (are_more : names ≡ l.names ++ more)
        (met : (s : Store) → Shows l.heap l.names s → AreWithin l.heap l.names s elements
        → met_among l.names s above ≡ names)
        (are_names : AreNames names) (heap : Heap) (after : List Word)
        (keeps : Keeps l.heap heap) (ready : IsReady heap after)
        (leaves_pairs : (s : Store) (pairs : List (Value × Value)) → Shows l.heap names s
        → AreWithin l.heap names s l.operands
        → met_among names s (values_in l.heap names (reverse (take depth l.operands))) ≡ names
        → pairs_among s (values_in l.heap names (reverse (take depth l.operands))) ≡ Some pairs
        → LeavesAs (making_pairs pairs (values_in l.heap names (drop (depth + 1) l.operands)) s)
        names heap after) where
      abbrev formed : Lent
      formed = record l { names = names }

      abbrev new : Lent
      new = record l
          { heap = heap; grants = grants; operands = after; names = names; scratch = scratch }

      well : IsGood formed
      well = formed_good l more names are_more good are_names

      changed : IsGood (over formed heap grants after)
      changed = changed_good formed well heap grants after keeps ready

      module _ (store : Store) (is_shown : IsShown l store) where
        there : IsLeft store formed (record (scene_of l store) { names = names })
        there = formed_left l more names are_more store is_shown

        same_values : values_in l.heap names l.operands ≡ values_in l.heap l.names l.operands
        same_values = ap (λ (scene : Scene). scene.operands) there.is

        same_above : values_in l.heap names (reverse (take depth l.operands)) ≡ above
        same_above =
            top_elements l.heap names l.operands depth (reverse (take depth l.operands)) refl
            ∙ (ap (λ (vs : List Value). reverse (take depth vs)) same_values
            ∙ sym (top_elements l.heap l.names l.operands depth elements are))

        met_here : met_among l.names store above ≡ names
        met_here = met store is_shown.shows
            (within_elements l depth mark elements are store is_shown)

        met_still : met_among names store
            (values_in l.heap names (reverse (take depth l.operands))) ≡ names
        met_still =
            ap (met_among names store) same_above
            ∙ (ap (λ (ns : List (List ℕ)). fold meet ns (texts_among store above)) (sym met_here)
            ∙ (met_again l.names (texts_among store above) ∙ met_here))

        by_row : IsLeftBy (record {
          operands = literal (dictionary_value (length store))
              ∷ values_in l.heap names (drop (depth + 1) l.operands);
          store = (left store is_shown).store;
        }) names heap after
        by_row = leaves_pairs store (paired store is_shown) there.shown.shows there.shown.operands
            met_still (ap (pairs_among store) same_above ∙ paired_are store is_shown)

        done : IsLeft store (over formed heap grants after) (record (scene_of formed store) {
          operands = literal (dictionary_value (length store))
              ∷ values_in l.heap names (drop (depth + 1) l.operands);
          store = (left store is_shown).store;
        })
        done = changed_left formed well heap grants after keeps store (left store is_shown).store
            (longer store (pairs_object (paired store is_shown) ∷ [])) there.shown by_row.store
            by_row.within _ by_row.operands

        same_below : values_in l.heap names (drop (depth + 1) l.operands)
            ≡ drop (depth + 1) (values_in l.heap l.names l.operands)
        same_below =
            sym (drop-map (value_of (birth_at l.heap) names) (depth + 1) l.operands)
            ∙ ap (drop (depth + 1)) same_values

        scene_is : left store is_shown ≡ scene_of new (left store is_shown).store
        scene_is =
            (λ i. record (left store is_shown) { names = met_here i })
            ∙ ((λ i. record (left store is_shown) {
              operands = literal (dictionary_value (length store)) ∷ sym same_below i;
              names = names;
            })
            ∙ ((λ i. record (sym there.is i) {
              operands = literal (dictionary_value (length store))
                  ∷ values_in l.heap names (drop (depth + 1) l.operands);
              store = (left store is_shown).store;
            })
            ∙ sym done.is))

        is_made : Made (naming_row end_dict_row) attempt end_dict_asks l new store
        is_made = record {
          after = (left store is_shown).store;
          output = [];
          is = end_makes l depth mark elements are passes store is_shown
              ∙ ap (λ (scene : Scene). makes scene []) scene_is;
          enough = enough store is_shown;
          shown = record {
            shows = done.shown.shows;
            operands = done.shown.operands;
            dictionaries = done.shown.dictionaries;
            frames = done.shown.frames;
          };
          lasts = longer store (pairs_object (paired store is_shown) ∷ []);
          printed = sym (append-nil l.printed);
          logs = logs_more 0 _ l.grants grants attempt.slot (omega arith) logs;
        }

      pub end_made : Acts end_dict_asks (naming_row end_dict_row) attempt (Ok tt) l new
      end_made =
          left_acts (naming_row end_dict_row) attempt end_dict_asks l good new
          (record {
            sound = changed.sound;
            operands = changed.operands;
            dictionaries = changed.dictionaries;
            frames = changed.frames;
            error_stands = changed.error_stands;
            names = changed.names;
            first = changed.first;
            empty = empty;
          }) keeps
          (record {
            program = refl;
            most = refl;
            error_dictionary = refl;
            formed = more;
            names = are_more;
            capacity = omega arith;
            scratch = least;
          })
          (logs_more 0 _ l.grants grants attempt.slot (omega arith) logs) is_made
