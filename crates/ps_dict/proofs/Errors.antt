-- The three entries of an error: what stands after each, which pairs wait, and the records of all.
use Rattle.std.proofs.Common.{◌≡◌, ◌≢◌, ℕ, ◌+◌, ◌-◌, ◌*◌, ◌/◌, ◌<◌, ◌≤◌, true, false, List, [], ◌∷◌, ◌++◌, length, map, Option, Some, None, refl, sym, ap, ◌∙◌, arith, subst, length-append, min}
use Rattle.std.specs.Prelude.{nat_lt, if◌then◌else◌}
use Rattle.std.specs.List.{AllByRecursion, AllPairs}
use Rattle.std.proofs.lemmas.Bool.Decides.{nat_tests}
use Rattle.ps_language.specs.declared.kinds.Kind.TheVariants.{Dictionary as DictionaryKind}
use Rattle.ps_language.specs.Value.{Dictionary as DictionaryValue, Store}
use Rattle.ps_language.specs.Access.{dictionary_at, with_dictionary}
use Rattle.ps_word.specs.declared.words.Word.{Word}
use Rattle.ps_mem.specs.Heap.{Heap, birth_at}
use Rattle.ps_mem.specs.Index.{pairs_of_words}
use Rattle.ps_mem.specs.References.{StandsAs}
use Rattle.ps_mem.specs.Shows.{IsValue, AreValues, IsSound, IsWithin, AreWithin, words_of_pairs, pair_of, Shows}
use Rattle.ps_mem.proofs.KeepsLemmas.{IsValue-kept}
use Rattle.ps_dict.specs.declared.entries.ErrorEntries.{ErrorEntries}
use Rattle.ps_dict.specs.declared.entries.ErrorPlan.{ErrorPlan}
use Rattle.ps_dict.specs.Keys.{same_words}
use Rattle.ps_dict.specs.Places.{count_at, capacity_at, pairs_at, place_of}
use Rattle.ps_dict.specs.Entries.{AreApart, added_by, entry_pairs, error_plan_at, one_where_there, waiting_with, with_entries, with_value_at}
use Rattle.ps_dict.proofs.Pairs.{all_words, length-words_of_pairs}
use Rattle.ps_dict.proofs.Shapes.{count-fits}
use Rattle.ps_dict.proofs.Reading.{position-below}
use Rattle.ps_dict.proofs.Entering.{with_waiting, waiting-all, waiting-words, Entered, entered-none, entered-then, entered-value, EntriesShown, entries-none, entries-more, dictionary-now, within-now, with-now}

-- ---- how many wait

at-most_one : (p : Option ℕ) → one_where_there p ≤ 1
at-most_one (Some i) = omega arith
at-most_one None = omega arith

count-waiting : {A : Type 0} (p : Option ℕ) (room k : ℕ) (entry : A) (waiting : List A)
    → length waiting ≡ min k room
    → length (with_waiting p room entry waiting) ≡ min (k + (1 - one_where_there p)) room
count-waiting (Some i) room k entry waiting so_far = omega (arith, so_far)
count-waiting None room k entry waiting so_far =
    elim (nat_lt (length waiting) room) as
    (λ b. nat_lt (length waiting) room ≡ b
    → length (if b then waiting ++ entry ∷ [] else waiting) ≡ min (k + 1) room) [
      | true ↦ λ e.
          let less : length waiting < room = grind (arith, nat_tests) in
          let long = length-append waiting (entry ∷ []) in
          omega (arith, less, long, so_far)
      | false ↦ λ e.
          let full : room ≤ length waiting = grind (arith, nat_tests) in
          omega (arith, full, so_far)
    ] refl

-- ---- the words of pairs

firsts : (P : Word → Type 0) (pairs : List (Word × Word))
    → AllByRecursion (λ (pair : Word × Word). P pair.0 × P pair.1) pairs
    → AllByRecursion (λ (pair : Word × Word). P pair.0) pairs
firsts P [] all = tt
firsts P (pair ∷ pairs) all = (all.0.0, firsts P pairs all.1)

pub words-back : (pairs : List (Word × Word)) → pairs_of_words (words_of_pairs pairs) ≡ pairs
unfolding pairs_of_words
words-back [] = refl
words-back (pair ∷ pairs) = ap (λ ps. pair ∷ ps) (words-back pairs)

-- ---- the entries

-- the store that is shown before the pairs that wait are added, and what it is after it
pub record ErrorShown (h now : Heap) (a : ℕ) (entries : ErrorEntries)
    (waiting : List (Word × Word)) (names : List (List ℕ)) (s : Store) : Type 0 where
  pub before : Store
  pub shown : Shows now names before
  pub within : AreWithin now names before (words_of_pairs waiting)
  pub after :
      with_dictionary before (birth_at now a)
      (record (dictionary_at before (birth_at now a)) {
        pairs = (dictionary_at before (birth_at now a)).pairs
            ++ map (pair_of (birth_at now) names) (pairs_of_words (words_of_pairs waiting));
      }) ≡
      with_dictionary s (birth_at h a)
      (with_entries (map (pair_of (birth_at h) names) (entry_pairs entries))
      (dictionary_at s (birth_at h a)))

module _ (h : Heap) (a : ℕ) (known : StandsAs h DictionaryKind a 4) (sound : IsSound h)
    (entries : ErrorEntries) (plan : ErrorPlan) (planned : plan ≡ error_plan_at h a entries)
    (held : AreValues h (words_of_pairs (entry_pairs entries))) where
  first-place : place_of (pairs_at h a) entries.newerror.0 ≡ plan.newerror
  unfolding error_plan_at
  first-place = sym (ap (λ (x : ErrorPlan). x.newerror) planned)

  second-place : place_of (pairs_at h a) entries.errorname.0 ≡ plan.errorname
  unfolding error_plan_at
  second-place = sym (ap (λ (x : ErrorPlan). x.errorname) planned)

  third-place : place_of (pairs_at h a) entries.command.0 ≡ plan.command
  unfolding error_plan_at
  third-place = sym (ap (λ (x : ErrorPlan). x.command) planned)

  pub plan-full : count_at h a + plan.room ≡ capacity_at h a
  unfolding error_plan_at
  plan-full =
      let room : plan.room ≡ capacity_at h a - count_at h a =
      ap (λ (x : ErrorPlan). x.room) planned in
      let fits = count-fits h a known sound in
      omega (arith, room, fits)

  below : (g : Heap) → Entered h g a → (key : Word) (p : Option ℕ)
      → place_of (pairs_at h a) key ≡ p → (i : ℕ) → p ≡ Some i → i < count_at g a
  below g entered key p at i is =
      position-below g a entered.known entered.sound key i (entered.places key ∙ (at ∙ is))

  pub first-below : (i : ℕ) → plan.newerror ≡ Some i → i < count_at h a
  first-below = below h (entered-none h a known sound) entries.newerror.0 plan.newerror first-place

  abbrev pub waiting1 : List (Word × Word)
  waiting1 = with_waiting plan.newerror plan.room entries.newerror []

  abbrev pub waiting2 : List (Word × Word)
  waiting2 = with_waiting plan.errorname plan.room entries.errorname waiting1

  abbrev pub waiting3 : List (Word × Word)
  waiting3 = with_waiting plan.command plan.room entries.command waiting2

  -- what holds of each entry holds of those that wait
  module _ (P : Word × Word → Type 0) (one : P entries.newerror) (two : P entries.errorname)
      (three : P entries.command) where
    all-first : AllByRecursion P waiting1
    all-first = waiting-all P plan.newerror plan.room entries.newerror [] one tt

    all-second : AllByRecursion P waiting2
    all-second = waiting-all P plan.errorname plan.room entries.errorname waiting1 two all-first

    pub all-third : AllByRecursion P waiting3
    all-third = waiting-all P plan.command plan.room entries.command waiting2 three all-second

  waiting-held : AllByRecursion (λ (pair : Word × Word). IsValue h pair.0 × IsValue h pair.1)
      waiting3
  waiting-held = all-third (λ (pair : Word × Word). IsValue h pair.0 × IsValue h pair.1)
      (held.0, held.1.0) (held.1.1.0, held.1.1.1.0) (held.1.1.1.1.0, held.1.1.1.1.1.0)

  pub words-held : AreValues h (words_of_pairs waiting3)
  words-held = all_words (IsValue h) waiting3 waiting-held

  pub words-count : length (words_of_pairs waiting3) / 2 ≡ added_by plan
  words-count =
      let one = count-waiting plan.newerror plan.room 0 entries.newerror [] (omega arith) in
      let two = count-waiting plan.errorname plan.room (0 + (1 - one_where_there plan.newerror))
      entries.errorname waiting1 one in
      let three = count-waiting plan.command plan.room
      (0 + (1 - one_where_there plan.newerror) + (1 - one_where_there plan.errorname))
      entries.command waiting2 two in
      let most1 = at-most_one plan.newerror in
      let most2 = at-most_one plan.errorname in
      let most3 = at-most_one plan.command in
      let long = length-words_of_pairs waiting3 in
      omega (arith, three, most1, most2, most3, long)

  pub words-even : 2 * (length (words_of_pairs waiting3) / 2) ≡ length (words_of_pairs waiting3)
  words-even = let long = length-words_of_pairs waiting3 in omega (arith, long)

  pub words-room : count_at h a + length (words_of_pairs waiting3) / 2 ≤ capacity_at h a
  words-room = let n = words-count in let full = plan-full in omega (arith, n, full)

  -- the words that wait are those pairs'
  pub words-are : (words : List Word) → words ≡ [] → (words1 words2 words3 : List Word)
      → words1 ≡ waiting_with plan.newerror plan.room entries.newerror words
      → words2 ≡ waiting_with plan.errorname plan.room entries.errorname words1
      → words3 ≡ waiting_with plan.command plan.room entries.command words2
      → words3 ≡ words_of_pairs waiting3
  words-are words none words1 words2 words3 is1 is2 is3 =
      let one : words1 ≡ words_of_pairs waiting1 = is1
      ∙ (ap (waiting_with plan.newerror plan.room entries.newerror) none
      ∙ waiting-words plan.newerror plan.room entries.newerror []) in
      let two : words2 ≡ words_of_pairs waiting2 = is2
      ∙ (ap (waiting_with plan.errorname plan.room entries.errorname) one
      ∙ waiting-words plan.errorname plan.room entries.errorname waiting1) in
      is3 ∙ (ap (waiting_with plan.command plan.room entries.command) two
      ∙ waiting-words plan.command plan.room entries.command waiting2)

  -- ---- the values that are there

  module _ (h1 : Heap) (is1 : h1 ≡ with_value_at h a plan.newerror entries.newerror.1) where
    pub first-entered : Entered h h1 a
    first-entered = subst (λ (x : Heap). Entered h x a) (sym is1)
        (entered-value h a known sound plan.newerror entries.newerror.1 first-below held.1.0)

    pub second-below : (i : ℕ) → plan.errorname ≡ Some i → i < count_at h1 a
    second-below = below h1 first-entered entries.errorname.0 plan.errorname second-place

    pub second-held : IsValue h1 entries.errorname.1
    second-held = IsValue-kept h h1 first-entered.keeps entries.errorname.1 held.1.1.1.0

    module _ (h2 : Heap) (is2 : h2 ≡ with_value_at h1 a plan.errorname entries.errorname.1) where
      pub second-entered : Entered h h2 a
      second-entered = entered-then h h1 h2 a first-entered
          (subst (λ (x : Heap). Entered h1 x a) (sym is2)
          (entered-value h1 a first-entered.known first-entered.sound plan.errorname
          entries.errorname.1 second-below second-held))

      pub third-below : (i : ℕ) → plan.command ≡ Some i → i < count_at h2 a
      third-below = below h2 second-entered entries.command.0 plan.command third-place

      pub third-held : IsValue h2 entries.command.1
      third-held = IsValue-kept h h2 second-entered.keeps entries.command.1 held.1.1.1.1.1.0

      module _ (h3 : Heap) (is3 : h3 ≡ with_value_at h2 a plan.command entries.command.1) where
        pub third-entered : Entered h h3 a
        third-entered = entered-then h h2 h3 a second-entered
            (subst (λ (x : Heap). Entered h2 x a) (sym is3)
            (entered-value h2 a second-entered.known second-entered.sound plan.command
            entries.command.1 third-below third-held))

        -- ---- what is shown

        module _ (apart : AreApart entries) (names : List (List ℕ)) (s : Store)
            (shows : Shows h names s)
            (distinct : AllPairs (λ first later. first ≢ later) names)
            (within : AreWithin h names s (words_of_pairs (entry_pairs entries))) where
          abbrev Inside : Word → Type 0
          Inside w = IsWithin (birth_at h) names s w

          one-shown : EntriesShown h a known sound names s shows distinct h1
              (entries.newerror ∷ []) waiting1
          one-shown = subst (λ (x : Heap). EntriesShown h a known sound names s shows distinct x
              (entries.newerror ∷ []) waiting1) (sym is1)
              (entries-more h a known sound names s shows distinct h (entered-none h a known sound)
              [] [] (entries-none h a known sound names s shows distinct) entries.newerror held.0
              held.1.0 within.0 within.1.0 tt tt tt plan.newerror first-place plan.room plan-full)

          two-shown : EntriesShown h a known sound names s shows distinct h2
              (entries.newerror ∷ entries.errorname ∷ []) waiting2
          two-shown = subst (λ (x : Heap). EntriesShown h a known sound names s shows distinct x
              (entries.newerror ∷ entries.errorname ∷ []) waiting2) (sym is2)
              (entries-more h a known sound names s shows distinct h1 first-entered
              (entries.newerror ∷ []) waiting1 one-shown entries.errorname held.1.1.0 held.1.1.1.0
              within.1.1.0 within.1.1.1.0
              (all-first (λ (pair : Word × Word). IsValue h pair.0) held.0 held.1.1.0
              held.1.1.1.1.0)
              (all-first (λ (pair : Word × Word). Inside pair.0) within.0 within.1.1.0
              within.1.1.1.1.0)
              (waiting-all (λ (pair : Word × Word). same_words pair.0 entries.errorname.0 ≡ false)
              plan.newerror plan.room entries.newerror [] apart.errorname tt)
              plan.errorname (first-entered.places entries.errorname.0 ∙ second-place) plan.room
              plan-full)

          three-shown : EntriesShown h a known sound names s shows distinct h3
              (entry_pairs entries) waiting3
          three-shown = subst (λ (x : Heap). EntriesShown h a known sound names s shows distinct x
              (entry_pairs entries) waiting3) (sym is3)
              (entries-more h a known sound names s shows distinct h2 second-entered
              (entries.newerror ∷ entries.errorname ∷ []) waiting2 two-shown entries.command
              held.1.1.1.1.0 held.1.1.1.1.1.0 within.1.1.1.1.0 within.1.1.1.1.1.0
              (all-second (λ (pair : Word × Word). IsValue h pair.0) held.0 held.1.1.0
              held.1.1.1.1.0)
              (all-second (λ (pair : Word × Word). Inside pair.0) within.0 within.1.1.0
              within.1.1.1.1.0)
              (waiting-all (λ (pair : Word × Word). same_words pair.0 entries.command.0 ≡ false)
              plan.errorname plan.room entries.errorname waiting1 apart.last
              (waiting-all (λ (pair : Word × Word). same_words pair.0 entries.command.0 ≡ false)
              plan.newerror plan.room entries.newerror [] apart.command tt))
              plan.command (second-entered.places entries.command.0 ∙ third-place) plan.room
              plan-full)

          store-before : Store
          store-before = with_dictionary s (birth_at h a) three-shown.d

          shown-before : Shows h3 names store-before
          unfolding store-before
          shown-before = three-shown.shown

          within-before : AreWithin h3 names store-before (words_of_pairs waiting3)
          unfolding store-before
          within-before = all_words (IsWithin (birth_at h3) names store-before) waiting3
              (all-third (λ (pair : Word × Word). IsWithin (birth_at h3) names store-before pair.0
              × IsWithin (birth_at h3) names store-before pair.1)
              (into entries.newerror.0 held.0 within.0, into entries.newerror.1 held.1.0 within.1.0) (
                into entries.errorname.0 held.1.1.0 within.1.1.0,
                into entries.errorname.1 held.1.1.1.0 within.1.1.1.0,
              ) (
                into entries.command.0 held.1.1.1.1.0 within.1.1.1.1.0,
                into entries.command.1 held.1.1.1.1.1.0 within.1.1.1.1.1.0,
              ))
            where
              into : (w : Word) → IsValue h w → IsWithin (birth_at h) names s w
                  → IsWithin (birth_at h3) names store-before w
              into = within-now h a known sound names s shows distinct h3 third-entered
                  (entry_pairs entries) waiting3 three-shown

          pub error-shown : ErrorShown h h3 a entries waiting3 names s
          unfolding store-before
          error-shown = let d = three-shown.d in record {
            before = store-before;
            shown = shown-before;
            within = within-before;
            after = with-now h a known sound names s shows distinct h3 third-entered
                (entry_pairs entries) waiting3 three-shown _
                ∙ ap (with_dictionary s (birth_at h a))
                (ap (λ (x : DictionaryValue). record x {
                  pairs = x.pairs
                      ++ map (pair_of (birth_at h3) names)
                      (pairs_of_words (words_of_pairs waiting3));
                })
                (dictionary-now h a known sound names s shows distinct h3 third-entered
                (entry_pairs entries) waiting3 three-shown)
                ∙ (ap (λ (births : ℕ → ℕ). record d {
                  pairs = d.pairs
                      ++ map (pair_of births names) (pairs_of_words (words_of_pairs waiting3));
                }) third-entered.births
                ∙ (ap (λ ps. record d { pairs = d.pairs ++ map (pair_of (birth_at h) names) ps })
                (words-back waiting3) ∙ sym three-shown.is)));
          }
