-- What `>>` comes to.
use Rattle.std.proofs.Common.{◌≡◌, ℕ, ◌+◌, ◌-◌, ◌≤◌, ◌++◌, arith, inl, inr, length-append, Bool, true}
use Rattle.std.proofs.Common.{false, List, [], ◌∷◌, drop, take, length, Option, Some, None, Err, refl, sym, ap, subst}
use Rattle.std.proofs.Common.{◌∙◌, append-nil}
use Rattle.std.specs.Prelude.{nat_le, reverse}
use Rattle.std.proofs.lemmas.Bool.Decides.{nat_tests}
use Rattle.ps_language.specs.declared.errors.ErrorName.{ErrorName}
use Rattle.ps_language.specs.declared.errors.ErrorName.TheVariants.{InvalidAccess, LimitCheck, RangeCheck, TypeCheck}
use Rattle.ps_language.specs.declared.errors.ErrorName.TheVariants.{VmError}
use Rattle.ps_language.specs.Access.{empty_dictionary}
use Rattle.ps_language.specs.Acts.{naming_effect}
use Rattle.ps_language.specs.Dictionaries.{put_pairs}
use Rattle.ps_language.specs.Effect.{Scene, makes, raises}
use Rattle.ps_language.specs.Limits.{names_limit}
use Rattle.ps_language.specs.Outcome.{Outcome, leaves, fails, given, given_that, and_then, Naming, unnamed}
use Rattle.ps_language.specs.Readers.{literal}
use Rattle.ps_language.specs.Rows.{naming_row}
use Rattle.ps_language.specs.RowsDictionaries.{end_dict_row}
use Rattle.ps_language.specs.RowsStack.{split_at_mark}
use Rattle.ps_language.specs.Value.{Value, dictionary_value, dictionary_object, Store}
use Rattle.ps_word.specs.declared.words.Word.{Word}
use Rattle.ps_language.proofs.AskedLemmas.{made-new}
use Rattle.ps_mem.specs.Heap.{Grants, birth_at}
use Rattle.ps_mem.specs.Shows.{AreWithin, Shows}
use Rattle.ps_names.specs.Names.{AreNames}
use Rattle.ps_ops_operands.specs.Marks.{IsMarkAt}
use Rattle.ps_ops_operands.specs.declared.failure.NotMade.{NotMade as Reason}
use Rattle.ps_ops_operands.specs.Changes.{KeepsLogsWithin, values_in}
use Rattle.ps_ops_operands.proofs.Tops.{top_elements, top_within}
use Rattle.ps_ops_state.specs.declared.breaks.Break.{Break}
use Rattle.ps_ops_state.specs.declared.breaks.Break.TheVariants.{Unwinds, Raises, NotMade}
use Rattle.ps_ops_state.specs.declared.lent.Attempt.{Attempt}
use Rattle.ps_ops_state.specs.Lent.{Lent, scene_of, IsShown, IsGood}
use Rattle.ps_ops_state.specs.Acts.{effect_in, Acts}
use Rattle.ps_ops_state.proofs.Acting.{naming_acts, raised_acts}
use Rattle.ps_ops_state.proofs.Forming.{Lacks, formed_good, refused_acts, unnoted_acts, cut_names}
use Rattle.ps_ops_state.proofs.Meeting.{at_least-same, logs-same}
use Rattle.ps_ops_dictionaries.specs.Asks.{end_dict_asks}
use Rattle.ps_ops_dictionaries.specs.Puts.{IsRefusal}
use Rattle.ps_ops_dictionaries.proofs.Putting.{lacks_some, note_lack}
use Rattle.ps_ops_dictionaries.specs.Literals.{IsNamesFault, making_pairs, met_among, tested}

-- ---- the row by its tests

abbrev pub after_tested : Store → List Value → Outcome (List (Value × Value) × List (List ℕ))
    → Outcome Naming
after_tested store rest found =
    and_then found λ passed. unnamed passed.1 (making_pairs passed.0 rest store)

tested_chain : (nulls readable fits : Bool) (pairs : Option (List (Value × Value)))
    (met : Option (List (List ℕ))) (rest : List Value) (store : Store)
    → given_that nulls TypeCheck (given_that readable InvalidAccess
    (given pairs RangeCheck λ ps. given_that fits LimitCheck
    (given met LimitCheck λ names. unnamed names (making_pairs ps rest store))))
    ≡ after_tested store rest (given_that nulls TypeCheck (given_that readable InvalidAccess
    (given pairs RangeCheck λ ps. given_that fits LimitCheck
    (given met LimitCheck λ names. leaves (ps, names)))))
tested_chain false readable fits pairs met rest store = refl
tested_chain true false fits pairs met rest store = refl
tested_chain true true fits None met rest store = refl
tested_chain true true false (Some ps) met rest store = refl
tested_chain true true true (Some ps) None rest store = refl
tested_chain true true true (Some ps) (Some names) rest store = refl

end_row_is : (names : List (List ℕ)) (store : Store) (operands above rest : List Value)
    → split_at_mark operands ≡ Some (above, rest)
    → end_dict_row names store operands ≡ after_tested store rest (tested names store (reverse above))
end_row_is names store operands above rest split =
    rw split (tested_chain _ _ _ _ _ rest store)

none_of : (ns : List (List ℕ)) → length ns ≡ 0 → ns ≡ []
none_of [] none = refl
none_of (n ∷ ns) none = absurd (omega (arith, none))

module _ (l : Lent) (depth : ℕ) (mark : IsMarkAt l.operands depth) (elements : List Word)
    (are : elements ≡ reverse (take depth l.operands)) where
  abbrev values : List Value
  values = values_in l.heap l.names elements

  abbrev rest : List Value
  rest = drop (depth + 1) (values_in l.heap l.names l.operands)

  end_is : (store : Store) (outcome : Outcome (List (Value × Value) × List (List ℕ)))
      → tested l.names store values ≡ outcome
      → effect_in (naming_row end_dict_row) l store
      ≡ naming_effect (scene_of l store) (after_tested store rest outcome)
  end_is store outcome is =
      ap (naming_effect (scene_of l store))
      (end_row_is l.names store (values_in l.heap l.names l.operands)
      (take depth (values_in l.heap l.names l.operands)) rest (mark.splits (birth_at l.heap) l.names)
      ∙ (ap (λ (vs : List Value). after_tested store rest (tested l.names store vs))
      (sym (top_elements l.heap l.names l.operands depth elements are))
      ∙ ap (after_tested store rest) is))

  pub within_elements : (store : Store) → IsShown l store → AreWithin l.heap l.names store elements
  within_elements store shown =
      top_within l.heap l.names store l.operands depth elements shown.operands are

  -- a test fails
  pub end_raises : (error : ErrorName)
      → ((s : Store) → Shows l.heap l.names s → AreWithin l.heap l.names s elements
      → tested l.names s values ≡ fails error)
      → (store : Store) → IsShown l store
      → effect_in (naming_row end_dict_row) l store ≡ raises error
  end_raises error fail store shown =
      end_is store (fails error) (fail store shown.shows (within_elements store shown))

  -- they pass
  module _ (passes : (s : Store) → Shows l.heap l.names s → AreWithin l.heap l.names s elements
      → (pairs : List (Value × Value))
      × (tested l.names s values ≡ leaves (pairs, met_among l.names s values))) where
    abbrev pub pairs_in : (store : Store) → IsShown l store → List (Value × Value)
    pairs_in store shown = (passes store shown.shows (within_elements store shown)).0

    abbrev pub end_scene : (store : Store) → IsShown l store → Scene
    end_scene store shown = record (scene_of l store) {
      operands = literal (dictionary_value (length store)) ∷ rest;
      store = store ++ dictionary_object (record (empty_dictionary (length (pairs_in store shown)))
          { pairs = put_pairs [] (pairs_in store shown) }) ∷ [];
      names = met_among l.names store values;
    }

    pub end_makes : (store : Store) (shown : IsShown l store)
        → effect_in (naming_row end_dict_row) l store ≡ makes (end_scene store shown) []
    end_makes store shown =
        end_is store _ (passes store shown.shows (within_elements store shown)).1

    -- a name can't be met
    module _ (good : IsGood l) (attempt : Attempt)
        (fits : (s : Store) → Shows l.heap l.names s → AreWithin l.heap l.names s elements
        → nat_le (length (met_among l.names s values)) names_limit ≡ true) where
      unmet_name : (break : Break) → IsNamesFault l.heap l.names elements break
          → Acts end_dict_asks (naming_row end_dict_row) attempt (Err break) l l
      unmet_name (Raises error) fault =
          subst (λ (e : ErrorName).
          Acts end_dict_asks (naming_row end_dict_row) attempt (Err (Raises e)) l l) (sym fault.0)
          (raised_acts (naming_row end_dict_row) attempt end_dict_asks l good LimitCheck
          λ store shown.
          let room = fits store shown.shows (within_elements store shown) in
          let past = fault.1 store shown.shows (within_elements store shown) in
          let most : length (met_among l.names store values) ≤ 65535 =
          grind (arith, nat_tests, room) in
          absurd (omega (arith, past, most)))
      unmet_name (NotMade reason) fault =
          subst (λ (r : Reason).
          Acts end_dict_asks (naming_row end_dict_row) attempt (Err (NotMade r)) l l) (sym fault.0)
          (naming_acts (naming_row end_dict_row) attempt end_dict_asks l good l.grants l.room
          l.scratch (omega arith) (at_least-same _) good.empty (logs-same 0 l.grants attempt.slot)
          λ store shown. record {
            scene = end_scene store shown;
            output = [];
            is = end_makes store shown;
            formed = let more = fault.1 store shown.shows (within_elements store shown) in
                omega (arith, more);
          })
      unmet_name (Unwinds cause) fault = absurd fault

      pub end_unmet : (break : Break) → IsNamesFault l.heap l.names elements break
          → (more after cut : List (List ℕ)) → after ≡ l.names ++ more → (count : ℕ)
          → count ≡ length l.names → cut ≡ take count after
          → Acts end_dict_asks (naming_row end_dict_row) attempt (Err break) l
          (record l { names = cut })
      end_unmet break fault more after cut are_after count count_is is =
          let same : cut ≡ l.names =
          is ∙ (ap (take count) (are_after ∙ sym (append-nil (l.names ++ more)))
          ∙ cut_names l.names more [] count count_is) in
          subst (λ (ns : List (List ℕ)). Acts end_dict_asks (naming_row end_dict_row) attempt
          (Err break) l (record l { names = ns })) (sym same) (unmet_name break fault)

    -- ---- a refused step, whose names are met
    module _ (good : IsGood l) (attempt : Attempt) (refused : attempt.refused ≡ true)
        (more names : List (List ℕ)) (are_more : names ≡ l.names ++ more)
        (met : (s : Store) → Shows l.heap l.names s → AreWithin l.heap l.names s elements
        → met_among l.names s values ≡ names)
        (are_names : AreNames names) where
      lacks : (grants : Grants) (store : Store) → IsShown l store
          → Lacks l more names are_more (naming_row end_dict_row) attempt grants store
      lacks grants store shown = record {
        scene = end_scene store shown;
        output = [];
        is = end_makes store shown;
        names_are = met store shown.shows (within_elements store shown);
        lacking =
            let size = made-new store (dictionary_object
            (record (empty_dictionary (length (pairs_in store shown)))
            { pairs = put_pairs [] (pairs_in store shown) })) in
            lacks_some attempt.refused _ refused (omega (arith, size));
      }

      well : IsGood (record l { names = names })
      well = formed_good l more names are_more good are_names

      -- none is new
      pub end_refused : length names ≡ length l.names
          → Acts end_dict_asks (naming_row end_dict_row) attempt (Err (Raises VmError)) l
          (record l { names = names })
      end_refused same =
          let size = ap length are_more ∙ length-append l.names more in
          refused_acts l more names are_more (naming_row end_dict_row) attempt l.grants end_dict_asks
          well (logs-same 0 l.grants attempt.slot)
          (inl (are_more ∙ (ap (λ (ns : List (List ℕ)). l.names ++ ns)
          (none_of more (omega (arith, size, same))) ∙ append-nil l.names)))
          (lacks l.grants)

      -- some are
      pub end_noted : 1 ≤ length names - length l.names → (grants : Grants)
          → KeepsLogsWithin 0 l.grants grants attempt.slot → (after : List (List ℕ)) (count : ℕ)
          → count ≡ length l.names → (break : Break)
          → IsRefusal attempt.slot l.heap names after count l.grants grants break
          → Acts end_dict_asks (naming_row end_dict_row) attempt (Err break) l
          (record l { grants = grants; names = after })
      end_noted some grants logs after count count_is (Raises error) it =
          subst (λ (e : ErrorName). Acts end_dict_asks (naming_row end_dict_row) attempt
          (Err (Raises e)) l (record l { grants = grants; names = after })) (sym it.0)
          (subst (λ (ns : List (List ℕ)). Acts end_dict_asks (naming_row end_dict_row) attempt
          (Err (Raises VmError)) l (record l { grants = grants; names = ns })) (sym it.1)
          (refused_acts l more names are_more (naming_row end_dict_row) attempt grants end_dict_asks
          well logs (inr (it.2, it.3)) (lacks grants)))
      end_noted some grants logs after count count_is (NotMade reason) it =
          let same : after ≡ l.names =
          it.0 ∙ (ap (take count) (are_more ∙ sym (append-nil (l.names ++ more)))
          ∙ cut_names l.names more [] count count_is) in
          subst (λ (ns : List (List ℕ)). Acts end_dict_asks (naming_row end_dict_row) attempt
          (Err (NotMade reason)) l (record l { grants = grants; names = ns })) (sym same)
          (unnoted_acts l more names are_more (naming_row end_dict_row) attempt grants end_dict_asks
          good logs reason (lacks grants) λ store.
          note_lack l attempt grants (end_dict_asks (scene_of l store)).scratch
          (length names - length l.names) some reason it.1)
      end_noted some grants logs after count count_is (Unwinds cause) it = absurd it
