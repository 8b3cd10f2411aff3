-- What an operator leaves that forms the name of its key, and changes no object.
use Rattle.std.proofs.Common.{◌≡◌, ℕ, ◌+◌, ◌≤◌, ◌<◌, ◌++◌, arith, Bool, true, false, List, [], ◌∷◌, length, Some, None, Ok, Err, refl, sym, ap, subst, ◌∙◌, ◌⊎◌, inl, inr, length-append, append-nil}
use Rattle.std.specs.Prelude.{nat_le}
use Rattle.std.proofs.lemmas.Bool.Decides.{nat_tests}
use Rattle.ps_language.specs.declared.errors.ErrorName.{ErrorName}
use Rattle.ps_language.specs.declared.errors.ErrorName.TheVariants.{LimitCheck}
use Rattle.ps_language.specs.Value.{Value, Store}
use Rattle.ps_language.specs.Dictionaries.{form, meet, texts_of_key, fits_key}
use Rattle.ps_language.specs.Effect.{Scene, raises, quiet}
use Rattle.ps_language.specs.Acts.{naming_effect}
use Rattle.ps_language.specs.Outcome.{Outcome, leaves, fails, given_that, Change, unnamed}
use Rattle.ps_language.specs.Rows.{Row, scene_row}
use Rattle.ps_language.specs.RowsDictionaries.{forming}
use Rattle.ps_word.specs.declared.words.Word.{Word}
use Rattle.ps_mem.specs.Heap.{birth_at}
use Rattle.ps_mem.specs.Meaning.{value_of}
use Rattle.ps_mem.specs.Shows.{AreValues, IsWithin, AreWithin}
use Rattle.ps_mem.proofs.NameLemmas.{values_of-named}
use Rattle.ps_names.specs.Names.{place_of, AreNames}
use Rattle.ps_names.proofs.Places.{meet_known, meet_new}
use Rattle.ps_ops_operands.specs.declared.failure.NotMade.{NotMade as Reason}
use Rattle.ps_ops_operands.specs.declared.failure.NotMade.TheVariants.{Memory}
use Rattle.ps_ops_operands.specs.Changes.{values_in}
use Rattle.ps_ops_state.specs.declared.breaks.Break.{Break}
use Rattle.ps_ops_state.specs.declared.breaks.Break.TheVariants.{Unwinds, Raises, NotMade}
use Rattle.ps_ops_control.specs.declared.frames.Cause.{Cause}
use Rattle.ps_ops_state.specs.declared.lent.Attempt.{Attempt}
use Rattle.ps_ops_state.specs.Lent.{Lent, scene_of, IsShown, IsGood}
use Rattle.ps_ops_state.specs.Acts.{nothing_asked, effect_in, Acts}
use Rattle.ps_ops_state.proofs.Acting.{raised_acts, wanting_acts}
use Rattle.ps_ops_state.proofs.Forming.{formed_acts, formed_good, formed_left}
use Rattle.ps_ops_state.proofs.Meeting.{logs-same, at_least-same, lacks_for_same}
use Rattle.ps_ops_state.proofs.Stacked.{stacked_acts}
use Rattle.ps_step_lookup.specs.declared.keys.Key.{Key}
use Rattle.ps_step_lookup.specs.declared.keys.Key.TheVariants.{Met, Unmet, TooLong}
use Rattle.ps_step_lookup.specs.Keys.{IsKey, IsKeyIn, IsKeyOf, IsForming, names_with}

-- ---- the names of a key

module _ (births : ℕ → ℕ) (names : List (List ℕ)) (s : Store) (k : Value)
    (few : length names ≤ 65535) where
  none_formed : form names [] ≡ Some names
  unfolding form
  none_formed =
      let fits : nat_le (length names) 65535 ≡ true = grind (arith, nat_tests, few) in rw fits refl

  one_formed : (text : List ℕ) (met : List (List ℕ)) → meet names text ≡ met
      → length met ≤ 65535 → form names (text ∷ []) ≡ Some met
  unfolding form
  one_formed text met is within =
      let fits : nat_le (length met) 65535 ≡ true = grind (arith, nat_tests, within) in
      rw (is, fits) refl

  many_formed : (text : List ℕ) (met : List (List ℕ)) → meet names text ≡ met
      → 65535 < length met → form names (text ∷ []) ≡ None
  unfolding form
  many_formed text met is past =
      let full : nat_le (length met) 65535 ≡ false = grind (arith, nat_tests, past) in
      rw (is, full) refl

  added : (text : List ℕ) → length (names ++ text ∷ []) ≡ length names + 1
  added text = length-append names (text ∷ [])

  -- where its name is formed, or stands
  pub key_forms : (key : Key) → IsKeyIn births names s k key → IsForming names key (Ok tt)
      → (fits_key k ≡ true) × (form names (texts_of_key s k) ≡ Some (names_with names key))
  key_forms (Met w) is done = (is.fits, by is.texts)
    where
      by : (texts_of_key s k ≡ []) ⊎ ((text : List ℕ) × (number : ℕ)
          × (texts_of_key s k ≡ text ∷ []) × (place_of text names ≡ Some number))
          → form names (texts_of_key s k) ≡ Some names
      by (inl none) = ap (form names) none ∙ none_formed
      by (inr one) = ap (form names) one.2
          ∙ one_formed one.0 names (sym (meet_known one.0 names one.1 one.3)) few
  key_forms (Unmet text) is done =
      let size = added text.items in (
        is.1,
        ap (form names) is.0.texts ∙ one_formed text.items _
            (sym (meet_new text.items names is.0.unmet)) (omega (arith, size, done)),
      )
  key_forms TooLong is done = absurd done

  pub formed_is : (key : Key) → IsKeyIn births names s k key → IsForming names key (Ok tt)
      → (outcome : Outcome Change)
      → given_that (fits_key k) LimitCheck (forming names (texts_of_key s k) outcome)
      ≡ unnamed (names_with names key) outcome
  formed_is key is done outcome =
      let forms = key_forms key is done in rw (forms.0, forms.1) refl

  -- where it can't be
  pub unformed_is : (key : Key) → IsKeyIn births names s k key → (error : ErrorName)
      → IsForming names key (Err (Raises error)) → (outcome : Outcome Change)
      → given_that (fits_key k) LimitCheck (forming names (texts_of_key s k) outcome)
      ≡ fails error
  unformed_is (Met w) is error done outcome = absurd done
  unformed_is (Unmet text) is error done outcome =
      let size = added text.items in
      let full = done.1 in
      let forms : form names (texts_of_key s k) ≡ None =
      ap (form names) is.0.texts ∙ many_formed text.items _
      (sym (meet_new text.items names is.0.unmet)) (omega (arith, size, full)) in
      rw (is.1, forms) (ap fails (sym done.0))
  unformed_is TooLong is error done outcome = rw is.2 (ap fails (sym done))

-- of a key that was met nothing is formed
pub met_forms : (births : ℕ → ℕ) (names : List (List ℕ)) (s : Store) (k : Value)
    → length names ≤ 65535 → (w : Word) → IsKey births names s k w → (outcome : Outcome Change)
    → forming names (texts_of_key s k) outcome ≡ unnamed names outcome
met_forms births names s k few w is outcome =
    subst (λ (fits : Bool). given_that fits LimitCheck (forming names (texts_of_key s k) outcome)
    ≡ unnamed names outcome) is.fits (formed_is births names s k few (Met w) is tt outcome)

-- the name that is added, or none
abbrev pub name_of : Key → List (List ℕ)
name_of (Met w) = []
name_of (Unmet text) = text.items ∷ []
name_of TooLong = []

pub names_more : (names : List (List ℕ)) (key : Key)
    → names_with names key ≡ names ++ name_of key
names_more names (Met w) = sym (append-nil names)
names_more names (Unmet text) = refl
names_more names TooLong = sym (append-nil names)

-- ---- an operator that forms the name of a key and leaves other operands

module _ (row : Row) (l : Lent) (good : IsGood l) (attempt : Attempt) (k : Word) (key : Key)
    (are : IsKeyOf l.heap l.names k key)
    (inside : (store : Store) → IsShown l store → IsWithin (birth_at l.heap) l.names store k)
    (operands : List Word) (output : Store → List Value)
    (tail : (store : Store) → IsShown l store → effect_in row l store
    ≡ naming_effect (scene_of l store)
    (given_that (fits_key (value_of (birth_at l.heap) l.names k)) LimitCheck
    (forming l.names (texts_of_key store (value_of (birth_at l.heap) l.names k))
    (leaves (record { operands = output store; store = store }))))) where
  key_in : (store : Store) → IsShown l store
      → IsKeyIn (birth_at l.heap) l.names store (value_of (birth_at l.heap) l.names k) key
  key_in store shown = are.shown store shown.shows (inside store shown)

  effect_formed : IsForming l.names key (Ok tt) → (store : Store) → IsShown l store
      → effect_in row l store
      ≡ quiet (record (scene_of l store)
      { operands = output store; names = names_with l.names key })
  effect_formed done store shown =
      tail store shown
      ∙ ap (naming_effect (scene_of l store)) (formed_is (birth_at l.heap) l.names store
      (value_of (birth_at l.heap) l.names k) are.few key (key_in store shown) done
      (leaves (record { operands = output store; store = store })))

  effect_unformed : (error : ErrorName) → IsForming l.names key (Err (Raises error))
      → (store : Store) → IsShown l store → effect_in row l store ≡ raises error
  effect_unformed error done store shown =
      tail store shown
      ∙ ap (naming_effect (scene_of l store)) (unformed_is (birth_at l.heap) l.names store
      (value_of (birth_at l.heap) l.names k) are.few key (key_in store shown) error done
      (leaves (record { operands = output store; store = store })))

  -- where its name might be formed
  wants_name : (other : Key) → key ≡ other → (reason : Reason)
      → IsForming l.names other (Err (NotMade reason))
      → Acts nothing_asked row attempt (Err (NotMade reason)) l l
  wants_name (Met w) is reason done = absurd done
  wants_name TooLong is reason done = absurd done
  wants_name (Unmet text) is reason done =
      let few = done.1 in
      let may : IsForming l.names key (Ok tt) = rw is few in
      subst (λ (r : Reason). Acts nothing_asked row attempt (Err (NotMade r)) l l) (sym done.0)
      (wanting_acts row attempt nothing_asked l good l.grants l.room l.scratch (omega arith)
      (at_least-same _) good.empty (logs-same 0 l.grants attempt.slot) Memory
      λ store shown. record {
        scene = record (scene_of l store)
            { operands = output store; names = names_with l.names key };
        output = [];
        is = effect_formed may store shown;
        enough = lacks_for_same attempt.refused store;
        why = inr (inl (rw is (let size = length-append l.names (text.items ∷ []) in
            omega (arith, size))));
      })

  pub fault_acts : (break : Break) → IsForming l.names key (Err break)
      → (names : List (List ℕ)) → names ≡ l.names
      → Acts nothing_asked row attempt (Err break) l (record l { names = names })
  fault_acts break done names same =
      subst (λ (ns : List (List ℕ)).
      Acts nothing_asked row attempt (Err break) l (record l { names = ns })) (sym same)
      (by break done)
    where
      unwound : (other : Key) → (cause : Cause) → IsForming l.names other (Err (Unwinds cause))
          → ⊥
      unwound (Met w) cause it = it
      unwound (Unmet text) cause it = it
      unwound TooLong cause it = it

      by : (break : Break) → IsForming l.names key (Err break)
          → Acts nothing_asked row attempt (Err break) l l
      by (Raises error) it = raised_acts row attempt nothing_asked l good error
          (effect_unformed error it)
      by (NotMade reason) it = wants_name key refl reason it
      by (Unwinds cause) it = absurd (unwound key cause it)

  module _ (done : IsForming l.names key (Ok tt)) (names : List (List ℕ))
      (same : names ≡ names_with l.names key)
      (are_names : AreNames names)
      (held : AreValues l.heap operands)
      (stay : (names : List (List ℕ)) (store : Store) → AreWithin l.heap names store l.operands
      → AreWithin l.heap names store operands)
      (are_output : (store : Store) → IsShown l store
      → values_in l.heap l.names operands ≡ output store) where
    abbrev more : List (List ℕ)
    more = name_of key

    names_are : names ≡ l.names ++ more
    names_are = same ∙ names_more l.names key

    abbrev other : Row
    other = scene_row (λ (scene : Scene). quiet
        (record scene { operands = values_in l.heap names operands }))

    effects : (store : Store) → IsShown l store
        → effect_in row l store ≡ effect_in other (record l { names = names }) store
    effects store shown =
        let left = formed_left l more names names_are store shown in
        effect_formed done store shown
        ∙ (ap (λ (ns : List (List ℕ)). quiet (record (scene_of l store)
        { operands = output store; names = ns })) (sym same)
        ∙ (ap (λ (vs : List Value). quiet (record (scene_of l store)
        { operands = vs; names = names })) (sym (are_output store shown)
        ∙ sym (ap (λ (ns : List (List ℕ)). values_in l.heap ns operands) names_are
        ∙ values_of-named l.names more (birth_at l.heap) store operands
        (stay l.names store shown.operands)))
        ∙ ap (λ (scene : Scene). quiet (record scene
        { operands = values_in l.heap names operands })) (sym left.is)))

    pub formed_name_acts : Acts nothing_asked row attempt (Ok tt) l
        (record l { operands = operands; names = names })
    formed_name_acts =
        formed_acts l more names names_are row other nothing_asked nothing_asked attempt effects
        (λ store shown. refl) _
        (stacked_acts other (record l { names = names }) operands l.dictionaries nothing_asked attempt
        (formed_good l more names names_are good are_names) held good.dictionaries
        λ store shown. record {
          is = refl;
          operands_within = stay names store shown.operands;
          dictionaries_within = shown.dictionaries;
        })
