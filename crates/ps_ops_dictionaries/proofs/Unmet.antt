-- A put of a key that is a string of which no name was met.
use Rattle.std.proofs.Common.{◌≡◌, ◌≢◌, ℕ, ◌+◌, ◌-◌, ◌≤◌, ◌<◌, ◌++◌, arith, Bool, true, false, List, [], ◌∷◌, drop}
use Rattle.std.proofs.Common.{take, length, Option, Some, None, Ok, Err, refl, sym, ap, subst, ◌∙◌, inr}
use Rattle.std.proofs.Common.{append-nil, length-append}
use Rattle.std.specs.Prelude.{nat_lt, if◌then◌else◌}
use Rattle.std.proofs.lemmas.Bool.Decides.{nat_tests}
use Rattle.arrayvec.specs.ArrayVec.{ArrayVec}
use Rattle.ps_language.specs.declared.errors.ErrorName.{ErrorName}
use Rattle.ps_language.specs.declared.errors.ErrorName.TheVariants.{LimitCheck, VmError}
use Rattle.ps_language.specs.declared.kinds.Kind.TheVariants.{Dictionary as DictionaryKind}
use Rattle.ps_language.specs.Value.{Value, Dictionary, Store}
use Rattle.ps_language.specs.Access.{dictionary_at, with_dictionary}
use Rattle.ps_language.specs.Acts.{naming_effect}
use Rattle.ps_language.specs.Dictionaries.{find, holding, put_pair, grown_capacity, form, texts_of_key, fits_key}
use Rattle.ps_language.specs.Effect.{Scene, makes, raises}
use Rattle.ps_language.specs.Equality.{key_of, same_key}
use Rattle.ps_language.specs.Limits.{capacity_limit}
use Rattle.ps_language.specs.Objects.{changing}
use Rattle.ps_language.specs.Outcome.{Outcome, fails, given, given_that, Change, Naming}
use Rattle.ps_language.specs.Rows.{Row}
use Rattle.ps_word.specs.declared.words.Word.{Word}
use Rattle.ps_word.specs.declared.values.Content.TheVariants.{Name}
use Rattle.ps_word.specs.Format.{value_in, IsWord}
use Rattle.ps_mem.specs.Heap.{Heap, Grants, birth_at}
use Rattle.ps_mem.specs.Meaning.{value_of}
use Rattle.ps_mem.specs.References.{StandsAs}
use Rattle.ps_mem.specs.Shows.{IsValue, IsWithin}
use Rattle.ps_dict.specs.declared.plans.PutPlan.{PutPlan}
use Rattle.ps_dict.specs.declared.plans.PutPlan.TheVariants.{Append, Grow, Full}
use Rattle.ps_dict.specs.Places.{count_at, first_place}
use Rattle.ps_dict.specs.Puts.{plan_from, planned, plan_at, words_of}
use Rattle.ps_dict.proofs.Planning.{full-iff}
use Rattle.ps_dict.proofs.Probing.{few-places}
use Rattle.ps_dict.proofs.Shapes.{count-fits, count-shown}
use Rattle.ps_names.specs.Names.{AreNames}
use Rattle.ps_ops_operands.specs.declared.failure.NotMade.{NotMade as Reason}
use Rattle.ps_ops_operands.specs.Changes.{KeepsLogsWithin, values_in}
use Rattle.ps_ops_control.specs.declared.frames.Cause.{Cause}
use Rattle.ps_ops_state.specs.declared.breaks.Break.{Break}
use Rattle.ps_ops_state.specs.declared.breaks.Break.TheVariants.{Unwinds, Raises, NotMade}
use Rattle.ps_ops_state.specs.declared.lent.Attempt.{Attempt}
use Rattle.ps_ops_state.specs.Lent.{Lent, scene_of, IsShown, IsGood}
use Rattle.ps_ops_state.specs.Acts.{Asked, no_rooms, needs_of_refused, IsReason, effect_in, Acts}
use Rattle.ps_ops_state.proofs.Acting.{FormsName, naming_acts, raised_acts}
use Rattle.ps_ops_state.proofs.Forming.{formed_acts, formed_good, formed_left, unmade_acts, Lacks, refused_acts}
use Rattle.ps_ops_state.proofs.Forming.{unnoted_acts, cut_names}
use Rattle.ps_ops_state.proofs.Meeting.{at_least-same, logs-same}
use Rattle.ps_step_lookup.specs.declared.keys.Key.{Key}
use Rattle.ps_step_lookup.specs.declared.keys.Key.TheVariants.{Met, Unmet, TooLong}
use Rattle.ps_step_lookup.specs.Keys.{IsNameOf, IsNamed, IsKeyIn, IsKeyWord, IsKeyOf, IsForming, names_with, word_in}
use Rattle.ps_step_lookup.proofs.Formed.{key_forms, formed_is, unformed_is}
use Rattle.ps_step_lookup.proofs.Keying.{unmet_missing, last_named, named_value, named_within}
use Rattle.ps_ops_dictionaries.specs.Puts.{IsRefusal, putting, putting_asks, putting_key, putting_key_asks}
use Rattle.ps_ops_dictionaries.proofs.Keyed.{keyed_effects, keyed_asks}
use Rattle.ps_ops_dictionaries.proofs.Putting.{left_scene, effect_is, lacking, note_lack}

-- ---- places and plans

-- what isn't found has no place
none_place : (pairs : List (Value × Value)) (key : Value) → find pairs key ≡ None
    → first_place pairs key ≡ None
unfolding first_place
none_place [] key none = refl
none_place (pair ∷ pairs) key none =
    elim (same_key pair.0 key) as
    (λ b. same_key pair.0 key ≡ b → first_place (pair ∷ pairs) key ≡ None) [
      | true ↦ λ e. let clash : Some pair.1 ≡ None = rw e at none in absurd (cc)
      | false ↦ λ e.
          let rest : find pairs key ≡ None = rw e at none in
          rw (e, none_place pairs key rest) refl
    ] refl

-- by so few pairs
some_plan : (o : Option ℕ) (count capacity : ℕ) → count < 21845
    → plan_from o count capacity ≢ Full
some_plan (Some place) count capacity few = λ is. cc
some_plan None count capacity few =
    let room : nat_lt count capacity_limit ≡ true = grind (arith, nat_tests) in
    rw room (by (nat_lt count capacity))
  where
    by : (b : Bool)
        → (if b then Append else Grow (grown_capacity capacity (count + 1))) ≢ Full
    by true = λ is. cc
    by false = λ is. cc

no_plan : (count capacity : ℕ) → 21845 ≤ count → plan_from None count capacity ≡ Full
no_plan count capacity many =
    let full : nat_lt count capacity_limit ≡ false = grind (arith, nat_tests) in rw full refl

pub plan_possible : (l : Lent) (a : ℕ) (w : Word) → count_at l.heap a < 21845
    → plan_at l.heap a w ≢ Full
unfolding plan_at
plan_possible l a w few = some_plan _ _ _ few

-- ---- errors that come late

none_fails : {A : Type 0} (fits : Bool) (held : Option A) (next : A → Outcome Naming)
    → held ≡ None → given_that fits LimitCheck (given held LimitCheck next) ≡ fails LimitCheck
none_fails true held next none = rw none refl
none_fails false held next none = refl

late_fails : {A : Type 0} (fits : Bool) (held : Option A) (next : A → Outcome Naming)
    (error : ErrorName) → error ≡ LimitCheck
    → ((a : A) → given_that fits LimitCheck (next a) ≡ fails error)
    → given_that fits LimitCheck (given held LimitCheck next) ≡ fails error
late_fails true (Some a) next error is late = late a
late_fails true None next error is late = ap fails (sym is)
late_fails false held next error is late = ap fails (sym is)

-- a name that can't be formed
limit_only : (names : List (List ℕ)) (key : Key) (error : ErrorName)
    → IsForming names key (Err (Raises error)) → error ≡ LimitCheck
limit_only names (Met w) error done = absurd done
limit_only names (Unmet text) error done = done.0
limit_only names TooLong error done = done

-- the name of a key was formed, and is the literal name of its text
pub record IsFormed (old names : List (List ℕ)) (key : Key) (w : Word) : Type 0 where
  pub text : ArrayVec ℕ
  pub is : key ≡ Unmet text
  pub done : IsForming old key (Ok tt)
  pub are : names ≡ old ++ text.items ∷ []
  pub name : IsNameOf names text.items w

pub formed_as : (h : Heap) (old names : List (List ℕ)) (key : Key) → IsKeyWord h old key
    → AreNames old → word_in key ≡ None → IsForming old key (Ok tt) → names ≡ names_with old key
    → (w : Word) (number : ℕ) → number ≡ length old
    → value_in w.0 ≡ record { content = Name number; executable = false } → IsWord w.0
    → IsFormed old names key w
formed_as h old names (Met v) held are none done new w number number_is is word = absurd (cc)
formed_as h old names TooLong held are none done new w number number_is is word = absurd done
formed_as h old names (Unmet text) held are none done new w number number_is is word = record {
  text = text;
  is = refl;
  done = done;
  are = new;
  name = subst (λ (ns : List (List ℕ)). IsNameOf ns text.items w) (sym new)
      (last_named old text.items held are done w
      (is ∙ ap (λ (n : ℕ). record { content = Name n; executable = false }) number_is) word);
}

-- a key that was not met has no place
module _ (l : Lent) (good : IsGood l) (a : ℕ) (k : Word)
    (known : StandsAs l.heap DictionaryKind a 4) (key : Key)
    (are : IsKeyOf l.heap l.names k key) (unmet : word_in key ≡ None) (store : Store)
    (shown : IsShown l store) (inside : IsWithin (birth_at l.heap) l.names store k) where
  named_by : (other : Key) → word_in other ≡ None
      → IsKeyIn (birth_at l.heap) l.names store (value_of (birth_at l.heap) l.names k) other
      → (text : List ℕ) × IsNamed l.names store (value_of (birth_at l.heap) l.names k) text
  named_by (Met w) none it = absurd (cc)
  named_by (Unmet text) none it = (text.items, it.0)
  named_by TooLong none it = (it.0, it.1)

  pub unmet_absent : first_place (dictionary_at store (birth_at l.heap a)).pairs
      (key_of store (value_of (birth_at l.heap) l.names k)) ≡ None
  unmet_absent =
      let named = named_by key unmet (are.shown store shown.shows inside) in
      none_place (dictionary_at store (birth_at l.heap a)).pairs _
      (ap (find (dictionary_at store (birth_at l.heap a)).pairs) named.1.is
      ∙ unmet_missing l.heap a known good.sound l.names store shown.shows named.0 named.1.unmet)

-- ---- a put

module _ (l : Lent) (good : IsGood l) (a : ℕ) (k x : Word) (count : ℕ)
    (known : StandsAs l.heap DictionaryKind a 4) (key : Key)
    (are : IsKeyOf l.heap l.names k key) (unmet : word_in key ≡ None)
    (inside : (store : Store) → IsShown l store
    → IsWithin (birth_at l.heap) l.names store k × IsWithin (birth_at l.heap) l.names store x)
  where
    abbrev births : ℕ → ℕ
    births = birth_at l.heap

    abbrev k_value : Value
    k_value = value_of births l.names k

    abbrev x_value : Value
    x_value = value_of births l.names x

    module _ (store : Store) (shown : IsShown l store) where
      abbrev before : Dictionary
      before = dictionary_at store (births a)

      abbrev pairs_then : List (Value × Value)
      pairs_then = put_pair before.pairs (key_of store k_value, x_value)

      key_in : IsKeyIn births l.names store k_value key
      key_in = are.shown store shown.shows (inside store shown).0

      absent : first_place before.pairs (key_of store k_value) ≡ None
      absent = unmet_absent l good a k known key are unmet store shown (inside store shown).0

      plan_is : planned before (key_of store k_value)
          ≡ plan_from None (length before.pairs) before.capacity
      unfolding planned
      plan_is = ap (λ (o : Option ℕ). plan_from o (length before.pairs) before.capacity) absent

      limit : length before.pairs ≤ 21845
      limit =
          let fits = count-fits l.heap a known good.sound in
          let pairs = count-shown l.heap a known good.sound l.names store shown.shows in
          let most = few-places l.heap a known good.sound in
          omega (arith, fits, pairs, most)

      -- where the pairs would be too many
      pub unmet_full : 21845 ≤ count_at l.heap a
          → effect_in (putting_key births a k x count) l store ≡ raises LimitCheck
      unmet_full many =
          let pairs = count-shown l.heap a known good.sound l.names store shown.shows in
          let full = no_plan (length before.pairs) before.capacity (omega (arith, pairs, many)) in
          ap (naming_effect (scene_of l store)) (none_fails (fits_key k_value)
          (holding before pairs_then) _
          ((full-iff before (key_of store k_value) x_value limit).0 (plan_is ∙ full)))

      held : count_at l.heap a < 21845
          → (d : Dictionary) × (holding before pairs_then ≡ Some d)
      held few = by (holding before pairs_then) refl
        where
          by : (o : Option Dictionary) → holding before pairs_then ≡ o
              → (d : Dictionary) × (holding before pairs_then ≡ Some d)
          by (Some d) is = (d, is)
          by None is =
              let pairs = count-shown l.heap a known good.sound l.names store shown.shows in
              absurd (some_plan None (length before.pairs) before.capacity (omega (arith, pairs, few))
              (sym plan_is ∙ (full-iff before (key_of store k_value) x_value limit).1 is))

      abbrev left : Dictionary → Outcome Change
      left d = changing (drop count (values_in l.heap l.names l.operands))
          (with_dictionary store (births a) d)

      -- where its name can't be formed
      pub unmet_unformed : (error : ErrorName) → IsForming l.names key (Err (Raises error))
          → effect_in (putting_key births a k x count) l store ≡ raises error
      unmet_unformed error done =
          ap (naming_effect (scene_of l store)) (late_fails (fits_key k_value)
          (holding before pairs_then) _ error (limit_only l.names key error done) λ d.
          unformed_is births l.names store k_value are.few key key_in error done (left d))

      abbrev after_scene : Dictionary → Scene
      after_scene d = record (scene_of l store) {
        operands = drop count (values_in l.heap l.names l.operands);
        store = with_dictionary store (births a) d;
        names = names_with l.names key;
      }

      -- where it might be
      forms_effect : IsForming l.names key (Ok tt) → (few : count_at l.heap a < 21845)
          → effect_in (putting_key births a k x count) l store
          ≡ makes (after_scene (held few).0) []
      forms_effect done few =
          rw (held few).1 (ap (naming_effect (scene_of l store)) (formed_is births l.names store
          k_value are.few key key_in done (left (held few).0)))

    abbrev row : Row
    row = putting_key births a k x count

    abbrev asks : Scene → Asked
    asks = putting_key_asks births a k

    -- where memory for its name is refused
    module _ (attempt : Attempt) (few : count_at l.heap a < 21845) where
      wants_name : (reason : Reason) → IsForming l.names key (Err (NotMade reason))
          → Acts asks row attempt (Err (NotMade reason)) l l
      wants_name reason done = by key refl done
        where
          wants : (text : ArrayVec ℕ) → key ≡ Unmet text → IsForming l.names key (Ok tt)
              → (store : Store) → IsShown l store → FormsName row attempt asks l store
          wants text is may store shown = record {
            scene = after_scene store shown (held store shown few).0;
            output = [];
            is = forms_effect store shown may few;
            formed = rw is
                (let size = length-append l.names (text.items ∷ []) in omega (arith, size));
          }

          by : (other : Key) → key ≡ other → IsForming l.names other (Err (NotMade reason))
              → Acts asks row attempt (Err (NotMade reason)) l l
          by (Met w) is it = absurd it
          by TooLong is it = absurd it
          by (Unmet text) is it =
              let room = it.1 in
              let may : IsForming l.names key (Ok tt) = rw is room in
              subst (λ (r : Reason). Acts asks row attempt (Err (NotMade r)) l l) (sym it.0)
              (naming_acts row attempt asks l good l.grants l.room l.scratch (omega arith)
              (at_least-same _) good.empty (logs-same 0 l.grants attempt.slot) (wants text is may))

      never_unwinds : (other : Key) (cause : Cause)
          → IsForming l.names other (Err (Unwinds cause)) → ⊥
      never_unwinds (Met w) cause it = it
      never_unwinds (Unmet text) cause it = it
      never_unwinds TooLong cause it = it

      pub unmet_fault : (break : Break) → IsForming l.names key (Err break)
          → (names : List (List ℕ)) → names ≡ l.names
          → Acts asks row attempt (Err break) l (record l { names = names })
      unmet_fault break done names same =
          subst (λ (ns : List (List ℕ)). Acts asks row attempt (Err break) l
          (record l { names = ns })) (sym same) (by break done)
        where
          by : (break : Break) → IsForming l.names key (Err break)
              → Acts asks row attempt (Err break) l l
          by (Raises error) it = raised_acts row attempt asks l good error
              (λ store shown. unmet_unformed store shown error it)
          by (NotMade reason) it = wants_name reason it
          by (Unwinds cause) it = absurd (never_unwinds key cause it)

    -- its name, once it is formed
    module _ (w : Word) (names : List (List ℕ)) (named : IsFormed l.names names key w)
        (x_within : (store : Store) → IsShown (record l { names = names }) store
        → IsWithin births names store x) where
      abbrev more : List (List ℕ)
      more = named.text.items ∷ []

      abbrev formed : Lent
      formed = record l { names = names }

      keyed : (store : Store) → IsShown l store
          → (key_of store k_value ≡ value_of births names w)
          × (fits_key k_value ≡ true)
          × (form l.names (texts_of_key store k_value) ≡ Some names)
      keyed store shown =
          let there : IsKeyIn births l.names store k_value (Unmet named.text) =
          subst (IsKeyIn births l.names store k_value) named.is (key_in store shown) in
          let forms = key_forms births l.names store k_value are.few key (key_in store shown)
          named.done in (
            there.0.is ∙ sym (named_value names named.text.items w named.name births),
            forms.0,
            forms.1 ∙ ap (λ (ns : List (List ℕ)). Some ns)
                (ap (names_with l.names) named.is ∙ sym named.are),
          )

      effects : (store : Store) → IsShown l store
          → effect_in row l store ≡ effect_in (putting births a w x count) formed store
      effects = keyed_effects l a k x w count more names named.are keyed
          (λ store shown. (inside store shown).1)

      asked : (store : Store) → IsShown l store
          → putting_asks births a w (scene_of formed store) ≡ asks (scene_of l store)
      asked = keyed_asks l a k x w count more names named.are keyed
          (λ store shown. (inside store shown).1)

      pub inside_formed : (store : Store) → IsShown formed store
          → IsWithin births names store w × IsWithin births names store x
      inside_formed store shown = (
        named_within names named.text.items w named.name births store,
        x_within store shown,
      )

      pub unmet_good : AreNames names → IsGood formed
      unmet_good = formed_good l more names named.are good

      module _ (attempt : Attempt) where
        pub unmet_put : (new : Lent)
            → Acts (putting_asks births a w) (putting births a w x count) attempt (Ok tt) formed new
            → Acts asks row attempt (Ok tt) l new
        unmet_put = formed_acts l more names named.are row (putting births a w x count) asks
            (putting_asks births a w) attempt effects asked

        pub unmet_unmade : (new : Lent) (break : Break)
            → (reason : Reason) × (break ≡ NotMade reason)
            → Acts (putting_asks births a w) (putting births a w x count) attempt (Err break) formed new
            → (cut : List (List ℕ)) (place : ℕ) → place ≡ length l.names → cut ≡ take place new.names
            → Acts asks row attempt (Err break) l (record new { names = cut })
        unmet_unmade new break why acts cut place place_is is =
            let same : cut ≡ l.names =
            is ∙ (ap (take place) (acts.stays.names
            ∙ ap (λ (ns : List (List ℕ)). ns ++ acts.stays.formed) named.are)
            ∙ cut_names l.names more acts.stays.formed place place_is) in
            subst (λ (ns : List (List ℕ)). Acts asks row attempt (Err break) l
            (record new { names = ns })) (sym same)
            (subst (λ (b : Break). Acts asks row attempt (Err b) l (record new { names = l.names }))
            (sym why.1)
            (unmade_acts l more names named.are row (putting births a w x count) asks
            (putting_asks births a w) attempt effects asked good why.0 new
            (subst (λ (b : Break). Acts (putting_asks births a w) (putting births a w x count) attempt
            (Err b) formed new) why.1 acts)))

        -- ---- a refused step
        module _ (are_names : AreNames names) (w_held : IsValue l.heap w)
            (plan : PutPlan) (plan_is : plan ≡ plan_at l.heap a w) (possible : plan ≢ Full)
            (refused : attempt.refused ≡ true) (some : 0 < words_of plan) (grants : Grants)
            (logs : KeepsLogsWithin 0 l.grants grants attempt.slot) where
          lacks : (store : Store) → IsShown l store
              → Lacks l more names named.are row attempt grants store
          lacks store shown =
              let there = (formed_left l more names named.are store shown).shown in
              let well = unmet_good are_names in
              record {
                scene = left_scene formed well a w x count plan known w_held plan_is possible attempt
                    inside_formed store there;
                output = [];
                is = effects store shown ∙ effect_is formed well a w x count plan known w_held
                    plan_is possible attempt inside_formed store there;
                names_are = refl;
                lacking = lacking formed well a w x count plan known w_held plan_is possible attempt
                    inside_formed store there refused some;
              }

          one_more : length names - length l.names ≡ 1
          one_more =
              let size = ap length named.are ∙ length-append l.names more in omega (arith, size)

          pub unmet_refused : (after : List (List ℕ)) (place : ℕ) → place ≡ length l.names
              → (break : Break)
              → IsRefusal attempt.slot l.heap names after place l.grants grants break
              → Acts asks row attempt (Err break) l (record l { grants = grants; names = after })
          unmet_refused after place place_is (Raises error) it =
              subst (λ (e : ErrorName). Acts asks row attempt (Err (Raises e)) l
              (record l { grants = grants; names = after })) (sym it.0)
              (subst (λ (ns : List (List ℕ)). Acts asks row attempt (Err (Raises VmError)) l
              (record l { grants = grants; names = ns })) (sym it.1)
              (refused_acts l more names named.are row attempt grants asks (unmet_good are_names) logs
              (inr (it.2, it.3)) lacks))
          unmet_refused after place place_is (NotMade reason) it =
              let same : after ≡ l.names =
              it.0 ∙ (ap (take place) (named.are ∙ sym (append-nil (l.names ++ more)))
              ∙ cut_names l.names more [] place place_is) in
              subst (λ (ns : List (List ℕ)). Acts asks row attempt (Err (NotMade reason)) l
              (record l { grants = grants; names = ns })) (sym same)
              (unnoted_acts l more names named.are row attempt grants asks good logs reason lacks
              (λ store. subst (λ (n : ℕ). IsReason (needs_of_refused no_rooms n) attempt.slot l
              (record l { grants = grants }) reason) (sym one_more)
              (note_lack l attempt grants no_rooms 1 (omega arith) reason it.1)))
          unmet_refused after place place_is (Unwinds cause) it = absurd it
