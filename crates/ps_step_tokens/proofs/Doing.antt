-- What the tokens of names and numbers come to.
use Rattle.std.proofs.Common.{◌≡◌, ℕ, ◌<◌, ◌≤◌, ◌++◌, ◌-◌, arith, Bool, true, false, List, [], ◌∷◌, length, Some, None}
use Rattle.std.proofs.Common.{refl, sym, ap, ◌∙◌, inl, inr, Err}
use Rattle.std.specs.Prelude.{ℤ, not, if◌then◌else◌, Result}
use Rattle.std.proofs.lemmas.List.{length_push}
use Rattle.ps_language.specs.declared.errors.ErrorName.TheVariants.{StackOverflow, LimitCheck, VmError, Undefined}
use Rattle.ps_language.specs.declared.errors.ErrorName.TheVariants.{InvalidAccess}
use Rattle.ps_language.specs.Dictionaries.{form, meet}
use Rattle.ps_language.specs.Effect.{Scene}
use Rattle.ps_language.specs.Objects.{lacks_room}
use Rattle.ps_language.specs.Outcome.{leaves, given_that}
use Rattle.ps_language.specs.Readers.{integer, null, executable_name, is_full}
use Rattle.ps_language.specs.StepTokens.{token_done}
use Rattle.ps_language.specs.StepValues.{Turn, goes, tries, breaks, errs, asks as leaves_to, after, leads, LookedUp}
use Rattle.ps_language.specs.StepValues.{known, unknown, unreadable, looked_up, after_look_up, pushed, executed, done}
use Rattle.ps_language.specs.StepValues.{is_procedure, is_executable_name}
use Rattle.ps_language.specs.Token.{number_token}
use Rattle.ps_language.specs.Value.{Value, Store}
use Rattle.ps_word.specs.declared.words.Word.{Word}
use Rattle.ps_mem.specs.Heap.{birth_at}
use Rattle.ps_mem.specs.Meaning.{value_of}
use Rattle.ps_mem.specs.Shows.{IsWithin}
use Rattle.ps_names.specs.Names.{place_of}
use Rattle.ps_names.proofs.Places.{meet_new}
use Rattle.ps_ops_operands.specs.declared.failure.NotMade.{NotMade as Reason}
use Rattle.ps_ops_operands.specs.declared.failure.NotMade.TheVariants.{Memory}
use Rattle.ps_ops_state.specs.declared.lent.Attempt.{Attempt}
use Rattle.ps_ops_state.specs.Acts.{Asked, needs_between}
use Rattle.ps_ops_state.specs.Lent.{Lent, scene_of, around_of, IsShown, IsGood}
use Rattle.ps_ops_state.proofs.Forming.{formed_left}
use Rattle.ps_step_outcome.specs.declared.turned.Turned.{Turned}
use Rattle.ps_step_outcome.specs.Turns.{Turns, TurnsWith, turn_needs, error_needs, error_turn, nothing_more}
use Rattle.ps_step_outcome.proofs.Composing.{turns_as, turns_shown}
use Rattle.ps_step_execute.specs.Values.{Asks, IsLent, meaning, pushed_turn, done_asks, executed_asks, done_turn}
use Rattle.ps_step_tokens.specs.declared.names.NameKind.{NameKind}
use Rattle.ps_step_tokens.specs.declared.names.NameKind.TheVariants.{Literal, Executable, Immediate}
use Rattle.ps_step_tokens.specs.Names.{name_token, name_in, met_turn, met_asks}
use Rattle.ps_step_tokens.specs.Tokens.{met, token_turn, token_asks, replaced_asks}
use Rattle.ps_step_tokens.proofs.Alike.{raised, unmade}
use Rattle.ps_step_tokens.proofs.Unmet.{IsValueless, unmet_valueless}

-- ---- a number

pub number_pushed : (l : Lent) (w : Word) (number : ℤ) → meaning l w ≡ integer number
    → (s : Store) → pushed_turn w w l s ≡ token_turn (number_token number) l s
unfolding token_done done executed is_procedure is_executable_name
number_pushed l w number means s = λ i. pushed (means i) (means i) (scene_of l s)

-- ---- a value in hand, which is the command too

pub lent_turns : (l : Lent) (w : Word) → IsLent l w
    → (asks : Lent → Store → Asked) (turn : Lent → Store → Turn) (attempt : Attempt)
    (result : Result Turned Reason) (new : Lent)
    → TurnsWith (w ∷ w ∷ []) [] asks turn attempt result l new → Turns asks turn attempt result l new
lent_turns l w held asks turn attempt result new =
    turns_shown (w ∷ w ∷ []) [] asks turn attempt result l new
    (λ s shown. (held.within s shown, (held.within s shown, tt))) (λ s shown. tt)

-- ---- the value of a name behind //

module _ (l : Lent) (w : Word) (held : IsLent l w) (attempt : Attempt)
    (result : Result Turned Reason) (new : Lent) (asks : Asks) where
  abbrev Finds : LookedUp → Type 0
  Finds found = (s : Store) → IsShown l s
      → looked_up (meaning l w) (scene_of l s).dictionaries s ≡ found

  abbrev Comes : Type 0
  Comes = Turns (met_asks asks Immediate w) (met_turn Immediate w) attempt result l new

  -- what is done with what was looked up
  found_turn : (found : LookedUp) (s : Store) → Turn
  found_turn found s = after_look_up (meaning l w) (scene_of l s) found
      (λ value. done (meaning l w) value (around_of l) (scene_of l s))

  pub value_done : (value : Word)
      → ((s : Store) → IsShown l s → IsWithin (birth_at l.heap) l.names s value)
      → Finds (known (meaning l value))
      → TurnsWith (value ∷ w ∷ []) [] (executed_asks asks value) (done_turn w value) attempt result l
      new → Comes
  unfolding found_turn
  value_done value within found turns =
      turns_as (executed_asks asks value) (met_asks asks Immediate w) (done_turn w value)
      (met_turn Immediate w) attempt result l new
      (λ s shown. sym (ap (λ (looked : LookedUp). found_turn looked s) (found s shown)))
      (λ s shown. sym (ap (λ (looked : LookedUp). replaced_asks asks looked (around_of l) (scene_of l s))
      (found s shown)))
      (turns_shown (value ∷ w ∷ []) [] (executed_asks asks value) (done_turn w value) attempt result l
      new (λ s shown. (within s shown, (held.within s shown, tt))) (λ s shown. tt) turns)

  pub value_unknown : Finds unknown
      → TurnsWith (w ∷ []) [] nothing_more (error_turn Undefined w) attempt result l new → Comes
  unfolding found_turn
  value_unknown found turns =
      raised (met_asks asks Immediate w) (met_turn Immediate w) attempt result l new w held.within
      Undefined (λ s shown. ap (λ (looked : LookedUp). found_turn looked s) (found s shown)) turns

  pub value_unreadable : Finds unreadable
      → TurnsWith (w ∷ []) [] nothing_more (error_turn InvalidAccess w) attempt result l new → Comes
  unfolding found_turn
  value_unreadable found turns =
      raised (met_asks asks Immediate w) (met_turn Immediate w) attempt result l new w held.within
      InvalidAccess (λ s shown. ap (λ (looked : LookedUp). found_turn looked s) (found s shown))
      turns

-- ---- names for which memory is refused

-- the turn leaves these names
abbrev pub Leaves : (names : List (List ℕ)) → Turn → Type 0
Leaves names (goes scene output) = scene.names ≡ names
Leaves names (tries command kept scene output) = scene.names ≡ names
Leaves names (breaks cause scene) = ⊥
Leaves names (errs error command kept) = kept.names ≡ names
Leaves names (leaves_to calling kept) = ⊥

module _ (l : Lent) (names : List (List ℕ)) (more : length l.names < length names) where
  -- which asks for one more at least
  pub one_more : (attempt : Attempt) (asked : Asked) (birth : ℕ) (s : Store)
      → (turn : Turn) → Leaves names turn
      → 1 ≤ (turn_needs attempt.refused asked birth (scene_of l s) turn).names
  one_more attempt asked birth s (goes scene output) are =
      let same = ap length are in omega (arith, same, more)
  one_more attempt asked birth s (tries command kept scene output) are =
      let same = ap length are in
      let some : 1 ≤ length scene.names - length l.names = omega (arith, same, more) in
      by (lacks_room attempt.refused kept.store scene.store) some
    where
      by : (lacking : Bool) → 1 ≤ length scene.names - length l.names
          → 1 ≤ (if lacking then error_needs asked.scratch birth (scene_of l s) VmError command
          (record kept { names = scene.names })
          else needs_between asked (scene_of l s) scene output).names
      by true some = some
      by false some = some
  one_more attempt asked birth s (breaks cause scene) are = absurd are
  one_more attempt asked birth s (errs error command kept) are =
      let same = ap length are in omega (arith, same, more)
  one_more attempt asked birth s (leaves_to calling kept) are = absurd are

-- ---- a name

module _ (l : Lent) (text : List ℕ) where
  -- no more names may be met
  pub name_overflows : form l.names (text ∷ []) ≡ None → (w : Word) → meaning l w ≡ null
      → (kind : NameKind) (s : Store)
      → token_turn (name_token kind text) l s ≡ error_turn LimitCheck w l s
  unfolding token_done
  name_overflows none w means Literal s = rw (none, means) refl
  name_overflows none w means Executable s = rw (none, means) refl
  name_overflows none w means Immediate s = rw (none, means) refl

  module _ (names : List (List ℕ)) (formed_is : form l.names (text ∷ []) ≡ Some names) where
    module _ (more : List (List ℕ)) (are : names ≡ l.names ++ more) (kind : NameKind) (w : Word)
        (means : value_of (birth_at l.heap) names w ≡ name_in kind text) where
      abbrev formed : Lent
      formed = record l { names = names }

      abbrev formed_scene : Store → Scene
      formed_scene s = record (scene_of l s) { names = names }

      -- what its token does is what is done once it is met
      pub met_as : (s : Store) → IsShown l s
          → met_turn kind w formed s ≡ token_turn (name_token kind text) l s
      unfolding token_done done executed is_procedure is_executable_name
      met_as s shown =
          let scene = (formed_left l more names are s shown).is in by kind means scene
        where
          by : (kind : NameKind) → value_of (birth_at l.heap) names w ≡ name_in kind text
              → scene_of formed s ≡ formed_scene s
              → met_turn kind w formed s ≡ token_turn (name_token kind text) l s
          by Literal means scene =
              (λ i. pushed (means i) (means i) (scene i)) ∙ rw formed_is refl
          by Executable means scene =
              (λ i. executed (means i) (means i) (around_of l) (scene i)) ∙ rw formed_is refl
          by Immediate means scene =
              (λ i. after_look_up (means i) (scene i)
              (looked_up (means i) (scene i).dictionaries (scene i).store)
              (λ found. done (means i) found (around_of l) (scene i))) ∙ rw formed_is refl

      pub met_asked : (asks : Asks) → names ≡ meet l.names text → (s : Store) → IsShown l s
          → met_asks asks kind w formed s ≡ token_asks asks (name_token kind text) l s
      met_asked asks are_met s shown =
          let scene : scene_of formed s ≡ met text (scene_of l s) =
          (formed_left l more names are s shown).is
          ∙ ap (λ (ns : List (List ℕ)). record (scene_of l s) { names = ns }) are_met in
          by kind means scene
        where
          by : (kind : NameKind) → value_of (birth_at l.heap) names w ≡ name_in kind text
              → scene_of formed s ≡ met text (scene_of l s)
              → met_asks asks kind w formed s ≡ token_asks asks (name_token kind text) l s
          by Literal means scene = refl
          by Executable means scene = λ i. done_asks asks (means i) (around_of l) (scene i)
          by Immediate means scene = λ i. replaced_asks asks
              (looked_up (means i) (scene i).dictionaries (scene i).store) (around_of l) (scene i)

    -- ---- its memory is refused

    push_leaves : (command value : Value) (scene : Scene) → scene.names ≡ names
        → Leaves names (pushed command value scene)
    push_leaves command value scene are = by (is_full scene.operands)
      where
        by : (full : Bool) → Leaves names (after command scene
            (given_that (not full) StackOverflow
            (leaves (record scene { operands = value ∷ scene.operands }))) leads)
        by true = are
        by false = are

    valueless_leaves : (command : Value) (scene : Scene) → scene.names ≡ names
        → (found : LookedUp) → IsValueless found → (next : Value → Turn)
        → Leaves names (after_look_up command scene found next)
    valueless_leaves command scene are (known value) none next = absurd none
    valueless_leaves command scene are unknown none next = are
    valueless_leaves command scene are unreadable none next = are

    module _ (good : IsGood l) (unmet : place_of text l.names ≡ None) (s : Store)
        (shown : IsShown l s) where
      none : IsValueless (looked_up (executable_name text) (scene_of l s).dictionaries s)
      none = unmet_valueless l.heap good.sound l.names s shown.shows text unmet l.dictionaries
          good.dictionaries

      name_leaves : (kind : NameKind) → Leaves names (token_turn (name_token kind text) l s)
      unfolding token_done done executed is_procedure is_executable_name
      name_leaves Literal =
          rw formed_is (push_leaves _ _ (record (scene_of l s) { names = names }) refl)
      name_leaves Executable =
          rw formed_is (valueless_leaves _ (record (scene_of l s) { names = names }) refl _ none _)
      name_leaves Immediate =
          rw formed_is (valueless_leaves _ (record (scene_of l s) { names = names }) refl _ none _)

    -- a new name wants its memory, whatever its token does
    pub name_refused : IsGood l → place_of text l.names ≡ None → names ≡ meet l.names text
        → (asks : Asks) (kind : NameKind) (attempt : Attempt)
        → Turns (token_asks asks (name_token kind text)) (token_turn (name_token kind text)) attempt
        (Err Memory) l l
    name_refused good unmet met asks kind attempt =
        let size = ap length (met ∙ sym (meet_new text l.names unmet))
        ∙ length_push l.names text in
        unmade (token_asks asks (name_token kind text)) (token_turn (name_token kind text)) attempt l
        good Memory λ s shown.
        inr (inl (one_more l names (omega (arith, size)) attempt
        (token_asks asks (name_token kind text) l s) (birth_at l.heap l.error_dictionary) s _
        (name_leaves good unmet s shown kind)))
