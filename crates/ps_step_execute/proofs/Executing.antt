-- What executing a word comes to, by what was done.
use Rattle.std.proofs.Common.{◌≡◌, ◌⊎◌, ℕ, Bool, true, false, List, [], ◌∷◌, Option, Some, None, Ok, Err, refl, sym, ap}
use Rattle.std.proofs.Common.{subst, ◌∙◌, inl, inr}
use Rattle.std.specs.Prelude.{ℤ, ◌&&◌, Result, IfOk, IfSome, if◌then◌else◌}
use Rattle.ps_language.specs.declared.errors.ErrorName.{ErrorName}
use Rattle.ps_language.specs.declared.errors.ErrorName.TheVariants.{InvalidAccess, Undefined}
use Rattle.ps_language.specs.declared.operators.Operator.{Operator as Named}
use Rattle.ps_language.specs.Effect.{Around, Scene}
use Rattle.ps_language.specs.Value.{What, null_value, mark_value, integer_value, boolean_value, name_value}
use Rattle.ps_language.specs.Value.{operator_value, array_value, string_value, dictionary_value, lock_value}
use Rattle.ps_language.specs.Value.{condition_value, Value, Store}
use Rattle.ps_language.specs.StepValues.{Turn, LookedUp, known, unknown, unreadable, seen, looked_up, name_in, is_array}
use Rattle.ps_language.specs.StepValues.{is_executable_name, is_procedure, executed_what, executed, done}
use Rattle.ps_language.specs.Dictionaries.{look_up}
use Rattle.ps_word.specs.declared.values.Content.{Content}
use Rattle.ps_word.specs.declared.values.Content.TheVariants.{Null, Integer, Boolean, Mark, Name, Operator, Array, Text}
use Rattle.ps_word.specs.declared.values.Content.TheVariants.{Dictionary, Lock, Condition, Body}
use Rattle.ps_word.specs.declared.values.Part.{Part}
use Rattle.ps_word.specs.declared.words.Word.{Word}
use Rattle.ps_word.specs.Format.{content_in, executable_in, IsContent}
use Rattle.ps_mem.specs.Heap.{Heap, birth_at}
use Rattle.ps_mem.specs.Meaning.{value_of, what_of}
use Rattle.ps_mem.specs.References.{IsKnown, IsKnownContent}
use Rattle.ps_mem.specs.Shows.{IsValue, IsWithin, IsWithinContent}
use Rattle.ps_ops_operands.specs.declared.failure.NotMade.{NotMade as Reason}
use Rattle.ps_ops_control.specs.declared.frames.Frame.TheVariants.{Pending}
use Rattle.ps_ops_control.specs.Frames.{IsHeld, IsHeldText}
use Rattle.ps_ops_state.specs.declared.lent.Attempt.{Attempt}
use Rattle.ps_ops_state.specs.Acts.{Asked}
use Rattle.ps_ops_state.specs.Lent.{Lent, scene_of, around_of, IsShown, IsGood}
use Rattle.ps_step_outcome.specs.declared.turned.Turned.{Turned}
use Rattle.ps_step_outcome.specs.declared.turned.Turned.TheVariants.{Goes}
use Rattle.ps_step_outcome.specs.Turns.{IsShownWith, TurnsOver, Turns, TurnsWith, error_turn, none_asked, nothing_more}
use Rattle.ps_step_outcome.proofs.Composing.{turns_over}
use Rattle.ps_step_lookup.specs.Lookups.{found_of}
pub use Rattle.ps_step_lookup.proofs.Knowing.{found_as}
use Rattle.ps_step_execute.specs.Values.{meaning, pushed_turn, framed_turn, entered_turn, string_frame, scanned_turn}
use Rattle.ps_step_execute.specs.Values.{operated_turn, executed_what_turn, treated_turn, executed_turn, done_turn, Asks}
use Rattle.ps_step_execute.specs.Values.{what_asks, found_asks, done_asks, operated_asks, word_asks, treated_asks}
use Rattle.ps_step_execute.specs.Values.{executed_asks}
use Rattle.ps_step_execute.proofs.Pushing.{behind_first, goes_as}

-- a procedure as an element asks for nothing
procedure_asked : (asks : Asks) (value : Value) (around : Around) (scene : Scene)
    → is_procedure value ≡ true → done_asks asks value around scene ≡ none_asked
unfolding is_procedure is_executable_name
procedure_asked asks value around scene made = by value.executable value.what made
  where
    by : (may : Bool) (what : What) → may && is_array what ≡ true
        → (if may && name_in what then
        found_asks asks (looked_up value scene.dictionaries scene.store) around scene
        else (if may then what_asks asks what around scene else none_asked)) ≡ none_asked
    by true (array_value part) made = refl
    by true null_value made = absurd (cc)
    by true mark_value made = absurd (cc)
    by true (integer_value _) made = absurd (cc)
    by true (boolean_value _) made = absurd (cc)
    by true (name_value _) made = absurd (cc)
    by true (operator_value _) made = absurd (cc)
    by true (string_value _) made = absurd (cc)
    by true (dictionary_value _) made = absurd (cc)
    by true (lock_value _) made = absurd (cc)
    by true (condition_value _) made = absurd (cc)
    by false what made = absurd (cc)

module _ (asks : Asks) (command word : Word) (l : Lent) (attempt : Attempt) where
  -- a store that is shown with both in hand
  abbrev Held : Store → Type 0
  Held s = IsShownWith (word ∷ command ∷ []) [] l s

  module _ (result : Result Turned Reason) (new : Lent) where
    abbrev Comes : (Lent → Store → Asked) → (Lent → Store → Turn) → Type 0
    Comes asked turn = TurnsWith (word ∷ command ∷ []) [] asked turn attempt result l new

    comes_over : (stores : Lent → Store → Type 0) → ((s : Store) → Held s → stores l s)
        → (asked other : Lent → Store → Asked) (done turn : Lent → Store → Turn)
        → ((s : Store) → Held s → turn l s ≡ done l s)
        → ((s : Store) → Held s → other l s ≡ asked l s)
        → TurnsOver stores asked done attempt result l new → Comes other turn
    comes_over stores fewer asked other done turn is same turns =
        turns_over stores (IsShownWith (word ∷ command ∷ []) []) asked other done turn attempt result
        l new fewer (λ s held. sym (is s held)) (λ s held. sym (same s held)) turns

    comes_as : (asked other : Lent → Store → Asked) (done turn : Lent → Store → Turn)
        → ((s : Store) → Held s → turn l s ≡ done l s)
        → ((s : Store) → Held s → other l s ≡ asked l s)
        → Comes asked done → Comes other turn
    comes_as asked other done turn is same turns =
        comes_over (IsShownWith (word ∷ command ∷ []) []) (λ s held. held) asked other done turn is
        same turns

    -- done with the command alone in hand
    comes_by : (asked other : Lent → Store → Asked) (done turn : Lent → Store → Turn)
        → ((s : Store) → Held s → turn l s ≡ done l s)
        → ((s : Store) → Held s → other l s ≡ asked l s)
        → TurnsWith (command ∷ []) [] asked done attempt result l new → Comes other turn
    comes_by asked other done turn is same turns =
        comes_over (IsShownWith (command ∷ []) []) (behind_first l word command) asked other done
        turn is same turns

    -- ---- by the content

    pub name_waits : (number : ℕ) → content_in word.0 ≡ Name number
        → TurnsWith (command ∷ []) (Pending word ∷ []) nothing_more
        (framed_turn command (Pending word)) attempt result l new
        → Comes (word_asks asks word) (executed_what_turn command word)
    unfolding value_of
    name_waits number content =
        comes_over (IsShownWith (command ∷ []) (Pending word ∷ [])) (λ s held. record {
          shown = held.shown;
          words_within = held.words_within.1;
          frames_within = (held.words_within.0, tt);
        })
        _ _ _ _ (λ s held. rw content refl) (λ s held. rw content refl)

    pub operator_acts : (operator : Named) → content_in word.0 ≡ Operator operator
        → Turns (operated_asks asks operator) (operated_turn operator) attempt result l new
        → Comes (word_asks asks word) (executed_what_turn command word)
    unfolding value_of
    operator_acts operator content =
        comes_over IsShown (λ s held. held.shown) _ _ _ _ (λ s held. rw content refl)
        (λ s held. rw content refl)

    pub array_entered : (part : Part) → content_in word.0 ≡ Array part
        → TurnsWith (command ∷ []) [] nothing_more (entered_turn command part) attempt result l new
        → Comes (word_asks asks word) (executed_what_turn command word)
    unfolding value_of
    array_entered part content =
        comes_by _ _ _ _ (λ s held. rw content refl) (λ s held. rw content refl)

    pub text_scanned : (part : Part) → content_in word.0 ≡ Text part
        → TurnsWith (command ∷ []) (string_frame part ∷ []) nothing_more
        (scanned_turn command part) attempt result l new
        → Comes (word_asks asks word) (executed_what_turn command word)
    unfolding value_of IsWithin
    text_scanned part content =
        comes_over (IsShownWith (command ∷ []) (string_frame part ∷ [])) (λ s held. record {
          shown = held.shown;
          words_within = held.words_within.1;
          frames_within = (
            subst (IsWithinContent (birth_at l.heap) l.names s) content
                held.words_within.0,
            tt,
          );
        })
        _ _ _ _ (λ s held. rw content refl) (λ s held. rw content refl)

    -- ---- literal or executable

    pub treated_literal : executable_in word.0 ≡ false
        → Comes nothing_more (pushed_turn command word)
        → Comes (treated_asks asks word) (treated_turn command word)
    unfolding value_of
    treated_literal literal =
        comes_as _ _ _ _ (λ s held. rw literal refl) (λ s held. rw literal refl)

    pub treated_executable : executable_in word.0 ≡ true
        → Comes (word_asks asks word) (executed_what_turn command word)
        → Comes (treated_asks asks word) (treated_turn command word)
    unfolding value_of
    treated_executable may =
        comes_as _ _ _ _ (λ s held. rw may refl) (λ s held. rw may refl)

    -- ---- names that are looked up

    module _ (named : is_executable_name (meaning l word) ≡ true) where
      abbrev Finds : LookedUp → Type 0
      Finds found = (s : Store) → Held s
          → looked_up (meaning l word) (scene_of l s).dictionaries s ≡ found

      pub found_treated : (value : Word)
          → ((s : Store) → IsShown l s → IsWithin (birth_at l.heap) l.names s value)
          → Finds (known (meaning l value))
          → TurnsWith (value ∷ command ∷ []) [] (treated_asks asks value)
          (treated_turn command value) attempt result l new
          → Comes (executed_asks asks word) (executed_turn command word)
      unfolding executed
      found_treated value within found =
          comes_over (IsShownWith (value ∷ command ∷ []) []) (λ s held. record {
            shown = held.shown;
            words_within = (within s held.shown, held.words_within.1);
            frames_within = tt;
          })
          _ _ _ _ (λ s held. rw (named, found s held) refl)
          (λ s held. rw (named, found s held) refl)

      pub unknown_raised : Finds unknown
          → TurnsWith (command ∷ []) [] nothing_more (error_turn Undefined command) attempt result l
          new
          → Comes (executed_asks asks word) (executed_turn command word)
      unfolding executed
      unknown_raised found =
          comes_by _ _ _ _ (λ s held. rw (named, found s held) refl)
          (λ s held. rw (named, found s held) refl)

      pub unreadable_raised : Finds unreadable
          → TurnsWith (command ∷ []) [] nothing_more (error_turn InvalidAccess command) attempt result
          l new
          → Comes (executed_asks asks word) (executed_turn command word)
      unfolding executed
      unreadable_raised found =
          comes_by _ _ _ _ (λ s held. rw (named, found s held) refl)
          (λ s held. rw (named, found s held) refl)

    -- ---- all else

    pub executed_treated : is_executable_name (meaning l word) ≡ false
        → Comes (treated_asks asks word) (treated_turn command word)
        → Comes (executed_asks asks word) (executed_turn command word)
    unfolding executed
    executed_treated other =
        comes_as _ _ _ _ (λ s held. rw other refl) (λ s held. rw other refl)

    pub done_executed : is_procedure (meaning l word) ≡ false
        → Comes (executed_asks asks word) (executed_turn command word)
        → Comes (executed_asks asks word) (done_turn command word)
    unfolding done
    done_executed other = comes_as _ _ _ _ (λ s held. rw other refl) (λ s held. refl)

    pub procedure_pushed : is_procedure (meaning l word) ≡ true
        → Comes nothing_more (pushed_turn command word)
        → Comes (executed_asks asks word) (done_turn command word)
    unfolding done
    procedure_pushed made =
        comes_as _ _ _ _ (λ s held. rw made refl)
        (λ s held. procedure_asked asks (meaning l word) (around_of l) (scene_of l s) made)

  -- ---- a null

  pub null_goes : IsGood l
      → ((s : Store) → what_of (birth_at l.heap) l.names (content_in word.0) ≡ what_of (birth_at l.heap) l.names Null)
      → TurnsWith (word ∷ command ∷ []) [] (word_asks asks word) (executed_what_turn command word)
      attempt (Ok Goes) l l
  unfolding value_of
  null_goes good null =
      comes_as (Ok Goes) l nothing_more (word_asks asks word) (executed_what_turn command word)
      (executed_what_turn command word) (λ s held. refl) (λ s held. rw (null s) refl)
      (goes_as command l attempt (IsShownWith (word ∷ command ∷ []) [])
      (executed_what_turn command word) (λ s held. held.shown) good (λ s held. rw (null s) refl))

-- ---- what a word is

module _ (word : Word) (births : ℕ → ℕ) (names : List (List ℕ)) where
  pub literal_unnamed : executable_in word.0 ≡ false
      → is_executable_name (value_of births names word) ≡ false
  unfolding is_executable_name value_of
  literal_unnamed literal = rw literal refl

  pub literal_unmade : executable_in word.0 ≡ false
      → is_procedure (value_of births names word) ≡ false
  unfolding is_procedure value_of
  literal_unmade literal = rw literal refl

  pub named : (number : ℕ) → executable_in word.0 ≡ true → content_in word.0 ≡ Name number
      → is_executable_name (value_of births names word) ≡ true
  unfolding is_executable_name value_of
  named number may content = rw (may, content) refl

  pub name_unmade : (number : ℕ) → content_in word.0 ≡ Name number
      → executable_in word.0 ≡ true → is_procedure (value_of births names word) ≡ false
  unfolding is_procedure value_of
  name_unmade number content may = rw (may, content) refl

  pub operator_unnamed : (operator : Named) → content_in word.0 ≡ Operator operator
      → executable_in word.0 ≡ true → is_executable_name (value_of births names word) ≡ false
  unfolding is_executable_name value_of
  operator_unnamed operator content may = rw (may, content) refl

  pub operator_unmade : (operator : Named) → content_in word.0 ≡ Operator operator
      → executable_in word.0 ≡ true → is_procedure (value_of births names word) ≡ false
  unfolding is_procedure value_of
  operator_unmade operator content may = rw (may, content) refl

  pub made : (part : Part) → executable_in word.0 ≡ true → content_in word.0 ≡ Array part
      → is_procedure (value_of births names word) ≡ true
  unfolding is_procedure value_of
  made part may content = rw (may, content) refl

-- what was looked up
pub looked_as : (l : Lent) (word : Word) (result : Result (Option (Word × Word)) ErrorName) (s : Store)
    → look_up s (scene_of l s).dictionaries (meaning l word)
    ≡ found_of (birth_at l.heap) l.names result
    → looked_up (meaning l word) (scene_of l s).dictionaries s
    ≡ seen (found_of (birth_at l.heap) l.names result)
unfolding looked_up
looked_as l word result s found = ap seen found

-- ---- what is referred to

pub array_held : (h : Heap) (word : Word) (part : Part) → IsValue h word
    → content_in word.0 ≡ Array part → IsHeld h part
unfolding IsKnown
array_held h word part held content = record {
  stands = subst (IsKnownContent h) content held.known;
  end = (subst IsContent content held.word.value.content).within;
}

pub text_held : (h : Heap) (word : Word) (part : Part) → IsValue h word
    → content_in word.0 ≡ Text part → IsHeldText h part
unfolding IsKnown
text_held h word part held content = record {
  stands = subst (IsKnownContent h) content held.known;
  end = (subst IsContent content held.word.value.content).within;
}

-- ---- by contents

-- what does nothing, and what can't be executed
abbrev pub IsIdle : Content → Type 0
IsIdle content = (content ≡ Null) ⊎ ((x : ℕ) × (content ≡ Body x))

abbrev pub IsDatum : Content → Type 0
IsDatum content = ((x : ℤ) × (content ≡ Integer x)) ⊎ (((x : Bool) × (content ≡ Boolean x))
    ⊎ ((content ≡ Mark) ⊎ (((x : ℕ) × (content ≡ Dictionary x))
    ⊎ (((x : ℕ) × (content ≡ Lock x)) ⊎ ((x : ℕ) × (content ≡ Condition x))))))

module _ (births : ℕ → ℕ) (names : List (List ℕ)) where
  idle_is : (content : Content) → IsIdle content → what_of births names content ≡ null_value
  idle_is content (inl is) = rw is refl
  idle_is content (inr is) = rw is.1 refl

  no_name : (content : Content) → ((x : ℕ) → content ≡ Name x → ⊥)
      → name_in (what_of births names content) ≡ false
  no_name (Name number) other = absurd (other number refl)
  no_name Null other = refl
  no_name (Integer _) other = refl
  no_name (Boolean _) other = refl
  no_name Mark other = refl
  no_name (Operator _) other = refl
  no_name (Array _) other = refl
  no_name (Text _) other = refl
  no_name (Dictionary _) other = refl
  no_name (Lock _) other = refl
  no_name (Condition _) other = refl
  no_name (Body _) other = refl

  no_array : (content : Content) → ((x : Part) → content ≡ Array x → ⊥)
      → is_array (what_of births names content) ≡ false
  no_array (Array part) other = absurd (other part refl)
  no_array (Name _) other = refl
  no_array Null other = refl
  no_array (Integer _) other = refl
  no_array (Boolean _) other = refl
  no_array Mark other = refl
  no_array (Operator _) other = refl
  no_array (Text _) other = refl
  no_array (Dictionary _) other = refl
  no_array (Lock _) other = refl
  no_array (Condition _) other = refl
  no_array (Body _) other = refl

  module _ (word : Word) (content : Content) (is : content ≡ content_in word.0)
      (may : executable_in word.0 ≡ true) where
    pub unnamed : ((x : ℕ) → content ≡ Name x → ⊥)
        → is_executable_name (value_of births names word) ≡ false
    unfolding is_executable_name value_of
    unnamed other =
        (λ i. may i && name_in (what_of births names (sym is i))) ∙ no_name content other

    pub unmade : ((x : Part) → content ≡ Array x → ⊥)
        → is_procedure (value_of births names word) ≡ false
    unfolding is_procedure value_of
    unmade other =
        (λ i. may i && is_array (what_of births names (sym is i))) ∙ no_array content other

-- ---- a null, and what is pushed

module _ (asks : Asks) (command word : Word) (l : Lent) (attempt : Attempt)
    (content : Content) (is : content ≡ content_in word.0) where
  abbrev Executes : Result Turned Reason → Lent → Type 0
  Executes result new = TurnsWith (word ∷ command ∷ []) [] (word_asks asks word)
      (executed_what_turn command word) attempt result l new

  pub idle_goes : IsGood l → IsIdle content → Executes (Ok Goes) l
  idle_goes good idle = null_goes asks command word l attempt good λ s.
      ap (what_of (birth_at l.heap) l.names) (sym is) ∙ idle_is (birth_at l.heap) l.names content idle

  pub datum_pushed : (result : Result Turned Reason) (new : Lent) → IsDatum content
      → TurnsWith (word ∷ command ∷ []) [] nothing_more (pushed_turn command word) attempt result l
      new
      → Executes result new
  unfolding value_of
  datum_pushed result new datum turns = by_kind datum
    where
      plain : (kind : Content) → content ≡ kind
          → ((s : Store) → (executed_what (meaning l command) (meaning l word)
          (what_of (birth_at l.heap) l.names kind) (around_of l) (scene_of l s)
          ≡ pushed_turn command word l s)
          × (what_asks asks (what_of (birth_at l.heap) l.names kind) (around_of l) (scene_of l s)
          ≡ none_asked))
          → Executes result new
      plain kind same means = comes_as asks command word l attempt result new nothing_more
          (word_asks asks word) (pushed_turn command word) (executed_what_turn command word)
          (λ s held. (λ i. executed_what (meaning l command) (meaning l word)
          (what_of (birth_at l.heap) l.names ((sym is ∙ same) i)) (around_of l) (scene_of l s))
          ∙ (means s).0)
          (λ s held. (λ i. what_asks asks
          (what_of (birth_at l.heap) l.names ((sym is ∙ same) i)) (around_of l) (scene_of l s))
          ∙ (means s).1) turns

      by_kind : IsDatum content
          → Executes result new
      by_kind (inl e) = plain (Integer e.0) e.1 λ s. (refl, refl)
      by_kind (inr (inl e)) = plain (Boolean e.0) e.1 λ s. (refl, refl)
      by_kind (inr (inr (inl e))) = plain Mark e λ s. (refl, refl)
      by_kind (inr (inr (inr (inl e)))) = plain (Dictionary e.0) e.1 λ s. (refl, refl)
      by_kind (inr (inr (inr (inr (inl e))))) = plain (Lock e.0) e.1 λ s. (refl, refl)
      by_kind (inr (inr (inr (inr (inr e))))) = plain (Condition e.0) e.1 λ s. (refl, refl)

-- ---- what was found

module _ (l : Lent) (word : Word) (result : Result (Option (Word × Word)) ErrorName)
    (stores : Lent → Store → Type 0)
    (looks : (s : Store) → stores l s → look_up s (scene_of l s).dictionaries (meaning l word)
    ≡ found_of (birth_at l.heap) l.names result) where
  finds : (other : Result (Option (Word × Word)) ErrorName) → result ≡ other → (s : Store)
      → stores l s → looked_up (meaning l word) (scene_of l s).dictionaries s
      ≡ seen (found_of (birth_at l.heap) l.names other)
  finds other is s shown =
      looked_as l word other s (looks s shown ∙ ap (found_of (birth_at l.heap) l.names) is)

  pub finds_value : (pair : Word × Word) → result ≡ Ok (Some pair) → (s : Store) → stores l s
      → looked_up (meaning l word) (scene_of l s).dictionaries s ≡ known (meaning l pair.1)
  finds_value pair is s shown = finds (Ok (Some pair)) is s shown

  pub finds_none : result ≡ Ok None → (s : Store) → stores l s
      → looked_up (meaning l word) (scene_of l s).dictionaries s ≡ unknown
  finds_none is s shown = finds (Ok None) is s shown

  pub finds_closed : (error : ErrorName) → result ≡ Err error → (s : Store) → stores l s
      → looked_up (meaning l word) (scene_of l s).dictionaries s ≡ unreadable
  finds_closed error is s shown = finds (Err error) is s shown
