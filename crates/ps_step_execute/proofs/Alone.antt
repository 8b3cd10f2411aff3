-- What is done by operands alone, as an element.
use Rattle.std.proofs.Common.{◌≡◌, ◌≢◌, ℕ, Bool, true, false, List, [], ◌∷◌, Option, Some, Ok, refl, sym, subst, ◌∙◌}
use Rattle.std.specs.Prelude.{Result, IfOk, IfSome}
use Rattle.std.specs.List.{AllPairs}
use Rattle.ps_language.specs.declared.errors.ErrorName.{ErrorName}
use Rattle.ps_language.specs.declared.operators.Operator.{Operator as Named}
use Rattle.ps_language.specs.Dictionaries.{look_up}
use Rattle.ps_language.specs.Value.{Value, Store}
use Rattle.ps_language.specs.StepValues.{Turn, known, looked_up, is_executable_name, is_procedure, executed, done}
use Rattle.ps_word.specs.declared.values.Content.TheVariants.{Operator}
use Rattle.ps_word.specs.declared.words.Word.{Word}
use Rattle.ps_word.specs.Format.{content_in, executable_in}
use Rattle.ps_mem.specs.Heap.{Heap, birth_at}
use Rattle.ps_mem.specs.Meaning.{value_of}
use Rattle.ps_mem.specs.Shows.{AreValues, AreWithin, IsValue, IsWithin, Shows}
use Rattle.ps_ops_operands.specs.Changes.{values_in}
use Rattle.ps_word.specs.declared.values.Part.{Part}
use Rattle.ps_ops_control.specs.declared.ahead.Ahead.{Ahead}
use Rattle.ps_ops_control.specs.declared.ahead.Ahead.TheVariants as ahead
use Rattle.ps_ops_control.specs.Ahead.{done_ahead}
use Rattle.ps_ops_state.specs.declared.lent.Attempt.{Attempt}
use Rattle.ps_ops_state.specs.Acts.{Asked}
use Rattle.ps_ops_state.specs.Lent.{Lent, scene_of, IsGood}
use Rattle.ps_step_outcome.specs.declared.turned.Turned.TheVariants.{Goes}
use Rattle.ps_step_outcome.specs.Turns.{IsShownWith, TurnsWith, nothing_more}
use Rattle.ps_step_outcome.proofs.Composing.{turns_over, turns_shown}
use Rattle.ps_step_lookup.specs.Lookups.{IsValueOf}
use Rattle.ps_step_lookup.proofs.Knowing.{known_as}
use Rattle.ps_step_outcome.specs.declared.turned.Turned.{Turned}
use Rattle.ps_ops_operands.specs.declared.failure.NotMade.{NotMade as Reason}
use Rattle.ps_step_execute.specs.declared.quick.Fast.{Fast}
use Rattle.ps_step_execute.specs.declared.quick.Fast.TheVariants.{Enters, Treats, Slow}
use Rattle.ps_step_execute.specs.Quick.{IsTreated, TreatsAs, ComesTo, came_or}
use Rattle.ps_step_execute.specs.Values.{meaning, EntersIn, EntersAlone, GoesAlone, among, over_heap, pushed_turn, operated_turn}
use Rattle.ps_step_execute.specs.Values.{treated_turn, done_turn, Asks, operated_asks, treated_asks, executed_asks}
use Rattle.ps_step_execute.proofs.Executing.{operator_acts, treated_literal, treated_executable, procedure_pushed}

-- the same turn, said otherwise
pub enters_as : (setting : Lent → Lent) (some words : List Word) (asked other : Lent → Store → Asked)
    (done turn : Lent → Store → Turn)
    → ((heap : Heap) → AreValues heap words → AreValues heap some)
    → ((l new : Lent) (attempt : Attempt) → TurnsWith some [] asked done attempt (Ok Goes) l new
    → TurnsWith words [] other turn attempt (Ok Goes) l new)
    → (came : Ahead) (old new : List Word) → EntersIn setting some asked done came old new
    → EntersIn setting words other turn came old new
enters_as setting some words asked other done turn fewer same (ahead.Enters body) old new alone = (
  tt,
  λ l attempt good values room.
      same _ _ attempt (alone.1 l attempt good (fewer (setting l).heap values) room),
)
enters_as setting some words asked other done turn fewer same ahead.Goes old new alone = (
  tt,
  λ l attempt good values room.
      same _ _ attempt (alone.1 l attempt good (fewer (setting l).heap values) room),
)
enters_as setting some words asked other done turn fewer same ahead.Left old new alone =
    (alone.0, tt)

-- what goes in every setting goes in each
pub alone_in : (setting : Lent → Lent) (words : List Word) (asked : Lent → Store → Asked)
    (turn : Lent → Store → Turn) (came : Ahead) (old new : List Word)
    → EntersAlone words asked turn came old new → EntersIn setting words asked turn came old new
alone_in setting words asked turn (ahead.Enters body) old new alone =
    (tt, λ l attempt good values room. alone.1 (setting l) attempt good values room)
alone_in setting words asked turn ahead.Goes old new alone =
    (tt, λ l attempt good values room. alone.1 (setting l) attempt good values room)
alone_in setting words asked turn ahead.Left old new alone = (alone.0, tt)

-- what goes by operands alone enters none
pub goes_enters : (words : List Word) (asked : Lent → Store → Asked) (turn : Lent → Store → Turn)
    (goes : Bool) (came : Ahead) (old new : List Word) → came ≡ done_ahead goes
    → GoesAlone words asked turn goes old new → EntersAlone words asked turn came old new
goes_enters words asked turn goes came old new is alone =
    subst (λ (a : Ahead). EntersAlone words asked turn a old new) (sym is) alone

-- it tells no procedure
pub none_entered : (goes : Bool) (came : Ahead) → came ≡ done_ahead goes
    → (body : Part) → came ≡ ahead.Enters body → ⊥
none_entered true came is body enters = absurd (cc (is, enters))
none_entered false came is body enters = absurd (cc (is, enters))

module _ (asks : Asks) (command word : Word) where
  pub treated_by_operator : (l new : Lent) (attempt : Attempt) (operator : Named)
      → executable_in word.0 ≡ true → content_in word.0 ≡ Operator operator
      → TurnsWith [] [] (operated_asks asks operator) (operated_turn operator) attempt (Ok Goes) l new
      → TurnsWith (word ∷ command ∷ []) [] (treated_asks asks word) (treated_turn command word)
      attempt (Ok Goes) l new
  treated_by_operator l new attempt operator may content turns =
      treated_executable asks command word l attempt (Ok Goes) new may
      (operator_acts asks command word l attempt (Ok Goes) new operator content
      (turns_shown [] [] _ _ attempt (Ok Goes) l new (λ s shown. tt) (λ s shown. tt) turns))

module _ (asks : Asks) (command word : Word) (heap : Heap) (came : Ahead) (old new : List Word)
  where
    abbrev Treated : Type 0
    Treated = EntersIn (over_heap heap) (word ∷ command ∷ []) (treated_asks asks word)
        (treated_turn command word) came old new

    pub literal_treated : executable_in word.0 ≡ false → (goes : Bool) → came ≡ done_ahead goes
        → GoesAlone (word ∷ command ∷ []) nothing_more (pushed_turn command word) goes old new
        → Treated
    literal_treated literal goes is pushed =
        enters_as (over_heap heap) _ _ _ _ _ _ (λ heap values. values)
        (λ l new attempt turns. treated_literal asks command word l attempt (Ok Goes) new literal turns)
        came old new (alone_in (over_heap heap) (word ∷ command ∷ []) nothing_more
        (pushed_turn command word) came old new
        (goes_enters (word ∷ command ∷ []) nothing_more (pushed_turn command word) goes came old new is
        pushed))

    pub operator_treated : (operator : Named) → executable_in word.0 ≡ true
        → content_in word.0 ≡ Operator operator
        → EntersIn (over_heap heap) [] (operated_asks asks operator) (operated_turn operator) came old
        new → Treated
    operator_treated operator may content =
        enters_as (over_heap heap) _ _ _ _ _ _ (λ heap values. tt)
        (λ l new attempt turns.
        treated_by_operator asks command word l new attempt operator may content turns) came old new

-- ---- as which value an element is treated

module _ (asks : Asks) (word : Word) (l : Lent) (s : Store) (value : Word)
    (within : IsWithin (birth_at l.heap) l.names s value)
    (unmade : is_procedure (meaning l word) ≡ false) where
  -- as it is
  own_treated : word ≡ value → is_executable_name (meaning l word) ≡ false
      → IsTreated asks word value l s
  unfolding done executed
  own_treated same unnamed = record {
    within = within;
    turn = rw (unmade, unnamed, same) refl;
    asked = rw (unnamed, same) refl;
  }

  -- a name as what it stands for
  name_treated : is_executable_name (meaning l word) ≡ true
      → looked_up (meaning l word) (scene_of l s).dictionaries s ≡ known (meaning l value)
      → IsTreated asks word value l s
  unfolding done executed
  name_treated named found = record {
    within = within;
    turn = rw (unmade, named, found) refl;
    asked = rw (named, found) refl;
  }

module _ (asks : Asks) (heap : Heap) (dictionaries : List Word) (word : Word) where
  module _ (unmade : (births : ℕ → ℕ) (names : List (List ℕ))
      → is_procedure (value_of births names word) ≡ false) where
    pub own_treats : ((births : ℕ → ℕ) (names : List (List ℕ))
        → is_executable_name (value_of births names word) ≡ false)
        → TreatsAs asks heap dictionaries word word
    own_treats unnamed = λ l s good held.
        own_treated asks word (among heap dictionaries l) s word held.words_within.0 (unmade _ _)
        refl (unnamed _ _)

    pub name_treats : ((births : ℕ → ℕ) (names : List (List ℕ))
        → is_executable_name (value_of births names word) ≡ true)
        → (value : Word) → IsValueOf heap dictionaries word (Some value)
        → ((names : List (List ℕ)) (s : Store) → Shows heap names s
        → AreWithin heap names s dictionaries → IsWithin (birth_at heap) names s value)
        → TreatsAs asks heap dictionaries word value
    name_treats named value is seen = λ l s good held.
        let at : Lent = among heap dictionaries l in
        name_treated asks word at s value
        (seen at.names s held.shown.shows held.shown.dictionaries)
        (unmade _ _) (named _ _)
        (known_as _ _ (is at.names s held.shown.shows good.names.different held.words_within.0))

  module _ (value : Word) (treats : TreatsAs asks heap dictionaries word value) where
    -- what treating the value comes to is what doing the element does
    pub treated_done : (l : Lent) (attempt : Attempt) (result : Result Turned Reason) (new : Lent)
        → IsGood (among heap dictionaries l)
        → TurnsWith (value ∷ word ∷ []) [] (treated_asks asks value) (treated_turn word value) attempt
        result (among heap dictionaries l) new
        → TurnsWith (word ∷ word ∷ []) [] (executed_asks asks word) (done_turn word word) attempt
        result (among heap dictionaries l) new
    treated_done l attempt result new good turns =
        turns_over (IsShownWith (value ∷ word ∷ []) []) (IsShownWith (word ∷ word ∷ []) [])
        (treated_asks asks value) (executed_asks asks word) (treated_turn word value)
        (done_turn word word) attempt result (among heap dictionaries l) new
        (λ s held. record {
          shown = held.shown;
          words_within = ((treats l s good held).within, held.words_within.1);
          frames_within = tt;
        })
        (λ s held. sym (treats l s good held).turn) (λ s held. sym (treats l s good held).asked)
        turns

  module _ (old new : List Word) where
    abbrev Comes : Fast Word → Type 0
    Comes came = ComesTo asks heap dictionaries word came old new

    abbrev Done_by : Ahead → Type 0
    Done_by came = EntersIn (among heap dictionaries) (word ∷ word ∷ []) (executed_asks asks word)
        (done_turn word word) came old new

    comes_by : (came : Ahead) (otherwise : Fast Word) → Done_by came → (new ≡ old → Comes otherwise)
        → Comes (came_or came otherwise)
    comes_by ahead.Goes otherwise done kept = done
    comes_by (ahead.Enters body) otherwise done kept = done
    comes_by ahead.Left otherwise done kept = kept done.0

    pub treated_comes : (goes : Ahead) (value : Word) (came : Fast Word)
        → came ≡ came_or goes (Treats value) → IsValue heap value
        → TreatsAs asks heap dictionaries word value
        → EntersIn (over_heap heap) (value ∷ word ∷ []) (treated_asks asks value)
        (treated_turn word value) goes old new
        → Comes came
    treated_comes goes value came is held treats alone =
        subst Comes (sym is)
        (comes_by goes (Treats value) (by goes alone) (λ same. (same, (held, treats))))
      where
        by : (goes : Ahead)
            → EntersIn (over_heap heap) (value ∷ word ∷ []) (treated_asks asks value)
            (treated_turn word value) goes old new
            → Done_by goes
        by ahead.Goes alone = (
          tt,
          λ l attempt good values room.
              treated_done value treats (record l { operands = old }) attempt (Ok Goes) _ good
              (alone.1 (record l { dictionaries = dictionaries }) attempt good (held, values.1)
              room),
        )
        by (ahead.Enters body) alone = (
          tt,
          λ l attempt good values room.
              treated_done value treats (record l { operands = old }) attempt (Ok Goes) _ good
              (alone.1 (record l { dictionaries = dictionaries }) attempt good (held, values.1)
              room),
        )
        by ahead.Left alone = (alone.0, tt)

    pub procedure_comes : (done : Bool) (goes : Ahead) (came : Fast Word) → goes ≡ done_ahead done
        → came ≡ came_or goes Slow
        → ((births : ℕ → ℕ) (names : List (List ℕ))
        → is_procedure (value_of births names word) ≡ true)
        → GoesAlone (word ∷ word ∷ []) nothing_more (pushed_turn word word) done old new
        → Comes came
    procedure_comes done goes came same is made pushed =
        subst Comes (sym is) (comes_by goes Slow
        (subst Done_by (sym same) (by done pushed)) (λ same. same))
      where
        by : (done : Bool)
            → GoesAlone (word ∷ word ∷ []) nothing_more (pushed_turn word word) done old new
            → Done_by (done_ahead done)
        by true pushed = (
          tt,
          λ l attempt good values room.
              procedure_pushed asks word word _ attempt (Ok Goes) _ (made _ _)
              (pushed.1 (among heap dictionaries l) attempt good values room),
        )
        by false pushed = (pushed.0, tt)

-- of what is told of an element: a procedure is entered only where it was ahead
pub entered_by : (goes : Ahead) (otherwise came : Fast Word) → came ≡ came_or goes otherwise
    → ((body : Part) → otherwise ≡ Enters body → ⊥) → (may : Type 0)
    → ((body : Part) → goes ≡ ahead.Enters body → may) → (body : Part) → came ≡ Enters body → may
entered_by goes otherwise came is other may entered body enters = by goes is entered
  where
    by : (goes : Ahead) → came ≡ came_or goes otherwise
        → ((body : Part) → goes ≡ ahead.Enters body → may) → may
    by ahead.Goes is entered = absurd (cc (is, enters))
    by (ahead.Enters body) is entered = entered body refl
    by ahead.Left is entered = absurd (other body (sym is ∙ enters))
