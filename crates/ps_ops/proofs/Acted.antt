-- What an operator did to operands alone.
use Rattle.std.proofs.Common.{◌≡◌, ◌⊎◌, ℕ, Bool, true, false, true≢false, List, [], ◌∷◌, length, Some, None, Result, Ok}
use Rattle.std.proofs.Common.{Err, refl, sym, ap, subst, inl, inr}
use Rattle.std.specs.Prelude.{ℤ, Option, is_some}
use Rattle.std.specs.Result.{is_ok}
use Rattle.ps_language.specs.declared.errors.ErrorName.{ErrorName}
use Rattle.ps_language.specs.declared.operators.Operator.{Operator}
use Rattle.ps_language.specs.declared.operators.Operator.TheVariants.{Copy, Mark, BeginArray, BeginDict}
use Rattle.ps_language.specs.Outcome.{Outcome, leaves, fails}
use Rattle.ps_language.specs.Control.{scene_effect}
use Rattle.ps_language.specs.Rows.{Row, changing_row, operand_row, reading_row, scene_row}
use Rattle.ps_language.specs.RowsSequences.{copy_row}
use Rattle.ps_language.specs.RowsStack.{mark_row}
use Rattle.ps_language.specs.Value.{Value, Store}
use Rattle.ps_language.specs.Effect.{Scene}
use Rattle.ps_stacks.specs.Tops.{first_of}
use Rattle.ps_word.specs.declared.values.Content.{Content}
use Rattle.ps_word.specs.declared.values.Content.TheVariants.{Null, Integer, Boolean, Mark, Name}
use Rattle.ps_word.specs.declared.values.Content.TheVariants.{Operator as OperatorContent, Array, Text, Dictionary}
use Rattle.ps_word.specs.declared.values.Content.TheVariants.{Lock, Condition, Body}
use Rattle.ps_word.specs.declared.words.Word.{Word}
use Rattle.ps_word.specs.Format.{content_in}
use Rattle.ps_word.specs.Readers.{as_dictionary, as_integer}
use Rattle.ps_mem.specs.Heap.{Heap}
use Rattle.ps_ops_operands.specs.Does.{Does, DoesAs, copy_number_row, values_of}
use Rattle.ps_ops_operands.specs.Kept.{AreFrom}
use Rattle.ps_word.specs.declared.values.Part.{Part}
use Rattle.ps_ops_control.specs.declared.ahead.Ahead.{Ahead}
use Rattle.ps_ops_control.specs.declared.ahead.Ahead.TheVariants.{Enters, Goes as Unentered, Left}
use Rattle.ps_ops_control.specs.declared.frames.Frame.{Frame}
use Rattle.ps_ops_control.specs.declared.frames.Frame.TheVariants.{Procedure}
use Rattle.ps_ops_control.specs.Ahead.{HasRoom, OnLeft, ControlsAhead, done_ahead}
use Rattle.ps_ops_control.specs.Controls.{stacks, IsReadyFor, Controls}
use Rattle.ps_ops_state.specs.declared.lent.Attempt.{Attempt}
use Rattle.ps_ops_state.specs.Acts.{Asked, Acts, nothing_asked}
use Rattle.ps_ops_operands.specs.Changes.{Observes}
use Rattle.ps_ops_operands.proofs.Ready.{ready_from}
use Rattle.ps_ops_state.specs.Lent.{Lent, IsGood, IsShown}
use Rattle.ps_ops_state.proofs.Alike.{asked_acts, effect_acts}
use Rattle.ps_ops_state.proofs.Lifts.{does_acts, observes_acts, controls_acts, held, ready}
use Rattle.ps_step_outcome.specs.declared.turned.Turned.TheVariants.{Goes}
use Rattle.ps_step_outcome.specs.Turns.{IsShownWith, TurnsWith}
use Rattle.ps_step_outcome.proofs.Composing.{turns_over}
use Rattle.ps_step_execute.specs.Values.{EntersIn, operated_asks, operated_turn, over_heap}
use Rattle.ps_ops_sequences.specs.Asks.{copy_asks as sequence_copy_asks}
use Rattle.ps_ops_sequences.proofs.CopyRows.{copy_counts, copy_counts_asks}
use Rattle.ps_ops.specs.Alone.{ActsAhead, ActsAlone, ActsIn}
use Rattle.ps_ops.specs.Joins.{copy_asks}
use Rattle.ps_ops.specs.Operators.{asked_of, row_now}
use Rattle.ps_ops.specs.Turns.{operator_asks}
use Rattle.ps_ops.proofs.Copied.{copy_other_asks}
use Rattle.ps_ops.proofs.Stepping.{goes_on}

-- ---- by what it came to

-- what acts in every setting acts in each
acts_in : (setting : Lent → Lent) (operator : Operator) (came : Ahead) (old new : List Word)
    → ActsAhead operator came old new → ActsIn setting operator came old new
acts_in setting operator (Enters body) old new did =
    (tt, λ l attempt good room. did.1 (setting l) attempt good room)
acts_in setting operator Unentered old new did =
    (tt, λ l attempt good room. did.1 (setting l) attempt good room)
acts_in setting operator Left old new did = (did.0, tt)

-- what is done by operands alone
pub acts_ahead : (heap : Heap) (operator which : Operator) (acts : Bool) (came : Ahead)
    (old new : List Word) → operator ≡ which → came ≡ done_ahead acts
    → ActsAlone which acts old new → ActsIn (over_heap heap) operator came old new
acts_ahead heap operator which acts came old new same goes did =
    acts_in (over_heap heap) operator came old new
    (subst (λ (o : Operator). ActsAhead o came old new) (sym same)
    (subst (λ (a : Ahead). ActsAhead which a old new) (sym goes) did))

-- it enters none
pub none_entered : (P : Type 0) (acts : Bool) (came : Ahead) → came ≡ done_ahead acts
    → (body : Part) → came ≡ Enters body → P
none_entered P true came goes body enters = absurd (cc (goes, enters))
none_entered P false came goes body enters = absurd (cc (goes, enters))

module _ (old new : List Word) (row : List Value → Outcome (List Value)) where
  unchanged : (error : ErrorName) (outcome : Outcome (List Value)) (births : ℕ → ℕ)
      (names : List (List ℕ)) → DoesAs (Err error) outcome births names old new → new ≡ old
  unchanged error (leaves left) births names did = absurd did
  unchanged error (fails raised) births names did = did.1

  by_result : (operator : Operator) → row_now operator ≡ operand_row row
      → asked_of operator ≡ nothing_asked → (result : Result Unit ErrorName)
      → Does row result old new → AreFrom old new → ActsAlone operator (is_ok result) old new
  by_result operator is none (Ok _) did from = (
    tt,
    λ l attempt good room.
        subst (λ (r : Row). Acts (asked_of operator) r attempt (Ok tt) (record l { operands = old })
        (record l { operands = new })) (sym is)
        (subst (λ (asks : Scene → Asked). Acts asks (operand_row row) attempt (Ok tt)
        (record l { operands = old }) (record l { operands = new })) (sym none)
        (does_acts (record l { operands = old }) good attempt row (Ok tt) new did from)),
  )
  by_result operator is none (Err error) did from =
      (unchanged error (row (values_of (λ x. 0) [] old)) (λ x. 0) [] (did.agrees (λ x. 0) []), tt)

  pub alone : (heap : Heap) {operator which : Operator} {acts : Bool} {came : Ahead}
      {result : Result Unit ErrorName}
      → operator ≡ which → row_now which ≡ operand_row row → asked_of which ≡ nothing_asked
      → acts ≡ is_ok result → came ≡ done_ahead acts → Does row result old new → AreFrom old new
      → ActsIn (over_heap heap) operator came old new
  alone heap {operator} {which} {acts} {came} {result} same is none ok goes did from =
      acts_ahead heap operator which acts came old new same goes
      (subst (λ (b : Bool). ActsAlone which b old new) (sym ok)
      (by_result which is none result did from))

-- a mark is pushed by three operators
pub marked : {operator : Operator} {acts : Bool} {came : Ahead} {result : Result Unit ErrorName}
    (heap : Heap) (old new : List Word)
    → (operator ≡ Mark) ⊎ ((operator ≡ BeginArray) ⊎ (operator ≡ BeginDict))
    → acts ≡ is_ok result → came ≡ done_ahead acts → Does mark_row result old new
    → AreFrom old new → ActsIn (over_heap heap) operator came old new
marked heap old new (inl is) = alone old new mark_row heap is refl refl
marked heap old new (inr (inl is)) = alone old new mark_row heap is refl refl
marked heap old new (inr (inr is)) = alone old new mark_row heap is refl refl

-- of copy where a number is the topmost operand
module _ (old new : List Word) where
  counted : (top : Word) → Some top ≡ first_of old
      → is_some (as_integer (content_in top.0)) ≡ true
      → None ≡ as_dictionary (content_in top.0) → (result : Result Unit ErrorName)
      → Does copy_number_row result old new → AreFrom old new
      → ActsAlone Copy (is_ok result) old new
  counted top first number other (Ok _) did from = (
    tt,
    λ l attempt good room.
        let before : Lent = record l { operands = old } in
        let after : Lent = record l { operands = new } in
        asked_acts attempt (Ok tt) before after copy_asks sequence_copy_asks (changing_row copy_row)
        (copy_other_asks before top first other)
        (asked_acts attempt (Ok tt) before after sequence_copy_asks nothing_asked
        (changing_row copy_row) (copy_counts_asks before top first number)
        (effect_acts attempt (Ok tt) before after nothing_asked (changing_row copy_row)
        (operand_row copy_number_row) (copy_counts before top first number)
        (does_acts before good attempt copy_number_row (Ok tt) new did from))),
  )
  counted top first number other (Err error) did from = (
    unchanged old new copy_number_row error (copy_number_row (values_of (λ x. 0) [] old))
        (λ x. 0) [] (did.agrees (λ x. 0) []),
    tt,
  )

  -- a number is no dictionary
  undirected : (content : Content) (number : ℤ) → Some number ≡ as_integer content
      → None ≡ as_dictionary content
  undirected (Integer _) number is = refl
  undirected Null number is = refl
  undirected (Boolean _) number is = refl
  undirected Mark number is = refl
  undirected (Name _) number is = refl
  undirected (OperatorContent _) number is = refl
  undirected (Array _) number is = refl
  undirected (Text _) number is = refl
  undirected (Dictionary _) number is = cc
  undirected (Lock _) number is = refl
  undirected (Condition _) number is = refl
  undirected (Body _) number is = refl

  by_number : (top : Word) → Some top ≡ first_of old → (number : Option ℤ)
      → number ≡ as_integer (content_in top.0) → is_some number ≡ true
      → (result : Result Unit ErrorName) → Does copy_number_row result old new → AreFrom old new
      → ActsAlone Copy (is_ok result) old new
  by_number top first None is there result did from = absurd (true≢false (sym there))
  by_number top first (Some number) is there result did from =
      counted top first (ap is_some (sym is)) (undirected (content_in top.0) number is) result did
      from

  pub counted_alone : (top : Word) → Some top ≡ first_of old → (number : Option ℤ)
      → number ≡ as_integer (content_in top.0) → is_some number ≡ true
      → (acts : Bool) (result : Result Unit ErrorName) → acts ≡ is_ok result
      → Does copy_number_row result old new → AreFrom old new → ActsAlone Copy acts old new
  counted_alone top first number is there acts result ok did from =
      subst (λ (b : Bool). ActsAlone Copy b old new) (sym ok)
      (by_number top first number is there result did from)

  pub copied_alone : (heap : Heap) (operator : Operator) (acts : Bool) (came : Ahead) → operator ≡ Copy
      → came ≡ done_ahead acts → ActsAlone Copy acts old new
      → ActsIn (over_heap heap) operator came old new
  copied_alone heap operator acts came same goes did =
      acts_ahead heap operator Copy acts came old new same goes did

-- ---- operators that read no memory here

-- those that did their row whatever the memory
pub alone_over : (heap : Heap) (old new : List Word) (row : Store → List Value → Outcome (List Value))
    {operator which : Operator} {acts : Bool} {came : Ahead} → operator ≡ which
    → row_now which ≡ reading_row row → asked_of which ≡ nothing_asked → came ≡ done_ahead acts
    → (acts ≡ true → (h : Heap) → Observes row (Ok tt) h old new) → (acts ≡ false → new ≡ old)
    → AreFrom old new → ActsIn (over_heap heap) operator came old new
alone_over heap old new row {operator} {which} {acts} {came} same is none goes done kept from =
    acts_ahead heap operator which acts came old new same goes (by acts done kept)
  where
    by : (acts : Bool) → (acts ≡ true → (h : Heap) → Observes row (Ok tt) h old new)
        → (acts ≡ false → new ≡ old) → ActsAlone which acts old new
    by true done kept = (
      tt,
      λ l attempt good room.
          let before : Lent = record l { operands = old } in
          subst (λ (r : Row). Acts (asked_of which) r attempt (Ok tt) before
          (record l { operands = new })) (sym is)
          (subst (λ (asks : Scene → Asked). Acts asks (reading_row row) attempt (Ok tt) before
          (record l { operands = new })) (sym none)
          (observes_acts before good attempt row (Ok tt) l.heap l.grants new refl refl
          (done refl l.heap) (ready_from l.heap old new (held good) from))),
    )
    by false done kept = (kept refl, tt)

-- ---- operators that read the memory

pub read : (heap : Heap) (old new : List Word) {operator which : Operator} {acts : Bool}
    {came : Ahead} → operator ≡ which → came ≡ done_ahead acts
    → (acts ≡ true → (l : Lent) (attempt : Attempt)
    → IsGood (record (over_heap heap l) { operands = old })
    → Acts (asked_of which) (row_now which) attempt (Ok tt)
    (record (over_heap heap l) { operands = old }) (record (over_heap heap l) { operands = new }))
    → (acts ≡ false → new ≡ old) → ActsIn (over_heap heap) operator came old new
read heap old new {operator} {which} {acts} {came} same goes done kept =
    subst (λ (o : Operator). ActsIn (over_heap heap) o came old new) (sym same)
    (subst (λ (a : Ahead). ActsIn (over_heap heap) which a old new) (sym goes) (by acts done kept))
  where
    by : (acts : Bool) → (acts ≡ true → (l : Lent) (attempt : Attempt)
        → IsGood (record (over_heap heap l) { operands = old })
        → Acts (asked_of which) (row_now which) attempt (Ok tt)
        (record (over_heap heap l) { operands = old })
        (record (over_heap heap l) { operands = new }))
        → (acts ≡ false → new ≡ old)
        → ActsIn (over_heap heap) which (done_ahead acts) old new
    by true done kept = (tt, λ l attempt good room. done refl l attempt good)
    by false done kept = (kept refl, tt)

-- ---- operators that enter a procedure

-- those that did their row over every frames
pub ahead : {operator which : Operator} (heap : Heap) (row : List Value → Scene → Outcome Scene)
    (came : Ahead) (old new : List Word) → operator ≡ which
    → row_now which ≡ scene_row (scene_effect row) → asked_of which ≡ nothing_asked
    → OnLeft came (new ≡ old)
    → ((h : Heap) (size : ℕ) (frames : List Frame) → HasRoom 1 came frames
    → IsReadyFor h size (stacks old frames)
    → ControlsAhead row came h size (stacks old frames) (stacks new frames))
    → ActsIn (over_heap heap) operator came old new
ahead {operator} {which} heap row came old new same is none kept did =
    acts_in (over_heap heap) operator came old new
    (subst (λ (o : Operator). ActsAhead o came old new) (sym same) (by came kept did))
  where
    acted : (l : Lent) (attempt : Attempt) (frames : List Frame)
        → IsGood (record l { operands = old })
        → Controls row (Ok tt) l.heap (length l.program) (stacks old l.frames) (stacks new frames)
        → Acts (asked_of which) (row_now which) attempt (Ok tt) (record l { operands = old })
        (record l { operands = new; frames = frames })
    acted l attempt frames good controls =
        let before : Lent = record l { operands = old } in
        let after : Lent = record l { operands = new; frames = frames } in
        subst (λ (r : Row). Acts (asked_of which) r attempt (Ok tt) before after) (sym is)
        (subst (λ (asks : Scene → Asked). Acts asks (scene_row (scene_effect row)) attempt (Ok tt)
        before after) (sym none)
        (controls_acts before good new frames attempt row (Ok tt) controls tt))

    by : (came : Ahead) → OnLeft came (new ≡ old)
        → ((h : Heap) (size : ℕ) (frames : List Frame) → HasRoom 1 came frames
        → IsReadyFor h size (stacks old frames)
        → ControlsAhead row came h size (stacks old frames) (stacks new frames))
        → ActsAhead which came old new
    by (Enters body) kept did = (
      tt,
      λ l attempt good room.
          acted l attempt (Procedure body ∷ l.frames) good
          (did l.heap (length l.program) l.frames room (ready good)),
    )
    by Unentered kept did = (
      tt,
      λ l attempt good room.
          acted l attempt l.frames good
          (did l.heap (length l.program) l.frames room (ready good)),
    )
    by Left kept did = (kept, tt)

-- ---- as a step

-- with nothing in hand
pub stepped : (operator : Operator) (attempt : Attempt) (before after : Lent)
    → Acts (asked_of operator) (row_now operator) attempt (Ok tt) before after
    → TurnsWith [] [] (operated_asks operator_asks operator) (operated_turn operator) attempt
    (Ok Goes) before after
stepped operator attempt before after acts =
    turns_over IsShown (IsShownWith [] []) (operated_asks operator_asks operator)
    (operated_asks operator_asks operator) (operated_turn operator) (operated_turn operator) attempt
    (Ok Goes) before after (λ s held. held.shown) (λ s held. refl) (λ s held. refl)
    (goes_on operator attempt before after acts)

pub enters_in : (setting : Lent → Lent) (operator : Operator) (old new : List Word) (came : Ahead)
    → ActsIn setting operator came old new
    → EntersIn setting [] (operated_asks operator_asks operator) (operated_turn operator) came old
    new
enters_in setting operator old new (Enters body) acts = (
  tt,
  λ l attempt good none room.
      stepped operator attempt (record (setting l) { operands = old })
      (record (setting l) { operands = new; frames = Procedure body ∷ (setting l).frames })
      (acts.1 l attempt good room),
)
enters_in setting operator old new Unentered acts = (
  tt,
  λ l attempt good none room.
      stepped operator attempt (record (setting l) { operands = old })
      (record (setting l) { operands = new }) (acts.1 l attempt good room),
)
enters_in setting operator old new Left acts = (acts.0, tt)
