-- One element more is done by operands alone.
use Rattle.std.proofs.Common.{◌≡◌, ◌≢◌, ℕ, zero, suc, ◌+◌, ◌-◌, ◌<◌, ◌≤◌, arith, Bool, true, false, List, [], ◌∷◌, drop}
use Rattle.std.proofs.Common.{length, Option, Some, None, Ok, refl, sym, ap, subst, ◌∙◌}
use Rattle.std.specs.Prelude.{Result, IsNone, nat_lt, slice_get, if◌then◌else◌}
use Rattle.std.proofs.lemmas.Bool.{true≢false}
use Rattle.std.proofs.lemmas.Bool.Decides.{nat_tests}
use Rattle.ps_language.specs.Access.{elements}
use Rattle.ps_language.specs.Effect.{Around, Scene}
use Rattle.ps_language.specs.Value.{Store}
use Rattle.ps_language.specs.World.{Status}
use Rattle.ps_word.specs.declared.values.Part.{Part}
use Rattle.ps_word.specs.declared.words.Word.{Word}
use Rattle.ps_mem.specs.Heap.{Heap, birth_at}
use Rattle.ps_mem.specs.Meaning.{value_of}
use Rattle.ps_mem.specs.Shows.{IsValue, IsWithin, Shows}
use Rattle.ps_stacks.specs.Tops.{first_of}
use Rattle.ps_ops_operands.proofs.Operands.{first_split}
use Rattle.ps_ops_operands.specs.declared.failure.NotMade.{NotMade as Reason}
use Rattle.ps_ops_control.specs.declared.frames.Frame.{Frame}
use Rattle.ps_ops_control.specs.declared.frames.Frame.TheVariants.{Text, Procedure, Pending, Repeat, Loop, For, Forall}
use Rattle.ps_ops_control.specs.declared.frames.Frame.TheVariants.{Stopped, Bind, Monitor}
use Rattle.ps_ops_control.specs.declared.frames.Source.{Source}
use Rattle.ps_ops_control.specs.declared.ahead.Ahead.{Ahead}
use Rattle.ps_ops_control.specs.declared.ahead.Ahead.TheVariants as ahead
use Rattle.ps_ops_state.specs.declared.lent.Attempt.{Attempt}
use Rattle.ps_ops_state.specs.Acts.{Asked}
use Rattle.ps_ops_state.specs.Lent.{Lent, IsShown, IsGood}
use Rattle.ps_ops_state.specs.Attempts.{ordinary}
use Rattle.ps_step_outcome.specs.declared.turned.Turned.{Turned}
use Rattle.ps_step_outcome.specs.declared.turned.Turned.TheVariants.{Goes}
use Rattle.ps_step_outcome.specs.Turns.{Turns, TurnsWith, none_asked}
use Rattle.ps_step_outcome.proofs.Composing.{turns_as, restacked_good}
use Rattle.ps_step_execute.specs.Values.{meaning, EntersIn, among, done_turn, Asks, executed_asks}
use Rattle.ps_step_frames.specs.declared.elements.Element.{Element}
use Rattle.ps_step_frames.specs.Steps.{frames_after, rest_frames, running_turn, frame_asks, above, part_behind, procedure_in}
use Rattle.ps_step_frames.specs.Steps.{with_frames, IsElement}
use Rattle.ps_step_frames.proofs.Taking.{rest_good, element_made}
use Rattle.ps_step_interpreter.specs.Interprets.{asks_in, own_turn}
use Rattle.ps_step_interpreter.specs.Makes.{TurnsBehind, Runs}
use Rattle.ps_step_interpreter.specs.OwnSteps.{HasRun}
use Rattle.ps_step_interpreter.proofs.Running.{run_none, run_more, run_then}
use Rattle.ps_step.specs.Elements.{stacked, DoesTo, DoesInto}
use Rattle.ps_step.specs.Steps.{own_asks}

module _ (rest : Part) (below : List Frame) where
  abbrev Frames_by : Bool → Part → List Frame
  Frames_by some part = if some then Procedure part ∷ below else below

  pub some_left : (made : ℕ) → made < rest.length
      → frames_after made rest below ≡ Procedure (part_behind made rest) ∷ below
  some_left made some =
      let more : nat_lt made rest.length ≡ true = grind (arith, nat_tests, some) in
      ap (λ (b : Bool). Frames_by b (part_behind made rest)) more

  pub none_taken : 1 ≤ rest.length → frames_after 0 rest below ≡ Procedure rest ∷ below
  none_taken some =
      let offset_is : rest.offset + 0 ≡ rest.offset = omega arith in
      let length_is : rest.length - 0 ≡ rest.length = omega arith in
      some_left 0 some
      ∙ (λ i. Procedure (record rest { offset = offset_is i; length = length_is i }) ∷ below)

  -- so many more are taken of what is left
  pub then_taken : (made more all : ℕ) → made + more ≡ all
      → frames_after more (part_behind made rest) below ≡ frames_after all rest below
  then_taken made more all sum =
      let test_is : nat_lt more (rest.length - made) ≡ nat_lt all rest.length =
      grind (arith, nat_tests, sum) in
      let offset_is : (rest.offset + made) + more ≡ rest.offset + all = omega (arith, sum) in
      let length_is : (rest.length - made) - more ≡ rest.length - all = omega (arith, sum) in
      λ i. Frames_by (test_is i) (record rest { offset = offset_is i; length = length_is i })

-- what is read by the sum of the array's address and a place there is the element at its index in
-- the part
pub read_at : (heap : Heap) (rest : Part) (word : Word) (sum : ℕ)
    → rest.address + rest.offset ≤ sum
    → ((names : List (List ℕ)) (s : Store) → Shows heap names s
    → slice_get (elements s (birth_at heap rest.address)) (sum - rest.address)
    ≡ Some (value_of (birth_at heap) names word))
    → (names : List (List ℕ)) (s : Store) → Shows heap names s
    → slice_get (elements s (birth_at heap rest.address))
    (rest.offset + (sum - (rest.address + rest.offset)))
    ≡ Some (value_of (birth_at heap) names word)
read_at heap rest word sum from reads names s shows =
    let there : rest.offset + (sum - (rest.address + rest.offset)) ≡ sum - rest.address =
    omega (arith, from) in
    ap (slice_get (elements s (birth_at heap rest.address))) there ∙ reads names s shows

module _ (heap : Heap) (dictionaries : List Word) (rest : Part) (old : List Word) where
  pub does_none : DoesTo heap dictionaries rest 0 old old
  does_none l below good =
      run_none (stacked heap dictionaries old (frames_after 0 rest below) l) good

  module _ (asks : Asks) (made : ℕ) (now next : List Word) (word : Word)
      (some : made < rest.length) (value : IsValue heap word)
      (within : (names : List (List ℕ)) (s : Store) → Shows heap names s
      → IsWithin (birth_at heap) names s word)
      (reads : (names : List (List ℕ)) (s : Store) → Shows heap names s
      → slice_get (elements s (birth_at heap rest.address)) (rest.offset + made)
      ≡ Some (value_of (birth_at heap) names word)) where
    abbrev attempt : Attempt
    attempt = record { slot = 0; refused = false }

    -- what one more comes to
    abbrev Comes : Ahead → Type 0
    Comes came = EntersIn (among heap dictionaries) (word ∷ word ∷ []) (executed_asks asks word)
        (done_turn word word) came now next

    module _ (l : Lent) (below : List Frame) where
      abbrev left : Part
      left = part_behind made rest

      abbrev before : Lent
      before = stacked heap dictionaries old (frames_after 0 rest below) l

      abbrev mid : Lent
      mid = stacked heap dictionaries now (Procedure left ∷ below) l

      abbrev with_stacks : List Frame → Lent
      with_stacks frames = stacked heap dictionaries next frames l

      element_read : (s : Store) → IsShown mid s
          → slice_get (elements s (birth_at heap rest.address)) ((rest.offset + made) + 0)
          ≡ Some (meaning mid word)
      element_read s shown =
          let place_is : (rest.offset + made) + 0 ≡ rest.offset + made = omega arith in
          ap (slice_get (elements s (birth_at heap rest.address))) place_is
          ∙ reads l.names s shown.shows

      rest_mid : IsGood mid → IsGood (record mid { frames = rest_frames left below })
      rest_mid good =
          restacked_good mid now (rest_frames left below) (rest_good mid left below refl good) good

      one_turn : (frames : List Frame) → IsGood mid
          → TurnsWith (word ∷ word ∷ []) [] (executed_asks asks word) (done_turn word word) attempt
          (Ok Goes) (record mid { frames = rest_frames left below }) (with_stacks frames)
          → Turns (frame_asks asks) running_turn attempt (Ok Goes) mid (with_stacks frames)
      one_turn frames good turns =
          element_made mid left below refl word element_read good
          (λ s shown. within l.names s shown.shows) asks attempt Goes (with_stacks frames) turns

      made_one : (frames : List Frame) → HasRun made before mid
          → TurnsWith (word ∷ word ∷ []) [] (executed_asks asks word) (done_turn word word) attempt
          (Ok Goes) (record mid { frames = rest_frames left below }) (with_stacks frames)
          → HasRun (made + 1) before (with_stacks frames)
      made_one frames so_far turns =
          run_more (own_asks asks) 0 made before mid (with_stacks frames) so_far
          (λ none. absurd (cc))
          (turns_as (frame_asks asks) (asks_in (own_asks asks) None) running_turn (own_turn None)
          attempt (Ok Goes) mid (with_stacks frames) (λ s shown. refl) (λ s shown. refl)
          (one_turn frames so_far.good turns))

      so_made : DoesTo heap dictionaries rest made old now → IsGood before
          → HasRun made before mid
      so_made so_far good =
          subst (λ (frames : List Frame). HasRun made before
          (stacked heap dictionaries now frames l)) (some_left rest below made some)
          (so_far l below good)

      rest_room : 2 + length below ≤ 250 → 1 + length (rest_frames left below) ≤ 250
      rest_room room = by (nat_lt 1 left.length)
        where
          by : (more : Bool) → 1 + length (Frames_by rest below more (part_behind 1 left)) ≤ 250
          by true = omega (arith, room)
          by false = omega (arith, room)

    pub does_more : DoesTo heap dictionaries rest made old now → Comes ahead.Goes
        → DoesTo heap dictionaries rest (made + 1) old next
    does_more so_far goes l below good =
        let done = so_made l below so_far good in
        subst (λ (frames : List Frame). HasRun (made + 1) (before l below)
        (with_stacks l below frames)) (then_taken rest below made 1 (made + 1) refl)
        (made_one l below (rest_frames (left l below) below) done
        (goes.1 (record (mid l below) { frames = rest_frames (left l below) below }) attempt
        (rest_mid l below done.good) (value, (value, tt)) tt))

    pub does_into : (body : Part) → DoesTo heap dictionaries rest made old now
        → Comes (ahead.Enters body)
        → DoesInto heap dictionaries rest made body old next
    does_into body so_far goes l below room good =
        let done = so_made l below so_far good in
        subst (λ (frames : List Frame). HasRun (made + 1) (before l below)
        (with_stacks l below (Procedure body ∷ frames))) (then_taken rest below made 1 (made + 1) refl)
        (made_one l below (Procedure body ∷ rest_frames (left l below) below) done
        (goes.1 (record (mid l below) { frames = rest_frames (left l below) below }) attempt
        (rest_mid l below done.good) (value, (value, tt)) (rest_room l below room)))

-- the element at a place is the first of what is left
pub element_first : (asks : Asks) (heap : Heap) (dictionaries : List Word) (rest : Part)
    (made : ℕ) (element : Element) → IsElement asks heap dictionaries rest made element
    → IsElement asks heap dictionaries (part_behind made rest) 0 element
element_first asks heap dictionaries rest made element is = record {
  held = is.held;
  reads = λ names s shows.
      let place_is : (rest.offset + made) + 0 ≡ rest.offset + made = omega arith in
      ap (slice_get (elements s (birth_at heap rest.address))) place_is ∙ is.reads names s shows;
  within = is.within;
  value_held = is.value_held;
  treats = is.treats;
}

-- all were taken
pub all_taken : (rest : Part) (below : List Frame) (made : ℕ) → made ≡ rest.length
    → frames_after made rest below ≡ below
all_taken rest below made all =
    let none : nat_lt made rest.length ≡ false = grind (arith, nat_tests, all) in
    ap (λ (b : Bool). Frames_by rest below b (part_behind made rest)) none

-- what is left of a procedure is told where that is the topmost frame
pub procedure_top : (top : Option Frame) (rest : Part) → Some rest ≡ procedure_in top
    → Some (Procedure rest) ≡ top
procedure_top None rest is = absurd (cc)
procedure_top (Some (Procedure left)) rest is =
    let same : rest ≡ left = cc in
    ap (λ (part : Part). Some (Procedure part)) same
procedure_top (Some _) rest is = absurd (cc)

-- ---- a turn of the general way

-- what is no text asks by its frame alone
module _ (asks : Asks) (l : Lent) (top : Frame)
    (other : (source : Source) (at : ℕ) → top ≡ Text source at → ⊥) where
  asked_by : (top : Frame) → ((source : Source) (at : ℕ) → top ≡ Text source at → ⊥)
      → (below : List Frame) (s : Store) → frame_asks asks (record l { frames = top ∷ below }) s
      ≡ asks_in (own_asks asks) None (record l { frames = top ∷ below }) s
  asked_by (Text source at) other below s = absurd (other source at refl)
  asked_by (Procedure rest) other below s = refl
  asked_by (Pending word) other below s = refl
  asked_by (Repeat count body) other below s = refl
  asked_by (Loop body) other below s = refl
  asked_by (For control increment limit body) other below s = refl
  asked_by (Forall over at body) other below s = refl
  asked_by Stopped other below s = refl
  asked_by (Bind over at depth) other below s = refl
  asked_by (Monitor lock) other below s = refl

  module _ (is : first_of l.frames ≡ Some top) where
    frames_split : l.frames ≡ top ∷ drop 1 l.frames
    frames_split = first_split l.frames top (sym is)

    pub framed_by : l.frames ≢ []
    framed_by none = absurd (cc (none, is))

    pub own_turns : (attempt : Attempt) (result : Result Turned Reason) (new : Lent)
        → Turns (frame_asks asks) running_turn attempt result l new
        → Turns (asks_in (own_asks asks) None) (own_turn None) attempt result l new
    own_turns attempt result new turns =
        turns_as (frame_asks asks) (asks_in (own_asks asks) None) running_turn (own_turn None) attempt
        result l new (λ s shown. refl)
        (λ s shown. subst (λ (frames : List Frame). frame_asks asks (record l { frames = frames }) s
        ≡ asks_in (own_asks asks) None (record l { frames = frames }) s) (sym frames_split)
        (asked_by top other (drop 1 l.frames) s)) turns

-- ---- behind steps that were made

module _ (asks : Asks) (slot made : ℕ) (old mid new : Lent)
    (so_far : HasRun made old mid) (framed : mid.frames ≢ []) where
  pub turned_behind : (result : Result Turned Reason)
      → Turns (asks_in (own_asks asks) None) (own_turn None) (ordinary slot) result mid new
      → TurnsBehind (own_asks asks) slot made result old new
  turned_behind result turns = record { mid = mid; makes = so_far; framed = framed; turns = turns }

-- a turn of the topmost frame that is no text
pub top_behind : (asks : Asks) (slot made : ℕ) (old mid new : Lent)
    → HasRun made old mid → (top : Frame)
    → ((source : Source) (at : ℕ) → top ≡ Text source at → ⊥) → first_of mid.frames ≡ Some top
    → (result : Result Turned Reason)
    → Turns (frame_asks asks) running_turn (ordinary slot) result mid new
    → TurnsBehind (own_asks asks) slot made result old new
top_behind asks slot made old mid new so_far top other is result turns =
    turned_behind asks slot made old mid new so_far (framed_by asks mid top other is) result
    (own_turns asks mid top other is (ordinary slot) result new turns)

-- one behind them that goes on is a step
pub goes_behind : (asks : Asks) (slot made : ℕ) (old new : Lent)
    → TurnsBehind (own_asks asks) slot made (Ok Goes) old new
    → HasRun (made + 1) old new
goes_behind asks slot made old new behind =
    run_more (own_asks asks) slot made old behind.mid new behind.makes behind.framed behind.turns

-- the procedure that is the topmost frame is above the others
pub procedure_begins : (l : Lent) (rest : Part) → l.frames ≡ Procedure rest ∷ drop 1 l.frames
    → IsGood l → HasRun 0 l (above rest (record l { frames = drop 1 l.frames }))
procedure_begins l rest split good =
    subst (λ (frames : List Frame). HasRun 0 l (record l { frames = frames })) split
    (run_none l good)

-- what asks for nothing
pub no_asks : Asks
no_asks operator around scene = none_asked

-- a turn that goes ahead is a step
pub made_turn : (l after : Lent) (top : Frame)
    → ((source : Source) (at : ℕ) → top ≡ Text source at → ⊥) → first_of l.frames ≡ Some top
    → IsGood l → (asks : Asks)
    → ((attempt : Attempt) → Turns (frame_asks asks) running_turn attempt (Ok Goes) l after)
    → HasRun 1 l after
made_turn l after top other is good asks goes =
    run_more (own_asks asks) 0 0 l l after (run_none l good) (framed_by asks l top other is)
    (own_turns asks l top other is (ordinary 0) (Ok Goes) after (goes (ordinary 0)))

-- what comes behind steps that were made comes behind them and those before
pub runs_then : (asks : Status → Around → Scene → Asked) (slot first second : ℕ)
    (next : Option (Result Turned Reason)) (old mid new : Lent)
    → HasRun first old mid → Runs asks slot second next mid new
    → Runs asks slot (first + second) next old new
runs_then asks slot first second None old mid new one makes =
    run_then first second old mid new one makes
runs_then asks slot first second (Some result) old mid new one behind = record {
  mid = behind.mid;
  makes = run_then first second old mid behind.mid one behind.makes;
  framed = behind.framed;
  turns = behind.turns;
}

-- ---- of a procedure above the frames

-- behind steps that were made, its elements are done up to a place
module _ (start l : Lent) (rest : Part) (made to : ℕ) (operands : List Word)
    (makes : HasRun made start (with_frames (frames_after 0 rest l.frames) l)) where
  abbrev now : Lent
  now = record l { operands = operands }

  pub done_to : DoesTo l.heap l.dictionaries rest to l.operands operands
      → HasRun (made + to) start (with_frames (frames_after to rest l.frames) now)
  done_to does = run_then made to start _ _ makes (does l l.frames makes.good)

  pub done_above : to < rest.length
      → DoesTo l.heap l.dictionaries rest to l.operands operands
      → HasRun (made + to) start (above (part_behind to rest) now)
  done_above some does =
      subst (λ (frames : List Frame). HasRun (made + to) start (with_frames frames now))
      (some_left rest l.frames to some) (done_to does)

  pub entered_to : (body : Part) → 2 + length l.frames ≤ 250
      → DoesInto l.heap l.dictionaries rest to body l.operands operands
      → HasRun (made + (to + 1)) start
      (with_frames (Procedure body ∷ frames_after (to + 1) rest l.frames) now)
  entered_to body room does =
      run_then made (to + 1) start _ _ makes (does l l.frames room makes.good)

-- behind so many more, what is left of it is a procedure of its own
pub left_behind : (start l : Lent) (rest : Part) (most left count : ℕ) (operands : List Word)
    → left ≤ most → count ≤ left
    → HasRun ((most - left) + count) start
    (with_frames (frames_after count rest l.frames) (record l { operands = operands }))
    → HasRun (most - (left - count)) start
    (with_frames (frames_after 0 (part_behind count rest) l.frames)
    (record l { operands = operands }))
left_behind start l rest most left count operands few within makes =
    let now : Lent = record l { operands = operands } in
    let made : (most - left) + count ≡ most - (left - count) = omega (arith, few, within) in
    subst (λ (n : ℕ). HasRun n start (with_frames (frames_after 0 (part_behind count rest) l.frames)
    now)) made
    (subst (λ (frames : List Frame). HasRun ((most - left) + count) start (with_frames frames now))
    (sym (then_taken rest l.frames count 0 count (omega arith))) makes)

-- behind steps that were made, its first element is done
module _ (asks : Asks) (start l : Lent) (rest : Part) (made : ℕ)
    (makes : HasRun made start (above rest l)) where
  abbrev AboveTurns : (attempt : Attempt) → Result Turned Reason → Lent → Type 0
  AboveTurns attempt result new =
      Turns (asks_in (own_asks asks) None) (own_turn None) attempt result (above rest l) new

  own_above : (attempt : Attempt) (result : Result Turned Reason) (new : Lent)
      → Turns (frame_asks asks) running_turn attempt result (above rest l) new
      → AboveTurns attempt result new
  own_above attempt result new turns =
      turns_as (frame_asks asks) (asks_in (own_asks asks) None) running_turn (own_turn None) attempt
      result (above rest l) new (λ s shown. refl) (λ s shown. refl) turns

  pub turned_above : (slot : ℕ) (result : Result Turned Reason) (new : Lent)
      → Turns (frame_asks asks) running_turn (ordinary slot) result (above rest l) new
      → TurnsBehind (own_asks asks) slot made result start new
  turned_above slot result new turns =
      turned_behind asks slot made start (above rest l) new makes (λ none. absurd (cc)) result
      (own_above (ordinary slot) result new turns)

-- one step at least, where any may be made
pub some_made : (most made more : ℕ) → 1 ≤ most → (1 ≤ most - made → 1 ≤ more)
    → 1 ≤ made + more
some_made most zero more some goes =
    let any : 1 ≤ more = goes (omega (arith, some)) in omega (arith, any)
some_made most (suc made) more some goes = omega arith

-- none is told
pub none_runs : (asks : Status → Around → Scene → Asked) (slot made : ℕ)
    (next : Option (Result Turned Reason)) (old new : Lent) → IsNone next
    → Runs asks slot made next old new → HasRun made old new
none_runs asks slot made None old new none runs = runs
none_runs asks slot made (Some turn) old new none runs = absurd (true≢false none)
