-- A step that takes no memory: a literal, a procedure or a frugal operator is the next element of a
-- procedure, and another frame stands below.
use Rattle.std.proofs.Common.{◌≡◌, inl, inr, ℕ, ◌-◌, Bool, true, false, ◌&&◌, List, [], ◌∷◌, length, refl, sym, ap}
use Rattle.std.proofs.Common.{subst, ◌∙◌, arith}
use Rattle.std.specs.Prelude.{nat_lt, not, if◌then◌else◌}
use Rattle.std.proofs.lemmas.Bool.{true≢false}
use Rattle.ps_language.specs.declared.errors.ErrorName.TheVariants.{StackOverflow}
use Rattle.ps_language.specs.declared.operators.Operator.{Operator}
use Rattle.ps_language.specs.Access.{dictionary_at}
use Rattle.ps_language.specs.Control.{with_frames}
use Rattle.ps_language.specs.Effect.{Around, Scene, Effect, makes, unwinds, raises, calls}
use Rattle.ps_language.specs.Machines.{around_of, scene_of, is_empty, turn_as}
use Rattle.ps_language.specs.Objects.{made_between, lacks_room}
use Rattle.ps_language.specs.Outcome.{leaves, given_that}
use Rattle.ps_language.specs.Readers.{is_full}
use Rattle.ps_language.specs.StepErrors.{with_error}
use Rattle.ps_language.specs.StepFrames.{rest_frames, element_at, frame_turn}
use Rattle.ps_language.specs.StepValues.{Turn, goes, tries, breaks, errs, asks as leaves_to, turned, command_of}
use Rattle.ps_language.specs.StepValues.{effect_turn, operated, pushed, is_array, is_executable_name, is_procedure}
use Rattle.ps_language.specs.StepValues.{executed, done}
use Rattle.ps_language.specs.Value.{What, array_value, Part, Value, Dictionary, Store}
use Rattle.ps_language.specs.World.{Status, Frame, procedure_frame, running, Machine}
use Rattle.ps_language.proofs.AskedLemmas.{made-same}
use Rattle.ps_ops_state.specs.Acts.{Asked, Needs, no_rooms, needs_between}
use Rattle.ps_ops_state.proofs.Meeting.{lacks_for_same}
use Rattle.ps_step_outcome.specs.Turns.{is_told, error_needs}
use Rattle.ps_step_interpreter.specs.Needs.{alone_turn_needs, wants, wants_memory}
use Rattle.ps_step_execute.specs.Values.{Asks, done_asks}
use Rattle.ps_step_execute.specs.Frugal.{IsOnOperands, IsFrugal, IsFrugalElement}
use Rattle.ps_step.specs.Steps.{own_asks}

-- ---- what wants nothing

nothing_wanted : (needs : Needs) → needs.bytes ≡ 0 → needs.names ≡ 0 → needs.words ≡ 0
    → needs.scratch ≡ no_rooms → wants true needs ≡ false
nothing_wanted needs bytes names words scratch = rw (bytes, names, words, scratch) refl

-- a turn that changes the operands of a scene alone, or meets an error there
abbrev IsFrugalTurn : Scene → Turn → Type 0
IsFrugalTurn kept (goes scene output) =
    (scene ≡ record kept { operands = scene.operands }) × (output ≡ [])
IsFrugalTurn kept (tries command from scene output) =
    (from ≡ kept) × ((scene ≡ record kept { operands = scene.operands }) × (output ≡ []))
IsFrugalTurn kept (errs error command from) = from ≡ kept
IsFrugalTurn kept turn = ⊥

untold : (frames : List Frame) (d : Dictionary) → is_empty frames ≡ false → is_told frames d ≡ false
untold [] d some = absurd (true≢false some)
untold (frame ∷ frames) d some = refl

same_names : (before kept scene : Scene) → kept.names ≡ before.names
    → scene ≡ record kept { operands = scene.operands }
    → length scene.names - length before.names ≡ 0
same_names before kept scene names is =
    let all : scene.names ≡ before.names = ap (λ (s : Scene). s.names) is ∙ names in
    rw all (omega arith)

-- it wants nothing, where a frame is left
module _ (refused : Bool) (asked : Asked) (birth : ℕ) (before kept : Scene)
    (no_list : asked.scratch ≡ no_rooms) (same : kept.store ≡ before.store)
    (names : kept.names ≡ before.names) (some : is_empty kept.frames ≡ false) where
  store_stays : (scene : Scene) → scene ≡ record kept { operands = scene.operands }
      → scene.store ≡ kept.store
  store_stays scene is = ap (λ (s : Scene). s.store) is

  nothing_made : (scene : Scene) → scene ≡ record kept { operands = scene.operands }
      → made_between before.store scene.store ≡ 0
  nothing_made scene is =
      let stays : scene.store ≡ before.store = store_stays scene is ∙ same in
      rw stays (made-same before.store)

  enough : (scene : Scene) → scene ≡ record kept { operands = scene.operands }
      → lacks_room refused kept.store scene.store ≡ false
  enough scene is = rw (store_stays scene is) (lacks_for_same refused kept.store)

  turn_wants : (turn : Turn) → IsFrugalTurn kept turn
      → wants true (alone_turn_needs refused asked birth before turn) ≡ false
  turn_wants (goes scene output) frugal =
      nothing_wanted (needs_between asked before scene output) (ap length frugal.1)
      (same_names before kept scene names frugal.0) (nothing_made scene frugal.0) no_list
  turn_wants (tries command from scene output) frugal =
      let lack : lacks_room refused from.store scene.store ≡ false =
      rw frugal.0 (enough scene frugal.1.0) in
      rw lack (nothing_wanted (needs_between asked before scene output) (ap length frugal.1.1)
      (same_names before kept scene names frugal.1.0) (nothing_made scene frugal.1.0) no_list)
  turn_wants (errs error command from) frugal =
      let left : is_empty from.frames ≡ false = rw frugal some in
      let formed : from.names ≡ before.names = rw frugal names in
      let after : Store = with_error error command birth from.store in
      let told : is_told from.frames (dictionary_at after birth) ≡ false =
      untold from.frames (dictionary_at after birth) left in
      nothing_wanted (error_needs asked.scratch birth before error command from)
      (rw told refl) (rw formed (omega arith)) refl no_list
  turn_wants (breaks cause scene) frugal = elim frugal [ ]
  turn_wants (leaves_to calling from) frugal = elim frugal [ ]

-- ---- turns by an element

pushed_frugal : (kept : Scene) (command value : Value) → IsFrugalTurn kept (pushed command value kept)
pushed_frugal kept command value = by (not (is_full kept.operands))
  where
    by : (fits : Bool) → IsFrugalTurn kept (turned command kept (given_that fits StackOverflow
        (leaves (record kept { operands = value ∷ kept.operands }))))
    by true = (refl, refl)
    by false = refl

effect_frugal : (kept : Scene) (operator : Operator) (effect : Effect) → IsOnOperands kept effect
    → IsFrugalTurn kept (effect_turn operator kept effect)
effect_frugal kept operator (makes scene output) on = (refl, on)
effect_frugal kept operator (unwinds cause scene) on = elim on [ ]
effect_frugal kept operator (raises error) on = refl
effect_frugal kept operator (calls deed) on = elim on [ ]

module _ (asks : Asks) (around : Around) (kept : Scene) where
  IsFrugalBy : Value → Type 0
  unfolding done executed
  IsFrugalBy value =
      IsFrugalTurn kept (done value value around kept)
      × ((done_asks asks value around kept).scratch ≡ no_rooms)

  -- a literal
  literal_frugal : (what : What) → IsFrugalBy (record { what = what; executable = false })
  unfolding IsFrugalBy done executed is_executable_name is_procedure
  literal_frugal what = (pushed_frugal kept _ _, refl)

  -- a procedure
  array_frugal : (executable : Bool) (what : What) → executable && is_array what ≡ true
      → IsFrugalBy (record { what = what; executable = executable })
  unfolding IsFrugalBy done executed is_executable_name is_procedure
  array_frugal true (array_value part) array = (pushed_frugal kept _ _, refl)
  array_frugal true what array = absurd (true≢false (sym array))
  array_frugal false what array = absurd (true≢false (sym array))

  -- an operator that is frugal
  operator_frugal : (operator : Operator) → IsFrugal asks operator
      → IsFrugalBy (command_of operator)
  unfolding IsFrugalBy done executed is_executable_name is_procedure operated
  operator_frugal operator frugal =
      (effect_frugal kept operator _ (frugal.effect around kept), frugal.asked around kept)

  element_frugal : (value : Value) → IsFrugalElement asks value → IsFrugalBy value
  unfolding is_procedure
  element_frugal value (inl literal) =
      subst IsFrugalBy (ap (λ e. record { what = value.what; executable = e }) (sym literal))
      (literal_frugal value.what)
  element_frugal value (inr (inl procedure)) = array_frugal value.executable value.what procedure
  element_frugal value (inr (inr (operator, (is, frugal)))) =
      subst IsFrugalBy (sym is) (operator_frugal operator frugal)

-- ---- the step

-- a frame is left when the element is taken
frame_left : (more : Bool) (rest frame : Frame) (below : List Frame)
    → is_empty (if more then rest ∷ frame ∷ below else frame ∷ below) ≡ false
frame_left true rest frame below = refl
frame_left false rest frame below = refl

module _ (asks : Asks) (around : Around) (scene : Scene) (birth : ℕ) (rest : Part) (frame : Frame)
    (below : List Frame) where
  running_wants : (refused : Bool) (status : Status) (frames : List Frame) → status ≡ running
      → frames ≡ procedure_frame rest ∷ frame ∷ below
      → IsFrugalElement asks (element_at scene.store rest 0)
      → wants true (alone_turn_needs refused
      (own_asks asks status around (record scene { frames = frames })) birth
      (record scene { frames = frames })
      (turn_as around status frames (record scene { frames = frames }))) ≡ false
  unfolding IsFrugalBy frame_turn
  running_wants refused status frames runs framed frugal =
      let kept : Scene = with_frames (rest_frames rest (frame ∷ below)) scene in
      let by : IsFrugalBy asks around kept (element_at scene.store rest 0) =
      element_frugal asks around kept (element_at scene.store rest 0) frugal in
      rw (runs, framed) (turn_wants refused
      (done_asks asks (element_at scene.store rest 0) around kept) birth
      (record scene { frames = procedure_frame rest ∷ frame ∷ below }) kept by.1 refl refl
      (frame_left (nat_lt 1 rest.count) _ frame below) _ by.0)

pub step_wants : (asks : Asks) (program : List ℕ) (refused : Bool) (machine : Machine)
    (rest : Part) (frame : Frame) (below : List Frame)
    → machine.context.status ≡ running
    → machine.context.frames ≡ procedure_frame rest ∷ frame ∷ below
    → IsFrugalElement asks (element_at machine.store rest 0)
    → wants_memory (own_asks asks) program refused machine ≡ false
step_wants asks program refused machine rest frame below runs framed frugal =
    running_wants asks (around_of program machine) (scene_of machine)
    machine.context.error_dictionary rest frame below refused machine.context.status
    machine.context.frames runs framed frugal
