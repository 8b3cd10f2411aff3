-- What is reachable once the element of a call is taken was reachable before.
use Rattle.std.proofs.Common.{◌≡◌, ℕ, zero, suc, ◌+◌, ◌-◌, ◌≤◌, Bool, true, false, IsTrue, List, [], ◌∷◌, ◌++◌, Some}
use Rattle.std.proofs.Common.{None, Option, slice_get, slice_set, refl, sym, ap, ◌∙◌, subst, inl, inr, arith}
use Rattle.std.specs.Prelude.{◌+ℤ◌, not, nat_lt, if◌then◌else◌}
use Rattle.std.specs.List.{Contains}
use Rattle.std.specs.Option.{option_map_or}
use Rattle.std.proofs.lemmas.List.Elements.{Contains-append_left, Contains-append_right, Contains-append_cases}
use Rattle.ps_language.specs.declared.operators.Operator.{Operator}
use Rattle.ps_language.specs.declared.operators.Operator.TheVariants.{Forall, For, Repeat, Loop, Stopped, Bind}
use Rattle.ps_language.specs.declared.errors.ErrorName.TheVariants.{LimitCheck, StackOverflow}
use Rattle.ps_language.specs.Value.{Part, What, null_value, name_value, operator_value, array_value, string_value}
use Rattle.ps_language.specs.Value.{Value, Store}
use Rattle.ps_language.specs.World.{Status, running, unwinding, Source, Cause, for_stop, for_exit, Frame, text_frame}
use Rattle.ps_language.specs.World.{procedure_frame, pending_frame, repeat_frame, loop_frame, for_frame, forall_frame}
use Rattle.ps_language.specs.World.{stopped_frame, monitor_frame, bind_frame, Context, Machine, World}
use Rattle.ps_language.specs.Token.{Token, Tokens, number_token, literal_name_token, executable_name_token}
use Rattle.ps_language.specs.Token.{immediate_name_token, string_token, procedure_token, Scan, found, exhausted, faulty}
use Rattle.ps_language.specs.Effect.{Around, Scene, Effect, makes, unwinds, raises, calls, Calling}
use Rattle.ps_language.specs.Outcome.{Outcome, leaves, fails, given, given_that}
use Rattle.ps_language.specs.Readers.{null, integer, literal_name, executable_name, is_full}
use Rattle.ps_language.specs.Dictionaries.{form}
use Rattle.ps_language.specs.Scan.{scan}
use Rattle.ps_language.specs.Acts.{acts}
use Rattle.ps_language.specs.Control.{with_frames, with_operand}
use Rattle.ps_language.specs.StepValues.{Turn, command_of, goes, tries, breaks, errs, asks, after, leads, turned}
use Rattle.ps_language.specs.StepValues.{effect_turn, operated, LookedUp, known, unknown, unreadable, after_look_up}
use Rattle.ps_language.specs.StepValues.{looked_up, pushed, executed_what, treated, executed, done, is_executable_name}
use Rattle.ps_language.specs.StepValues.{is_procedure}
use Rattle.ps_language.specs.StepTokens.{Missing, token_done, procedure_turn, missing_in, look_in, made_turn, names_in}
use Rattle.ps_language.specs.StepTokens.{procedure_made, elements_made, string_made}
use Rattle.ps_language.specs.StepFrames.{source_bytes, element_at, rest_frames, frame_turn, unwound_turn, text_turn}
use Rattle.ps_language.specs.StepFrames.{forall_turn, forall_operands, loop_turn, is_past}
use Rattle.ps_language.specs.Machines.{with_scene, scene_of, around_of, turn_as, own_step, leaves_to_world}
use Rattle.ps_language.specs.Contexts.{context_at, context_in, contexts_with, left_of, with_context}
use Rattle.ps_language.specs.Keeping.{Stays, stays, Keeps}
use Rattle.ps_language.specs.Live.{references_of, references_of_frame, references_of_frames, references_of_status}
use Rattle.ps_language.specs.Live.{references_of_context, references_of_contexts, references_at, roots, IsReachable}
use Rattle.ps_language.specs.Live.{is_root, is_named, words_reached, Live}
use Rattle.ps_language.specs.Objects.{size_of}
use Rattle.ps_language.specs.Step.{machine_of, with_machine}
use Rattle.ps_language.proofs.OperandsKept.{turn_as-keeps}
use Rattle.ps_language.proofs.LeftTurns.{IsLeft, left_by}

-- ---- what a turn leaves to the world has the frames of its scene

abbrev FramesStay : List Frame → Turn → Type 0
FramesStay frames (asks calling kept) = kept.frames ≡ frames
FramesStay frames (goes scene output) = Unit {0}
FramesStay frames (tries command kept scene output) = Unit {0}
FramesStay frames (breaks cause scene) = Unit {0}
FramesStay frames (errs error command kept) = Unit {0}

turned-stay : (frames : List Frame) (command : Value) (kept : Scene) (outcome : Outcome Scene)
    → FramesStay frames (turned command kept outcome)
turned-stay frames command kept (leaves scene) = tt
turned-stay frames command kept (fails error) = tt

effect_turn-stay : (operator : Operator) (kept : Scene) (effect : Effect)
    → FramesStay kept.frames (effect_turn operator kept effect)
effect_turn-stay operator kept (makes scene output) = tt
effect_turn-stay operator kept (unwinds cause scene) = tt
effect_turn-stay operator kept (raises error) = tt
effect_turn-stay operator kept (calls deed) = refl

operated-stay : (operator : Operator) (around : Around) (scene : Scene)
    → FramesStay scene.frames (operated operator around scene)
unfolding operated
operated-stay operator around scene =
    effect_turn-stay operator scene (acts scan operator around scene)

executed_what-stay : (command value : Value) (what : What) (around : Around) (scene : Scene)
    → FramesStay scene.frames (executed_what command value what around scene)
executed_what-stay command value (name_value text) around scene =
    turned-stay scene.frames command scene _
executed_what-stay command value (operator_value operator) around scene =
    operated-stay operator around scene
executed_what-stay command value null_value around scene = tt
executed_what-stay command value (array_value part) around scene =
    turned-stay scene.frames command scene _
executed_what-stay command value (string_value part) around scene =
    turned-stay scene.frames command scene _
executed_what-stay command value _ around scene = turned-stay scene.frames command scene _

if-stay : (frames : List Frame) (test : Bool) (a b : Turn) → FramesStay frames a
    → FramesStay frames b → FramesStay frames (if test then a else b)
if-stay frames true a b x y = x
if-stay frames false a b x y = y

treated-stay : (command value : Value) (around : Around) (scene : Scene)
    → FramesStay scene.frames (treated command value around scene)
treated-stay command value around scene =
    if-stay scene.frames value.executable (executed_what command value value.what around scene)
    (pushed command value scene) (executed_what-stay command value value.what around scene)
    (turned-stay scene.frames command scene (with_operand value scene))

after_look_up-stay : (frames : List Frame) (command : Value) (scene : Scene) (looked : LookedUp)
    (next : Value → Turn) → ((value : Value) → FramesStay frames (next value))
    → FramesStay frames (after_look_up command scene looked next)
after_look_up-stay frames command scene (known value) next stay = stay value
after_look_up-stay frames command scene unknown next stay = tt
after_look_up-stay frames command scene unreadable next stay = tt

executed-stay : (command value : Value) (around : Around) (scene : Scene)
    → FramesStay scene.frames (executed command value around scene)
unfolding executed
executed-stay command value around scene =
    if-stay scene.frames (is_executable_name value) (after_look_up command scene
    (looked_up value scene.dictionaries scene.store) (λ found. treated command found around scene))
    (treated command value around scene)
    (after_look_up-stay scene.frames command scene
    (looked_up value scene.dictionaries scene.store) (λ found. treated command found around scene)
    (λ found. treated-stay command found around scene))
    (treated-stay command value around scene)

done-stay : (command value : Value) (around : Around) (scene : Scene)
    → FramesStay scene.frames (done command value around scene)
unfolding done
done-stay command value around scene =
    if-stay scene.frames (is_procedure value) (pushed command value scene)
    (executed command value around scene)
    (turned-stay scene.frames command scene (with_operand value scene))
    (executed-stay command value around scene)

after-stay : {A : Type 0} (frames : List Frame) (command : Value) (kept : Scene)
    (outcome : Outcome A) (next : A → Turn) → ((left : A) → FramesStay frames (next left))
    → FramesStay frames (after command kept outcome next)
after-stay frames command kept (leaves left) next stay = stay left
after-stay frames command kept (fails error) next stay = tt

named_by-stay : (frames : List Frame) (scene : Scene) (names : Option (List (List ℕ)))
    (next : Scene → Turn)
    → ((met : List (List ℕ)) → FramesStay frames (next (record scene { names = met })))
    → FramesStay frames (after null scene
    (given names LimitCheck λ met. leaves (record scene { names = met })) next)
named_by-stay frames scene None next stay = tt
named_by-stay frames scene (Some met) next stay = stay met

procedure_turn-stay : (frames : List Frame) (content : Tokens) (scene : Scene)
    (missing : Option Missing) → FramesStay frames (procedure_turn content scene missing)
procedure_turn-stay frames content scene (Some missing) =
    named_by-stay frames scene (form scene.names (missing.text ∷ []))
    (errs missing.error (executable_name missing.text)) (λ met. tt)
procedure_turn-stay frames content scene None =
    named_by-stay frames scene (form scene.names (names_in content))
    (λ formed. made_turn formed
    (procedure_made (elements_made (look_in formed) content formed.store))) (λ met. tt)

token_done-stay : (around : Around) (token : Token) (scene : Scene)
    → FramesStay scene.frames (token_done around token scene)
unfolding token_done
token_done-stay around (number_token number) scene =
    done-stay (integer number) (integer number) around scene
token_done-stay around (literal_name_token text) scene =
    named_by-stay scene.frames scene (form scene.names (text ∷ []))
    (done (literal_name text) (literal_name text) around)
    (λ met. done-stay (literal_name text) (literal_name text) around
    (record scene { names = met }))
token_done-stay around (executable_name_token text) scene =
    named_by-stay scene.frames scene (form scene.names (text ∷ []))
    (done (executable_name text) (executable_name text) around)
    (λ met. done-stay (executable_name text) (executable_name text) around
    (record scene { names = met }))
token_done-stay around (immediate_name_token text) scene =
    named_by-stay scene.frames scene (form scene.names (text ∷ []))
    (λ formed. after_look_up (executable_name text) formed (look_in formed text)
    (λ value. done (executable_name text) value around formed))
    (λ met. after_look_up-stay scene.frames (executable_name text)
    (record scene { names = met }) (look_in (record scene { names = met }) text)
    (λ value. done (executable_name text) value around (record scene { names = met }))
    (λ value. done-stay (executable_name text) value around (record scene { names = met })))
token_done-stay around (string_token text) scene =
    after-stay scene.frames null scene
    (given_that (not (is_full scene.operands)) StackOverflow (leaves scene))
    (λ left. made_turn scene (string_made text scene.store)) (λ left. tt)
token_done-stay around (procedure_token content) scene =
    after-stay scene.frames null scene
    (given_that (not (is_full scene.operands)) StackOverflow (leaves scene))
    (λ left. procedure_turn content scene (missing_in (look_in scene) content))
    (λ left. procedure_turn-stay scene.frames content scene
    (missing_in (look_in scene) content))

-- ---- their references are among those before

abbrev pub AreAmong : (xs ys : List ℕ) → Type 0
AreAmong xs ys = (birth : ℕ) → Contains xs birth → Contains ys birth

abbrev TakesOnly : List Frame → Turn → Type 0
TakesOnly frames (asks calling kept) =
    AreAmong (references_of_frames kept.frames) (references_of_frames frames)
TakesOnly frames (goes scene output) = Unit {0}
TakesOnly frames (tries command kept scene output) = Unit {0}
TakesOnly frames (breaks cause scene) = Unit {0}
TakesOnly frames (errs error command kept) = Unit {0}

takes_by : (left frames : List Frame) → AreAmong (references_of_frames left)
    (references_of_frames frames) → (turn : Turn) → FramesStay left turn → TakesOnly frames turn
takes_by left frames part (asks calling kept) stay =
    subst (λ fs. AreAmong (references_of_frames fs) (references_of_frames frames)) (sym stay) part
takes_by left frames part (goes scene output) stay = tt
takes_by left frames part (tries command kept scene output) stay = tt
takes_by left frames part (breaks cause scene) stay = tt
takes_by left frames part (errs error command kept) stay = tt

behind : (frame : Frame) (below : List Frame)
    → AreAmong (references_of_frames below) (references_of_frames (frame ∷ below))
behind frame below birth c =
    Contains-append_right (references_of_frame frame) (references_of_frames below) birth c

rest_among : (part : Part) (below : List Frame) (more : Bool)
    → AreAmong (references_of_frames (if more then procedure_frame
    (record part { offset = part.offset + 1; count = part.count - 1 }) ∷ below else below))
    (references_of_frames (procedure_frame part ∷ below))
rest_among part below true birth c = c
rest_among part below false birth c = behind (procedure_frame part) below birth c

text_turn-takes : (around : Around) (source : Source) (at : ℕ) (below : List Frame)
    (scene : Scene) (what : Scan)
    → TakesOnly (text_frame source at ∷ below) (text_turn around source below scene what)
text_turn-takes around source at below scene (found token end) =
    takes_by (text_frame source end ∷ below) (text_frame source at ∷ below) (λ birth c. c)
    (token_done around token (with_frames (text_frame source end ∷ below) scene))
    (token_done-stay around token (with_frames (text_frame source end ∷ below) scene))
text_turn-takes around source at below scene exhausted = tt
text_turn-takes around source at below scene (faulty fault) = tt

turned-takes : (frames : List Frame) (command : Value) (kept : Scene) (outcome : Outcome Scene)
    → TakesOnly frames (turned command kept outcome)
turned-takes frames command kept (leaves scene) = tt
turned-takes frames command kept (fails error) = tt

if-takes : (frames : List Frame) (test : Bool) (a b : Turn) → TakesOnly frames a
    → TakesOnly frames b → TakesOnly frames (if test then a else b)
if-takes frames true a b x y = x
if-takes frames false a b x y = y

forall_turn-takes : (frames : List Frame) (over : Value) (at : ℕ) (body : Part)
    (below : List Frame) (scene : Scene) (values : Option (List Value))
    → TakesOnly frames (forall_turn over at body below scene values)
forall_turn-takes frames over at body below scene None = tt
forall_turn-takes frames over at body below scene (Some values) =
    turned-takes frames (command_of Forall) scene _

frame_turn-takes : (around : Around) (frame : Frame) (below : List Frame) (scene : Scene)
    → TakesOnly (frame ∷ below) (frame_turn around frame below scene)
unfolding frame_turn
frame_turn-takes around (text_frame source at) below scene =
    text_turn-takes around source at below scene
    (scan (source_bytes around.program scene.store source) at)
frame_turn-takes around (procedure_frame part) below scene =
    takes_by (rest_frames part below) (procedure_frame part ∷ below)
    (rest_among part below (nat_lt 1 part.count))
    (done (element_at scene.store part 0) (element_at scene.store part 0) around
    (with_frames (rest_frames part below) scene))
    (done-stay (element_at scene.store part 0) (element_at scene.store part 0) around
    (with_frames (rest_frames part below) scene))
frame_turn-takes around (pending_frame value) below scene =
    takes_by below (pending_frame value ∷ below) (behind (pending_frame value) below)
    (executed value value around (with_frames below scene))
    (executed-stay value value around (with_frames below scene))
frame_turn-takes around (repeat_frame zero body) below scene = tt
frame_turn-takes around (repeat_frame (suc count) body) below scene =
    turned-takes (repeat_frame (suc count) body ∷ below) (command_of Repeat) scene _
frame_turn-takes around (loop_frame body) below scene =
    turned-takes (loop_frame body ∷ below) (command_of Loop) scene _
frame_turn-takes around (for_frame control increment limit body) below scene =
    if-takes (for_frame control increment limit body ∷ below) (is_past control increment limit)
    (leads (with_frames below scene))
    (loop_turn For (for_frame (control +ℤ increment) increment limit body ∷ below)
    (integer control ∷ []) body scene) tt
    (turned-takes (for_frame control increment limit body ∷ below) (command_of For) scene _)
frame_turn-takes around (forall_frame over at body) below scene =
    forall_turn-takes (forall_frame over at body ∷ below) over at body below scene
    (forall_operands scene.store over.what at)
frame_turn-takes around stopped_frame below scene =
    turned-takes (stopped_frame ∷ below) (command_of Stopped) (with_frames below scene) _
frame_turn-takes around (monitor_frame lock) below scene = tt
frame_turn-takes around (bind_frame over at depth) below scene =
    turned-takes (bind_frame over at depth ∷ below) (command_of Bind) scene _

unwound_turn-takes : (cause : Cause) (frame : Frame) (below : List Frame) (scene : Scene)
    → TakesOnly (frame ∷ below) (unwound_turn cause frame below scene)
unfolding unwound_turn
unwound_turn-takes cause (monitor_frame lock) below scene = tt
unwound_turn-takes for_stop stopped_frame below scene =
    turned-takes (stopped_frame ∷ below) (command_of Stopped) (with_frames below scene) _
unwound_turn-takes for_exit (repeat_frame _ _) below scene = tt
unwound_turn-takes for_exit (loop_frame _) below scene = tt
unwound_turn-takes for_exit (for_frame _ _ _ _) below scene = tt
unwound_turn-takes for_exit (forall_frame _ _ _) below scene = tt
unwound_turn-takes cause _ below scene = tt

turn_as-takes : (around : Around) (status : Status) (frames : List Frame) (scene : Scene)
    → TakesOnly frames (turn_as around status frames scene)
turn_as-takes around running (frame ∷ below) scene = frame_turn-takes around frame below scene
turn_as-takes around (unwinding cause) (frame ∷ below) scene =
    unwound_turn-takes cause frame below scene
turn_as-takes around _ _ scene = tt

-- ---- the world where the element is taken

part_of_all : (xs ys zs : List ℕ) → AreAmong xs zs → AreAmong ys zs → AreAmong (xs ++ ys) zs
part_of_all xs ys zs p q birth c = elim (Contains-append_cases xs ys birth c) [
  | inl a ↦ p birth a
  | inr b ↦ q birth b
]

module _ (w : World) (identifier : ℕ) (context : Context)
    (there : context_at w identifier ≡ Some context) (calling : Calling) (left : Machine)
    (leaves_it : own_step w.program false (machine_of w context) ≡ leaves_to_world calling left)
  where
    abbrev machine : Machine
    machine = machine_of w context

    abbrev turn : Turn
    turn = turn_as (around_of w.program machine) context.status context.frames (scene_of machine)

    is_left : IsLeft machine turn calling left
    unfolding own_step
    is_left = left_by false machine turn calling left leaves_it

    taken_frames : AreAmong (references_of_frames is_left.kept.frames)
        (references_of_frames context.frames)
    taken_frames = subst (TakesOnly context.frames) is_left.asks
        (turn_as-takes (around_of w.program machine) context.status context.frames
        (scene_of machine))

    kept_stays : stays is_left.kept ≡ stays (scene_of machine)
    kept_stays =
        (subst (Keeps (stays (scene_of machine))) is_left.asks
        (turn_as-keeps (around_of w.program machine) context.status context.frames
        (scene_of machine)).0).0

    abbrev kept_context : Context
    kept_context = (with_scene is_left.kept running machine).context

    context_among : AreAmong (references_of_context kept_context) (references_of_context context)
    context_among =
        let operands = references_of context.operands in
        let dictionaries = references_of context.dictionaries in
        let frames = references_of_frames context.frames in
        let status = references_of_status context.status in
        let behind_all = context.error_dictionary ∷ status in
        let front = operands ++ dictionaries in
        let stacks = front ++ frames in
        let to_front : AreAmong front (stacks ++ behind_all) = λ birth c.
        Contains-append_left stacks behind_all birth (Contains-append_left front frames birth c) in
        let two : references_of is_left.kept.operands ++ references_of is_left.kept.dictionaries
        ≡ front = ap (λ (x : Stays). references_of x.0 ++ references_of x.1) kept_stays in
        part_of_all ((references_of is_left.kept.operands
        ++ references_of is_left.kept.dictionaries) ++ references_of_frames is_left.kept.frames)
        (context.error_dictionary ∷ []) (stacks ++ behind_all)
        (part_of_all (references_of is_left.kept.operands
        ++ references_of is_left.kept.dictionaries) (references_of_frames is_left.kept.frames)
        (stacks ++ behind_all)
        (subst (λ xs. AreAmong xs (stacks ++ behind_all)) (sym two) to_front)
        (λ birth c. Contains-append_left stacks behind_all birth
        (Contains-append_right front frames birth (taken_frames birth c))))
        (λ birth c. Contains-append_right stacks behind_all birth
        (Contains-append_left (context.error_dictionary ∷ []) status birth c))

    -- of all contexts
    listed : (contexts : List (Option Context)) (place : ℕ)
        → context_in (slice_get contexts place) ≡ Some context
        → AreAmong (references_of_contexts (slice_set contexts place (left_of kept_context)))
        (references_of_contexts contexts)
    listed [] place at birth c = absurd (cc)
    listed (one ∷ others) zero at birth c =
        elim (Contains-append_cases (option_map_or references_of_context (left_of kept_context) [])
        (references_of_contexts others) birth c) [
          | inl a ↦
              Contains-append_left (option_map_or references_of_context one [])
              (references_of_contexts others) birth
              (subst (λ (o : Option Context). Contains (option_map_or references_of_context o [])
              birth) (sym (is_some one at))
              (context_among birth (of_left kept_context birth a)))
          | inr b ↦
              Contains-append_right (option_map_or references_of_context one [])
              (references_of_contexts others) birth b
        ]
      where
        is_some : (o : Option Context) → context_in (Some o) ≡ Some context → o ≡ Some context
        is_some None e = absurd (cc)
        is_some (Some x) e = e

        by_test : (test : Bool) (x : Context) (b : ℕ)
            → Contains (option_map_or references_of_context (if test then None else Some x) []) b
            → Contains (references_of_context x) b
        by_test true x b a = absurd (let low = a.1 in omega (arith, low))
        by_test false x b a = a

        of_left : (x : Context) (b : ℕ)
            → Contains (option_map_or references_of_context (left_of x) []) b
            → Contains (references_of_context x) b
        of_left x b a = by_test _ x b a
    listed (one ∷ others) (suc place) at birth c =
        let first = option_map_or references_of_context one [] in
        elim (Contains-append_cases first
        (references_of_contexts (slice_set others place (left_of kept_context))) birth c) [
          | inl a ↦ Contains-append_left first (references_of_contexts others) birth a
          | inr b ↦ Contains-append_right first (references_of_contexts others) birth
              (listed others place at birth b)
        ]

    left_context : left.context ≡ kept_context
    left_context = sym (ap (λ (m : Machine). m.context) is_left.is)

    left_store : left.store ≡ w.store
    left_store = sym (ap (λ (m : Machine). m.store) is_left.is) ∙ ap (λ (x : Stays). x.2) kept_stays

    contexts_among : (place : ℕ) → context_at w place ≡ Some context
        → AreAmong (references_of_contexts (contexts_with w.contexts place (left_of kept_context)))
        (references_of_contexts w.contexts)
    unfolding context_at
    contexts_among zero at birth c = absurd (cc)
    contexts_among (suc place) at birth c = listed w.contexts place at birth c

    roots_among : AreAmong (roots (with_machine identifier w left)) (roots w)
    unfolding roots with_context
    roots_among =
        let all : AreAmong (references_of_contexts
        (contexts_with w.contexts identifier (left_of left.context)))
        (references_of_contexts w.contexts) =
        subst (λ (x : Context). AreAmong (references_of_contexts
        (contexts_with w.contexts identifier (left_of x))) (references_of_contexts w.contexts))
        (sym left_context) (contexts_among identifier there) in
        λ birth c. first_two _ _ birth (all birth) c
      where
        first_two : (xs ys : List ℕ) (b : ℕ) → (Contains xs b → Contains ys b)
            → Contains (0 ∷ 1 ∷ xs) b → Contains (0 ∷ 1 ∷ ys) b
        first_two xs ys b part c =
            elim (Contains-append_cases (0 ∷ 1 ∷ []) xs b c) [
              | inl a ↦ Contains-append_left (0 ∷ 1 ∷ []) ys b a
              | inr r ↦ Contains-append_right (0 ∷ 1 ∷ []) ys b (part r)
            ]

    pub taken-reachable : (birth : ℕ) → IsReachable (with_machine identifier w left) birth
        → IsReachable w birth
    taken-reachable birth (is_root root) = is_root (roots_among birth root)
    taken-reachable birth (is_named {from = from} reach names) =
        is_named (taken-reachable from reach)
        (subst (λ store. Contains (references_at store from) birth) left_store names)

    -- ---- so no more lives

    less_reached : (p q : ℕ → Bool) → ((n : ℕ) → IsTrue (p n) → IsTrue (q n)) → (birth : ℕ)
        (store : Store) → words_reached p birth store ≤ words_reached q birth store
    unfolding words_reached
    less_reached p q part birth [] = omega arith
    less_reached p q part birth (object ∷ objects) =
        by_tests (p birth) (q birth) (size_of object) (words_reached p (suc birth) objects)
        (words_reached q (suc birth) objects) (part birth)
        (less_reached p q part (suc birth) objects)
      where
        by_tests : (a b : Bool) (size m n : ℕ) → (IsTrue a → IsTrue b) → m ≤ n
            → (if a then size else 0) + m ≤ (if b then size else 0) + n
        by_tests true true size m n more le = omega (arith, le)
        by_tests true false size m n more le = absurd (let bad = more refl in cc)
        by_tests false true size m n more le = omega (arith, le)
        by_tests false false size m n more le = omega (arith, le)

    pub taken-less : (m n : ℕ) → Live (with_machine identifier w left) m → Live w n → m ≤ n
    taken-less m n a b =
        let less = less_reached a.reached b.reached (λ birth is.
        (b.exact birth).1 (taken-reachable birth ((a.exact birth).0 is))) 0 w.store in
        let first : m ≡ words_reached a.reached 0 w.store =
        a.total ∙ ap (words_reached a.reached 0) left_store in
        let second = b.total in
        omega (arith, less, first, second)
