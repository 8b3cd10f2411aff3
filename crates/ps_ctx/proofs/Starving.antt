-- Why steps that are not made are held up.
use Rattle.std.proofs.Common.{◌≡◌, ℕ, ℤ, suc, ◌+◌, ◌<◌, ◌≤◌, Bool, true, false, Option, Some, Err, refl, sym, ap, subst}
use Rattle.std.proofs.Common.{◌∙◌, arith}
use Rattle.std.proofs.lemmas.Bool.{true≢false}
use Rattle.std.proofs.lemmas.Bool.Decides.{nat_tests}
use Rattle.std.specs.Prelude.{◌&&◌, ◌||◌, nat_lt, if◌then◌else◌}
use Rattle.std.specs.Option.{option_map_or}
use Rattle.ps_language.specs.Contexts.{context_at}
use Rattle.ps_language.specs.Effect.{Around, Scene}
use Rattle.ps_language.specs.Machines.{may_end, around_of, scene_of, turn_as, own_step}
use Rattle.ps_language.specs.Step.{machine_of, with_machine}
use Rattle.ps_language.specs.Objects.{lacks_room}
use Rattle.ps_language.specs.StepValues.{Turn, goes, tries, breaks, errs, asks as leaves_to}
use Rattle.ps_language.specs.World.{for_stop, for_exit, for_quit, Status, running, unwinding, again, waiting, retaking}
use Rattle.ps_language.specs.World.{finished, Context, Machine, World}
use Rattle.ps_mem.specs.Heap.{Heap, Grants, birth_at, has_room}
use Rattle.ps_ops_operands.specs.declared.failure.NotMade.{NotMade as Reason}
use Rattle.ps_ops_operands.specs.declared.failure.NotMade.TheVariants.{LogFull, LogClosed, NeedSpace, Memory}
use Rattle.ps_ops_operands.specs.Changes.{most_records}
use Rattle.ps_ops_control.specs.declared.frames.Cause.{Cause}
use Rattle.ps_ops_state.specs.declared.lent.Attempt.{Attempt}
use Rattle.ps_ops_state.specs.Acts.{Asked, Needs, AreFew, IsReason, IsSame}
use Rattle.ps_ops_state.specs.Lent as lents
use Rattle.ps_ops_state.specs.Lent.{Lent, IsShown}
use Rattle.ps_step_outcome.specs.Turns.{IsUnlogged, Turns, calling_of, turn_needs, needs_in}
use Rattle.ps_step_interpreter.specs.Interprets.{status_in, asks_in, own_turn}
use Rattle.ps_step_interpreter.specs.Needs.{wants_rooms, wants}
use Rattle.ps_language.proofs.LeftTurns.{IsLeft, left_by}
use Rattle.ps_step_interpreter.proofs.Unmade.{wanted}
use Rattle.ps_ctx_table.specs.declared.members.Member.{Member}
use Rattle.ps_ctx_table.specs.Seats.{item_at}
use Rattle.ps_ctx_table.specs.Worlds.{status_of, context_of}
use Rattle.ps_ctx_table.specs.Desks.{Desk, lent_to, IsWorld}
use Rattle.ps_ctx_table.proofs.Stepping.{context_there}
use Rattle.ps_ctx_table.proofs.Turning.{member_at}
use Rattle.ps_ctx.specs.declared.worlds.Calling.{Calling}
use Rattle.ps_ctx.specs.Calls.{Calls, IsHeldUpAs, call_wants}
use Rattle.ps_ctx.specs.Growth.{Growth, no_growth, growth_for, growth_of_both, may_fail}
use Rattle.ps_ctx.specs.Held.{IsCalling, course_in}
use Rattle.ps_ctx.specs.Needs.{left_wants, own_wants, wants_as, step_wants}
use Rattle.ps_ctx.proofs.Owning.{status_same, may_in}
use Rattle.ps_ctx.proofs.Calling.{there}

-- ---- growth that may fail

pub or_true : (a b : Bool) → b ≡ true → a || b ≡ true
or_true true b h = refl
or_true false b h = h

or_first : (a b : Bool) → a ≡ true → a || b ≡ true
or_first true b h = refl
or_first false b h = absurd (cc)

-- of what is asked for, that of objects may come first
regrouped : (bytes names words grows lists : Bool)
    → bytes || (names || ((words && grows) || lists)) ≡ true
    → (words && grows) || (bytes || (names || ((words && false) || lists))) ≡ true
regrouped true names words grows lists h = or_true (words && grows) _ refl
regrouped false true words grows lists h = or_true (words && grows) _ refl
regrouped false false true true lists h = refl
regrouped false false true false lists h = h
regrouped false false false grows lists h = h

pub failing : (grows : Bool) (needs : Needs) → wants grows needs ≡ true
    → may_fail grows (growth_for needs) ≡ true
failing grows needs h =
    regrouped (nat_lt 0 needs.bytes) (nat_lt 0 needs.names) (nat_lt 0 needs.words) grows
    (wants_rooms needs.scratch) h

-- what fails of one fails of the other, and has the same words and birth numbers if it has words
pub record IsPart (one other : Growth) : Type 0 where
  pub words : 1 ≤ one.words → other.words ≡ one.words
  pub births : 1 ≤ one.words → other.births ≡ one.births
  pub fails : (grows : Bool) → may_fail grows one ≡ true → may_fail grows other ≡ true

-- one that may want more is held up by the same
pub held_more : (one other : Growth) → IsPart one other → (slot : ℕ) (heap : Heap)
    (grants : Grants) (reason : Reason) → IsHeldUpAs one slot heap grants reason
    → IsHeldUpAs other slot heap grants reason
held_more one other part slot heap grants LogFull held = held
held_more one other part slot heap grants LogClosed held = held
held_more one other part slot heap grants (NeedSpace words) held =
    let some : 1 ≤ one.words = subst (λ n. 1 ≤ n) held.0 held.1 in (
      held.0 ∙ sym (part.words some),
      held.1,
      (λ i. has_room heap (part.words some i) (part.births some i)) ∙ held.2,
    )
held_more one other part slot heap grants Memory held = part.fails heap.space.grows held

-- of two the first is a part, if the other has no words where it has some; so is the second
more_words : (m n : ℕ) → nat_lt 0 m ≡ true → nat_lt 0 (m + n) ≡ true
more_words m n h = grind (arith, nat_tests)

words_more : (m n : ℕ) → nat_lt 0 n ≡ true → nat_lt 0 (m + n) ≡ true
words_more m n h = grind (arith, nat_tests)

either : (few more grows one other : Bool) → (few ≡ true → more ≡ true)
    → (one ≡ true → other ≡ true) → (few && grows) || one ≡ true → (more && grows) || other ≡ true
either true more true one other some beside h =
    or_first _ _ (ap (λ b. b && true) (some refl))
either true more false one other some beside h = or_true (more && false) _ (beside h)
either false more grows one other some beside h = or_true (more && grows) _ (beside h)

pub first_part : (one other : Growth) → (1 ≤ one.words → other.words ≡ 0)
    → (1 ≤ one.words → other.births ≡ 0) → IsPart one (growth_of_both one other)
first_part one other none unborn = record {
  words = λ some. let no = none some in omega (arith, no);
  births = λ some. let no = unborn some in omega (arith, no);
  fails = λ grows h.
      either (nat_lt 0 one.words) _ grows one.beside _ (more_words one.words other.words)
      (or_first one.beside other.beside) h;
}

pub second_part : (one other : Growth) → one.words ≡ 0 → one.births ≡ 0
    → IsPart other (growth_of_both one other)
second_part one other none unborn = record {
  words = λ some. omega (arith, none);
  births = λ some. omega (arith, unborn);
  fails = λ grows h.
      either (nat_lt 0 other.words) _ grows other.beside _ (words_more one.words other.words)
      (or_true one.beside other.beside) h;
}

-- what is asked for, where nothing but objects is
first_alone : (a b : Bool) → b ≡ false → a || b ≡ true → a ≡ true
first_alone true b none h = refl
first_alone false b none h = absurd (true≢false (sym h ∙ none))

both_first : (a b : Bool) → a && b ≡ true → a ≡ true
both_first true b h = refl
both_first false b h = h

pub words_part : (needs : Needs) (wanted : Growth) → wants false needs ≡ false
    → (1 ≤ needs.words → wanted.words ≡ needs.words)
    → (1 ≤ needs.words → wanted.births ≡ needs.births) → IsPart (growth_for needs) wanted
words_part needs wanted none same born = record {
  words = same;
  births = born;
  fails = λ grows h.
      let words : nat_lt 0 needs.words && grows ≡ true = first_alone _ _ none h in
      let one : nat_lt 0 needs.words ≡ true = both_first _ grows words in
      let some : 1 ≤ needs.words = grind (arith, nat_tests) in
      or_first _ _ (ap (λ n. nat_lt 0 n && grows) (same some) ∙ words);
}

-- no step asks for fewer records than one that asks for one
pub unlogged_held : (wanted : Growth) (slot : ℕ) (heap : Heap) (asked left : Grants)
    → left.closed ≡ asked.closed → (reason : Reason) → IsUnlogged 1 slot asked left reason
    → IsHeldUpAs wanted slot heap left reason
unlogged_held wanted slot heap asked left closed LogFull why =
    let less = why.1 in
    (ap (λ (c : ℕ → Bool). c slot) closed ∙ why.0, omega (arith, less))
unlogged_held wanted slot heap asked left closed LogClosed why =
    ap (λ (c : ℕ → Bool). c slot) closed ∙ why
unlogged_held wanted slot heap asked left closed (NeedSpace words) why = absurd why
unlogged_held wanted slot heap asked left closed Memory why = absurd why

-- ---- by what a turn asks for

-- no turn asks for more records than any step may put
few_either : (lacks : Bool) (one other : Needs) → one.records ≤ most_records
    → other.records ≤ most_records → (if lacks then one else other).records ≤ most_records
few_either true one other h k = h
few_either false one other h k = k

few_told : (told : Bool) (n : ℕ) → n < most_records → (if told then suc n else n) ≤ most_records
few_told true n h = h
few_told false n h = omega (arith, h)

pub few_in : (refused : Bool) (asked : Asked) (birth : ℕ) (before : Scene) (turn : Turn)
    → asked.records < most_records
    → (turn_needs refused asked birth before turn).records ≤ most_records
few_in refused asked birth before (goes scene output) few = omega (arith, few)
few_in refused asked birth before (tries command kept scene output) few =
    few_either (lacks_room refused kept.store scene.store) _ _ (omega arith) (omega (arith, few))
few_in refused asked birth before (breaks for_stop scene) few =
    few_told _ asked.records few
few_in refused asked birth before (breaks for_exit scene) few = omega (arith, few)
few_in refused asked birth before (breaks for_quit scene) few = omega (arith, few)
few_in refused asked birth before (errs error command kept) few = omega arith
few_in refused asked birth before (leaves_to calling kept) few = omega arith

no_first : (a b : Bool) → a || b ≡ false → a ≡ false
no_first true b h = h
no_first false b h = refl

-- what doesn't fit lies in a memory that doesn't grow
pub not_grows : (h : Heap) (words births : ℕ) → has_room h words births ≡ false
    → h.space.grows ≡ false
unfolding has_room
not_grows h words births full = no_first h.space.grows _ full

pub held_by : (needs : Needs) (slot : ℕ) (old new : Lent) (reason : Reason)
    → needs.records ≤ most_records → IsSame old new → new.grants.closed ≡ old.grants.closed
    → IsReason needs slot old new reason
    → IsHeldUpAs (growth_for needs) slot new.heap new.grants reason
held_by needs slot old new LogFull few same closed why =
    let less = why.1 in
    (ap (λ (c : ℕ → Bool). c slot) closed ∙ why.0, omega (arith, less, few))
held_by needs slot old new LogClosed few same closed why =
    ap (λ (c : ℕ → Bool). c slot) closed ∙ why.1
held_by needs slot old new (NeedSpace words) few same closed why = (
  why.0,
  why.1,
  ap (λ (l : Lent). has_room l.heap needs.words needs.births) same ∙ why.2,
)
held_by needs slot old new Memory few same closed why =
    ap (λ (l : Lent). may_fail l.heap.space.grows (growth_for needs)) same
    ∙ failing old.heap.space.grows needs (wanted needs slot old new why)

-- ---- by the status

module _ (asks : Status → Around → Scene → Asked) (identifier : ℕ) (refused : Bool) (w : World)
    (context : Context) (found : context_at w identifier ≡ Some context) where
  -- of a context that is there
  pub wants_there : step_wants asks identifier refused w
      ≡ wants_as asks context.status identifier refused w (machine_of w context)
  wants_there =
      ap (λ (one : Option Context). option_map_or (λ it.
      wants_as asks it.status identifier refused w (machine_of w it)) one no_growth) found

  own_as : (status : Status) → may_end status ≡ true → (machine : Machine)
      → wants_as asks status identifier refused w machine
      ≡ own_wants asks identifier refused w machine
  own_as running may machine = refl
  own_as (unwinding cause) may machine = refl
  own_as again may machine = cc
  own_as (waiting lock condition) may machine = cc
  own_as (retaking lock) may machine = cc
  own_as finished may machine = cc

  pub wants_own : may_end context.status ≡ true → step_wants asks identifier refused w
      ≡ own_wants asks identifier refused w (machine_of w context)
  wants_own may = wants_there ∙ own_as context.status may (machine_of w context)

-- ---- its own turn

-- what asks for objects leaves no operator to the world
left_none : (identifier : ℕ) (refused : Bool) (w : World) (machine : Machine) (asked : Asked)
    (birth : ℕ) (before : Scene) (turn : Turn)
    → 1 ≤ (turn_needs refused asked birth before turn).words
    → left_wants identifier refused w machine turn ≡ no_growth
left_none identifier refused w machine asked birth before (goes scene output) some = refl
left_none identifier refused w machine asked birth before (tries command kept scene output) some =
    refl
left_none identifier refused w machine asked birth before (breaks cause scene) some = refl
left_none identifier refused w machine asked birth before (errs error command kept) some = refl
left_none identifier refused w machine asked birth before (leaves_to calling kept) some =
    absurd (omega (arith, some))

module _ (asks : Status → Around → Scene → Asked) (unwinding : Option Cause) (d : Desk)
    (identifier : ℕ) (member : Member) (found : item_at d.members identifier ≡ Some member)
    (is : member.course ≡ course_in unwinding) (attempt : Attempt) (few : AreFew asks)
    (reason : Reason) (new : Lent)
    (unmade : Turns (asks_in asks unwinding) (own_turn unwinding) attempt (Err reason)
    (lent_to d member.context) new) (w : World) (at : IsWorld d w) where
  abbrev l : Lent
  l = lent_to d member.context

  abbrev machine : Machine
  machine = machine_of w (context_of d.heap d.names member)

  status_is : status_of (birth_at d.heap) member.course ≡ status_in unwinding
  status_is =
      ap (status_of (birth_at d.heap)) is ∙ status_same (birth_at d.heap) unwinding

  abbrev machine_asked : Asked
  machine_asked = asks machine.context.status (around_of w.program machine) (scene_of machine)

  abbrev machine_turn : Turn
  machine_turn = turn_as (around_of w.program machine) machine.context.status
      machine.context.frames (scene_of machine)

  abbrev machine_needs : Needs
  machine_needs = turn_needs attempt.refused machine_asked machine.context.error_dictionary
      (scene_of machine) machine_turn

  -- what the machine's turn asks for is what that of what is lent asks for
  needs_same : machine_needs
      ≡ needs_in attempt (asks_in asks unwinding) (own_turn unwinding) l w.store
  needs_same = λ i. turn_needs attempt.refused
      (asks (status_is i) (record {
        program = at.program i;
        error_dictionary = birth_at d.heap member.context.error_dictionary;
      }) (record (lents.scene_of l w.store) { names = at.names i }))
      (birth_at d.heap member.context.error_dictionary)
      (record (lents.scene_of l w.store) { names = at.names i })
      (turn_as (record {
        program = at.program i;
        error_dictionary = birth_at d.heap member.context.error_dictionary;
      }) (status_is i) (lents.scene_of l w.store).frames
      (record (lents.scene_of l w.store) { names = at.names i }))

  own_may : may_end machine.context.status ≡ true
  own_may = ap may_end status_is ∙ may_in unwinding

  -- that is a part of what the step may want
  own_part : IsPart (growth_for (needs_in attempt (asks_in asks unwinding) (own_turn unwinding) l
      w.store)) (step_wants asks identifier attempt.refused w)
  own_part =
      subst (λ (needs : Needs). IsPart (growth_for needs)
      (step_wants asks identifier attempt.refused w)) needs_same
      (subst (IsPart (growth_for machine_needs)) (sym (wants_own asks identifier attempt.refused w
      (context_of d.heap d.names member) (context_there d w at identifier member found) own_may))
      (first_part (growth_for machine_needs)
      (left_wants identifier attempt.refused w machine machine_turn)
      (λ some. ap (λ (g : Growth). g.words) (none_left_by some))
      (λ some. ap (λ (g : Growth). g.births) (none_left_by some))))
    where
      none_left_by : 1 ≤ machine_needs.words
          → left_wants identifier attempt.refused w machine machine_turn ≡ no_growth
      none_left_by = left_none identifier attempt.refused w machine machine_asked
          machine.context.error_dictionary (scene_of machine) machine_turn

  pub own_held : IsHeldUpAs (step_wants asks identifier attempt.refused w) attempt.slot new.heap
      new.grants reason
  own_held =
      let by = unmade.meets w.store (member_at (λ one. IsShown (lent_to d one.context) w.store)
      d.members identifier member at.members found) in
      let needs : Needs = needs_in attempt (asks_in asks unwinding) (own_turn unwinding) l w.store in
      let fewer : needs.records ≤ most_records =
      few_in attempt.refused (asks_in asks unwinding l w.store)
      (birth_at l.heap l.error_dictionary) (lents.scene_of l w.store)
      (own_turn unwinding l w.store) (few (status_in unwinding) _ _) in
      held_more (growth_for needs) (step_wants asks identifier attempt.refused w) own_part attempt.slot
      new.heap new.grants reason
      (held_by needs attempt.slot l new reason fewer by.did.1 by.logs.closed by.did.0)

-- ---- a call

module _ (asks : Status → Around → Scene → Asked) (calling : Calling) (attempt : Attempt)
    (shown : Option (ℤ × ℤ)) (old new : Desk) (w : World) (at : IsCalling calling old w)
    (reason : Reason)
    (calls : Calls calling.operator calling.caller attempt shown (Err reason) old new) where
  abbrev caller_machine : Machine
  caller_machine = machine_of w at.context

  abbrev caller_turn : Turn
  caller_turn = turn_as (around_of w.program caller_machine) at.context.status at.context.frames
      (scene_of caller_machine)

  is_left : IsLeft caller_machine caller_turn (calling_of calling.operator) at.left
  unfolding own_step
  is_left = left_by false caller_machine caller_turn (calling_of calling.operator) at.left
      (at.leaves false)

  abbrev call_growth : Growth
  call_growth = call_wants (calling_of calling.operator) calling.caller attempt.refused
      (with_machine calling.caller w at.left) at.left.context

  -- of a turn that leaves the operator to the world
  left_is : left_wants calling.caller attempt.refused w caller_machine caller_turn ≡ call_growth
  left_is =
      ap (left_wants calling.caller attempt.refused w caller_machine) is_left.asks
      ∙ ap (λ (left : Machine). call_wants (calling_of calling.operator) calling.caller
      attempt.refused (with_machine calling.caller w left) left.context) is_left.is

  abbrev caller_needs : Turn → Needs
  caller_needs turn = turn_needs attempt.refused
      (asks at.context.status (around_of w.program caller_machine) (scene_of caller_machine))
      caller_machine.context.error_dictionary (scene_of caller_machine) turn

  call_part : IsPart call_growth (step_wants asks calling.caller attempt.refused w)
  call_part =
      subst (IsPart call_growth) (sym (wants_own asks calling.caller attempt.refused w at.context
      at.found at.goes_on ∙ ap (growth_of_both (growth_for (caller_needs caller_turn))) left_is))
      (second_part (growth_for (caller_needs caller_turn)) call_growth
      (ap (λ (turn : Turn). (caller_needs turn).words) is_left.asks)
      (ap (λ (turn : Turn). (caller_needs turn).births) is_left.asks))

  pub call_held : IsHeldUpAs (step_wants asks calling.caller attempt.refused w) attempt.slot new.heap
      new.grants reason
  call_held =
      held_more call_growth (step_wants asks calling.caller attempt.refused w) call_part attempt.slot
      new.heap new.grants reason
      (calls.held_up reason refl (with_machine calling.caller w at.left) at.left.context at.world
      (there calling attempt shown old new w at))
