-- What an operator came to, as a step.
use Rattle.std.proofs.Common.{◌≡◌, ℕ, zero, suc, ◌≤◌, arith, Bool, true, false, IsTrue, List, ◌++◌, length, Ok, Err}
use Rattle.std.proofs.Common.{refl, sym, ap, subst, ◌∙◌, inl, inr}
use Rattle.std.specs.Prelude.{Result}
use Rattle.ps_language.specs.declared.errors.ErrorName.{ErrorName}
use Rattle.ps_language.specs.declared.errors.ErrorName.TheVariants.{VmError}
use Rattle.ps_language.specs.declared.operators.Operator.{Operator}
use Rattle.ps_language.specs.Value.{Store}
use Rattle.ps_language.specs.World.{Cause as TheCause, for_stop, for_exit, for_quit, running, Machine}
use Rattle.ps_language.specs.Effect.{Scene, Effect, makes, unwinds, raises, calls}
use Rattle.ps_language.specs.Objects.{lacks_room}
use Rattle.ps_language.specs.StepValues.{Turn, breaks, command_of, effect_turn}
use Rattle.ps_language.specs.Machines.{with_scene, settled, reaches, after_turn, erred}
use Rattle.ps_mem.specs.Heap.{birth_at}
use Rattle.ps_ops_operands.specs.declared.failure.NotMade.{NotMade as Reason}
use Rattle.ps_ops_operands.specs.declared.failure.NotMade.TheVariants.{LogFull, LogClosed, NeedSpace, Memory}
use Rattle.ps_ops_operands.specs.Changes.{KeepsLogsWithin, most_records}
use Rattle.ps_ops_control.specs.declared.frames.Cause.{Cause}
use Rattle.ps_ops_control.specs.Turns.{cause_of}
use Rattle.ps_ops_state.specs.declared.breaks.Break.{Break}
use Rattle.ps_ops_state.specs.declared.breaks.Break.TheVariants.{Unwinds, Raises, NotMade}
use Rattle.ps_ops_state.specs.declared.lent.Attempt.{Attempt}
use Rattle.ps_ops_state.specs.Lent.{Lent, Rooms, rooms_of, scene_of, IsShown}
use Rattle.ps_ops_state.specs.Acts.{Asked, Needs, no_rooms, LacksRooms, needs_of_refused, needs_as, lacks, names_formed}
use Rattle.ps_ops_state.specs.Acts.{IsReason, Lasts, IsLeft, IsSame, IsRefused, Stays, ActsAs}
use Rattle.ps_ops_state.proofs.Meeting.{lasts-same, at_least-same, logs_then, AreNeedsWithin, needs_within-same, reason_more}
use Rattle.ps_step_outcome.specs.declared.turned.Turned.{Turned}
use Rattle.ps_step_outcome.specs.declared.turned.Turned.TheVariants.{Goes, Calls, Breaks, Ends}
use Rattle.ps_step_outcome.specs.Turns.{LeavesHeap, IsTurned, TurnsBy, error_needs, none_asked, break_needs, break_turn}
use Rattle.ps_step_outcome.specs.Turns.{operator_error, nothing_more, turn_needs, needs_in}
use Rattle.ps_ops.specs.Operators.{asked_of}
use Rattle.ps_ops.specs.Turns.{asked_by}

-- ---- a step whose rest is another

-- mid: once an operator broke off; the names that it formed are the only new ones
module _ (attempt : Attempt) (l mid new : Lent) (names : List (List ℕ))
    (same : mid ≡ record l
    { grants = mid.grants; room = mid.room; names = names; scratch = mid.scratch })
    (first : KeepsLogsWithin 0 l.grants mid.grants attempt.slot) (stays : Stays l mid) where
  abbrev named_as_before : Lent
  named_as_before = record new { names = l.names }

  same_printed : mid.printed ≡ l.printed
  same_printed = ap (λ (m : Lent). m.printed) same

  same_birth : birth_at mid.heap mid.error_dictionary ≡ birth_at l.heap l.error_dictionary
  same_birth = ap (λ (m : Lent). birth_at m.heap m.error_dictionary) same

  still : (turned : Turned) → LeavesHeap turned mid.heap new.heap
      → LeavesHeap turned l.heap new.heap
  still (Calls operator) left = left ∙ ap (λ (m : Lent). m.heap) same
  still Goes left = tt
  still (Breaks cause) left = tt
  still (Ends told) left = tt

  then_turned : (s t : Store) (whole rest : Turn) (turned : Turned) → Lasts s t
      → ((machine : Machine)
      → after_turn attempt.refused machine whole ≡ after_turn attempt.refused machine rest)
      → IsTurned attempt.refused rest turned t mid new
      → IsTurned attempt.refused whole turned s l new
  then_turned s t whole rest turned lasts comes by = record {
    after = by.after;
    shown = by.shown;
    lasts = λ birth.
        let one = lasts birth in
        let other = by.lasts birth in
        omega (arith, one, other);
    leaves = still turned by.leaves;
    is = λ machine printed address.
        comes machine ∙ by.is machine (printed ∙ sym same_printed) (address ∙ sym same_birth);
  }

  then_logs : (most : ℕ) → KeepsLogsWithin most mid.grants new.grants attempt.slot
      → KeepsLogsWithin most l.grants new.grants attempt.slot
  then_logs most later = logs_then 0 most most l.grants mid.grants new.grants attempt.slot (omega arith) first later

  then_same : IsSame mid new → IsSame l named_as_before
  then_same later =
      ap (λ (n : Lent). record n { names = l.names }) later
      ∙ ap (λ (m : Lent). record m {
        grants = new.grants;
        room = new.room;
        names = l.names;
        scratch = new.scratch;
      }) same

  closed_is : (b : Bool) → mid.grants.closed attempt.slot ≡ b → l.grants.closed attempt.slot ≡ b
  closed_is b is = ap (λ (c : ℕ → Bool). c attempt.slot) (sym first.closed) ∙ is

  less_room : l.room ≤ mid.room
  less_room =
      let capacity = stays.capacity in
      let printed = ap length same_printed in
      omega (arith, capacity, printed)

  lists_before : (needs : Rooms) → LacksRooms (rooms_of mid.scratch) needs
      → LacksRooms (rooms_of l.scratch) needs
  lists_before needs (inl less) =
      let text = stays.scratch.text in inl (omega (arith, text, less))
  lists_before needs (inr (inl less)) =
      let sought = stays.scratch.sought in inr (inl (omega (arith, sought, less)))
  lists_before needs (inr (inr less)) =
      let words = stays.scratch.words in inr (inr (omega (arith, words, less)))

  -- of a rest that asks for no words
  then_reason : (rest whole : Needs) → AreNeedsWithin rest whole → rest.words ≡ 0
      → (reason : Reason) → IsReason rest attempt.slot mid new reason
      → IsReason whole attempt.slot l named_as_before reason
  then_reason rest whole within none reason why =
      reason_more rest whole within attempt.slot l named_as_before reason (before reason why)
    where
      before : (reason : Reason) → IsReason rest attempt.slot mid new reason
          → IsReason rest attempt.slot l named_as_before reason
      before LogFull why = (closed_is false why.0, why.1)
      before LogClosed why = (why.0, subst IsTrue (sym (closed_is _ refl)) why.1)
      before (NeedSpace words) why =
          let is = why.0 in
          let some = why.1 in
          absurd (omega (arith, is, some, none))
      before Memory (inl less) = let room = less_room in inl (omega (arith, less, room))
      before Memory (inr (inl some)) = inr (inl some)
      before Memory (inr (inr (inl grown))) =
          let some = grown.0 in absurd (omega (arith, some, none))
      before Memory (inr (inr (inr lists))) = inr (inr (inr (lists_before rest.scratch lists)))

-- a refused step that is not noted lacks no less than one that is
unnoted_within : (names : ℕ) (asked : Asked) (needs : Needs)
    → needs ≡ record needs {
      names = names;
      records = most_records;
      words = 0;
      births = 0;
      scratch = asked.scratch;
    } → AreNeedsWithin (needs_of_refused asked.scratch names) needs
unnoted_within zero asked needs is = subst (AreNeedsWithin _) (sym is) (record {
  bytes = omega arith;
  names = omega arith;
  records = omega arith;
  words = refl;
  births = refl;
  scratch = at_least-same asked.scratch;
})
unnoted_within (suc names) asked needs is = subst (AreNeedsWithin _) (sym is) (record {
  bytes = omega arith;
  names = omega arith;
  records = omega arith;
  words = refl;
  births = refl;
  scratch = at_least-same asked.scratch;
})

-- an unwinding asks for no words
no_words : (cause : TheCause) (birth : ℕ) (scene : Scene)
    → (break_needs none_asked birth cause scene).words ≡ 0
no_words for_stop birth scene = refl
no_words for_exit birth scene = refl
no_words for_quit birth scene = refl

-- ---- for a store

module _ (operator : Operator) (attempt : Attempt) (l : Lent) (store : Store) where
  abbrev before : Scene
  before = scene_of l store

  abbrev birth : ℕ
  birth = birth_at l.heap l.error_dictionary

  abbrev whole : Effect → Turn
  whole effect = effect_turn operator before effect

  abbrev needs : Effect → Needs
  needs effect =
      turn_needs attempt.refused (asked_by effect before (asked_of operator)) birth before
      (whole effect)

  abbrev TurnsIn : Result Turned Reason → Effect → Lent → Type 0
  TurnsIn result effect new = TurnsBy (needs effect) attempt result (whole effect) store l new

  abbrev DidIn : Result Unit Break → Effect → Bool → Lent → Type 0
  DidIn result effect lacking new =
      ActsAs (needs_as (asked_of operator before) before effect lacking) attempt.slot before result
      effect lacking l new

  abbrev Lacking : Effect → Bool → Type 0
  Lacking effect lacking = lacks attempt.refused before effect ≡ lacking

  -- it goes on
  pub goes_as : (new : Lent) (effect : Effect) (lacking : Bool) → Lacking effect lacking
      → DidIn (Ok tt) effect lacking new
      → KeepsLogsWithin (asked_of operator before).records l.grants new.grants attempt.slot
      → TurnsIn (Ok Goes) effect new
  goes_as new (makes scene output) false enough did logs = record {
    did = record {
      after = scene.store;
      shown = did.0.shown;
      lasts = did.0.lasts;
      leaves = tt;
      is = λ machine printed address. rw enough (λ i. reaches (settled (record
          (with_scene (sym did.0.is i) running machine)
          { printed = (ap (λ bytes. bytes ++ output) printed ∙ sym did.1) i })));
    };
    logs = rw enough logs;
  }
  goes_as new (makes scene output) true enough did logs = absurd did
  goes_as new (unwinds cause scene) lacking enough did logs = absurd did
  goes_as new (raises error) lacking enough did logs = absurd did
  goes_as new (calls deed) lacking enough did logs = absurd did

  -- it is not made
  pub not_made_as : (reason : Reason) (new : Lent) (effect : Effect) (lacking : Bool)
      → Lacking effect lacking → DidIn (Err (NotMade reason)) effect lacking new
      → KeepsLogsWithin 0 l.grants new.grants attempt.slot → TurnsIn (Err reason) effect new
  not_made_as reason new (makes scene output) false enough did logs = record {
    did = (rw enough did.0, did.1);
    logs = logs;
  }
  not_made_as reason new (makes scene output) true enough did logs = record {
    did = (
      rw enough (reason_more _ _ (unnoted_within (names_formed before scene)
          (asked_of operator before) _ refl) attempt.slot l new reason did.0),
      did.1,
    );
    logs = logs;
  }
  not_made_as reason new (unwinds for scene) lacking enough did logs = absurd did
  not_made_as reason new (raises error) lacking enough did logs = absurd did
  not_made_as reason new (calls deed) lacking enough did logs = absurd did

  -- ---- it breaks off

  module _ (shown : IsShown l store) (mid new : Lent)
      (first : KeepsLogsWithin 0 l.grants mid.grants attempt.slot) (stays : Stays l mid) where
    -- the rest, over each store that is shown then
    abbrev Rests : (Lent → Store → Turn) → Result Turned Reason → Type 0
    Rests rest result = (t : Store) → IsShown mid t
        → TurnsBy (needs_in attempt nothing_more rest mid t) attempt result (rest mid t) t mid new

    abbrev breaks_mid : Cause → Lent → Store → Turn
    breaks_mid cause = break_turn (cause_of cause)

    broken_needs : (cause : Cause) (for : TheCause) (scene : Scene) → cause_of cause ≡ for
        → IsLeft store mid scene → IsSame l mid
        → needs_in attempt nothing_more (breaks_mid cause) mid scene.store
        ≡ needs (unwinds for scene)
    broken_needs cause for scene for_is left same =
        (λ i. break_needs none_asked (same_birth attempt l mid new l.names same first stays i) (for_is i)
        (left.is i))

    pub breaks_as : (cause : Cause) (turned : Turned) (effect : Effect) (lacking : Bool)
        → DidIn (Err (Unwinds cause)) effect lacking mid → Rests (breaks_mid cause) (Ok turned)
        → TurnsIn (Ok turned) effect new
    breaks_as cause turned (unwinds for scene) lacking did rests =
        let by = rests scene.store did.1.shown in
        record {
          did = then_turned attempt l mid new l.names did.2 first stays store scene.store
              (breaks for scene) (breaks_mid cause mid scene.store) turned did.1.lasts
              (λ machine. λ i. after_turn attempt.refused machine
              (breaks (sym did.0 i) (sym did.1.is i)))
              by.did;
          logs = subst (λ (n : Needs).
              KeepsLogsWithin n.records l.grants new.grants attempt.slot)
              (broken_needs cause for scene did.0 did.1 did.2)
              (then_logs attempt l mid new l.names did.2 first stays _ by.logs);
        }
    breaks_as cause turned (makes scene output) true did rests = absurd did
    breaks_as cause turned (makes scene output) false did rests = absurd did
    breaks_as cause turned (raises error) lacking did rests = absurd did
    breaks_as cause turned (calls deed) lacking did rests = absurd did

    pub unbroken_as : (cause : Cause) (reason : Reason) (effect : Effect) (lacking : Bool)
        → DidIn (Err (Unwinds cause)) effect lacking mid → Rests (breaks_mid cause) (Err reason)
        → TurnsIn (Err reason) effect new
    unbroken_as cause reason (unwinds for scene) lacking did rests =
        let by = rests scene.store did.1.shown in
        let needs_are = broken_needs cause for scene did.0 did.1 did.2 in
        record {
          did = (
            then_reason attempt l mid new l.names did.2 first stays _ (needs (unwinds for scene))
                (subst (AreNeedsWithin _) needs_are (needs_within-same _))
                (no_words (cause_of cause) _ _) reason by.did.0,
            by.did.1 ∙ ap (λ (m : Lent). record m
                { grants = new.grants; room = new.room; scratch = new.scratch }) did.2,
          );
          logs = then_logs attempt l mid new l.names did.2 first stays 0 by.logs;
        }
    unbroken_as cause reason (makes scene output) true did rests = absurd did
    unbroken_as cause reason (makes scene output) false did rests = absurd did
    unbroken_as cause reason (raises error) lacking did rests = absurd did
    unbroken_as cause reason (calls deed) lacking did rests = absurd did

    -- ---- it raises an error

    abbrev error_asked : ℕ → ErrorName → Scene → Needs
    error_asked at error kept = error_needs no_rooms at kept error (command_of operator) kept

    same_shown : IsSame l mid → IsShown mid store
    same_shown same = subst (λ (m : Lent). IsShown m store) (sym same) (record {
      shows = shown.shows;
      operands = shown.operands;
      dictionaries = shown.dictionaries;
      frames = shown.frames;
    })

    raised_needs : (error raised : ErrorName) → error ≡ raised → IsSame l mid
        → error_asked (birth_at mid.heap mid.error_dictionary) error (scene_of mid store)
        ≡ needs (raises raised)
    raised_needs error raised is same =
        λ i. error_asked (same_birth attempt l mid new l.names same first stays i) (is i)
        (ap (λ (m : Lent). scene_of m store) same i)

    module _ (error : ErrorName) (scene : Scene) (output : List ℕ)
        (enough : lacks_room attempt.refused store scene.store ≡ true) (is : error ≡ VmError)
        (refused : IsRefused attempt.slot before l mid scene.names) where
      refused_within : AreNeedsWithin
          (error_asked (birth_at mid.heap mid.error_dictionary) error (scene_of mid store))
          (needs (makes scene output))
      refused_within = rw enough (record {
        bytes = subst (λ (b : ℕ). b ≤ (error_asked birth VmError
            (record before { names = scene.names })).bytes)
            (sym (λ i. (error_asked
            (same_birth attempt l mid new scene.names refused.is first stays i) (is i)
            (refused.left.is i)).bytes)) (omega arith);
        names = omega arith;
        records = omega arith;
        words = refl;
        births = refl;
        scratch = record { text = omega arith; sought = omega arith; words = omega arith };
      })

      refused_comes : (machine : Machine)
          → after_turn attempt.refused machine (whole (makes scene output))
          ≡ after_turn attempt.refused machine (operator_error operator error mid store)
      refused_comes machine = rw enough (λ i. erred machine (sym is i) (command_of operator)
          (sym refused.left.is i))

    pub raised_as : (error : ErrorName) (turned : Turned) (effect : Effect) (lacking : Bool)
        → Lacking effect lacking → DidIn (Err (Raises error)) effect lacking mid
        → Rests (operator_error operator error) (Ok turned) → TurnsIn (Ok turned) effect new
    raised_as error turned (raises raised) lacking enough did rests =
        let by = rests store (same_shown did.1) in
        record {
          did = then_turned attempt l mid new l.names did.1 first stays store store
              (whole (raises raised)) (operator_error operator error mid store) turned
              (lasts-same store)
              (λ machine. λ i. erred machine (sym did.0 i) (command_of operator)
              (sym (ap (λ (m : Lent). scene_of m store) did.1) i))
              by.did;
          logs = then_logs attempt l mid new l.names did.1 first stays most_records by.logs;
        }
    raised_as error turned (makes scene output) true enough did rests =
        let by = rests store did.1.left.shown in
        record {
          did = then_turned attempt l mid new scene.names did.1.is first stays store store
              (whole (makes scene output)) (operator_error operator error mid store) turned
              (lasts-same store) (refused_comes error scene output enough did.0 did.1) by.did;
          logs = rw enough
              (then_logs attempt l mid new scene.names did.1.is first stays most_records by.logs);
        }
    raised_as error turned (makes scene output) false enough did rests = absurd did
    raised_as error turned (unwinds for scene) lacking enough did rests = absurd did
    raised_as error turned (calls deed) lacking enough did rests = absurd did

    pub unraised_as : (error : ErrorName) (reason : Reason) (effect : Effect) (lacking : Bool)
        → Lacking effect lacking → DidIn (Err (Raises error)) effect lacking mid
        → Rests (operator_error operator error) (Err reason)
        → TurnsIn (Err reason) effect (record new { names = l.names })
    unraised_as error reason (raises raised) lacking enough did rests =
        let by = rests store (same_shown did.1) in
        record {
          did = (
            then_reason attempt l mid new l.names did.1 first stays _ (needs (raises raised))
                (subst (AreNeedsWithin _) (raised_needs error raised did.0 did.1)
                (needs_within-same _))
                refl reason by.did.0,
            then_same attempt l mid new l.names did.1 first stays by.did.1,
          );
          logs = then_logs attempt l mid new l.names did.1 first stays 0 by.logs;
        }
    unraised_as error reason (makes scene output) true enough did rests =
        let by = rests store did.1.left.shown in
        record {
          did = (
            then_reason attempt l mid new scene.names did.1.is first stays _
                (needs (makes scene output))
                (refused_within error scene output enough did.0 did.1) refl reason by.did.0,
            then_same attempt l mid new scene.names did.1.is first stays by.did.1,
          );
          logs = then_logs attempt l mid new scene.names did.1.is first stays 0 by.logs;
        }
    unraised_as error reason (makes scene output) false enough did rests = absurd did
    unraised_as error reason (unwinds for scene) lacking enough did rests = absurd did
    unraised_as error reason (calls deed) lacking enough did rests = absurd did
