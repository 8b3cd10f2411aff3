-- Own steps of a running context, one after another.
use Rattle.std.proofs.Common.{◌≡◌, ◌≢◌, ℕ, zero, suc, ◌+◌, Bool, true, false, Option, Some, None, List, [], ◌∷◌, map}
use Rattle.std.proofs.Common.{refl, sym, ◌∙◌, ap, subst, Ok, arith}
use Rattle.std.specs.Prelude.{option_and_then}
use Rattle.ps_language.specs.Effect.{Around, Scene}
use Rattle.ps_language.specs.Machines.{may_end, is_empty, settled, after_turn}
use Rattle.ps_language.specs.Machines.{own_step}
use Rattle.ps_language.specs.Value.{Store}
use Rattle.ps_language.specs.World.{Status, running, unwinding, Machine}
use Rattle.ps_mem.specs.Heap.{birth_at}
use Rattle.ps_mem.proofs.KeepsLemmas.{Keeps-then}
use Rattle.ps_ops_control.specs.declared.frames.Frame.{Frame}
use Rattle.ps_ops_control.specs.declared.frames.Cause.{Cause}
use Rattle.ps_ops_control.specs.Frames.{frame_of}
use Rattle.ps_ops_control.specs.Turns.{cause_of}
use Rattle.ps_ops_state.specs.Acts.{Asked, Lasts}
use Rattle.ps_ops_state.specs.Lent.{Lent, IsGood}
use Rattle.ps_ops_state.specs.Attempts.{ordinary}
use Rattle.ps_ops_state.proofs.Meeting.{keeps-same, lasts-same, stays_as, stays_then, at_least-same}
use Rattle.ps_step_outcome.specs.declared.turned.Turned.{Turned}
use Rattle.ps_step_outcome.specs.declared.turned.Turned.TheVariants.{Goes, Calls, Breaks, Ends}
use Rattle.ps_step_outcome.specs.Turns.{Turns, IsTurned, IsUnderWay, status_of, lines_after, reached_by}
use Rattle.ps_step_interpreter.specs.Courses.{going, course_after, IsLentBy, IsAtBy}
use Rattle.ps_step_interpreter.specs.Interprets.{asks_in, own_turn, status_in}
use Rattle.ps_step_interpreter.specs.OwnSteps.{machine_in, own_next, own_after, status_with, HasCome, HasRun}
use Rattle.ps_step_interpreter.proofs.Made.{next, came, next_lent, settled_at}
use Rattle.ps_step_interpreter.proofs.Reached.{IsMade, settled_framed, settled_ends}
use Rattle.ps_step_interpreter.proofs.Turning.{may_in, turn_by}

-- ---- the definition's steps in a row

-- a step more
pub own_more : (program : List ℕ) (made : ℕ) (machine mid next : Machine)
    → own_after program made machine ≡ Some mid → own_next program mid ≡ Some next
    → own_after program (made + 1) machine ≡ Some next
unfolding own_after
own_more program made machine mid next so_far one =
    let at : suc made ≡ made + 1 = omega arith in
    subst (λ n. own_after program n machine ≡ Some next) at
    (ap (option_and_then (own_next program)) so_far ∙ one)

-- others from there on
pub own_then : (program : List ℕ) (first second : ℕ) (machine mid : Machine)
    → own_after program first machine ≡ Some mid
    → own_after program (first + second) machine ≡ own_after program second mid
unfolding own_after
own_then program first zero machine mid so_far =
    let at : first + 0 ≡ first = omega arith in
    ap (λ n. own_after program n machine) at ∙ so_far
own_then program first (suc second) machine mid so_far =
    let at : first + suc second ≡ suc (first + second) = omega arith in
    ap (λ n. own_after program n machine) at
    ∙ ap (option_and_then (own_next program)) (own_then program first second machine mid so_far)

-- ---- whose is what is lent

pub lent_going : (frames : List Frame) (l : Lent) (lines : ℕ) (machine : Machine)
    → IsAtBy (course_after Goes frames) l lines machine → IsLentBy l (status_with frames) lines machine
lent_going [] l lines machine at = at
lent_going (frame ∷ frames) l lines machine at = at

pub going_lent : (frames : List Frame) (l : Lent) (lines : ℕ) (machine : Machine)
    → IsLentBy l (status_with frames) lines machine → IsAtBy (course_after Goes frames) l lines machine
going_lent [] l lines machine lent = lent
going_lent (frame ∷ frames) l lines machine lent = lent

-- a frame is left
pub status_framed : (frames : List Frame) → frames ≢ [] → status_with frames ≡ running
status_framed [] some = absurd (some refl)
status_framed (frame ∷ frames) some = refl

-- ---- runs

pub run_none : (l : Lent) → IsGood l → HasRun 0 l l
unfolding own_after
run_none l good = record {
  comes = λ machine lent. record {
    next = machine;
    steps = refl;
    lent = lent;
    lasts = lasts-same machine.store;
    detached = refl;
  };
  good = good;
  keeps = keeps-same l.heap;
  stays = stays_as l l refl refl refl refl (omega arith) (at_least-same _);
}

lasts_then : (s t u : Store) → Lasts s t → Lasts t u → Lasts s u
lasts_then s t u first second birth =
    let one = first birth in
    let other = second birth in
    omega (arith, one, other)

-- some, and others from there on
pub run_then : (first second : ℕ) (old mid new : Lent) → HasRun first old mid
    → HasRun second mid new → HasRun (first + second) old new
run_then first second old mid new one other = record {
  comes = λ machine lent.
      let come = one.comes machine lent in
      let on : IsLentBy mid (status_with mid.frames) come.next.error_lines come.next =
      subst (λ n. IsLentBy mid (status_with mid.frames) n come.next) (sym come.lent.error_lines)
      come.lent in
      let further = other.comes come.next on in
      record {
        next = further.next;
        steps = own_then old.program first second machine come.next come.steps
            ∙ (ap (λ (p : List ℕ). own_after p second come.next) (sym one.stays.program)
            ∙ further.steps);
        lent = subst (λ n. IsLentBy new (status_with new.frames) n further.next)
            come.lent.error_lines further.lent;
        lasts = lasts_then machine.store come.next.store further.next.store come.lasts
            further.lasts;
        detached = further.detached ∙ come.detached;
      };
  good = other.good;
  keeps = Keeps-then old.heap mid.heap new.heap one.keeps other.keeps;
  stays = stays_then old mid new one.stays other.stays;
}

-- ---- a turn more

-- a turn that goes on, or by which an unwinding begins or goes on
abbrev pub IsGoing : Turned → Type 0
IsGoing Goes = Unit {0}
IsGoing (Breaks cause) = Unit {0}
IsGoing turned = ⊥

-- how far the context is behind it
abbrev pub status_behind : Turned → List Frame → Status
status_behind (Breaks cause) frames = unwinding (cause_of cause)
status_behind turned frames = status_with frames

going_made : (turned : Turned) → IsGoing turned → IsMade turned
going_made Goes going = tt
going_made (Breaks cause) going = tt
going_made (Calls operator) going = absurd going
going_made (Ends told) going = absurd going

going_reached : (turned : Turned) → IsGoing turned → (machine : Machine)
    → machine_in (reached_by turned machine) ≡ Some (settled machine)
going_reached Goes going machine = refl
going_reached (Breaks cause) going machine = refl
going_reached (Calls operator) going machine = absurd going
going_reached (Ends told) going machine = absurd going

going_at : (turned : Turned) → IsGoing turned → (frames : List Frame) (l : Lent) (lines : ℕ)
    (machine : Machine) → IsAtBy (course_after turned frames) l (lines_after turned lines) machine
    → IsLentBy l (status_behind turned frames) lines machine
going_at Goes going frames l lines machine at = lent_going frames l lines machine at
going_at (Breaks cause) going frames l lines machine at = at
going_at (Calls operator) going frames l lines machine at = absurd going
going_at (Ends told) going frames l lines machine at = absurd going

-- what settles has its objects, and is detached as it was
record IsKept (machine : Machine) : Type 0 where
  store : (settled machine).store ≡ machine.store
  detached : (settled machine).context.is_detached ≡ machine.context.is_detached

ran_kept : (machine : Machine) → machine.context.status ≡ running → IsKept machine
ran_kept machine runs = by (is_empty machine.context.frames) refl
  where
    by : (b : Bool) → is_empty machine.context.frames ≡ b → IsKept machine
    by true empty =
        let same = settled_ends machine runs empty in record {
          store = ap (λ (m : Machine). m.store) same;
          detached = ap (λ (m : Machine). m.context.is_detached) same;
        }
    by false framed =
        let same = settled_framed machine (ap may_end runs) framed in record {
          store = ap (λ (m : Machine). m.store) same;
          detached = ap (λ (m : Machine). m.context.is_detached) same;
        }

broken_kept : (cause : Cause) (frames : List Frame) → IsUnderWay (Breaks cause) frames
    → (births : ℕ → ℕ) (names : List (List ℕ)) (machine : Machine)
    → machine.context.status ≡ unwinding (cause_of cause)
    → machine.context.frames ≡ map (frame_of births names) frames → IsKept machine
broken_kept cause [] under_way births names machine breaks are = absurd under_way
broken_kept cause (frame ∷ frames) under_way births names machine breaks are =
    let same = settled_framed machine (ap may_end breaks) (ap is_empty are) in record {
      store = ap (λ (m : Machine). m.store) same;
      detached = ap (λ (m : Machine). m.context.is_detached) same;
    }

going_kept : (turned : Turned) → IsGoing turned → (frames : List Frame) → IsUnderWay turned frames
    → (births : ℕ → ℕ) (names : List (List ℕ)) (machine : Machine)
    → machine.context.status ≡ status_of turned
    → machine.context.frames ≡ map (frame_of births names) frames → IsKept machine
going_kept Goes going frames under_way births names machine is are = ran_kept machine is
going_kept (Breaks cause) going frames under_way births names machine is are =
    broken_kept cause frames under_way births names machine is are
going_kept (Calls operator) going frames under_way births names machine is are = absurd going
going_kept (Ends told) going frames under_way births names machine is are = absurd going

module _ (asks : Status → Around → Scene → Asked) (slot made : ℕ) (unwinds : Option Cause)
    (turned : Turned) (going : IsGoing turned) (old mid new : Lent)
    (so_far : HasCome made (status_in unwinds) old mid)
    (turns : Turns (asks_in asks unwinds) (own_turn unwinds) (ordinary slot) (Ok turned) mid new)
  where
    module _ (machine : Machine) (lines : ℕ)
        (lent : IsLentBy mid (status_in unwinds) lines machine) where
      did : IsTurned false (own_turn unwinds mid machine.store) turned machine.store mid new
      did = (turns.meets machine.store lent.shown).did

      abbrev unsettled : Machine
      unsettled = next false (own_turn unwinds mid machine.store) turned mid new (status_in unwinds)
          lines machine lent so_far.good turns.keeps turns.stays did

      steps_on : own_next mid.program machine ≡ Some (settled unsettled)
      unfolding own_step
      steps_on =
          rw (ap may_end lent.is_so ∙ may_in unwinds)
          (ap (λ t. machine_in (after_turn false machine t))
          (turn_by mid (status_in unwinds) lines machine lent)
          ∙ (ap machine_in (came false (own_turn unwinds mid machine.store) turned mid new
          (status_in unwinds) lines machine lent so_far.good turns.keeps turns.stays did)
          ∙ going_reached turned going unsettled))

      goes_to : IsLentBy new (status_behind turned new.frames) lines (settled unsettled)
      goes_to =
          going_at turned going new.frames new lines (settled unsettled)
          (settled_at new (lines_after turned lines) unsettled turned
          (next_lent false (own_turn unwinds mid machine.store) turned mid new (status_in unwinds)
          lines machine lent so_far.good turns.keeps turns.stays did) turns.under_way
          (going_made turned going))

      kept : IsKept unsettled
      kept = going_kept turned going new.frames turns.under_way (birth_at new.heap) new.names
          unsettled refl refl

      lasts_on : Lasts machine.store (settled unsettled).store
      lasts_on = subst (Lasts machine.store) (sym kept.store) did.lasts

    pub come_more : HasCome (made + 1) (status_behind turned new.frames) old new
    come_more = record {
      comes = λ machine lent.
          let come = so_far.comes machine lent in
          record {
            next = settled (unsettled come.next machine.error_lines come.lent);
            steps = own_more old.program made machine come.next _ come.steps
                (ap (λ (p : List ℕ). own_next p come.next) (sym so_far.stays.program)
                ∙ steps_on come.next machine.error_lines come.lent);
            lent = goes_to come.next machine.error_lines come.lent;
            lasts = lasts_then machine.store come.next.store _ come.lasts
                (lasts_on come.next machine.error_lines come.lent);
            detached = (kept come.next machine.error_lines come.lent).detached ∙ come.detached;
          };
      good = turns.good;
      keeps = Keeps-then old.heap mid.heap new.heap so_far.keeps turns.keeps;
      stays = stays_then old mid new so_far.stays turns.stays;
    }

-- a running context goes on
pub running_come : (made : ℕ) (old mid : Lent) → HasRun made old mid → mid.frames ≢ []
    → HasCome made running old mid
running_come made old mid so_far framed =
    subst (λ status. HasCome made status old mid) (status_framed mid.frames framed) so_far

pub run_more : (asks : Status → Around → Scene → Asked) (slot made : ℕ) (old mid new : Lent)
    → HasRun made old mid → mid.frames ≢ []
    → Turns (asks_in asks None) (own_turn None) (ordinary slot) (Ok Goes) mid new
    → HasRun (made + 1) old new
run_more asks slot made old mid new so_far framed turns =
    come_more asks slot made None Goes tt old mid new (running_come made old mid so_far framed) turns
