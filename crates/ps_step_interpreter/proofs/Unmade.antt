-- Where a step is not made the context is at the same machine, and the reason still stands.
use Rattle.std.proofs.Common.{◌≡◌, inl, inr, ℕ, ◌<◌, Bool, true, false, refl, sym, ap, subst, ◌∙◌, arith}
use Rattle.std.specs.Prelude.{◌&&◌, ◌||◌, nat_lt}
use Rattle.std.proofs.lemmas.Bool.Decides.{nat_tests}
use Rattle.ps_language.specs.World.{Status, running, unwinding, finished, Machine}
use Rattle.ps_mem.specs.Heap.{Grants, has_room}
use Rattle.ps_ops_operands.specs.declared.failure.NotMade.{NotMade as Reason}
use Rattle.ps_ops_operands.specs.declared.failure.NotMade.TheVariants.{LogFull, LogClosed, NeedSpace, Memory}
use Rattle.ps_ops_control.specs.Turns.{cause_of}
use Rattle.ps_ops_state.specs.declared.lent.Scratch.{Scratch}
use Rattle.ps_ops_state.specs.Acts.{Needs, IsReason, IsSame, LacksRooms}
use Rattle.ps_ops_state.specs.Lent.{Lent, Rooms}
use Rattle.ps_step_interpreter.specs.declared.courses.AloneCourse.{AloneCourse}
use Rattle.ps_step_interpreter.specs.declared.courses.AloneCourse.TheVariants.{Running, Unwinding, Calling, Finished}
use Rattle.ps_step_interpreter.specs.Courses.{IsLentBy, IsAtBy}
use Rattle.ps_step_interpreter.specs.Needs.{wants, wants_rooms, IsHeldUp}

-- ---- at the same machine

module _ (l : Lent) (grants : Grants) (room : ℕ) (scratch : Scratch) where
  abbrev pub regranted : Lent
  regranted = record l { grants = grants; room = room; scratch = scratch }

  lent_same : (status : Status) (lines : ℕ) (machine : Machine)
      → IsLentBy l status lines machine → IsLentBy regranted status lines machine
  lent_same status lines machine lent = record {
    shown = record {
      shows = lent.shown.shows;
      operands = lent.shown.operands;
      dictionaries = lent.shown.dictionaries;
      frames = lent.shown.frames;
    };
    scene = lent.scene;
    is_so = lent.is_so;
    error_dictionary = lent.error_dictionary;
    printed = lent.printed;
    error_lines = lent.error_lines;
  }

  at_regranted : (course : AloneCourse) (lines : ℕ) (machine : Machine) → IsAtBy course l lines machine
      → IsAtBy course regranted lines machine
  at_regranted Running lines machine at = lent_same running lines machine at
  at_regranted (Unwinding cause) lines machine at =
      lent_same (unwinding (cause_of cause)) lines machine at
  at_regranted (Calling operator) lines machine at = record {
    left = at.left;
    lent = lent_same running lines at.left at.lent;
    goes_on = at.goes_on;
    leaves = at.leaves;
  }
  at_regranted Finished lines machine at = lent_same finished lines machine at

pub at_same : (old new : Lent) (course : AloneCourse) (lines : ℕ) (machine : Machine) → IsSame old new
    → IsAtBy course old lines machine → IsAtBy course new lines machine
at_same old new course lines machine same at =
    subst (λ (l : Lent). IsAtBy course l lines machine) (sym same)
    (at_regranted old new.grants new.room new.scratch course lines machine at)

-- ---- the reason

or_left : (a b : Bool) → a ≡ true → a || b ≡ true
or_left true b h = refl
or_left false b h = absurd (cc)

or_right : (a b : Bool) → b ≡ true → a || b ≡ true
or_right true b h = refl
or_right false b h = h

and_both : (a b : Bool) → a ≡ true → b ≡ true → a && b ≡ true
and_both a b h k = rw (h, k) refl

some : (few many : ℕ) → few < many → nat_lt 0 many ≡ true
some few many less = grind (arith, nat_tests)

wanted_rooms : (has needs : Rooms) → LacksRooms has needs → wants_rooms needs ≡ true
wanted_rooms has needs (inl less) = or_left _ _ (some _ _ less)
wanted_rooms has needs (inr (inl less)) =
    or_right (nat_lt 0 needs.text) _ (or_left _ _ (some _ _ less))
wanted_rooms has needs (inr (inr less)) =
    or_right (nat_lt 0 needs.text) _ (or_right (nat_lt 0 needs.sought) _ (some _ _ less))

pub wanted : (needs : Needs) (slot : ℕ) (old new : Lent) → IsReason needs slot old new Memory
    → wants old.heap.space.grows needs ≡ true
wanted needs slot old new (inl less) = or_left _ _ (some _ _ less)
wanted needs slot old new (inr (inl named)) =
    or_right (nat_lt 0 needs.bytes) _ (or_left _ _ (some 0 _ named))
wanted needs slot old new (inr (inr (inl grown))) =
    or_right (nat_lt 0 needs.bytes) _ (or_right (nat_lt 0 needs.names) _
    (or_left _ _ (and_both _ _ (some 0 _ grown.0) grown.1)))
wanted needs slot old new (inr (inr (inr lists))) =
    or_right (nat_lt 0 needs.bytes) _ (or_right (nat_lt 0 needs.names) _
    (or_right (nat_lt 0 needs.words && old.heap.space.grows) _ (wanted_rooms _ _ lists)))

pub held_up : (needs : Needs) (slot : ℕ) (old new : Lent) (reason : Reason) → IsSame old new
    → new.grants.closed ≡ old.grants.closed → IsReason needs slot old new reason
    → IsHeldUp needs slot new reason
held_up needs slot old new LogFull same closed why =
    (ap (λ (c : ℕ → Bool). c slot) closed ∙ why.0, why.1)
held_up needs slot old new LogClosed same closed why =
    (why.0, ap (λ (c : ℕ → Bool). c slot) closed ∙ why.1)
held_up needs slot old new (NeedSpace words) same closed why = (
  why.0,
  why.1,
  ap (λ (l : Lent). has_room l.heap needs.words needs.births) same ∙ why.2,
)
held_up needs slot old new Memory same closed why =
    ap (λ (l : Lent). wants l.heap.space.grows needs) same ∙ wanted needs slot old new why
