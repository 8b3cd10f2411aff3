-- What came about for a store, by its effect; and what stays of what is lent.
use Rattle.std.proofs.Common.{◌≡◌, ℕ, ◌+◌, ◌≤◌, ◌++◌, arith, Bool, true, false, List, [], length, Result, Ok, Err, refl}
use Rattle.std.proofs.Common.{sym, ap, subst, ◌∙◌, inl, inr, append-nil, append_assoc}
use Rattle.std.specs.Prelude.{◌==◌, ◌&&◌, not}
use Rattle.ps_language.specs.declared.errors.ErrorName.{ErrorName}
use Rattle.ps_language.specs.declared.errors.ErrorName.TheVariants.{VmError}
use Rattle.ps_language.specs.Value.{Store}
use Rattle.ps_language.specs.Effect.{Scene, Effect, makes, unwinds, raises}
use Rattle.ps_language.specs.Objects.{made_between, lacks_room}
use Rattle.ps_language.proofs.AskedLemmas.{made-same}
use Rattle.ps_mem.specs.Heap.{Heap, Grants, has_room}
use Rattle.ps_mem.specs.Keeps.{Keeps}
use Rattle.ps_mem.proofs.KeepsLemmas.{Keeps-Extends, Extends-same}
use Rattle.ps_ops_operands.specs.declared.failure.NotMade.{NotMade as Reason}
use Rattle.ps_ops_operands.specs.declared.failure.NotMade.TheVariants.{LogFull, LogClosed, NeedSpace, Memory}
use Rattle.ps_ops_operands.specs.Changes.{KeepsLogsWithin}
use Rattle.ps_ops_control.specs.declared.frames.Cause.{Cause}
use Rattle.ps_ops_control.specs.Turns.{cause_of}
use Rattle.ps_ops_state.specs.declared.breaks.Break.{Break}
use Rattle.ps_ops_state.specs.declared.breaks.Break.TheVariants.{Unwinds, Raises, NotMade}
use Rattle.ps_ops_state.specs.declared.lent.Attempt.{Attempt}
use Rattle.ps_ops_state.specs.Lent.{Lent, Rooms, rooms_of}
use Rattle.ps_ops_state.specs.Acts.{Needs, needs_as, needs_between, LacksRooms, IsReason, Lasts, IsLeft, IsSame, IsRefused}
use Rattle.ps_ops_state.specs.Acts.{ActsAs, IsAtLeast, Stays, Meets, Asked}

-- ---- what stays

pub keeps-same : (h : Heap) → Keeps h h
keeps-same h = Keeps-Extends h h (Extends-same h)

pub lasts-same : (s : Store) → Lasts s s
lasts-same s birth = omega arith

pub logs-same : (most : ℕ) (g : Grants) (slot : ℕ) → KeepsLogsWithin most g g slot
logs-same most g slot = record {
  cycle_open = refl;
  closed = refl;
  others = λ s other. refl;
  used = omega arith;
  kept = omega arith;
  put = omega arith;
  put_no_other = λ s other. refl;
}

pub logs_more : (few most : ℕ) (old new : Grants) (slot : ℕ) → few ≤ most
    → KeepsLogsWithin few old new slot → KeepsLogsWithin most old new slot
logs_more few most old new slot more logs =
    let used = logs.used in
    let put = logs.put in
    record {
      cycle_open = logs.cycle_open;
      closed = logs.closed;
      others = logs.others;
      used = omega (arith, used, more);
      kept = logs.kept;
      put = omega (arith, put, more);
      put_no_other = logs.put_no_other;
    }

pub at_least-same : (rooms : Rooms) → IsAtLeast rooms rooms
at_least-same rooms =
    record { text = omega arith; sought = omega arith; words = omega arith }

pub stays_as : (old new : Lent) → new.program ≡ old.program
    → new.error_dictionary ≡ old.error_dictionary → new.names ≡ old.names → new.most ≡ old.most
    → length old.printed + old.room ≤ length new.printed + new.room
    → IsAtLeast (rooms_of old.scratch) (rooms_of new.scratch) → Stays old new
stays_as old new program address names most capacity scratch = record {
  program = program;
  most = most;
  error_dictionary = address;
  formed = [];
  names = subst (λ (ns : List (List ℕ)). ns ≡ old.names ++ []) (sym names)
      (sym (append-nil old.names));
  capacity = capacity;
  scratch = scratch;
}

-- ---- one after another

pub at_least_then : (few some many : Rooms) → IsAtLeast few some → IsAtLeast some many
    → IsAtLeast few many
at_least_then few some many one other =
    let text = one.text in
    let sought = one.sought in
    let words = one.words in
    let more_text = other.text in
    let more_sought = other.sought in
    let more_words = other.words in
    record {
      text = omega (arith, text, more_text);
      sought = omega (arith, sought, more_sought);
      words = omega (arith, words, more_words);
    }

pub stays_then : (old mid new : Lent) → Stays old mid → Stays mid new → Stays old new
stays_then old mid new one other =
    let capacity = one.capacity in
    let more = other.capacity in
    record {
      program = other.program ∙ one.program;
      most = other.most ∙ one.most;
      error_dictionary = other.error_dictionary ∙ one.error_dictionary;
      formed = one.formed ++ other.formed;
      names = other.names ∙ (ap (λ (ns : List (List ℕ)). ns ++ other.formed) one.names
          ∙ append_assoc old.names one.formed other.formed);
      capacity = omega (arith, capacity, more);
      scratch = at_least_then _ _ _ one.scratch other.scratch;
    }

pub logs_then : (first most all : ℕ) (old mid new : Grants) (slot : ℕ) → first + most ≤ all
    → KeepsLogsWithin first old mid slot → KeepsLogsWithin most mid new slot
    → KeepsLogsWithin all old new slot
logs_then first most all old mid new slot within one other =
    let used = one.used in
    let put = one.put in
    let kept = one.kept in
    let used_then = other.used in
    let put_then = other.put in
    let kept_then = other.kept in
    record {
      cycle_open = other.cycle_open ∙ one.cycle_open;
      closed = other.closed ∙ one.closed;
      others = λ s apart. other.others s apart ∙ one.others s apart;
      used = omega (arith, used, used_then, within);
      kept = omega (arith, kept, kept_then);
      put = omega (arith, put, put_then, within);
      put_no_other = λ s apart. other.put_no_other s apart ∙ one.put_no_other s apart;
    }

-- ---- what is needed

-- less is needed
pub record AreNeedsWithin (few many : Needs) : Type 0 where
  pub bytes : few.bytes ≤ many.bytes
  pub names : few.names ≤ many.names
  pub records : few.records ≤ many.records
  pub words : few.words ≡ many.words
  pub births : few.births ≡ many.births
  pub scratch : IsAtLeast few.scratch many.scratch

pub needs_within-same : (needs : Needs) → AreNeedsWithin needs needs
needs_within-same needs = record {
  bytes = omega arith;
  names = omega arith;
  records = omega arith;
  words = refl;
  births = refl;
  scratch = at_least-same needs.scratch;
}

lacks_more : (has few many : Rooms) → IsAtLeast few many → LacksRooms has few
    → LacksRooms has many
lacks_more has few many more (inl less) =
    let text = more.text in inl (omega (arith, text, less))
lacks_more has few many more (inr (inl less)) =
    let sought = more.sought in inr (inl (omega (arith, sought, less)))
lacks_more has few many more (inr (inr less)) =
    let words = more.words in inr (inr (omega (arith, words, less)))

-- and so a reason why a step is not made is one where more is needed
pub reason_more : (few many : Needs) → AreNeedsWithin few many → (slot : ℕ) (old new : Lent)
    (reason : Reason) → IsReason few slot old new reason → IsReason many slot old new reason
reason_more few many more slot old new LogFull why =
    let records = more.records in
    let less = why.1 in
    (why.0, omega (arith, records, less))
reason_more few many more slot old new LogClosed why =
    let records = more.records in
    let some = why.0 in
    (omega (arith, records, some), why.1)
reason_more few many more slot old new (NeedSpace words) why = (
  why.0 ∙ more.words,
  why.1,
  (λ i. has_room old.heap (sym more.words i) (sym more.births i)) ∙ why.2,
)
reason_more few many more slot old new Memory (inl less) =
    let bytes = more.bytes in inl (omega (arith, bytes, less))
reason_more few many more slot old new Memory (inr (inl some)) =
    let names = more.names in inr (inl (omega (arith, names, some)))
reason_more few many more slot old new Memory (inr (inr (inl grown))) =
    let words = more.words in
    let some = grown.0 in
    inr (inr (inl (omega (arith, words, some), grown.1)))
reason_more few many more slot old new Memory (inr (inr (inr lists))) =
    inr (inr (inr (lacks_more (rooms_of old.scratch) few.scratch many.scratch more.scratch lists)))

-- ---- room for what is made

has_enough : (refused : Bool) (words : ℕ) → words ≡ 0 → refused && not (words == 0) ≡ false
has_enough true words none = rw none refl
has_enough false words none = refl

-- where no room is asked for, none lacks
pub lacks_nothing : (refused : Bool) (s t : Store) → made_between s t ≡ 0
    → lacks_room refused s t ≡ false
lacks_nothing refused s t none = has_enough refused (made_between s t) none

pub lacks_for_same : (refused : Bool) (s : Store) → lacks_room refused s s ≡ false
lacks_for_same refused s = lacks_nothing refused s s (made-same s)

-- ---- by the effect

module _ (asks : Scene → Asked) (attempt : Attempt) (before : Scene) (old new : Lent) where
  abbrev Did : Effect → Result Unit Break → Bool → Type 0
  Did effect result lacking =
      ActsAs (needs_as (asks before) before effect lacking) attempt.slot before result effect
      lacking old new

  abbrev Logs : ℕ → Type 0
  Logs most = KeepsLogsWithin most old.grants new.grants attempt.slot

  module _ (scene : Scene) (output : List ℕ) where
    -- not made, whether there is room or not
    pub unmade_meets : (reason : Reason)
        → IsReason (needs_as (asks before) before (makes scene output)
        (lacks_room attempt.refused before.store scene.store)) attempt.slot old new reason
        → IsSame old new → Logs 0
        → Meets asks (makes scene output) attempt (Err (NotMade reason)) before old new
    unmade_meets reason why same logs = record { did = (why, same); logs = logs }

    module _ (enough : lacks_room attempt.refused before.store scene.store ≡ false) where
      pub made_meets : IsLeft before.store new scene → new.printed ≡ old.printed ++ output
          → Logs (asks before).records → Meets asks (makes scene output) attempt (Ok tt) before old new
      made_meets left printed logs = record {
        did = subst (Did (makes scene output) (Ok tt)) (sym enough) (left, printed);
        logs = logs;
      }

      pub wanting_meets : (reason : Reason)
          → IsReason (needs_between (asks before) before scene output) attempt.slot old new reason
          → IsSame old new → Logs 0
          → Meets asks (makes scene output) attempt (Err (NotMade reason)) before old new
      wanting_meets reason why same logs = record {
        did = subst (Did (makes scene output) (Err (NotMade reason))) (sym enough) (why, same);
        logs = logs;
      }

    pub refused_meets : lacks_room attempt.refused before.store scene.store ≡ true
        → IsRefused attempt.slot before old new scene.names → Logs 0
        → Meets asks (makes scene output) attempt (Err (Raises VmError)) before old new
    refused_meets lacking refused logs = record {
      did = subst (Did (makes scene output) (Err (Raises VmError))) (sym lacking) (refl, refused);
      logs = logs;
    }

  pub raised_meets : (error : ErrorName) → IsSame old new → Logs 0
      → Meets asks (raises error) attempt (Err (Raises error)) before old new
  raised_meets error same logs = record { did = (refl, same); logs = logs }

  pub unwound_meets : (cause : Cause) (scene : Scene) → IsLeft before.store new scene
      → IsSame old new → Logs 0
      → Meets asks (unwinds (cause_of cause) scene) attempt (Err (Unwinds cause)) before old new
  unwound_meets cause scene left same logs = record { did = (refl, left, same); logs = logs }

  pub meets_by : (result : Result Unit Break) (effect other : Effect) → effect ≡ other
      → Meets asks other attempt result before old new
      → Meets asks effect attempt result before old new
  meets_by result effect other is meets =
      subst (λ (e : Effect). Meets asks e attempt result before old new) (sym is) meets
