-- Turns over lists that have more room, and turns that are not made.
use Rattle.std.proofs.Common.{◌≡◌, ℕ, ◌≤◌, arith, Ok, Err, refl, subst, inl, inr}
use Rattle.std.specs.Prelude.{Result}
use Rattle.ps_language.specs.Value.{Store}
use Rattle.ps_language.specs.StepValues.{Turn}
use Rattle.ps_mem.specs.Heap.{Grants}
use Rattle.ps_ops_operands.specs.declared.failure.NotMade.{NotMade as Reason}
use Rattle.ps_ops_operands.specs.declared.failure.NotMade.TheVariants.{LogFull, LogClosed, NeedSpace, Memory}
use Rattle.ps_ops_operands.specs.Changes.{KeepsLogsWithin, spent}
use Rattle.ps_ops_state.specs.declared.lent.Scratch.{Scratch}
use Rattle.ps_ops_state.specs.declared.lent.Attempt.{Attempt}
use Rattle.ps_ops_state.specs.Lent.{Lent, Rooms, rooms_of, IsEmpty, IsShown, IsGood}
use Rattle.ps_ops_state.specs.Acts.{Asked, Needs, LacksRooms, IsAtLeast, IsReason}
use Rattle.ps_ops_state.proofs.Meeting.{keeps-same, logs_more, stays_as, at_least_then, AreNeedsWithin, reason_more}
use Rattle.ps_step_outcome.specs.declared.turned.Turned.{Turned}
use Rattle.ps_step_outcome.specs.Turns.{TurnsAs, Turns, needs_in}

-- ---- lists with more room

lacks_before : (few more needs : Rooms) → IsAtLeast few more → LacksRooms more needs
    → LacksRooms few needs
lacks_before few more needs least (inl less) =
    let text = least.text in inl (omega (arith, text, less))
lacks_before few more needs least (inr (inl less)) =
    let sought = least.sought in inr (inl (omega (arith, sought, less)))
lacks_before few more needs least (inr (inr less)) =
    let words = least.words in inr (inr (omega (arith, words, less)))

spent_more : (result : Result Turned Reason) (few most : ℕ) → few ≤ most
    → spent result few ≤ spent result most
spent_more (Ok turned) few most more = more
spent_more (Err reason) few most more = omega arith

module _ (l : Lent) (scratch : Scratch) (empty : IsEmpty scratch)
    (least : IsAtLeast (rooms_of l.scratch) (rooms_of scratch)) where
  abbrev pub roomy : Lent
  roomy = record l { scratch = scratch }

  pub roomy_good : IsGood l → IsGood roomy
  roomy_good good = record {
    sound = good.sound;
    operands = good.operands;
    dictionaries = good.dictionaries;
    frames = good.frames;
    error_stands = good.error_stands;
    names = good.names;
    first = good.first;
    empty = empty;
  }

  pub roomy_shown : (s : Store) → IsShown l s → IsShown roomy s
  roomy_shown s shown = record {
    shows = shown.shows;
    operands = shown.operands;
    dictionaries = shown.dictionaries;
    frames = shown.frames;
  }

  reason_before : (needs : Needs) (slot : ℕ) (new : Lent) (reason : Reason)
      → IsReason needs slot roomy new reason → IsReason needs slot l new reason
  reason_before needs slot new LogFull why = why
  reason_before needs slot new LogClosed why = why
  reason_before needs slot new (NeedSpace words) why = why
  reason_before needs slot new Memory (inl less) = inl less
  reason_before needs slot new Memory (inr (inl some)) = inr (inl some)
  reason_before needs slot new Memory (inr (inr (inl grown))) = inr (inr (inl grown))
  reason_before needs slot new Memory (inr (inr (inr lists))) =
      inr (inr (inr (lacks_before (rooms_of l.scratch) (rooms_of scratch) needs.scratch least
      lists)))

  turned_before : (few many : Needs) → AreNeedsWithin few many → (attempt : Attempt)
      (result : Result Turned Reason) (turn : Turn) (s : Store) (new : Lent)
      → TurnsAs few attempt result turn s roomy new → TurnsAs many attempt result turn s l new
  turned_before few many more attempt (Ok turned) turn s new did =
      record {
        after = did.after;
        shown = did.shown;
        lasts = did.lasts;
        leaves = did.leaves;
        is = did.is;
      }
  turned_before few many more attempt (Err reason) turn s new did = (
    reason_more few many more attempt.slot l new reason
        (reason_before few attempt.slot new reason did.0),
    did.1,
  )

  -- a turn over them is one that asks for as much at least
  pub over_roomy : (asks over_asks : Lent → Store → Asked) (turn over : Lent → Store → Turn)
      (attempt : Attempt) (result : Result Turned Reason) (new : Lent)
      → ((s : Store) → IsShown l s → over roomy s ≡ turn l s)
      → ((s : Store) → IsShown l s → AreNeedsWithin (needs_in attempt over_asks over roomy s)
      (needs_in attempt asks turn l s))
      → Turns over_asks over attempt result roomy new → Turns asks turn attempt result l new
  over_roomy asks over_asks turn over attempt result new same more turns = record {
    meets = λ s shown.
        let by = turns.meets s (roomy_shown s shown) in
        let records = (more s shown).records in
        record {
          did = subst (λ (t : Turn). TurnsAs (needs_in attempt asks turn l s) attempt result t s l new)
              (same s shown) (turned_before _ _ (more s shown) attempt result _ s new by.did);
          logs = logs_more _ _ roomy.grants new.grants attempt.slot
              (spent_more result _ _ records) by.logs;
        };
    good = turns.good;
    keeps = turns.keeps;
    stays = record {
      program = turns.stays.program;
      most = turns.stays.most;
      error_dictionary = turns.stays.error_dictionary;
      formed = turns.stays.formed;
      names = turns.stays.names;
      capacity = turns.stays.capacity;
      scratch = at_least_then _ _ _ least turns.stays.scratch;
    };
    logs = turns.logs;
    framed = turns.framed;
    under_way = turns.under_way;
  }

  -- ---- nothing is done, for a reason

  pub not_turned : IsGood l → (grants : Grants) (room : ℕ) → l.room ≤ room
      → (asks : Lent → Store → Asked)
      (turn : Lent → Store → Turn) (attempt : Attempt) (reason : Reason)
      → KeepsLogsWithin 0 l.grants grants attempt.slot
      → ((s : Store) → IsShown l s → IsReason (needs_in attempt asks turn l s) attempt.slot l
      (record roomy { grants = grants; room = room }) reason)
      → Turns asks turn attempt (Err reason) l (record roomy { grants = grants; room = room })
  not_turned good grants room more asks turn attempt reason logs why =
      let well = roomy_good good in
      record {
        meets = λ s shown. record { did = (why s shown, refl); logs = logs };
        good = record {
          sound = well.sound;
          operands = well.operands;
          dictionaries = well.dictionaries;
          frames = well.frames;
          error_stands = well.error_stands;
          names = well.names;
          first = well.first;
          empty = well.empty;
        };
        keeps = keeps-same l.heap;
        stays = stays_as l (record roomy { grants = grants; room = room }) refl refl refl refl
            (omega (arith, more)) least;
        logs = logs;
        framed = refl;
        under_way = tt;
      }
