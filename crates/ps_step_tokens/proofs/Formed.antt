-- A turn over what is lent once names are formed, and without them again.
use Rattle.std.proofs.Common.{◌≡◌, ℕ, ◌≤◌, ◌++◌, ◌-◌, arith, Bool, true, false, List, [], length, Ok, Err, refl, sym}
use Rattle.std.proofs.Common.{ap, subst, ◌∙◌, append-nil, append_assoc, length-append}
use Rattle.std.specs.Prelude.{if◌then◌else◌}
use Rattle.ps_language.specs.declared.errors.ErrorName.TheVariants.{VmError}
use Rattle.ps_language.specs.Value.{Store}
use Rattle.ps_language.specs.Objects.{lacks_room}
use Rattle.ps_language.specs.StepValues.{Turn, goes, tries, breaks, errs, asks as leaves_to}
use Rattle.ps_mem.specs.Heap.{birth_at}
use Rattle.ps_ops_operands.specs.declared.failure.NotMade.{NotMade as Reason}
use Rattle.ps_ops_operands.specs.declared.failure.NotMade.TheVariants.{LogFull, LogClosed, NeedSpace, Memory}
use Rattle.ps_ops_state.specs.declared.lent.Attempt.{Attempt}
use Rattle.ps_ops_state.specs.Lent.{Lent, scene_of, IsShown, IsGood}
use Rattle.ps_ops_state.specs.Acts.{Asked, Needs, needs_between, IsReason}
use Rattle.ps_ops_state.proofs.Forming.{formed_left}
use Rattle.ps_ops_state.proofs.Meeting.{logs_more, AreNeedsWithin, reason_more, at_least-same}
use Rattle.ps_step_outcome.specs.declared.turned.Turned.{Turned}
use Rattle.ps_step_outcome.specs.Turns.{IsTurned, Turns, turn_needs, error_needs, needs_in}

module _ (l : Lent) (more names : List (List ℕ)) (are : names ≡ l.names ++ more) where
  abbrev pub formed : Lent
  formed = record l { names = names }

  abbrev pub without : Lent → Lent
  without new = record new { names = l.names }

  -- ---- what is asked for, the names too

  fewer : (after : List (List ℕ)) → length after - length names ≤ length after - length l.names
  fewer after =
      let size = ap length are ∙ length-append l.names more in omega (arith, size)

  module _ (refused : Bool) (asked : Asked) (birth : ℕ) (s : Store) where
    abbrev AreAllWithin : Turn → Type 0
    AreAllWithin turn = AreNeedsWithin (turn_needs refused asked birth (scene_of formed s) turn)
        (turn_needs refused asked birth (scene_of l s) turn)

    all_covered : (turn : Turn) → AreAllWithin turn
    all_covered (goes scene output) = record {
      bytes = omega arith;
      names = fewer scene.names;
      records = omega arith;
      words = refl;
      births = refl;
      scratch = at_least-same _;
    }
    all_covered (tries command kept scene output) = by (lacks_room refused kept.store scene.store)
      where
        by : (lacking : Bool) → AreNeedsWithin
            (if lacking then error_needs asked.scratch birth (scene_of formed s) VmError command
            (record kept { names = scene.names })
            else needs_between asked (scene_of formed s) scene output)
            (if lacking then error_needs asked.scratch birth (scene_of l s) VmError command
            (record kept { names = scene.names })
            else needs_between asked (scene_of l s) scene output)
        by true = record {
          bytes = omega arith;
          names = fewer scene.names;
          records = omega arith;
          words = refl;
          births = refl;
          scratch = at_least-same _;
        }
        by false = record {
          bytes = omega arith;
          names = fewer scene.names;
          records = omega arith;
          words = refl;
          births = refl;
          scratch = at_least-same _;
        }
    all_covered (breaks cause scene) = record {
      bytes = omega arith;
      names = omega arith;
      records = omega arith;
      words = refl;
      births = refl;
      scratch = at_least-same _;
    }
    all_covered (errs error command kept) = record {
      bytes = omega arith;
      names = fewer kept.names;
      records = omega arith;
      words = refl;
      births = refl;
      scratch = at_least-same _;
    }
    all_covered (leaves_to calling kept) = record {
      bytes = omega arith;
      names = omega arith;
      records = omega arith;
      words = refl;
      births = refl;
      scratch = at_least-same _;
    }

  moved_reason : (needs : Needs) (slot : ℕ) (new : Lent) (reason : Reason)
      → IsReason needs slot formed new reason → IsReason needs slot l (without new) reason
  moved_reason needs slot new LogFull why = why
  moved_reason needs slot new LogClosed why = why
  moved_reason needs slot new (NeedSpace words) why = why
  moved_reason needs slot new Memory why = why

  -- ---- the turn

  module _ (asks over_asks : Lent → Store → Asked) (turn over : Lent → Store → Turn)
      (attempt : Attempt)
      (same : (s : Store) → IsShown l s → over formed s ≡ turn l s)
      (asked : (s : Store) → IsShown l s → over_asks formed s ≡ asks l s) where
    covered : (s : Store) → IsShown l s
        → AreNeedsWithin (needs_in attempt over_asks over formed s) (needs_in attempt asks turn l s)
    covered s shown =
        subst (λ (n : Needs). AreNeedsWithin n (needs_in attempt asks turn l s))
        (λ i. turn_needs attempt.refused (sym (asked s shown) i)
        (birth_at l.heap l.error_dictionary) (scene_of formed s) (sym (same s shown) i))
        (all_covered attempt.refused (asks l s) (birth_at l.heap l.error_dictionary) s (turn l s))

    pub turns_formed : (turned : Turned) (new : Lent)
        → Turns over_asks over attempt (Ok turned) formed new
        → Turns asks turn attempt (Ok turned) l new
    turns_formed turned new turns = record {
      meets = λ s shown.
          let by = turns.meets s (formed_left l more names are s shown).shown in
          let did : IsTurned attempt.refused (over formed s) turned s l new = record {
            after = by.did.after;
            shown = by.did.shown;
            lasts = by.did.lasts;
            leaves = by.did.leaves;
            is = by.did.is;
          } in
          record {
            did = subst (λ (t : Turn). IsTurned attempt.refused t turned s l new) (same s shown) did;
            logs = logs_more _ _ l.grants new.grants attempt.slot (covered s shown).records by.logs;
          };
      good = turns.good;
      keeps = turns.keeps;
      stays = record {
        program = turns.stays.program;
        most = turns.stays.most;
        error_dictionary = turns.stays.error_dictionary;
        formed = more ++ turns.stays.formed;
        names = turns.stays.names
            ∙ (ap (λ (ns : List (List ℕ)). ns ++ turns.stays.formed) are
            ∙ append_assoc l.names more turns.stays.formed);
        capacity = turns.stays.capacity;
        scratch = turns.stays.scratch;
      };
      logs = turns.logs;
      framed = tt;
      under_way = turns.under_way;
    }

    -- not made; the names are taken back
    pub unmade_formed : IsGood l → (reason : Reason) (new : Lent)
        → Turns over_asks over attempt (Err reason) formed new
        → Turns asks turn attempt (Err reason) l (without new)
    unmade_formed good reason new turns = record {
      meets = λ s shown.
          let by = turns.meets s (formed_left l more names are s shown).shown in
          record {
            did = (
              reason_more _ _ (covered s shown) attempt.slot l (without new) reason
                  (moved_reason _ attempt.slot new reason by.did.0),
              ap without by.did.1,
            );
            logs = by.logs;
          };
      good = record {
        sound = turns.good.sound;
        operands = turns.good.operands;
        dictionaries = turns.good.dictionaries;
        frames = turns.good.frames;
        error_stands = turns.good.error_stands;
        names = good.names;
        first = good.first;
        empty = turns.good.empty;
      };
      keeps = turns.keeps;
      stays = record {
        program = turns.stays.program;
        most = turns.stays.most;
        error_dictionary = turns.stays.error_dictionary;
        formed = [];
        names = sym (append-nil l.names);
        capacity = turns.stays.capacity;
        scratch = turns.stays.scratch;
      };
      logs = turns.logs;
      framed = turns.framed;
      under_way = tt;
    }
