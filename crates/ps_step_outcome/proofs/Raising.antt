-- What is lent once an error is noted.
use Rattle.std.proofs.Common.{◌≡◌, ◌≢◌, arith, List, [], ◌∷◌, length, Ok, Err, refl, sym, ap, ◌∙◌}
use Rattle.std.specs.Prelude.{Result}
use Rattle.ps_language.specs.declared.errors.ErrorName.{ErrorName}
use Rattle.ps_language.specs.Value.{Value, Store}
use Rattle.ps_language.specs.World.{unwinding, for_stop}
use Rattle.ps_language.specs.StepErrors.{with_error}
use Rattle.ps_language.specs.Machines.{with_scene, settled, reaches}
use Rattle.ps_word.specs.declared.words.Word.{Word}
use Rattle.ps_mem.specs.Heap.{Heap, Grants, birth_at}
use Rattle.ps_mem.specs.Keeps.{Keeps}
use Rattle.ps_mem.specs.Meaning.{value_of}
use Rattle.ps_mem.specs.Shows.{IsSound, Shows}
use Rattle.ps_mem.proofs.KeepsLemmas.{AreValues-kept, AreWithin-kept, values_of-kept, known_values}
use Rattle.ps_ops_operands.specs.declared.failure.NotMade.{NotMade as Reason}
use Rattle.ps_ops_operands.specs.declared.failure.NotMade.TheVariants.{LogFull, LogClosed, NeedSpace, Memory}
use Rattle.ps_ops_control.specs.declared.frames.Cause.TheVariants.{Stop}
use Rattle.ps_ops_control.specs.declared.frames.Frame.{Frame}
use Rattle.ps_ops_state.specs.declared.lent.Attempt.{Attempt}
use Rattle.ps_ops_state.specs.Lent.{Lent, scene_of, IsShown, IsGood}
use Rattle.ps_ops_state.specs.Acts.{Lasts, IsLeft, IsSame}
use Rattle.ps_ops_state.proofs.Lifts.{error-kept}
use Rattle.ps_ops_state.proofs.Kept.{frames-good, frames-same, frames-within}
use Rattle.ps_ops_state.proofs.Meeting.{stays_as, at_least-same}
use Rattle.ps_step_outcome.specs.declared.turned.Turned.{Turned}
use Rattle.ps_step_outcome.specs.declared.turned.Turned.TheVariants.{Breaks}
use Rattle.ps_step_outcome.specs.Turns.{Notes, IsTurned, IsUnderWay, IsShownWith, TurnsBy, TurnsWith, error_turn, needs_in}
use Rattle.ps_step_outcome.specs.Turns.{nothing_more}

-- ---- over another memory that keeps what stood

module _ (l : Lent) (good : IsGood l) (heap : Heap) (grants : Grants) (keeps : Keeps l.heap heap)
  where
    abbrev pub over_it : Lent
    over_it = record l { heap = heap; grants = grants }

    pub left_over : (s t : Store) → IsShown l s → Shows heap l.names t → Lasts s t
        → IsLeft s over_it (record (scene_of l s) { store = t })
    left_over s t shown shows lasts =
        let operands = known_values l.heap l.operands good.operands in
        let dictionaries = known_values l.heap l.dictionaries good.dictionaries in
        let size = length l.program in
        record {
          is = λ i. record {
            operands = values_of-kept l.heap heap keeps l.names l.operands operands i;
            dictionaries = values_of-kept l.heap heap keeps l.names l.dictionaries dictionaries i;
            frames = frames-same l.heap heap keeps size l.names l.frames good.frames i;
            store = t;
            names = l.names;
          };
          shown = record {
            shows = shows;
            operands = AreWithin-kept l.heap heap keeps l.names s t lasts l.operands operands
                shown.operands;
            dictionaries = AreWithin-kept l.heap heap keeps l.names s t lasts l.dictionaries
                dictionaries shown.dictionaries;
            frames = frames-within l.heap heap keeps size l.names s t lasts l.frames good.frames
                shown.frames;
          };
          lasts = lasts;
        }

    pub good_over : IsSound heap → IsGood over_it
    good_over sound = record {
      sound = sound;
      operands = AreValues-kept l.heap heap keeps l.operands good.operands;
      dictionaries = AreValues-kept l.heap heap keeps l.dictionaries good.dictionaries;
      frames = frames-good l.heap heap keeps (length l.program) l.frames good.frames;
      error_stands = error-kept l.heap heap keeps l.error_dictionary good.error_stands;
      names = good.names;
      first = good.first;
      empty = good.empty;
    }

-- ---- an error is noted, and frames are left

some_frames : (frames : List Frame) → length frames ≢ 0 → IsUnderWay (Breaks Stop) frames
some_frames [] some = absurd (some refl)
some_frames (frame ∷ frames) some = tt

module _ (error : ErrorName) (command : Word) (attempt : Attempt) (l : Lent) (good : IsGood l)
    (heap : Heap) (grants : Grants) where
  abbrev NotesTo : Result Unit Reason → Type 0
  NotesTo result =
      Notes error command attempt.slot l.error_dictionary result l.heap heap l.grants grants

  abbrev TurnsTo : Result Turned Reason → Lent → Type 0
  TurnsTo result new =
      TurnsWith (command ∷ []) [] nothing_more (error_turn error command) attempt result l new

  abbrev noted : Lent
  noted = record l { heap = heap; grants = grants }

  noted_turn : NotesTo (Ok tt) → (s : Store) (held : IsShownWith (command ∷ []) [] l s)
      → IsTurned attempt.refused (error_turn error command l s) (Breaks Stop) s l noted
  noted_turn notes s held =
      let note = notes.did.meets l.names s good.first good.names.different held.shown.shows
      held.words_within.0 in
      let value : Value = value_of (birth_at l.heap) l.names command in
      let next = left_over l good heap grants notes.keeps s _ held.shown note.0 note.1 in
      record {
        after = with_error error value (birth_at l.heap l.error_dictionary) s;
        shown = next.shown;
        lasts = next.lasts;
        leaves = tt;
        is = λ machine printed address.
            (λ i. reaches (settled (record (with_scene
            (record (scene_of l s) { store = with_error error value (address i) s })
            (unwinding for_stop) machine) { printed = machine.printed })))
            ∙ (λ i. reaches (settled (record
            (with_scene (sym next.is i) (unwinding for_stop) machine) { printed = printed i })));
      }

  pub raised_on : length l.frames ≢ 0 → NotesTo (Ok tt) → TurnsTo (Ok (Breaks Stop)) noted
  raised_on some notes = record {
    meets = λ s held. record { did = noted_turn notes s held; logs = notes.logs };
    good = good_over l good heap grants notes.keeps notes.sound;
    keeps = notes.keeps;
    stays = stays_as l noted refl refl refl refl (omega arith) (at_least-same _);
    logs = notes.logs;
    framed = tt;
    under_way = some_frames l.frames some;
  }

  -- ---- it is not noted

  same_noted : heap ≡ l.heap → IsSame l noted
  same_noted kept = ap (λ (h : Heap). record l { heap = h; grants = grants }) kept

  not_raised_by : (reason : Reason) → NotesTo (Err reason)
      → ((s : Store) → TurnsBy (needs_in attempt nothing_more (error_turn error command) l s) attempt
      (Err reason) (error_turn error command l s) s l noted) → TurnsTo (Err reason) noted
  not_raised_by reason notes meets = record {
    meets = λ s held. meets s;
    good = good_over l good heap grants notes.keeps notes.sound;
    keeps = notes.keeps;
    stays = stays_as l noted refl refl refl refl (omega arith) (at_least-same _);
    logs = notes.logs;
    framed = refl;
    under_way = tt;
  }

  pub not_raised : (reason : Reason) → NotesTo (Err reason) → TurnsTo (Err reason) noted
  not_raised LogFull notes = not_raised_by LogFull notes λ s.
      record { did = ((notes.did.0, notes.did.1), same_noted notes.did.2); logs = notes.logs }
  not_raised LogClosed notes = not_raised_by LogClosed notes λ s.
      record { did = ((omega arith, notes.did.0), same_noted notes.did.1); logs = notes.logs }
  not_raised Memory notes = absurd notes.did
  not_raised (NeedSpace words) notes = absurd notes.did
