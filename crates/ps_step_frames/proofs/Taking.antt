-- The turn of a procedure's first element, and of a value that waits, by their frames.
use Rattle.std.proofs.Common.{◌≡◌, ℕ, ◌+◌, ◌-◌, ◌<◌, ◌≤◌, ◌^◌, arith, Bool, true, false, List, [], ◌∷◌, length, Some, Ok, Err, refl, sym, ap, subst}
use Rattle.std.specs.List.{AllByRecursion}
use Rattle.std.specs.Prelude.{nat_lt, slice_get, unwrap_or, Result, if◌then◌else◌}
use Rattle.std.proofs.lemmas.Bool.Decides.{nat_tests}
use Rattle.ps_language.specs.declared.kinds.Kind.TheVariants.{Array as ArrayKind}
use Rattle.ps_language.specs.Value.{Store}
use Rattle.ps_language.specs.Access.{elements}
use Rattle.ps_language.specs.Readers.{null}
use Rattle.ps_language.specs.StepFrames as language
use Rattle.ps_language.specs.StepFrames.{frame_turn, element_at}
use Rattle.ps_word.specs.declared.values.Part.{Part}
use Rattle.ps_word.specs.declared.words.Word.{Word}
use Rattle.ps_mem.specs.Heap.{Heap, birth_at}
use Rattle.ps_mem.specs.Meaning.{part_of}
use Rattle.ps_mem.specs.References.{StandsAs}
use Rattle.ps_mem.specs.Shows.{IsValue, IsWithin}
use Rattle.ps_ops_control.specs.declared.frames.Frame.{Frame}
use Rattle.ps_ops_control.specs.declared.frames.Frame.TheVariants.{Pending, Procedure}
use Rattle.ps_ops_control.specs.Frames.{IsHeld, frames_in, IsFrame, AreFrames, IsFrameWithin, AreFramesWithin}
use Rattle.ps_ops_state.specs.Lent.{Lent, IsShown, IsGood}
use Rattle.ps_ops_operands.specs.declared.failure.NotMade.{NotMade as Reason}
use Rattle.ps_ops_state.specs.declared.lent.Attempt.{Attempt}
use Rattle.ps_step_outcome.specs.declared.turned.Turned.{Turned}
use Rattle.ps_step_outcome.specs.Turns.{IsShownWith, Turns, TurnsWith}
use Rattle.ps_step_outcome.proofs.Composing.{AreGood, restacked_shown, composes}
use Rattle.ps_step_execute.specs.Values.{meaning, done_turn, executed_turn, Asks, executed_asks}
use Rattle.ps_step_frames.specs.Steps.{running_turn, rest_frames, with_frames, frame_asks}
use Rattle.ps_step_frames.proofs.Framing.{unmade_over}

-- ---- procedures

module _ (h : Heap) (names : List (List ℕ)) (rest : Part) (below : List Frame) where
  rest_shown : frames_in h names (rest_frames rest below)
      ≡ language.rest_frames (part_of (birth_at h) rest) (frames_in h names below)
  rest_shown = by (nat_lt 1 rest.length) refl
    where
      by : (b : Bool) → nat_lt 1 rest.length ≡ b → frames_in h names (rest_frames rest below)
          ≡ language.rest_frames (part_of (birth_at h) rest) (frames_in h names below)
      by true is = rw is refl
      by false is = rw is refl

-- the rest is held
further_held : (h : Heap) (rest : Part) → 1 < rest.length → IsHeld h rest
    → IsHeld h (record rest { offset = rest.offset + 1; length = rest.length - 1 })
further_held h rest more held =
    let same : rest.offset + rest.length ≡ (rest.offset + 1) + (rest.length - 1) =
    omega (arith, more) in
    record {
      stands = subst (StandsAs h ArrayKind rest.address) same held.stands;
      end = subst (λ (n : ℕ). n < 2 ^ 16) same held.end;
    }

-- what holds of the frames below and of the rest
rest_frames_held : (P : Frame → Type 0) (rest : Part) (below : List Frame)
    → (1 < rest.length
    → P (Procedure (record rest { offset = rest.offset + 1; length = rest.length - 1 })))
    → AllByRecursion P below → AllByRecursion P (rest_frames rest below)
rest_frames_held P rest below further all = by (nat_lt 1 rest.length) refl
  where
    by : (b : Bool) → nat_lt 1 rest.length ≡ b → AllByRecursion P (rest_frames rest below)
    by true is = subst (λ (b : Bool). AllByRecursion P (if b then
        Procedure (record rest { offset = rest.offset + 1; length = rest.length - 1 }) ∷ below
        else below)) (sym is) (further (grind (arith, nat_tests, is)), all)
    by false is = subst (λ (b : Bool). AllByRecursion P (if b then
        Procedure (record rest { offset = rest.offset + 1; length = rest.length - 1 }) ∷ below
        else below)) (sym is) all

module _ (l : Lent) (rest : Part) (below : List Frame) (top : l.frames ≡ Procedure rest ∷ below)
  where
    module _ (good : IsGood l) where
      abbrev held : AreFrames l.heap (length l.program) (Procedure rest ∷ below)
      held = subst (AreFrames l.heap (length l.program)) top good.frames

      pub rest_held : IsHeld l.heap rest
      rest_held = held.0.0

      pub rest_some : 1 ≤ rest.length
      rest_some = held.0.1

      pub rest_good : AreGood l l.operands (rest_frames rest below)
      rest_good = record {
        operands_held = good.operands;
        frames_held = rest_frames_held (IsFrame l.heap (length l.program)) rest below
            (λ more. (further_held l.heap rest more rest_held, omega (arith, more))) held.1;
        operands_within = λ s shown. shown.operands;
        frames_within = λ s shown.
            rest_frames_held (IsFrameWithin (birth_at l.heap) l.names s) rest below (λ more. tt)
            (subst (AreFramesWithin l.heap l.names s) top shown.frames).1;
      }

    module _ (word : Word) (reads : (s : Store) → IsShown l s
        → slice_get (elements s (birth_at l.heap rest.address)) (rest.offset + 0)
        ≡ Some (meaning l word)) where
      element_is : (s : Store) → IsShown l s
          → element_at s (part_of (birth_at l.heap) rest) 0 ≡ meaning l word
      element_is s shown = ap (λ e. unwrap_or e null) (reads s shown)

      procedure_is : (s : Store) → IsShown l s
          → done_turn word word (with_frames (rest_frames rest below) l) s ≡ running_turn l s
      unfolding frame_turn
      procedure_is s shown =
          rw (top, element_is s shown, sym (rest_shown l.heap l.names rest below)) refl

      element_shown : IsGood l
          → ((s : Store) → IsShown l s → IsWithin (birth_at l.heap) l.names s word) → (s : Store)
          → IsShown l s
          → IsShownWith (word ∷ word ∷ []) [] (with_frames (rest_frames rest below) l) s
      element_shown good within s shown = record {
        shown = restacked_shown l l.operands (rest_frames rest below) (rest_good good) s shown;
        words_within = (within s shown, (within s shown, tt));
        frames_within = tt;
      }

      procedure_asks : (asks : Asks) (s : Store) → IsShown l s
          → executed_asks asks word (with_frames (rest_frames rest below) l) s ≡ frame_asks asks l s
      procedure_asks asks s shown =
          rw (top, element_is s shown, sym (rest_shown l.heap l.names rest below)) refl

      -- what doing it comes to, over the frames that are left, is the turn of the procedure
      module _ (good : IsGood l)
          (within : (s : Store) → IsShown l s → IsWithin (birth_at l.heap) l.names s word)
          (asks : Asks) (attempt : Attempt) where
        abbrev Does : Result Turned Reason → Lent → Type 0
        Does result new = TurnsWith (word ∷ word ∷ []) [] (executed_asks asks word)
            (done_turn word word) attempt result (with_frames (rest_frames rest below) l) new

        pub element_made : (turned : Turned) (new : Lent) → Does (Ok turned) new
            → Turns (frame_asks asks) running_turn attempt (Ok turned) l new
        element_made turned new turns =
            composes l l.operands (rest_frames rest below) (frame_asks asks)
            (executed_asks asks word) running_turn (done_turn word word) attempt
            (IsShownWith (word ∷ word ∷ []) []) (element_shown good within) procedure_is
            (procedure_asks asks) turned new turns

        pub element_unmade : (reason : Reason) (new : Lent) → Does (Err reason) new
            → Turns (frame_asks asks) running_turn attempt (Err reason) l
            (record new { frames = l.frames })
        element_unmade reason new turns =
            unmade_over l (rest_frames rest below) (frame_asks asks) (executed_asks asks word)
            running_turn (done_turn word word) attempt (IsShownWith (word ∷ word ∷ []) [])
            (element_shown good within) procedure_is (procedure_asks asks) good reason new turns

-- ---- a value that waits

module _ (l : Lent) (word : Word) (below : List Frame) (top : l.frames ≡ Pending word ∷ below)
  where
    pub waiting_held : IsGood l → IsValue l.heap word
    waiting_held good = (subst (AreFrames l.heap (length l.program)) top good.frames).0

    -- its frame tells that it is within each store that is shown
    pub waiting_shown : (s : Store) → IsShown l s
        → IsShownWith (word ∷ word ∷ []) [] (with_frames below l) s
    waiting_shown s shown =
        let frames = subst (AreFramesWithin l.heap l.names s) top shown.frames in
        record {
          shown = record {
            shows = shown.shows;
            operands = shown.operands;
            dictionaries = shown.dictionaries;
            frames = frames.1;
          };
          words_within = (frames.0, (frames.0, tt));
          frames_within = tt;
        }

    pub waiting_is : (s : Store) → IsShown l s
        → executed_turn word word (with_frames below l) s ≡ running_turn l s
    unfolding frame_turn
    waiting_is s shown = rw top refl

    pub waiting_asks : (asks : Asks) (s : Store) → IsShown l s
        → executed_asks asks word (with_frames below l) s ≡ frame_asks asks l s
    waiting_asks asks s shown = rw top refl
