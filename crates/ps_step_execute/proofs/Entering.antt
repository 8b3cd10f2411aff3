-- What enters a procedure, up to its frame.
use Rattle.std.proofs.Common.{◌≡◌, ◌+◌, ◌≤◌, ◌==◌, arith, Bool, true, false, List, [], ◌∷◌, length, Ok, refl, sym}
use Rattle.std.proofs.Common.{subst}
use Rattle.std.specs.Prelude.{if◌then◌else◌}
use Rattle.std.proofs.lemmas.Bool.Decides.{nat_tests}
use Rattle.ps_language.specs.Access.{is_executable}
use Rattle.ps_word.specs.declared.values.Content.TheVariants.{Array}
use Rattle.ps_word.specs.declared.values.Part.{Part}
use Rattle.ps_word.specs.declared.words.Word.{Word}
use Rattle.ps_word.specs.Format.{content_in, executable_in}
use Rattle.ps_mem.specs.Heap.{birth_at}
use Rattle.ps_ops_control.specs.declared.ahead.Ahead.{Ahead}
use Rattle.ps_ops_control.specs.declared.ahead.Ahead.TheVariants as ahead
use Rattle.ps_ops_control.specs.declared.frames.Frame.TheVariants.{Procedure}
use Rattle.ps_ops_control.specs.Ahead.{entered_ahead}
use Rattle.ps_ops_control.specs.Frames.{frame_of, IsHeld}
use Rattle.ps_ops_control.proofs.Rooms.{fits}
use Rattle.ps_ops_state.specs.declared.lent.Attempt.{Attempt}
use Rattle.ps_ops_state.specs.Lent.{Lent, IsGood}
use Rattle.ps_step_outcome.specs.declared.turned.Turned.TheVariants.{Goes}
use Rattle.ps_step_outcome.specs.Turns.{IsShownWith, TurnsWith, nothing_more}
use Rattle.ps_step_outcome.proofs.Composing.{held_good, goes_over}
use Rattle.ps_step_execute.specs.Values.{EntersAlone, entered_turn, treated_turn, Asks, treated_asks}
use Rattle.ps_step_execute.proofs.Executing.{array_entered, treated_executable, array_held}
use Rattle.ps_step_execute.proofs.Pushing.{goes_as}

module _ (asks : Asks) (command word : Word) (may : executable_in word.0 ≡ true) where
  module _ (part : Part) (content : content_in word.0 ≡ Array part)
      (access : is_executable part.access ≡ true) (old : List Word) where
    module _ (l : Lent) (attempt : Attempt) (good : IsGood l) (held : IsHeld l.heap part) where
      empty_goes : part.length ≡ 0
          → TurnsWith (command ∷ []) [] nothing_more (entered_turn command part) attempt (Ok Goes) l l
      empty_goes none =
          goes_as command l attempt (IsShownWith (command ∷ []) []) (entered_turn command part)
          (λ s held. held.shown) good (λ s held. rw (access, none) refl)

      filled_goes : 1 ≤ part.length → 1 + length l.frames ≤ 250
          → TurnsWith (command ∷ []) [] nothing_more (entered_turn command part) attempt (Ok Goes) l
          (record l { frames = Procedure part ∷ l.frames })
      filled_goes some room =
          let positive : (part.length == 0) ≡ false = grind (arith, nat_tests, some) in
          goes_over l l.operands (Procedure part ∷ l.frames) (IsShownWith (command ∷ []) [])
          nothing_more (entered_turn command part) attempt
          (λ s held. record {
            shows = held.shown.shows;
            operands = held.shown.operands;
            dictionaries = held.shown.dictionaries;
            frames = (tt, held.shown.frames);
          })
          (λ s held. rw (
            access,
            positive,
            fits (frame_of (birth_at l.heap) l.names) l.frames 1 (omega (arith, room)),
          ) refl)
          (held_good l l.operands (Procedure part ∷ l.frames) good.operands
          ((held, some), good.frames) good)

    abbrev Comes : Ahead → Type 0
    Comes came = EntersAlone (word ∷ command ∷ []) (treated_asks asks word)
        (treated_turn command word) came old old

    entered_by : (empty : Bool) → (part.length == 0) ≡ empty
        → Comes (if empty then ahead.Goes else ahead.Enters part)
    entered_by true none = (
      tt,
      λ l attempt good values room.
          let before : Lent = record l { operands = old } in
          treated_executable asks command word before attempt (Ok Goes) _ may
          (array_entered asks command word before attempt (Ok Goes) _ part content
          (empty_goes before attempt good (array_held l.heap word part values.0 content)
          (grind (arith, nat_tests, none)))),
    )
    entered_by false none = (
      tt,
      λ l attempt good values room.
          let before : Lent = record l { operands = old } in
          treated_executable asks command word before attempt (Ok Goes) _ may
          (array_entered asks command word before attempt (Ok Goes) _ part content
          (filled_goes before attempt good (array_held l.heap word part values.0 content)
          (grind (arith, nat_tests, none)) room)),
    )

    pub procedure_enters : (came : Ahead) → came ≡ entered_ahead part → Comes came
    procedure_enters came is = subst Comes (sym is) (entered_by (part.length == 0) refl)
