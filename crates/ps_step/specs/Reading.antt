-- The tokens of a text, one after another (PLRM2, 3.2, 3.5).
use Rattle.std.specs.Prelude.{◌≡◌, ℕ, List, ◌∷◌, drop, length, Option, Some, None, Result, Ok, Err}
use Rattle.ps_language.specs.Token as language
use Rattle.ps_language.specs.Token.{found}
use Rattle.ps_language.specs.Value.{Store}
use Rattle.ps_word.specs.declared.words.Word.{Word}
use Rattle.ps_mem.specs.Heap.{Heap}
use Rattle.ps_mem.specs.Shows.{IsValue}
use Rattle.ps_scan.specs.declared.tokens.ScanFault.{ScanFault as Fault}
use Rattle.ps_scan.specs.declared.tokens.Token.{Token}
use Rattle.ps_scan.specs.Shown.{token_of}
use Rattle.ps_ops_control.specs.declared.frames.Source.{Source}
use Rattle.ps_ops_control.specs.declared.frames.Frame.TheVariants.{Text}
use Rattle.ps_ops_control.specs.Frames.{IsSourceAt}
use Rattle.ps_ops_state.specs.declared.lent.Attempt.{Attempt}
use Rattle.ps_ops_state.specs.Lent.{Lent, IsGood, IsShown}
use Rattle.ps_ops_operands.specs.declared.failure.NotMade.{NotMade as Reason}
use Rattle.ps_step_outcome.specs.declared.turned.Turned.{Turned}
use Rattle.ps_step_outcome.specs.declared.turned.Turned.TheVariants.{Goes}
use Rattle.ps_step_outcome.specs.Turns.{Turns}
use Rattle.ps_step_execute.specs.Quick.{TreatsAs}
use Rattle.ps_step_execute.specs.Values.{Asks, among}
use Rattle.ps_step_frames.specs.declared.elements.Element.{Element}
use Rattle.ps_step_frames.specs.Steps.{running_turn, with_frames}
use Rattle.ps_step_tokens.specs.Tokens.{token_asks, token_turn}
use Rattle.ps_step_tokens.specs.Words.{IsDoneAs}
use Rattle.ps_step.specs.Texts.{scan_at, text_asks, bytes_scanned, Scans, IsTaken}

-- the text that is the topmost frame was read up to a place
abbrev pub read_to : Source → (at : ℕ) → Lent → Lent
read_to source at l = with_frames (Text source at ∷ drop 1 l.frames) l

-- whatever else is lent over this heap, by this dictionary stack and under these names, doing the
-- token goes on and changes operands alone
abbrev pub DoesToken : Asks → Heap → (dictionaries : List Word) → (names : List (List ℕ))
    → language.Token → (old new : List Word) → Type 0
DoesToken asks heap dictionaries names token old new =
    (l : Lent) (attempt : Attempt) → l.names ≡ names
    → IsGood (record (among heap dictionaries l) { operands = old })
    → Turns (token_asks asks token) (token_turn token) attempt (Ok Goes)
    (record (among heap dictionaries l) { operands = old })
    (record (among heap dictionaries l) { operands = new })

-- where a token that was done ends; or the element that it is, and where it ends, if that is known
abbrev pub Read : Type 0
Read = Result ℕ (Option (Element × ℕ))

-- what was scanned came to that
abbrev pub Reads : Asks → Heap → (dictionaries : List Word) → (names : List (List ℕ))
    → (text : List ℕ) → Read → Result (Option Token) Fault → (old new : List Word) → Type 0
Reads asks heap dictionaries names text (Err None) scanned old new = new ≡ old
Reads asks heap dictionaries names text (Ok end) (Ok (Some token)) old new =
    (end ≡ token.end)
    × DoesToken asks heap dictionaries names (token_of text token.kind) old new
Reads asks heap dictionaries names text (Err (Some known)) (Ok (Some token)) old new =
    (new ≡ old) × (known.1 ≡ token.end) × IsDoneAs names (token_of text token.kind) known.0.word
    × IsValue heap known.0.value × TreatsAs asks heap dictionaries known.0.word known.0.value
Reads asks heap dictionaries names text read scanned old new = ⊥

-- where it was done, up to this place
abbrev pub read_to_end : Option ℕ → Read
read_to_end (Some end) = Ok end
read_to_end None = Err None

-- behind a place of the text a token was read up to another, which is done as this word, and so as
-- this value is treated
pub record IsRead (asks : Asks) (source : Source) (at : ℕ) (word value : Word) (end : ℕ) (l : Lent)
    : Type 0 where
  pub token : language.Token
  pub scanned : (s : Store) → IsShown l s → scan_at source at l s ≡ found token end
  pub further : IsSourceAt l.heap (length l.program) source end
  pub is : IsDoneAs l.names token word
  pub held : IsValue l.heap value
  pub treats : TreatsAs asks l.heap l.dictionaries word value

-- of the text that is the topmost frame and was read up to a place a token is done, by which it is
-- read further, before the frame is; or the turn came to that
abbrev pub Takes : Asks → Source → (at : ℕ) → Attempt → Result ℕ (Result Turned Reason)
    → (old new : Lent) → Type 0
Takes asks source at attempt (Ok end) old new = (new.frames ≡ old.frames)
    × Turns (text_asks asks source at (drop 1 old.frames)) running_turn attempt (Ok Goes)
    (read_to source at old) (read_to source end new)
Takes asks source at attempt (Err result) old new =
    Turns (text_asks asks source at (drop 1 old.frames)) running_turn attempt result
    (read_to source at old) new

-- ---- a number or a name

-- behind a place of the source, the program or a string of which that list was read, this token was
-- scanned, which came to that
pub record ReadsToken (asks : Asks) (heap : Heap) (dictionaries : List Word)
    (names : List (List ℕ)) (program list : List ℕ) (source : Source) (at : ℕ) (read : Read)
    (old new : List Word) : Type 0 where
  pub token : Token
  pub scanned : Scans heap source at program list (Ok (Some token))
  pub held : IsTaken (IsSourceAt heap (length program) source) (bytes_scanned source program list)
      (Ok (Some token))
  pub reads : Reads asks heap dictionaries names (bytes_scanned source program list) read
      (Ok (Some token)) old new

-- or nothing has changed
abbrev pub ReadsWord : Asks → Heap → (dictionaries : List Word) → (names : List (List ℕ))
    → (program list : List ℕ) → Source → (at : ℕ) → Read → (old new : List Word) → Type 0
ReadsWord asks heap dictionaries names program list source at (Err None) old new = new ≡ old
ReadsWord asks heap dictionaries names program list source at read old new =
    ReadsToken asks heap dictionaries names program list source at read old new
