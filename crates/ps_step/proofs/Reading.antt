-- A token of a text is done by operands alone.
use Rattle.std.proofs.Common.{◌≡◌, ℕ, ◌+◌, true, false, List, [], ◌∷◌, drop, length, Option, Some, None, Result, Ok}
use Rattle.std.proofs.Common.{Err, refl, sym, subst, ◌∙◌}
use Rattle.ps_language.specs.Token as language
use Rattle.ps_language.specs.Token.{found}
use Rattle.ps_language.specs.Value.{Store}
use Rattle.ps_word.specs.declared.words.Word.{Word}
use Rattle.ps_word.specs.Format.{executable_in}
use Rattle.ps_mem.specs.Heap.{Heap, birth_at}
use Rattle.ps_mem.specs.Shows.{IsWithin}
use Rattle.ps_ops_operands.specs.declared.failure.NotMade.{NotMade as Reason}
use Rattle.ps_scan.specs.declared.tokens.ScanFault.{ScanFault as Fault}
use Rattle.ps_scan.specs.declared.tokens.Token.{Token}
use Rattle.ps_scan.specs.Shown.{token_of}
use Rattle.ps_ops_control.specs.declared.frames.Source.{Source}
use Rattle.ps_ops_control.specs.declared.frames.Frame.{Frame}
use Rattle.ps_ops_control.specs.Frames.{IsSourceAt, source_of}
use Rattle.ps_ops_state.specs.declared.lent.Attempt.{Attempt}
use Rattle.ps_ops_state.specs.Lent.{Lent, IsShown, IsGood}
use Rattle.ps_ops_state.specs.Attempts.{ordinary}
use Rattle.ps_step_outcome.specs.declared.turned.Turned.{Turned}
use Rattle.ps_step_outcome.specs.declared.turned.Turned.TheVariants.{Goes}
use Rattle.ps_step_outcome.specs.Turns.{Turns, TurnsWith, nothing_more}
use Rattle.ps_step_outcome.proofs.Composing.{turns_as, turns_shown}
use Rattle.ps_step_execute.specs.Quick.{IsTreated, TreatsAs}
use Rattle.ps_step_execute.specs.declared.quick.Fast.TheVariants.{Done as FastDone}
use Rattle.ps_ops_control.specs.declared.ahead.Ahead.TheVariants as ahead
use Rattle.ps_step_execute.specs.Values.{Asks, EntersIn, GoesAlone, among, executed_asks, done_turn, pushed_turn}
use Rattle.ps_step_execute.specs.Values.{treated_asks, treated_turn}
use Rattle.ps_step_execute.proofs.Alone.{literal_treated, own_treats, treated_comes}
use Rattle.ps_step_execute.proofs.Executing.{literal_unmade, literal_unnamed}
use Rattle.ps_step_frames.specs.Steps.{running_turn}
use Rattle.ps_step_interpreter.specs.Interprets.{asks_in, own_turn}
use Rattle.ps_step_interpreter.specs.Makes.{TurnsBehind}
use Rattle.ps_step_interpreter.specs.OwnSteps.{HasRun}
use Rattle.ps_step_interpreter.proofs.Running.{run_more}
use Rattle.ps_step_tokens.specs.Tokens.{token_asks, token_turn}
use Rattle.ps_step_tokens.specs.Words.{IsDoneAs}
use Rattle.ps_step_frames.specs.declared.elements.Element.{Element}
use Rattle.ps_step.specs.Reading.{read_to, DoesToken, Read, Reads, ReadsWord, IsRead}
use Rattle.ps_step.specs.Steps.{own_asks}
use Rattle.ps_step.specs.Texts.{scan_at, scanned_asks, text_asks, bytes_scanned, IsScanned, Starves, IsTaken, Scans}
use Rattle.ps_step.proofs.Ahead.{turned_behind}
use Rattle.ps_step.proofs.Listing.{listed_turns}
use Rattle.ps_step.proofs.Scanning.{source_records, source_rooms}
use Rattle.ps_step.proofs.Taking.{behind, behind_good, token_goes, token_unmade}

-- ---- as its word

-- a token whose word is done as an element
pub word_does : (asks : Asks) (heap : Heap) (dictionaries : List Word) (names : List (List ℕ))
    (token : language.Token) (word : Word) (old new : List Word) → IsDoneAs names token word
    → EntersIn (among heap dictionaries) (word ∷ word ∷ []) (executed_asks asks word)
    (done_turn word word) ahead.Goes old new
    → DoesToken asks heap dictionaries names token old new
word_does asks heap dictionaries names token word old new is goes l attempt same good =
    let before : Lent = record (among heap dictionaries l) { operands = old } in
    let after : Lent = record (among heap dictionaries l) { operands = new } in
    turns_as (executed_asks asks word) (token_asks asks token) (done_turn word word)
    (token_turn token) attempt (Ok Goes) before after
    (λ s shown. sym (is.turn before s same)) (λ s shown. sym (is.asked asks before s same))
    (turns_shown (word ∷ word ∷ []) [] (executed_asks asks word) (done_turn word word) attempt
    (Ok Goes) before after
    (λ s shown.
    let within : IsWithin (birth_at heap) l.names s word = rw same (is.within (birth_at heap) s) in
    (within, (within, tt))) (λ s shown. tt)
    (goes.1 l attempt good (is.held heap, (is.held heap, tt)) tt))

-- ---- over the text that goes on

-- where the token is known that was read
module _ (asks : Asks) (source : Source) (at : ℕ) (start : Lent)
    (good : IsGood (read_to source at start)) (attempt : Attempt) (token : language.Token) (end : ℕ)
    (further : IsSourceAt start.heap (length start.program) source end)
    (scanned : (s : Store) → IsShown (read_to source at start) s
    → scan_at source at (read_to source at start) s ≡ found token end) where
  abbrev l : Lent
  l = read_to source at start

  abbrev below : List Frame
  below = drop 1 start.frames

  abbrev over : Lent
  over = behind l source at below refl token end scanned asks further good attempt

  pub over_good : IsGood over
  over_good = behind_good l source at below refl token end scanned asks further good attempt

  listed : (result : Result Turned Reason) (new : Lent)
      → Turns (λ (m : Lent) (s : Store). scanned_asks asks source below (scan_at source at m s) m s)
      running_turn attempt result l new
      → Turns (text_asks asks source at below) running_turn attempt result l new
  listed result new =
      listed_turns
      (λ (m : Lent) (s : Store). scanned_asks asks source below (scan_at source at m s) m s)
      (text_asks asks source at below) running_turn attempt result l new
      (λ s shown. source_records l _ (source_of (birth_at l.heap) source) _)
      (λ s shown. source_rooms l _ (source_of (birth_at l.heap) source) _)

  pub text_goes : (turned : Turned) (new : Lent)
      → Turns (token_asks asks token) (token_turn token) attempt (Ok turned) over new
      → Turns (text_asks asks source at below) running_turn attempt (Ok turned) l new
  text_goes turned new turns =
      listed (Ok turned) new
      (token_goes l source at below refl token end scanned asks further good attempt turned new turns)

  pub text_unmade : (reason : Reason) (new : Lent)
      → Turns (token_asks asks token) (token_turn token) attempt (Err reason) over new
      → Turns (text_asks asks source at below) running_turn attempt (Err reason) l
      (record new { frames = l.frames })
  text_unmade reason new turns =
      listed (Err reason) (record new { frames = l.frames })
      (token_unmade l source at below refl token end scanned asks further good attempt reason new
      turns)

  -- it is treated as a value
  module _ (word value : Word) (is : IsDoneAs start.names token word)
      (treats : TreatsAs asks start.heap start.dictionaries word value) where
    treated : (s : Store) → IsShown over s → IsTreated asks word value over s
    treated s shown = treats over s over_good (record {
      shown = shown;
      words_within = (is.within _ s, (is.within _ s, tt));
      frames_within = tt;
    })

    pub token_treated : (result : Result Turned Reason) (new : Lent)
        → TurnsWith (value ∷ word ∷ []) [] (treated_asks asks value) (treated_turn word value) attempt
        result over new
        → Turns (token_asks asks token) (token_turn token) attempt result over new
    token_treated result new turns =
        turns_as (treated_asks asks value) (token_asks asks token) (treated_turn word value)
        (token_turn token) attempt result over new
        (λ s shown. sym (is.turn over s refl ∙ (treated s shown).turn))
        (λ s shown. sym (is.asked asks over s refl ∙ (treated s shown).asked))
        (turns_shown (value ∷ word ∷ []) [] (treated_asks asks value) (treated_turn word value)
        attempt result over new
        (λ s shown. ((treated s shown).within, (is.within _ s, tt))) (λ s shown. tt) turns)

-- by what was scanned
module _ (asks : Asks) (source : Source) (at : ℕ) (start : Lent)
    (good : IsGood (read_to source at start)) (text : List ℕ)
    (result : Result (Option Token) Fault)
    (scanned : (s : Store) → IsShown (read_to source at start) s
    → let outcome = scan_at source at start s in
    IsScanned (Starves (source_of (birth_at start.heap) source) outcome) text result outcome)
    (held : IsTaken (IsSourceAt start.heap (length start.program) source) text result) where
  pub read_taken : (attempt : Attempt) (new : List Word) (end : ℕ)
      → Reads asks start.heap start.dictionaries start.names text (Ok end) result start.operands
      new
      → Turns (text_asks asks source at (drop 1 start.frames)) running_turn attempt (Ok Goes)
      (read_to source at start) (read_to source end (record start { operands = new }))
  read_taken attempt new end = by result scanned held
    where
      by : (result : Result (Option Token) Fault)
          → ((s : Store) → IsShown (read_to source at start) s
          → let outcome = scan_at source at start s in
          IsScanned (Starves (source_of (birth_at start.heap) source) outcome) text result outcome)
          → IsTaken (IsSourceAt start.heap (length start.program) source) text result
          → Reads asks start.heap start.dictionaries start.names text (Ok end) result
          start.operands new
          → Turns (text_asks asks source at (drop 1 start.frames)) running_turn attempt (Ok Goes)
          (read_to source at start) (read_to source end (record start { operands = new }))
      by (Ok (Some token)) scanned held does =
          subst (λ (n : ℕ). Turns (text_asks asks source at (drop 1 start.frames)) running_turn
          attempt (Ok Goes) (read_to source at start)
          (read_to source n (record start { operands = new }))) (sym does.0)
          (text_goes asks source at start good attempt (token_of text token.kind) token.end held.0
          scanned Goes (read_to source token.end (record start { operands = new }))
          (does.1 (over asks source at start good attempt (token_of text token.kind) token.end held.0
          scanned) attempt refl
          (over_good asks source at start good attempt (token_of text token.kind) token.end held.0
          scanned)))
      by (Ok None) scanned held does = absurd does
      by (Err fault) scanned held does = absurd does

  pub is_read : (new : List Word) (known : Element × ℕ)
      → Reads asks start.heap start.dictionaries start.names text (Err (Some known)) result
      start.operands new
      → IsRead asks source at known.0.word known.0.value known.1 (read_to source at start)
  is_read new known = by result scanned held
    where
      by : (result : Result (Option Token) Fault)
          → ((s : Store) → IsShown (read_to source at start) s
          → let outcome = scan_at source at start s in
          IsScanned (Starves (source_of (birth_at start.heap) source) outcome) text result outcome)
          → IsTaken (IsSourceAt start.heap (length start.program) source) text result
          → Reads asks start.heap start.dictionaries start.names text (Err (Some known))
          result start.operands new
          → IsRead asks source at known.0.word known.0.value known.1 (read_to source at start)
      by (Ok (Some token)) scanned held reads = rw reads.1 (record {
        token = token_of text token.kind;
        scanned = scanned;
        further = held.0;
        is = reads.2;
        held = reads.3;
        treats = reads.4;
      })
      by (Ok None) scanned held reads = absurd reads
      by (Err fault) scanned held reads = absurd reads

-- a token whose word is a literal, which is pushed
pub literal_does : (asks : Asks) (heap : Heap) (dictionaries : List Word) (names : List (List ℕ))
    (token : language.Token) (word : Word) (old new : List Word) → IsDoneAs names token word
    → executable_in word.0 ≡ false
    → ((command : Word) → GoesAlone (word ∷ command ∷ []) nothing_more (pushed_turn command word)
    true old new)
    → DoesToken asks heap dictionaries names token old new
literal_does asks heap dictionaries names token word old new is literal pushed =
    word_does asks heap dictionaries names token word old new is
    (treated_comes asks heap dictionaries word old new ahead.Goes word FastDone refl (is.held heap)
    (own_treats asks heap dictionaries word
    (λ births names. literal_unmade word births names literal)
    (λ births names. literal_unnamed word births names literal))
    (literal_treated asks word word heap ahead.Goes old new literal true refl (pushed word)))

-- ---- a number or a name

pub word_reads : (asks : Asks) (heap : Heap) (dictionaries : List Word) (names : List (List ℕ))
    (program list : List ℕ) (source : Source) (at : ℕ) (token : Token)
    → Scans heap source at program list (Ok (Some token))
    → IsTaken (IsSourceAt heap (length program) source) (bytes_scanned source program list)
    (Ok (Some token)) → (read : Read) (old new : List Word)
    → Reads asks heap dictionaries names (bytes_scanned source program list) read (Ok (Some token))
    old new
    → ReadsWord asks heap dictionaries names program list source at read old new
word_reads asks heap dictionaries names program list source at token scanned held (Err None) old new
    reads = reads
word_reads asks heap dictionaries names program list source at token scanned held (Ok end) old new
    reads = record { token = token; scanned = scanned; held = held; reads = reads }
word_reads asks heap dictionaries names program list source at token scanned held
    (Err (Some known)) old new reads =
    record { token = token; scanned = scanned; held = held; reads = reads }

-- ---- steps

module _ (asks : Asks) (slot made : ℕ) (start old : Lent) (source : Source) (at : ℕ)
    (so_far : HasRun made start (read_to source at old)) where
  abbrev OwnTurns : Result Turned Reason → Lent → Type 0
  OwnTurns result new = Turns (asks_in (own_asks asks) None) (own_turn None) (ordinary slot) result
      (read_to source at old) new

  own_text : (result : Result Turned Reason) (new : Lent)
      → Turns (text_asks asks source at (drop 1 old.frames)) running_turn (ordinary slot) result
      (read_to source at old) new → OwnTurns result new
  own_text result new turns =
      turns_as (text_asks asks source at (drop 1 old.frames)) (asks_in (own_asks asks) None)
      running_turn (own_turn None) (ordinary slot) result (read_to source at old) new
      (λ s shown. refl) (λ s shown. refl) turns

  -- a token more
  pub read_more : (new : Lent)
      → Turns (text_asks asks source at (drop 1 old.frames)) running_turn (ordinary slot) (Ok Goes)
      (read_to source at old) new → HasRun (made + 1) start new
  read_more new turns =
      run_more (own_asks asks) slot made start (read_to source at old) new so_far
      (λ none. absurd (cc)) (own_text (Ok Goes) new turns)

  -- the turn of another one
  pub read_behind : (result : Result Turned Reason) (new : Lent)
      → Turns (text_asks asks source at (drop 1 old.frames)) running_turn (ordinary slot) result
      (read_to source at old) new → TurnsBehind (own_asks asks) slot made result start new
  read_behind result new turns =
      turned_behind asks slot made start (read_to source at old) new so_far (λ none. absurd (cc))
      result (own_text result new turns)
