-- What a text that was read says of the step.
use Rattle.std.proofs.Common.{◌≡◌, Some, None, Ok, Err, Option, Result, ℕ, ◌+◌, ◌-◌, ◌<◌, ◌≤◌, arith, Bool, true, false}
use Rattle.std.proofs.Common.{List, [], ◌∷◌, ◌++◌, take, drop, length, refl, sym, ap, subst, ◌∙◌, inl, inr}
use Rattle.std.specs.Prelude.{⊤, IfOk, IfErr, IfSome, slice_range, vec_capacity}
use Rattle.std.proofs.lemmas.List.{drop-drop}
use Rattle.std.proofs.Math.Seq.{take-add}
use Rattle.ps_language.specs.Access.{bytes}
use Rattle.ps_language.specs.Readers.{null}
use Rattle.ps_language.specs.Scan.{further_on, scan}
use Rattle.ps_language.specs.StepFrames.{frame_turn, fault_name}
use Rattle.ps_language.specs.StepValues.{leads}
use Rattle.ps_language.specs.Token as language
use Rattle.ps_language.specs.Token.{number_token, literal_name_token, executable_name_token, immediate_name_token}
use Rattle.ps_language.specs.Token.{string_token, procedure_token, Scan, found, exhausted, faulty, ScanFault}
use Rattle.ps_language.specs.Value.{Store}
use Rattle.ps_language.specs.World as world
use Rattle.ps_language.proofs.ScanSteps.{scan_shifted}
use Rattle.ps_word.specs.declared.words.Word.{Word}
use Rattle.ps_mem.specs.Heap.{Heap, birth_at}
use Rattle.ps_ops_operands.specs.declared.failure.NotMade.TheVariants.{Memory}
use Rattle.ps_word.specs.declared.values.Part.{Part}
use Rattle.ps_ops_control.specs.declared.frames.Source.{Source}
use Rattle.ps_ops_control.specs.declared.frames.Source.TheVariants.{Text as TextOf}
use Rattle.ps_ops_control.specs.declared.frames.Frame.{Frame}
use Rattle.ps_ops_control.specs.declared.frames.Frame.TheVariants.{Text}
use Rattle.ps_ops_control.specs.Frames.{IsSourceAt}
use Rattle.ps_ops_state.specs.declared.lent.Attempt.{Attempt}
use Rattle.ps_ops_state.specs.Acts.{Asked, IsReason, IsAtLeast}
use Rattle.ps_ops_state.specs.Lent.{Lent, scene_of}
use Rattle.ps_ops_state.proofs.Meeting.{at_least-same}
use Rattle.ps_scan.specs.declared.tokens.ScanFault.{ScanFault as Fault}
use Rattle.ps_scan.specs.declared.tokens.ScanFault.TheVariants.{Syntax, Limit, Memory as MemoryFault}
use Rattle.ps_scan.specs.declared.tokens.Token.{Token}
use Rattle.ps_scan.specs.Shown.{TakesMemory, IsFaultBy, scan_of, token_of}
use Rattle.ps_seq.proofs.CompareLemmas.{length_part}
use Rattle.ps_step_tokens.specs.Short.{IsShort}
use Rattle.ps_step_tokens.proofs.ShortLaw.{scanned_is_short}
use Rattle.ps_step_outcome.specs.Turns.{error_turn, needs_in}
use Rattle.ps_step_outcome.proofs.Composing.{restacked}
use Rattle.ps_step_execute.specs.Values.{meaning}
use Rattle.ps_step_frames.specs.Steps.{running_turn}
use Rattle.ps_step.specs.Texts.{scan_at, IsScanned, Starves, IsTaken, unkept, takes_list, with_list, source_asks}
use Rattle.ps_step.proofs.WindowLaw.{window_is_whole}
use Rattle.ps_step.proofs.Listing.{rooms_needed, unkept_more}

-- ---- by what is scanned

module _ (l : Lent) (source : Source) (at : ℕ) (below : List Frame)
    (top : l.frames ≡ Text source at ∷ below) where
  pub exhausted_is : (s : Store) → scan_at source at l s ≡ exhausted
      → running_turn l s ≡ leads (scene_of (restacked l l.operands below) s)
  unfolding frame_turn
  exhausted_is s is = rw (top, is) refl

  pub fault_is : (fault : ScanFault) (command : Word) → meaning l command ≡ null → (s : Store)
      → scan_at source at l s ≡ faulty fault
      → running_turn l s ≡ error_turn (fault_name fault) command l s
  unfolding frame_turn
  fault_is fault command means s is = rw (top, is, means) refl

-- ---- what is asked for

module _ (l : Lent) (asked : Asked) where
  list_records : (takes : Bool) → asked.records ≡ (with_list takes asked).records
  list_records true = refl
  list_records false = refl

  list_rooms : (takes : Bool) → IsAtLeast asked.scratch (with_list takes asked).scratch
  list_rooms true = unkept_more asked
  list_rooms false = at_least-same _

  pub source_records : (source : world.Source) (outcome : Scan)
      → asked.records ≡ (source_asks source outcome asked).records
  source_records world.from_program outcome = list_records (takes_list outcome)
  source_records (world.from_string part) outcome = refl

  pub source_rooms : (source : world.Source) (outcome : Scan)
      → IsAtLeast asked.scratch (source_asks source outcome asked).scratch
  source_rooms world.from_program outcome = list_rooms (takes_list outcome)
  source_rooms (world.from_string part) outcome = unkept_more asked

  -- no list has the room
  pub unkept_lacks : vec_capacity l.scratch.text < (unkept asked).scratch.text
  unkept_lacks = omega (arith, l.scratch.text.ok.0)

  pub source_lacks : (source : world.Source) (outcome : Scan) → Starves source outcome
      → vec_capacity l.scratch.text < (source_asks source outcome asked).scratch.text
  source_lacks world.from_program (found (string_token (byte ∷ bytes)) end) takes = unkept_lacks
  source_lacks world.from_program (found (procedure_token elements) end) takes = unkept_lacks
  source_lacks world.from_program (faulty fault) takes = unkept_lacks
  source_lacks world.from_program (found (number_token number) end) takes = absurd takes
  source_lacks world.from_program (found (literal_name_token text) end) takes = absurd takes
  source_lacks world.from_program (found (executable_name_token text) end) takes = absurd takes
  source_lacks world.from_program (found (immediate_name_token text) end) takes = absurd takes
  source_lacks world.from_program (found (string_token []) end) takes = absurd takes
  source_lacks world.from_program exhausted takes = absurd takes
  source_lacks (world.from_string part) outcome takes = unkept_lacks

-- want of it is a reason, whatever the turn
pub list_reason : (attempt : Attempt) (asks : Lent → Store → Asked) (turn : _) (l new : Lent)
    (s : Store) → vec_capacity l.scratch.text < (asks l s).scratch.text
    → IsReason (needs_in attempt asks turn l s) attempt.slot l new Memory
list_reason attempt asks turn l new s lacks =
    let is = ap (λ r. r.text) (rooms_needed attempt.refused (birth_at l.heap l.error_dictionary)
    (scene_of l s) (asks l s) (turn l s)) in
    inr (inr (inr (inl (omega (arith, lacks, is)))))

-- ---- what is scanned

module _ (text : List ℕ) where
  -- what the scanner says of a text
  pub answered : (at : ℕ) (result : Result (Option Token) Fault)
      → IfOk result (λ token. scan text at ≡ scan_of text token)
      → IfErr result (IsFaultBy text at)
      → IsScanned (TakesMemory (scan text at)) text result (scan text at)
  answered at (Ok token) answer fault = answer
  answered at (Err Syntax) answer fault = fault
  answered at (Err Limit) answer fault = fault
  answered at (Err MemoryFault) answer fault = fault.0

  -- where memory may run out anywhere
  pub answered_freely : (outcome : Scan) (starved : Type 0) (result : Result (Option Token) Fault)
      → IsScanned starved text result outcome → IsScanned ⊤ text result outcome
  answered_freely outcome starved (Ok token) scanned = scanned
  answered_freely outcome starved (Err Syntax) scanned = scanned
  answered_freely outcome starved (Err Limit) scanned = scanned
  answered_freely outcome starved (Err MemoryFault) scanned = tt

  pub taken : (at size : ℕ) (result : Result (Option Token) Fault) → length text ≤ size
      → IfOk result (λ token. scan text at ≡ scan_of text token)
      → IfOk result (λ token. IfSome token (λ t. (at < t.end) × (t.end ≤ length text)))
      → IsTaken (λ end. end ≤ size) text result
  taken at size (Ok None) fits answer place = tt
  taken at size (Ok (Some token)) fits answer place = (
    omega (arith, fits, place.1),
    scanned_is_short text at (token_of text token.kind) token.end
        answer,
  )
  taken at size (Err fault) fits answer place = tt

  -- with the place where it began
  pub placed : (at size : ℕ) (result : Result (Option Token) Fault) → length text ≤ size
      → IfOk result (λ token. scan text at ≡ scan_of text token)
      → IfOk result (λ token. IfSome token (λ t. (at < t.end) × (t.end ≤ length text)))
      → IsTaken (λ end. (at < end) × (end ≤ size)) text result
  placed at size (Ok None) fits answer place = tt
  placed at size (Ok (Some token)) fits answer place = (
    (place.0, omega (arith, fits, place.1)),
    scanned_is_short text at (token_of text token.kind) token.end
        answer,
  )
  placed at size (Err fault) fits answer place = tt

  -- by what holds of the place
  pub taken_at : (Holds More : ℕ → Type 0) (result : Result (Option Token) Fault)
      → ((end : ℕ) → Holds end → More end) → IsTaken Holds text result → IsTaken More text result
  taken_at Holds More (Ok None) more is = tt
  taken_at Holds More (Ok (Some token)) more is = (more token.end is.0, is.1)
  taken_at Holds More (Err fault) more is = tt

-- a number or a name
pub word_taken : (text : List ℕ) (at : ℕ) (result : Option Token)
    → IfSome result (λ token. scan text at ≡ scan_of text (Some token))
    → IfSome result (λ t. (at < t.end) × (t.end ≤ length text))
    → IfSome result (λ token. IsTaken (λ end. end ≤ length text) text (Ok (Some token)))
word_taken text at (Some token) answer place =
    taken text at (length text) (Ok (Some token)) (omega arith) answer place
word_taken text at None answer place = tt

-- one of a part of a string
pub word_held : (h : Heap) (size : ℕ) (part : Part) (at : ℕ)
    → IsSourceAt h size (TextOf part) at → (list : List ℕ) (result : Option Token)
    → IfSome result (λ t. (t.end ≤ part.length) × IsShort (token_of list t.kind))
    → IfSome result (λ t. IsTaken (IsSourceAt h size (TextOf part)) list (Ok (Some t)))
word_held h size part at held list (Some token) is = ((held.0, is.0), is.1)
word_held h size part at held list None is = tt

-- a text that was read and scanned
module _ (text slice : List ℕ) (is : slice ≡ text) (result : Result (Option Token) Fault)
    (at : ℕ) (answer : IfOk result (λ token. scan slice at ≡ scan_of slice token)) where
  pub read_scanned : (part : List ℕ) → text ≡ part → IfErr result (IsFaultBy slice at)
      → IsScanned ⊤ text result (scan part at)
  read_scanned part read fault =
      subst (λ (t : List ℕ). IsScanned ⊤ text result (scan t at)) read
      (subst (λ (t : List ℕ). IsScanned ⊤ t result (scan t at)) is
      (answered_freely slice (scan slice at) (TakesMemory (scan slice at)) result
      (answered slice at result answer fault)))

  pub read_taken : (size : ℕ) → length text ≤ size
      → IfOk result (λ token. IfSome token (λ t. (at < t.end) × (t.end ≤ length slice)))
      → IsTaken (λ end. (at < end) × (end ≤ size)) text result
  read_taken size fits place =
      subst (λ (t : List ℕ). IsTaken (λ end. (at < end) × (end ≤ size)) t result) is
      (placed slice at size result (subst (λ (t : List ℕ). length t ≤ size) (sym is) fits) answer
      place)

-- ---- what is scanned behind one front is scanned behind another

module _ (front at : ℕ) (rest : Scan) where
  pub token_further : (token : language.Token) (end : ℕ) → further_on front rest ≡ found token end
      → further_on at rest ≡ found token (at + (end - front))
  token_further token end is = by rest is
    where
      by : (rest : Scan) → further_on front rest ≡ found token end
          → further_on at rest ≡ found token (at + (end - front))
      by (found other stop) same =
          let kind : other ≡ token = cc in
          let place : front + stop ≡ end = cc in
          let further : at + stop ≡ at + (end - front) = omega (arith, place) in
          (λ j. found (kind j) (further j))
      by exhausted same = cc
      by (faulty fault) same = cc

  pub nothing_further : further_on front rest ≡ exhausted → further_on at rest ≡ exhausted
  nothing_further is = by rest is
    where
      by : (rest : Scan) → further_on front rest ≡ exhausted → further_on at rest ≡ exhausted
      by (found other stop) same = cc
      by exhausted same = refl
      by (faulty fault) same = cc

  fault_shifted : (fault : ScanFault) → further_on front rest ≡ faulty fault
      → further_on at rest ≡ faulty fault
  fault_shifted fault is = by rest is
    where
      by : (rest : Scan) → further_on front rest ≡ faulty fault → further_on at rest ≡ faulty fault
      by (found other stop) same = cc
      by exhausted same = cc
      by (faulty other) same = same

  pub fault_further : (text : List ℕ) (fault : Fault)
      → IsScanned ⊤ text (Err fault) (further_on front rest)
      → IsScanned ⊤ text (Err fault) (further_on at rest)
  fault_further text Syntax scanned = fault_shifted _ scanned
  fault_further text Limit scanned = fault_shifted _ scanned
  fault_further text MemoryFault scanned = tt

-- ---- what is left of a string, and a window of it

module _ (all : List ℕ) (offset count at : ℕ) (low : at ≤ count) where
  window : List ℕ
  window = slice_range all offset (offset + at)

  rest : List ℕ
  rest = slice_range all (offset + at) ((offset + at) + (count - at))

  parted : slice_range all offset (offset + count) ≡ window ++ rest
  unfolding window rest
  parted =
      let sized : (offset + count) - offset ≡ at + (count - at) = omega (arith, low) in
      let front : at ≡ (offset + at) - offset = omega arith in
      let back : count - at ≡ ((offset + at) + (count - at)) - (offset + at) = omega arith in
      let behind : take (count - at) (drop at (drop offset all)) ≡ rest =
      ap (take (count - at)) (drop-drop at offset all)
      ∙ ap (λ (n : ℕ). take n (drop (offset + at) all)) back in
      ap (λ (n : ℕ). take n (drop offset all)) sized
      ∙ (take-add at (count - at) (drop offset all)
      ∙ (ap (λ (n : ℕ). take n (drop offset all) ++ take (count - at) (drop at (drop offset all)))
      front
      ∙ ap (λ (t : List ℕ). window ++ t) behind))

  module _ (within : offset + count ≤ length all) where
    window_size : length window ≡ at
    unfolding window
    window_size = length_part all offset at (omega (arith, low, within))

    -- the scan of what is left is that of the whole, further on
    pub rest_scanned : scan (slice_range all offset (offset + count)) at ≡ further_on at
        (scan (slice_range all (offset + at) ((offset + at) + (count - at))) 0)
    unfolding window rest
    rest_scanned =
        let size = window_size in
        let place : at ≡ length window + 0 = omega (arith, size) in
        ap (λ (t : List ℕ). scan t at) parted ∙ (ap (scan (window ++ rest)) place
        ∙ (scan_shifted window rest 0 ∙ ap (λ (n : ℕ). further_on n (scan rest 0)) size))

    -- a token that ends in a window is that of the whole
    pub window_scanned : (from : ℕ) (token : language.Token) (end : ℕ)
        → scan (slice_range all offset (offset + at)) from ≡ found token end → end < at
        → scan (slice_range all offset (offset + count)) from ≡ found token end
    unfolding window rest
    window_scanned from token end is below =
        let size = window_size in
        ap (λ (t : List ℕ). scan t from) parted
        ∙ window_is_whole window rest from token end is (omega (arith, below, size))

-- what is left of a string behind another front
module _ (all : List ℕ) (offset count at front : ℕ) (low : at ≤ count) (near : front ≤ offset + at)
    (within : offset + count ≤ length all) where
  pub fronted : scan (slice_range all ((offset + at) - front)
      (((offset + at) - front) + ((count - at) + front))) front ≡ further_on front
      (scan (slice_range all (offset + at) ((offset + at) + (count - at))) 0)
  fronted =
      let place : ((offset + at) - front) + front ≡ offset + at = omega (arith, near) in
      let size : ((count - at) + front) - front ≡ count - at = omega arith in
      rest_scanned all ((offset + at) - front) ((count - at) + front) front (omega arith)
      (omega (arith, near, low, within))
      ∙ (λ j. further_on front (scan (slice_range all (place j) (place j + size j)) 0))
