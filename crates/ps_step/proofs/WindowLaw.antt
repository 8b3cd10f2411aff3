-- A token that ends before its text does is the same with more behind the text.
use Rattle.std.proofs.Common.{◌≡◌, ◌∷◌, [], ◌++◌, ℕ, zero, suc, ◌+◌, ◌<◌, ◌≤◌, Bool, true, false, not, List, arith}
use Rattle.std.proofs.Common.{length, drop, refl, ap, subst, inl, inr}
use Rattle.std.specs.Prelude.{◌==◌, ◌%◌, ◌^◌, nat_le, nat_lt, filter, if◌then◌else◌}
use Rattle.std.proofs.lemmas.Bool.{cases_Bool, cases_lt}
use Rattle.std.proofs.lemmas.List.{length-append, drop-append-le, drop_all}
use Rattle.ps_language.specs.Bytes.{is_white, is_comment_end, is_hex, is_hex_or_white, is_regular, is_octal, value_in}
use Rattle.ps_language.specs.Limits.{name_limit, sequence_limit}
use Rattle.ps_language.specs.Reading.{Reading, token_then, stuck, Ending, string_end, unfinished, with_front}
use Rattle.ps_language.specs.Reading.{string_reading, sized_string, pairs, Tail, procedure_end, procedure_fault}
use Rattle.ps_language.specs.Reading.{with_first, sized_procedure, token_count, sized_name, Word, integer_word}
use Rattle.ps_language.specs.Reading.{radix_word, real_word, name_word, word_reading, fits_integer}
use Rattle.ps_language.specs.Scan.{leading, beyond, behind_blank, after_return, octal_front, octal_rest, Escape}
use Rattle.ps_language.specs.Scan.{octal_escape, feed_escape, return_escape, byte_escape, escape_of, escape_front}
use Rattle.ps_language.specs.Scan.{escape_rest, Mark, opening, closing, escaping, returning, plain, mark_of}
use Rattle.ps_language.specs.Scan.{string_close, string_escape, string_step, string_body, hex_reading, Start}
use Rattle.ps_language.specs.Scan.{regular_start, string_start, hex_start, angle_start, bracket_start, slash_start}
use Rattle.ps_language.specs.Scan.{stray_start, start_of, after_hex_start, after_angle, after_slash, word_of, simple_by}
use Rattle.ps_language.specs.Scan.{then_elements, elements_step, elements_by, token_here, as_scan, text_scan, scan}
use Rattle.ps_language.specs.Token.{Token, executable_name_token, literal_name_token, immediate_name_token, Scan, found}
use Rattle.ps_language.specs.Token.{exhausted, faulty, ScanFault, syntax_fault, no_tokens}

-- ---- what stays: whatever leaves some of the text, leaves that and what is behind it

module _ (more : List ℕ) where
  -- a front and what is left behind it
  SpanStays : (front rest further left : List ℕ) → Type 0
  SpanStays front [] further left = Unit {0}
  SpanStays front (b ∷ bs) further left = (further ≡ front) × (left ≡ b ∷ (bs ++ more))

  abbrev RestStays : (rest left : List ℕ) → Type 0
  RestStays rest left = SpanStays [] rest [] left

  EndingStays : (ending further : Ending) → Type 0
  EndingStays unfinished further = Unit {0}
  EndingStays (string_end value []) further = Unit {0}
  EndingStays (string_end value (b ∷ bs)) further = further ≡ string_end value (b ∷ (bs ++ more))

  ReadingStays : (reading further : Reading) → Type 0
  ReadingStays (stuck fault) further = Unit {0}
  ReadingStays (token_then token []) further = Unit {0}
  ReadingStays (token_then token (b ∷ bs)) further = further ≡ token_then token (b ∷ (bs ++ more))

  TailStays : (tail further : Tail) → Type 0
  TailStays (procedure_fault fault) further = Unit {0}
  TailStays (procedure_end items []) further = Unit {0}
  TailStays (procedure_end items (b ∷ bs)) further =
      further ≡ procedure_end items (b ∷ (bs ++ more))

  -- ---- spans (PLRM2, 3.2)

  rest_stays : (rest : List ℕ) → RestStays rest (rest ++ more)
  unfolding SpanStays
  rest_stays [] = tt
  rest_stays (b ∷ bs) = (refl, refl)

  -- behind a front that is the same
  fronted : (front rest left : List ℕ) → RestStays rest left → SpanStays front rest front left
  unfolding SpanStays
  fronted front [] left h = tt
  fronted front (b ∷ bs) left h = (refl, h.1)

  -- and so does what is made of the front
  made_stays : (make : List ℕ → List ℕ) (front rest further left : List ℕ)
      → SpanStays front rest further left → SpanStays (make front) rest (make further) left
  unfolding SpanStays
  made_stays make front [] further left h = tt
  made_stays make front (r ∷ rs) further left h = (ap make h.0, h.1)

  run_stays : (test : ℕ → Bool) (text : List ℕ) → SpanStays (leading test text) (beyond test text)
      (leading test (text ++ more)) (beyond test (text ++ more))
  unfolding SpanStays leading beyond
  run_stays test [] = tt
  run_stays test (b ∷ bs) = elim (cases_Bool (test b)) [
    | inl e ↦ rw (e, leading, beyond)
        (made_stays (λ x. b ∷ x) (leading test bs) (beyond test bs) (leading test (bs ++ more))
        (beyond test (bs ++ more)) (run_stays test bs))
    | inr e ↦ rw (e, leading, beyond, SpanStays) (rw (e, leading) refl, refl)
  ]

  blank_stays : (is_in_comment : Bool) (text : List ℕ)
      → RestStays (behind_blank is_in_comment text) (behind_blank is_in_comment (text ++ more))
  unfolding SpanStays behind_blank
  blank_stays is_in_comment [] = tt
  blank_stays true (b ∷ bs) = blank_stays (not (is_comment_end b)) bs
  blank_stays false (b ∷ bs) = elim (cases_Bool (is_white b)) [
    | inl e ↦ rw (e, behind_blank) (blank_stays false bs)
    | inr e ↦ elim (cases_Bool (b == 37)) [
      | inl p ↦ rw (e, p, behind_blank) (blank_stays true bs)
      | inr p ↦ rw (e, p, behind_blank, SpanStays) (refl, refl)
    ]
  ]

  octal_stays : (most : ℕ) (text : List ℕ) → SpanStays (octal_front most text)
      (octal_rest most text) (octal_front most (text ++ more)) (octal_rest most (text ++ more))
  unfolding SpanStays octal_front octal_rest
  octal_stays zero [] = tt
  octal_stays zero (b ∷ bs) = (refl, refl)
  octal_stays (suc most) [] = tt
  octal_stays (suc most) (b ∷ bs) = elim (cases_Bool (is_octal b)) [
    | inl e ↦ rw (e, octal_front, octal_rest)
        (made_stays (λ x. b ∷ x) (octal_front most bs) (octal_rest most bs) (octal_front most (bs ++ more))
        (octal_rest most (bs ++ more)) (octal_stays most bs))
    | inr e ↦ rw (e, octal_front, octal_rest, SpanStays)
        (rw (e, octal_front) refl, refl)
  ]

  return_stays : (text : List ℕ) → RestStays (after_return text) (after_return (text ++ more))
  unfolding SpanStays after_return
  return_stays [] = tt
  return_stays (b ∷ bs) = elim (cases_Bool (b == 10)) [
    | inl e ↦ rw (e, after_return) (rest_stays bs)
    | inr e ↦ rw (e, after_return, SpanStays) (refl, refl)
  ]

  -- ---- strings (PLRM2, 3.2)

  escape_stays : (escape : Escape) (c : ℕ) (bs : List ℕ)
      → SpanStays (escape_front escape (c ∷ bs)) (escape_rest escape (c ∷ bs))
      (escape_front escape (c ∷ (bs ++ more))) (escape_rest escape (c ∷ (bs ++ more)))
  unfolding SpanStays escape_front escape_rest
  escape_stays octal_escape c bs =
      made_stays (λ digits. (value_in 8 0 digits % 256) ∷ []) (octal_front 3 (c ∷ bs))
      (octal_rest 3 (c ∷ bs)) (octal_front 3 (c ∷ (bs ++ more))) (octal_rest 3 (c ∷ (bs ++ more)))
      (octal_stays 3 (c ∷ bs))
  escape_stays feed_escape c bs = rest_stays bs
  escape_stays return_escape c bs = return_stays bs
  escape_stays (byte_escape byte) c [] = tt
  escape_stays (byte_escape byte) c (b ∷ bs) = (refl, refl)

  front_stays : (front : List ℕ) (ending further : Ending) → EndingStays ending further
      → EndingStays (with_front front ending) (with_front front further)
  unfolding EndingStays with_front
  front_stays front unfinished further h = tt
  front_stays front (string_end value []) further h = tt
  front_stays front (string_end value (b ∷ bs)) further h = ap (with_front front) h

  module _ (few many : ℕ → List ℕ → Ending) (ends : (depth : ℕ) → few depth [] ≡ unfinished)
      (stays : (depth : ℕ) (text : List ℕ)
      → EndingStays (few depth text) (many depth (text ++ more))) where
    part_stays : (depth : ℕ) (front rest further left : List ℕ)
        → SpanStays front rest further left
        → EndingStays (with_front front (few depth rest)) (with_front further (many depth left))
    unfolding SpanStays EndingStays with_front
    part_stays depth front [] further left h = rw (ends depth) tt
    part_stays depth front (b ∷ bs) further left h = rw (h.0, h.1)
        (front_stays front (few depth (b ∷ bs)) (many depth (b ∷ (bs ++ more)))
        (stays depth (b ∷ bs)))

    close_stays : (depth : ℕ) (bs : List ℕ)
        → EndingStays (string_close few depth bs) (string_close many depth (bs ++ more))
    unfolding EndingStays string_close
    close_stays zero [] = tt
    close_stays zero (b ∷ bs) = refl
    close_stays (suc depth) bs =
        front_stays (41 ∷ []) (few depth bs) (many depth (bs ++ more)) (stays depth bs)

    behind_backslash : (depth : ℕ) (bs : List ℕ)
        → EndingStays (string_escape few depth bs) (string_escape many depth (bs ++ more))
    unfolding EndingStays string_escape
    behind_backslash depth [] = tt
    behind_backslash depth (c ∷ bs) =
        part_stays depth (escape_front (escape_of c) (c ∷ bs)) (escape_rest (escape_of c) (c ∷ bs))
        (escape_front (escape_of c) (c ∷ (bs ++ more))) (escape_rest (escape_of c)
        (c ∷ (bs ++ more))) (escape_stays (escape_of c) c bs)

    byte_stays : (depth b : ℕ) (bs : List ℕ) (mark : Mark)
        → EndingStays (string_step few depth b bs mark)
        (string_step many depth b (bs ++ more) mark)
    unfolding string_step
    byte_stays depth b bs opening =
        front_stays (40 ∷ []) (few (suc depth) bs) (many (suc depth) (bs ++ more))
        (stays (suc depth) bs)
    byte_stays depth b bs closing = close_stays depth bs
    byte_stays depth b bs escaping = behind_backslash depth bs
    byte_stays depth b bs returning =
        part_stays depth (10 ∷ []) (after_return bs) (10 ∷ []) (after_return (bs ++ more))
        (fronted (10 ∷ []) (after_return bs) (after_return (bs ++ more)) (return_stays bs))
    byte_stays depth b bs plain =
        front_stays (b ∷ []) (few depth bs) (many depth (bs ++ more)) (stays depth bs)

  body_ends : (counter depth : ℕ) → string_body counter depth [] ≡ unfinished
  unfolding string_body
  body_ends zero depth = refl
  body_ends (suc counter) depth = refl

  -- by any greater counter
  body_stays : (low high depth : ℕ) (text : List ℕ) → low ≤ high
      → EndingStays (string_body low depth text) (string_body high depth (text ++ more))
  unfolding EndingStays string_body
  body_stays zero high depth text below = tt
  body_stays (suc low) zero depth text below = absurd (omega (arith, below))
  body_stays (suc low) (suc high) depth [] below = tt
  body_stays (suc low) (suc high) depth (b ∷ bs) below =
      byte_stays (string_body low) (string_body high) (body_ends low)
      (λ d t. body_stays low high d t (omega (arith, below))) depth b bs (mark_of b)

  -- ---- tokens but for procedures (PLRM2, 3.2)

  -- a token unless it is past a limit
  limited : (holds : Bool) (token : Token) (fault : ScanFault) (rest left : List ℕ)
      → RestStays rest left → ReadingStays (if holds then token_then token rest else stuck fault)
      (if holds then token_then token left else stuck fault)
  unfolding SpanStays ReadingStays
  limited false token fault rest left h = tt
  limited true token fault [] left h = tt
  limited true token fault (b ∷ bs) left h = ap (token_then token) h.1

  limited_last : (holds : Bool) (token : Token) (fault : ScanFault) (further : Reading)
      → ReadingStays (if holds then token_then token [] else stuck fault) further
  unfolding ReadingStays
  limited_last false token fault further = tt
  limited_last true token fault further = tt

  single_stays : (token : Token) (bs : List ℕ)
      → ReadingStays (token_then token bs) (token_then token (bs ++ more))
  unfolding ReadingStays
  single_stays token [] = tt
  single_stays token (b ∷ bs) = refl

  name_stays : (name : List ℕ → Token) (front rest further left : List ℕ)
      → SpanStays front rest further left
      → ReadingStays (sized_name name front rest) (sized_name name further left)
  unfolding SpanStays sized_name
  name_stays name front [] further left h =
      limited_last (nat_le (length front) name_limit) (name front) _ _
  name_stays name front (b ∷ bs) further left h = rw (h.0, h.1)
      (limited (nat_le (length front) name_limit) (name front) _ (b ∷ bs) (b ∷ (bs ++ more))
      (rest_stays (b ∷ bs)))

  sized_stays : (value rest left : List ℕ) → RestStays rest left
      → ReadingStays (sized_string value rest) (sized_string value left)
  unfolding sized_string
  sized_stays value rest left h =
      limited (nat_le (length value) sequence_limit) _ _ rest left h

  string_stays : (ending further : Ending) → EndingStays ending further
      → ReadingStays (string_reading ending) (string_reading further)
  unfolding EndingStays ReadingStays string_reading sized_string
  string_stays unfinished further h = tt
  string_stays (string_end value []) further h =
      limited_last (nat_le (length value) sequence_limit) _ _ _
  string_stays (string_end value (b ∷ bs)) further h = rw h
      (sized_stays value (b ∷ bs) (b ∷ (bs ++ more)) (rest_stays (b ∷ bs)))

  number_stays : (run rest : List ℕ) (left : List ℕ) → RestStays rest left → (word : Word)
      → ReadingStays (word_reading run rest word) (word_reading run left word)
  unfolding SpanStays ReadingStays word_reading
  number_stays run rest left h (integer_word number) = limited (fits_integer number) _ _ rest left h
  number_stays run rest left h (radix_word number) =
      limited (nat_lt number (2 ^ 32)) _ _ rest left h
  number_stays run rest left h real_word = tt
  number_stays run rest left h name_word =
      name_stays executable_name_token run rest run left (fronted run rest left h)

  word_last : (run : List ℕ) (word : Word) (further : Reading)
      → ReadingStays (word_reading run [] word) further
  unfolding ReadingStays word_reading sized_name
  word_last run (integer_word number) further = limited_last (fits_integer number) _ _ further
  word_last run (radix_word number) further = limited_last (nat_lt number (2 ^ 32)) _ _ further
  word_last run real_word further = tt
  word_last run name_word further =
      limited_last (nat_le (length run) name_limit) _ _ further

  word_stays : (front rest further left : List ℕ) → SpanStays front rest further left
      → ReadingStays (word_reading front rest (word_of front))
      (word_reading further left (word_of further))
  unfolding SpanStays
  word_stays front [] further left h = word_last front (word_of front) _
  word_stays front (b ∷ bs) further left h = rw (h.0, h.1)
      (number_stays front (b ∷ bs) (b ∷ (bs ++ more)) (rest_stays (b ∷ bs)) (word_of front))

  hex_stays : (inner after further left : List ℕ) → SpanStays inner after further left
      → ReadingStays (hex_reading inner after) (hex_reading further left)
  unfolding SpanStays ReadingStays hex_reading
  hex_stays inner [] further left h = tt
  hex_stays inner (b ∷ bs) further left h = rw (h.0, h.1) (elim (cases_Bool (b == 62)) [
    | inl e ↦ rw e (sized_stays (pairs (filter is_hex inner)) bs (bs ++ more) (rest_stays bs))
    | inr e ↦ rw e tt
  ])

  hex_start_stays : (bs : List ℕ) → ReadingStays (after_hex_start bs) (after_hex_start (bs ++ more))
  unfolding ReadingStays after_hex_start
  hex_start_stays [] = tt
  hex_start_stays (b ∷ bs) = elim (cases_Bool (b == 60)) [
    | inl e ↦ rw (e, after_hex_start) (single_stays (executable_name_token (60 ∷ 60 ∷ [])) bs)
    | inr e ↦ rw (e, after_hex_start)
        (hex_stays (leading is_hex_or_white (b ∷ bs)) (beyond is_hex_or_white (b ∷ bs))
        (leading is_hex_or_white (b ∷ (bs ++ more))) (beyond is_hex_or_white (b ∷ (bs ++ more)))
        (run_stays is_hex_or_white (b ∷ bs)))
  ]

  angle_stays : (bs : List ℕ) → ReadingStays (after_angle bs) (after_angle (bs ++ more))
  unfolding ReadingStays after_angle
  angle_stays [] = tt
  angle_stays (b ∷ bs) = elim (cases_Bool (b == 62)) [
    | inl e ↦ rw e (single_stays (executable_name_token (62 ∷ 62 ∷ [])) bs)
    | inr e ↦ rw e tt
  ]

  slash_stays : (bs : List ℕ) → ReadingStays (after_slash bs) (after_slash (bs ++ more))
  unfolding ReadingStays after_slash sized_name
  slash_stays [] = tt
  slash_stays (b ∷ bs) = elim (cases_Bool (b == 47)) [
    | inl e ↦ rw (e, after_slash)
        (name_stays immediate_name_token (leading is_regular bs) (beyond is_regular bs)
        (leading is_regular (bs ++ more)) (beyond is_regular (bs ++ more)) (run_stays is_regular bs))
    | inr e ↦ rw (e, after_slash)
        (name_stays literal_name_token (leading is_regular (b ∷ bs)) (beyond is_regular (b ∷ bs))
        (leading is_regular (b ∷ (bs ++ more))) (beyond is_regular (b ∷ (bs ++ more)))
        (run_stays is_regular (b ∷ bs)))
  ]

  simple_stays : (start : Start) (b : ℕ) (bs : List ℕ)
      → ReadingStays (simple_by start b bs) (simple_by start b (bs ++ more))
  unfolding ReadingStays simple_by
  simple_stays regular_start b bs =
      word_stays (leading is_regular (b ∷ bs)) (beyond is_regular (b ∷ bs))
      (leading is_regular (b ∷ (bs ++ more))) (beyond is_regular (b ∷ (bs ++ more)))
      (run_stays is_regular (b ∷ bs))
  simple_stays string_start b bs = string_stays _ _
      (body_stays (suc (length bs)) (suc (length (bs ++ more))) 0 bs
      (omega (arith, length-append bs more)))
  simple_stays hex_start b bs = hex_start_stays bs
  simple_stays angle_start b bs = angle_stays bs
  simple_stays bracket_start b bs = single_stays (executable_name_token (b ∷ [])) bs
  simple_stays slash_start b bs = slash_stays bs
  simple_stays stray_start b bs = tt

  -- ---- procedures (PLRM2, 3.2)

  first_stays : (token : Token) (tail further : Tail) → TailStays tail further
      → TailStays (with_first token tail) (with_first token further)
  unfolding TailStays with_first
  first_stays token (procedure_fault fault) further h = tt
  first_stays token (procedure_end items []) further h = tt
  first_stays token (procedure_end items (b ∷ bs)) further h = ap (with_first token) h

  enclosed_stays : (tail further : Tail) → TailStays tail further
      → ReadingStays (sized_procedure tail) (sized_procedure further)
  unfolding TailStays ReadingStays sized_procedure
  enclosed_stays (procedure_fault fault) further h = tt
  enclosed_stays (procedure_end items []) further h =
      limited_last (nat_le (token_count items) sequence_limit) _ _ _
  enclosed_stays (procedure_end items (b ∷ bs)) further h = rw h
      (limited (nat_le (token_count items) sequence_limit) _ _ (b ∷ bs) (b ∷ (bs ++ more))
      (rest_stays (b ∷ bs)))

  closed : (bs : List ℕ)
      → TailStays (procedure_end no_tokens bs) (procedure_end no_tokens (bs ++ more))
  unfolding TailStays
  closed [] = tt
  closed (b ∷ bs) = refl

  module _ (element : ℕ → List ℕ → Reading) (stays : (b : ℕ) (bs : List ℕ)
      → ReadingStays (element b bs) (element b (bs ++ more))) where
    module _ (few many : List ℕ → Tail) (ends : few [] ≡ procedure_fault syntax_fault)
        (goes : (text : List ℕ) → TailStays (few text) (many (text ++ more))) where
      then_stays : (reading further : Reading) → ReadingStays reading further
          → TailStays (then_elements few reading) (then_elements many further)
      unfolding TailStays ReadingStays then_elements with_first
      then_stays (stuck fault) further h = tt
      then_stays (token_then token []) further h = rw ends tt
      then_stays (token_then token (b ∷ bs)) further h = rw h
          (first_stays token (few (b ∷ bs)) (many (b ∷ (bs ++ more))) (goes (b ∷ bs)))

      step_stays : (rest left : List ℕ) → RestStays rest left
          → TailStays (elements_step element few rest) (elements_step element many left)
      unfolding SpanStays TailStays elements_step
      step_stays [] left h = tt
      step_stays (b ∷ bs) left h = rw h.1 (elim (cases_Bool (b == 125)) [
        | inl e ↦ rw (e, elements_step) (closed bs)
        | inr e ↦ rw (e, elements_step)
            (then_stays (element b bs) (element b (bs ++ more)) (stays b bs))
      ])

    elements_end : (counter : ℕ) → elements_by element counter [] ≡ procedure_fault syntax_fault
    unfolding elements_by elements_step behind_blank
    elements_end zero = refl
    elements_end (suc counter) = refl

    -- by any greater counter
    elements_stay : (low high : ℕ) (text : List ℕ) → low ≤ high
        → TailStays (elements_by element low text) (elements_by element high (text ++ more))
    unfolding TailStays elements_by
    elements_stay zero high text below = tt
    elements_stay (suc low) zero text below = absurd (omega (arith, below))
    elements_stay (suc low) (suc high) text below =
        step_stays (elements_by element low) (elements_by element high) (elements_end low)
        (λ t. elements_stay low high t (omega (arith, below))) (behind_blank false text)
        (behind_blank false (text ++ more)) (blank_stays false text)

  token_stays : (room b : ℕ) (bs : List ℕ)
      → ReadingStays (token_here room b bs) (token_here room b (bs ++ more))
  unfolding ReadingStays token_here
  token_stays zero b bs = elim (cases_Bool (b == 123)) [
    | inl e ↦ rw e tt
    | inr e ↦ rw e (simple_stays (start_of b) b bs)
  ]
  token_stays (suc room) b bs = elim (cases_Bool (b == 123)) [
    | inl e ↦ rw (e, token_here)
        (enclosed_stays (elements_by (token_here room) (suc (length bs)) bs)
        (elements_by (token_here room) (suc (length (bs ++ more))) (bs ++ more))
        (elements_stay (token_here room) (token_stays room) (suc (length bs))
        (suc (length (bs ++ more))) bs (omega (arith, length-append bs more))))
    | inr e ↦ rw (e, token_here) (simple_stays (start_of b) b bs)
  ]

  -- ---- scans

  ScanStays : (size : ℕ) (narrow wide : Scan) → Type 0
  ScanStays size (found token end) wide = end < size → wide ≡ found token end
  ScanStays size exhausted wide = Unit {0}
  ScanStays size (faulty fault) wide = Unit {0}

  as_scan_stays : (size : ℕ) (reading further : Reading) → ReadingStays reading further
      → ScanStays size (as_scan size reading) (as_scan (size + length more) further)
  unfolding ReadingStays ScanStays as_scan
  as_scan_stays size (stuck fault) further h = tt
  as_scan_stays size (token_then token []) further h = λ below. absurd (omega (arith, below))
  as_scan_stays size (token_then token (b ∷ bs)) further h = λ below. rw h
      (ap (found token) (omega (arith, length-append (b ∷ bs) more)))

  text_stays : (size : ℕ) (rest left : List ℕ) → RestStays rest left
      → ScanStays size (text_scan size rest) (text_scan (size + length more) left)
  unfolding SpanStays ScanStays text_scan
  text_stays size [] left h = tt
  text_stays size (b ∷ bs) left h = rw h.1
      (as_scan_stays size (token_here 32 b bs) (token_here 32 b (bs ++ more)) (token_stays 32 b bs))

  scan_stays : (text : List ℕ) (at : ℕ)
      → ScanStays (length text) (scan text at) (scan (text ++ more) at)
  unfolding ScanStays scan text_scan behind_blank
  scan_stays text at = elim (cases_lt at (length text)) [
    | inl e ↦ rw (drop-append-le at text more (omega (arith, e)), length-append text more)
        (text_stays (length text) (behind_blank false (drop at text))
        (behind_blank false (drop at text ++ more)) (blank_stays false (drop at text)))
    | inr e ↦ rw (drop_all at text e) tt
  ]

pub window_is_whole : (text more : List ℕ) (at : ℕ) (token : Token) (end : ℕ)
    → scan text at ≡ found token end → end < length text → scan (text ++ more) at ≡ found token end
unfolding ScanStays
window_is_whole text more at token end is below =
    subst (λ narrow. ScanStays more (length text) narrow (scan (text ++ more) at)) is
    (scan_stays more text at) below
