-- What is read at a place, by what a scanner along the places finds there.
use Rattle.std.proofs.Common.{◌≡◌, refl, sym, ap, ◌∙◌, ℕ, ◌+◌, ◌-◌, ◌<◌, ◌≤◌, ◌^◌, true, false, List, [], ◌∷◌, length}
use Rattle.std.proofs.Common.{take, drop, arith, nat_lt, if◌then◌else◌, ℤ, inl, inr, Ok, Err}
use Rattle.std.proofs.lemmas.Bool.{ne_eqb, eq-eqb, le-leb, lt-leb, cases_Bool, cond-true, cond-false}
use Rattle.std.proofs.lemmas.List.{at_drop_more, at_drop_all, drop_more, length-drop, length-take}
use Rattle.std.specs.List.{slice_range}
use Rattle.std.specs.Prelude.{◌==◌}
use Rattle.ps_language.specs.Bytes.{is_regular}
use Rattle.ps_language.specs.Token.{Token, number_token, executable_name_token, literal_name_token}
use Rattle.ps_language.specs.Token.{immediate_name_token, syntax_fault, limit_fault}
use Rattle.ps_language.specs.Reading.{Reading, token_then, stuck, sized_name, string_reading, word_reading, Word}
use Rattle.ps_language.specs.Reading.{integer_word, radix_word, real_word, name_word, fits_integer, as_signed}
use Rattle.ps_language.specs.Scan.{leading, beyond, word_of, start_of, simple_by, regular_start, string_start}
use Rattle.ps_language.specs.Scan.{hex_start, angle_start, bracket_start, slash_start, stray_start, after_slash}
use Rattle.ps_language.specs.Scan.{after_angle, after_hex_start, string_from}
use Rattle.ps_language.proofs.Places.{byte_at, leading_slice, beyond_on}
use Rattle.ps_scan.specs.Numbers.{number_in}
use Rattle.ps_scan.specs.Shown.{IsStuckBy, IsAnswer, simple_at, token_of}
use Rattle.ps_scan.specs.declared.tokens.TokenKind.{TokenKind, ExecutableName}
use Rattle.ps_scan.proofs.TokenForms.{executable_name_is}
use Rattle.ps_scan.specs.declared.tokens.ScanFault.TheVariants.{Syntax, Limit, Memory}
use Rattle.ps_scan.specs.declared.numbers.Number.TheVariants.{Integer, PastLimits, NoNumber}

pub length_slice : (xs : List ℕ) (start end : ℕ) → end ≤ length xs → length (slice_range xs start end) ≡ end - start
length_slice xs start end h = omega (arith, length-take (end - start) (drop start xs), length-drop start xs)

-- ---- names

pub named_short : (name : List ℕ → Token) (run rest : List ℕ) → length run ≤ 127
    → sized_name name run rest ≡ token_then (name run) rest
unfolding sized_name
named_short name run rest h = cond-true _ _ _ (le-leb (length run) 127 h)

pub named_long : (name : List ℕ → Token) (run rest : List ℕ) → 127 < length run
    → sized_name name run rest ≡ stuck limit_fault
unfolding sized_name
named_long name run rest h = cond-false _ _ _ (lt-leb (length run) 127 h)

-- the longest run from a place on as a name
pub named_run : (name : List ℕ → Token) (xs : List ℕ) (start end : ℕ) → drop end xs ≡ beyond is_regular (drop start xs)
    → start ≤ end → end ≤ length xs
    → sized_name name (leading is_regular (drop start xs)) (beyond is_regular (drop start xs))
    ≡ sized_name name (slice_range xs start end) (drop end xs)
named_run name xs start end e low high =
    ap (λ r. sized_name name r (beyond is_regular (drop start xs)))
    (leading_slice is_regular xs start end (sym e) low high)
    ∙ ap (sized_name name (slice_range xs start end)) (sym e)

pub slash_end : (xs : List ℕ) (i : ℕ) → length xs ≤ i
    → after_slash (drop i xs)
    ≡ sized_name literal_name_token (leading is_regular (drop i xs)) (beyond is_regular (drop i xs))
unfolding after_slash leading beyond
slash_end xs i h = at_drop_all after_slash xs i h
    ∙ sym (at_drop_all (λ t. sized_name literal_name_token (leading is_regular t) (beyond is_regular t)) xs i h)

pub slash_slash : (xs : List ℕ) (i : ℕ) → i < length xs → byte_at xs i ≡ 47
    → after_slash (drop i xs)
    ≡ sized_name immediate_name_token (leading is_regular (drop (i + 1) xs)) (beyond is_regular (drop (i + 1) xs))
unfolding after_slash
slash_slash xs i h e = at_drop_more after_slash xs i 0 h ∙ ap (λ b. after_slash (b ∷ drop (i + 1) xs)) e

pub slash_other : (xs : List ℕ) (i : ℕ) → i < length xs → (byte_at xs i ≡ 47 → ⊥)
    → after_slash (drop i xs)
    ≡ sized_name literal_name_token (leading is_regular (drop i xs)) (beyond is_regular (drop i xs))
unfolding after_slash
slash_other xs i h n = at_drop_more after_slash xs i 0 h
    ∙ other (byte_at xs i) (drop (i + 1) xs) (ne_eqb (byte_at xs i) 47 n)
    ∙ sym (at_drop_more (λ t. sized_name literal_name_token (leading is_regular t) (beyond is_regular t)) xs i 0 h)
  where
    other : (b : ℕ) (bs : List ℕ) → (b == 47) ≡ false
        → after_slash (b ∷ bs)
        ≡ sized_name literal_name_token (leading is_regular (b ∷ bs)) (beyond is_regular (b ∷ bs))
    other b bs e = rw (e, after_slash) refl

-- ---- runs of regular bytes

-- the run at a place
pub word_at : (xs : List ℕ) (at end : ℕ) → at < length xs → is_regular (byte_at xs at) ≡ true
    → drop end xs ≡ beyond is_regular (drop (at + 1) xs) → at + 1 ≤ end → end ≤ length xs
    → simple_by regular_start (byte_at xs at) (drop (at + 1) xs)
    ≡ word_reading (slice_range xs at end) (drop end xs) (word_of (slice_range xs at end))
unfolding simple_by
word_at xs at end inside regular e low high =
    let more : beyond is_regular (drop at xs) ≡ drop end xs = beyond_on is_regular xs at inside regular ∙ sym e in
    let run : leading is_regular (drop at xs) ≡ slice_range xs at end =
    leading_slice is_regular xs at end more (omega (arith, low)) high in
    ap (λ t. word_reading (leading is_regular t) (beyond is_regular t) (word_of (leading is_regular t)))
    (sym (drop_more xs at 0 inside))
    ∙ ap (λ r. word_reading r (beyond is_regular (drop at xs)) (word_of r)) run
    ∙ ap (λ r. word_reading (slice_range xs at end) r (word_of (slice_range xs at end))) more

pub read_integer : (run rest : List ℕ) (word : Word) (number : ℤ) → Integer number ≡ number_in word
    → word_reading run rest word ≡ token_then (number_token number) rest
unfolding word_reading
read_integer run rest (integer_word n) number e = elim (cases_Bool (fits_integer n)) [
  | inl f ↦ let same : Integer number ≡ Integer n = e ∙ cond-true _ _ _ f in let equal : number ≡ n = cc in
      rw f (ap (λ z. token_then (number_token z) rest) (sym equal))
  | inr f ↦ let no : Integer number ≡ PastLimits = e ∙ cond-false _ _ _ f in cc
]
read_integer run rest (radix_word n) number e = elim (cases_Bool (nat_lt n (2 ^ 32))) [
  | inl f ↦ let same : Integer number ≡ Integer (as_signed n) = e ∙ cond-true _ _ _ f in
      let equal : number ≡ as_signed n = cc in rw f (ap (λ z. token_then (number_token z) rest) (sym equal))
  | inr f ↦ let no : Integer number ≡ PastLimits = e ∙ cond-false _ _ _ f in cc
]
read_integer run rest real_word number e = cc
read_integer run rest name_word number e = cc

pub read_past : (run rest : List ℕ) (word : Word) → PastLimits ≡ number_in word
    → word_reading run rest word ≡ stuck limit_fault
unfolding word_reading
read_past run rest (integer_word n) e = elim (cases_Bool (fits_integer n)) [
  | inl f ↦ let no : PastLimits ≡ Integer n = e ∙ cond-true _ _ _ f in cc
  | inr f ↦ rw f refl
]
read_past run rest (radix_word n) e = elim (cases_Bool (nat_lt n (2 ^ 32))) [
  | inl f ↦ let no : PastLimits ≡ Integer (as_signed n) = e ∙ cond-true _ _ _ f in cc
  | inr f ↦ rw f refl
]
read_past run rest real_word e = refl
read_past run rest name_word e = cc

pub read_name : (run rest : List ℕ) (word : Word) → NoNumber ≡ number_in word
    → word_reading run rest word ≡ sized_name executable_name_token run rest
unfolding word_reading
read_name run rest (integer_word n) e = elim (cases_Bool (fits_integer n)) [
  | inl f ↦ let no : NoNumber ≡ Integer n = e ∙ cond-true _ _ _ f in cc
  | inr f ↦ let no : NoNumber ≡ PastLimits = e ∙ cond-false _ _ _ f in cc
]
read_name run rest (radix_word n) e = elim (cases_Bool (nat_lt n (2 ^ 32))) [
  | inl f ↦ let no : NoNumber ≡ Integer (as_signed n) = e ∙ cond-true _ _ _ f in cc
  | inr f ↦ let no : NoNumber ≡ PastLimits = e ∙ cond-false _ _ _ f in cc
]
read_name run rest real_word e = cc
read_name run rest name_word e = refl

-- ---- two bytes

pub two_bytes : (xs : List ℕ) (i : ℕ) → i + 1 < length xs
    → slice_range xs i (i + 2) ≡ byte_at xs i ∷ byte_at xs (i + 1) ∷ []
two_bytes xs i below = ap (λ n. take n (drop i xs)) two
    ∙ ap (take 2) (drop_more xs i 0 (omega (arith, below)) ∙ ap (λ t. byte_at xs i ∷ t) (drop_more xs (i + 1) 0 below))
  where
    two : i + 2 - i ≡ 2
    two = omega arith

pub one_byte : (xs : List ℕ) (i : ℕ) → i < length xs → slice_range xs i (i + 1) ≡ byte_at xs i ∷ []
one_byte xs i below = ap (λ n. take n (drop i xs)) one ∙ ap (take 1) (drop_more xs i 0 below)
  where
    one : i + 1 - i ≡ 1
    one = omega arith

-- ---- tokens by their first byte

-- an answer is one for an equal reading
pub same_answer : (starved known : Type 0) (text : List ℕ) (at : ℕ) (answer : _) (reading other : Reading)
    → (starved → known) → other ≡ reading → IsAnswer starved text at answer reading
    → IsAnswer known text at answer other
same_answer starved known text at (Ok token) reading other more e h = (e ∙ h.0, h.1, h.2)
same_answer starved known text at (Err Syntax) reading other more e h = e ∙ h
same_answer starved known text at (Err Limit) reading other more e h = e ∙ h
same_answer starved known text at (Err Memory) reading other more e h = more h

-- a fault that isn't of memory
pub fault_more : (starved : Type 0) (reading : Reading) (fault : _) → IsStuckBy ⊥ reading fault
    → IsStuckBy starved reading fault
fault_more starved reading Syntax h = h
fault_more starved reading Limit h = h
fault_more starved reading Memory h = absurd h

pub regular_at : (xs : List ℕ) (at : ℕ) → is_regular (byte_at xs at) ≡ true
    → simple_at xs at ≡ simple_by regular_start (byte_at xs at) (drop (at + 1) xs)
unfolding start_of
regular_at xs at e = ap (λ start. simple_by start (byte_at xs at) (drop (at + 1) xs)) (cond-true _ _ _ e)

simple_as : (xs : List ℕ) (at b : ℕ) → byte_at xs at ≡ b → simple_at xs at ≡ simple_by (start_of b) b (drop (at + 1) xs)
simple_as xs at b e = ap (λ c. simple_by (start_of c) c (drop (at + 1) xs)) e

pub string_at : (xs : List ℕ) (at : ℕ) → byte_at xs at ≡ 40
    → simple_at xs at ≡ string_reading (string_from 0 (drop (at + 1) xs))
unfolding start_of simple_by
string_at xs at e = simple_as xs at 40 e

pub angle_at : (xs : List ℕ) (at : ℕ) → byte_at xs at ≡ 60 → simple_at xs at ≡ after_hex_start (drop (at + 1) xs)
unfolding start_of simple_by
angle_at xs at e = simple_as xs at 60 e

pub closing_angle_at : (xs : List ℕ) (at : ℕ) → byte_at xs at ≡ 62 → simple_at xs at ≡ after_angle (drop (at + 1) xs)
unfolding start_of simple_by
closing_angle_at xs at e = simple_as xs at 62 e

pub slash_at : (xs : List ℕ) (at : ℕ) → byte_at xs at ≡ 47 → simple_at xs at ≡ after_slash (drop (at + 1) xs)
unfolding start_of simple_by
slash_at xs at e = simple_as xs at 47 e

pub opening_bracket_at : (xs : List ℕ) (at : ℕ) → byte_at xs at ≡ 91
    → simple_at xs at ≡ token_then (executable_name_token (91 ∷ [])) (drop (at + 1) xs)
unfolding start_of simple_by
opening_bracket_at xs at e = simple_as xs at 91 e

pub closing_bracket_at : (xs : List ℕ) (at : ℕ) → byte_at xs at ≡ 93
    → simple_at xs at ≡ token_then (executable_name_token (93 ∷ [])) (drop (at + 1) xs)
unfolding start_of simple_by
closing_bracket_at xs at e = simple_as xs at 93 e

other_start : (x : ℕ) → is_regular x ≡ false
    → start_of x ≡ (if x == 40 then string_start else (if x == 60 then hex_start
    else (if x == 62 then angle_start
    else (if x == 91 then bracket_start else (if x == 93 then bracket_start
    else (if x == 47 then slash_start else stray_start))))))
unfolding start_of
other_start x h = cond-false _ _ _ h

pub stray_at : (xs : List ℕ) (at : ℕ) → is_regular (byte_at xs at) ≡ false → (byte_at xs at ≡ 40 → ⊥)
    → (byte_at xs at ≡ 60 → ⊥) → (byte_at xs at ≡ 62 → ⊥) → (byte_at xs at ≡ 91 → ⊥) → (byte_at xs at ≡ 93 → ⊥)
    → (byte_at xs at ≡ 47 → ⊥)
    → simple_at xs at ≡ stuck syntax_fault
unfolding simple_by
stray_at xs at e a b c d f g =
    ap (λ start. simple_by start (byte_at xs at) (drop (at + 1) xs)) (stray (byte_at xs at) e a b c d f g)
  where
    stray : (x : ℕ) → is_regular x ≡ false → (x ≡ 40 → ⊥) → (x ≡ 60 → ⊥) → (x ≡ 62 → ⊥) → (x ≡ 91 → ⊥) → (x ≡ 93 → ⊥)
        → (x ≡ 47 → ⊥) → start_of x ≡ stray_start
    stray x h i j k l m n = other_start x h
        ∙ rw (ne_eqb x 40 i, ne_eqb x 60 j, ne_eqb x 62 k, ne_eqb x 91 l, ne_eqb x 93 m, ne_eqb x 47 n) refl

-- behind a closing angle
pub no_angles : (xs : List ℕ) (i : ℕ) → length xs ≤ i → after_angle (drop i xs) ≡ stuck syntax_fault
unfolding after_angle
no_angles xs i above = at_drop_all after_angle xs i above

pub single_angle : (xs : List ℕ) (i : ℕ) → i < length xs → (byte_at xs i ≡ 62 → ⊥)
    → after_angle (drop i xs) ≡ stuck syntax_fault
unfolding after_angle
single_angle xs i below n = at_drop_more after_angle xs i 0 below ∙ rw (ne_eqb (byte_at xs i) 62 n) refl

pub two_angles : (xs : List ℕ) (i : ℕ) → i < length xs → byte_at xs i ≡ 62
    → after_angle (drop i xs) ≡ token_then (executable_name_token (62 ∷ 62 ∷ [])) (drop (i + 1) xs)
unfolding after_angle
two_angles xs i below e = at_drop_more after_angle xs i 0 below ∙ rw (eq-eqb (byte_at xs i) 62 e) refl

-- a bracket as a name of one byte
pub bracket_is : (xs : List ℕ) (at : ℕ) (kind : TokenKind) (end : ℕ) → at < length xs
    → kind ≡ ExecutableName (record { start = at; end = at + 1 }) → end ≡ at + 1
    → token_then (executable_name_token (byte_at xs at ∷ [])) (drop (at + 1) xs)
    ≡ token_then (token_of xs kind) (drop end xs)
bracket_is xs at kind end inside e f =
    ap (λ t. token_then (executable_name_token t) (drop (at + 1) xs)) (sym (one_byte xs at inside))
    ∙ ap (λ t. token_then t (drop (at + 1) xs)) (sym (executable_name_is xs (record { start = at; end = at + 1 })))
    ∙ ap (λ k. token_then (token_of xs k) (drop (at + 1) xs)) (sym e)
    ∙ ap (λ n. token_then (token_of xs kind) (drop n xs)) (sym f)
