-- Bytes that have a whole line, or as many as a line may have, tell whether they begin with one.
use Rattle.std.proofs.Common.{◌≡◌, ◌≢◌, ◌<◌, ◌≤◌, ◌+◌, ℕ, Bool, Option, Some, None, List, [], ◌∷◌, ◌++◌, take, drop}
use Rattle.std.proofs.Common.{length, arith, refl, sym, ap, subst, ◌∙◌, true, false, true≢false, inl, inr}
use Rattle.std.proofs.Common.{length-append, append_assoc, append-nil}
use Rattle.std.specs.Prelude.{ℤ, pos, negsuc, ◌==◌, ◌||◌}
use Rattle.std.specs.Char.{digit_value}
use Rattle.std.specs.Fmt.{decimal}
use Rattle.std.specs.Str.Parse.{AllDigits}
use Rattle.std.proofs.lemmas.Fmt.{decimal_is_IsNumeral, length-decimal-le}
use Rattle.std.proofs.lemmas.List.{take_at, take-append-drop, take-append-le}
use Rattle.std.proofs.lemmas.List.Folds.{list_any-append}
use Rattle.ps_language.specs.declared.schedules.Entry.{Entry}
use Rattle.ps_run_schedules.specs.Texts.{AreEntries, IsBadAt, IsUpTo, IsWords, IsShown, IsEntry, TellsLine, has_line_feed}
use Rattle.ps_run_schedules.specs.Texts.{space, line_feed, field_of, words_field, pair_of, flag_of, ending_of, line_of}
use Rattle.ps_run_schedules.specs.Texts.{text_of, BeginsNoLine, most_line_bytes}

-- ---- how long a line is

field_short : (ending number : ℕ) → IsUpTo 4294967295 number → length (field_of ending number) ≤ 11
field_short ending number up =
    let digits = length-decimal-le 10 number (omega arith) (omega (arith, up.high))
    (omega (arith, up.high)) in
    let more = length-append (decimal number) (ending ∷ []) in omega (arith, digits, more)

words_short : (ending : ℕ) (words : ℤ) → IsWords words → length (words_field ending words) ≤ 11
words_short ending (pos number) up =
    field_short ending number (record { low = up.low; high = omega (arith, up.high) })
words_short ending (negsuc number) none = absurd none

ending_short : (shown : Option (ℤ × ℤ)) → IsShown shown → length (ending_of shown) ≤ 23
ending_short None is = omega arith
ending_short (Some pair) is =
    let used = words_short space pair.0 is.0 in
    let most = words_short line_feed pair.1 is.1 in
    let both = length-append (words_field space pair.0) (words_field line_feed pair.1) in
    omega (arith, used, most, both)

pub line_short : (entry : Entry) → IsEntry entry → length (line_of entry) ≤ most_line_bytes
line_short entry is =
    let context = field_short space entry.context is.context in
    let steps = field_short space entry.steps is.steps in
    let ending = ending_short entry.shown is.shown in
    let second = length-append (field_of space entry.steps)
    (flag_of entry.refused ∷ ending_of entry.shown) in
    let first = length-append (field_of space entry.context)
    (field_of space entry.steps ++ flag_of entry.refused ∷ ending_of entry.shown) in
    omega (arith, context, steps, ending, first, second)

-- ---- where it has a line feed

-- the last byte is a line feed, and no other is
record EndsInFeed (bytes : List ℕ) : Type 0 where
  front : List ℕ
  is : bytes ≡ front ++ line_feed ∷ []
  none : has_line_feed front ≡ false

or_false : (one other : Bool) → one ≡ false → other ≡ false → (one || other) ≡ false
or_false one other first second = λ i. first i || second i

none_in_both : (first second : List ℕ) → has_line_feed first ≡ false
    → has_line_feed second ≡ false → has_line_feed (first ++ second) ≡ false
none_in_both first second one two =
    list_any-append (λ byte. byte == line_feed) first second ∙ or_false _ _ one two

ends_behind : (first rest : List ℕ) → has_line_feed first ≡ false → EndsInFeed rest
    → EndsInFeed (first ++ rest)
ends_behind first rest none ends = record {
  front = first ++ ends.front;
  is =
      ap (λ bs. first ++ bs) ends.is ∙ sym (append_assoc first ends.front (line_feed ∷ []));
  none = none_in_both first ends.front none ends.none;
}

digits_have_none : (digits : List ℕ) → AllDigits 10 digits → has_line_feed digits ≡ false
digits_have_none [] are = refl
digits_have_none (digit ∷ digits) are =
    or_false (digit == line_feed) (has_line_feed digits) (no_feed (digit == line_feed) refl)
    (digits_have_none digits are.1)
  where
    no_feed : (is : Bool) → (digit == line_feed) ≡ is → (digit == line_feed) ≡ false
    no_feed true same =
        let ten : digit ≡ 10 = grind (arith, same) in
        let small : digit_value 10 < 10 = subst (λ d. digit_value d < 10) ten are.0 in
        absurd (omega (arith, small))
    no_feed false same = same

decimal_has_none : (number : ℕ) → IsUpTo 4294967295 number → has_line_feed (decimal number) ≡ false
decimal_has_none number up =
    digits_have_none (decimal number) (decimal_is_IsNumeral number (omega (arith, up.high))).0.1

spaced_has_none : (number : ℕ) → IsUpTo 4294967295 number
    → has_line_feed (field_of space number) ≡ false
spaced_has_none number up =
    none_in_both (decimal number) (space ∷ []) (decimal_has_none number up) refl

pair_ends : (pair : ℤ × ℤ) → IsShown (Some pair) → EndsInFeed (pair_of pair)
pair_ends (pos used, pos most) is =
    let up : (number : ℕ) → IsUpTo 2147483647 number → IsUpTo 4294967295 number =
    λ number up. record { low = up.low; high = omega (arith, up.high) } in
    ends_behind (field_of space used) (field_of line_feed most) (spaced_has_none used (up used is.0))
    (record { front = decimal most; is = refl; none = decimal_has_none most (up most is.1) })
pair_ends (pos used, negsuc most) is = absurd is.1
pair_ends (negsuc used, most) is = absurd is.0

shown_ends : (shown : Option (ℤ × ℤ)) → IsShown shown → EndsInFeed (ending_of shown)
shown_ends None is = record { front = []; is = refl; none = refl }
shown_ends (Some pair) is = ends_behind (space ∷ []) (pair_of pair) refl (pair_ends pair is)

flag_has_none : (truth : Bool) → has_line_feed (flag_of truth ∷ []) ≡ false
flag_has_none true = refl
flag_has_none false = refl

line_ends : (entry : Entry) → IsEntry entry → EndsInFeed (line_of entry)
line_ends entry is =
    ends_behind (field_of space entry.context) _ (spaced_has_none entry.context is.context)
    (ends_behind (field_of space entry.steps) _ (spaced_has_none entry.steps is.steps)
    (ends_behind (flag_of entry.refused ∷ []) (ending_of entry.shown)
    (flag_has_none entry.refused) (shown_ends entry.shown is.shown)))

-- ---- what follows makes no line

-- a beginning of bytes without a line feed has none
none_in_front : (bytes : List ℕ) (n : ℕ) → has_line_feed bytes ≡ false
    → has_line_feed (take n bytes) ≡ false
none_in_front bytes n none =
    first_false _ _ (sym (list_any-append (λ byte. byte == line_feed) (take n bytes) (drop n bytes))
    ∙ ap has_line_feed (take-append-drop n bytes) ∙ none)
  where
    first_false : (one other : Bool) → (one || other) ≡ false → one ≡ false
    first_false true other is = is
    first_false false other is = refl

-- bytes that tell a line are as long as any that begins with them
as_long : (rest more behind : List ℕ) (entry : Entry) → IsEntry entry → TellsLine rest
    → rest ++ more ≡ line_of entry ++ behind → length (line_of entry) ≤ length rest
as_long rest more behind entry one (inl long) is =
    let short = line_short entry one in omega (arith, long, short)
as_long rest more behind entry one (inr fed) is =
    let ends = line_ends entry one in
    let size = ap {B = ℕ} (λ (bs : List ℕ). length bs) ends.is in
    let sum = length-append ends.front (line_feed ∷ []) in
    let not_shorter : length rest ≤ length ends.front → ⊥ = λ shorter.
    let whole : rest ++ more ≡ ends.front ++ (line_feed ∷ behind) =
    is ∙ ap (λ bs. bs ++ behind) ends.is
    ∙ append_assoc ends.front (line_feed ∷ []) behind in
    let front : rest ≡ take (length rest) ends.front =
    sym (take_at rest more (length rest) refl)
    ∙ ap (take (length rest)) whole
    ∙ take-append-le (length rest) ends.front (line_feed ∷ behind) shorter in
    true≢false (sym fed ∙ ap has_line_feed front ∙ none_in_front ends.front (length rest) ends.none) in
    omega (arith, size, sum, not_shorter)

none_behind : (rest more : List ℕ) → TellsLine rest → BeginsNoLine rest
    → BeginsNoLine (rest ++ more)
none_behind rest more tells none entry one behind is =
    let line = line_of entry in
    let long = as_long rest more behind entry one tells is in
    let front : take (length line) rest ≡ line =
    sym (take-append-le (length line) rest more long)
    ∙ ap (take (length line)) is
    ∙ take_at line behind (length line) refl in
    none entry one (drop (length line) rest)
    (sym (take-append-drop (length line) rest) ∙ ap (λ bs. bs ++ drop (length line) rest) front)

-- a text is bad where what is known of it is
pub bad_here : (old bytes rest more : List ℕ) (entries : List Entry) (line : ℕ) (is_last : Bool)
    → AreEntries entries → old ++ bytes ≡ text_of entries ++ rest → line ≡ length entries + 1
    → rest ≢ [] → (is_last ≡ false → TellsLine rest) → BeginsNoLine rest
    → (is_last ≡ true → more ≡ [])
    → IsBadAt (old ++ (bytes ++ more)) line
bad_here old bytes rest more entries line is_last are is number some tells none ends = record {
  before = entries;
  entries = are;
  number = number;
  rest = rest ++ more;
  is =
      sym (append_assoc old bytes more) ∙ ap (λ bs. bs ++ more) is
      ∙ append_assoc (text_of entries) rest more;
  some = λ empty. some (first_empty rest more empty);
  none = known is_last tells ends;
}
  where
    first_empty : (first second : List ℕ) → first ++ second ≡ [] → first ≡ []
    first_empty [] second is = refl
    first_empty (b ∷ first) second is =
        let no : length ((b ∷ first) ++ second) ≡ 0 = ap {B = ℕ} (λ (bs : List ℕ). length bs) is in
        absurd (omega (arith, no))

    known : (last : Bool) → (last ≡ false → TellsLine rest) → (last ≡ true → more ≡ [])
        → BeginsNoLine (rest ++ more)
    known true tells ends =
        λ entry one behind same. none entry one behind
        (sym (append-nil rest) ∙ ap (λ bs. rest ++ bs) (sym (ends refl)) ∙ same)
    known false tells ends = none_behind rest more (tells refl) none
