-- Bytes begin with one line alone, and are the text of one schedule alone.
use Rattle.std.proofs.Common.{◌≡◌, ◌≢◌, ℕ, Bool, true, false, Option, Some, None, List, [], ◌∷◌, ◌++◌, drop, length}
use Rattle.std.proofs.Common.{get_or, arith, refl, sym, ap, ◌∙◌, length-append, append_assoc}
use Rattle.std.specs.Prelude.{ℤ, pos, negsuc}
use Rattle.std.specs.Char.{is_ascii_digit}
use Rattle.ps_language.specs.declared.schedules.Entry.{Entry}
use Rattle.ps_run_schedules.specs.Texts.{IsWords, IsShown, IsEntry, AreEntries, space, line_feed, field_of, words_field}
use Rattle.ps_run_schedules.specs.Texts.{pair_of, flag_of, ending_of, line_of, text_of, BeginsNoLine, IsBadAt}
use Rattle.ps_run_schedules.proofs.Beginnings.{field_once}

-- ---- parts of a line

pub behind_first : (b : ℕ) (first second : List ℕ) → b ∷ first ≡ b ∷ second → first ≡ second
behind_first b first second is = ap (drop 1) is

pub words_once : (bytes : List ℕ) (first second : ℤ) (ending : ℕ) (behind rest : List ℕ)
    → IsWords first → IsWords second → is_ascii_digit ending ≡ false
    → bytes ≡ words_field ending first ++ behind → bytes ≡ words_field ending second ++ rest
    → (first ≡ second) × (behind ≡ rest)
words_once bytes (pos first) (pos second) ending behind rest one two test is also =
    let both = field_once bytes 2147483647 first second ending behind rest (omega arith) one two
    test is also in
    (ap pos both.0, both.1)
words_once bytes (pos first) (negsuc second) ending behind rest one two test is also = absurd two
words_once bytes (negsuc first) second ending behind rest one two test is also = absurd one

pub pair_parts : (pair : ℤ × ℤ) (rest : List ℕ)
    → pair_of pair ++ rest
    ≡ words_field space pair.0 ++ (words_field line_feed pair.1 ++ rest)
pair_parts pair rest =
    append_assoc (words_field space pair.0) (words_field line_feed pair.1) rest

pub shown_once : (bytes : List ℕ) (first second : Option (ℤ × ℤ)) (behind rest : List ℕ)
    → IsShown first → IsShown second → bytes ≡ ending_of first ++ behind
    → bytes ≡ ending_of second ++ rest → (first ≡ second) × (behind ≡ rest)
shown_once bytes None None behind rest one two is also =
    (refl, behind_first line_feed behind rest (sym is ∙ also))
shown_once bytes None (Some pair) behind rest one two is also =
    let no : 10 ≡ 32 = ap (λ bs. get_or bs 0 0) (sym is ∙ also) in absurd (omega (arith, no))
shown_once bytes (Some pair) None behind rest one two is also =
    let no : 32 ≡ 10 = ap (λ bs. get_or bs 0 0) (sym is ∙ also) in absurd (omega (arith, no))
shown_once bytes (Some pair) (Some other) behind rest one two is also =
    let here = ap (drop 1) is ∙ pair_parts pair behind in
    let there = ap (drop 1) also ∙ pair_parts other rest in
    let used = words_once (drop 1 bytes) pair.0 other.0 space _ _ one.0 two.0 refl here there in
    let most = words_once (words_field line_feed pair.1 ++ behind) pair.1 other.1 line_feed behind
    rest one.1 two.1 refl refl used.1 in
    (ap Some (λ i. (used.0 i, most.0 i)), most.1)

pub flag_once : (first second : Bool) → flag_of first ≡ flag_of second → first ≡ second
flag_once true true is = refl
flag_once true false is = absurd (omega (arith, is))
flag_once false true is = absurd (omega (arith, is))
flag_once false false is = refl

-- ---- a line

pub line_parts : (entry : Entry) (rest : List ℕ)
    → line_of entry ++ rest
    ≡ field_of space entry.context
    ++ (field_of space entry.steps ++ flag_of entry.refused ∷ (ending_of entry.shown ++ rest))
line_parts entry rest =
    append_assoc (field_of space entry.context)
    (field_of space entry.steps ++ flag_of entry.refused ∷ ending_of entry.shown) rest
    ∙ ap (λ bs. field_of space entry.context ++ bs)
    (append_assoc (field_of space entry.steps) (flag_of entry.refused ∷ ending_of entry.shown) rest)

pub line_once : (bytes : List ℕ) (first second : Entry) (behind rest : List ℕ) → IsEntry first
    → IsEntry second → bytes ≡ line_of first ++ behind → bytes ≡ line_of second ++ rest
    → (first ≡ second) × (behind ≡ rest)
line_once bytes first second behind rest one two is also =
    let here = is ∙ line_parts first behind in
    let there = also ∙ line_parts second rest in
    let context = field_once bytes 4294967295 first.context second.context space _ _ (omega arith)
    one.context two.context refl here there in
    let steps = field_once _ 4294967295 first.steps second.steps space _ _ (omega arith) one.steps
    two.steps refl refl context.1 in
    let refused = flag_once first.refused second.refused (ap (λ bs. get_or bs 0 0) steps.1) in
    let shown = shown_once _ first.shown second.shown behind rest one.shown two.shown refl
    (ap (drop 1) steps.1) in (
      λ i. record {
        context = context.0 i;
        steps = steps.0 i;
        refused = refused i;
        shown = shown.0 i;
      },
      shown.1,
    )

-- a line isn't empty
line_some : (entry : Entry) (rest : List ℕ) → line_of entry ++ rest ≡ [] → ⊥
line_some entry rest is =
    let none : length (line_of entry ++ rest) ≡ 0 = ap {B = ℕ} (λ (bs : List ℕ). length bs) is in
    let parts = ap {B = ℕ} (λ (bs : List ℕ). length bs) (line_parts entry rest) in
    let first = length-append (field_of space entry.context)
    (field_of space entry.steps ++ flag_of entry.refused ∷ (ending_of entry.shown ++ rest)) in
    let second = length-append (field_of space entry.steps)
    (flag_of entry.refused ∷ (ending_of entry.shown ++ rest)) in
    omega (arith, none, parts, first, second)

-- ---- a schedule

pub text_once : (first second : List Entry) → AreEntries first → AreEntries second
    → text_of first ≡ text_of second → first ≡ second
text_once [] [] one two is = refl
text_once [] (entry ∷ entries) one two is = absurd (line_some entry (text_of entries) (sym is))
text_once (entry ∷ entries) [] one two is = absurd (line_some entry (text_of entries) is)
text_once (entry ∷ entries) (other ∷ others) one two is =
    let both = line_once (text_of (entry ∷ entries)) entry other (text_of entries) (text_of others)
    one.0 two.0 refl is in
    (λ i. both.0 i ∷ text_once entries others one.1 two.1 both.1 i)

-- behind lines of entries a schedule's text has a line, or ends
no_text : (before schedule : List Entry) (rest : List ℕ) → AreEntries before → AreEntries schedule
    → rest ≢ [] → BeginsNoLine rest → text_of schedule ≡ text_of before ++ rest → ⊥
no_text [] [] rest one two some none is = some (sym is)
no_text [] (entry ∷ entries) rest one two some none is =
    none entry two.0 (text_of entries) (sym is)
no_text (entry ∷ entries) [] rest one two some none is =
    line_some entry (text_of entries ++ rest)
    (sym (append_assoc (line_of entry) (text_of entries) rest) ∙ sym is)
no_text (entry ∷ entries) (other ∷ others) rest one two some none is =
    let both = line_once (text_of (other ∷ others)) other entry (text_of others)
    (text_of entries ++ rest) two.0 one.0 refl
    (is ∙ append_assoc (line_of entry) (text_of entries) rest) in
    no_text entries others rest one.1 two.1 some none both.1

pub bad_no_text : (bytes : List ℕ) (line : ℕ) → IsBadAt bytes line → (schedule : List Entry)
    → AreEntries schedule → text_of schedule ≢ bytes
bad_no_text bytes line bad schedule entries is =
    no_text bad.before schedule bad.rest bad.entries entries bad.some bad.none (is ∙ bad.is)

-- ---- one line more

pub text_more : (before : List Entry) (entry : Entry) (rest : List ℕ)
    → text_of before ++ (line_of entry ++ rest) ≡ text_of (before ++ entry ∷ []) ++ rest
text_more [] entry rest = sym (append_assoc (line_of entry) [] rest)
text_more (first ∷ entries) entry rest =
    append_assoc (line_of first) (text_of entries) (line_of entry ++ rest)
    ∙ ap (λ bs. line_of first ++ bs) (text_more entries entry rest)
    ∙ sym (append_assoc (line_of first) (text_of (entries ++ entry ∷ [])) rest)

pub entries_more : (before : List Entry) (entry : Entry) → AreEntries before → IsEntry entry
    → AreEntries (before ++ entry ∷ [])
entries_more [] entry all is = (is, tt)
entries_more (first ∷ entries) entry all is = (all.0, entries_more entries entry all.1 is)
