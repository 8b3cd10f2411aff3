-- What stands behind a text after parts were appended.
use Rattle.std.proofs.Common.{◌≡◌, ◌<◌, ◌≤◌, ◌+◌, ℕ, List, [], ◌∷◌, ◌++◌, take, drop, length, get_or, arith, refl, sym}
use Rattle.std.proofs.Common.{ap, ◌∙◌, append_assoc, append-nil, length-append}
use Rattle.std.proofs.lemmas.List.{take_at, take-append-drop, take-take, take_more}
use Rattle.ps_language.specs.declared.schedules.Entry.{Entry}
use Rattle.ps_run_schedules.specs.Texts.{line_of, text_of, field_of, flag_of, ending_of, space}
use Rattle.ps_run_schedules.proofs.Once.{text_more}

pub line_appended : (old first second third new : List ℕ) (entry : Entry)
    → first ≡ old ++ field_of space entry.context → second ≡ first ++ field_of space entry.steps
    → third ≡ second ++ flag_of entry.refused ∷ [] → new ≡ third ++ ending_of entry.shown
    → new ≡ old ++ line_of entry
line_appended old first second third new entry one two three four =
    let context = field_of space entry.context in
    let steps = field_of space entry.steps in
    let flag : List ℕ = flag_of entry.refused ∷ [] in
    let ending = ending_of entry.shown in
    four
    ∙ ap (λ bs. bs ++ ending) (three ∙ ap (λ bs. bs ++ flag) (two ∙ ap (λ bs. bs ++ steps) one))
    ∙ append_assoc ((old ++ context) ++ steps) flag ending
    ∙ append_assoc (old ++ context) steps (flag ++ ending)
    ∙ append_assoc old context (steps ++ (flag ++ ending))

-- the lines of one entry more
pub text_appended : (old now new : List ℕ) (entries : List Entry) (i : ℕ) (entry : Entry)
    → i < length entries → now ≡ old ++ text_of (take i entries)
    → new ≡ now ++ line_of (get_or entries i entry) → new ≡ old ++ text_of (take (i + 1) entries)
text_appended old now new entries i entry inside is more =
    let next = get_or entries i entry in
    more ∙ ap (λ bs. bs ++ line_of next) is
    ∙ append_assoc old (text_of (take i entries)) (line_of next)
    ∙ ap (λ bs. old ++ bs)
    (ap (λ bs. text_of (take i entries) ++ bs) (sym (append-nil (line_of next)))
    ∙ text_more (take i entries) next []
    ∙ append-nil (text_of (take i entries ++ next ∷ []))
    ∙ ap text_of (sym (take_more entries i entry inside)))

-- the text of some entries and then others
text_of-append : (first second : List Entry)
    → text_of (first ++ second) ≡ text_of first ++ text_of second
text_of-append [] second = refl
text_of-append (entry ∷ entries) second =
    ap (λ bs. line_of entry ++ bs) (text_of-append entries second)
    ∙ sym (append_assoc (line_of entry) (text_of entries) (text_of second))

-- what has no room for a line has none for all
pub full_for_all : (old now : List ℕ) (entries : List Entry) (i : ℕ) (entry : Entry) (low high : ℕ)
    → i < length entries → now ≡ old ++ text_of (take i entries) → low ≤ high
    → high < length (now ++ line_of (get_or entries i entry))
    → low < length (old ++ text_of entries)
full_for_all old now entries i entry low high inside is less full =
    let front = text_of (take (i + 1) entries) in
    let rest = text_of (drop (i + 1) entries) in
    let so_far = ap {B = ℕ} (λ (bs : List ℕ). length bs)
    (text_appended old now (now ++ line_of (get_or entries i entry)) entries i entry inside is
    refl) in
    let whole = ap {B = ℕ} (λ (all : List Entry). length (old ++ text_of all))
    (take-append-drop (i + 1) entries) in
    let parts = ap {B = ℕ} (λ (bs : List ℕ). length (old ++ bs))
    (text_of-append (take (i + 1) entries) (drop (i + 1) entries)) in
    let one = length-append old front in
    let two = length-append old (front ++ rest) in
    let three = length-append front rest in
    omega (arith, so_far, whole, parts, one, two, three)

-- what stood at first is left of a text that grew
pub cut_back : (old grown now new : List ℕ) → now ≡ old ++ grown
    → take (length now) new ≡ now → take (length old) new ≡ old
cut_back old grown now new is front =
    let long = ap {B = ℕ} (λ (bs : List ℕ). length bs) is in
    let sum = length-append old grown in
    sym (take-take (length old) (length now) new (omega (arith, long, sum)))
    ∙ ap (take (length old)) (front ∙ is)
    ∙ take_at old grown (length old) refl
