-- The objects that a step makes of a token stand where the token's objects are told to be.
use Rattle.std.proofs.Common.{◌≡◌, refl, ap, sym, subst, ◌∙◌, ℕ, zero, suc, ◌+◌, ◌-◌, ◌<◌, Bool, true, false, List, []}
use Rattle.std.proofs.Common.{◌∷◌, ◌++◌, length, drop, arith, inl, inr, append_assoc, append-nil}
use Rattle.std.specs.Prelude.{◌==◌, ◌^◌, ℤ, nat_le, nat_lt, if◌then◌else◌}
use Rattle.ps_language.specs.Bytes.{is_regular}
use Rattle.std.specs.List.{flat_map}
use Rattle.std.proofs.lemmas.Bool.{cases_Bool, cond-true, cond-false}
use Rattle.std.proofs.lemmas.List.{drop_at, drop-drop}
use Rattle.ps_language.specs.Token.{Token, Tokens, number_token, literal_name_token, executable_name_token}
use Rattle.ps_language.specs.Token.{immediate_name_token, string_token, procedure_token, no_tokens, more_tokens}
use Rattle.ps_language.specs.Token.{ScanFault, limit_fault, Scan, found, exhausted, faulty}
use Rattle.ps_language.specs.Reading.{Reading, token_then, stuck, Ending, string_end, unfinished, Tail, procedure_end}
use Rattle.ps_language.specs.Reading.{procedure_fault, sized_name, sized_string, string_reading, sized_procedure, Word}
use Rattle.ps_language.specs.Reading.{integer_word, radix_word, real_word, name_word, word_reading, token_count}
use Rattle.ps_language.specs.Reading.{fits_integer}
use Rattle.ps_language.specs.Scan.{Start, regular_start, string_start, hex_start, angle_start, bracket_start, slash_start}
use Rattle.ps_language.specs.Scan.{leading, stray_start, hex_reading, after_hex_start, after_angle, after_slash, simple_by}
use Rattle.ps_language.specs.Scan.{start_of, token_here, elements_by, elements_from, as_scan, text_scan, scan, behind_blank}
use Rattle.ps_language.specs.StepTokens.{Made, string_made, procedure_made, elements_made}
use Rattle.ps_language.specs.StepValues.{LookedUp}
use Rattle.ps_language.specs.Value.{Object, array_object, string_object, dictionary_object, lock_object}
use Rattle.ps_language.specs.Value.{condition_object, Store}
use Rattle.ps_places.specs.Objects.{token_places, elements_in, with_own, objects_at}
use Rattle.ps_places.specs.Made.{IsReadAt, Stand, token_made, IsMadeAt, AreMadeAt}
use Rattle.ps_language.proofs.Blanks.{BehindBlank, behind_sound}
use Rattle.ps_places.specs.Tokens.{token_begin}
use Rattle.ps_places.proofs.Reading.{IsWithin, within_read, stand_by, not_found, blank_lies, still}

abbrev token_or : Token → Scan → Token
token_or other (found token end) = token
token_or other exhausted = other
token_or other (faulty fault) = other

none_found : (token : Token) (end : ℕ) → exhausted ≡ found token end → ⊥
none_found token end e = cc

-- ---- no simple token is a procedure

pub data IsPlain : Reading → Type 0 where
  plain_stuck : {fault : ScanFault} → IsPlain (stuck fault)
  plain_number : {number : ℤ} {rest : List ℕ} → IsPlain (token_then (number_token number) rest)
  plain_literal : {text rest : List ℕ} → IsPlain (token_then (literal_name_token text) rest)
  plain_executable : {text rest : List ℕ} → IsPlain (token_then (executable_name_token text) rest)
  plain_immediate : {text rest : List ℕ} → IsPlain (token_then (immediate_name_token text) rest)
  plain_text : {text rest : List ℕ} → IsPlain (token_then (string_token text) rest)

plain_if : (b : Bool) {x y : Reading} → IsPlain x → IsPlain y → IsPlain (if b then x else y)
plain_if true h k = h
plain_if false h k = k

plain_word : (run rest : List ℕ) (word : Word) → IsPlain (word_reading run rest word)
unfolding word_reading sized_name
plain_word run rest (integer_word n) = plain_if (fits_integer n) plain_number plain_stuck
plain_word run rest (radix_word n) = plain_if (nat_lt n (2 ^ 32)) plain_number plain_stuck
plain_word run rest real_word = plain_stuck
plain_word run rest name_word = plain_if (nat_le (length run) 127) plain_executable plain_stuck

plain_sized : (value rest : List ℕ) → IsPlain (sized_string value rest)
unfolding sized_string
plain_sized value rest = plain_if (nat_le (length value) 65535) plain_text plain_stuck

plain_string : (ending : Ending) → IsPlain (string_reading ending)
unfolding string_reading
plain_string (string_end value rest) = plain_sized value rest
plain_string unfinished = plain_stuck

plain_hex : (inner after : List ℕ) → IsPlain (hex_reading inner after)
unfolding hex_reading
plain_hex inner [] = plain_stuck
plain_hex inner (b ∷ bs) = plain_if (b == 62) (plain_sized _ bs) plain_stuck

plain_hex_start : (text : List ℕ) → IsPlain (after_hex_start text)
unfolding after_hex_start
plain_hex_start [] = plain_stuck
plain_hex_start (b ∷ bs) = elim (cases_Bool (b == 60)) [
  | inl t ↦ rw (t, after_hex_start) plain_executable
  | inr f ↦ rw (f, after_hex_start) (plain_hex _ _)
]

plain_angle : (text : List ℕ) → IsPlain (after_angle text)
unfolding after_angle
plain_angle [] = plain_stuck
plain_angle (b ∷ bs) = plain_if (b == 62) plain_executable plain_stuck

plain_slash : (text : List ℕ) → IsPlain (after_slash text)
unfolding after_slash sized_name leading
plain_slash [] = plain_literal
plain_slash (b ∷ bs) = elim (cases_Bool (b == 47)) [
  | inl t ↦ rw (t, after_slash) (plain_if (nat_le (length (leading is_regular bs)) 127) plain_immediate plain_stuck)
  | inr f ↦ rw (f, after_slash)
      (plain_if (nat_le (length (leading is_regular (b ∷ bs))) 127) plain_literal plain_stuck)
]

plain_simple : (start : Start) (b : ℕ) (bs : List ℕ) → IsPlain (simple_by start b bs)
unfolding simple_by
plain_simple regular_start b bs = plain_word _ _ _
plain_simple string_start b bs = plain_string _
plain_simple hex_start b bs = plain_hex_start bs
plain_simple angle_start b bs = plain_angle bs
plain_simple bracket_start b bs = plain_executable
plain_simple slash_start b bs = plain_slash bs
plain_simple stray_start b bs = plain_stuck

plain_procedure : (elements : Tokens) (rest : List ℕ) → IsPlain (token_then (procedure_token elements) rest) → ⊥
plain_procedure elements rest h = elim h [ ]

no_procedure : (b : ℕ) (bs : List ℕ) (elements : Tokens) (rest : List ℕ)
    → simple_by (start_of b) b bs ≡ token_then (procedure_token elements) rest → ⊥
no_procedure b bs elements rest e = plain_procedure elements rest (subst IsPlain e (plain_simple (start_of b) b bs))

-- ---- what objects come of it

-- objects came behind a store, made of the tokens at these places
abbrev pub Makes : (List ℕ → LookedUp) → (text : List ℕ) (places : List ℕ) (old new : Store) → Type 0
Makes look text places old new = (news : List Object) × (new ≡ old ++ news) × AreMadeAt look text places news

are_both : (look : List ℕ → LookedUp) (text : List ℕ) (first second : List ℕ) (one two : List Object)
    → AreMadeAt look text first one → AreMadeAt look text second two → AreMadeAt look text (first ++ second) (one ++ two)
are_both look text [] second [] two h k = k
are_both look text [] second (object ∷ one) two h k = absurd h
are_both look text (place ∷ first) second [] two h k = absurd h
are_both look text (place ∷ first) second (object ∷ one) two h k = (h.0, are_both look text first second one two h.1 k)

makes_none : (look : List ℕ → LookedUp) (text : List ℕ) (store : Store) → Makes look text [] store store
makes_none look text store = ([], sym (append-nil store), tt)

makes_both : (look : List ℕ → LookedUp) (text : List ℕ) (first second : List ℕ) (a b c : Store)
    → Makes look text first a b → Makes look text second b c → Makes look text (first ++ second) a c
makes_both look text first second a b c h k = (
  h.0 ++ k.0,
  k.1 ∙ ap (λ x. x ++ k.0) h.1 ∙ append_assoc a h.0 k.0,
  are_both look text first second h.0 k.0 h.2 k.2,
)

-- ---- elements one behind another

made_more : (look : List ℕ → LookedUp) (token : Token) (rest : Tokens) (store : Store)
    → (elements_made look rest (token_made look token store).store).store
    ≡ (elements_made look (more_tokens token rest) store).store
made_more look (number_token n) rest store = refl
made_more look (literal_name_token n) rest store = refl
made_more look (executable_name_token n) rest store = refl
made_more look (immediate_name_token n) rest store = refl
made_more look (string_token n) rest store = refl
made_more look (procedure_token n) rest store = refl

abbrev MakesAll : (List ℕ → LookedUp) → (text : List ℕ) → (ℕ → List ℕ) → (ℕ → Token → Type 0) → Type 0
MakesAll look text objects IsSo = (place : ℕ) (token : Token) → IsSo place token → (store : Store)
    → Makes look text (objects place) store (token_made look token store).store

elements_make : (look : List ℕ → LookedUp) (text : List ℕ) (objects : ℕ → List ℕ) (IsSo : ℕ → Token → Type 0)
    → MakesAll look text objects IsSo → (places : List ℕ) (elements : Tokens) → Stand IsSo places elements
    → (store : Store) → Makes look text (flat_map objects places) store (elements_made look elements store).store
elements_make look text objects IsSo h [] no_tokens s store = makes_none look text store
elements_make look text objects IsSo h [] (more_tokens token rest) s store = absurd s
elements_make look text objects IsSo h (place ∷ places) no_tokens s store = absurd s
elements_make look text objects IsSo h (place ∷ places) (more_tokens token rest) s store =
    subst (Makes look text (objects place ++ flat_map objects places) store) (made_more look token rest store)
    (makes_both look text (objects place) (flat_map objects places) store (token_made look token store).store _
    (h place token s.0 store)
    (elements_make look text objects IsSo h places rest s.1 (token_made look token store).store))

-- ---- a token

own_makes : (look : List ℕ → LookedUp) (text : List ℕ) (inner : List ℕ) (place : ℕ) (elements : Tokens) (store : Store)
    → IsReadAt text place (procedure_token elements)
    → Makes look text inner store (elements_made look elements store).store
    → Makes look text (inner ++ place ∷ []) store (procedure_made (elements_made look elements store)).store
own_makes look text inner place elements store read h =
    makes_both look text inner (place ∷ []) store (elements_made look elements store).store _ h
    (array_object (elements_made look elements store).values ∷ [], refl, ((elements, store, refl, read), tt))

objects_are : (room : ℕ) (text : List ℕ) (place : ℕ) (token : Token) (end : ℕ) → scan text place ≡ found token end
    → objects_at (suc room) text place
    ≡ with_own (flat_map (objects_at room text) (elements_in text place (found token end))) place (found token end)
unfolding objects_at
objects_are room text place token end e =
    ap (λ s. with_own (flat_map (objects_at room text) (elements_in text place s)) place s) e

abbrev elements_then : Reading → Tokens
elements_then (token_then (procedure_token elements) rest) = elements
elements_then reading = no_tokens

abbrev rest_then : Reading → List ℕ
rest_then (token_then token rest) = rest
rest_then (stuck fault) = []

no_token : (fault : ScanFault) (token : Token) (rest : List ℕ) → stuck fault ≡ token_then token rest → ⊥
no_token fault token rest e = cc

sized_end : (tail : Tail) (elements : Tokens) (rest : List ℕ)
    → sized_procedure tail ≡ token_then (procedure_token elements) rest → tail ≡ procedure_end elements rest
unfolding sized_procedure
sized_end (procedure_fault fault) elements rest e = absurd (no_token fault (procedure_token elements) rest e)
sized_end (procedure_end es r) elements rest e = elim (cases_Bool (nat_le (token_count es) 65535)) [
  | inl t ↦ ap (λ x. procedure_end (elements_then x) (rest_then x)) (sym (cond-true _ _ _ t) ∙ e)
  | inr f ↦ absurd (no_token limit_fault (procedure_token elements) rest (sym (cond-false _ _ _ f) ∙ e))
]

-- how a procedure is read where its brace stands
brace_none : (b : ℕ) (bs : List ℕ) (elements : Tokens) (rest : List ℕ)
    → token_here zero b bs ≡ token_then (procedure_token elements) rest → ⊥
unfolding token_here
brace_none b bs elements rest e = elim (cases_Bool (b == 123)) [
  | inl t ↦ no_token limit_fault (procedure_token elements) rest (sym (cond-true _ _ _ t) ∙ e)
  | inr f ↦ no_procedure b bs elements rest (sym (cond-false _ _ _ f) ∙ e)
]

brace_some : (room b : ℕ) (bs : List ℕ) (elements : Tokens) (rest : List ℕ)
    → token_here (suc room) b bs ≡ token_then (procedure_token elements) rest
    → elements_from (token_here room) bs ≡ procedure_end elements rest
unfolding token_here
brace_some room b bs elements rest e = elim (cases_Bool (b == 123)) [
  | inl t ↦ sized_end (elements_from (token_here room) bs) elements rest (rw (t, token_here) at e)
  | inr f ↦ absurd (no_procedure b bs elements rest (rw (f, token_here) at e))
]

-- what lies behind the first byte
others_lie : (text : List ℕ) (place b : ℕ) (bs : List ℕ) → drop place text ≡ b ∷ bs → drop (place + 1) text ≡ bs
others_lie text place b bs e = sym (drop-drop 1 place text) ∙ ap (drop 1) e

-- a token that makes nothing
plain_makes : (look : List ℕ → LookedUp) (text : List ℕ) (objects : List ℕ) (store : Store) → objects ≡ []
    → Makes look text objects store store
plain_makes look text objects store e =
    subst (λ x. Makes look text x store store) (sym e) (makes_none look text store)

pub token_makes : (look : List ℕ → LookedUp) (text : List ℕ) (room gap : ℕ) → gap + room ≡ 32
    → MakesAll look text (objects_at (suc room) text) (IsWithin room text)
token_makes look text room gap g place (number_token n) w store =
    let r = within_read room gap g text place (number_token n) w in
    plain_makes look text _ store (objects_are room text place (number_token n) r.0 r.1)
token_makes look text room gap g place (literal_name_token n) w store =
    let r = within_read room gap g text place (literal_name_token n) w in
    plain_makes look text _ store (objects_are room text place (literal_name_token n) r.0 r.1)
token_makes look text room gap g place (executable_name_token n) w store =
    let r = within_read room gap g text place (executable_name_token n) w in
    plain_makes look text _ store (objects_are room text place (executable_name_token n) r.0 r.1)
token_makes look text room gap g place (immediate_name_token n) w store =
    let r = within_read room gap g text place (immediate_name_token n) w in
    plain_makes look text _ store (objects_are room text place (immediate_name_token n) r.0 r.1)
token_makes look text room gap g place (string_token bytes) w store =
    let r = within_read room gap g text place (string_token bytes) w in
    subst (λ x. Makes look text x store (string_made bytes store).store)
    (sym (objects_are room text place (string_token bytes) r.0 r.1)) (string_object bytes ∷ [], refl, (r, tt))
token_makes look text zero gap g place (procedure_token elements) w store =
    absurd (brace_none w.first w.others elements w.rest w.read)
token_makes look text (suc room) gap g place (procedure_token elements) w store =
    let r = within_read (suc room) gap g text place (procedure_token elements) w in
    let h : suc gap + room ≡ 32 = omega (arith, g) in
    let places : List ℕ = token_places text (place + 1) in
    let stands : Stand (IsWithin room text) places elements =
    stand_by room (suc gap) h (suc (length w.others)) text (place + 1) elements w.rest
    (ap (elements_by (token_here room) (suc (length w.others))) (others_lie text place w.first w.others w.here)
    ∙ brace_some room w.first w.others elements w.rest w.read) in
    subst (λ x. Makes look text x store (procedure_made (elements_made look elements store)).store)
    (sym (objects_are (suc room) text place (procedure_token elements) r.0 r.1))
    (own_makes look text (flat_map (objects_at (suc room) text) places) place elements store r
    (elements_make look text (objects_at (suc room) text) (IsWithin room text)
    (token_makes look text room (suc gap) h) places elements stands store))

-- ---- where a token begins

read_of : (size : ℕ) (reading : Reading) (token : Token) (end : ℕ) → as_scan size reading ≡ found token end
    → (rest : List ℕ) × (reading ≡ token_then token rest)
unfolding as_scan
read_of size (token_then other rest) token end e = (rest, ap (λ t. token_then t rest) (ap (token_or other) e))
read_of size (stuck fault) token end e = absurd (not_found fault token end e)

within_left : (text : List ℕ) (begin : ℕ) (token : Token) (end : ℕ) (left : List ℕ) → drop begin text ≡ left
    → behind_blank false left ≡ left → text_scan (length text) left ≡ found token end → IsWithin 32 text begin token
unfolding text_scan
within_left text begin token end [] h l e = absurd (none_found token end e)
within_left text begin token end (b ∷ bs) h l e =
    let r = read_of (length text) (token_here 32 b bs) token end e in
    record { first = b; others = bs; rest = r.0; here = h; blank = l; read = r.1 }

within_scan : (text : List ℕ) (begin : ℕ) (token : Token) (end : ℕ) → scan text begin ≡ found token end
    → token_begin text begin ≡ begin → IsWithin 32 text begin token
unfolding scan token_begin
within_scan text begin token end e b =
    let left : List ℕ = behind_blank false (drop begin text) in
    let sound : BehindBlank (drop begin text) left = behind_sound (drop begin text) in
    within_left text begin token end left (ap (λ n. drop n text) (sym b) ∙ blank_lies text begin left sound)
    (still (drop begin text) left sound) e

-- the objects that a step makes of a token
pub objects_made : (look : List ℕ → LookedUp) (text : List ℕ) (begin : ℕ) (token : Token) (end : ℕ) (store : Store)
    → scan text begin ≡ found token end → token_begin text begin ≡ begin
    → AreMadeAt look text (objects_at 33 text begin) (drop (length store) (token_made look token store).store)
objects_made look text begin token end store e b =
    let makes = token_makes look text 32 0 refl begin token (within_scan text begin token end e b) store in
    subst (AreMadeAt look text (objects_at 33 text begin))
    (sym (ap (drop (length store)) makes.1 ∙ drop_at store makes.0 (length store) refl)) makes.2
