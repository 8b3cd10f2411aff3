-- A procedure's elements are the tokens that are read one behind another behind its brace.
use Rattle.std.proofs.Common.{◌≡◌, refl, ap, sym, subst, ◌∙◌, ℕ, zero, suc, ◌+◌, ◌-◌, ◌<◌, ◌≤◌, Bool, true, false, List}
use Rattle.std.proofs.Common.{[], ◌∷◌, ◌++◌, length, drop, arith, inl, inr, append_assoc}
use Rattle.std.specs.Prelude.{◌==◌, nat_le, nat_lt}
use Rattle.std.proofs.lemmas.Bool.{cases_Bool, cond-true, cond-false, eqb-true, ltb-true, ltb-false}
use Rattle.std.proofs.lemmas.List.{length-append, length-drop, at_drop_all, drop-drop, drop_at, drop_more, get_or_past}
use Rattle.ps_language.specs.Token.{Token, Tokens, no_tokens, more_tokens, ScanFault, Scan, found, faulty, syntax_fault}
use Rattle.ps_language.specs.Token.{limit_fault, procedure_token}
use Rattle.ps_language.specs.Reading.{Reading, token_then, stuck, Tail, procedure_end, procedure_fault, with_first}
use Rattle.ps_language.specs.Reading.{sized_procedure, token_count}
use Rattle.ps_language.specs.Syntax.{IsToken}
use Rattle.ps_language.specs.Scan.{behind_blank, then_elements, elements_step, elements_by, elements_from, token_here}
use Rattle.ps_language.specs.Scan.{start_of, simple_by, as_scan, text_scan, scan}
use Rattle.ps_language.proofs.Blanks.{BehindBlank, behind_sound, behind_none}
use Rattle.ps_language.proofs.Behind.{token_behind}
use Rattle.ps_language.proofs.Places.{byte_at}
use Rattle.ps_language.proofs.Procedures.{token_sound}
use Rattle.ps_places.specs.Tokens.{token_begin}
use Rattle.ps_places.specs.Objects.{token_places}
use Rattle.ps_places.specs.Made.{IsReadAt, Stand, StandAt}
use Rattle.ps_places.proofs.Seeking.{places_found, places_faulty}

-- ---- a token is read alike where more braces may be opened

abbrev pub IsAlso : (f g : ℕ → List ℕ → Reading) → Type 0
IsAlso f g = (b : ℕ) (bs : List ℕ) (token : Token) (rest : List ℕ) → f b bs ≡ token_then token rest
    → g b bs ≡ token_then token rest

-- one tail ends wherever another does
abbrev EndsAlso : (tail other : Tail) → Type 0
EndsAlso tail other = (elements : Tokens) (rest : List ℕ) → tail ≡ procedure_end elements rest
    → other ≡ procedure_end elements rest

first_more : (token : Token) (tail other : Tail) → EndsAlso tail other
    → EndsAlso (with_first token tail) (with_first token other)
unfolding with_first
first_more token (procedure_end es r) other h elements rest e = ap (with_first token) (h es r refl) ∙ e
first_more token (procedure_fault fault) other h elements rest e = cc

then_more : (further other : List ℕ → Tail) → ((text : List ℕ) → EndsAlso (further text) (other text))
    → (reading same : Reading)
    → ((token : Token) (rest : List ℕ) → reading ≡ token_then token rest → same ≡ token_then token rest)
    → EndsAlso (then_elements further reading) (then_elements other same)
unfolding then_elements
then_more further other h (stuck fault) same g elements rest e = cc
then_more further other h (token_then token left) same g elements rest e =
    ap (then_elements other) (g token left refl)
    ∙ first_more token (further left) (other left) (h left) elements rest e

step_more : (f g : ℕ → List ℕ → Reading) (further other : List ℕ → Tail) → IsAlso f g
    → ((text : List ℕ) → EndsAlso (further text) (other text)) → (left : List ℕ)
    → EndsAlso (elements_step f further left) (elements_step g other left)
unfolding elements_step
step_more f g further other also h [] elements rest e = cc
step_more f g further other also h (b ∷ bs) elements rest e = elim (cases_Bool (b == 125)) [
  | inl t ↦ rw (t, elements_step) (rw (t, elements_step) at e)
  | inr n ↦ rw (n, elements_step)
      (then_more further other h (f b bs) (g b bs) (also b bs) elements rest (rw (n, elements_step) at e))
]

by_more : (f g : ℕ → List ℕ → Reading) → IsAlso f g → (counter : ℕ) (text : List ℕ)
    → EndsAlso (elements_by f counter text) (elements_by g counter text)
unfolding elements_by
by_more f g also zero text elements rest e = cc
by_more f g also (suc counter) text elements rest e =
    step_more f g (elements_by f counter) (elements_by g counter) also (by_more f g also counter)
    (behind_blank false text) elements rest e

sized_more : (tail other : Tail) → EndsAlso tail other → (token : Token) (rest : List ℕ)
    → sized_procedure tail ≡ token_then token rest → sized_procedure other ≡ token_then token rest
unfolding sized_procedure
sized_more (procedure_end es r) other h token rest e = ap sized_procedure (h es r refl) ∙ e
sized_more (procedure_fault fault) other h token rest e = cc

too_deep : (token : Token) (rest : List ℕ) → stuck limit_fault ≡ token_then token rest → ⊥
too_deep token rest e = cc

room_more : (room : ℕ) → IsAlso (token_here room) (token_here (suc room))
unfolding token_here
room_more zero b bs token rest e = elim (cases_Bool (b == 123)) [
  | inl t ↦ absurd (too_deep token rest (sym (cond-true _ _ _ t) ∙ e))
  | inr n ↦ rw (n, token_here) (sym (cond-false _ _ _ n) ∙ e)
]
room_more (suc room) b bs token rest e = elim (cases_Bool (b == 123)) [
  | inl t ↦ rw (t, token_here)
      (sized_more (elements_from (token_here room) bs) (elements_from (token_here (suc room)) bs)
      (by_more (token_here room) (token_here (suc room)) (room_more room) (suc (length bs)) bs) token rest
      (rw (t, token_here) at e))
  | inr n ↦ rw (n, token_here) (rw (n, token_here) at e)
]

-- as at the outermost
pub room_all : (gap room : ℕ) → gap + room ≡ 32 → IsAlso (token_here room) (token_here 32)
room_all zero room e b bs token rest h =
    let same : room ≡ 32 = omega (arith, e) in subst (λ r. token_here r b bs ≡ token_then token rest) same h
room_all (suc gap) room e b bs token rest h =
    room_all gap (suc room) (omega (arith, e)) b bs token rest (room_more room b bs token rest h)

-- ---- where a token begins

-- what is left of a text lies at its place
left_lies : (text : List ℕ) (at : ℕ) (front rest : List ℕ) → drop at text ≡ front ++ rest
    → drop (length text - length rest) text ≡ rest
left_lies text at front [] e = at_drop_all (λ x. x) text (length text - 0) (omega arith)
left_lies text at front (b ∷ bs) e =
    ap (λ n. drop n text) (size (length front) (length (b ∷ bs))
    (sym (length-append front (b ∷ bs)) ∙ ap length (sym e) ∙ length-drop at text) (omega arith))
    ∙ sym (drop-drop (length front) at text) ∙ ap (drop (length front)) e ∙ drop_at front (b ∷ bs) (length front) refl
  where
    size : (m n : ℕ) → m + n ≡ length text - at → 0 < n → length text - n ≡ at + m
    size m n h p = omega (arith, h, p)

pub blank_lies : (text : List ℕ) (at : ℕ) (left : List ℕ) → BehindBlank (drop at text) left
    → drop (length text - length left) text ≡ left
blank_lies text at [] h = at_drop_all (λ x. x) text (length text - 0) (omega arith)
blank_lies text at (b ∷ bs) h = left_lies text at h.1.0 (b ∷ bs) h.1.2

-- no blank is left behind a blank
pub still : (text left : List ℕ) → BehindBlank text left → behind_blank false left ≡ left
unfolding behind_blank
still text [] h = refl
still text (b ∷ bs) h = behind_none b bs h.0.0 h.0.1

-- the same token is read where it begins
pub begin_scan : (text : List ℕ) (at : ℕ) → scan text (token_begin text at) ≡ scan text at
unfolding token_begin scan
begin_scan text at =
    let left : List ℕ = behind_blank false (drop at text) in
    let sound : BehindBlank (drop at text) left = behind_sound (drop at text) in
    ap (λ x. text_scan (length text) (behind_blank false x)) (blank_lies text at left sound)
    ∙ ap (text_scan (length text)) (still (drop at text) left sound)

-- ---- the elements one behind another

fault_ends : (fault : ScanFault) (elements : Tokens) (rest : List ℕ) → procedure_fault fault ≡ procedure_end elements rest
    → ⊥
fault_ends fault elements rest e = cc

abbrev elements_of : Tail → Tokens
elements_of (procedure_end elements rest) = elements
elements_of (procedure_fault fault) = no_tokens

abbrev rest_of : Tail → List ℕ
rest_of (procedure_end elements rest) = rest
rest_of (procedure_fault fault) = []

stray_brace : (bs : List ℕ) → token_here 32 125 bs ≡ stuck syntax_fault
unfolding token_here simple_by start_of
stray_brace bs = refl

-- the tail behind a first token
first_ends : (token : Token) (tail : Tail) (elements : Tokens) (rest : List ℕ)
    → with_first token tail ≡ procedure_end elements rest
    → (es : Tokens) × (tail ≡ procedure_end es rest) × (more_tokens token es ≡ elements)
unfolding with_first
first_ends token (procedure_end es r) elements rest e =
    (es, ap (λ r. procedure_end es r) (ap rest_of e), ap elements_of e)
first_ends token (procedure_fault fault) elements rest e = absurd (fault_ends fault elements rest e)

scan_left : (text : List ℕ) (at b : ℕ) (bs : List ℕ) → b ∷ bs ≡ behind_blank false (drop at text)
    → scan text at ≡ as_scan (length text) (token_here 32 b bs)
unfolding scan text_scan
scan_left text at b bs e = ap (text_scan (length text)) (sym e)

scan_token : (text : List ℕ) (at b : ℕ) (bs : List ℕ) (token : Token) (rest : List ℕ)
    → b ∷ bs ≡ behind_blank false (drop at text) → token_here 32 b bs ≡ token_then token rest
    → scan text at ≡ found token (length text - length rest)
unfolding as_scan
scan_token text at b bs token rest e h = scan_left text at b bs e ∙ ap (as_scan (length text)) h

scan_stray : (text : List ℕ) (at b : ℕ) (bs : List ℕ) → b ∷ bs ≡ behind_blank false (drop at text) → b ≡ 125
    → scan text at ≡ faulty syntax_fault
unfolding as_scan
scan_stray text at b bs e t = scan_left text at b bs e
    ∙ ap (as_scan (length text)) (ap (λ x. token_here 32 x bs) t ∙ stray_brace bs)

-- what is left behind a token lies at its end
token_lies : (text : List ℕ) (at b : ℕ) (bs : List ℕ) (token : Token) (rest : List ℕ)
    → BehindBlank (drop at text) (b ∷ bs) → token_here 32 b bs ≡ token_then token rest
    → drop (length text - length rest) text ≡ rest
token_lies text at b bs token rest h e =
    let own = token_behind 32 (b ∷ bs) (token_then token rest)
    (subst (IsToken 32 (b ∷ bs)) e (token_sound 32 b bs h.0)) in
    left_lies text at (h.1.0 ++ own.0) rest
    (h.1.2 ∙ ap (λ x. h.1.0 ++ x) own.2 ∙ sym (append_assoc h.1.0 own.0 rest))

-- a token that is read at a place, where so many braces may still be opened
pub record IsWithin (room : ℕ) (text : List ℕ) (place : ℕ) (token : Token) : Type 0 where
  pub first : ℕ
  pub others : List ℕ
  pub rest : List ℕ
  pub here : drop place text ≡ first ∷ others
  pub blank : behind_blank false (first ∷ others) ≡ first ∷ others
  pub read : token_here room first others ≡ token_then token rest

abbrev StandsFrom : (room : ℕ) (text : List ℕ) (further : List ℕ → Tail) → Type 0
StandsFrom room text further = (next : ℕ) (elements : Tokens) (rest : List ℕ)
    → further (drop next text) ≡ procedure_end elements rest
    → Stand (IsWithin room text) (token_places text next) elements

stand_then : (room gap : ℕ) → gap + room ≡ 32 → (text : List ℕ) (at b : ℕ) (bs : List ℕ) (further : List ℕ → Tail)
    (reading : Reading) → token_here room b bs ≡ reading → BehindBlank (drop at text) (b ∷ bs)
    → b ∷ bs ≡ behind_blank false (drop at text) → StandsFrom room text further
    → (elements : Tokens) (rest : List ℕ) → then_elements further reading ≡ procedure_end elements rest
    → Stand (IsWithin room text) (token_places text at) elements
unfolding then_elements token_begin
stand_then room gap g text at b bs further (stuck fault) k h l stands elements rest e =
    absurd (fault_ends fault elements rest e)
stand_then room gap g text at b bs further (token_then token left) k h l stands elements rest e =
    let read : token_here 32 b bs ≡ token_then token left = room_all gap room g b bs token left k in
    let next : ℕ = length text - length left in
    let found_at : scan text at ≡ found token next = scan_token text at b bs token left l read in
    let more = first_ends token (further left) elements rest e in
    let tail : Stand (IsWithin room text) (token_places text next) more.0 =
    stands next more.0 rest (ap further (token_lies text at b bs token left h read) ∙ more.1) in
    let within : IsWithin room text (token_begin text at) token = record {
      first = b;
      others = bs;
      rest = left;
      here = ap (λ x. drop (length text - length x) text) (sym l) ∙ blank_lies text at (b ∷ bs) h;
      blank = still (drop at text) (b ∷ bs) h;
      read = k;
    } in
    subst (λ places. Stand (IsWithin room text) places elements) (sym (places_found text at token next found_at))
    (subst (Stand (IsWithin room text) (token_begin text at ∷ token_places text next)) more.2 (within, tail))

stand_left : (room gap : ℕ) → gap + room ≡ 32 → (text : List ℕ) (at : ℕ) (further : List ℕ → Tail) (left : List ℕ)
    → BehindBlank (drop at text) left → left ≡ behind_blank false (drop at text) → StandsFrom room text further
    → (elements : Tokens) (rest : List ℕ)
    → elements_step (token_here room) further left ≡ procedure_end elements rest
    → Stand (IsWithin room text) (token_places text at) elements
unfolding elements_step
stand_left room gap g text at further [] h l stands elements rest e =
    absurd (fault_ends syntax_fault elements rest e)
stand_left room gap g text at further (b ∷ bs) h l stands elements rest e = elim (cases_Bool (b == 125)) [
  | inl t ↦ subst (Stand (IsWithin room text) (token_places text at)) (ap elements_of (rw (t, elements_step) at e))
      (subst (λ places. Stand (IsWithin room text) places no_tokens)
      (sym (places_faulty text at syntax_fault (scan_stray text at b bs l (eqb-true b 125 t)))) tt)
  | inr n ↦ stand_then room gap g text at b bs further (token_here room b bs) refl h l stands elements rest
      (rw (n, elements_step) at e)
]

-- the elements of a procedure from a place in it on
pub stand_by : (room gap : ℕ) → gap + room ≡ 32 → (counter : ℕ) (text : List ℕ)
    → StandsFrom room text (elements_by (token_here room) counter)
unfolding elements_by
stand_by room gap g zero text at elements rest e = absurd (fault_ends syntax_fault elements rest e)
stand_by room gap g (suc counter) text at elements rest e =
    stand_left room gap g text at (elements_by (token_here room) counter) (behind_blank false (drop at text))
    (behind_sound (drop at text)) refl (stand_by room gap g counter text) elements rest e

-- what is read at a place is what the scan finds there
pub within_read : (room gap : ℕ) → gap + room ≡ 32 → (text : List ℕ) (place : ℕ) (token : Token)
    → IsWithin room text place token → IsReadAt text place token
within_read room gap g text place token w = (
  length text - length w.rest,
  scan_token text place w.first w.others token w.rest (sym w.blank ∙ ap (behind_blank false) (sym w.here))
      (room_all gap room g w.first w.others token w.rest w.read),
)

-- a relation that follows
pub stand_weaker : (P Q : ℕ → Token → Type 0) → ((place : ℕ) (token : Token) → P place token → Q place token)
    → (places : List ℕ) (elements : Tokens) → Stand P places elements → Stand Q places elements
stand_weaker P Q f [] no_tokens s = tt
stand_weaker P Q f [] (more_tokens _ _) s = absurd s
stand_weaker P Q f (place ∷ places) no_tokens s = absurd s
stand_weaker P Q f (place ∷ places) (more_tokens token tokens) s =
    (f place token s.0, stand_weaker P Q f places tokens s.1)

-- ---- a whole procedure

abbrev procedure_elements : Scan → Tokens
procedure_elements (found (procedure_token elements) end) = elements
procedure_elements scanned = no_tokens

pub not_found : (fault : ScanFault) (token : Token) (end : ℕ) → faulty fault ≡ found token end → ⊥
not_found fault token end e = cc

sized_ends : (size : ℕ) (tail : Tail) (elements : Tokens) (end : ℕ)
    → as_scan size (sized_procedure tail) ≡ found (procedure_token elements) end
    → (rest : List ℕ) × (tail ≡ procedure_end elements rest)
unfolding as_scan sized_procedure
sized_ends size (procedure_fault fault) elements end e = absurd (not_found fault (procedure_token elements) end e)
sized_ends size (procedure_end es rest) elements end e = elim (cases_Bool (nat_le (token_count es) 65535)) [
  | inl t ↦ (
    rest,
    ap (λ x. procedure_end x rest)
        (ap procedure_elements (sym (ap (as_scan size) (cond-true _ _ _ t)) ∙ e)),
  )
  | inr f ↦ absurd (not_found limit_fault (procedure_token elements) end
      (sym (ap (as_scan size) (cond-false _ _ _ f)) ∙ e))
]

brace_reads : (bs : List ℕ) → token_here 32 123 bs ≡ sized_procedure (elements_from (token_here 31) bs)
unfolding token_here
brace_reads bs = refl

brace_stays : (bs : List ℕ) → 123 ∷ bs ≡ behind_blank false (123 ∷ bs)
unfolding behind_blank
brace_stays bs = refl

-- the elements of a procedure that is read where its brace stands
pub procedure_stands : (text : List ℕ) (begin : ℕ) (elements : Tokens) (end : ℕ) → byte_at text begin ≡ 123
    → scan text begin ≡ found (procedure_token elements) end → StandAt text (token_places text (begin + 1)) elements
procedure_stands text begin elements end brace e = elim (cases_Bool (nat_lt begin (length text))) [
  | inl t ↦ inside (ltb-true begin (length text) t)
  | inr f ↦ absurd (no_brace (byte_at text begin) brace (get_or_past text begin 0 (ltb-false begin (length text) f)))
]
  where
    no_brace : (n : ℕ) → n ≡ 123 → n ≡ 0 → ⊥
    no_brace n e f = absurd (omega (arith, e, f))

    inside : begin < length text → StandAt text (token_places text (begin + 1)) elements
    inside below =
        let bs : List ℕ = drop (begin + 1) text in
        let here : drop begin text ≡ 123 ∷ bs = drop_more text begin 0 below ∙ ap (λ b. b ∷ bs) brace in
        let read = scan_left text begin 123 bs (brace_stays bs ∙ ap (behind_blank false) (sym here)) in
        let ends = sized_ends (length text) (elements_from (token_here 31) bs) elements end
        (ap (as_scan (length text)) (sym (brace_reads bs)) ∙ sym read ∙ e) in
        stand_weaker (IsWithin 31 text) (IsReadAt text) (within_read 31 1 refl text) (token_places text (begin + 1))
        elements (stand_by 31 1 refl (suc (length bs)) text (begin + 1) elements ends.0 ends.1)
