-- The elements of a procedure one by one.
use Rattle.std.proofs.Common.{◌≡◌, refl, sym, ap, ◌∙◌, ℕ, zero, suc, ◌+◌, ◌-◌, ◌<◌, ◌≤◌, false, List, [], ◌∷◌, ◌++◌}
use Rattle.std.proofs.Common.{length, drop, map, arith}
use Rattle.std.proofs.lemmas.Bool.{ne_eqb, eq-eqb, le-leb, lt-leb, lt-ltb, cond-true, cond-false, true≢false}
use Rattle.std.proofs.lemmas.List.{at_drop_more, at_drop_all, length-map, map-append}
use Rattle.ps_language.specs.Token.{Token, no_tokens, procedure_token, ScanFault, syntax_fault, limit_fault}
use Rattle.ps_language.specs.Reading.{token_then, stuck, Tail, procedure_end, procedure_fault, with_first}
use Rattle.ps_language.specs.Reading.{sized_procedure, token_count}
use Rattle.ps_language.specs.Scan.{behind_blank, then_elements, elements_step, elements_from, token_here}
use Rattle.ps_language.proofs.Places.{byte_at, blank_end}
use Rattle.ps_language.proofs.ScanSteps.{elements_from_step}
use Rattle.ps_scan.specs.Shown.{IsStuckBy, elements_in, token_at, simple_at}
use Rattle.ps_scan.specs.declared.tokens.ScanFault as declared
use Rattle.ps_scan.specs.declared.tokens.ScanFault.TheVariants.{Syntax, Limit, Memory}
use Rattle.std.specs.Prelude.{Result, Ok, Err, OnOk, nat_lt, if◌then◌else◌}
use Rattle.std.specs.Result.{is_err}

-- the end of a procedure with these elements in front
abbrev pub with_all : List Token → Tail → Tail
with_all [] tail = tail
with_all (token ∷ tokens) tail = with_first token (with_all tokens tail)

pub all_more : (front : List Token) (token : Token) (tail : Tail)
    → with_all (front ++ token ∷ []) tail ≡ with_all front (with_first token tail)
all_more [] token tail = refl
all_more (first ∷ front) token tail = ap (with_first first) (all_more front token tail)

pub all_end : (front : List Token) (rest : List ℕ)
    → with_all front (procedure_end no_tokens rest) ≡ procedure_end (elements_in front) rest
unfolding with_first
all_end [] rest = refl
all_end (first ∷ front) rest = ap (with_first first) (all_end front rest)

pub all_fault : (front : List Token) (fault : ScanFault)
    → with_all front (procedure_fault fault) ≡ procedure_fault fault
unfolding with_first
all_fault [] fault = refl
all_fault (first ∷ front) fault = ap (with_first first) (all_fault front fault)

pub count-elements : (front : List Token) → token_count (elements_in front) ≡ length front
unfolding token_count
count-elements [] = refl
count-elements (first ∷ front) = omega (arith, count-elements front)

-- ---- what stands behind white space and comments

abbrev pub elements_at : (room : ℕ) (xs : List ℕ) (place : ℕ) → Tail
elements_at room xs place = elements_from (token_here room) (drop place xs)

-- the step at the place behind the blank
step_at : (room : ℕ) (xs : List ℕ) (place here : ℕ) → drop here xs ≡ behind_blank false (drop place xs)
    → elements_at room xs place ≡ elements_step (token_here room) (elements_from (token_here room)) (drop here xs)
step_at room xs place here e = elements_from_step room (drop place xs)
    ∙ ap (elements_step (token_here room) (elements_from (token_here room))) (sym e)

pub missing_brace : (room : ℕ) (xs : List ℕ) (place here : ℕ) → drop here xs ≡ behind_blank false (drop place xs)
    → length xs ≤ here → elements_at room xs place ≡ procedure_fault syntax_fault
unfolding elements_step
missing_brace room xs place here e above = step_at room xs place here e
    ∙ at_drop_all (elements_step (token_here room) (elements_from (token_here room))) xs here above

pub closing_brace : (room : ℕ) (xs : List ℕ) (place here : ℕ) → drop here xs ≡ behind_blank false (drop place xs)
    → here < length xs → byte_at xs here ≡ 125 → elements_at room xs place
    ≡ procedure_end no_tokens (drop (here + 1) xs)
unfolding elements_step
closing_brace room xs place here e below f = step_at room xs place here e
    ∙ at_drop_more (elements_step (token_here room) (elements_from (token_here room))) xs here 0 below
    ∙ rw (eq-eqb (byte_at xs here) 125 f, elements_step) refl

at_element : (room : ℕ) (xs : List ℕ) (place here : ℕ) → drop here xs ≡ behind_blank false (drop place xs)
    → here < length xs → (byte_at xs here ≡ 125 → ⊥)
    → elements_at room xs place ≡ then_elements (elements_from (token_here room)) (token_at room xs here)
unfolding elements_step
at_element room xs place here e below n = step_at room xs place here e
    ∙ at_drop_more (elements_step (token_here room) (elements_from (token_here room))) xs here 0 below
    ∙ rw (ne_eqb (byte_at xs here) 125 n, elements_step) refl

pub one_element : (room : ℕ) (xs : List ℕ) (place here end : ℕ) (token : Token)
    → drop here xs ≡ behind_blank false (drop place xs) → here < length xs → (byte_at xs here ≡ 125 → ⊥)
    → token_at room xs here ≡ token_then token (drop end xs)
    → elements_at room xs place ≡ with_first token (elements_at room xs end)
unfolding then_elements
one_element room xs place here end token e below n f = at_element room xs place here e below n
    ∙ ap (then_elements (elements_from (token_here room))) f

pub faulty_element : (room : ℕ) (xs : List ℕ) (place here : ℕ) (fault : ScanFault)
    → drop here xs ≡ behind_blank false (drop place xs) → here < length xs → (byte_at xs here ≡ 125 → ⊥)
    → token_at room xs here ≡ stuck fault
    → elements_at room xs place ≡ procedure_fault fault
unfolding then_elements
faulty_element room xs place here fault e below n f = at_element room xs place here e below n
    ∙ ap (then_elements (elements_from (token_here room))) f

-- ---- the whole procedure

pub enclosed_fault : (whole : Tail) (front : List Token) (rest : Tail) (fault : ScanFault) → with_all front rest ≡ whole
    → rest ≡ procedure_fault fault → sized_procedure whole ≡ stuck fault
unfolding sized_procedure
enclosed_fault whole front rest fault e f = ap sized_procedure (sym e ∙ ap (with_all front) f ∙ all_fault front fault)

pub enclosed_short : (whole : Tail) (front : List Token) (tail : Tail) (rest : List ℕ) → with_all front tail ≡ whole
    → tail ≡ procedure_end no_tokens rest → length front ≤ 65535
    → sized_procedure whole ≡ token_then (procedure_token (elements_in front)) rest
unfolding sized_procedure
enclosed_short whole front tail rest e f h = ap sized_procedure (sym e ∙ ap (with_all front) f ∙ all_end front rest)
    ∙ cond-true _ _ _ (le-leb (token_count (elements_in front)) 65535 (omega (arith, count-elements front, h)))

pub enclosed_long : (whole : Tail) (front : List Token) (tail : Tail) (rest : List ℕ) → with_all front tail ≡ whole
    → tail ≡ procedure_end no_tokens rest → 65535 < length front → sized_procedure whole ≡ stuck limit_fault
unfolding sized_procedure
enclosed_long whole front tail rest e f h = ap sized_procedure (sym e ∙ ap (with_all front) f ∙ all_end front rest)
    ∙ cond-false _ _ _ (lt-leb (token_count (elements_in front)) 65535 (omega (arith, count-elements front, h)))

-- a faulty element in a procedure
pub faulty_answer : (room : ℕ) (xs : List ℕ) (place here : ℕ) (known other : Type 0) (front : List Token) (whole : Tail)
    (fault : declared.ScanFault) → (known → other) → drop here xs ≡ behind_blank false (drop place xs)
    → here < length xs → (byte_at xs here ≡ 125 → ⊥)
    → with_all front (elements_at room xs place) ≡ whole → IsStuckBy known (token_at room xs here) fault
    → IsStuckBy other (sized_procedure whole) fault
faulty_answer room xs place here known other front whole Syntax more e below n w h =
    enclosed_fault whole front (elements_at room xs place) syntax_fault w
    (faulty_element room xs place here syntax_fault e below n h)
faulty_answer room xs place here known other front whole Limit more e below n w h =
    enclosed_fault whole front (elements_at room xs place) limit_fault w
    (faulty_element room xs place here limit_fault e below n h)
faulty_answer room xs place here known other front whole Memory more e below n w h = more h

-- nothing is left
pub nothing_left : (room : ℕ) (xs : List ℕ) (place : ℕ) → length xs ≤ place
    → elements_at room xs place ≡ procedure_fault syntax_fault
unfolding elements_step
nothing_left room xs place above = elements_from_step room (drop place xs)
    ∙ ap (elements_step (token_here room) (elements_from (token_here room))) (blank_end false xs place above)

-- ---- a token by its first byte

pub brace_at : (room : ℕ) (xs : List ℕ) (at : ℕ) → (room ≡ 0 → ⊥) → byte_at xs at ≡ 123
    → token_at room xs at ≡ sized_procedure (elements_at (room - 1) xs (at + 1))
unfolding token_here
brace_at zero xs at n e = absurd (n refl)
brace_at (suc room) xs at n e = ap (λ b. token_here (suc room) b (drop (at + 1) xs)) e
    ∙ ap (λ r. sized_procedure (elements_at r xs (at + 1))) same
  where
    same : room ≡ suc room - 1
    same = omega arith

pub deep_brace_at : (room : ℕ) (xs : List ℕ) (at : ℕ) → room ≡ 0 → byte_at xs at ≡ 123
    → token_at room xs at ≡ stuck limit_fault
unfolding token_here
deep_brace_at room xs at z e = ap (λ r. token_at r xs at) z ∙ ap (λ b. token_here 0 b (drop (at + 1) xs)) e

pub no_brace_at : (room : ℕ) (xs : List ℕ) (at : ℕ) → (byte_at xs at ≡ 123 → ⊥) → token_at room xs at ≡ simple_at xs at
unfolding token_here
no_brace_at zero xs at n = cond-false _ _ _ (ne_eqb (byte_at xs at) 123 n)
no_brace_at (suc room) xs at n = rw (ne_eqb (byte_at xs at) 123 n, token_here) refl

-- ---- what is kept

pub on_ok : {T E : Type 0} (answer : Result T E) (P : Type 0) → is_err answer ≡ false → OnOk answer P → P
on_ok (Ok x) P e h = h
on_ok (Err x) P e h = absurd (true≢false e)

-- one more element is kept, up to the limit
pub kept_more : {K : Type 0} (f : K → Token) (front : List Token) (items more : List K) (kind : K) (count : ℕ)
    → length front ≡ count → front ≡ map f items → count + 1 ≤ 65535
    → more ≡ (if nat_lt (length items) 65535 then items ++ kind ∷ [] else items) → front ++ f kind ∷ [] ≡ map f more
kept_more f front items more kind count n e few m =
    let size : length items ≡ length front = sym (ap length e ∙ length-map items f) in
    ap (λ x. x ++ f kind ∷ []) e ∙ sym (map-append f items (kind ∷ []))
    ∙ ap (map f) (sym (m ∙ cond-true _ _ _ (lt-ltb (length items) 65535 (omega (arith, size, n, few)))))
