-- Tokens one behind another, and objects among those of several.
use Rattle.std.proofs.Common.{◌≡◌, refl, ap, sym, subst, ◌∙◌, ℕ, zero, suc, ◌+◌, ◌-◌, ◌<◌, ◌≤◌, List, [], ◌∷◌, ◌++◌}
use Rattle.std.proofs.Common.{length, min, max, false, Some, None, arith, append-nil}
use Rattle.std.specs.Prelude.{slice_get, Option}
use Rattle.std.specs.List.{flat_map}
use Rattle.std.specs.Option.{option_map_or}
use Rattle.std.proofs.lemmas.Grind.{flat_map-append}
use Rattle.std.proofs.lemmas.List.{length-append, at_drop_all}
use Rattle.ps_language.specs.Token.{Token, number_token, literal_name_token, executable_name_token}
use Rattle.ps_language.specs.Token.{immediate_name_token, string_token, procedure_token, ScanFault, Scan, found}
use Rattle.ps_language.specs.Token.{exhausted, faulty}
use Rattle.ps_language.specs.Scan.{behind_blank, scan}
use Rattle.ps_language.proofs.Places.{blank_end}
use Rattle.ps_language.proofs.ScanSteps.{EndsWithin, scan_within}
use Rattle.ps_scan.specs.Passed.{class_of, passed_by}
use Rattle.ps_scan.specs.declared.passes.Passed.{Passed}
use Rattle.ps_scan.specs.declared.passes.TokenClass.{TokenClass}
use Rattle.ps_scan.specs.declared.passes.TokenClass.TheVariants.{Number, Name, Text, Procedure}
use Rattle.ps_scan.proofs.ScannerForms.{scan_none}
use Rattle.ps_scan.specs.declared.tokens.Span.{Span}
use Rattle.ps_places.specs.Positions.{line_begin, line_end, line_in}
use Rattle.ps_places.specs.Tokens.{token_begin, end_or, mark_in}
use Rattle.ps_places.specs.Objects.{then_places, token_places_by, token_places, elements_in, with_own}
use Rattle.ps_places.specs.Objects.{objects_at}

-- ---- what was passed over

pub past_end : (text : List ℕ) (at : ℕ) → length text ≤ at → scan text at ≡ exhausted
past_end text at above = scan_none text at at (at_drop_all (λ x. x) text at above ∙ sym (blank_end false text at above))
    above

pub end_passed : (at : ℕ) (scanned : Scan) (passed : Passed) → Some passed ≡ passed_by scanned
    → end_or at scanned ≡ passed.end
end_passed at (found token end) passed e = ap (λ o. option_map_or (λ (p : Passed). p.end) o at) (sym e)
end_passed at exhausted passed e = cc
end_passed at (faulty fault) passed e = cc

pub end_none : (at : ℕ) (scanned : Scan) → None ≡ passed_by scanned → end_or at scanned ≡ at
end_none at (found token end) e = cc
end_none at exhausted e = refl
end_none at (faulty fault) e = refl

-- ---- tokens one behind another

-- the same further places give the same
then_same : (f g : ℕ → List ℕ) (begin : ℕ) (scanned : Scan)
    → ((token : Token) (end : ℕ) → scanned ≡ found token end → f end ≡ g end)
    → then_places f begin scanned ≡ then_places g begin scanned
then_same f g begin (found token end) h = ap (λ further. begin ∷ further) (h token end refl)
then_same f g begin exhausted h = refl
then_same f g begin (faulty fault) h = refl

found_within : (text : List ℕ) (at : ℕ) (token : Token) (end : ℕ) → scan text at ≡ found token end
    → (at < end) × (end ≤ length text)
found_within text at token end e = subst (EndsWithin text at) e (scan_within text at)

-- any counter above the number of bytes left gives the same
places_any : (first second : ℕ) (text : List ℕ) (at : ℕ) → length text - at < first → length text - at < second
    → token_places_by first text at ≡ token_places_by second text at
unfolding token_places_by
places_any zero second text at h k = absurd (omega (arith, h))
places_any (suc first) zero text at h k = absurd (omega (arith, k))
places_any (suc first) (suc second) text at h k =
    then_same (token_places_by first text) (token_places_by second text) (token_begin text at) (scan text at)
    (λ token end e. let w : (at < end) × (end ≤ length text) = found_within text at token end e in
    places_any first second text end (omega (arith, h, w.0, w.1)) (omega (arith, k, w.0, w.1)))

places_step : (text : List ℕ) (at : ℕ)
    → token_places text at ≡ then_places (token_places text) (token_begin text at) (scan text at)
unfolding token_places token_places_by
places_step text at =
    then_same (token_places_by (length text) text) (token_places text) (token_begin text at) (scan text at)
    (λ token end e. let w : (at < end) × (end ≤ length text) = found_within text at token end e in
    places_any (length text) (suc (length text)) text end (omega (arith, w.0, w.1)) (omega arith))

then_passed : (further : ℕ → List ℕ) (begin : ℕ) (scanned : Scan) (passed : Passed) → Some passed ≡ passed_by scanned
    → then_places further begin scanned ≡ begin ∷ further passed.end
then_passed further begin (found token end) passed e =
    ap (λ o. option_map_or (λ (p : Passed). begin ∷ further p.end) o []) (sym e)
then_passed further begin exhausted passed e = cc
then_passed further begin (faulty fault) passed e = cc

then_stopped : (further : ℕ → List ℕ) (begin : ℕ) (scanned : Scan) → None ≡ passed_by scanned
    → then_places further begin scanned ≡ []
then_stopped further begin (found token end) e = cc
then_stopped further begin exhausted e = refl
then_stopped further begin (faulty fault) e = refl

pub places_passed : (text : List ℕ) (at : ℕ) (passed : Passed) → Some passed ≡ passed_by (scan text at)
    → token_places text at ≡ token_begin text at ∷ token_places text passed.end
places_passed text at passed e =
    places_step text at ∙ then_passed (token_places text) (token_begin text at) (scan text at) passed e

pub places_stopped : (text : List ℕ) (at : ℕ) → None ≡ passed_by (scan text at) → token_places text at ≡ []
places_stopped text at e =
    places_step text at ∙ then_stopped (token_places text) (token_begin text at) (scan text at) e

-- by the scan itself
pub places_found : (text : List ℕ) (at : ℕ) (token : Token) (end : ℕ) → scan text at ≡ found token end
    → token_places text at ≡ token_begin text at ∷ token_places text end
places_found text at token end e = places_step text at
    ∙ ap (then_places (token_places text) (token_begin text at)) e

pub places_faulty : (text : List ℕ) (at : ℕ) (fault : ScanFault) → scan text at ≡ faulty fault → token_places text at ≡ []
places_faulty text at fault e = places_step text at ∙ ap (then_places (token_places text) (token_begin text at)) e

-- the one behind the first
pub get_more : (first : ℕ) (rest : List ℕ) (left : ℕ) → (left ≡ 0 → ⊥)
    → slice_get (first ∷ rest) left ≡ slice_get rest (left - 1)
get_more first rest zero n = absurd (n refl)
get_more first rest (suc left) n =
    let same : suc left - 1 ≡ left = omega arith in rw same refl

-- ---- what a token makes, by its class

abbrev pub own_by : TokenClass → (inner : List ℕ) (begin : ℕ) → List ℕ
own_by (Number n) inner begin = []
own_by Name inner begin = []
own_by Text inner begin = inner ++ begin ∷ []
own_by Procedure inner begin = inner ++ begin ∷ []

abbrev pub elements_by : TokenClass → (text : List ℕ) (begin : ℕ) → List ℕ
elements_by (Number n) text begin = []
elements_by Name text begin = []
elements_by Text text begin = []
elements_by Procedure text begin = token_places text (begin + 1)

own_token : (inner : List ℕ) (begin : ℕ) (token : Token) (end : ℕ)
    → with_own inner begin (found token end) ≡ own_by (class_of token) inner begin
own_token inner begin (number_token n) end = refl
own_token inner begin (literal_name_token n) end = refl
own_token inner begin (executable_name_token n) end = refl
own_token inner begin (immediate_name_token n) end = refl
own_token inner begin (string_token n) end = refl
own_token inner begin (procedure_token n) end = refl

elements_token : (text : List ℕ) (begin : ℕ) (token : Token) (end : ℕ)
    → elements_in text begin (found token end) ≡ elements_by (class_of token) text begin
elements_token text begin (number_token n) end = refl
elements_token text begin (literal_name_token n) end = refl
elements_token text begin (executable_name_token n) end = refl
elements_token text begin (immediate_name_token n) end = refl
elements_token text begin (string_token n) end = refl
elements_token text begin (procedure_token n) end = refl

own_passed : (inner : List ℕ) (begin : ℕ) (scanned : Scan) (passed : Passed) → Some passed ≡ passed_by scanned
    → with_own inner begin scanned ≡ own_by passed.class inner begin
own_passed inner begin (found token end) passed e = own_token inner begin token end
    ∙ ap (λ o. option_map_or (λ (p : Passed). own_by p.class inner begin) o []) (sym e)
own_passed inner begin exhausted passed e = cc
own_passed inner begin (faulty fault) passed e = cc

elements_passed : (text : List ℕ) (begin : ℕ) (scanned : Scan) (passed : Passed) → Some passed ≡ passed_by scanned
    → elements_in text begin scanned ≡ elements_by passed.class text begin
elements_passed text begin (found token end) passed e = elements_token text begin token end
    ∙ ap (λ o. option_map_or (λ (p : Passed). elements_by p.class text begin) o []) (sym e)
elements_passed text begin exhausted passed e = cc
elements_passed text begin (faulty fault) passed e = cc

pub own_none : (inner : List ℕ) (begin : ℕ) (scanned : Scan) → None ≡ passed_by scanned
    → with_own inner begin scanned ≡ []
own_none inner begin (found token end) e = cc
own_none inner begin exhausted e = refl
own_none inner begin (faulty fault) e = refl

pub elements_none : (text : List ℕ) (begin : ℕ) (scanned : Scan) → None ≡ passed_by scanned
    → elements_in text begin scanned ≡ []
elements_none text begin (found token end) e = cc
elements_none text begin exhausted e = refl
elements_none text begin (faulty fault) e = refl

-- the same, where the class is known
pub elements_class : (text : List ℕ) (begin : ℕ) (scanned : Scan) (passed : Passed) (class : TokenClass)
    → Some passed ≡ passed_by scanned → passed.class ≡ class
    → elements_in text begin scanned ≡ elements_by class text begin
elements_class text begin scanned passed class e is = elements_passed text begin scanned passed e
    ∙ ap (λ c. elements_by c text begin) is

pub own_class : (inner : List ℕ) (begin : ℕ) (scanned : Scan) (passed : Passed) (class : TokenClass)
    → Some passed ≡ passed_by scanned → passed.class ≡ class
    → with_own inner begin scanned ≡ own_by class inner begin
own_class inner begin scanned passed class e is = own_passed inner begin scanned passed e
    ∙ ap (λ c. own_by c inner begin) is

-- ---- the objects of a token, and of several

pub no_objects : (text : List ℕ) (begin room : ℕ) → room ≡ 0 → objects_at room text begin ≡ []
unfolding objects_at
no_objects text begin room e = ap (λ r. objects_at r text begin) e

objects_step : (text : List ℕ) (begin room : ℕ) → (room ≡ 0 → ⊥)
    → objects_at room text begin
    ≡ with_own (flat_map (objects_at (room - 1) text) (elements_in text begin (scan text begin))) begin (scan text begin)
unfolding objects_at
objects_step text begin zero n = absurd (n refl)
objects_step text begin (suc room) n = let same : suc room - 1 ≡ room = omega arith in rw same refl

pub objects_none : (text : List ℕ) (begin room : ℕ) → (room ≡ 0 → ⊥) → None ≡ passed_by (scan text begin)
    → objects_at room text begin ≡ []
objects_none text begin room n e = objects_step text begin room n ∙ own_none _ begin (scan text begin) e

pub objects_class : (text : List ℕ) (begin room : ℕ) (passed : Passed) (class : TokenClass) → (room ≡ 0 → ⊥)
    → Some passed ≡ passed_by (scan text begin) → passed.class ≡ class
    → objects_at room text begin
    ≡ own_by class (flat_map (objects_at (room - 1) text) (elements_by class text begin)) begin
objects_class text begin room passed class n e is = objects_step text begin room n
    ∙ own_class _ begin (scan text begin) passed class e is
    ∙ ap (λ es. own_by class (flat_map (objects_at (room - 1) text) es) begin)
    (elements_class text begin (scan text begin) passed class e is)

-- nothing was there
pub behind_none : (objects : List ℕ) (number : ℕ) → objects ≡ [] → number ≡ length objects + number
behind_none objects number e = omega (arith, ap length e)

pub get_front : (front behind : List ℕ) (i x : ℕ) → slice_get front i ≡ Some x → slice_get (front ++ behind) i ≡ Some x
get_front [] behind i x e = cc
get_front (first ∷ front) behind zero x e = e
get_front (first ∷ front) behind (suc i) x e = get_front front behind i x e

pub get_behind : (front behind : List ℕ) (number left : ℕ) → number ≡ length front + left
    → slice_get (front ++ behind) number ≡ slice_get behind left
get_behind [] behind number left e = ap (slice_get behind) (omega (arith, e))
get_behind (first ∷ front) behind zero left e = absurd (omega (arith, e))
get_behind (first ∷ front) behind (suc number) left e = get_behind front behind number left (omega (arith, e))

pub within_more : (f : ℕ → List ℕ) (front : List ℕ) (here number left further : ℕ)
    → number ≡ length (flat_map f front) + left → left ≡ length (f here) + further
    → number ≡ length (flat_map f (front ++ here ∷ [])) + further
within_more f front here number left further e g =
    omega (
      arith,
      e,
      g,
      ap length (flat_map-append f front (here ∷ [])),
      length-append (flat_map f front) (f here ++ []),
      ap length (append-nil (f here)),
    )

pub within_found : (f : ℕ → List ℕ) (all front rest : List ℕ) (here number left object : ℕ)
    → all ≡ front ++ here ∷ rest → number ≡ length (flat_map f front) + left → slice_get (f here) left ≡ Some object
    → slice_get (flat_map f all) number ≡ Some object
within_found f all front rest here number left object e n g =
    ap (λ places. slice_get (flat_map f places) number) e
    ∙ ap (λ objects. slice_get objects number) (flat_map-append f front (here ∷ rest))
    ∙ get_behind (flat_map f front) (f here ++ flat_map f rest) number left n
    ∙ get_front (f here) (flat_map f rest) left object g

pub none_of : (o : Option Passed) → ((x : Passed) → o ≡ Some x → ⊥) → None ≡ o
none_of None n = refl
none_of (Some x) n = absurd (n x refl)

-- ---- what is marked

clamped : (n m : ℕ) → min (min n m) m ≡ min n m
clamped n m = omega arith

pub marked : (text : List ℕ) (offset start : ℕ) (line : Span) (token low end : ℕ) → start ≡ min offset (length text)
    → line ≡ line_in text start → token ≡ end_or start (scan text start) → low ≡ min token line.end
    → end ≡ max low (start + 1) → record { start = start; end = end } ≡ mark_in text offset
unfolding mark_in line_in
marked text offset start line token low end s l t m e =
    let same : line ≡ line_in text offset = l ∙ ap (line_in text) s
    ∙ ap (λ n. let b : ℕ = line_begin text n in record { start = b; end = line_end text b }) (clamped offset (length text)) in
    cc

pub front_more : (front : List ℕ) (here : ℕ) (rest : List ℕ) → front ++ (here ∷ rest) ≡ (front ++ here ∷ []) ++ rest
front_more [] here rest = refl
front_more (first ∷ front) here rest = ap (λ l. first ∷ l) (front_more front here rest)

pub within_all : (f : ℕ → List ℕ) (all front rest : List ℕ) (number left : ℕ) → all ≡ front ++ rest → rest ≡ []
    → number ≡ length (flat_map f front) + left → number ≡ length (flat_map f all) + left
within_all f all front rest number left e r n =
    n ∙ ap (λ places. length (flat_map f places) + left)
    (sym (e ∙ ap (λ x. front ++ x) r ∙ append-nil front))
