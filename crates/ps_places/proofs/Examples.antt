-- What the definitions say of places, by examples that a near neighbour of theirs fails.
use Rattle.std.proofs.Common.{◌≡◌, refl, ℕ, List, [], ◌∷◌, ◌++◌, Some, None}
use Rattle.std.specs.Prelude.{codes}
use Rattle.ps_language.specs.Bytes.{value_in}
use Rattle.ps_language.specs.Reading.{with_front, with_first, token_count, sized_name, sized_string, string_reading}
use Rattle.ps_language.specs.Reading.{sized_procedure, fits_integer, as_signed, word_reading, pairs}
use Rattle.ps_language.specs.Scan.{leading, beyond, behind_blank, is_signed, unsigned, is_negative, signed_value}
use Rattle.ps_language.specs.Scan.{are_digits, is_exponent, is_real_tail, are_radix_digits, word_by, word_of}
use Rattle.ps_language.specs.Scan.{after_return, octal_front, octal_rest, escape_of, escape_front, escape_rest, mark_of}
use Rattle.ps_language.specs.Scan.{string_close, string_escape, string_step, string_body, hex_reading, start_of}
use Rattle.ps_language.specs.Scan.{after_hex_start, after_angle, after_slash, simple_by, then_elements, elements_step}
use Rattle.ps_language.specs.Scan.{elements_by, token_here, as_scan, text_scan, scan}
use Rattle.ps_places.specs.Positions.{position_in, line_end, line_in}
use Rattle.ps_places.specs.Tokens.{token_begin, mark_in}
use Rattle.ps_places.specs.Objects.{token_places_by, token_places, objects_at, object_begin, element_begin}
use Rattle.ps_places.specs.declared.origins.Origin.{Origin}
use Rattle.ps_places.specs.Origins.{origin_in}

-- ---- lines and columns

-- a\r\nb
returned : List ℕ
returned = 97 ∷ 13 ∷ 10 ∷ 98 ∷ []

-- a carriage return and a line feed are one end
one_end : position_in returned 3 ≡ record { line = 2; column = 1 }
unfolding position_in returned
one_end = refl

-- which isn't over between the two
within_end : position_in returned 2 ≡ record { line = 1; column = 3 }
unfolding position_in returned
within_end = refl

-- the end belongs to its line
at_end : position_in returned 1 ≡ record { line = 1; column = 2 }
unfolding position_in returned
at_end = refl

-- a line feed and a carriage return are two
two_ends : position_in (97 ∷ 10 ∷ 13 ∷ 98 ∷ []) 3 ≡ record { line = 3; column = 1 }
unfolding position_in
two_ends = refl

-- past the end
past_end : position_in returned 9 ≡ record { line = 2; column = 2 }
unfolding position_in returned
past_end = refl

-- behind a last line end there is a line
behind_end : position_in (97 ∷ 10 ∷ []) 2 ≡ record { line = 2; column = 1 }
unfolding position_in
behind_end = refl

-- a line has none of its end, from wherever in it it is asked for
line_of_end : line_in returned 2 ≡ record { start = 0; end = 1 }
unfolding line_in line_end leading returned
line_of_end = refl

last_line : line_in returned 3 ≡ record { start = 3; end = 4 }
unfolding line_in line_end leading returned
last_line = refl

-- ---- tokens

-- behind white space and a comment, though it has a brace
behind_comment : token_begin (codes " %{" ++ 10 ∷ codes "x") 0 ≡ 4
unfolding token_begin behind_blank
behind_comment = refl

-- none is left
none_left : token_begin (codes "x % y") 1 ≡ 5
unfolding token_begin behind_blank
none_left = refl

-- what the places are computed with
marks : List ℕ → ℕ → ℕ
unfolding leading beyond behind_blank is_signed unsigned is_negative signed_value are_digits is_exponent is_real_tail
    are_radix_digits word_by word_of after_return octal_front octal_rest escape_of escape_front escape_rest mark_of
    string_close string_escape string_step string_body string_reading hex_reading start_of after_hex_start
    after_angle after_slash simple_by then_elements elements_step elements_by token_here as_scan text_scan scan
    with_front with_first token_count sized_name sized_string sized_procedure fits_integer as_signed
    word_reading pairs value_in line_end line_in mark_in token_begin token_places_by token_places objects_at
    object_begin element_begin
marks text at = (mark_in text at).end

-- a token
marked_name : mark_in (codes "ab cde f") 3 ≡ record { start = 3; end = 6 }
unfolding marks
marked_name = refl

-- a string of two lines, up to the end of its first
marked_string : mark_in (codes "(a" ++ 13 ∷ 10 ∷ codes "b) c") 0 ≡ record { start = 0; end = 2 }
unfolding marks
marked_string = refl

-- what can't be read is one byte
marked_brace : mark_in (codes "ab {cde") 3 ≡ record { start = 3; end = 4 }
unfolding marks
marked_brace = refl

-- nor is it less at the end
marked_end : mark_in (codes "ab") 2 ≡ record { start = 2; end = 3 }
unfolding marks
marked_end = refl

-- ---- objects

-- an inner object is born before an outer one, and the left before the right
births : List ℕ
births = codes "{(a) {b <41>} << {}}"

inner_first : objects_at 33 births 0 ≡ 1 ∷ 8 ∷ 5 ∷ 17 ∷ 0 ∷ []
unfolding marks births
inner_first = refl

-- the last is the token's own
own_last : object_begin births 0 4 ≡ Some 0
unfolding marks births
own_last = refl

no_more : object_begin births 0 5 ≡ None
unfolding marks births
no_more = refl

-- a name and what can't be read make none
name_makes_none : object_begin (codes "a") 0 0 ≡ None
unfolding marks
name_makes_none = refl

broken_makes_none : object_begin (codes "{(a)") 0 0 ≡ None
unfolding marks
broken_makes_none = refl

-- elements are counted in their own procedure: the second one of the inner, the third of the outer
inner_element : element_begin births 0 2 1 ≡ Some 8
unfolding marks births
inner_element = refl

outer_element : element_begin births 0 4 2 ≡ Some 14
unfolding marks births
outer_element = refl

-- a procedure ends at its closing brace, and a string has no elements
no_element : element_begin births 0 4 4 ≡ None
unfolding marks births
no_element = refl

string_without : element_begin births 0 0 0 ≡ None
unfolding marks births
string_without = refl

-- ---- origins

-- objects 7 to 9 of one token, and from 10 on of another
origins : List Origin
origins = record { birth = 7; begin = 3 } ∷ record { birth = 10; begin = 8 } ∷ []

before_first : origin_in 6 origins ≡ None
unfolding origins
before_first = refl

first_object : origin_in 7 origins ≡ Some (record { birth = 7; begin = 3 })
unfolding origins
first_object = refl

later_object : origin_in 9 origins ≡ Some (record { birth = 7; begin = 3 })
unfolding origins
later_object = refl

next_token : origin_in 10 origins ≡ Some (record { birth = 10; begin = 8 })
unfolding origins
next_token = refl
