-- What the text of an error's place is, by examples that a near neighbour of the definition fails.
use Rattle.std.proofs.Common.{◌≡◌, refl, [], ◌∷◌, ◌++◌}
use Rattle.std.specs.Prelude.{codes}
use Rattle.std.specs.Fmt.{decimal}
use Rattle.ps_views.specs.declared.bytes.Showing.TheVariants.{Word, Source, Blank}
use Rattle.ps_views.specs.Bytes.{shown_byte}
use Rattle.ps_views.specs.Sources.{window_begin, window_bytes, window_mark, is_cut_before, is_cut_behind, source_text}
use Rattle.ps_views.specs.Places.{times_text, more_text}

-- ---- bytes

-- an escape never reaches the terminal, nor does what isn't ASCII
escape_hidden : shown_byte Word 27 ≡ 63
escape_hidden = refl

delete_hidden : shown_byte Source 127 ≡ 63
delete_hidden = refl

high_hidden : shown_byte Source 155 ≡ 63
high_hidden = refl

-- a tab stays in the source and below it, and in no name
tab_stays : shown_byte Source 9 ≡ 9
tab_stays = refl

tab_below : shown_byte Blank 9 ≡ 9
tab_below = refl

tab_in_name : shown_byte Word 9 ≡ 63
tab_in_name = refl

-- ---- the source

-- the mark stands below its token, behind the tab
marked : source_text (9 ∷ codes "add half") 1 3
    ≡ codes "    " ++ (9 ∷ codes "add half\n    ") ++ (9 ∷ codes "^^^\n")
unfolding source_text window_begin window_bytes window_mark is_cut_before is_cut_behind
marked = refl

-- a mark doesn't go past its line
short_mark : source_text (codes "ab (c") 3 9 ≡ codes "    ab (c\n       ^^\n"
unfolding source_text window_begin window_bytes window_mark is_cut_before is_cut_behind
short_mark = refl

-- and is never empty
least_mark : source_text [] 0 0 ≡ codes "    \n    ^\n"
unfolding source_text window_begin window_bytes window_mark is_cut_before is_cut_behind
least_mark = refl

-- a line of 160 bytes is shown whole
whole_line : window_begin 160 159 ≡ 0
unfolding window_begin
whole_line = refl

-- a longer one from 80 bytes before the place, or its last 160 bytes
cut_line : window_begin 1000 500 ≡ 420
unfolding window_begin
cut_line = refl

cut_end : window_begin 1000 999 ≡ 840
unfolding window_begin
cut_end = refl

cut_begin : window_begin 161 80 ≡ 0
unfolding window_begin
cut_begin = refl

-- ---- callers

-- once needs no word
once : times_text 1 ≡ []
once = refl

twice : times_text 2 ≡ codes ", " ++ (decimal 2 ++ codes " times")
twice = refl

-- ten are told, and the eleventh is one more
none_more : more_text 0 ≡ []
none_more = refl

one_more : more_text 1 ≡ codes "  and " ++ (decimal 1 ++ codes " more\n")
one_more = refl
