-- What the picture of a run is, by examples that a near neighbour of the definition fails.
use Rattle.std.proofs.Common.{◌≡◌, refl, ℕ, true, false, [], ◌∷◌, ◌++◌, map}
use Rattle.std.specs.Prelude.{codes}
use Rattle.std.specs.Fmt.{decimal}
use Rattle.ps_timelines.specs.declared.columns.Interval.{Interval}
use Rattle.ps_timelines.specs.declared.series.Series.TheVariants.{Ready, Lock, Steps, Error}
use Rattle.ps_timelines.specs.Columns.{columns, covered, share}
use Rattle.ps_timelines.specs.Lanes.{all_series, count, place}
use Rattle.ps_timelines.specs.Moments.{is_marked, stretches}
use Rattle.ps_timelines.specs.declared.moments.Moment.{Moment}
use Rattle.ps_timelines.specs.declared.moments.State.{State}
use Rattle.ps_timelines.specs.declared.moments.State.TheVariants as state
use Rattle.ps_timelines.specs.Levels.{bar_height, half_height, longest, line_level}
use Rattle.ps_timelines.specs.Series.{edge_text, column_text, edges_text, line_text, outline_text, path_text}
use Rattle.ps_timelines.specs.Pictures.{unit, first_unit}
use Rattle.ps_timelines.specs.Texts.{escaped}

abbrev interval : ℕ → ℕ → Interval
interval from to = record { from = from; to = to }

-- ---- columns

-- a step has a column of its own, up to 1,000 of them
own_columns : columns 1000 ≡ 1000
own_columns = refl

shared_columns : columns 1001 ≡ 1000
shared_columns = refl

-- the first of two steps is the whole first column, and nothing of the second
first_step : covered 2 0 (interval 0 1) ≡ 2
unfolding covered
first_step = refl

not_second : covered 2 1 (interval 0 1) ≡ 0
unfolding covered
not_second = refl

-- of 2,000 steps a column has two, and one of them is half of it
half_column : covered 2000 0 (interval 1 2) ≡ 1000
unfolding covered
half_column = refl

-- the second of 1,500 steps lies in the first column by half, and in the second by the other
across : covered 1500 0 (interval 1 2) ≡ 500
unfolding covered
across = refl

across_on : covered 1500 1 (interval 1 2) ≡ 500
unfolding covered
across_on = refl

-- an interval that ends before it begins has nothing
backwards : covered 2 0 (interval 1 0) ≡ 0
unfolding covered
backwards = refl

-- what two intervals share is counted twice, but a column isn't more than whole
whole : share 2 (interval 0 1 ∷ interval 0 2 ∷ []) 0 ≡ 2
unfolding share covered
whole = refl

both_counted : count 9 (interval 0 3 ∷ interval 4 6 ∷ []) ≡ 5
unfolding count
both_counted = refl

-- the last step begins a step before the right edge
last_place : place 4 3 ≡ 750
last_place = refl

-- ---- what is marked

-- steps one behind another are one stretch, also from the first on and up to the last
marked_first : stretches 0 (true ∷ true ∷ false ∷ true ∷ []) ≡ interval 0 2 ∷ interval 3 4 ∷ []
unfolding stretches
marked_first = refl

marked_last : stretches 7 (false ∷ true ∷ true ∷ true ∷ []) ≡ interval 8 11 ∷ []
unfolding stretches
marked_last = refl

none_marked : stretches 0 (false ∷ false ∷ []) ≡ []
unfolding stretches
none_marked = refl

-- a context that steps isn't ready besides, but may have a lock
moment : State → Moment
moment now = record { state = now; owner = true; prints = false; fails = false }

only_steps : map (λ series. is_marked series (moment state.Steps)) all_series
    ≡ false ∷ false ∷ false ∷ false ∷ true ∷ true ∷ false ∷ false ∷ []
unfolding moment
only_steps = refl

only_owner : map (λ series. is_marked series (moment state.Away)) all_series
    ≡ false ∷ false ∷ false ∷ false ∷ false ∷ true ∷ false ∷ false ∷ []
unfolding moment
only_owner = refl

-- ---- levels

full_bar : bar_height 2000 2000 ≡ 30
full_bar = refl

half_bar : bar_height 2000 1000 ≡ 15
half_bar = refl

-- one part is seen
least_bar : bar_height 2000 1 ≡ 4
least_bar = refl

no_bar : bar_height 2000 0 ≡ 0
no_bar = refl

-- half of a column isn't enough
only_half : half_height 2 1 ≡ 0
only_half = refl

more_than_half : half_height 2 2 ≡ 4
more_than_half = refl

-- three quarters are enough for steps alone
three_quarters : longest 4 3 1 ≡ 0
three_quarters = refl

below_three_quarters : longest 4 2 2 ≡ 2
below_three_quarters = refl

no_line : line_level 0 0 ≡ 0
no_line = refl

shorter : line_level 3 2 ≡ 0
shorter = refl

-- ---- paths

-- a line goes on through columns of one level, and ends where the next one begins
one_line : edges_text Ready (0 ∷ 1 ∷ 1 ∷ 0 ∷ []) ≡ line_text 1 250 ++ (line_text 0 750 ++ [])
unfolding edges_text column_text edge_text
one_line = refl

-- at the right edge too
line_to_the_end : edges_text Lock (0 ∷ 1 ∷ []) ≡ line_text 1 500 ++ (line_text 0 1000 ++ [])
unfolding edges_text column_text edge_text
line_to_the_end = refl

-- bars of two heights are one outline
outline : edges_text Steps (30 ∷ 15 ∷ [])
    ≡ outline_text 30 30 0 ++ (outline_text 30 15 500 ++ (outline_text 30 0 1000 ++ []))
unfolding edges_text column_text edge_text
outline = refl

-- neighbours that fail are one cross
one_cross : edges_text Error (1 ∷ 1 ∷ 0 ∷ 0 ∷ [])
    ≡ codes "M" ++ (decimal 0 ++ codes " 15m-8-8l16 16m0-16l-16 16") ++ []
unfolding edges_text column_text edge_text
one_cross = refl

left_out : path_text Lock (0 ∷ 0 ∷ []) ≡ []
unfolding path_text
left_out = refl

-- ---- texts

-- at most ten ticks behind the first
ten_fit : unit 10 ≡ 1
unfolding unit first_unit
ten_fit = refl

eleven_do_not : unit 11 ≡ 2
unfolding unit first_unit
eleven_do_not = refl

round : unit 89310 ≡ 10000
unfolding unit first_unit
round = refl

most : unit 4294967295 ≡ 500000000
unfolding unit first_unit
most = refl

-- no markup of the user's, and no byte that may be no character
no_markup : escaped (codes "a<b>&" ++ 27 ∷ 255 ∷ []) ≡ codes "a&lt;b&gt;&amp;??"
no_markup = refl
