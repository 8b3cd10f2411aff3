-- What a text asks to be told of a run, by examples that a near neighbour of the definitions fails.
use Rattle.std.proofs.Common.{◌≡◌, refl, Some, None, codes}
use Rattle.ps_run_options.specs.declared.views.View.TheVariants.{State, Steps}
use Rattle.ps_run_options.specs.Views.{view_in}

-- a state may be that before the first step
start : view_in (codes "0") ≡ Some (State 0)
unfolding view_in
start = refl

-- steps are counted from 1
first : view_in (codes "1..3") ≡ Some (Steps 1 3)
unfolding view_in
first = refl

no_first : view_in (codes "0..3") ≡ None
unfolding view_in
no_first = refl

-- a single one is a range too
single : view_in (codes "3..3") ≡ Some (Steps 3 3)
unfolding view_in
single = refl

backwards : view_in (codes "3..2") ≡ None
unfolding view_in
backwards = refl

-- there are two full stops, neither fewer nor more, with a number on each side
one_stop : view_in (codes "1.3") ≡ None
unfolding view_in
one_stop = refl

three_stops : view_in (codes "1...3") ≡ None
unfolding view_in
three_stops = refl

no_last : view_in (codes "1..") ≡ None
unfolding view_in
no_last = refl

trailing_stop : view_in (codes "1.") ≡ None
unfolding view_in
trailing_stop = refl

nothing : view_in (codes "") ≡ None
unfolding view_in
nothing = refl
