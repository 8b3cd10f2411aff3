-- What is told of a run by its steps: numbers of them, between which two full stops may stand.
use Rattle.std.specs.Prelude.{ℕ, ◌==◌, Bool, true, List, [], ◌∷◌, Option, Some, None, take, drop, is_some, option_map, if◌then◌else◌}
use Rattle.std.specs.List.{position_or_len}
use Rattle.clap.specs.Words.{Text}
use Rattle.ps_run_options.specs.declared.views.View.{View}
use Rattle.ps_run_options.specs.declared.views.View.TheVariants.{State, Steps}
use Rattle.ps_run_options.specs.Sizes.{is_within, size_of}

-- a number of steps of 32 bits that a text tells, and no less than this
abbrev pub step_from : (least : ℕ) → List ℕ → Option ℕ
step_from least text = if is_within least 4294967295 (size_of text) then size_of text else None

abbrev pub state_behind : (step : Option ℕ) → Option View
state_behind step = option_map State step

-- the last step isn't before the first
abbrev pub steps_between : (first : Option ℕ) → (last : List ℕ) → Option View
steps_between None last = None
steps_between (Some first) last = option_map (Steps first) (step_from first last)

abbrev pub is_stop : ℕ → Bool
is_stop byte = byte == 46

-- a number alone, or one more behind two full stops
abbrev pub view_between : (before behind : List ℕ) → Option View
view_between before [] = state_behind (step_from 0 before)
view_between before (stop ∷ []) = None
view_between before (stop ∷ next ∷ last) =
    if is_stop next then steps_between (step_from 1 before) last else None

-- what a text asks to be told
unfoldable pub view_in : List ℕ → Option View
view_in text = view_between (take (position_or_len is_stop text) text)
    (drop (position_or_len is_stop text) text)

-- where an option stands there, it asks for something
abbrev pub is_viewed : Option Text → Bool
is_viewed None = true
is_viewed (Some text) = is_some (view_in text)

-- the number of the last step of what is told
abbrev pub last_step : View → ℕ
last_step (State step) = step
last_step (Steps first last) = last
