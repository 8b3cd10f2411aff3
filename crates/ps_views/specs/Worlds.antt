-- The lines that tell how runs ended, in every order of a program's steps.
use Rattle.std.specs.Prelude.{ℕ, List, ◌++◌, codes}
use Rattle.std.specs.Fmt.{decimal}
use Rattle.ps_searches.specs.declared.covers.Extent.{Extent}
use Rattle.ps_searches.specs.declared.covers.Extent.TheVariants.{All, Most, Lost}
use Rattle.ps_views.specs.declared.worlds.WorldEnding.{WorldEnding}
use Rattle.ps_views.specs.declared.worlds.WorldsFound.{WorldsFound}
use Rattle.ps_views.specs.Orders.{counted, steps_text}

-- ---- what a search by worlds found

-- a number behind its name
abbrev pub named_line : (name : List ℕ) → ℕ → List ℕ
named_line name number = name ++ (codes " " ++ (decimal number ++ codes "\n"))

abbrev pub count_lines : WorldsFound → List ℕ
count_lines found = named_line (codes "worlds") found.worlds
    ++ (named_line (codes "steps between them") found.steps
    ++ named_line (codes "endings") found.endings)

-- one more was to be kept than these
abbrev pub bound_text : (worlds : ℕ) → List ℕ
bound_text worlds = codes "not all orders: more than "
    ++ (counted worlds (codes "world") ++ codes "; --cuts K bounds them otherwise\n")

-- whether these are all orders
abbrev pub extent_text : Extent → (worlds : ℕ) → List ℕ
extent_text All worlds = codes "all orders\n"
extent_text Most worlds = bound_text worlds
extent_text Lost worlds = codes "not all orders: a run made again came to another world\n"

abbrev pub extent_line : WorldsFound → List ℕ
extent_line found = extent_text found.extent found.worlds

unfoldable pub found_lines : WorldsFound → List ℕ
found_lines found = count_lines found ++ extent_line found

-- ---- an ending

-- which it is
abbrev pub number_text : WorldEnding → List ℕ
number_text told = codes "ending " ++ (decimal told.number ++ codes ": ")

-- ending NUMBER: NUMBER steps, OUTCOME, NUMBER bytes
unfoldable pub world_ending_line : WorldEnding → (outcome : List ℕ) → List ℕ
world_ending_line told outcome = number_text told
    ++ (steps_text told.steps outcome ++ (counted told.printed (codes "byte") ++ codes "\n"))
