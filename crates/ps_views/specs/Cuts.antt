-- The line that tells a cut: who was due and is left, and who goes on in its place.
use Rattle.std.specs.Prelude.{ℕ, ◌≤◌, ⊤, List, [], ◌∷◌, ◌++◌, codes}
use Rattle.std.specs.Fmt.{decimal}
use Rattle.ps_views.specs.declared.cuts.CutAt.{CutAt}
use Rattle.ps_views.specs.declared.cuts.CutLine.{CutLine}
use Rattle.ps_views.specs.declared.cuts.Turn.{Turn}
use Rattle.ps_views.specs.declared.frames.Coming.{Coming}
use Rattle.ps_views.specs.declared.frames.Coming.TheVariants.{Joining, Entering, Retaking}
use Rattle.ps_views.specs.Frames.{coming_text}
use Rattle.ps_views.specs.Lines.{at_text}

-- before a try that is made again there is no value to tell
abbrev pub before_word : Coming → List ℕ
before_word Joining = codes " where it "
before_word Entering = codes " where it "
before_word Retaking = codes " where it "
before_word _ = codes " before "

-- what of a step that stands nowhere is told in place of a place: that a try is made again
abbrev pub again_text : Coming → List ℕ
again_text Joining = codes " and tries join again"
again_text Entering = codes " and tries monitor again"
again_text Retaking = codes " and retakes its lock"
again_text _ = []

-- behind how many steps
abbrev pub behind_text : CutLine → List ℕ
behind_text cut = codes "  behind step " ++ decimal cut.behind

-- who is left, and before what
abbrev pub left_text : (file : List ℕ) → Turn → (value : List ℕ) → List ℕ
left_text file left value = codes " context " ++ (decimal left.context ++ (codes " is left"
    ++ (at_text file left.position ++ (before_word left.coming
    ++ coming_text 30 left.coming value))))

-- who goes on, and where
abbrev pub goes_text : (file : List ℕ) → Turn → List ℕ
goes_text file other = codes "; context " ++ (decimal other.context ++ (codes " goes on"
    ++ (at_text file other.position ++ again_text other.coming)))

-- behind step NUMBER context NUMBER is left at PLACE before TEXT; context NUMBER goes on at PLACE
unfoldable pub cut_line : (file : List ℕ) → CutLine → (value : List ℕ) → List ℕ
cut_line file cut value = behind_text cut ++ (left_text file cut.left value
    ++ (goes_text file cut.other ++ codes "\n"))

-- each is behind as many steps as the one before it, or more; the first behind so many
abbrev pub AreRising : (from : ℕ) → List CutAt → Type 0
AreRising from [] = ⊤
AreRising from (cut ∷ cuts) = (from ≤ cut.behind) × AreRising cut.behind cuts
