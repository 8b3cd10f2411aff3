-- A step more at the end of a schedule.
use Rattle.std.proofs.Common.{◌≡◌, true, false, List, [], ◌∷◌, ◌++◌, refl, append_assoc}
use Rattle.ps_language.specs.declared.schedules.Entry.{Entry}
use Rattle.ps_language.specs.Schedules.{Move, added, joins, joined, single}
use Rattle.ps_language.proofs.ScheduleLaws.{added-last}

-- it joins the last entry
pub note_joined : (old before : List Entry) (entry : Entry) (move : Move) → old ≡ before ++ entry ∷
    [] → joins entry move.context ≡ true → before ++ joined entry move ∷ [] ≡ added old move
note_joined old before entry move is test = rw (is, added-last before entry move, test) refl

-- else it is an entry of its own
pub note_apart : (old before : List Entry) (entry : Entry) (move : Move) → old ≡ before ++ entry ∷
    [] → joins entry move.context ≡ false → (before ++ entry ∷ []) ++ single move ∷ [] ≡ added old
    move
note_apart old before entry move is test = rw (is, added-last before entry move, test, append_assoc)
    refl

-- the first of all
pub note_alone : (old : List Entry) (move : Move) → old ≡ [] → single move ∷ [] ≡ added old move
note_alone old move is = rw is refl
