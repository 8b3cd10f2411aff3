-- Monitors and conditions over words (PLRM2, 7.1).
use Rattle.std.specs.Prelude.{ℕ, ◌==◌, List, [], ◌∷◌, if◌then◌else◌}
use Rattle.ps_word.specs.declared.values.Part.{Part}
use Rattle.ps_ops_control.specs.declared.frames.Frame.{Frame}
use Rattle.ps_ops_control.specs.declared.frames.Frame.TheVariants.{Monitor, Procedure}

-- the frames of a procedure under a lock, and how many they are
abbrev pub monitored : (lock : ℕ) → Part → List Frame
monitored lock body =
    if body.length == 0 then Monitor lock ∷ [] else Procedure body ∷ Monitor lock ∷ []

abbrev pub monitored_count : Part → ℕ
monitored_count body = if body.length == 0 then 1 else 2
