-- What conversions ask for.
use Rattle.std.specs.Prelude.{List, ◌∷◌, length}
use Rattle.ps_language.specs.Value.{Value, Store}
use Rattle.ps_language.specs.Texts.{plain_text}
use Rattle.ps_language.specs.Effect.{Scene}
use Rattle.ps_ops_state.specs.Acts.{Asked, no_rooms}
use Rattle.ps_ops_sequences.specs.declared.pairs.Sequence.TheVariants.{Strings}
use Rattle.ps_ops_sequences.specs.Asks.{asked_for}

-- the text of the second is read, and written into the topmost
abbrev pub cvs_asked : Store → List Value → Asked
cvs_asked store (y ∷ x ∷ rest) = asked_for Strings (length (plain_text store x))
cvs_asked store _ = record { records = 0; scratch = no_rooms }

abbrev pub cvs_asks : Scene → Asked
cvs_asks scene = cvs_asked scene.store scene.operands
