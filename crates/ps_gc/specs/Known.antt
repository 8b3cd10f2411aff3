-- Words whose references were named to the collector.
use Rattle.std.specs.Prelude.{Bool, true, not, ◌&&◌, ◌||◌, List, [], ◌∷◌}
use Rattle.ps_word.specs.declared.words.Word.{Word}
use Rattle.ps_word.specs.Format.{address_in}
use Rattle.ps_word.specs.Readers.{is_reference}
use Rattle.ps_core_machine.specs.declared.events.Gc.{Gc}
use Rattle.ps_core_machine.specs.Objects.{among}

-- the word's reference, if it is one, was named to the collector in this cycle
abbrev pub is_known : Gc → Word → Bool
is_known g w = not (is_reference w.0) || among g.known (address_in w.0)

-- so was that of each of these
abbrev pub are_known : Gc → List Word → Bool
are_known g [] = true
are_known g (w ∷ ws) = is_known g w && are_known g ws
