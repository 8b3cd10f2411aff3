use Rattle.ps_walks.proofs.Stopping.{content_by, name_held}
use Rattle.ps_walks.proofs.stops.text_stops.Goals as goal

pub name_stops-requires-clause-held : goal.name_stops-requires-clause-held
name_stops-requires-clause-held g c =
    name_held _ _ _ c.name_word-word.ensures.word (content_by _ _ _ c.name_word-word.ensures.value)

pub name_stops-requires-clause-name : goal.name_stops-requires-clause-name
name_stops-requires-clause-name g c = content_by _ _ _ c.name_word-word.ensures.value
