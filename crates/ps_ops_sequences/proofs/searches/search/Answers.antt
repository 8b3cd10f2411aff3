-- A search by its own contract.
use Rattle.std.proofs.Common.{refl}
use Rattle.ps_ops_state.specs.Lent.{rooms_of}
use Rattle.ps_ops_state.proofs.Meeting.{at_least-same}
use Rattle.ps_ops_state.proofs.Alike.{came_acts}
use Rattle.ps_ops_sequences.proofs.Searching.{searches_acts}
use Rattle.ps_ops_sequences.proofs.searches.search.Goals as goal

pub returns : goal.returns
returns g c = record {
  acts = λ attempt. came_acts attempt _ _ _ _ _ _ c.tried.ensures
      (searches_acts _ c.requires.good attempt _ _ _ _ _ c.search.ensures.heap
      c.search.ensures.grants c.search.ensures.does c.search.ensures.ready (record {
        text = c.search.ensures.text;
        sought = c.search.ensures.sought;
        words = c.requires.good.empty.words;
      }) (record {
        text = c.search.ensures.room.0;
        sought = c.search.ensures.room.1;
        words = (at_least-same (rooms_of c.args.runtime.now.shared.scratch)).words;
      }));
  frames = refl;
}
