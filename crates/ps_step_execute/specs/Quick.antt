-- What an element of a procedure comes to by operands alone (PLRM2, 3.5).
use Rattle.std.specs.Prelude.{◌≡◌, List, [], ◌∷◌}
use Rattle.ps_language.specs.Value.{Store}
use Rattle.ps_word.specs.declared.words.Word.{Word}
use Rattle.ps_mem.specs.Heap.{Heap, birth_at}
use Rattle.ps_mem.specs.Shows.{IsValue, IsWithin}
use Rattle.ps_ops_control.specs.declared.ahead.Ahead.{Ahead}
use Rattle.ps_ops_control.specs.declared.ahead.Ahead.TheVariants as ahead
use Rattle.ps_ops_state.specs.Lent.{Lent, IsGood}
use Rattle.ps_step_outcome.specs.Turns.{IsShownWith}
use Rattle.ps_step_execute.specs.declared.quick.Fast.{Fast}
use Rattle.ps_step_execute.specs.declared.quick.Fast.TheVariants.{Done, Enters, Treats, Slow}
use Rattle.ps_step_execute.specs.Values.{Asks, done_turn, executed_asks, treated_turn, treated_asks}
use Rattle.ps_step_execute.specs.Values.{among, EntersIn}

-- doing an element, with itself as the command, is treating this value
pub record IsTreated (asks : Asks) (word value : Word) (l : Lent) (s : Store) : Type 0 where
  pub within : IsWithin (birth_at l.heap) l.names s value
  pub turn : done_turn word word l s ≡ treated_turn word value l s
  pub asked : executed_asks asks word l s ≡ treated_asks asks value l s

-- whatever else is lent over this heap and by this dictionary stack
abbrev pub TreatsAs : Asks → Heap → (dictionaries : List Word) → (word value : Word) → Type 0
TreatsAs asks heap dictionaries word value =
    (l : Lent) (s : Store) → IsGood (among heap dictionaries l)
    → IsShownWith (word ∷ word ∷ []) [] (among heap dictionaries l) s
    → IsTreated asks word value (among heap dictionaries l) s

-- done, or up to the frame of the procedure that is entered, or this
abbrev pub came_or : Ahead → Fast Word → Fast Word
came_or ahead.Goes otherwise = Done
came_or (ahead.Enters body) otherwise = Enters body
came_or ahead.Left otherwise = otherwise

-- the element is done, up to the frame of the procedure that it enters; or nothing has changed
abbrev pub ComesTo : Asks → Heap → (dictionaries : List Word) → Word → Fast Word
    → (old new : List Word) → Type 0
ComesTo asks heap dictionaries word Done old new =
    EntersIn (among heap dictionaries) (word ∷ word ∷ []) (executed_asks asks word)
    (done_turn word word) ahead.Goes old new
ComesTo asks heap dictionaries word (Enters body) old new =
    EntersIn (among heap dictionaries) (word ∷ word ∷ []) (executed_asks asks word)
    (done_turn word word) (ahead.Enters body) old new
ComesTo asks heap dictionaries word (Treats value) old new =
    (new ≡ old) × (IsValue heap value × TreatsAs asks heap dictionaries word value)
ComesTo asks heap dictionaries word Slow old new = new ≡ old
