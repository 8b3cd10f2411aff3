-- What is lent at the start is the first context's.
use Rattle.std.proofs.Common.{◌≡◌, ℕ, ◌<◌, ◌^◌, false, List, [], ◌∷◌, length, sym, ap, ◌∙◌, arith, subst}
use Rattle.ps_language.specs.Machines as machines
use Rattle.ps_language.specs.Readers.{literal}
use Rattle.ps_language.specs.Value.{dictionary_value}
use Rattle.ps_language.specs.Worlds.{first_names, first_store, starting_world, user_value, system_value}
use Rattle.ps_word.specs.declared.values.Content.TheVariants.{Dictionary}
use Rattle.ps_mem.specs.Heap.{birth_at}
use Rattle.ps_mem.specs.Meaning.{value_of}
use Rattle.ps_mem.specs.Shows.{AreValues, AreWithin, Shows}
use Rattle.ps_names.specs.Names.{AreNames}
use Rattle.ps_ops_operands.specs.Changes.{values_in}
use Rattle.ps_ops_operands.specs.FirstNames.{BeginWithFirst}
use Rattle.ps_ops_control.specs.declared.frames.Source.TheVariants.{Program}
use Rattle.ps_ops_control.specs.declared.frames.Frame.TheVariants.{Text}
use Rattle.ps_ops_control.specs.Frames.{frames_in, AreFrames, AreFramesWithin}
use Rattle.ps_ops_state.specs.Lent.{Lent, scene_of, around_of, IsErrorDictionary, IsEmpty, IsShown, IsGood}
use Rattle.ps_ctx_start.specs.declared.dictionaries.FirstDictionaries.{FirstDictionaries}
use Rattle.ps_ctx_start.specs.Starts.{AreFirst, first_machine, Starts}
use Rattle.ps_ctx_start.specs.Words.{word_of}
use Rattle.ps_ctx_start.proofs.Distinct.{first-are}
use Rattle.ps_ctx_start.proofs.Meaning.{begin, reference-held, reference-within, reference-value}

module _ (program : List ℕ) (l : Lent) (made : FirstDictionaries) (first : AreFirst l.heap made)
    (operands : l.operands ≡ [])
    (dictionaries : l.dictionaries ≡ word_of (Dictionary made.user) false
    ∷ word_of (Dictionary made.system) false ∷ [])
    (frames : l.frames ≡ Text Program 0 ∷ []) (error : l.error_dictionary ≡ made.error)
    (is_program : l.program ≡ program) (names : l.names ≡ first_names) (printed : l.printed ≡ [])
    (empty : IsEmpty l.scratch) where
  good : IsGood l
  good = record {
    sound = first.sound;
    operands = subst (AreValues l.heap) (sym operands) tt;
    dictionaries = subst (AreValues l.heap) (sym dictionaries) (
      reference-held made.user first.user.below l.heap first.user.stands,
      (reference-held made.system first.system.below l.heap first.system.stands, tt),
    );
    frames = subst (AreFrames l.heap (length l.program)) (sym frames) (omega arith, tt);
    error_stands = subst (IsErrorDictionary l.heap) (sym error)
        (record { stands = first.error.stands; below = first.error.below });
    names = subst AreNames (sym names) first-are;
    first = subst BeginWithFirst (sym names) begin;
    empty = empty;
  }

  shown : IsShown l first_store
  shown = record {
    shows = subst (λ ns. Shows l.heap ns first_store) (sym names) first.shows;
    operands = subst (AreWithin l.heap l.names first_store) (sym operands) tt;
    dictionaries = subst (AreWithin l.heap l.names first_store) (sym dictionaries) (
      reference-within made.user first.user.below (birth_at l.heap) l.names first_store,
      (
        reference-within made.system first.system.below (birth_at l.heap) l.names first_store,
        tt,
      ),
    );
    frames = subst (AreFramesWithin l.heap l.names first_store) (sym frames) (tt, tt);
  }

  value : (address birth : ℕ) → address < 2 ^ 24 → birth_at l.heap address ≡ birth
      → value_of (birth_at l.heap) l.names (word_of (Dictionary address) false)
      ≡ literal (dictionary_value birth)
  value address birth below born =
      reference-value address below (birth_at l.heap) l.names
      ∙ ap (λ n. literal (dictionary_value n)) born

  stack : values_in l.heap l.names l.dictionaries ≡ user_value ∷ system_value ∷ []
  stack = ap (values_in l.heap l.names) dictionaries
      ∙ (λ i. value made.user 1 first.user.below first.user.born i
      ∷ value made.system 0 first.system.below first.system.born i ∷ [])

  scene : scene_of l first_store ≡ machines.scene_of (first_machine program)
  unfolding starting_world
  scene = λ i. record {
    operands = ap (values_in l.heap l.names) operands i;
    dictionaries = stack i;
    frames = ap (frames_in l.heap l.names) frames i;
    store = first_store;
    names = names i;
  }

  around : around_of l ≡ machines.around_of program (first_machine program)
  unfolding starting_world
  around = λ i. record {
    program = is_program i;
    error_dictionary = (ap (birth_at l.heap) error ∙ first.error.born) i;
  }

  nothing_printed : l.printed ≡ (first_machine program).printed
  unfolding starting_world
  nothing_printed = printed

  pub starts : Starts program l
  starts = record {
    good = good;
    shown = shown;
    scene = scene;
    around = around;
    printed = nothing_printed;
  }
