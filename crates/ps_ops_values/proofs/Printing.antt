-- What is printed, or why it isn't.
use Rattle.std.proofs.Common.{◌≡◌, ℕ, ◌<◌, ◌++◌, arith, List, map, drop, length, true, false, Option}
use Rattle.std.proofs.Common.{None, Some, refl, sym, ap, subst, ◌∙◌, inl}
use Rattle.std.proofs.lemmas.List.{take_all, reverse-reverse}
use Rattle.std.specs.Prelude.{take, reverse, option_map}
use Rattle.std.specs.List.{flat_map, AllByRecursion}
use Rattle.ps_language.specs.declared.errors.ErrorName.TheVariants.{StackUnderflow, TypeCheck, InvalidAccess}
use Rattle.ps_language.specs.Value.{Value, Store}
use Rattle.ps_language.specs.Effect.{makes, raises}
use Rattle.ps_language.specs.Rows.{Row, printing_row}
use Rattle.ps_language.specs.RowsOutput.{print_line, print_row, line}
use Rattle.ps_language.specs.Access.{is_readable, part_bytes}
use Rattle.ps_language.specs.Readers.{as_string}
use Rattle.ps_stacks.specs.Tops.{first_of}
use Rattle.ps_word.specs.declared.words.Word.{Word}
use Rattle.ps_mem.specs.Heap.{birth_at}
use Rattle.ps_word.specs.declared.values.Part.{Part}
use Rattle.ps_mem.specs.Meaning.{value_of, part_of}
use Rattle.ps_mem.specs.Shows.{IsValue, IsWithin}
use Rattle.ps_ops_operands.specs.declared.failure.NotMade.TheVariants.{Memory}
use Rattle.ps_ops_operands.proofs.Operands.{first_split, none_left}
use Rattle.ps_ops_operands.proofs.Held.{rest_held, all_reverse}
use Rattle.ps_text.specs.declared.lines.Form.{Form}
use Rattle.ps_text.specs.declared.lines.Form.TheVariants.{Plain, Full}
use Rattle.ps_text.specs.Forms.{text_as}
use Rattle.ps_ops_state.specs.declared.lent.Attempt.{Attempt}
use Rattle.ps_ops_state.specs.Lent.{Lent, scene_of, IsShown, IsGood}
use Rattle.ps_ops_state.specs.Acts.{nothing_asked, effect_in}
use Rattle.ps_ops_values.specs.Stacks.{stack_row_as}
use Rattle.ps_ops_state.proofs.Acting.{Made, Wants}
use Rattle.ps_ops_state.proofs.Meeting.{lasts-same, logs-same, lacks_for_same}

-- ---- any row that prints and takes so many operands

module _ (l : Lent) (row : Row) (taken : ℕ) (output : Store → List ℕ) where
  abbrev pub taken_off : Lent
  taken_off = record l { operands = drop taken l.operands }

  abbrev pub Prints : Type 0
  Prints = (store : Store) → IsShown l store
      → effect_in row l store ≡ makes (scene_of taken_off store) (output store)

  module _ (attempt : Attempt) (prints : Prints) where
    pub prints_made : (printed : List ℕ) (room : ℕ)
        → ((store : Store) → IsShown l store → printed ≡ l.printed ++ output store)
        → (store : Store) → IsShown l store
        → Made row attempt nothing_asked l
        (record l { operands = drop taken l.operands; printed = printed; room = room }) store
    prints_made printed room are store shown = record {
      after = store;
      output = output store;
      is = prints store shown;
      enough = lacks_for_same attempt.refused store;
      shown = record {
        shows = shown.shows;
        operands =
            rest_held (IsWithin (birth_at l.heap) l.names store) l.operands shown.operands taken;
        dictionaries = shown.dictionaries;
        frames = shown.frames;
      };
      lasts = lasts-same store;
      printed = are store shown;
      logs = logs-same 0 l.grants attempt.slot;
    }

    -- the output is longer than the room
    pub prints_wants : (room : ℕ)
        → ((store : Store) → IsShown l store → l.room < length (output store))
        → (store : Store) → IsShown l store
        → Wants row attempt nothing_asked l Memory (record l { room = room }) store
    prints_wants room full store shown = record {
      scene = scene_of taken_off store;
      output = output store;
      is = prints store shown;
      enough = lacks_for_same attempt.refused store;
      why = inl (full store shown);
    }

-- ---- a line of the topmost operand

module _ (text : Store → Value → List ℕ) (l : Lent) where
  pub line_empty : None ≡ first_of l.operands → (store : Store) → IsShown l store
      → effect_in (printing_row (print_line text)) l store ≡ raises StackUnderflow
  line_empty none store shown = rw (none_left l.operands none) refl

  pub line_prints : (w : Word) → Some w ≡ first_of l.operands
      → Prints l (printing_row (print_line text)) 1
      (λ store. line text store (value_of (birth_at l.heap) l.names w))
  line_prints w one store shown = rw (first_split l.operands w one) refl

-- ---- a line of each operand

-- what holds of all operands holds of them from the lowest up
pub all_turned : (P : Word → Type 0) (xs : List Word) (count : ℕ) (words : List Word)
    → count ≡ length xs → words ≡ reverse (take count xs) → AllByRecursion P xs
    → AllByRecursion P words
all_turned P xs count words all is each =
    subst (AllByRecursion P)
    (sym (is ∙ ap reverse (take_all count xs (omega (arith, all))))) (all_reverse P xs each)

turned : (xs : List Word) (count : ℕ) (words : List Word) → count ≡ length xs
    → words ≡ reverse (take count xs) → reverse words ≡ xs
turned xs count words all is =
    ap reverse is ∙ reverse-reverse (take count xs) ∙ take_all count xs (omega (arith, all))

module _ (l : Lent) where
  pub stack_prints : (form : Form) (count : ℕ) (words : List Word) → count ≡ length l.operands
      → words ≡ reverse (take count l.operands) → Prints l (printing_row (stack_row_as form)) 0
      (λ store. flat_map (line (text_as form) store)
      (map (value_of (birth_at l.heap) l.names) (reverse words)))
  stack_prints Plain count words all is store shown =
      rw (turned l.operands count words all is) refl
  stack_prints Full count words all is store shown =
      rw (turned l.operands count words all is) refl

-- ---- the bytes of a string

module _ (l : Lent) (w : Word) (one : Some w ≡ first_of l.operands) where
  abbrev AsString : Option Part → Type 0
  AsString part = (births : ℕ → ℕ) (names : List (List ℕ))
      → as_string (value_of births names w) ≡ option_map (part_of births) part

  pub print_wrong : AsString None → (store : Store) → IsShown l store
      → effect_in (printing_row print_row) l store ≡ raises TypeCheck
  print_wrong none store shown =
      rw (first_split l.operands w one, none (birth_at l.heap) l.names) refl

  module _ (part : Part) (is : AsString (Some part)) where
    pub print_hidden : is_readable part.access ≡ false → (store : Store) → IsShown l store
        → effect_in (printing_row print_row) l store ≡ raises InvalidAccess
    print_hidden hidden store shown =
        rw (first_split l.operands w one, is (birth_at l.heap) l.names, hidden) refl

    pub print_prints : is_readable part.access ≡ true → Prints l (printing_row print_row) 1
        (λ store. part_bytes store (part_of (birth_at l.heap) part))
    print_prints readable store shown =
        rw (first_split l.operands w one, is (birth_at l.heap) l.names, readable) refl

-- ---- what is lent then

-- fewer operands, and other output
pub good_drop : (l : Lent) (printed : List ℕ) (room n : ℕ) → IsGood l
    → IsGood (record l { operands = drop n l.operands; printed = printed; room = room })
good_drop l printed room n good = record {
  sound = good.sound;
  operands = rest_held (IsValue l.heap) l.operands good.operands n;
  dictionaries = good.dictionaries;
  frames = good.frames;
  error_stands = good.error_stands;
  names = good.names;
  first = good.first;
  empty = good.empty;
}
