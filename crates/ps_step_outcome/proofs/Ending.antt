-- The machine of a context that ends by an error (PLRM2, 3.10).
use Rattle.std.proofs.Common.{◌≡◌, ℕ, ◌+◌, ◌++◌, Bool, true, false, List, [], Option, Some, None, refl, sym, ap, ◌∙◌}
use Rattle.std.proofs.Common.{inl, inr, append-nil}
use Rattle.std.specs.Prelude.{slice_get, slice_set, slice_range, codes, if◌then◌else◌}
use Rattle.std.proofs.lemmas.Bool.{cases_eq}
use Rattle.ps_language.specs.declared.errors.ErrorName.{ErrorName}
use Rattle.ps_language.specs.Value.{What, null_value, mark_value, integer_value, boolean_value, name_value}
use Rattle.ps_language.specs.Value.{operator_value, array_value, string_value, dictionary_value, lock_value}
use Rattle.ps_language.specs.Value.{condition_value, Value, Dictionary, dictionary_object, Store}
use Rattle.ps_language.specs.World.{unwinding, finished, for_stop, Machine}
use Rattle.ps_language.specs.Access.{is_readable, bytes, bytes_in, dictionary_at, with_dictionary}
use Rattle.ps_language.specs.Effect.{Scene}
use Rattle.ps_language.specs.Readers.{literal_name}
use Rattle.ps_language.specs.Dictionaries.{find}
use Rattle.ps_language.specs.StepErrors.{errorname_key, command_key, error_text, with_error, with_error_entries}
use Rattle.ps_language.specs.StepErrors.{error_line, told}
use Rattle.ps_language.specs.StepValues.{errs}
use Rattle.ps_language.specs.Texts.{no_text, plain_text, plain_text_in}
use Rattle.ps_language.specs.Machines.{with_status, with_scene, with_line, with_line_of, settled, reaches, after_turn}
use Rattle.ps_mem.proofs.Lists.{slice_get-set_same, slice_get-set_other}
use Rattle.ps_dict.specs.Entries.{with_entries}
use Rattle.ps_dict.proofs.Changing.{with_twice, dictionary_at-with}
use Rattle.ps_text.specs.Errors.{text_or_none, error_line_by}
use Rattle.ps_step_outcome.specs.declared.turned.Turned.TheVariants.{Ends}
use Rattle.ps_step_outcome.specs.Ends.{newerror_stands, errorname_stands, command_stands, given_that_stands, planned_line}
use Rattle.ps_step_outcome.specs.Entries.{entries_with}
use Rattle.ps_step_outcome.specs.Turns.{lines_after, last_line}
use Rattle.ps_step_outcome.proofs.Telling.{plan, new_where, errorname_found, command_found, told_as, untold_as}

-- ---- texts, where only a dictionary has changed

module _ (s : Store) (b : ℕ) (old new : Dictionary)
    (there : slice_get s b ≡ Some (dictionary_object old)) where
  bytes-with : (birth : ℕ) → bytes (with_dictionary s b new) birth ≡ bytes s birth
  unfolding with_dictionary bytes
  bytes-with birth = elim (cases_eq b birth) [
    | inl same ↦ by_birth birth same
    | inr other ↦ ap bytes_in (slice_get-set_other s b birth (dictionary_object new) other)
  ]
    where
      by_birth : (birth : ℕ) → b ≡ birth
          → bytes_in (slice_get (slice_set s b (dictionary_object new)) birth)
          ≡ bytes_in (slice_get s birth)
      by_birth birth same =
          ap (λ c. bytes_in (slice_get (slice_set s b (dictionary_object new)) c)) (sym same)
          ∙ (ap bytes_in (slice_get-set_same s b (dictionary_object new) (dictionary_object old)
          there)
          ∙ (sym (ap bytes_in there) ∙ ap (λ c. bytes_in (slice_get s c)) same))

  text_in-with : (what : What)
      → plain_text_in (with_dictionary s b new) what ≡ plain_text_in s what
  text_in-with (string_value part) =
      ap (λ (bs : List ℕ). if is_readable part.access then
      slice_range bs part.offset (part.offset + part.count) else no_text)
      (bytes-with part.birth)
  text_in-with null_value = refl
  text_in-with mark_value = refl
  text_in-with (integer_value _) = refl
  text_in-with (boolean_value _) = refl
  text_in-with (name_value _) = refl
  text_in-with (operator_value _) = refl
  text_in-with (array_value _) = refl
  text_in-with (dictionary_value _) = refl
  text_in-with (lock_value _) = refl
  text_in-with (condition_value _) = refl

  text-with : (value : Option Value)
      → text_or_none (with_dictionary s b new) value ≡ text_or_none s value
  unfolding plain_text
  text-with (Some value) = text_in-with value.what
  text-with None = refl

-- ---- the machine

-- an unwinding for stop that leaves no frame
pub ends_as : (machine : Machine) → machine.context.frames ≡ []
    → machine.context.status ≡ unwinding for_stop
    → settled machine ≡ with_status finished
    (with_line_of (dictionary_at machine.store machine.context.error_dictionary) machine)
unfolding settled
ends_as machine none status = rw (none, status) refl

-- what is finished stays
pub finished_as : (machine : Machine) → machine.context.status ≡ finished → settled machine ≡ machine
unfolding settled
finished_as machine status = rw status refl

module _ (error : ErrorName) (command : Value) (kept : Scene) (birth : ℕ)
    (none : kept.frames ≡ [])
    (there : slice_get kept.store birth
    ≡ Some (dictionary_object (dictionary_at kept.store birth))) where
  abbrev d : Dictionary
  d = dictionary_at kept.store birth

  abbrev noted : Dictionary
  noted = with_error_entries error command d

  abbrev mid : Store
  mid = with_dictionary kept.store birth noted

  -- what is left
  abbrev pub after_end : Store
  after_end = with_dictionary kept.store birth (with_entries (entries_with false error command) d)

  abbrev stands : Bool
  stands = newerror_stands (plan error command d)

  -- what is printed
  abbrev pub end_line : List ℕ
  end_line =
      planned_line kept.store (plan error command d) (literal_name (error_text error)) command

  line_as : error_line mid noted
      ≡ error_line_by kept.store (find noted.pairs errorname_key) (find noted.pairs command_key)
  unfolding error_line
  line_as = λ i. error_line_with
      (text-with kept.store birth d noted there (find noted.pairs errorname_key) i)
      (text-with kept.store birth d noted there (find noted.pairs command_key) i)
    where
      error_line_with : List ℕ → List ℕ → List ℕ
      error_line_with name by =
          codes "%%[ Error: " ++ name ++ codes "; OffendingCommand: " ++ by ++ codes " ]%%\n"

  line_is : error_line mid noted ≡ error_line_by kept.store
      (given_that_stands (errorname_stands (plan error command d)) (literal_name (error_text error)))
      (given_that_stands (command_stands (plan error command d)) command)
  line_is = line_as ∙ (λ i. error_line_by kept.store (errorname_found error command d i)
      (command_found error command d i))

  -- the bytes that are asked for
  pub asked_line : last_line kept.frames (with_error error command birth kept.store)
      (dictionary_at (with_error error command birth kept.store) birth) ≡ end_line
  unfolding with_error
  asked_line =
      (λ i. last_line (none i) mid (dictionary_at-with kept.store birth _ noted there i))
      ∙ (λ i. if new_where error command d i then line_is i else [])

  module _ (refused : Bool) (machine : Machine)
      (address : machine.context.error_dictionary ≡ birth) where
    -- before it ends
    abbrev unwinds : Store → Machine
    unwinds store =
        record (with_scene (record kept { store = store }) (unwinding for_stop) machine)
        { printed = machine.printed }

    -- once it has ended
    abbrev ended : Store → (printed : List ℕ) → (lines : ℕ) → Machine
    ended store printed lines =
        record (with_scene (record kept { store = store }) finished machine)
        { printed = printed; error_lines = lines }

    comes : after_turn refused machine (errs error command kept) ≡ reaches (settled (unwinds mid))
    unfolding with_error
    comes = λ i. reaches (settled (unwinds
        (with_dictionary kept.store (address i)
        (with_error_entries error command (dictionary_at kept.store (address i))))))

    ends : settled (unwinds mid) ≡ with_status finished (with_line_of noted (unwinds mid))
    ends =
        ends_as (unwinds mid) none refl
        ∙ ap (λ (e : Dictionary). with_status finished (with_line_of e (unwinds mid)))
        (ap (dictionary_at mid) address ∙ dictionary_at-with kept.store birth _ noted there)

    -- with its line or without
    by_line : (b : Bool) → stands ≡ b → with_status finished (with_line_of noted (unwinds mid))
        ≡ ended after_end (machine.printed ++ end_line) (lines_after (Ends b) machine.error_lines)
    by_line true is =
        ap (λ (b : Bool). with_status finished
        (if b then with_line noted (unwinds mid) else unwinds mid))
        (new_where error command d ∙ is)
        ∙ (λ i. ended
        ((ap (λ (e : ℕ). with_dictionary mid e (told noted)) address
        ∙ (with_twice kept.store birth noted (told noted)
        ∙ ap (with_dictionary kept.store birth) (told_as error command d is))) i)
        (machine.printed ++ (line_is ∙ sym (ap (λ (b : Bool). if b then error_line_by kept.store
        (given_that_stands (errorname_stands (plan error command d))
        (literal_name (error_text error)))
        (given_that_stands (command_stands (plan error command d)) command)
        else []) is)) i)
        (machine.error_lines + 1))
    by_line false is =
        ap (λ (b : Bool). with_status finished
        (if b then with_line noted (unwinds mid) else unwinds mid))
        (new_where error command d ∙ is)
        ∙ (λ i. ended
        (ap (with_dictionary kept.store birth) (untold_as error command d is) i)
        ((sym (append-nil machine.printed)
        ∙ sym (ap (λ (b : Bool). machine.printed ++ (if b then error_line_by kept.store
        (given_that_stands (errorname_stands (plan error command d))
        (literal_name (error_text error)))
        (given_that_stands (command_stands (plan error command d)) command)
        else [])) is)) i)
        machine.error_lines)

    pub ends_by : after_turn refused machine (errs error command kept)
        ≡ reaches (settled (ended after_end (machine.printed ++ end_line)
        (lines_after (Ends stands) machine.error_lines)))
    ends_by =
        comes ∙ ap reaches (ends ∙ (by_line stands refl ∙ sym (finished_as _ refl)))
