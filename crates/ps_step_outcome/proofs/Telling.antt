-- $error at the end of a context: what the line shows, and that it is new no more (PLRM2, 3.10).
use Rattle.std.proofs.Common.{◌≡◌, ℕ, ◌+◌, ◌-◌, arith, Bool, true, false, Option, Some, None, refl, sym, ap, ◌∙◌}
use Rattle.std.proofs.Common.{true≢false}
use Rattle.std.specs.Option.{option_map_or}
use Rattle.std.specs.Prelude.{◌||◌, is_some, nat_lt, if◌then◌else◌, codes}
use Rattle.ps_language.specs.declared.errors.ErrorName.{ErrorName}
use Rattle.ps_language.specs.Value.{Value, Dictionary}
use Rattle.ps_language.specs.Readers.{boolean, literal_name}
use Rattle.ps_language.specs.Dictionaries.{find}
use Rattle.ps_language.specs.StepErrors.{newerror_key, errorname_key, command_key, error_text, with_entry}
use Rattle.ps_language.specs.StepErrors.{with_error_entries, truth_in, has_new_error, told}
use Rattle.ps_dict.specs.declared.entries.ErrorPlan.{ErrorPlan}
use Rattle.ps_dict.specs.Places.{first_place}
use Rattle.ps_dict.specs.Entries.{error_planned, with_entries}
use Rattle.ps_step_outcome.specs.Ends.{vacant, newerror_stands, errorname_stands, command_stands, given_that_stands}
use Rattle.ps_step_outcome.specs.Entries.{entries_with}
use Rattle.ps_step_outcome.proofs.Entered.{AreKeysApart, names_apart, name_same, enters, room_in, lacking, left_out}
use Rattle.ps_step_outcome.proofs.Entered.{entry_found, entry_other, entry_room, enters_after, changed-twice, changed-before}
use Rattle.ps_step_outcome.proofs.Entered.{place_found}

-- the keys are apart
name_by : AreKeysApart newerror_key errorname_key
name_by = names_apart (codes "newerror") (codes "errorname") refl

by_name : AreKeysApart errorname_key newerror_key
by_name = names_apart (codes "errorname") (codes "newerror") refl

command_by : AreKeysApart newerror_key command_key
command_by = names_apart (codes "newerror") (codes "command") refl

by_command : AreKeysApart command_key newerror_key
by_command = names_apart (codes "command") (codes "newerror") refl

command_name : AreKeysApart errorname_key command_key
command_name = names_apart (codes "errorname") (codes "command") refl

name_command : AreKeysApart command_key errorname_key
name_command = names_apart (codes "command") (codes "errorname") refl

vacant_as : (place : Option ℕ) (found : Option Value) → is_some place ≡ is_some found
    → vacant place ≡ lacking found
vacant_as (Some p) (Some v) same = refl
vacant_as None None same = refl
vacant_as (Some p) None same = absurd (true≢false same)
vacant_as None (Some v) same = absurd (true≢false (sym same))

module _ (error : ErrorName) (command : Value) (d : Dictionary) where
  abbrev pub plan : ErrorPlan
  plan = error_planned d newerror_key errorname_key command_key

  -- the dictionary with the entries, by the value of newerror
  abbrev one : Bool → Dictionary
  one new = with_entry newerror_key (boolean new) d

  abbrev two : Bool → Dictionary
  two new = with_entry errorname_key (literal_name (error_text error)) (one new)

  abbrev three : Bool → Dictionary
  three new = with_entry command_key command (two new)

  place : (key : Value) → is_some (first_place d.pairs key) ≡ is_some (find d.pairs key)
  place key = place_found d.pairs key

  enters_first : newerror_stands plan ≡ enters newerror_key d
  unfolding error_planned
  enters_first = ap (λ b. b || nat_lt 0 (room_in d)) (place newerror_key)

  first_found : find (three true).pairs newerror_key
      ≡ (if enters newerror_key d then Some (boolean true) else None)
  first_found =
      entry_other command_key command (two true) newerror_key by_command
      ∙ (entry_other errorname_key (literal_name (error_text error)) (one true) newerror_key by_name
      ∙ entry_found newerror_key (boolean true) d (name_same _))

  -- the error is new where its entry stands
  pub new_where : has_new_error (with_error_entries error command d) ≡ newerror_stands plan
  unfolding has_new_error
  new_where =
      ap (λ found. option_map_or (λ (value : Value). truth_in value.what) found false) first_found
      ∙ (by (enters newerror_key d) ∙ sym enters_first)
    where
      by : (b : Bool) → option_map_or (λ (value : Value). truth_in value.what)
          (if b then Some (boolean true) else None) false ≡ b
      by true = refl
      by false = refl

  -- the error's name
  pub errorname_found : find (with_error_entries error command d).pairs errorname_key
      ≡ given_that_stands (errorname_stands plan) (literal_name (error_text error))
  unfolding error_planned
  errorname_found =
      entry_other command_key command (two true) errorname_key name_command
      ∙ (entry_found errorname_key (literal_name (error_text error)) (one true) (name_same _)
      ∙ ap (λ b. if b then Some (literal_name (error_text error)) else None)
      (enters_after newerror_key (boolean true) errorname_key d name_by
      ∙ (λ i. sym (place errorname_key) i
      || nat_lt (sym (vacant_as _ _ (place newerror_key)) i) (room_in d))))

  -- and its command
  pub command_found : find (with_error_entries error command d).pairs command_key
      ≡ given_that_stands (command_stands plan) command
  unfolding error_planned
  command_found =
      let name : Value = literal_name (error_text error) in
      entry_found command_key command (two true) (name_same _)
      ∙ ap (λ b. if b then Some command else None)
      (enters_after errorname_key name command_key (one true) command_name
      ∙ ((λ i. is_some (entry_other newerror_key (boolean true) d command_key command_by i)
      || nat_lt (lacking (entry_other newerror_key (boolean true) d errorname_key name_by i))
      (entry_room newerror_key (boolean true) d i))
      ∙ ((λ i. sym (place command_key) i
      || nat_lt (sym (vacant_as _ _ (place errorname_key)) i)
      (room_in d - sym (vacant_as _ _ (place newerror_key)) i))
      ∙ ap (λ b. is_some (first_place d.pairs command_key) || b)
      (less (vacant (first_place d.pairs newerror_key))
      (vacant (first_place d.pairs errorname_key)) (room_in d)))))
    where
      less : (few more room : ℕ) → nat_lt more (room - few) ≡ nat_lt (few + more) room
      less few more room = grind arith

  -- it is told: new no more
  pub told_as : newerror_stands plan ≡ true
      → told (with_error_entries error command d) ≡ with_entries (entries_with false error command) d
  told_as stands =
      let name : Value = literal_name (error_text error) in
      let in_it : enters newerror_key d ≡ true = sym enters_first ∙ stands in
      let there : is_some (find (one true).pairs newerror_key) ≡ true =
      ap is_some (entry_found newerror_key (boolean true) d (name_same _)
      ∙ ap (λ b. if b then Some (boolean true) else None) in_it) in
      let still : is_some (find (two true).pairs newerror_key) ≡ true =
      ap is_some (entry_other errorname_key name (one true) newerror_key by_name) ∙ there in
      changed-before command_key command newerror_key (boolean false) (two true) by_command
      command_by still
      ∙ ap (with_entry command_key command)
      (changed-before errorname_key name newerror_key (boolean false) (one true) by_name name_by
      there
      ∙ ap (with_entry errorname_key name)
      (changed-twice newerror_key (boolean true) (boolean false) d (name_same _) in_it))

  -- no line is told where there is no room for it
  pub untold_as : newerror_stands plan ≡ false
      → with_error_entries error command d ≡ with_entries (entries_with false error command) d
  untold_as stands =
      let out : enters newerror_key d ≡ false = sym enters_first ∙ stands in
      ap (λ (x : Dictionary). with_entry command_key command
      (with_entry errorname_key (literal_name (error_text error)) x))
      (left_out newerror_key (boolean true) d out
      ∙ sym (left_out newerror_key (boolean false) d out))
