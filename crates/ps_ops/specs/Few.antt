-- What an operator asks for is few records.
use Rattle.std.proofs.Common.{ℕ, ◌+◌, ◌<◌, arith, Bool, true, false, List, ◌∷◌}
use Rattle.std.specs.Prelude.{min, ◌==◌, Option, Some, None, length, if◌then◌else◌}
use Rattle.std.proofs.lemmas.Bool.Decides.{nat_tests}
use Rattle.ps_language.specs.declared.operators.Operator.{Operator}
use Rattle.ps_language.specs.declared.operators.Operator.TheVariants.{Put, Copy, PutInterval}
use Rattle.ps_language.specs.declared.operators.Operator.TheVariants.{Astore, Search, EndDict, Def}
use Rattle.ps_language.specs.declared.operators.Operator.TheVariants.{Store as StoreKey, Undef}
use Rattle.ps_language.specs.declared.operators.Operator.TheVariants.{NoAccess, ReadOnly, Cvs}
use Rattle.ps_language.specs.Access.{dictionary_at}
use Rattle.ps_language.specs.Acts.{effect_of}
use Rattle.ps_ops_sequences.specs.ArrayRows.{topmost_count}
use Rattle.ps_language.specs.Dictionaries.{current, look_up}
use Rattle.ps_language.specs.Effect.{Scene, Effect, unwinds, raises, calls}
use Rattle.ps_language.specs.Equality.{key_of}
use Rattle.ps_language.specs.Outcome.{Outcome, leaves, fails}
use Rattle.ps_language.specs.Readers.{as_dictionary}
use Rattle.ps_language.specs.RowsDictionaries.{storing_place}
use Rattle.ps_language.specs.RowsStack.{split_at_mark}
use Rattle.ps_language.specs.Texts.{plain_text}
use Rattle.ps_language.specs.Value.{Value, What, Store, Dictionary, integer_value, array_value}
use Rattle.ps_language.specs.Value.{string_value, dictionary_value}
use Rattle.ps_dict.specs.declared.copies.MergePlan.{MergePlan}
use Rattle.ps_dict.specs.declared.copies.MergePlan.TheVariants as merges
use Rattle.ps_dict.specs.declared.plans.PutPlan.{PutPlan}
use Rattle.ps_dict.specs.declared.plans.PutPlan.TheVariants as puts
use Rattle.ps_dict.specs.Merges.{merge_planned, records_of as merge_records}
use Rattle.ps_dict.specs.Places.{first_place}
use Rattle.ps_dict.specs.Puts.{planned, records_of as put_records}
use Rattle.ps_ops_operands.specs.Changes.{most_records}
use Rattle.ps_ops_state.specs.Acts.{Asked, IsFew, AreFew}
use Rattle.ps_ops_dictionaries.specs.Asks as dictionaries
use Rattle.ps_ops_dictionaries.specs.Asks.{put_asked, asked_into, put_asked_by, def_asked_by}
use Rattle.ps_ops_dictionaries.specs.Asks.{asked_where, store_asked_by, removal_asked}
use Rattle.ps_ops_dictionaries.specs.Asks.{undef_asked, undef_asked_by, end_dict_asked}
use Rattle.ps_ops_sequences.specs.declared.pairs.Sequence.{Sequence}
use Rattle.ps_ops_sequences.specs.declared.pairs.Sequence.TheVariants.{Arrays, Strings}
use Rattle.ps_ops_sequences.specs.Asks as sequences
use Rattle.ps_ops_sequences.specs.Asks.{asked_for, asked_in, asked_first, reduced_in}
use Rattle.ps_ops_sequences.specs.Asks.{reduced_first, search_asked}
use Rattle.ps_ops_values.specs.Asks.{cvs_asked}
use Rattle.ps_step_execute.proofs.Few.{none_few, either_few}
use Rattle.ps_ops.specs.Joins.{is_third_dictionary, is_first_dictionary}
use Rattle.ps_ops.specs.Operators.{row_now, asked_of}
use Rattle.ps_ops.specs.Turns.{asked_by, operator_asks}

-- ---- dictionaries

put_few : (plan : PutPlan) → put_records plan < most_records
put_few (puts.Replace place) = omega arith
put_few puts.Append = omega arith
put_few (puts.Grow capacity) = omega arith
put_few puts.Full = none_few

into_few : (scene : Scene) (d : Option Value) (k : Value) → IsFew (asked_into scene d k)
into_few scene None k = none_few
into_few scene (Some d) k = by (as_dictionary d)
  where
    by : (birth : Option ℕ) → IsFew (put_asked scene birth k)
    by (Some birth) = put_few (planned (dictionary_at scene.store birth) (key_of scene.store k))
    by None = none_few

third_few : (scene : Scene) (operands : List Value) → IsFew (put_asked_by scene operands)
third_few scene (x ∷ k ∷ d ∷ rest) = into_few scene (Some d) k
third_few scene operands = none_few

def_few : (scene : Scene) (operands : List Value) → IsFew (def_asked_by scene operands)
def_few scene (x ∷ k ∷ rest) = into_few scene (current scene.dictionaries) k
def_few scene operands = none_few

where_few : (scene : Scene) (found : Outcome (Option (Value × Value))) (k : Value)
    → IsFew (asked_where scene found k)
where_few scene (leaves found) k = into_few scene (storing_place found scene.dictionaries) k
where_few scene (fails error) k = none_few

store_few : (scene : Scene) (operands : List Value) → IsFew (store_asked_by scene operands)
store_few scene (x ∷ k ∷ rest) =
    where_few scene (look_up scene.store scene.dictionaries (key_of scene.store k)) k
store_few scene operands = none_few

removal_few : (d : Dictionary) (place : Option ℕ) → IsFew (removal_asked d place)
removal_few d None = none_few
removal_few d (Some place) = by (place + 1 == length d.pairs)
  where
    by : (is_last : Bool) → (if is_last then 3 else 4) < most_records
    by true = omega arith
    by false = omega arith

undef_few : (scene : Scene) (operands : List Value) → IsFew (undef_asked_by scene operands)
undef_few scene (k ∷ d ∷ rest) = by (as_dictionary d)
  where
    by : (birth : Option ℕ) → IsFew (undef_asked scene birth k)
    by (Some birth) =
        removal_few (dictionary_at scene.store birth)
        (first_place (dictionary_at scene.store birth).pairs (key_of scene.store k))
    by None = none_few
undef_few scene operands = none_few

merge_few : (plan : MergePlan) → merge_records plan < most_records
merge_few merges.Keep = none_few
merge_few (merges.Rewrite count) = omega arith
merge_few (merges.Grow count capacity) = omega arith
merge_few merges.Full = none_few

copied_few : (scene : Scene) (to from : Option ℕ) → IsFew (dictionaries.copy_asked scene to from)
copied_few scene (Some to) (Some from) =
    merge_few (merge_planned (dictionary_at scene.store to) (dictionary_at scene.store from))
copied_few scene to from = none_few

merged_few : (scene : Scene) (operands : List Value)
    → IsFew (dictionaries.copy_asked_by scene operands)
merged_few scene (y ∷ x ∷ rest) = copied_few scene (as_dictionary y) (as_dictionary x)
merged_few scene operands = none_few

ended_few : (parts : Option (List Value × List Value)) → IsFew (end_dict_asked parts)
ended_few (Some parts) = none_few
ended_few None = none_few

-- ---- arrays and strings

one_few : (count : ℕ) → min 1 count < most_records
one_few count = grind (arith, nat_tests)

sequence_few : (sequence : Sequence) (count : ℕ) → IsFew (asked_for sequence count)
sequence_few Arrays count = one_few count
sequence_few Strings count = one_few count

first_few : (operands : List Value) → IsFew (asked_first operands)
first_few (x ∷ rest) = by x.what
  where
    by : (what : What) → IsFew (asked_in what)
    by (array_value part) = sequence_few Arrays part.count
    by (string_value part) = sequence_few Strings part.count
    by what = none_few
first_few operands = none_few

copy_few : (operands : List Value) → IsFew (sequences.copy_asked_by operands)
copy_few (y ∷ rest) = by y.what
  where
    by : (what : What) → IsFew (sequences.copy_asked what rest)
    by (integer_value number) = none_few
    by what = first_few rest
copy_few operands = none_few

reduce_few : (operands : List Value) → IsFew (reduced_first operands)
reduce_few (x ∷ rest) = by x.what
  where
    by : (what : What) → IsFew (reduced_in what)
    by (dictionary_value birth) = omega arith
    by what = none_few
reduce_few operands = none_few

search_few : (operands : List Value) → IsFew (search_asked operands)
search_few (y ∷ x ∷ rest) = none_few
search_few operands = none_few

cvs_few : (store : Store) (operands : List Value) → IsFew (cvs_asked store operands)
cvs_few store (y ∷ x ∷ rest) = sequence_few Strings (length (plain_text store x))
cvs_few store operands = none_few

-- ---- all

asked_few : (operator : Operator) (scene : Scene) → IsFew (asked_of operator scene)
asked_few Put scene =
    either_few (is_third_dictionary scene.operands) _ _ (third_few scene scene.operands)
    (one_few 1)
asked_few Copy scene =
    either_few (is_first_dictionary scene.operands) _ _ (merged_few scene scene.operands)
    (copy_few scene.operands)
asked_few Def scene = def_few scene scene.operands
asked_few StoreKey scene = store_few scene scene.operands
asked_few Undef scene = undef_few scene scene.operands
asked_few EndDict scene = ended_few (split_at_mark scene.operands)
asked_few PutInterval scene = first_few scene.operands
asked_few ReadOnly scene = reduce_few scene.operands
asked_few NoAccess scene = reduce_few scene.operands
asked_few Astore scene = one_few (topmost_count scene.operands)
asked_few Search scene = search_few scene.operands
asked_few Cvs scene = cvs_few scene.store scene.operands
asked_few operator scene = none_few

-- an effect that comes before what is asked for asks for none
effect_few : (effect : Effect) (scene : Scene) (asks : Scene → Asked) → IsFew (asks scene)
    → IsFew (asked_by effect scene asks)
effect_few (raises error) scene asks few = none_few
effect_few (unwinds cause left) scene asks few = none_few
effect_few (calls deed) scene asks few = none_few
effect_few effect scene asks few = few

pub operator_few : AreFew operator_asks
operator_few operator around scene =
    effect_few (effect_of (row_now operator) around scene) scene (asked_of operator)
    (asked_few operator scene)
