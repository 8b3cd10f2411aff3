-- A token that forms no name is done as its word.
use Rattle.std.proofs.Common.{◌≡◌, ℕ, ◌≤◌, Bool, true, false, List, [], ◌∷◌, length, Some, refl, sym, ap, ◌∙◌}
use Rattle.std.specs.Prelude.{ℤ}
use Rattle.ps_language.specs.Dictionaries.{form, meet}
use Rattle.ps_language.specs.Limits.{name_limit}
use Rattle.ps_language.specs.Readers.{integer, executable_name}
use Rattle.ps_language.specs.StepTokens.{token_done}
use Rattle.ps_language.specs.StepValues.{done, is_executable_name}
use Rattle.ps_language.specs.Token.{number_token, literal_name_token, executable_name_token}
use Rattle.ps_language.specs.Value.{name_value, Value}
use Rattle.ps_word.specs.declared.words.Word.{Word}
use Rattle.ps_ops_operands.specs.Plain.{IsPlain}
use Rattle.ps_mem.specs.Heap.{birth_at}
use Rattle.ps_mem.specs.Meaning.{value_of}
use Rattle.ps_names.specs.Names.{AreNames}
use Rattle.ps_names.proofs.Places.{meet_known}
use Rattle.ps_ops_operands.proofs.Ready.{plain_value, plain_within}
use Rattle.ps_ops_state.specs.Lent.{Lent, scene_of, around_of}
use Rattle.ps_step_execute.specs.Values.{meaning, done_asks}
use Rattle.ps_step_tokens.specs.Words.{IsMet, IsDoneAs}
use Rattle.ps_step_tokens.proofs.Naming.{met_formed}

-- ---- a number

pub number_done : (names : List (List ℕ)) (w : Word) (number : ℤ) → IsPlain w
    → ((births : ℕ → ℕ) (names : List (List ℕ)) → value_of births names w ≡ integer number)
    → IsDoneAs names (number_token number) w
unfolding token_done is_executable_name
number_done names w number plain means = record {
  held = λ heap. plain_value heap w plain;
  within = λ births s. plain_within births names s w plain;
  turn = λ l s same.
      let is : meaning l w ≡ integer number = means (birth_at l.heap) l.names in
      sym (λ i. done (is i) (is i) (around_of l) (scene_of l s));
  asked = λ asks l s same.
      let is : meaning l w ≡ integer number = means (birth_at l.heap) l.names in
      sym (ap (λ (v : Value). done_asks asks v (around_of l) (scene_of l s)) is);
}

-- ---- a name that was met

module _ (names : List (List ℕ)) (text : List ℕ) (w : Word) (are : AreNames names)
    (short : length text ≤ name_limit) where
  module _ (executable : Bool) (met : IsMet names text executable w) (l : Lent)
      (same : l.names ≡ names) where
    means_here : meaning l w ≡ record { what = name_value text; executable = executable }
    means_here = rw same (met.means (birth_at l.heap))

    met_here : meet l.names text ≡ l.names
    met_here = rw same (sym (meet_known text names met.number met.at))

    formed_here : form l.names (text ∷ []) ≡ Some l.names
    formed_here =
        rw same
        (met_formed names text are short names (meet_known text names met.number met.at) are)

  pub literal_done : IsMet names text false w → IsDoneAs names (literal_name_token text) w
  unfolding token_done is_executable_name
  literal_done met = record {
    held = met.held;
    within = met.within;
    turn = λ l s same.
        let is = means_here false met l same in
        sym ((λ i. done (is i) (is i) (around_of l) (scene_of l s))
        ∙ rw (formed_here false met l same) refl);
    asked = λ asks l s same.
        sym (ap (λ (v : Value). done_asks asks v (around_of l) (scene_of l s))
        (means_here false met l same));
  }

  pub executable_done : IsMet names text true w → IsDoneAs names (executable_name_token text) w
  unfolding token_done is_executable_name
  executable_done met = record {
    held = met.held;
    within = met.within;
    turn = λ l s same.
        let is = means_here true met l same in
        sym ((λ i. done (is i) (is i) (around_of l) (scene_of l s))
        ∙ rw (formed_here true met l same) refl);
    asked = λ asks l s same.
        ap (λ (ns : List (List ℕ)). done_asks asks (executable_name text) (around_of l)
        (record (scene_of l s) { names = ns })) (met_here true met l same)
        ∙ sym (ap (λ (v : Value). done_asks asks v (around_of l) (scene_of l s))
        (means_here true met l same));
  }
