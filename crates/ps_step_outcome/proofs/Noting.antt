-- The words of an error's entries, and what a note leaves.
use Rattle.std.proofs.Common.{◌≡◌, ◌≢◌, ℕ, zero, suc, ◌+◌, ◌≤◌, arith, Bool, false, List, [], ◌∷◌, map, Option, Some}
use Rattle.std.proofs.Common.{None, Ok, refl, sym, ap, subst}
use Rattle.std.specs.Prelude.{◌==◌, slice_get, codes}
use Rattle.std.specs.List.{AllPairs}
use Rattle.ps_language.specs.declared.errors.ErrorName.{ErrorName}
use Rattle.ps_language.specs.declared.kinds.Kind.TheVariants.{Dictionary as DictionaryKind}
use Rattle.ps_language.specs.Value.{Store}
use Rattle.ps_language.specs.Readers.{boolean, literal_name}
use Rattle.ps_language.specs.Access.{dictionary_at}
use Rattle.ps_language.specs.StepErrors.{error_text, with_error}
use Rattle.ps_language.specs.Worlds.{first_names}
use Rattle.ps_word.specs.declared.words.Word.{Word}
use Rattle.ps_word.specs.declared.values.Value.{Value as Packed}
use Rattle.ps_mem.specs.Heap.{Heap, Grants, birth_at}
use Rattle.ps_mem.specs.Keeps.{Keeps}
use Rattle.ps_mem.specs.References.{StandsAs}
use Rattle.ps_mem.specs.Meaning.{value_of}
use Rattle.ps_mem.specs.Shows.{IsValue, AreValues, IsSound, IsWithin, AreWithin, Shows, pair_of, words_of_pairs}
use Rattle.ps_dict.specs.declared.entries.ErrorEntries.{ErrorEntries}
use Rattle.ps_dict.specs.declared.entries.ErrorPlan.{ErrorPlan}
use Rattle.ps_dict.specs.Keys.{same_words}
use Rattle.ps_dict.specs.Puts.{AfterChange}
use Rattle.ps_dict.specs.Entries.{AreApart, added_by, added_records, entry_pairs, error_records, one_where_there}
use Rattle.ps_dict.proofs.Changing.{with-lengths}
use Rattle.ps_dict.proofs.Shapes.{there}
use Rattle.ps_ops_operands.specs.Plain.{IsPlain}
use Rattle.ps_ops_operands.specs.Changes.{KeepsLogsWithin, most_records}
use Rattle.ps_ops_operands.proofs.Ready.{plain_value, plain_within}
use Rattle.ps_ops_operands.specs.FirstNames.{BeginWithFirst}
use Rattle.ps_ops_types.proofs.First.{name_held, name_met, name_within}
use Rattle.ps_step_outcome.specs.Entries.{IsNamed, entries_with}
use Rattle.ps_step_outcome.specs.Turns.{Notes}
use Rattle.ps_ops_state.proofs.Meeting.{logs_more, logs_then}

-- ---- words

pub newerror_first : slice_get first_names 27 ≡ Some (codes "newerror")
unfolding first_names
newerror_first = refl

pub errorname_first : slice_get first_names 28 ≡ Some (codes "errorname")
unfolding first_names
errorname_first = refl

pub command_first : slice_get first_names 29 ≡ Some (codes "command")
unfolding first_names
command_first = refl

apart : (one other : Word) (a b : ℕ) → IsNamed a one → IsNamed b other → (a == b) ≡ false
    → same_words one other ≡ false
unfolding same_words
apart one other a b first second differ =
    let left = ap (λ (packed : Packed). packed.content) first.is in
    let right = ap (λ (packed : Packed). packed.content) second.is in
    rw (left, right) differ

pub named_held : (h : Heap) (n : ℕ) (w : Word) → IsNamed n w → IsValue h w
named_held h n w named = name_held w n false named.is h named.word

module _ (names : List (List ℕ)) (met : BeginWithFirst names) (births : ℕ → ℕ) (n : ℕ) (w : Word)
    (text : List ℕ) (named : IsNamed n w) (at : slice_get first_names n ≡ Some text) where
  pub named_within : (store : Store) → IsWithin births names store w
  named_within store = name_within w n false named.is text at names met births store

  pub named_met : value_of births names w ≡ literal_name text
  named_met = name_met w n false named.is text at names met births

-- the entries of an error by the number of its name
pub record AreNumbered (new : Bool) (by : Word) (number : ℕ) (entries : ErrorEntries) : Type 0
  where
    pub newerror : IsNamed 27 entries.newerror.0
    pub truth : (births : ℕ → ℕ) (names : List (List ℕ))
        → value_of births names entries.newerror.1 ≡ boolean new
    pub plain : IsPlain entries.newerror.1
    pub errorname : IsNamed 28 entries.errorname.0
    pub name : IsNamed number entries.errorname.1
    pub command : IsNamed 29 entries.command.0
    pub is : entries.command.1 ≡ by

module _ (new : Bool) (by : Word) (number : ℕ) (entries : ErrorEntries)
    (are : AreNumbered new by number entries) where
  pub entries_apart : AreApart entries
  entries_apart = record {
    errorname = apart entries.newerror.0 entries.errorname.0 _ _ are.newerror are.errorname refl;
    command = apart entries.newerror.0 entries.command.0 _ _ are.newerror are.command refl;
    last = apart entries.errorname.0 entries.command.0 _ _ are.errorname are.command refl;
  }

  held : (h : Heap) (n : ℕ) (w : Word) → IsNamed n w → IsValue h w
  held h n w named = name_held w n false named.is h named.word

  pub entries_held : (h : Heap) → IsValue h by
      → AreValues h (words_of_pairs (entry_pairs entries))
  entries_held h known = (
    held h _ _ are.newerror,
    (
      plain_value h _ are.plain,
      (
        held h _ _ are.errorname,
        (held h _ _ are.name, (held h _ _ are.command, (subst (IsValue h) (sym are.is) known, tt))),
      ),
    ),
  )

  module _ (error : ErrorName) (first : slice_get first_names number ≡ Some (error_text error))
      (names : List (List ℕ)) (met : BeginWithFirst names) where
    within : (births : ℕ → ℕ) (store : Store) (n : ℕ) (w : Word) (text : List ℕ) → IsNamed n w
        → slice_get first_names n ≡ Some text → IsWithin births names store w
    within births store n w text named at =
        name_within w n false named.is text at names met births store

    value : (births : ℕ → ℕ) (n : ℕ) (w : Word) (text : List ℕ) → IsNamed n w
        → slice_get first_names n ≡ Some text → value_of births names w ≡ literal_name text
    value births n w text named at = name_met w n false named.is text at names met births

    pub entries_within : (h : Heap) (store : Store) → IsWithin (birth_at h) names store by
        → AreWithin h names store (words_of_pairs (entry_pairs entries))
    entries_within h store inside =
        let b = birth_at h in (
          within b store _ _ _ are.newerror newerror_first,
          (
            plain_within b names store _ are.plain,
            (
              within b store _ _ _ are.errorname errorname_first,
              (
                within b store _ _ _ are.name first,
                (
                  within b store _ _ _ are.command command_first,
                  (subst (IsWithin b names store) (sym are.is) inside, tt),
                ),
              ),
            ),
          ),
        )

    pub entries_met : (births : ℕ → ℕ) → map (pair_of births names) (entry_pairs entries)
        ≡ entries_with new error (value_of births names by)
    entries_met b = λ i.
        (value b _ _ _ are.newerror newerror_first i, are.truth b names i)
        ∷ (value b _ _ _ are.errorname errorname_first i, value b _ _ _ are.name first i)
        ∷ (value b _ _ _ are.command command_first i, value_of b names (are.is i)) ∷ []

-- ---- records

at_most_one : (place : Option ℕ) → one_where_there place ≤ 1
at_most_one (Some at) = omega arith
at_most_one None = omega arith

added_few : (n : ℕ) → added_records n ≤ n + 2
added_few zero = omega arith
added_few (suc n) = omega arith

none_added : (n : ℕ) → n ≡ 0 → added_records n ≡ 0
none_added zero is = refl
none_added (suc n) is = absurd (omega (arith, is))

pub few_records : (plan : ErrorPlan) → error_records plan ≤ most_records
few_records plan =
    let one = at_most_one plan.newerror in
    let two = at_most_one plan.errorname in
    let three = at_most_one plan.command in
    let added = added_few (added_by plan) in
    let none = none_added (added_by plan) in
    omega (arith, one, two, three, added, none)

-- ---- notes

module _ (slot : ℕ) (asked mid : Grants) (same : mid ≡ record asked { records = mid.records })
    (others : (s : ℕ) → s ≢ slot → mid.records s ≡ asked.records s)
    (more : asked.records slot ≤ mid.records slot) where
  pub logs_asked : KeepsLogsWithin 0 asked mid slot
  logs_asked =
      let put : mid.put slot ≡ asked.put slot = ap (λ (g : Grants). g.put slot) same in
      record {
        cycle_open = ap (λ (g : Grants). g.cycle_open) same;
        closed = ap (λ (g : Grants). g.closed) same;
        others = others;
        used = omega (arith, more);
        kept = omega (arith, put);
        put = omega (arith, put);
        put_no_other = λ s other. ap (λ (g : Grants). g.put s) same;
      }

  -- a change that stores so often
  pub logs_changed : (left : Grants) (stores : ℕ) → AfterChange mid left slot stores 0
      → KeepsLogsWithin stores asked left slot
  logs_changed left stores after =
      logs_then 0 stores stores asked mid left slot (omega arith) logs_asked (record {
        cycle_open = after.cycle_open;
        closed = after.closed;
        others = after.others;
        used = after.used;
        kept = after.kept;
        put = after.put;
        put_no_other = after.put_no_other;
      })

  -- that of a note stores at most five times
  pub logs_noted : (left : Grants) (plan : ErrorPlan)
      → AfterChange mid left slot (error_records plan) 0
      → KeepsLogsWithin most_records asked left slot
  logs_noted left plan after =
      logs_more (error_records plan) most_records asked left slot (few_records plan)
      (logs_changed left (error_records plan) after)

module _ (error : ErrorName) (command : Word) (slot address : ℕ) (h : Heap)
    (asked mid : Grants) (same : mid ≡ record asked { records = mid.records })
    (others : (s : ℕ) → s ≢ slot → mid.records s ≡ asked.records s)
    (more : asked.records slot ≤ mid.records slot) where
  -- it is made
  pub noted : (sound : IsSound h) (stands : StandsAs h DictionaryKind address 4) (new : Heap)
      (left : Grants) → IsSound new → Keeps h new → (plan : ErrorPlan)
      → AfterChange mid left slot (error_records plan) 0
      → ((names : List (List ℕ)) (s : Store) → BeginWithFirst names
      → AllPairs (λ one later. one ≢ later) names → Shows h names s
      → IsWithin (birth_at h) names s command
      → Shows new names
      (with_error error (value_of (birth_at h) names command) (birth_at h address) s))
      → Notes error command slot address (Ok tt) h new asked left
  unfolding with_error
  noted sound stands new left well keeps plan after shown =
      record {
        did = record {
          meets = λ names s met distinct shows within. (
            shown names s met distinct shows within,
            with-lengths s (birth_at h address) (dictionary_at s (birth_at h address)) _
                (there h address stands sound names s shows),
          );
        };
        sound = well;
        keeps = keeps;
        logs = logs_noted slot asked mid same others more left plan after;
      }
