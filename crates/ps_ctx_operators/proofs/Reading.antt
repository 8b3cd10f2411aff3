-- What words are, as locks and conditions.
use Rattle.std.proofs.Common.{◌≡◌, ℕ, List, refl}
use Rattle.std.specs.Prelude.{IfSome, option_map}
use Rattle.ps_language.specs.declared.kinds.Kind.TheVariants.{Lock as LockKind, Condition as ConditionKind}
use Rattle.ps_language.specs.Owners.{lock_in, condition_in, as_lock, as_condition}
use Rattle.ps_word.specs.declared.words.Word.{Word}
use Rattle.ps_word.specs.declared.values.Content.{Content}
use Rattle.ps_word.specs.declared.values.Content.TheVariants.{Null, Integer, Boolean, Mark, Name, Operator, Array, Text}
use Rattle.ps_word.specs.declared.values.Content.TheVariants.{Dictionary, Lock, Condition, Body}
use Rattle.ps_word.specs.Format.{content_in}
use Rattle.ps_word.specs.Readers as words
use Rattle.ps_mem.specs.Heap.{Heap}
use Rattle.ps_mem.specs.References.{StandsAs, IsKnown, IsKnownContent}
use Rattle.ps_mem.specs.Meaning.{value_of, what_of}
use Rattle.ps_mem.specs.Shows.{IsValue}

module _ (births : ℕ → ℕ) (names : List (List ℕ)) where
  lock_meant : (c : Content)
      → lock_in (what_of births names c) ≡ option_map births (words.as_lock c)
  lock_meant Null = refl
  lock_meant (Integer number) = refl
  lock_meant (Boolean truth) = refl
  lock_meant Mark = refl
  lock_meant (Name number) = refl
  lock_meant (Operator operator) = refl
  lock_meant (Array part) = refl
  lock_meant (Text part) = refl
  lock_meant (Dictionary address) = refl
  lock_meant (Lock address) = refl
  lock_meant (Condition address) = refl
  lock_meant (Body address) = refl

  condition_meant : (c : Content)
      → condition_in (what_of births names c) ≡ option_map births (words.as_condition c)
  condition_meant Null = refl
  condition_meant (Integer number) = refl
  condition_meant (Boolean truth) = refl
  condition_meant Mark = refl
  condition_meant (Name number) = refl
  condition_meant (Operator operator) = refl
  condition_meant (Array part) = refl
  condition_meant (Text part) = refl
  condition_meant (Dictionary address) = refl
  condition_meant (Lock address) = refl
  condition_meant (Condition address) = refl
  condition_meant (Body address) = refl

  pub as_lock-value : (w : Word)
      → as_lock (value_of births names w) ≡ option_map births (words.as_lock (content_in w.0))
  unfolding as_lock value_of
  as_lock-value w = lock_meant (content_in w.0)

  pub as_condition-value : (w : Word) → as_condition (value_of births names w)
      ≡ option_map births (words.as_condition (content_in w.0))
  unfolding as_condition value_of
  as_condition-value w = condition_meant (content_in w.0)

lock_stands : (h : Heap) (c : Content) → IsKnownContent h c
    → IfSome (words.as_lock c) (λ address. StandsAs h LockKind address 1)
lock_stands h Null known = tt
lock_stands h (Integer number) known = tt
lock_stands h (Boolean truth) known = tt
lock_stands h Mark known = tt
lock_stands h (Name number) known = tt
lock_stands h (Operator operator) known = tt
lock_stands h (Array part) known = tt
lock_stands h (Text part) known = tt
lock_stands h (Dictionary address) known = tt
lock_stands h (Lock address) known = known
lock_stands h (Condition address) known = tt
lock_stands h (Body address) known = tt

condition_stands : (h : Heap) (c : Content) → IsKnownContent h c
    → IfSome (words.as_condition c) (λ address. StandsAs h ConditionKind address 1)
condition_stands h Null known = tt
condition_stands h (Integer number) known = tt
condition_stands h (Boolean truth) known = tt
condition_stands h Mark known = tt
condition_stands h (Name number) known = tt
condition_stands h (Operator operator) known = tt
condition_stands h (Array part) known = tt
condition_stands h (Text part) known = tt
condition_stands h (Dictionary address) known = tt
condition_stands h (Lock address) known = tt
condition_stands h (Condition address) known = known
condition_stands h (Body address) known = tt

pub as_lock-stands : (h : Heap) (w : Word) → IsValue h w
    → IfSome (words.as_lock (content_in w.0)) (λ address. StandsAs h LockKind address 1)
unfolding IsKnown
as_lock-stands h w value = lock_stands h (content_in w.0) value.known

pub as_condition-stands : (h : Heap) (w : Word) → IsValue h w
    → IfSome (words.as_condition (content_in w.0)) (λ address. StandsAs h ConditionKind address 1)
unfolding IsKnown
as_condition-stands h w value = condition_stands h (content_in w.0) value.known

pub ruleset lock_lemmas = (as_lock-value, as_lock-stands)

pub ruleset condition_lemmas = (as_condition-value, as_condition-stands)
