-- Words that are locks and conditions, and what stands where.
use Rattle.std.proofs.Common.{◌≡◌, ℕ, List, Some, None, true, refl, sym, ap, subst}
use Rattle.std.specs.Prelude.{IsSome}
use Rattle.ps_language.specs.declared.kinds.Kind.{Kind}
use Rattle.ps_language.specs.declared.kinds.Kind.TheVariants.{Lock as LockKind, Condition as ConditionKind}
use Rattle.ps_word.specs.declared.words.Word.{Word}
use Rattle.ps_word.specs.declared.values.Content.{Content}
use Rattle.ps_word.specs.declared.values.Content.TheVariants.{Null, Integer, Boolean, Mark, Name, Operator, Array, Text}
use Rattle.ps_word.specs.declared.values.Content.TheVariants.{Dictionary, Lock, Condition, Body}
use Rattle.ps_word.specs.Format.{content_in}
use Rattle.ps_language.specs.StepValues.{name_in}
use Rattle.ps_language.specs.Texts.{plain_text, plain_text_in}
use Rattle.ps_language.specs.Value.{Store}
use Rattle.ps_word.specs.Readers.{as_lock, as_condition, as_name}
use Rattle.ps_mem.specs.Heap.{Heap, object_at}
use Rattle.ps_mem.specs.Meaning.{value_of, what_of, text_of_name}
use Rattle.ps_mem.specs.References.{StandsAs, IsKnownContent, IsKnown}
use Rattle.ps_mem.specs.Shows.{IsValue}
use Rattle.ps_states.specs.States.{told_birth}

-- what stands as something stands
pub stands_some : {h : Heap} {kind : Kind} {address fields : ℕ} → StandsAs h kind address fields
    → IsSome (object_at h address)
stands_some stands = subst IsSome (sym stands.at) refl

lock_known : (h : Heap) (c : Content) (address : ℕ) → Some address ≡ as_lock c → IsKnownContent h c
    → StandsAs h LockKind address 1
lock_known h (Lock a) address is known = subst (λ (x : ℕ). StandsAs h LockKind x 1) (let e : a ≡ address = cc in e) known
lock_known h Null address is known = cc
lock_known h (Integer _) address is known = cc
lock_known h (Boolean _) address is known = cc
lock_known h Mark address is known = cc
lock_known h (Name _) address is known = cc
lock_known h (Operator _) address is known = cc
lock_known h (Array _) address is known = cc
lock_known h (Text _) address is known = cc
lock_known h (Dictionary _) address is known = cc
lock_known h (Condition _) address is known = cc
lock_known h (Body _) address is known = cc

condition_known : (h : Heap) (c : Content) (address : ℕ) → Some address ≡ as_condition c
    → IsKnownContent h c → StandsAs h ConditionKind address 1
condition_known h (Condition a) address is known =
    subst (λ (x : ℕ). StandsAs h ConditionKind x 1) (let e : a ≡ address = cc in e) known
condition_known h Null address is known = cc
condition_known h (Integer _) address is known = cc
condition_known h (Boolean _) address is known = cc
condition_known h Mark address is known = cc
condition_known h (Name _) address is known = cc
condition_known h (Operator _) address is known = cc
condition_known h (Array _) address is known = cc
condition_known h (Text _) address is known = cc
condition_known h (Dictionary _) address is known = cc
condition_known h (Lock _) address is known = cc
condition_known h (Body _) address is known = cc

-- the lock and the condition that a value is
pub lock_stands : (h : Heap) (w : Word) (address : ℕ) → Some address ≡ as_lock (content_in w.0)
    → IsValue h w → StandsAs h LockKind address 1
unfolding IsKnown
lock_stands h w address is held = lock_known h (content_in w.0) address is held.known

pub condition_stands : (h : Heap) (w : Word) (address : ℕ)
    → Some address ≡ as_condition (content_in w.0) → IsValue h w → StandsAs h ConditionKind address 1
unfolding IsKnown
condition_stands h w address is held = condition_known h (content_in w.0) address is held.known

-- the birth numbers that are told behind them
module _ (births : ℕ → ℕ) (names : List (List ℕ)) where
  lock_meant : (c : Content) (address : ℕ) → Some address ≡ as_lock c
      → Some (births address) ≡ told_birth (what_of births names c)
  lock_meant (Lock a) address is = cc
  lock_meant Null address is = cc
  lock_meant (Integer _) address is = cc
  lock_meant (Boolean _) address is = cc
  lock_meant Mark address is = cc
  lock_meant (Name _) address is = cc
  lock_meant (Operator _) address is = cc
  lock_meant (Array _) address is = cc
  lock_meant (Text _) address is = cc
  lock_meant (Dictionary _) address is = cc
  lock_meant (Condition _) address is = cc
  lock_meant (Body _) address is = cc

  condition_meant : (c : Content) (address : ℕ) → Some address ≡ as_condition c
      → Some (births address) ≡ told_birth (what_of births names c)
  condition_meant (Condition a) address is = cc
  condition_meant Null address is = cc
  condition_meant (Integer _) address is = cc
  condition_meant (Boolean _) address is = cc
  condition_meant Mark address is = cc
  condition_meant (Name _) address is = cc
  condition_meant (Operator _) address is = cc
  condition_meant (Array _) address is = cc
  condition_meant (Text _) address is = cc
  condition_meant (Dictionary _) address is = cc
  condition_meant (Lock _) address is = cc
  condition_meant (Body _) address is = cc

  none_meant : (c : Content) → None ≡ as_lock c → None ≡ as_condition c
      → None ≡ told_birth (what_of births names c)
  none_meant (Lock a) no_lock no_condition = cc
  none_meant (Condition a) no_lock no_condition = cc
  none_meant Null no_lock no_condition = refl
  none_meant (Integer _) no_lock no_condition = refl
  none_meant (Boolean _) no_lock no_condition = refl
  none_meant Mark no_lock no_condition = refl
  none_meant (Name _) no_lock no_condition = refl
  none_meant (Operator _) no_lock no_condition = refl
  none_meant (Array _) no_lock no_condition = refl
  none_meant (Text _) no_lock no_condition = refl
  none_meant (Dictionary _) no_lock no_condition = refl
  none_meant (Body _) no_lock no_condition = refl

  pub lock_told : (w : Word) (address : ℕ) → Some address ≡ as_lock (content_in w.0)
      → Some (births address) ≡ told_birth (value_of births names w).what
  unfolding value_of
  lock_told w address is = lock_meant (content_in w.0) address is

  pub condition_told : (w : Word) (address : ℕ) → Some address ≡ as_condition (content_in w.0)
      → Some (births address) ≡ told_birth (value_of births names w).what
  unfolding value_of
  condition_told w address is = condition_meant (content_in w.0) address is

  pub none_told : (w : Word) → None ≡ as_lock (content_in w.0) → None ≡ as_condition (content_in w.0)
      → None ≡ told_birth (value_of births names w).what
  unfolding value_of
  none_told w no_lock no_condition = none_meant (content_in w.0) no_lock no_condition

  -- the text of a name, and that what has no name is none
  name_meant : (s : Store) (c : Content) (number : ℕ) → Some number ≡ as_name c
      → text_of_name names number ≡ plain_text_in s (what_of births names c)
  name_meant s (Name n) number is = let e : number ≡ n = cc in ap (text_of_name names) e
  name_meant s Null number is = cc
  name_meant s (Integer _) number is = cc
  name_meant s (Boolean _) number is = cc
  name_meant s Mark number is = cc
  name_meant s (Operator _) number is = cc
  name_meant s (Array _) number is = cc
  name_meant s (Text _) number is = cc
  name_meant s (Dictionary _) number is = cc
  name_meant s (Lock _) number is = cc
  name_meant s (Condition _) number is = cc
  name_meant s (Body _) number is = cc

  pub name_plain : (s : Store) (w : Word) (number : ℕ) → Some number ≡ as_name (content_in w.0)
      → text_of_name names number ≡ plain_text s (value_of births names w)
  unfolding value_of plain_text
  name_plain s w number is = name_meant s (content_in w.0) number is

  nameless : (c : Content) → None ≡ as_name c → name_in (what_of births names c) ≡ true → ⊥
  nameless (Name n) none is = cc
  nameless Null none is = cc
  nameless (Integer _) none is = cc
  nameless (Boolean _) none is = cc
  nameless Mark none is = cc
  nameless (Operator _) none is = cc
  nameless (Array _) none is = cc
  nameless (Text _) none is = cc
  nameless (Dictionary _) none is = cc
  nameless (Lock _) none is = cc
  nameless (Condition _) none is = cc
  nameless (Body _) none is = cc

  pub no_name : (w : Word) → None ≡ as_name (content_in w.0)
      → name_in (value_of births names w).what ≡ true → ⊥
  unfolding value_of
  no_name w none is = nameless (content_in w.0) none is
