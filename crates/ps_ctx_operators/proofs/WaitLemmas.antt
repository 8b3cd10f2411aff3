-- What `wait` leaves: the lock of the caller is freed.
use Rattle.std.proofs.Common.{◌≡◌, ℕ, arith, true, false, List, [], drop, Some, None, refl}
use Rattle.ps_language.specs.declared.errors.ErrorName.TheVariants.{InvalidContext}
use Rattle.ps_language.specs.declared.kinds.Kind.TheVariants.{Lock as LockKind}
use Rattle.ps_language.specs.Value.{Store}
use Rattle.ps_language.specs.Effect.{makes, raises}
use Rattle.ps_language.specs.Owners.{as_lock, as_condition, owner_of, with_owner, is_owner}
use Rattle.ps_stacks.specs.Tops.{first_two_of}
use Rattle.ps_word.specs.declared.words.Word.{Word}
use Rattle.ps_mem.specs.Heap.{Heap, Grants, birth_at}
use Rattle.ps_mem.specs.References.{StandsAs}
use Rattle.ps_mem.specs.Meaning.{value_of}
use Rattle.ps_mem.specs.Shows.{IsWithin, Shows}
use Rattle.ps_ops_operands.specs.declared.failure.NotMade.{NotMade as Reason}
use Rattle.ps_ops_operands.specs.Changes.{values_in, KeepsLogsWithin}
use Rattle.ps_ops_operands.proofs.Held.{rest_held}
use Rattle.ps_ops_operands.proofs.Operands.{first_two_split}
use Rattle.ps_ops_state.specs.declared.lent.Attempt.{Attempt}
use Rattle.ps_ops_state.specs.Lent.{Lent, scene_of, IsShown}
use Rattle.ps_ops_state.specs.Acts.{effect_in}
use Rattle.ps_ops_state.proofs.Acting.{Wants}
use Rattle.ps_ops_state.proofs.Direct.{LeavesStore}
use Rattle.ps_ops_state.proofs.Meeting.{lacks_nothing}
use Rattle.ps_step_outcome.specs.Turns.{IsUnlogged}
use Rattle.ps_step_outcome.proofs.Unlogged.{unlogged_reason}
use Rattle.ps_ctx_operators.specs.Rows.{wait_caller, wait_asked}
use Rattle.ps_ctx_operators.specs.Singles.{owner_by}
use Rattle.ps_ctx_operators.proofs.Locking.{lock_shown}
use Rattle.ps_ctx_operators.proofs.Owning.{lasts_owned, made_owned}

-- what words are, whatever the memory
abbrev pub IsCondition : Word → ℕ → Type 0
IsCondition w condition = (births : ℕ → ℕ) (names : List (List ℕ))
    → as_condition (value_of births names w) ≡ Some (births condition)

abbrev pub IsLock : Word → ℕ → Type 0
IsLock w lock = (births : ℕ → ℕ) (names : List (List ℕ))
    → as_lock (value_of births names w) ≡ Some (births lock)

-- a lock's owner, in each store that is shown
abbrev pub HasOwner : Heap → (lock : ℕ) → (number : ℕ) → Type 0
HasOwner h lock number = (names : List (List ℕ)) (s : Store) → Shows h names s
    → owner_of s (birth_at h lock) ≡ owner_by number

module _ (l : Lent) (c w : Word) (two : Some (c, w) ≡ first_two_of l.operands) (caller : ℕ) where
  module _ (condition : ℕ) (is_condition : IsCondition c condition) (lock number : ℕ)
      (is_lock : IsLock w lock) (owned : HasOwner l.heap lock number) where
    pub wait_other : is_owner caller (owner_by number) ≡ false → (store : Store)
        → IsShown l store → effect_in (wait_caller caller) l store ≡ raises InvalidContext
    wait_other other store shown =
        rw (
          first_two_split l.operands c w two,
          is_condition (birth_at l.heap) l.names,
          is_lock (birth_at l.heap) l.names,
          owned l.names store shown.shows,
          other,
        ) refl

    module _ (own : is_owner caller (owner_by number) ≡ true) where
      abbrev freed : Store → Store
      freed store = with_owner store (birth_at l.heap lock) None

      wait_is : (store : Store) → IsShown l store → effect_in (wait_caller caller) l store
          ≡ makes (record (scene_of l store)
          { operands = values_in l.heap l.names (drop 2 l.operands); store = freed store }) []
      wait_is store shown =
          rw (
            first_two_split l.operands c w two,
            is_condition (birth_at l.heap) l.names,
            is_lock (birth_at l.heap) l.names,
            owned l.names store shown.shows,
            own,
          ) refl

      module _ (known : StandsAs l.heap LockKind lock 1) (attempt : Attempt) where
        pub wait_wants : (grants : Grants) (reason : Reason)
            → IsUnlogged 1 attempt.slot l.grants grants reason → (store : Store)
            → IsShown l store
            → Wants (wait_caller caller) attempt wait_asked l reason
            (record l { grants = grants }) store
        wait_wants grants reason why store shown =
            let there = lock_shown l.heap lock known l.names store shown.shows in
            record {
              scene = _;
              output = [];
              is = wait_is store shown;
              enough = lacks_nothing attempt.refused store (freed store)
                  (made_owned store (birth_at l.heap lock) there.0 there.1 None);
              why = unlogged_reason attempt.slot 1 (omega arith) l (record l { grants = grants })
                  reason why _ (omega arith);
            }

        pub wait_leaves : (new : Heap) (left : Grants)
            → ((names : List (List ℕ)) (s : Store) → Shows l.heap names s
            → Shows new names (with_owner s (birth_at l.heap lock) None))
            → KeepsLogsWithin 1 l.grants left attempt.slot → (store : Store) → IsShown l store
            → LeavesStore (wait_caller caller) attempt wait_asked l (drop 2 l.operands) new left
            store
        wait_leaves new left shows logs store shown =
            let there = lock_shown l.heap lock known l.names store shown.shows in
            record {
              later = freed store;
              is = wait_is store shown;
              unasked = made_owned store (birth_at l.heap lock) there.0 there.1 None;
              lasts = lasts_owned store (birth_at l.heap lock) there.0 there.1 None;
              shows = shows l.names store shown.shows;
              within = rest_held (IsWithin (birth_at l.heap) l.names store) l.operands
                  shown.operands 2;
              logs = logs;
            }
