-- What waits again, and who is ready.
use Rattle.std.proofs.Common.{◌≡◌, ◌≢◌, ℕ, zero, suc, Bool, true, false, List, [], ◌∷◌, Option, Some, None, refl, sym}
use Rattle.std.proofs.Common.{ap, ◌∙◌, arith}
use Rattle.std.proofs.lemmas.Bool.Decides.{nat_tests}
use Rattle.std.specs.Option.{option_map_or}
use Rattle.std.specs.Prelude.{◌&&◌, not, nat_eq, option_map, if◌then◌else◌}
use Rattle.ps_language.specs.declared.errors.ErrorName.TheVariants.{ExecStackOverflow, InvalidContext}
use Rattle.ps_language.specs.Access.{is_executable}
use Rattle.ps_language.specs.Control.{as_procedure}
use Rattle.ps_language.specs.Effect.{Call, Scene}
use Rattle.ps_language.specs.Locks.{is_wait, is_ready_as, is_ready, retried}
use Rattle.ps_language.specs.Outcome.{leaves, given_that}
use Rattle.ps_language.specs.Owners.{owner_of, is_owner, is_free}
use Rattle.ps_language.specs.World.{Context, World}
use Rattle.ps_word.specs.declared.words.Word.{Word}
use Rattle.ps_word.specs.declared.values.Part.{Part}
use Rattle.ps_mem.specs.Heap.{Heap, birth_at}
use Rattle.ps_mem.specs.Meaning.{value_of, part_of}
use Rattle.ps_mem.specs.Shows.{Shows}
use Rattle.ps_stacks.specs.Tops.{first_of, first_two_of}
use Rattle.ps_ops_operands.specs.Changes.{values_in}
use Rattle.ps_ops_operands.proofs.Operands.{first_two_split}
use Rattle.ps_ctx_table.specs.declared.members.Course.{Course}
use Rattle.ps_ctx_table.specs.declared.members.Course.TheVariants.{Again, Retaking}
use Rattle.ps_ctx_table.specs.declared.members.Member.{Member}
use Rattle.ps_ctx_table.specs.Seats.{item_at}
use Rattle.ps_ctx_table.specs.Worlds.{status_of, context_of}
use Rattle.ps_ctx_table.specs.Desks.{Desk, IsWorld}
use Rattle.ps_ctx_table.proofs.Holding.{contexts_in-found}
use Rattle.ps_ctx_table.proofs.Stepping.{ready_there}
use Rattle.ps_ctx.specs.Calls.{call_by}
use Rattle.ps_ctx_operators.specs.Rows.{is_waiting, monitor_part}
use Rattle.ps_ctx_operators.specs.Singles.{owner_by}
use Rattle.ps_ctx_operators.proofs.WaitLemmas.{IsLock, HasOwner}

-- ---- monitor

waiting_by : (own free fit : Bool) (left : Scene)
    → is_waiting (given_that (not own) InvalidContext
    (if free then given_that fit ExecStackOverflow (leaves (Some left)) else leaves None))
    ≡ (not own && not free)
waiting_by true free fit left = refl
waiting_by false false fit left = refl
waiting_by false true true left = refl
waiting_by false true false left = refl

module _ (h : Heap) (names : List (List ℕ)) (operands : List Word) (p w : Word)
    (two : Some (p, w) ≡ first_two_of operands) (caller : ℕ) (body : Part)
    (procedure : (births : ℕ → ℕ) (names : List (List ℕ))
    → as_procedure (value_of births names p) ≡ Some (part_of births body))
    (executable : is_executable body.access ≡ true) (lock : ℕ) (is_lock : IsLock w lock)
    (number : ℕ) (owned : HasOwner h lock number) (scene : Scene)
    (shows : Shows h names scene.store) where
  -- by the owner of its lock
  pub monitor_by : is_waiting (monitor_part caller (values_in h names operands) scene)
      ≡ (not (is_owner caller (owner_by number)) && not (is_free (owner_by number)))
  monitor_by =
      rw (
        first_two_split operands p w two,
        procedure (birth_at h) names,
        is_lock (birth_at h) names,
        executable,
        owned names scene.store shows,
      ) (waiting_by (is_owner caller (owner_by number)) (is_free (owner_by number)) _ _)

-- its owner by number
pub owned_as : (caller n : ℕ) → n ≢ 0
    → not (nat_eq n caller)
    ≡ (not (is_owner caller (owner_by n)) && not (is_free (owner_by n)))
owned_as caller zero some = absurd (some refl)
owned_as caller (suc n) some = grind (arith, nat_tests)

pub unowned_as : (caller n : ℕ) → n ≡ 0
    → not (nat_eq n 0) ≡ (not (is_owner caller (owner_by n)) && not (is_free (owner_by n)))
unowned_as caller zero none = refl
unowned_as caller (suc n) none = absurd (cc)

free_as : (n : ℕ) → nat_eq n 0 ≡ is_free (owner_by n)
free_as zero = refl
free_as (suc n) = grind (arith, nat_tests)

-- ---- what is tried again

-- without operands an error is raised
pub none_waits : (h : Heap) (names : List (List ℕ)) (operands : List Word) (call : Call)
    → first_of operands ≡ None
    → false ≡ is_wait ((retried (values_in h names operands)).deed (values_in h names operands)
    call)
unfolding retried
none_waits h names [] call none = refl
none_waits h names (top ∷ rest) call none = absurd (cc)

-- ---- who is ready

module _ (d : Desk) (w : World) (at : IsWorld d w) (identifier : ℕ) where
  pub gone_unready : item_at d.members identifier ≡ None → false ≡ is_ready w identifier
  unfolding is_ready
  gone_unready none =
      ap (λ (there : Option Context).
      option_map_or (λ one. is_ready_as one.status identifier one w) there false)
      (sym (contexts_in-found d.heap d.names d.members w identifier at.contexts
      ∙ ap (option_map (context_of d.heap d.names)) none))

  -- by how far it is
  pub ready_by : (member : Member) → item_at d.members identifier ≡ Some member
      → (course : Course) → member.course ≡ course → is_ready w identifier
      ≡ is_ready_as (status_of (birth_at d.heap) course) identifier
      (context_of d.heap d.names member) w
  ready_by member found course is =
      ready_there d w at identifier member found
      ∙ ap (λ (c : Course). is_ready_as (status_of (birth_at d.heap) c) identifier
      (context_of d.heap d.names member) w) is

  -- what is tried again is ready where it doesn't wait
  pub again_ready : (member : Member) → item_at d.members identifier ≡ Some member
      → member.course ≡ Again → (waits : Bool)
      → waits ≡ is_wait ((retried (context_of d.heap d.names member).operands).deed
      (context_of d.heap d.names member).operands
      (call_by identifier None w (context_of d.heap d.names member)))
      → not waits ≡ is_ready w identifier
  again_ready member found again waits is =
      ap not is ∙ sym (ready_by member found Again again)

  -- and what waits for a lock where that is free
  pub retaking_ready : (member : Member) → item_at d.members identifier ≡ Some member
      → (lock : ℕ) → member.course ≡ Retaking lock → (number : ℕ)
      → owner_of w.store (birth_at d.heap lock) ≡ owner_by number
      → nat_eq number 0 ≡ is_ready w identifier
  retaking_ready member found lock waits number owned =
      free_as number
      ∙ (ap is_free (sym owned) ∙ sym (ready_by member found (Retaking lock) waits))
