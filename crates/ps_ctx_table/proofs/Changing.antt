-- The world where the table of contexts alone is changed.
use Rattle.std.proofs.Common.{◌≡◌, ℕ, Bool, true, false, List, [], ◌∷◌, ◌++◌, Option, Some, None, refl, sym, ap, ap₂}
use Rattle.std.proofs.Common.{◌∙◌, inl, inr}
use Rattle.std.proofs.lemmas.Bool.{eq-eqb, ne_eqb}
use Rattle.std.proofs.lemmas.Bool.Decides.{eqb_tells}
use Rattle.std.specs.Prelude.{◌==◌, map, option_map, if◌then◌else◌}
use Rattle.ps_language.specs.declared.kinds.Kind.TheVariants.{Condition}
use Rattle.ps_language.specs.Contexts.{contexts_with, with_context, without_context}
use Rattle.ps_language.specs.Locks.{notified_status, notified, with_notified}
use Rattle.ps_language.specs.World as world
use Rattle.ps_language.specs.World.{World}
use Rattle.ps_mem.specs.Heap.{Heap, birth_of, birth_at}
use Rattle.ps_mem.specs.References.{StandsAs}
use Rattle.ps_mem.specs.Shows.{IsSound}
use Rattle.ps_ops_state.specs.Lent.{IsShown}
use Rattle.ps_ctx_table.specs.declared.members.Course.{Course}
use Rattle.ps_ctx_table.specs.declared.members.Course.TheVariants.{Running, Unwinding, Again, Waiting, Retaking}
use Rattle.ps_ctx_table.specs.declared.members.Course.TheVariants.{Finished}
use Rattle.ps_ctx_table.specs.declared.members.Member.{Member}
use Rattle.ps_ctx_table.specs.Seats.{with_item}
use Rattle.ps_ctx_table.specs.Worlds.{status_of, context_of, contexts_in}
use Rattle.ps_ctx_table.specs.Desks.{Desk, lent_to, AllMembers, IsWorld, IsCourseHeld, IsGoodMember, IsSteady}
use Rattle.ps_ctx_table.specs.Desks.{member_left, notified_course, notified_members}
use Rattle.ps_ctx_table.proofs.Going.{with_item_members, left_members, left-same}
use Rattle.ps_ctx_table.proofs.Holding.{contexts_in-more, contexts_in-changed}

-- ---- other contexts in the table

module _ (d : Desk) (members : List (Option Member)) where
  abbrev pub with_members : Desk
  with_members = record d { members = members }

  listed_steady : IsSteady d → AllMembers (IsGoodMember d) members → IsSteady with_members
  listed_steady steady good = record {
    sound = steady.sound;
    names = steady.names;
    first = steady.first;
    empty = steady.empty;
    members = good_there members good;
  }
    where
      good_there : (list : List (Option Member)) → AllMembers (IsGoodMember d) list
          → AllMembers (IsGoodMember with_members) list
      good_there [] good = tt
      good_there (None ∷ list) good = (tt, good_there list good.1)
      good_there (Some member ∷ list) good =
          (record { good = good.0.good; course = good.0.course }, good_there list good.1)

  listed_world : (w : World) → IsWorld d w → (contexts : List (Option world.Context))
      → contexts ≡ contexts_in d.heap d.names members
      → AllMembers (λ member. IsShown (lent_to d member.context) w.store) members
      → IsWorld with_members (record w { contexts = contexts })
  listed_world w at contexts are shown = record {
    shows = at.shows;
    program = at.program;
    names = at.names;
    printed = at.printed;
    faulted = at.faulted;
    contexts = are;
    members = shown;
  }

-- ---- one more

module _ (P : Member → Type 0) where
  more_members : (members : List (Option Member)) (member : Member) → AllMembers P members
      → P member → AllMembers P (members ++ Some member ∷ [])
  more_members [] member all one = (one, tt)
  more_members (item ∷ members) member all one =
      (all.0, more_members members member all.1 one)

module _ (d : Desk) (member : Member) where
  abbrev pub more_desk : Desk
  more_desk = with_members d (d.members ++ Some member ∷ [])

  pub more_steady : IsSteady d → IsGoodMember d member → IsSteady more_desk
  more_steady steady good =
      listed_steady d (d.members ++ Some member ∷ []) steady
      (more_members (IsGoodMember d) d.members member steady.members good)

  pub more_world : (w : World) → IsWorld d w → IsShown (lent_to d member.context) w.store
      → IsWorld more_desk
      (record w { contexts = w.contexts ++ Some (context_of d.heap d.names member) ∷ [] })
  more_world w at shown =
      listed_world d (d.members ++ Some member ∷ []) w at
      (w.contexts ++ Some (context_of d.heap d.names member) ∷ [])
      (ap (λ list. list ++ Some (context_of d.heap d.names member) ∷ []) at.contexts
      ∙ sym (contexts_in-more d.heap d.names d.members member))
      (more_members (λ one. IsShown (lent_to d one.context) w.store) d.members member at.members
      shown)

-- ---- one gone

module _ (d : Desk) (identifier : ℕ) where
  abbrev pub gone_desk : Desk
  gone_desk = with_members d (with_item d.members identifier None)

  pub gone_steady : IsSteady d → IsSteady gone_desk
  gone_steady steady =
      listed_steady d (with_item d.members identifier None) steady
      (with_item_members (IsGoodMember d) d.members identifier None steady.members tt)

  pub gone_world : (w : World) → IsWorld d w → IsWorld gone_desk (without_context identifier w)
  gone_world w at =
      listed_world d (with_item d.members identifier None) w at
      (contexts_with w.contexts identifier None)
      (ap (λ list. contexts_with list identifier None) at.contexts
      ∙ sym (contexts_in-changed d.heap d.names d.members identifier None))
      (with_item_members (λ one. IsShown (lent_to d one.context) w.store) d.members identifier
      None at.members tt)

-- ---- another in the place of one

module _ (d : Desk) (identifier : ℕ) (member : Member) where
  abbrev pub changed_desk : Desk
  changed_desk = with_members d (with_item d.members identifier (member_left member))

  pub changed_steady : IsSteady d → IsGoodMember d member → IsSteady changed_desk
  changed_steady steady good =
      listed_steady d (with_item d.members identifier (member_left member)) steady
      (with_item_members (IsGoodMember d) d.members identifier (member_left member)
      steady.members (left_members (IsGoodMember d) member good))

  pub changed_world : (w : World) → IsWorld d w → IsShown (lent_to d member.context) w.store
      → IsWorld changed_desk (with_context identifier (context_of d.heap d.names member) w)
  unfolding with_context
  changed_world w at shown =
      listed_world d (with_item d.members identifier (member_left member)) w at _
      (ap₂ (contexts_with_of identifier) at.contexts (sym (left-same d member))
      ∙ sym (contexts_in-changed d.heap d.names d.members identifier (member_left member)))
      (with_item_members (λ one. IsShown (lent_to d one.context) w.store) d.members identifier
      (member_left member) at.members
      (left_members (λ one. IsShown (lent_to d one.context) w.store) member shown))
    where
      contexts_with_of : ℕ → List (Option world.Context) → Option world.Context
          → List (Option world.Context)
      contexts_with_of c list context = contexts_with list c context

-- ---- a condition is notified

-- conditions at two addresses have two birth numbers
same_condition : (h : Heap) → IsSound h → (a b : ℕ) → StandsAs h Condition a 1
    → StandsAs h Condition b 1 → (a == b) ≡ (birth_at h a == birth_at h b)
unfolding birth_at
same_condition h sound a b one other = elim (eqb_tells a b) [
  | inl is ↦ is.0 ∙ sym (eq-eqb (birth_at h a) (birth_at h b) (ap (birth_at h) is.1))
  | inr is ↦ is.0 ∙ sym (ne_eqb (birth_at h a) (birth_at h b) (λ e. is.1
      (sound.single a b one.object other.object one.at other.at
      (λ body. let kind = one.kind_is in cc) (λ body. let kind = other.kind_is in cc)
      (sym (ap birth_of one.at) ∙ (e ∙ ap birth_of other.at)))))
]

module _ (d : Desk) (steady : IsSteady d) (condition : ℕ)
    (stands : StandsAs d.heap Condition condition 1) where
  either_status : (b : Bool) (lock awaited : ℕ)
      → status_of (birth_at d.heap) (if b then Retaking lock else Waiting lock awaited)
      ≡ (if b then world.retaking (birth_at d.heap lock)
      else world.waiting (birth_at d.heap lock) (birth_at d.heap awaited))
  either_status true lock awaited = refl
  either_status false lock awaited = refl

  either_held : (b : Bool) (lock awaited : ℕ) → IsCourseHeld d.heap (Waiting lock awaited)
      → IsCourseHeld d.heap (if b then Retaking lock else Waiting lock awaited)
  either_held true lock awaited held = held.0
  either_held false lock awaited held = held

  notified_same : (course : Course) → IsCourseHeld d.heap course
      → status_of (birth_at d.heap) (notified_course condition course)
      ≡ notified_status (birth_at d.heap condition) (status_of (birth_at d.heap) course)
  notified_same Running held = refl
  notified_same (Unwinding cause) held = refl
  notified_same Again held = refl
  notified_same (Waiting lock awaited) held =
      either_status (awaited == condition) lock awaited
      ∙ ap (λ b. if b then world.retaking (birth_at d.heap lock)
      else world.waiting (birth_at d.heap lock) (birth_at d.heap awaited))
      (same_condition d.heap steady.sound awaited condition held.1 stands)
  notified_same (Retaking lock) held = refl
  notified_same Finished held = refl

  notified_held : (course : Course) → IsCourseHeld d.heap course
      → IsCourseHeld d.heap (notified_course condition course)
  notified_held Running held = tt
  notified_held (Unwinding cause) held = tt
  notified_held Again held = tt
  notified_held (Waiting lock awaited) held =
      either_held (awaited == condition) lock awaited held
  notified_held (Retaking lock) held = held
  notified_held Finished held = tt

  notified_all : (members : List (Option Member)) → AllMembers (IsGoodMember d) members
      → map (option_map (notified (birth_at d.heap condition))) (contexts_in d.heap d.names members)
      ≡ contexts_in d.heap d.names (notified_members condition members)
  unfolding contexts_in
  notified_all [] good = refl
  notified_all (None ∷ members) good = ap (λ rest. None ∷ rest) (notified_all members good.1)
  notified_all (Some member ∷ members) good =
      λ i. Some (record (context_of d.heap d.names member)
      { status = sym (notified_same member.course good.0.course) i })
      ∷ notified_all members good.1 i

  notified_good : (members : List (Option Member)) → AllMembers (IsGoodMember d) members
      → AllMembers (IsGoodMember d) (notified_members condition members)
  notified_good [] good = tt
  notified_good (None ∷ members) good = (tt, notified_good members good.1)
  notified_good (Some member ∷ members) good = (
    record { good = good.0.good; course = notified_held member.course good.0.course },
    notified_good members good.1,
  )

  notified_shown : (w : World) (members : List (Option Member))
      → AllMembers (λ one. IsShown (lent_to d one.context) w.store) members
      → AllMembers (λ one. IsShown (lent_to d one.context) w.store)
      (notified_members condition members)
  notified_shown w [] shown = tt
  notified_shown w (None ∷ members) shown = (tt, notified_shown w members shown.1)
  notified_shown w (Some member ∷ members) shown =
      (shown.0, notified_shown w members shown.1)

  abbrev pub notified_desk : Desk
  notified_desk = with_members d (notified_members condition d.members)

  pub notified_steady : IsSteady notified_desk
  notified_steady =
      listed_steady d (notified_members condition d.members) steady
      (notified_good d.members steady.members)

  pub notified_world : (w : World) → IsWorld d w
      → IsWorld notified_desk (with_notified (birth_at d.heap condition) w)
  notified_world w at =
      listed_world d (notified_members condition d.members) w at
      (map (option_map (notified (birth_at d.heap condition))) w.contexts)
      (ap (map (option_map (notified (birth_at d.heap condition)))) at.contexts
      ∙ notified_all d.members steady.members)
      (notified_shown w d.members at.members)
