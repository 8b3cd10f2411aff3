-- The caller in a table where another context is changed or gone, or there is one more.
use Rattle.std.proofs.Common.{◌≡◌, ◌≢◌, ◌∙◌, ℕ, zero, suc, ◌+◌, List, [], ◌∷◌, ◌++◌, Option, Some, None, refl, sym, ap}
use Rattle.std.proofs.Common.{subst}
use Rattle.std.specs.Prelude.{IfSome, option_and_then, slice_get, slice_set}
use Rattle.ps_ctx_table.specs.declared.members.Member.{Member}
use Rattle.ps_ctx_table.specs.Seats.{item_at, with_item, count_left}
use Rattle.ps_ctx_table.specs.Desks.{HasFrame, AreFramed}
use Rattle.ps_ctx_table.proofs.Going.{with_item_members}
use Rattle.ps_ctx_table.proofs.Places.{item_at-apart}
use Rattle.ps_ctx_table.proofs.Turning.{member_at}
use Rattle.ps_ctx.specs.Calls.{RunsAt, AreFramedBut}

-- ---- two identifiers

module _ {A : Type 0} where
  set_apart : (list : List (Option A)) (place other : ℕ) (first second : Option A)
      → place ≢ other
      → slice_set (slice_set list place first) other second
      ≡ slice_set (slice_set list other second) place first
  set_apart [] place other first second apart = refl
  set_apart (one ∷ list) zero zero first second apart = absurd (apart refl)
  set_apart (one ∷ list) zero (suc other) first second apart = refl
  set_apart (one ∷ list) (suc place) zero first second apart = refl
  set_apart (one ∷ list) (suc place) (suc other) first second apart =
      ap (λ rest. one ∷ rest)
      (set_apart list place other first second (λ e. apart (ap (λ n. suc n) e)))

  -- either may be changed first
  pub with_item-apart : (list : List (Option A)) (identifier other : ℕ) (first second : Option A)
      → identifier ≢ other
      → with_item (with_item list identifier first) other second
      ≡ with_item (with_item list other second) identifier first
  with_item-apart list zero other first second apart = refl
  with_item-apart list (suc place) zero first second apart = refl
  with_item-apart list (suc place) (suc other) first second apart =
      set_apart list place other first second (λ e. apart (ap (λ n. suc n) e))

  get_more : (list : List (Option A)) (place : ℕ) (item : Option A) (one : A)
      → option_and_then (λ each. each) (slice_get list place) ≡ Some one
      → option_and_then (λ each. each) (slice_get (list ++ item ∷ []) place) ≡ Some one
  get_more [] place item one found = cc
  get_more (each ∷ list) zero item one found = found
  get_more (each ∷ list) (suc place) item one found = get_more list place item one found

  -- what was there still is, with one more
  pub item_at-more : (list : List (Option A)) (identifier : ℕ) (item : Option A) (one : A)
      → item_at list identifier ≡ Some one → item_at (list ++ item ∷ []) identifier ≡ Some one
  item_at-more list zero item one found = cc
  item_at-more list (suc place) item one found = get_more list place item one found

  set_more : (list : List (Option A)) (place : ℕ) (item second : Option A) (one : A)
      → option_and_then (λ each. each) (slice_get list place) ≡ Some one
      → slice_set (list ++ item ∷ []) place second ≡ slice_set list place second ++ item ∷ []
  set_more [] place item second one found = cc
  set_more (each ∷ list) zero item second one found = refl
  set_more (each ∷ list) (suc place) item second one found =
      ap (λ rest. each ∷ rest) (set_more list place item second one found)

  -- it may be changed first
  pub with_item-more : (list : List (Option A)) (identifier : ℕ) (item second : Option A)
      (one : A) → item_at list identifier ≡ Some one
      → with_item (list ++ item ∷ []) identifier second
      ≡ with_item list identifier second ++ item ∷ []
  with_item-more list zero item second one found = cc
  with_item-more list (suc place) item second one found =
      set_more list place item second one found

  left_set : (list : List (Option A)) (place : ℕ) (one now : A)
      → option_and_then (λ each. each) (slice_get list place) ≡ Some one
      → count_left (slice_set list place (Some now)) ≡ count_left list
  left_set [] place one now found = refl
  left_set (None ∷ list) zero one now found = absurd (cc)
  left_set (Some each ∷ list) zero one now found = refl
  left_set (None ∷ list) (suc place) one now found = left_set list place one now found
  left_set (Some each ∷ list) (suc place) one now found =
      ap (λ n. n + 1) (left_set list place one now found)

  -- as many are left where one has changed
  pub count_left-same : (list : List (Option A)) (identifier : ℕ) (one now : A)
      → item_at list identifier ≡ Some one
      → count_left (with_item list identifier (Some now)) ≡ count_left list
  count_left-same list zero one now found = refl
  count_left-same list (suc place) one now found = left_set list place one now found

-- ---- another is changed, or gone

module _ (members : List (Option Member)) (caller identifier : ℕ) (apart : identifier ≢ caller)
  where
    pub runs_still : (item : Option Member) → RunsAt caller members
        → RunsAt caller (with_item members identifier item)
    runs_still item at = record {
      member = at.member;
      found = item_at-apart members identifier caller item apart ∙ at.found;
      runs = at.runs;
    }

    pub framed_there : (other : Member) → item_at members identifier ≡ Some other
        → AreFramedBut caller members → HasFrame other.course other.context.frames
    framed_there other found framed =
        member_at (λ one. HasFrame one.course one.context.frames) (with_item members caller None)
        identifier other framed
        (item_at-apart members caller identifier None (λ e. apart (sym e)) ∙ found)

    pub framed_still : (item : Option Member) → AreFramedBut caller members
        → IfSome item (λ one. HasFrame one.course one.context.frames)
        → AreFramedBut caller (with_item members identifier item)
    framed_still item framed one =
        subst AreFramed (with_item-apart members caller identifier None item (λ e. apart (sym e)))
        (with_item_members (λ each. HasFrame each.course each.context.frames)
        (with_item members caller None) identifier item framed one)

-- ---- there is one more

more_framed : (members : List (Option Member)) (more : Member) → AreFramed members
    → HasFrame more.course more.context.frames → AreFramed (members ++ Some more ∷ [])
more_framed [] more framed one = (one, tt)
more_framed (item ∷ members) more framed one =
    (framed.0, more_framed members more framed.1 one)

module _ (members : List (Option Member)) (caller : ℕ) (more : Member)
    (at : RunsAt caller members) where
  pub runs_more : RunsAt caller (members ++ Some more ∷ [])
  runs_more = record {
    member = at.member;
    found = item_at-more members caller (Some more) at.member at.found;
    runs = at.runs;
  }

  pub framed_more : AreFramedBut caller members → HasFrame more.course more.context.frames
      → AreFramedBut caller (members ++ Some more ∷ [])
  framed_more framed one =
      subst AreFramed (sym (with_item-more members caller (Some more) None at.member at.found))
      (more_framed (with_item members caller None) more framed one)
