-- Whether all contexts are finished.
use Rattle.std.proofs.Common.{◌≡◌, ℕ, zero, suc, Bool, true, false, List, [], ◌∷◌, ◌<◌, ◌≤◌, length, get_or, drop}
use Rattle.std.proofs.Common.{Option, Some, None, refl, sym, ap, ap₂, ◌∙◌, arith}
use Rattle.std.specs.List.{list_all}
use Rattle.std.specs.Prelude.{◌&&◌}
use Rattle.ps_language.specs.World.{World}
use Rattle.ps_language.specs.Worlds.{is_over, is_all_over}
use Rattle.ps_mem.specs.Heap.{Heap, birth_at}
use Rattle.ps_ctx_table.specs.declared.members.Member.{Member}
use Rattle.ps_ctx_table.specs.Seats.{items_left}
use Rattle.ps_ctx_table.specs.Worlds.{contexts_in}
use Rattle.ps_ctx_table.specs.Desks.{has_finished}
use Rattle.ps_ctx_table.proofs.Going.{finished-same}

abbrev pub finished : Member → Bool
finished member = has_finished member.course

all_over : (h : Heap) (names : List (List ℕ)) (members : List (Option Member))
    → list_all is_over (contexts_in h names members) ≡ list_all finished (items_left members)
unfolding contexts_in
all_over h names [] = refl
all_over h names (None ∷ members) = all_over h names members
all_over h names (Some member ∷ members) =
    ap₂ (λ a b. a && b) (finished-same (birth_at h) member.course) (all_over h names members)

pub over_as : (h : Heap) (names : List (List ℕ)) (w : World) (members : List (Option Member))
    → w.contexts ≡ contexts_in h names members
    → is_all_over w ≡ list_all finished (items_left members)
unfolding is_all_over
over_as h names w members at = ap (list_all is_over) at ∙ all_over h names members

-- ---- one after the other

pub some_unfinished : (members : List Member) (i : ℕ) (member : Member) → i < length members
    → member ≡ get_or members i member → finished member ≡ false
    → list_all finished (drop i members) ≡ false
some_unfinished [] i member within is unfinished =
    let bad : ⊥ = omega (arith, within) in absurd bad
some_unfinished (one ∷ members) zero member within is unfinished =
    ap (λ b. b && list_all finished members) (ap finished (sym is) ∙ unfinished)
some_unfinished (one ∷ members) (suc i) member within is unfinished =
    some_unfinished members i member (omega (arith, within)) is unfinished

pub none_unfinished : (members : List Member) (i : ℕ) → length members ≤ i
    → list_all finished (drop i members) ≡ true
none_unfinished [] zero past = refl
none_unfinished [] (suc i) past = refl
none_unfinished (one ∷ members) zero past = let bad : ⊥ = omega (arith, past) in absurd bad
none_unfinished (one ∷ members) (suc i) past =
    none_unfinished members i (omega (arith, past))
