-- What is kept of the contexts, one identifier after another.
use Rattle.std.proofs.Common.{◌≡◌, ◌<◌, ◌+◌, ℕ, List, Option, Some, None, [], ◌∷◌, ◌++◌, length, take, refl, sym, ap, ◌∙◌, add-one}
use Rattle.std.specs.Prelude.{get_or, option_and_then, option_map, slice_get, unwrap_or}
use Rattle.std.proofs.lemmas.List.{map-append, take_more}
use Rattle.std.proofs.lemmas.Option.{unwrap_or-slice_get}
use Rattle.ps_ctx_table.specs.declared.members.Member.{Member}
use Rattle.ps_ctx_table.specs.Seats.{item_at}
use Rattle.ps_worlds.specs.declared.members.MemberImage.{MemberImage}
use Rattle.ps_worlds.specs.Images.{member_in, members_in}

flattened : {A : Type 0} (item : Option (Option A))
    → option_and_then (λ one. one) item ≡ unwrap_or item None
flattened None = refl
flattened (Some item) = refl

item_there : {A : Type 0} (table : List (Option A)) (behind : ℕ)
    → item_at table (behind + 1) ≡ get_or table behind None
item_there table behind =
    ap (item_at table) (add-one behind)
    ∙ (flattened (slice_get table behind) ∙ unwrap_or-slice_get table behind None)

pub more_members : (images : List (Option MemberImage)) (image : Option MemberImage)
    (table : List (Option Member)) (behind : ℕ) → behind < length table
    → members_in images ≡ take behind table
    → option_map member_in image ≡ item_at table (behind + 1)
    → members_in (images ++ image ∷ []) ≡ take (behind + 1) table
more_members images image table behind within before here =
    map-append (option_map member_in) images (image ∷ [])
    ∙ (ap (λ (members : List (Option Member)). members ++ option_map member_in image ∷ []) before
    ∙ (ap (λ (member : Option Member). take behind table ++ member ∷ [])
    (here ∙ item_there table behind)
    ∙ sym (take_more table behind None within)))
