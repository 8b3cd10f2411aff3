-- A run's world, and what the steps behind it cost.
use Rattle.std.proofs.Common.{◌≡◌, ℕ, zero, suc, ◌+◌, ◌≤◌, Bool, true, false, Option, Some, None, List, [], ◌∷◌, ◌++◌, append_assoc, append-nil, length, length-append, refl, sym, ◌∙◌, ap, subst, arith}
use Rattle.std.specs.Prelude.{◌&&◌, ◌-◌, Err, IfOk, IfSome, Ok, Result, IsSome, replicate}
use Rattle.std.proofs.lemmas.Bool.{true≢false}
use Rattle.std.proofs.lemmas.Bool.Decides.{nat_tests}
use Rattle.std.proofs.lemmas.List.{length-replicate}
use Rattle.ps_language.specs.declared.schedules.Entry.{Entry}
use Rattle.ps_language.specs.Locks.{is_ready}
use Rattle.ps_language.specs.Schedules.{Move, count_of, last_move, moves, moves_of, plain_move}
use Rattle.ps_language.specs.World.{World}
use Rattle.ps_language.specs.Worlds.{after_moves, all_ready, starting_world, world, IsProper}
use Rattle.ps_language.proofs.WorldLaws.{after_moves-append, all_ready-append}
use Rattle.ps_ctx.specs.Steps.{AllFrom}
use Rattle.ps_vault.specs.Order.{IsNoEnd, IsNoneAbove, IsLeastAbove, Tells}
use Rattle.ps_vault.specs.Stories.{Story, world_at}
use Rattle.ps_searches.specs.Searches as searches
use Rattle.ps_searches.specs.Searches.{AreFree, IsFree, IsOver, IsNextAbove, Prices}
use Rattle.ps_cuts.specs.Cuts.{AllPlain, cut_by, due, holder, last_of, price, steps_by}
use Rattle.ps_cuts.specs.Runs.{IsMade, contexts_of}
use Rattle.ps_cuts.proofs.Batches.{and_left, and_right, many_free, one_more, steps_back}
use Rattle.ps_cuts.proofs.Whose.{can_ready, due_free, none_over, price_ready, price_unready, unready_zero}

-- ---- worlds

pub world_more : (old new : Story) (more : List Move) → new.program ≡ old.program
    → moves new.schedule ≡ moves old.schedule ++ more
    → world_at new ≡ after_moves (world_at old) more
unfolding world
world_more old new more same is =
    ap (λ (p : List ℕ). after_moves (starting_world p) (moves new.schedule)) same
    ∙ (ap (after_moves (starting_world old.program)) is
    ∙ after_moves-append (starting_world old.program) (moves old.schedule) more)

pub world_is : (story : Story)
    → world_at story ≡ after_moves (starting_world story.program) (moves story.schedule)
unfolding world
world_is story = refl

pub world_same : (a b : Story) → a.program ≡ b.program → a.schedule ≡ b.schedule
    → world_at a ≡ world_at b
world_same a b one two =
    ap (λ (p : List ℕ). world p a.schedule) one
    ∙ ap (λ (entries : List Entry). world b.program entries) two

-- what is left of steps that can all be made
pub ready_behind : (now : World) (first second : List Move) → all_ready now (first ++ second) ≡ true
    → all_ready (after_moves now first) second ≡ true
ready_behind now first second ready =
    and_right (all_ready now first) (all_ready (after_moves now first) second)
    (sym (all_ready-append now first second) ∙ ready)

pub ready_front : (now : World) (first second : List Move) → all_ready now (first ++ second) ≡ true
    → all_ready now first ≡ true
ready_front now first second ready =
    and_left (all_ready now first) (all_ready (after_moves now first) second)
    (sym (all_ready-append now first second) ∙ ready)

-- ---- ordinary steps of an entry

plain_behind : (first second : List Move) → AllPlain (first ++ second) → AllPlain second
plain_behind [] second plain = plain
plain_behind (move ∷ first) second plain =
    plain_behind first second (let rest : AllPlain (first ++ second) = cc in rest)

plain_first : (move : Move) (rest : List Move) → AllPlain (move ∷ rest)
    → move ≡ plain_move move.context
plain_first move rest plain = cc

pub plain_entry : (before : List Move) (entry : Entry) (n : ℕ) (after : List Move)
    → AllPlain (before ++ (moves_of entry n ++ after))
    → moves_of entry n ≡ replicate n (plain_move entry.context)
plain_entry before entry zero after plain = refl
plain_entry before entry (suc n) after plain =
    let rest : AllPlain (last_move entry ∷ after) =
    plain_behind (replicate n (plain_move entry.context)) (last_move entry ∷ after)
    (subst AllPlain (append_assoc (replicate n (plain_move entry.context))
    (last_move entry ∷ []) after)
    (plain_behind before (moves_of entry (suc n) ++ after) plain)) in
    ap (λ (m : Move). replicate n (plain_move entry.context) ++ m ∷ [])
    (plain_first (last_move entry) after rest)
    ∙ one_more n entry.context

-- ---- a schedule that is made again

module _ (all : List Entry) (plain : AllPlain (moves all)) (story : Story) (entry : Entry)
    (left rest : List Entry) (is : moves story.schedule ++ moves left ≡ moves all)
    (next : left ≡ entry ∷ rest) where
  whole : moves all
      ≡ moves story.schedule ++ (moves_of entry entry.steps ++ moves rest)
  unfolding moves
  whole = sym is ∙ ap (λ (entries : List Entry). moves story.schedule ++ moves entries) next

  pub entry_steps : moves_of entry entry.steps
      ≡ replicate entry.steps (plain_move entry.context)
  unfolding whole
  entry_steps =
      plain_entry (moves story.schedule) entry entry.steps (moves rest)
      (subst AllPlain whole plain)

  pub entry_ready : (program : List ℕ) → story.program ≡ program → IsProper program all
      → all_ready (world_at story) (replicate entry.steps (plain_move entry.context)) ≡ true
  unfolding IsProper whole
  entry_ready program same proper =
      let start = starting_world program in
      let made = moves story.schedule in
      let steps = moves_of entry entry.steps in
      let all_made : all_ready start (made ++ (steps ++ moves rest)) ≡ true =
      ap (all_ready start) (sym whole) ∙ proper in
      let behind = ready_front (after_moves start made) steps (moves rest)
      (ready_behind start made (steps ++ moves rest) all_made) in
      ap (λ (w : World). all_ready w (replicate entry.steps (plain_move entry.context)))
      (world_is story ∙ ap (λ (p : List ℕ). after_moves (starting_world p) made) same)
      ∙ (ap (all_ready (after_moves start made)) (sym entry_steps) ∙ behind)

  pub entry_made : (new : List Entry)
      → moves new ≡ moves story.schedule ++ replicate entry.steps (plain_move entry.context)
      → moves new ++ moves rest ≡ moves all
  unfolding whole
  entry_made new more =
      ap (λ (ms : List Move). ms ++ moves rest) more
      ∙ (append_assoc (moves story.schedule)
      (replicate entry.steps (plain_move entry.context)) (moves rest)
      ∙ (ap (λ (ms : List Move). moves story.schedule ++ (ms ++ moves rest)) (sym entry_steps)
      ∙ sym whole))

  -- no more than in all
  pub few_made : length (moves story.schedule) + entry.steps ≤ count_of all
  unfolding whole count_of
  few_made =
      let made = moves story.schedule in
      let steps = replicate entry.steps (plain_move entry.context) in
      let is_all : moves all ≡ made ++ (steps ++ moves rest) =
      whole ∙ ap (λ (ms : List Move). made ++ (ms ++ moves rest)) entry_steps in
      let long = length-append made (steps ++ moves rest) in
      let behind = length-append steps (moves rest) in
      let many = length-replicate entry.steps (plain_move entry.context) in
      let size = ap {B = ℕ} length is_all in
      omega (arith, long, behind, many, size)

-- ---- where a run is

module _ (program : List ℕ) (story : Story) (same : story.program ≡ program)
    (plain : AllPlain (moves story.schedule)) where
  pub now_is : after_moves (starting_world program) (steps_by (contexts_of story.schedule))
      ≡ world_at story
  unfolding world
  now_is =
      ap (after_moves (starting_world program)) (steps_back story.schedule plain)
      ∙ ap (λ (p : List ℕ). after_moves (starting_world p) (moves story.schedule)) (sym same)

  ready_there : (context : ℕ) (ready : Bool) → is_ready (world_at story) context ≡ ready
      → is_ready (after_moves (starting_world program)
      (steps_by (contexts_of story.schedule))) context ≡ ready
  ready_there context ready is =
      ap (λ (w : World). is_ready w context) now_is ∙ is

  pub due_there : due (starting_world program) (steps_by (contexts_of story.schedule))
      ≡ due (starting_world story.program) (moves story.schedule)
  due_there =
      ap (due (starting_world program)) (steps_back story.schedule plain)
      ∙ ap (λ (p : List ℕ). due (starting_world p) (moves story.schedule)) (sym same)

  pub free_there : (context : ℕ)
      → Some context ≡ due (starting_world story.program) (moves story.schedule)
      → is_ready (world_at story) context ≡ true
      → IsFree (price program) (contexts_of story.schedule) context
  free_there context is ready =
      due_free program (contexts_of story.schedule) context (due_there ∙ sym is)
      (ready_there context true ready)

  pub over_there : IsNoneAbove (world_at story) 0
      → IsOver (price program) (contexts_of story.schedule)
  over_there none =
      none_over program (contexts_of story.schedule)
      (λ k above. ready_there k false (none k above))

  pub next_there : (after next : ℕ) → IsLeastAbove (world_at story) after next
      → IsNextAbove (price program) (contexts_of story.schedule) after next
  next_there after next least = record {
    above = least.above;
    can = subst IsSome (sym (price_ready program (contexts_of story.schedule) next
        (ready_there next true least.ready))) refl;
    least = λ k over under. price_unready program (contexts_of story.schedule) k
        (ready_there k false (least.least k over under));
  }

  pub none_there : (after : ℕ) → IsNoneAbove (world_at story) after
      → searches.IsNoneAbove (price program) (contexts_of story.schedule) after
  none_there after none k above =
      price_unready program (contexts_of story.schedule) k (ready_there k false (none k above))

  pub can_there : (context : ℕ)
      → IsSome (price program (contexts_of story.schedule) context)
      → is_ready (world_at story) context ≡ true
  can_there context can =
      ap (λ (w : World). is_ready w context) (sym now_is)
      ∙ can_ready program (contexts_of story.schedule) context can

  pub price_there : (context cost : ℕ) → is_ready (world_at story) context ≡ true
      → cut_by (due (starting_world story.program) (moves story.schedule)) context ≡ cost
      → price program (contexts_of story.schedule) context ≡ Some cost
  price_there context cost ready is =
      price_ready program (contexts_of story.schedule) context (ready_there context true ready)
      ∙ ap (λ (n : ℕ). Some n)
      (ap (λ (w : Option ℕ). cut_by w context) due_there ∙ is)

-- ---- what is found there

module _ (program : List ℕ) (story : Story) (same : story.program ≡ program)
    (plain : AllPlain (moves story.schedule)) where
  pub free_found : (found : Option ℕ)
      → found ≡ due (starting_world story.program) (moves story.schedule)
      → IfSome found (λ context. is_ready (world_at story) context ≡ true)
      → IfSome found (IsFree (price program) (contexts_of story.schedule))
  free_found None is ready = tt
  free_found (Some context) is ready = free_there program story same plain context is ready

  cut_of : (one other : ℕ) → ¬ (one ≡ other) → cut_by (Some one) other ≡ 1
  cut_of one other differs = grind (arith, nat_tests)

  no_cut_of : (one other : ℕ) → one ≡ other → cut_by (Some one) other ≡ 0
  no_cut_of one other same = grind (arith, nat_tests)

  pub due_price : (one context : ℕ)
      → Some one ≡ due (starting_world story.program) (moves story.schedule)
      → is_ready (world_at story) context ≡ true → one ≡ context
      → price program (contexts_of story.schedule) context ≡ Some 0
  due_price one context is ready here =
      price_there program story same plain context 0 ready
      (ap (λ (w : Option ℕ). cut_by w context) (sym is) ∙ no_cut_of one context here)

  pub other_price : (one context : ℕ)
      → Some one ≡ due (starting_world story.program) (moves story.schedule)
      → is_ready (world_at story) context ≡ true → ¬ (one ≡ context)
      → price program (contexts_of story.schedule) context ≡ Some 1
  other_price one context is ready differs =
      price_there program story same plain context 1 ready
      (ap (λ (w : Option ℕ). cut_by w context) (sym is) ∙ cut_of one context differs)

-- where none is ready, none is
pub none_ready : (w : World) (context : ℕ) → IsNoneAbove w 0 → is_ready w context ≡ true → ⊥
none_ready w zero none ready = true≢false (sym ready ∙ unready_zero w)
none_ready w (suc context) none ready =
    true≢false (sym ready ∙ none (suc context) (omega arith))

-- ---- results

pub both_ok : {X E : Type 0} {P Q R : X → Type 0} (found : Result X E)
    → ((x : X) → P x → Q x → R x) → IfOk found P → IfOk found Q → IfOk found R
both_ok (Ok x) leads one other = leads x one other
both_ok (Err e) leads one other = tt

-- ---- proper schedules

pub proper_same : (program program' : List ℕ) (schedule schedule' : List Entry)
    → program' ≡ program → moves schedule' ≡ moves schedule → IsProper program schedule
    → IsProper program' schedule'
unfolding IsProper
proper_same program program' schedule schedule' one two proper =
    ap (λ (p : List ℕ). all_ready (starting_world p) (moves schedule')) one
    ∙ (ap (all_ready (starting_world program)) two ∙ proper)

both_true : (a b : Bool) → a ≡ true → b ≡ true → (a && b) ≡ true
both_true true b one other = other
both_true false b one other = one

-- one step more
pub proper_further : (story new : Story) (more : List Move) → new.program ≡ story.program
    → moves new.schedule ≡ moves story.schedule ++ more
    → all_ready (world_at story) more ≡ true → IsProper story.program story.schedule
    → IsProper new.program new.schedule
unfolding IsProper world
proper_further story new more same is ready proper =
    ap (λ (p : List ℕ). all_ready (starting_world p) (moves new.schedule)) same
    ∙ (ap (all_ready (starting_world story.program)) is
    ∙ (all_ready-append (starting_world story.program) (moves story.schedule) more
    ∙ both_true _ _ proper ready))

pub one_ready : (w : World) (context n : ℕ) → n ≡ 1 → is_ready w context ≡ true
    → all_ready w (replicate n (plain_move context)) ≡ true
one_ready w context n one ready =
    ap (λ (k : ℕ). all_ready w (replicate k (plain_move context))) one
    ∙ both_true (is_ready w context) true ready refl

-- and back
pub proper_front : (story new : Story) (more : List Move) → new.program ≡ story.program
    → moves new.schedule ≡ moves story.schedule ++ more → IsProper new.program new.schedule
    → IsProper story.program story.schedule
unfolding IsProper
proper_front story new more same is proper =
    ready_front (starting_world story.program) (moves story.schedule) more
    (ap (all_ready (starting_world story.program)) (sym is)
    ∙ (ap (λ (p : List ℕ). all_ready (starting_world p) (moves new.schedule)) (sym same)
    ∙ proper))

pub proper_rest : (story new : Story) (more : List Move) → new.program ≡ story.program
    → moves new.schedule ≡ moves story.schedule ++ more → IsProper new.program new.schedule
    → all_ready (world_at story) more ≡ true
unfolding IsProper world
proper_rest story new more same is proper =
    ready_behind (starting_world story.program) (moves story.schedule) more
    (ap (all_ready (starting_world story.program)) (sym is)
    ∙ (ap (λ (p : List ℕ). all_ready (starting_world p) (moves new.schedule)) (sym same)
    ∙ proper))

-- ---- going on freely

free_append : (prices : Prices) (path more rest : List ℕ) → AreFree prices path more
    → AreFree prices (path ++ more) rest → AreFree prices path (more ++ rest)
free_append prices path [] rest free then_free =
    subst (λ (p : List ℕ). AreFree prices p rest) (append-nil path) then_free
free_append prices path (one ∷ more) rest free then_free = (
  free.0,
  free_append prices (path ++ one ∷ []) more rest free.1
      (subst (λ (p : List ℕ). AreFree prices p rest) (sym (append_assoc path (one ∷ []) more))
      then_free),
)

pub goes_further : (program first more : List ℕ) (story new : Story) (context n : ℕ)
    → story.program ≡ program → new.program ≡ story.program
    → AllPlain (moves story.schedule) → 1 ≤ n
    → Some context ≡ due (starting_world story.program) (moves story.schedule)
    → moves new.schedule ≡ moves story.schedule ++ replicate n (plain_move context)
    → AllFrom (Tells IsNoEnd) (world_at story) (replicate (n - 1) (plain_move context))
    → contexts_of story.schedule ≡ first ++ more
    → (IsProper story.program story.schedule → AreFree (price program) first more)
    → IsProper new.program new.schedule
    → AreFree (price program) first (more ++ replicate n context)
goes_further program first more story new context n same kept plain some is steps tells at free proper =
    let one : suc (n - 1) ≡ n = omega (arith, some) in
    let w = now_is program story same plain in
    let path = contexts_of story.schedule in
    let ready : all_ready (world_at story) (replicate (suc (n - 1)) (plain_move context)) ≡ true =
    ap (λ (k : ℕ). all_ready (world_at story) (replicate k (plain_move context))) one
    ∙ proper_rest story new (replicate n (plain_move context)) kept steps proper in
    let here : AreFree (price program) path (replicate (suc (n - 1)) context) =
    many_free program context (n - 1) path (due_there program story same plain ∙ sym is)
    (ap (λ (v : World). all_ready v (replicate (suc (n - 1)) (plain_move context))) w ∙ ready)
    (subst (λ (v : World). AllFrom (Tells IsNoEnd) v
    (replicate (n - 1) (plain_move context))) (sym w) tells) in
    free_append (price program) first more (replicate n context)
    (free (proper_front story new (replicate n (plain_move context)) kept steps proper))
    (subst (λ (p : List ℕ). AreFree (price program) p (replicate n context)) at
    (subst (λ (k : ℕ). AreFree (price program) path (replicate k context)) one here))

-- ---- before the first step

pub none_path : (schedule : List Entry) → schedule ≡ [] → contexts_of schedule ≡ []
unfolding moves
none_path schedule none = ap contexts_of none

pub none_before : (entries none all : List Entry) → none ≡ [] → entries ≡ all
    → moves none ++ moves entries ≡ moves all
unfolding moves
none_before entries none all empty is =
    ap (λ (es : List Entry). moves es ++ moves entries) empty ∙ ap moves is

pub none_behind : (made left all : List Entry) → moves made ++ moves left ≡ moves all
    → left ≡ [] → moves made ≡ moves all
unfolding moves
none_behind made left all is empty =
    sym (append-nil (moves made))
    ∙ (ap (λ (es : List Entry). moves made ++ moves es) (sym empty) ∙ is)

pub nothing_made : (story : Story) (path : List Entry) → story.caller ≡ None
    → story.schedule ≡ [] → path ≡ [] → IsMade story path None 0
unfolding moves holder last_of
nothing_made story path caller none empty = record {
  caller = caller;
  kept = empty ∙ sym none;
  plain = subst (λ (entries : List Entry). AllPlain (moves entries)) (sym none) refl;
  holds = ap (λ (entries : List Entry). holder (starting_world story.program) (moves entries))
      (sym none);
  ends = ap (λ (entries : List Entry). last_of (moves entries)) (sym none);
}
