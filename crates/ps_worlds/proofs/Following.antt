-- A run that is made step by step, and where it is.
use Rattle.std.proofs.Common.{◌≡◌, ◌<◌, ◌≤◌, ℕ, zero, suc, Bool, true, false, Option, Some, None, List, [], ◌∷◌, ◌++◌, arith, inl, inr, length, refl, sym, ap, subst, ◌∙◌, true≢false}
use Rattle.std.specs.Prelude.{IfSome, IsSome, get_or, option_and_then, replicate}
use Rattle.std.proofs.lemmas.Bool.{cases_lt}
use Rattle.std.proofs.lemmas.List.{get_or_past}
use Rattle.std.proofs.lemmas.Option.{slice_get_past}
use Rattle.ps_language.specs.declared.schedules.Entry.{Entry}
use Rattle.ps_language.specs.Locks.{is_ready}
use Rattle.ps_language.specs.Schedules.{moves, plain_move}
use Rattle.ps_language.specs.World.{World}
use Rattle.ps_language.specs.Worlds.{after_move, after_moves, all_ready, starting_world, world}
use Rattle.ps_mem.proofs.Lists.{all_map}
use Rattle.ps_ops_state.specs.declared.lent.Context.{Context}
use Rattle.ps_ops_state.specs.Lent.{IsShown}
use Rattle.ps_ctx_table.specs.declared.members.Member.{Member}
use Rattle.ps_ctx_table.specs.Desks.{AllMembers, Desk, IsWorld, lent_to}
use Rattle.ps_ctx.specs.declared.worlds.Calling.{Calling}
use Rattle.ps_ctx.specs.Held.{Held, IsAtBy, IsSteadyHeld, held}
use Rattle.ps_cuts.specs.Cuts.{AllPlain, price}
use Rattle.ps_cuts.specs.Runs.{contexts_of}
use Rattle.ps_cuts.proofs.Batches.{and_left, and_right, steps_back}
use Rattle.ps_cuts.proofs.Orders.{further}
use Rattle.ps_cuts.proofs.Standing.{none_path, world_more}
use Rattle.ps_cuts.proofs.Whose.{can_ready, unready_zero}
use Rattle.ps_run_schedules.specs.Keeping.{Kept}
use Rattle.ps_vault.specs.Order.{IsLeastAbove, IsNoneAbove}
use Rattle.ps_vault.specs.Stories.{Keeps, Story}
use Rattle.ps_vault.proofs.Keeping.{gone_unready, keeps_start}
use Rattle.ps_worlds.specs.declared.images.Image.{Image}
use Rattle.ps_worlds.specs.contracts.images.ImagePartialEq as images
use Rattle.ps_worlds.specs.Equal.{image_same}
use Rattle.ps_worlds.specs.Images.{IsImageOf}
use Rattle.ps_worlds.specs.Runs.{AreReady, IsAt, IsFirstTrue, IsImage, IsMade, IsNoneTrue, IsRun, Standing, world_by}

-- ---- where it is

-- at the world of its schedule
pub here : (run : Standing) → IsMade run
    → IsWorld run.held.desk (world run.held.desk.program run.path.items)
here run made =
    subst (λ (calling : Option Calling). IsAtBy calling run.held.desk
    (world run.held.desk.program run.path.items)) made.calling made.keeps.at

pub world_there : (program : List ℕ) (schedule : List Entry) → AllPlain (moves schedule)
    → world_by program (contexts_of schedule) ≡ world program schedule
unfolding world
world_there program schedule plain =
    ap (after_moves (starting_world program)) (steps_back schedule plain)

-- which its own steps lead to
pub at_own : (program : List ℕ) (run : Standing) → IsRun program run
    → IsAt program run (contexts_of run.path.items)
at_own program run is =
    subst (IsWorld run.held.desk)
    (ap (λ (p : List ℕ). world p run.path.items) is.same
    ∙ sym (world_there program run.path.items is.made.plain)) (here run is.made)

-- no call waits
pub at_held : (d : Desk) (calling : Option Calling) (w : World) → calling ≡ None → IsWorld d w
    → IsAtBy calling d w
at_held d calling w none at =
    subst (λ (c : Option Calling). IsAtBy c d w) (sym none) at

-- as lemmas on stories see it
abbrev pub story_of : (program : List ℕ) → List Entry → Story
story_of program schedule = record {
  program = program;
  most = record { output = 0; entries = 0 };
  schedule = schedule;
  capacity = 0;
  caller = None;
  space = 0;
  used = 0;
  flips = 0;
  cycle_open = false;
  closed = [];
}

-- ---- what a world is read from

-- contexts over memories in which the same stands are at the same worlds
module _ (d e : Desk) (w : World) (heap : e.heap ≡ d.heap) (names : e.names ≡ d.names) where
  shown_same : (context : Context) → IsShown (lent_to d context) w.store
      → IsShown (lent_to e context) w.store
  shown_same context is = record {
    shows = rw (heap, names) is.shows;
    operands = rw (heap, names) is.operands;
    dictionaries = rw (heap, names) is.dictionaries;
    frames = rw (heap, names) is.frames;
  }

  item_same : (item : Option Member)
      → IfSome item (λ member. IsShown (lent_to d member.context) w.store)
      → IfSome item (λ member. IsShown (lent_to e member.context) w.store)
  item_same None is = tt
  item_same (Some member) is = shown_same member.context is

  pub world_same : e.program ≡ d.program → e.printed ≡ d.printed
      → e.has_faulted ≡ d.has_faulted → e.members ≡ d.members → IsWorld d w → IsWorld e w
  world_same program printed faulted members at = record {
    shows = rw (heap, names) at.shows;
    program = at.program ∙ sym program;
    names = at.names ∙ sym names;
    printed = at.printed ∙ sym printed;
    faulted = faulted ∙ at.faulted;
    contexts = rw (heap, names, members) at.contexts;
    members = subst (AllMembers (λ member. IsShown (lent_to e member.context) w.store))
        (sym members)
        (all_map (λ item. IfSome item (λ member. IsShown (lent_to d member.context) w.store))
        (λ item. IfSome item (λ member. IsShown (lent_to e member.context) w.store)) item_same
        d.members at.members);
  }

-- ---- a run before its first step

none_plain : (items : List Entry) → items ≡ [] → AllPlain (moves items)
unfolding moves
none_plain items none = subst (λ (es : List Entry). AllPlain (moves es)) (sym none) refl

pub started : (d : Desk) (calling : Option Calling) (program : List ℕ) (path : Kept)
    (ready : List Bool) → path.items ≡ [] → d.program ≡ program → IsSteadyHeld (held d None)
    → calling ≡ None → IsWorld d (starting_world program)
    → IsMade (record { held = held d calling; path = path; ready = ready })
started d calling program path ready none same steady no_call at = record {
  keeps = subst (Keeps (held d calling)) (sym none)
      (keeps_start d calling program same steady no_call at);
  calling = no_call;
  plain = none_plain path.items none;
}

pub at_start : (program : List ℕ) (run : Standing) → IsRun program run → run.path.items ≡ []
    → IsAt program run []
at_start program run is none =
    subst (IsAt program run) (none_path run.path.items none) (at_own program run is)

-- ---- who is ready

-- who is so in one of the worlds that it is at is in each
pub ready_alike : (run : Standing) (w v : World) (context : ℕ) → AreReady run
    → IsWorld run.held.desk w → IsWorld run.held.desk v → is_ready w context ≡ true
    → is_ready v context ≡ true
ready_alike run w v zero are at there ready = absurd (true≢false (sym ready ∙ unready_zero w))
ready_alike run w v (suc place) are at there ready =
    sym (are.each v there place) ∙ (are.each w at place ∙ ready)

pub least_of : (run : Standing) (after next : ℕ) → IsFirstTrue run.ready after next
    → AreReady run → (w : World) → IsWorld run.held.desk w → IsLeastAbove w after next
least_of run after next first are w at =
    let is = first.is in
    let above = first.above in
    record {
      above = omega (arith, is, above);
      ready = ap (is_ready w) is ∙ (sym (are.each w at first.place) ∙ first.here);
      least = unready;
    }
  where
    unready : (k : ℕ) → after < k → k < next → is_ready w k ≡ false
    unready zero over under = unready_zero w
    unready (suc k) over under =
        let is = first.is in
        sym (are.each w at k)
        ∙ first.first k (omega (arith, over)) (omega (arith, under, is))

pub none_of : (run : Standing) (after : ℕ) → IsNoneTrue run.ready after → AreReady run
    → (w : World) → IsWorld run.held.desk w → IsNoneAbove w after
none_of run after none are w at zero over = unready_zero w
none_of run after none are w at (suc k) over =
    sym (are.each w at k) ∙ none k (omega (arith, over))

-- behind the last identifier there is nobody
beyond : (d : Desk) (w : World) (place : ℕ) → IsWorld d w → length d.members ≤ place
    → is_ready w (suc place) ≡ false
beyond d w place at past =
    gone_unready d.heap d.names d.members w (suc place) at.contexts
    (ap (λ (found : Option (Option Member)). option_and_then (λ one. one) found)
    (slice_get_past d.members place past))

pub looked : (run : Standing) (before : Held) (count : ℕ) → run.held ≡ before
    → length run.ready ≡ count → count ≡ length before.desk.members → count ≤ 2147483647
    → ((w : World) → IsWorld before.desk w → (k : ℕ) → k < count
    → get_or run.ready k false ≡ is_ready w (suc k)) → AreReady run
looked run before count same long all few each = record {
  few = omega (arith, long, few);
  each = λ w at place. by w (subst (λ (h : Held). IsWorld h.desk w) same at) place;
}
  where
    by : (w : World) → IsWorld before.desk w → (place : ℕ)
        → get_or run.ready place false ≡ is_ready w (suc place)
    by w at place = elim (cases_lt place count) [
      | inl within ↦ each w at place within
      | inr past ↦
          get_or_past run.ready place false (omega (arith, long, past))
          ∙ sym (beyond before.desk w place at (omega (arith, all, past)))
    ]

-- ---- steps

pub own_ready : (program : List ℕ) (run : Standing) (context : ℕ) → IsRun program run
    → IsSome (price program (contexts_of run.path.items) context)
    → is_ready (world run.held.desk.program run.path.items) context ≡ true
own_ready program run context is can =
    ap (λ (w : World). is_ready w context)
    (ap (λ (p : List ℕ). world p run.path.items) is.same
    ∙ sym (world_there program run.path.items is.made.plain))
    ∙ can_ready program (contexts_of run.path.items) context can

pub stepped_at : (program : List ℕ) (old : Standing) (mid new : Held) (context : ℕ)
    → IsRun program old
    → IsSome (price program (contexts_of old.path.items) context)
    → ((w : World) → IsWorld old.held.desk w → is_ready w context ≡ true
    → IsWorld mid.desk (after_move w (plain_move context))) → new ≡ mid
    → (made : List ℕ) → IsAt program old made
    → IsWorld new.desk (world_by program (made ++ context ∷ []))
stepped_at program old mid new context is can step same made at =
    let ready = ready_alike old (world old.held.desk.program old.path.items)
    (world_by program made) context is.ready (here old is.made) at
    (own_ready program old context is can) in
    subst (λ (h : Held). IsWorld h.desk (world_by program (made ++ context ∷ []))) (sym same)
    (subst (IsWorld mid.desk) (sym (further program made context))
    (step (world_by program made) at ready))

pub first_ready : (w : World) (n context : ℕ) → 0 < n
    → all_ready w (replicate n (plain_move context)) ≡ true → is_ready w context ≡ true
first_ready w zero context some ready = absurd (omega (arith, some))
first_ready w (suc n) context some ready = and_left _ _ ready

pub rest_ready : (program program' : List ℕ) (old new : List Entry) (context n m : ℕ)
    → program' ≡ program → moves new ≡ moves old ++ plain_move context ∷ [] → n ≡ suc m
    → all_ready (world program old) (replicate n (plain_move context)) ≡ true
    → all_ready (world program' new) (replicate m (plain_move context)) ≡ true
unfolding after_moves
rest_ready program program' old new context n m same steps one ready =
    ap (λ (w : World). all_ready w (replicate m (plain_move context)))
    (world_more (story_of program old) (story_of program' new) (plain_move context ∷ []) same
    steps)
    ∙ and_right _ _
    (ap (λ (k : ℕ). all_ready (world program old) (replicate k (plain_move context))) (sym one)
    ∙ ready)

-- ---- behind a look

pub run_looked : (program : List ℕ) (old new : Standing) → old.held.desk.program ≡ program
    → IsMade old → new.held ≡ old.held → new.path ≡ old.path → AreReady new → IsRun program new
run_looked program old new same made held path ready = record {
  same = ap (λ (h : Held). h.desk.program) held ∙ same;
  made = record {
    keeps = subst (λ (h : Held). Keeps h new.path.items) (sym held)
        (subst (λ (kept : Kept). Keeps old.held kept.items) (sym path) made.keeps);
    calling = ap (λ (h : Held). h.calling) held ∙ made.calling;
    plain = subst (λ (kept : Kept). AllPlain (moves kept.items)) (sym path) made.plain;
  };
  ready = ready;
}

-- ---- images

pub image_at : (program first first' : List ℕ) (d : Desk) (image : Image) (path : List ℕ)
    → d.program ≡ program → first' ≡ first → IsImageOf first' d image
    → IsWorld d (world_by program path) → IsImage program first image path
image_at program first first' d image path same is of at = record {
  desk = d;
  same = same;
  of = subst (λ (words : List ℕ). IsImageOf words d image) is of;
  at = at;
}

-- a run with an equal image is where the other is of
pub come_to : (program first first' path : List ℕ) (d : Desk) (here image : Image)
    → d.program ≡ program → images.TheImpl.ghosts.eq here image ≡ true → first' ≡ first
    → IsImageOf first' d here → IsImage program first image path
    → IsWorld d (world_by program path)
come_to program first first' path d here image same equal words of is =
    let all = image_same first d here image equal
    (subst (λ (ws : List ℕ). IsImageOf ws d here) words of) in
    world_same is.desk d (world_by program path) (all.heap ∙ sym is.of.heap)
    (all.names ∙ sym is.of.names) (same ∙ sym is.same) (all.printed ∙ sym is.of.printed)
    (all.faulted ∙ sym is.of.faulted) (all.members ∙ sym is.of.members) is.at
