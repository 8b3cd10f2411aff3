-- Many steps of one context, made at once.
use Rattle.std.proofs.Common.{◌≡◌, ◌≢◌, ℕ, zero, suc, ◌+◌, ◌-◌, ◌≤◌, Bool, true, false, Option, Some, None, List, [], ◌∷◌, ◌++◌, append_assoc, refl, sym, ◌∙◌, ap, subst, arith}
use Rattle.std.specs.Prelude.{◌&&◌, IfNone, IfSome, map, replicate, if◌then◌else◌}
use Rattle.std.proofs.lemmas.Bool.{true≢false}
use Rattle.std.proofs.lemmas.List.{append_cancel_left, map-append, replicate_more}
use Rattle.ps_language.specs.declared.schedules.Entry.{Entry}
use Rattle.ps_language.specs.Effect.{Note, nothing, turn_ends, shows_memory, wishes}
use Rattle.ps_language.specs.Locks.{is_ready}
use Rattle.ps_language.specs.Schedules.{Move, moves, plain_move}
use Rattle.ps_language.specs.Step.{stepped}
use Rattle.ps_language.specs.World.{World}
use Rattle.ps_language.specs.Worlds.{after_move, after_moves, all_ready, starting_world}
use Rattle.ps_language.proofs.WorldLaws.{after_moves-append}
use Rattle.ps_ctx.specs.Steps.{AllFrom}
use Rattle.ps_vault.specs.Order.{EndsTurn, IsNoEnd, NoneEnds, OnlyLastMayEnd, Tells}
use Rattle.ps_searches.specs.Searches.{AreFree}
use Rattle.ps_cuts.specs.Cuts.{AllPlain, due, holder, if_ready, is_turn_end, last_of, next_round, or_else, price, steps_by}
use Rattle.ps_cuts.specs.Runs.{contexts_of}
use Rattle.ps_cuts.proofs.Alike.{told-alike}
use Rattle.ps_cuts.proofs.Whose.{due_free, holder-append, last_of-append, steps_by-append}

-- ---- options

pub none_then : {P Q : Type 0} (found : Option ℕ) → (P → Q) → IfNone found P → IfNone found Q
none_then None leads holds = leads holds
none_then (Some one) leads holds = tt

pub some_then : {P Q : ℕ → Type 0} (found : Option ℕ) → ((one : ℕ) → P one → Q one)
    → IfSome found P → IfSome found Q
some_then None leads holds = tt
some_then (Some one) leads holds = leads one holds

-- ---- lists

nothing_pushed : {X : Type 0} (xs : List X) (x : X) → ¬ ([] ≡ xs ++ x ∷ [])
nothing_pushed [] x is = cc
nothing_pushed (y ∷ xs) x is = cc

-- where the last is taken off, the others are the same, and it is
pushed_same : {X : Type 0} (xs ys : List X) (x y : X) → xs ++ x ∷ [] ≡ ys ++ y ∷ []
    → (xs ≡ ys) × (x ≡ y)
pushed_same [] [] x y is = (refl, cc)
pushed_same [] (z ∷ ys) x y is =
    let rest : [] ≡ ys ++ y ∷ [] = cc in absurd (nothing_pushed ys y rest)
pushed_same (z ∷ xs) [] x y is =
    let rest : [] ≡ xs ++ x ∷ [] = cc in absurd (nothing_pushed xs x rest)
pushed_same (z ∷ xs) (w ∷ ys) x y is =
    let first : z ≡ w = cc in
    let rest : xs ++ x ∷ [] ≡ ys ++ y ∷ [] = cc in
    let same = pushed_same xs ys x y rest in
    (ap (λ (u : _). u ∷ xs) first ∙ ap (λ (us : List _). w ∷ us) same.0, same.1)

pub one_more : (n : ℕ) (context : ℕ)
    → replicate n (plain_move context) ++ plain_move context ∷ []
    ≡ replicate (suc n) (plain_move context)
one_more n context =
    let next : n + 1 ≡ suc n = omega arith in
    replicate_more n (plain_move context)
    ∙ ap (λ (k : ℕ). replicate k (plain_move context)) next

pub steps_by-replicate : (n context : ℕ)
    → steps_by (replicate n context) ≡ replicate n (plain_move context)
steps_by-replicate zero context = refl
steps_by-replicate (suc n) context =
    ap (λ (ms : List Move). plain_move context ∷ ms) (steps_by-replicate n context)

contexts-replicate : (n context : ℕ)
    → map (λ (move : Move). move.context) (replicate n (plain_move context))
    ≡ replicate n context
contexts-replicate zero context = refl
contexts-replicate (suc n) context =
    ap (λ (cs : List ℕ). context ∷ cs) (contexts-replicate n context)

-- ---- schedules of ordinary steps

steps-map : (all : List Move)
    → steps_by (map (λ (move : Move). move.context) all)
    ≡ map (λ (move : Move). plain_move move.context) all
steps-map [] = refl
steps-map (move ∷ all) =
    ap (λ (ms : List Move). plain_move move.context ∷ ms) (steps-map all)

-- their contexts say it all
pub steps_back : (schedule : List Entry) → AllPlain (moves schedule)
    → steps_by (contexts_of schedule) ≡ moves schedule
steps_back schedule plain = steps-map (moves schedule) ∙ sym plain

pub plain_back : (all : List Move) (path : List ℕ) → all ≡ steps_by path → AllPlain all
plain_back all path is = subst AllPlain (sym is) (by path)
  where
    by : (path : List ℕ) → AllPlain (steps_by path)
    by [] = refl
    by (one ∷ path) = ap (λ (ms : List Move). plain_move one ∷ ms) (by path)

-- behind so many steps more
pub more_contexts : (old new : List Entry) (n context : ℕ)
    → moves new ≡ moves old ++ replicate n (plain_move context)
    → contexts_of new ≡ contexts_of old ++ replicate n context
more_contexts old new n context is =
    ap (map (λ (move : Move). move.context)) is
    ∙ (map-append (λ (move : Move). move.context) (moves old)
    (replicate n (plain_move context))
    ∙ ap (λ (cs : List ℕ). contexts_of old ++ cs) (contexts-replicate n context))

pub more_plain : (old new : List Entry) (n context : ℕ) → AllPlain (moves old)
    → moves new ≡ moves old ++ replicate n (plain_move context) → AllPlain (moves new)
more_plain old new n context plain is =
    plain_back (moves new) (contexts_of old ++ replicate n context)
    (is ∙ (ap (λ (ms : List Move). ms ++ replicate n (plain_move context))
    (sym (steps_back old plain))
    ∙ (ap (λ (ms : List Move). steps_by (contexts_of old) ++ ms)
    (sym (steps_by-replicate n context))
    ∙ sym (steps_by-append (contexts_of old) (replicate n context)))))

-- ---- what is told of them

from_front : (IsSo : World → Move → Type 0) (now : World) (first second : List Move)
    → AllFrom IsSo now (first ++ second) → AllFrom IsSo now first
from_front IsSo now [] second all = tt
from_front IsSo now (move ∷ first) second all =
    (all.0, from_front IsSo (after_move now move) first second all.1)

from_last : (IsSo : World → Move → Type 0) (now : World) (first : List Move) (last : Move)
    → AllFrom IsSo now (first ++ last ∷ []) → IsSo (after_moves now first) last
unfolding after_moves
from_last IsSo now [] last all = all.0
from_last IsSo now (move ∷ first) last all =
    from_last IsSo (after_move now move) first last all.1

no_end : (note : Note) → note ≢ turn_ends → is_turn_end note ≡ false
no_end nothing other = refl
no_end turn_ends other = absurd (other refl)
no_end shows_memory other = refl
no_end (wishes number) other = refl

-- of a step that ends no turn
pub quiet : (now : World) (context : ℕ) → Tells IsNoEnd now (plain_move context)
    → is_turn_end (stepped now context false None).note ≡ false
quiet now context tells =
    no_end _ (λ ends. tells.told (sym (told-alike now context false tells.shown) ∙ ends))

module _ (start : World) (old : List Move) (context : ℕ) where
  many : ℕ → List Move
  many n = replicate n (plain_move context)

  pub none_ends : (n : ℕ) (new : List Move) → NoneEnds start old new
      → new ≡ old ++ replicate n (plain_move context)
      → AllFrom (Tells IsNoEnd) (after_moves start old) (replicate n (plain_move context))
  none_ends n new none is =
      subst (AllFrom (Tells IsNoEnd) (after_moves start old))
      (append_cancel_left old none.steps (replicate n (plain_move context))
      (sym none.is ∙ is)) none.all

  -- all but the last
  pub none_before : (n : ℕ) (new : List Move) → OnlyLastMayEnd start old new
      → new ≡ old ++ replicate (suc n) (plain_move context)
      → AllFrom (Tells IsNoEnd) (after_moves start old) (replicate n (plain_move context))
  none_before n new only is =
      let steps = only.others.steps in
      let both : steps ++ only.last ∷ []
      ≡ replicate n (plain_move context) ++ plain_move context ∷ [] =
      append_cancel_left old _ _
      (sym (append_assoc old steps (only.last ∷ []))
      ∙ (ap (λ (ms : List Move). ms ++ only.last ∷ []) (sym only.others.is)
      ∙ (sym only.is ∙ (is ∙ ap (λ (ms : List Move). old ++ ms) (sym (one_more n context)))))) in
      subst (AllFrom (Tells IsNoEnd) (after_moves start old))
      (pushed_same steps (replicate n (plain_move context)) only.last (plain_move context)
      both).0 only.others.all

  pub fewer_ends : (n : ℕ)
      → AllFrom (Tells IsNoEnd) (after_moves start old) (replicate (suc n) (plain_move context))
      → AllFrom (Tells IsNoEnd) (after_moves start old) (replicate n (plain_move context))
  fewer_ends n all =
      from_front (Tells IsNoEnd) (after_moves start old) (replicate n (plain_move context))
      (plain_move context ∷ [])
      (subst (AllFrom (Tells IsNoEnd) (after_moves start old)) (sym (one_more n context)) all)

  split : (n : ℕ) → old ++ replicate (suc n) (plain_move context)
      ≡ (old ++ replicate n (plain_move context)) ++ plain_move context ∷ []
  split n = ap (λ (ms : List Move). old ++ ms) (sym (one_more n context))
      ∙ sym (append_assoc old (replicate n (plain_move context)) (plain_move context ∷ []))

  -- whose turn it is behind them
  pub holder_goes : (n : ℕ) (new : List Move)
      → new ≡ old ++ replicate (suc n) (plain_move context)
      → AllFrom (Tells IsNoEnd) (after_moves start old) (replicate (suc n) (plain_move context))
      → Some context ≡ holder start new
  holder_goes n new is all =
      let before = old ++ replicate n (plain_move context) in
      let last : Tells IsNoEnd (after_moves start before) (plain_move context) =
      subst (λ (w : World). Tells IsNoEnd w (plain_move context))
      (sym (after_moves-append start old (replicate n (plain_move context))))
      (from_last (Tells IsNoEnd) (after_moves start old) (replicate n (plain_move context))
      (plain_move context)
      (subst (AllFrom (Tells IsNoEnd) (after_moves start old)) (sym (one_more n context)) all)) in
      sym (ap (holder start) (is ∙ split n)
      ∙ (holder-append start before (plain_move context)
      ∙ ap (λ (b : Bool). if b then None else Some context)
      (quiet (after_moves start before) context last)))

  pub holder_ends : (n : ℕ) (new : List Move)
      → new ≡ old ++ replicate (suc n) (plain_move context) → EndsTurn start context new
      → None ≡ holder start new
  holder_ends n new is ends =
      let same = pushed_same ends.before (old ++ replicate n (plain_move context)) ends.last
      (plain_move context) (sym ends.is ∙ (is ∙ split n)) in
      let told : (stepped (after_moves start ends.before) context false None).note ≡ turn_ends =
      told-alike (after_moves start ends.before) context false ends.shown ∙ ends.told in
      sym (ap (holder start) (ends.is ∙ ap (λ (m : Move). ends.before ++ m ∷ []) same.1)
      ∙ (holder-append start ends.before (plain_move context)
      ∙ ap (λ (note : Note). if is_turn_end note then None else Some context) told))

  pub last_many : (n : ℕ) (new : List Move)
      → new ≡ old ++ replicate (suc n) (plain_move context) → context ≡ last_of new
  last_many n new is =
      sym (ap last_of (is ∙ split n)
      ∙ last_of-append (old ++ replicate n (plain_move context)) (plain_move context))

-- ---- whose turn it is behind them

module _ (start : World) (old new : List Move) (context n : ℕ) (some : 1 ≤ n)
    (is : new ≡ old ++ replicate n (plain_move context)) where
  one_of : n ≡ suc (n - 1)
  one_of = omega (arith, some)

  is_one : new ≡ old ++ replicate (suc (n - 1)) (plain_move context)
  unfolding one_of
  is_one = is ∙ ap (λ (k : ℕ). old ++ replicate k (plain_move context)) one_of

  -- the last ended it, or none did
  pub turn_is : (turn : Option ℕ) → IfNone turn (EndsTurn start context new)
      → IfSome turn (λ one. (one ≡ context) × NoneEnds start old new)
      → turn ≡ holder start new
  turn_is None ends goes = holder_ends start old context (n - 1) new is_one ends
  turn_is (Some one) ends goes =
      ap (λ (c : ℕ). Some c) goes.0
      ∙ holder_goes start old context (n - 1) new is_one
      (none_ends start old context (suc (n - 1)) new goes.1 is_one)

  -- and no other did
  pub others_keep : (turn : Option ℕ) → IfNone turn (OnlyLastMayEnd start old new)
      → IfSome turn (λ one. (one ≡ context) × NoneEnds start old new)
      → AllFrom (Tells IsNoEnd) (after_moves start old) (replicate (n - 1) (plain_move context))
  others_keep None only goes = none_before start old context (n - 1) new only is_one
  others_keep (Some one) only goes =
      fewer_ends start old context (n - 1)
      (none_ends start old context (suc (n - 1)) new goes.1 is_one)

  pub last_is : context ≡ last_of new
  last_is = last_many start old context (n - 1) new is_one

-- ---- they cost nothing

-- behind one that didn't end its turn its context is due again, where it is ready
pub due_again : (start : World) (made : List Move) (context : ℕ)
    → Tells IsNoEnd (after_moves start made) (plain_move context)
    → is_ready (after_moves start (made ++ plain_move context ∷ [])) context ≡ true
    → due start (made ++ plain_move context ∷ []) ≡ Some context
due_again start made context tells ready =
    let now = after_moves start (made ++ plain_move context ∷ []) in
    let rest = next_round now (last_of (made ++ plain_move context ∷ [])) in
    let holds : holder start (made ++ plain_move context ∷ []) ≡ Some context =
    holder-append start made (plain_move context)
    ∙ ap (λ (b : Bool). if b then None else Some context)
    (quiet (after_moves start made) context tells) in
    ap (λ (h : Option ℕ). or_else (if_ready now h) rest) holds
    ∙ ap (λ (b : Bool). or_else (if b then Some context else None) rest) ready

pub and_left : (a b : Bool) → (a && b) ≡ true → a ≡ true
and_left true b is = refl
and_left false b is = absurd (true≢false (sym is))

pub and_right : (a b : Bool) → (a && b) ≡ true → b ≡ true
and_right true b is = is
and_right false b is = absurd (true≢false (sym is))

module _ (program : List ℕ) (context : ℕ) where
  behind_one : (path : List ℕ)
      → after_moves (starting_world program) (steps_by (path ++ context ∷ []))
      ≡ after_move (after_moves (starting_world program) (steps_by path)) (plain_move context)
  unfolding after_moves
  behind_one path =
      ap (after_moves (starting_world program)) (steps_by-append path (context ∷ []))
      ∙ after_moves-append (starting_world program) (steps_by path) (plain_move context ∷ [])

  due_there : (path : List ℕ)
      → Tells IsNoEnd (after_moves (starting_world program) (steps_by path)) (plain_move context)
      → is_ready (after_moves (starting_world program) (steps_by (path ++ context ∷ []))) context
      ≡ true
      → due (starting_world program) (steps_by (path ++ context ∷ [])) ≡ Some context
  due_there path tells ready =
      let start = starting_world program in
      let same = steps_by-append path (context ∷ []) in
      ap (due start) same
      ∙ due_again start (steps_by path) context tells
      (ap (λ (ms : List Move). is_ready (after_moves start ms) context) (sym same) ∙ ready)

  pub many_free : (n : ℕ) (path : List ℕ)
      → due (starting_world program) (steps_by path) ≡ Some context
      → all_ready (after_moves (starting_world program) (steps_by path))
      (replicate (suc n) (plain_move context)) ≡ true
      → AllFrom (Tells IsNoEnd) (after_moves (starting_world program) (steps_by path))
      (replicate n (plain_move context))
      → AreFree (price program) path (replicate (suc n) context)
  many_free zero path is ready tells = (due_free program path context is (and_left _ _ ready), tt)
  many_free (suc n) path is ready tells =
      let here = and_left _ _ ready in
      let next : all_ready
      (after_moves (starting_world program) (steps_by (path ++ context ∷ [])))
      (replicate (suc n) (plain_move context)) ≡ true =
      ap (λ (w : World). all_ready w (replicate (suc n) (plain_move context)))
      (behind_one path) ∙ and_right _ _ ready in (
        due_free program path context is here,
        many_free n (path ++ context ∷ [])
            (due_there path tells.0 (and_left _ _ next)) next
            (subst (λ (w : World). AllFrom (Tells IsNoEnd) w
            (replicate n (plain_move context))) (sym (behind_one path)) tells.1),
      )
