-- What the steps of a vault are shown, and that they are refused, is warranted.
use Rattle.std.proofs.Common.{◌≡◌, ℕ, ℤ, zero, suc, ◌+◌, ◌≤◌, Option, Some, None, List, [], ◌∷◌, ◌++◌, length, refl, sym, ◌∙◌, ap, subst, arith}
use Rattle.std.specs.Prelude.{true, false, IfSome, IsSome, replicate}
use Rattle.std.specs.Option.{option_map_or}
use Rattle.std.proofs.lemmas.Bool.{true≢false}
use Rattle.ps_language.specs.declared.schedules.Entry.{Entry}
use Rattle.ps_language.specs.Contexts.{context_at}
use Rattle.ps_language.specs.Effect.{nothing, shows_memory}
use Rattle.ps_language.specs.Live.{Live}
use Rattle.ps_language.specs.Locks.{is_ready, is_ready_as}
use Rattle.ps_language.specs.Lowest.{HasFirstDictionaries}
use Rattle.ps_language.specs.Schedules.{Move, plain_move, added, count_of, moves}
use Rattle.ps_language.specs.World.{Context, World}
use Rattle.ps_language.specs.Worlds.{after_move, after_moves, starting_world, world}
use Rattle.ps_language.proofs.LeftContexts.{context_at-left}
use Rattle.ps_language.proofs.LowestSteps.{after_moves-lowest}
use Rattle.ps_language.proofs.ScheduleLaws.{moves-added}
use Rattle.ps_mem.specs.Heap.{Heap, standing_words}
use Rattle.ps_mem.specs.Stands.{IsAddressed}
use Rattle.ps_ctx_table.specs.Desks.{Desk, IsSteady, IsWorld}
use Rattle.ps_ctx_table.proofs.Reached.{live-stands}
use Rattle.ps_gc_roots.specs.Moved.{IsLeft}
use Rattle.ps_ctx.specs.Steps.{AllFrom, AreShown, IsQuiet}
use Rattle.ps_run_schedules.specs.Turns.{added_times, move_of}
use Rattle.ps_vault.specs.Stories.{AreWarranted, Story}
use Rattle.ps_vault.specs.Warrants.{AllWarranted, AllWarrantedFrom, IsPairOf, IsRefusal, IsStatus, IsWarranted}
use Rattle.ps_vault.proofs.Following.{times_moves}

-- a schedule of no steps
pub nothing_warranted : (space : ℕ) (program : List ℕ) (schedule : List Entry) → schedule ≡ []
    → AllWarranted space program schedule
unfolding moves
nothing_warranted space program schedule none =
    subst (AllWarranted space program) (sym none) tt

-- a step that isn't refused
pub ordinary_warranted : (space : ℕ) (now : World) (before context : ℕ) (shown : Option (ℤ × ℤ))
    → IfSome shown (IsPairOf space now)
    → (IsSome shown → IsStatus now (move_of context false shown))
    → (IsStatus now (move_of context false shown) → IsSome shown)
    → IsWarranted space now before (move_of context false shown)
ordinary_warranted space now before context shown pair only each = record {
  only = only;
  each = λ _. each;
  shown = pair;
  refused = λ is. absurd (true≢false (sym is));
}

quiet_other : (now : World) (step : Move) → IsQuiet now step → IsStatus now step → ⊥
quiet_other now step quiet is = let same : nothing ≡ shows_memory = sym quiet ∙ is in cc

-- steps of which nothing is told
plain_warranted : (space : ℕ) (now : World) (before context count : ℕ)
    → AllFrom IsQuiet now (replicate count (plain_move context))
    → AllWarrantedFrom space now before (replicate count (plain_move context))
plain_warranted space now before context zero quiet = tt
plain_warranted space now before context (suc count) quiet = (
  ordinary_warranted space now before context None tt (λ some. absurd (cc))
      (λ is. absurd (quiet_other now (plain_move context) quiet.0 is)),
  plain_warranted space (after_move now (plain_move context)) (before + 1) context count quiet.1,
)

-- steps behind others
warranted-append : (space : ℕ) (now : World) (before : ℕ) (steps more : List Move)
    → AllWarrantedFrom space now before steps
    → AllWarrantedFrom space (after_moves now steps) (before + length steps) more
    → AllWarrantedFrom space now before (steps ++ more)
unfolding after_moves
warranted-append space now before [] more first then =
    let same : before + 0 ≡ before = omega arith in
    subst (λ (n : ℕ). AllWarrantedFrom space now n more) same then
warranted-append space now before (step ∷ steps) more first then =
    let same : before + suc (length steps) ≡ before + 1 + length steps = omega arith in (
      first.0,
      warranted-append space (after_move now step) (before + 1) steps more first.1
          (subst (λ (n : ℕ). AllWarrantedFrom space (after_moves (after_move now step) steps) n more)
          same then),
    )

-- one step more, and so many ordinary ones
module _ (space : ℕ) (program : List ℕ) (schedule : List Entry)
    (all : AllWarranted space program schedule) where
  behind : (steps : List Move)
      → AllWarrantedFrom space (world program schedule) (count_of schedule) steps
      → AllWarrantedFrom space (starting_world program) 0 (moves schedule ++ steps)
  unfolding world count_of
  behind steps more =
      let same : length (moves schedule) ≡ 0 + length (moves schedule) = omega arith in
      warranted-append space (starting_world program) 0 (moves schedule) steps all
      (subst (λ (n : ℕ). AllWarrantedFrom space
      (after_moves (starting_world program) (moves schedule)) n steps) same more)

  pub warranted_added : (move : Move)
      → IsWarranted space (world program schedule) (count_of schedule) move
      → AllWarranted space program (added schedule move)
  warranted_added move one =
      subst (AllWarrantedFrom space (starting_world program) 0) (sym (moves-added schedule move))
      (behind (move ∷ []) (one, tt))

  pub warranted_times : (context count : ℕ)
      → AllFrom IsQuiet (world program schedule) (replicate count (plain_move context))
      → AllWarranted space program (added_times count schedule (plain_move context))
  warranted_times context count quiet =
      subst (AllWarrantedFrom space (starting_world program) 0)
      (sym (times_moves count schedule (plain_move context)))
      (behind (replicate count (plain_move context))
      (plain_warranted space (world program schedule) (count_of schedule) context count quiet))

-- a pair of a memory that has what lives in a world
pub pair_of_space : (heap : Heap) (pair : ℤ × ℤ) (now : World)
    → (IsAddressed heap → (words : ℕ) → Live now words → words ≤ standing_words heap)
    → AreShown heap pair → IsPairOf heap.space.size now pair
pair_of_space heap pair now lives shown = record {
  used = heap.used;
  is = shown.is;
  within = shown.counted.within;
  lives = λ words live.
      let need = lives shown.counted.addressed words live in
      let counted = shown.counted.counted in
      omega (arith, need, counted);
}

-- a context that is ready is left, with its lowest dictionaries
pub ready_left : (program : List ℕ) (schedule : List Entry) (identifier : ℕ)
    → is_ready (world program schedule) identifier ≡ true → IsLeft (world program schedule)
unfolding world is_ready
ready_left program schedule identifier ready =
    by (context_at (after_moves (starting_world program) (moves schedule)) identifier) refl
  where
    by : (found : Option Context)
        → context_at (after_moves (starting_world program) (moves schedule)) identifier ≡ found
        → IsLeft (after_moves (starting_world program) (moves schedule))
    by None none =
        let now : World = after_moves (starting_world program) (moves schedule) in
        absurd (true≢false (sym ready ∙ ap (λ (found : Option Context). option_map_or
        (λ context. is_ready_as context.status identifier context now) found false) none))
    by (Some context) found =
        let now : World = after_moves (starting_world program) (moves schedule) in
        record {
          identifier = identifier;
          context = context;
          found = found;
          first = context_at-left (λ (c : Context). HasFirstDictionaries c.dictionaries) identifier
              context now (after_moves-lowest program (moves schedule)) found;
        }

-- what lives in a world of a run needs at most the words that stand in a memory that shows it
pub lives_in : (d : Desk) (program : List ℕ) (schedule : List Entry) (identifier : ℕ)
    → IsWorld d (world program schedule) → IsSteady d
    → is_ready (world program schedule) identifier ≡ true → IsAddressed d.heap
    → (words : ℕ) → Live (world program schedule) words → words ≤ standing_words d.heap
lives_in d program schedule identifier at steady ready addressed words live =
    let left = ready_left program schedule identifier ready in
    live-stands d (world program schedule) at steady left.identifier left.context left.found
    left.first addressed words live

-- of a story with the same space, program and schedule
pub warranted_same : (a b : Story) → b.space ≡ a.space → b.program ≡ a.program
    → b.schedule ≡ a.schedule → AreWarranted a → AreWarranted b
warranted_same a b space program schedule all =
    subst (λ (n : ℕ). AllWarranted n b.program b.schedule) (sym space)
    (subst (λ (p : List ℕ). AllWarranted a.space p b.schedule) (sym program)
    (subst (λ (entries : List Entry). AllWarranted a.space a.program entries) (sym schedule) all))

-- with a refused step more
pub refused_added : (a b : Story) (context : ℕ)
    → IsRefusal a.space (world a.program a.schedule) context (count_of a.schedule)
    → b.space ≡ a.space → b.program ≡ a.program
    → b.schedule ≡ added a.schedule (move_of context true None) → AreWarranted a → AreWarranted b
refused_added a b context why space program schedule all =
    warranted_same (record a { schedule = added a.schedule (move_of context true None) }) b space
    program schedule
    (warranted_added a.space a.program a.schedule all (move_of context true None)
    (record {
      only = λ some. absurd (cc);
      each = λ is. absurd (true≢false is);
      shown = tt;
      refused = λ _. why;
    }))
