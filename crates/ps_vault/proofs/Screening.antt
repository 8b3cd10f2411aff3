-- What is printed goes on, and what was shown of it is a beginning still.
use Rattle.std.proofs.Common.{◌≡◌, ◌<◌, ◌≤◌, ◌+◌, ◌%◌, ℕ, Bool, true, false, List, [], ◌∷◌, ◌++◌, Option, Some, None, min, length, take, refl, sym, ap, ◌∙◌, subst, arith, inl, inr, append_assoc, append-nil, length-append}
use Rattle.std.specs.Prelude.{if◌then◌else◌}
use Rattle.std.specs.Io.KnownBytes.{Appends}
use Rattle.std.proofs.Math.Nat.{mod_self}
use Rattle.std.proofs.lemmas.Bool.{cases_lt, true≢false}
use Rattle.std.proofs.lemmas.List.{take-append-le}
use Rattle.ps_language.specs.declared.schedules.Entry.{Entry}
use Rattle.ps_language.specs.Keeping.{PrintsOn}
use Rattle.ps_language.specs.Schedules.{Begins, Move, added, moves}
use Rattle.ps_language.specs.Worlds.{printed, world}
use Rattle.ps_language.proofs.PrintedSteps.{printed-begins}
use Rattle.ps_language.proofs.ScheduleLaws.{moves-added}
use Rattle.ps_vault.specs.declared.vaults.Advanced.{Advanced}
use Rattle.ps_vault.specs.Order.{AddsSteps, AddsTurns, AddsWhole, no_whole, whole_more, IsTurnEnd}
use Rattle.ps_vault.specs.Screens.{AreSeen, HasShown, Sight}
use Rattle.ps_vault.specs.Stories.{Story, world_at}
use Rattle.ps_vault.proofs.Cutting.{begins-whole}

-- ---- steps behind others

-- all of the old ones, and then perhaps more
abbrev pub GoesBehind : (old new : List Move) → Type 0
GoesBehind old new = (rest : List Move) × (old ++ rest ≡ new)

behind_then : (old mid new : List Move) → GoesBehind old mid → GoesBehind mid new
    → GoesBehind old new
behind_then old mid new first second = (
  first.0 ++ second.0,
  sym (append_assoc old first.0 second.0) ∙ ap (λ (m : List Move). m ++ second.0) first.1
      ∙ second.1,
)

pub begins_then : (old mid new : List Entry) → Begins old mid → Begins mid new → Begins old new
begins_then old mid new first second =
    behind_then (moves old) (moves mid) (moves new) first second

pub begins_same : (old new : List Entry) → new ≡ old → Begins old new
begins_same old new same =
    subst (λ (entries : List Entry). Begins old entries) (sym same) (begins-whole old)

pub begins_added : (old new : List Entry) (move : Move) → new ≡ added old move → Begins old new
begins_added old new move is =
    (move ∷ [], sym (moves-added old move) ∙ ap moves (sym is))

pub begins_adds : (context count : ℕ) (old new : List Entry)
    → AddsSteps context count (moves old) (moves new) → Begins old new
begins_adds context count old new adds = (adds.steps, sym adds.is)

behind_whole : (quantum : ℕ) (start : _) (context : ℕ) (old new : List Move)
    → AddsWhole quantum start context old new → GoesBehind old new
behind_whole quantum start context old new no_whole = ([], append-nil old)
behind_whole quantum start context old new (whole_more mid next turns adds none alone) =
    behind_then old mid new (behind_whole quantum start context old mid turns)
    (adds.steps, sym adds.is)

pub begins_turns : (quantum most : ℕ) (start : _) (context : ℕ) (turn : Advanced)
    (old new : List Entry)
    → AddsTurns quantum most start context turn (moves old) (moves new) → Begins old new
begins_turns quantum most start context turn old new goes =
    behind_then (moves old) goes.whole (moves new)
    (behind_whole quantum start context (moves old) goes.whole goes.turns)
    (goes.adds.steps, sym goes.adds.is)

-- ---- what was printed

pub prints_on : (old new : Story) → new.program ≡ old.program → Begins old.schedule new.schedule
    → PrintsOn (world_at old).printed (world_at new).printed
unfolding printed
prints_on old new same begins =
    subst (λ (p : List ℕ). PrintsOn (world_at old).printed (world p new.schedule).printed)
    (sym same) (printed-begins old.program old.schedule new.schedule begins)

pub no_fewer : (n : ℕ) (before after : List ℕ) → PrintsOn before after → n ≤ length before
    → n ≤ length after
no_fewer n before after on few =
    let all : length before + length on.0 ≡ length after =
    sym (length-append before on.0) ∙ ap {B = ℕ} (λ (b : List ℕ). length b) on.1 in
    omega (arith, few, all)

seen_on : (failed : Bool) (first now : Option (List ℕ)) (shown : ℕ) (before after : List ℕ)
    → PrintsOn before after → shown ≤ length before → AreSeen failed first now shown before
    → AreSeen failed first now shown after
seen_on false first now shown before after on few seen =
    subst (Appends first now) (sym (ap {B = List ℕ} (λ (b : List ℕ). take shown b) (sym on.1)
    ∙ take-append-le shown before on.0 few)) seen
seen_on true first now shown before after on few seen = record {
  part = seen.part;
  rest = seen.rest ++ on.0;
  is = sym on.1 ∙ (ap {B = List ℕ} (λ (b : List ℕ). b ++ on.0) seen.is
      ∙ append_assoc seen.part seen.rest on.0);
  written = seen.written;
}

-- what was shown of the bytes before was shown of those after
pub shown_on : (first : Option (List ℕ)) (sight : Sight) (before after : List ℕ)
    → PrintsOn before after → HasShown first sight before → HasShown first sight after
shown_on first sight before after on has = record {
  within = no_fewer sight.shown before after on has.within;
  seen = seen_on sight.failed first sight.seen sight.shown before after on has.within has.seen;
}

-- ---- turns that a viewer watches

pub few_unseen : (watches : Bool) (quantum left : ℕ)
    → (if watches then min quantum left else left) ≤ left
few_unseen true quantum left = omega arith
few_unseen false quantum left = omega arith

pub some_unseen : (watches : Bool) (quantum left : ℕ) → 1 ≤ quantum → 1 ≤ left
    → 1 ≤ (if watches then min quantum left else left)
some_unseen true quantum left some more = omega (arith, some, more)
some_unseen false quantum left some more = more

pub turn_end_unseen : (watches : Bool) (quantum left most made : ℕ)
    → most ≡ (if watches then min quantum left else left) → made ≤ most → made < left
    → IsTurnEnd quantum most made
turn_end_unseen false quantum left most made is few less =
    inl (subst (λ (n : ℕ). made < n) (sym is) less)
turn_end_unseen true quantum left most made is few less = elim (cases_lt made most) [
  | inl fewer ↦ inl fewer
  | inr all ↦
      let whole : made ≡ quantum = omega (arith, is, few, all, less) in
      inr (ap (λ n. n % quantum) whole ∙ mod_self quantum)
]

-- nothing was shown yet
pub none_shown : (sight : Sight) (bytes : List ℕ) → sight.shown ≡ 0 → sight.failed ≡ false
    → HasShown sight.seen sight bytes
none_shown sight bytes none going = record {
  within = omega (arith, none);
  seen = subst (λ (failed : Bool). AreSeen failed sight.seen sight.seen sight.shown bytes)
      (sym going) (subst (λ (n : ℕ). Appends sight.seen sight.seen (take n bytes)) (sym none)
      (nothing_more sight.seen));
}
  where
    nothing_more : (seen : Option (List ℕ)) → Appends seen seen []
    nothing_more None = tt
    nothing_more (Some xs) = sym (append-nil xs)

-- ---- the budget of a run that may have been cut

module _ (failed : Bool) (made steps budget : ℕ)
    (is : budget ≡ (if failed then made else steps)) where
  pub budget_least : made ≤ steps → made ≤ budget
  budget_least few = by failed is
    where
      by : (cut : Bool) → budget ≡ (if cut then made else steps) → made ≤ budget
      by true same = omega (arith, same)
      by false same = omega (arith, same, few)

  pub budget_most : made ≤ steps → budget ≤ steps
  budget_most few = by failed is
    where
      by : (cut : Bool) → budget ≡ (if cut then made else steps) → budget ≤ steps
      by true same = omega (arith, same, few)
      by false same = omega (arith, same)

  pub budget_whole : failed ≡ false → budget ≡ steps
  budget_whole going = is ∙ ap (λ (cut : Bool). if cut then made else steps) going

  pub budget_more : (held : Bool) → (failed ≡ true → held ≡ false) → (held ≡ true → made < steps)
      → held ≡ true → made < budget
  budget_more held cut fewer holds =
      let going : failed ≡ false = not_true failed (λ so. true≢false (sym holds ∙ cut so)) in
      let less = fewer holds in
      let whole = budget_whole going in
      omega (arith, less, whole)
    where
      not_true : (b : Bool) → (b ≡ true → ⊥) → b ≡ false
      not_true true unset = absurd (unset refl)
      not_true false unset = refl

  pub budget_ends : (Ended : Type 0) → (made < steps → failed ≡ false → Ended) → made < budget
      → Ended
  budget_ends Ended ends less = by failed refl
    where
      by : (cut : Bool) → failed ≡ cut → Ended
      by true same = let all : budget ≡ made = is
          ∙ ap (λ (cut : Bool). if cut then made else steps) same in
          absurd (omega (arith, all, less))
      by false same = let whole = budget_whole same in ends (omega (arith, whole, less)) same

-- the bytes of a story, by its schedule
pub same_bytes : (story : Story) (schedule : List Entry) → schedule ≡ story.schedule
    → printed story.program schedule ≡ (world_at story).printed
unfolding printed
same_bytes story schedule same =
    ap (λ (entries : List Entry). (world story.program entries).printed) same
