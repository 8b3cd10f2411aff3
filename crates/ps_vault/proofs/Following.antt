-- The world after the steps of entries.
use Rattle.std.proofs.Common.{◌≡◌, inl, inr, ℕ, ℤ, zero, suc, ◌+◌, ◌<◌, ◌≤◌, Bool, true, false, Option, Some, None, List, [], ◌∷◌, ◌++◌, length, take, drop, get_or, refl, sym, ◌∙◌, ap, arith, add-one, append-nil, drop-cons, length-append, append_assoc}
use Rattle.std.specs.Prelude.{◌==◌, ◌&&◌, nat_lt, not, replicate, slice_get}
use Rattle.std.specs.Option.{option_map_or}
use Rattle.std.proofs.lemmas.List.{length-replicate, replicate_more, take-append-drop, take_more, drop_all}
use Rattle.std.proofs.lemmas.Bool.{true≢false}
use Rattle.std.proofs.lemmas.Bool.Decides.{nat_tests}
use Rattle.ps_language.specs.declared.schedules.Entry.{Entry}
use Rattle.ps_language.specs.Schedules.{Move, added, plain_move, last_move, moves_of, moves, count_of, joins, steps_limit, Begins}
use Rattle.ps_language.specs.Contexts.{context_in, context_at, is_finished}
use Rattle.ps_language.specs.Effect.{Around, Scene}
use Rattle.ps_language.specs.Locks.{is_ready_as, is_ready}
use Rattle.ps_language.specs.World.{Status, running, unwinding, again, waiting, retaking, finished, Context, World}
use Rattle.ps_language.specs.Worlds.{after_move, after_moves, starting_world, world, is_over, is_all_over}
use Rattle.std.specs.List.{list_all}
use Rattle.ps_ops_state.specs.Acts.{Asked}
use Rattle.ps_run_schedules.specs.Keeping.{Kept}
use Rattle.ps_run_schedules.specs.Turns.{added_times, move_of}
use Rattle.ps_vault.specs.declared.reports.Outcome.{Outcome}
use Rattle.ps_vault.specs.declared.reports.Outcome.TheVariants.{Finished, Faulted, AllWaiting, StepsOut, Memory}
use Rattle.ps_vault.specs.Reports.{EndsAs, IsOneStarved, IsStarved, is_memory}
use Rattle.ps_vault.specs.Stories.{Story, world_at}
use Rattle.ps_language.proofs.ScheduleLaws.{moves-single, moves-append, moves-added, plain_entry, begins-part}
use Rattle.ps_language.proofs.WorldLaws.{step-unready, after_moves-append, world-append}
use Rattle.ps_run_schedules.proofs.Turning.{last_of, length_push, times_sum, turn_joined, turn_crossing, times_apart, times_alone}

-- ---- many equal steps

-- each is one of the steps
pub times_moves : (n : ℕ) (schedule : List Entry) (move : Move)
    → moves (added_times n schedule move) ≡ moves schedule ++ replicate n move
unfolding added_times
times_moves zero schedule move = sym (append-nil (moves schedule))
times_moves (suc n) schedule move =
    moves-added (added_times n schedule move) move
    ∙ (ap (λ (steps : List Move). steps ++ move ∷ []) (times_moves n schedule move)
    ∙ (append_assoc (moves schedule) (replicate n move) (move ∷ [])
    ∙ ap {B = List Move} (λ steps. moves schedule ++ steps)
    (replicate_more n move ∙ ap (λ k. replicate k move) (add-one n))))

-- so they change the world
pub times_world : (old new : Story) (n : ℕ) (move : Move) → new.program ≡ old.program
    → new.schedule ≡ added_times n old.schedule move
    → world_at new ≡ after_moves (world_at old) (replicate n move)
unfolding world
times_world old new n move same is =
    ap (λ (p : List ℕ). after_moves (starting_world p) (moves new.schedule)) same
    ∙ (ap (after_moves (starting_world old.program))
    (ap moves is ∙ times_moves n old.schedule move)
    ∙ after_moves-append (starting_world old.program) (moves old.schedule) (replicate n move))

-- so many, and then so many
pub times_more : (old now new : List Entry) (m n : ℕ) (move : Move) → now ≡ added_times m old move
    → new ≡ added_times n now move → new ≡ added_times (m + n) old move
times_more old now new m n move was is =
    is ∙ (ap (λ (entries : List Entry). added_times n entries move) was
    ∙ sym (times_sum m n old move))

-- and an ordinary step behind them, of which nothing was shown
pub times_noted : (made : ℕ) (old now new : List Entry) (context : ℕ) (shown : Option (ℤ × ℤ))
    → now ≡ added_times made old (plain_move context) → shown ≡ None
    → new ≡ added now (move_of context false shown)
    → new ≡ added_times (made + 1) old (plain_move context)
unfolding added_times
times_noted made old now new context shown was none is =
    is ∙ (ap (λ (pair : Option (ℤ × ℤ)). added now (move_of context false pair)) none
    ∙ (ap (λ (entries : List Entry). added entries (plain_move context)) was
    ∙ ap (λ k. added_times k old (plain_move context)) (sym (add-one made))))

-- of an entry that they join, by whether it has no room for all
longer_joined : (old before : List Entry) (entry : Entry) (context n : ℕ) (test : Bool)
    → old ≡ before ++ entry ∷ [] → joins entry context ≡ true → n ≤ steps_limit
    → nat_lt steps_limit (entry.steps + n) ≡ test
    → length (added_times n old (plain_move context)) ≤ length old + 1
longer_joined old before entry context n true is joined most crosses =
    let past : steps_limit < entry.steps + n = grind (arith, nat_tests) in
    let size : length old ≡ length before + 1 =
    ap {B = ℕ} (λ (entries : List Entry). length entries) is ∙ length_push before entry in
    let long : length (added_times n old (plain_move context)) ≡ length before + 1 + 1 =
    ap {B = ℕ} (λ (entries : List Entry). length entries)
    (sym (turn_crossing old before entry context n is joined past most))
    ∙ (length_push (before ++ _ ∷ []) _ ∙ ap (λ k. k + 1) (length_push before _)) in
    omega (arith, long, size)
longer_joined old before entry context n false is joined most crosses =
    let fits : entry.steps + n ≤ steps_limit = grind (arith, nat_tests) in
    let size : length old ≡ length before + 1 =
    ap {B = ℕ} (λ (entries : List Entry). length entries) is ∙ length_push before entry in
    let long : length (added_times n old (plain_move context)) ≡ length before + 1 =
    ap {B = ℕ} (λ (entries : List Entry). length entries)
    (sym (turn_joined old before entry context n is joined fits)) ∙ length_push before _ in
    omega (arith, long, size)

-- by whether they join the last entry
longer_by : (old before : List Entry) (entry : Entry) (context n : ℕ) (test : Bool)
    → old ≡ before ++ entry ∷ [] → joins entry context ≡ test → 1 ≤ n → n ≤ steps_limit
    → length (added_times n old (plain_move context)) ≤ length old + 1
longer_by old before entry context n true is joined some most =
    longer_joined old before entry context n (nat_lt steps_limit (entry.steps + n)) is joined most
    refl
longer_by old before entry context n false is joined some most =
    let long : length (added_times n old (plain_move context)) ≡ length (before ++ entry ∷ []) + 1 =
    ap {B = ℕ} (λ (entries : List Entry). length entries)
    (sym (times_apart old before entry context n is joined some most))
    ∙ length_push (before ++ entry ∷ []) _ in
    let size : length old ≡ length (before ++ entry ∷ []) =
    ap {B = ℕ} (λ (entries : List Entry). length entries) is in
    omega (arith, long, size)

longer_times : (old : List Entry) (context n : ℕ) → n ≤ steps_limit
    → length (added_times n old (plain_move context)) ≤ length old + 1
unfolding added_times
longer_times old context zero most = omega arith
longer_times old context (suc n) most = elim (last_of old) [
  | inl none ↦
      let long : length (added_times (suc n) old (plain_move context)) ≡ 1 =
      ap {B = ℕ} (λ (entries : List Entry). length entries)
      (sym (times_alone old context (suc n) none (omega arith) most)) in
      omega (arith, long)
  | inr (before, last, is) ↦
      longer_by old before last context (suc n) (joins last context) is refl (omega arith) most
]

-- ordinary steps of one context, as many as an entry has at most, are at most one entry more
pub times_longer : (old new : List Entry) (context n : ℕ)
    → new ≡ added_times n old (plain_move context) → n ≤ steps_limit
    → length new ≤ length old + 1
times_longer old new context n is most = rw is (longer_times old context n most)

-- as long as fewer were made than were asked for, the context wasn't ready
pub all_made : (made most : ℕ) (ready : Bool) → made ≤ most → (made < most → ready ≡ false)
    → ready ≡ true → made ≡ most
all_made made most ready within unready is = by (nat_lt made most) refl
  where
    by : (test : Bool) → nat_lt made most ≡ test → made ≡ most
    by true test = let less : made < most = grind (arith, nat_tests) in
        absurd (true≢false (sym is ∙ unready less))
    by false test = let past : most ≤ made = grind (arith, nat_tests) in
        omega (arith, past, within)

-- ---- the first steps of an entry

-- an entry has as many steps as it says
length_moves_of : (entry : Entry) (n : ℕ) → length (moves_of entry n) ≡ n
length_moves_of entry zero = refl
length_moves_of entry (suc n) =
    length-append (replicate n (plain_move entry.context)) (last_move entry ∷ [])
    ∙ (ap (λ k. k + 1) (length-replicate n (plain_move entry.context)) ∙ add-one n)

taken_before : (few many : ℕ) (move : Move) (rest : List Move) → few ≤ many
    → take few (replicate many move ++ rest) ≡ replicate few move
taken_before zero many move rest h = refl
taken_before (suc few) zero move rest h = absurd (omega arith)
taken_before (suc few) (suc many) move rest h =
    ap (λ (steps : List Move). move ∷ steps) (taken_before few many move rest (omega arith))

-- those before the last are ordinary ones
taken_part : (entry : Entry) (few n : ℕ) → few < n
    → take few (moves_of entry n) ≡ replicate few (plain_move entry.context)
taken_part entry few zero h = absurd (omega arith)
taken_part entry few (suc before) h =
    taken_before few before (plain_move entry.context) (last_move entry ∷ []) (omega arith)

-- all of them, with the last
after_last : (now : World) (entry : Entry) (before : ℕ)
    → after_moves now (moves_of entry (suc before)) ≡ after_move
    (after_moves now (replicate before (plain_move entry.context))) (last_move entry)
unfolding after_moves
after_last now entry before =
    after_moves-append now (replicate before (plain_move entry.context)) (last_move entry ∷ [])

-- ---- steps of a context that isn't ready

unready_move : (now : World) (move : Move) → is_ready now move.context ≡ false
    → after_move now move ≡ now
unready_move now move unready = step-unready now move.context move.refused move.shown unready

idle_steps : (now : World) (entry : Entry) (before : ℕ) → is_ready now entry.context ≡ false
    → after_moves now (replicate before (plain_move entry.context) ++ last_move entry ∷ []) ≡ now
unfolding after_moves
idle_steps now entry zero unready = unready_move now (last_move entry) unready
idle_steps now entry (suc before) unready =
    ap (λ (w : World). after_moves w
    (replicate before (plain_move entry.context) ++ last_move entry ∷ []))
    (unready_move now (plain_move entry.context) unready)
    ∙ idle_steps now entry before unready

idle_behind : (now : World) (entry : Entry) (made before : ℕ)
    → is_ready now entry.context ≡ false
    → after_moves now
    (drop made (replicate before (plain_move entry.context) ++ last_move entry ∷ [])) ≡ now
unfolding after_moves
idle_behind now entry zero before unready = idle_steps now entry before unready
idle_behind now entry (suc made) zero unready =
    ap (after_moves now) (drop_all made [] (omega arith))
idle_behind now entry (suc made) (suc before) unready = idle_behind now entry made before unready

idle : (now : World) (entry : Entry) (made n : ℕ) → is_ready now entry.context ≡ false
    → after_moves now (drop made (moves_of entry n)) ≡ now
unfolding after_moves
idle now entry made zero unready = ap (after_moves now) (drop_all made [] (omega arith))
idle now entry made (suc before) unready = idle_behind now entry made before unready

-- so where it isn't ready after some, the others of the entry change nothing
after_idle : (old new : World) (entry : Entry) (made n : ℕ)
    → new ≡ after_moves old (take made (moves_of entry n))
    → is_ready new entry.context ≡ false
    → new ≡ after_moves old (moves_of entry n)
after_idle old new entry made n is unready =
    sym (ap (after_moves old) (sym (take-append-drop made (moves_of entry n)))
    ∙ (after_moves-append old (take made (moves_of entry n)) (drop made (moves_of entry n))
    ∙ (ap (λ (w : World). after_moves w (drop made (moves_of entry n))) (sym is)
    ∙ idle new entry made n unready)))

-- the steps before were ordinary ones
pub after_idle_part : (old new : World) (entry : Entry) (made : ℕ) → made < entry.steps
    → new ≡ after_moves old (replicate made (plain_move entry.context))
    → is_ready new entry.context ≡ false
    → new ≡ after_moves old (moves_of entry entry.steps)
after_idle_part old new entry made less is unready =
    after_idle old new entry made entry.steps
    (is ∙ ap (after_moves old) (sym (taken_part entry made entry.steps less))) unready

-- all steps of an entry whose last is an ordinary one are ordinary
ordinary_steps : (entry : Entry) (n : ℕ) → last_move entry ≡ plain_move entry.context
    → moves_of entry n ≡ replicate n (plain_move entry.context)
ordinary_steps entry zero last = refl
ordinary_steps entry (suc before) last =
    ap (λ (move : Move). replicate before (plain_move entry.context) ++ move ∷ []) last
    ∙ plain_entry entry.context (suc before)

-- so they may be made one after another, as far as the context is ready
pub after_ordinary : (old new : World) (entry : Entry) (made : ℕ) → made ≤ entry.steps
    → last_move entry ≡ plain_move entry.context
    → new ≡ after_moves old (replicate made (plain_move entry.context))
    → (made < entry.steps → is_ready new entry.context ≡ false)
    → new ≡ after_moves old (moves_of entry entry.steps)
after_ordinary old new entry made within last is unready = by (nat_lt made entry.steps) refl
  where
    by : (test : Bool) → nat_lt made entry.steps ≡ test
        → new ≡ after_moves old (moves_of entry entry.steps)
    by true test = let less : made < entry.steps = grind (arith, nat_tests) in
        after_idle_part old new entry made less is (unready less)
    by false test = let past : entry.steps ≤ made = grind (arith, nat_tests) in
        let all : made ≡ entry.steps = omega (arith, past, within) in
        is ∙ ap (after_moves old)
        (ap (λ n. replicate n (plain_move entry.context)) all
        ∙ sym (ordinary_steps entry entry.steps last))

-- a context that isn't ready before the first step
pub after_unready : (now : World) (entry : Entry) → is_ready now entry.context ≡ false
    → now ≡ after_moves now (moves_of entry entry.steps)
unfolding after_moves
after_unready now entry unready = after_idle now now entry 0 entry.steps refl unready

-- none
pub after_nothing : (now : World) (entry : Entry) → entry.steps ≡ 0
    → now ≡ after_moves now (moves_of entry entry.steps)
unfolding after_moves
after_nothing now entry none = rw none refl

-- the last behind the others
pub after_whole : (old so_far new : World) (entry : Entry) (before : ℕ)
    → entry.steps ≡ suc before
    → so_far ≡ after_moves old (replicate before (plain_move entry.context))
    → new ≡ after_move so_far (last_move entry)
    → new ≡ after_moves old (moves_of entry entry.steps)
after_whole old so_far new entry before count was is =
    is ∙ (ap (λ (w : World). after_move w (last_move entry)) was
    ∙ (sym (after_last old entry before)
    ∙ ap (λ n. after_moves old (moves_of entry n)) (sym count)))

-- ---- a ready context isn't over

unfinished_as : (status : Status) (identifier : ℕ) (context : Context) (now : World)
    → is_ready_as status identifier context now ≡ true → is_finished status ≡ false
unfinished_as running identifier context now ready = refl
unfinished_as (unwinding cause) identifier context now ready = refl
unfinished_as again identifier context now ready = refl
unfinished_as (waiting lock condition) identifier context now ready = refl
unfinished_as (retaking lock) identifier context now ready = refl
unfinished_as finished identifier context now ready = absurd (true≢false (sym ready))

unfinished : (found : Option Context) (identifier : ℕ) (now : World)
    → option_map_or (λ context. is_ready_as context.status identifier context now) found false
    ≡ true
    → is_over found ≡ false
unfinished (Some context) identifier now ready =
    unfinished_as context.status identifier context now ready
unfinished None identifier now ready = absurd (true≢false (sym ready))

pub and_false : (a b : Bool) → b ≡ false → false ≡ (a && b)
and_false true b h = sym h
and_false false b h = refl

one_left : (contexts : List (Option Context)) (place : ℕ)
    → is_over (context_in (slice_get contexts place)) ≡ false
    → list_all is_over contexts ≡ false
one_left [] place left = absurd (true≢false left)
one_left (None ∷ contexts) zero left = absurd (true≢false left)
one_left (Some context ∷ contexts) zero left =
    ap (λ b. b && list_all is_over contexts) left
one_left (context ∷ contexts) (suc place) left =
    sym (and_false (is_over context) (list_all is_over contexts) (one_left contexts place left))

pub ready_not_over : (now : World) (context : ℕ) → is_ready now context ≡ true
    → is_all_over now ≡ false
unfolding is_ready context_at is_all_over
ready_not_over now zero ready = absurd (true≢false (sym ready))
ready_not_over now (suc place) ready =
    one_left now.contexts place
    (unfinished (context_in (slice_get now.contexts place)) (suc place) now ready)

-- ---- entries in a row

-- the world after the whole of the next entry
pub after_next : (program : List ℕ) (given : List Entry) (i : ℕ) (d : Entry) (now : World)
    → i < length given
    → now ≡ after_moves (world program (take i given))
    (moves_of (get_or given i d) (get_or given i d).steps)
    → now ≡ world program (take (i + 1) given)
after_next program given i d now lt is =
    let entry : Entry = get_or given i d in
    is ∙ sym (ap (world program) (take_more given i d lt)
    ∙ (world-append program (take i given) (entry ∷ [])
    ∙ ap (after_moves (world program (take i given))) (moves-single entry)))

-- the world after a part of the next entry
pub after_part : (program : List ℕ) (before schedule : List Entry) (few context : ℕ)
    (old new : World)
    → old ≡ world program before
    → new ≡ after_moves old (replicate few (plain_move context))
    → moves schedule ≡ moves before ++ replicate few (plain_move context)
    → new ≡ world program schedule
unfolding world
after_part program before schedule few context old new was is steps =
    is ∙ (ap (λ (w : World). after_moves w (replicate few (plain_move context))) was
    ∙ sym (ap (after_moves (starting_world program)) steps
    ∙ after_moves-append (starting_world program) (moves before)
    (replicate few (plain_move context))))

-- and with a part of the next one
pub begins_with_part : (given schedule : List Entry) (i few : ℕ) (d : Entry) → i < length given
    → few < (get_or given i d).steps
    → moves schedule ≡ moves (take i given) ++ replicate few (plain_move (get_or given i d).context)
    → Begins schedule given
begins_with_part given schedule i few d lt less steps =
    let entry : Entry = get_or given i d in
    let part : Entry = record
    { context = entry.context; steps = few; refused = false; shown = None } in
    let cut : take i given ++ (entry ∷ drop (i + 1) given) ≡ given =
    rw (add-one, ← drop-cons given i d) (take-append-drop i given) in
    let alone : moves (part ∷ []) ≡ replicate few (plain_move entry.context) = moves-single part
    ∙ plain_entry entry.context few in
    let p = begins-part (take i given) (drop (i + 1) given) entry few (part ∷ []) alone less in
    let same : moves schedule ≡ moves (take i given ++ part ∷ []) = steps
    ∙ sym (moves-append (take i given) (part ∷ [])
    ∙ ap {B = List Move} (λ rest. moves (take i given) ++ rest) alone) in
    (p.0, ap {B = List Move} (λ front. front ++ p.0) same ∙ (p.1 ∙ ap moves cut))

-- the steps of the first entry and of those behind it
length_head : (entry : Entry) (rest : List Entry)
    → length (moves (entry ∷ rest)) ≡ entry.steps + length (moves rest)
length_head entry rest =
    ap {B = ℕ} (λ (steps : List Move). length steps) (moves-append (entry ∷ []) rest)
    ∙ (length-append (moves (entry ∷ [])) (moves rest)
    ∙ ap (λ k. k + length (moves rest))
    (ap {B = ℕ} (λ (steps : List Move). length steps) (moves-single entry)
    ∙ length_moves_of entry entry.steps))

-- a part of an entry behind those before it has fewer steps than all
pub fewer_with_part : (given schedule : List Entry) (i few : ℕ) (d : Entry) → i < length given
    → few < (get_or given i d).steps
    → moves schedule ≡ moves (take i given) ++ replicate few (plain_move (get_or given i d).context)
    → count_of schedule < count_of given
unfolding count_of
fewer_with_part given schedule i few d lt less steps =
    let entry : Entry = get_or given i d in
    let rest : List Entry = drop (i + 1) given in
    let front : ℕ = length (moves (take i given)) in
    let cut : take i given ++ (entry ∷ rest) ≡ given =
    rw (add-one, ← drop-cons given i d) (take-append-drop i given) in
    let made : length (moves schedule) ≡ front + few =
    ap {B = ℕ} (λ (m : List Move). length m) steps
    ∙ (length-append (moves (take i given)) (replicate few (plain_move entry.context))
    ∙ ap (λ k. front + k) (length-replicate few (plain_move entry.context))) in
    let all : length (moves given) ≡ front + (entry.steps + length (moves rest)) =
    ap {B = ℕ} (λ (entries : List Entry). length (moves entries)) (sym cut)
    ∙ (ap {B = ℕ} (λ (m : List Move). length m) (moves-append (take i given) (entry ∷ rest))
    ∙ (length-append (moves (take i given)) (moves (entry ∷ rest))
    ∙ ap (λ k. front + k) (length_head entry rest))) in
    omega (arith, made, all, less)

-- ---- how a run ends

-- a context is starved whose step is an ordinary one
pub ordinary_starved : (asks : Status → Around → Scene → Asked) (grows : Bool) (context : ℕ)
    (w : World) (schedule : Kept) → IsStarved asks grows context false w schedule
    → IsOneStarved asks grows w schedule
ordinary_starved asks grows context w schedule starved =
    record {
      context = context;
      refused = false;
      makes = λ is. absurd (true≢false (sym is));
      starved = starved;
    }

-- a run that wanted no memory ends as it does, whatever is starved
pub ends_so : (now : World) (used_up : Bool) (Starved : Type 0) (outcome : Outcome)
    → EndsAs now used_up ⊥ outcome → EndsAs now used_up Starved outcome
ends_so now used_up Starved Finished ends = ends
ends_so now used_up Starved Faulted ends = ends
ends_so now used_up Starved AllWaiting ends = ends
ends_so now used_up Starved StepsOut ends = ends
ends_so now used_up Starved Memory ends = absurd ends.2

-- so does one that used up its steps
pub ends_used : (now : World) (Starved : Type 0) (outcome : Outcome)
    → EndsAs now true ⊥ outcome → EndsAs now (not (is_memory outcome)) Starved outcome
ends_used now Starved Finished ends = ends
ends_used now Starved Faulted ends = ends
ends_used now Starved AllWaiting ends = ends
ends_used now Starved StepsOut ends = ends
ends_used now Starved Memory ends = absurd ends.2

-- a step before the last is an ordinary one
pub part_refused : (entry : Entry) (made : ℕ) → made + 1 < entry.steps
    → false ≡ (entry.refused && (made + 1 == entry.steps))
part_refused entry made less =
    and_false entry.refused (made + 1 == entry.steps) (grind (arith, nat_tests))

-- the last one is refused where the entry says so
pub last_refused : (entry : Entry) (made : ℕ) → made + 1 ≡ entry.steps
    → entry.refused ≡ (entry.refused && (made + 1 == entry.steps))
last_refused entry made whole =
    by entry.refused (made + 1 == entry.steps) (grind (arith, nat_tests, whole))
  where
    by : (refused last : Bool) → last ≡ true → refused ≡ (refused && last)
    by true last is = sym is
    by false last is = refl

-- an entry of ordinary steps at the end
pub moves_with_part : (old new : List Entry) (context made : ℕ) → new ≡ old
    ++ record { context = context; steps = made; refused = false; shown = None } ∷ []
    → moves new ≡ moves old ++ replicate made (plain_move context)
moves_with_part old new context made is =
    let part : Entry = record { context = context; steps = made; refused = false; shown = None } in
    ap moves is ∙ (moves-append old (part ∷ [])
    ∙ ap {B = List Move} (λ rest. moves old ++ rest)
    (moves-single part ∙ plain_entry context made))

-- or none
pub moves_without : (old : List Entry) (context made : ℕ) → made ≤ 0 → moves old ≡ moves old
    ++ replicate made (plain_move context)
moves_without old context made none = let zeroed : made ≡ 0 = omega arith in
    rw (zeroed, append-nil) refl

pub ruleset part_lemmas = (moves_with_part, moves_without)
