-- A run under a beginning of a given schedule, where its viewer failed.
use Rattle.std.proofs.Common.{◌≡◌, ℕ, List, [], Bool, true, false, length, take, drop, refl, sym, ◌∙◌, ap, subst, arith, append-nil, take-append-drop}
use Rattle.std.specs.Prelude.{not}
use Rattle.std.proofs.lemmas.Bool.{true≢false}
use Rattle.std.proofs.lemmas.List.{take_all}
use Rattle.ps_language.specs.declared.schedules.Entry.{Entry}
use Rattle.ps_language.specs.Effect.{Around, Scene}
use Rattle.ps_language.specs.Schedules.{Begins, moves}
use Rattle.ps_language.specs.World.{Status, World}
use Rattle.ps_language.specs.Worlds.{is_all_over, printed, world}
use Rattle.ps_language.proofs.ScheduleLaws.{moves-append}
use Rattle.ps_ops_state.specs.Acts.{Asked}
use Rattle.ps_vault.specs.declared.reports.Outcome.{Outcome}
use Rattle.ps_vault.specs.declared.reports.Outcome.TheVariants.{Finished, Faulted, AllWaiting, StepsOut, Memory}
use Rattle.ps_vault.specs.declared.reports.Report.{Report}
use Rattle.ps_vault.specs.Reports.{EndsAs, IsCutOf, IsReplayOf, IsUncollected, UnderPart, is_memory}
use Rattle.ps_vault.proofs.Following.{ends_used}

-- the first entries of a schedule begin it, and are a part of it
pub begins_first : (n : ℕ) (given : List Entry) → Begins (take n given) given
begins_first n given = (
  moves (drop n given),
  sym (moves-append (take n given) (drop n given)) ∙ ap moves (take-append-drop n given),
)

-- all of a schedule is a beginning of it
pub begins-whole : (schedule : List Entry) → Begins schedule schedule
begins-whole schedule = ([], append-nil (moves schedule))

pub cut_first : (n : ℕ) (given : List Entry) → IsCutOf given (take n given)
cut_first n given =
    record { place = n; context = 0; steps = 0; is = sym (append-nil (take n given)) }

cut_whole : (given : List Entry) → IsCutOf given given
cut_whole given = subst (IsCutOf given) (take_all (length given) given (omega arith))
    (cut_first (length given) given)

-- all of it is one
pub whole_run : (cut : Bool) (given made : List Entry) (Run : List Entry → Type 0) → made ≡ given
    → Run made → UnderPart cut given Run
whole_run cut given made Run is run =
    (given, begins-whole given, cut_whole given, λ _. refl, subst Run is run)

-- by whether the viewer failed
pub by_failed : (failed : Bool) (given : List Entry) (Run : List Entry → Type 0)
    → (failed ≡ false → Run given)
    → (failed ≡ true → (part : List Entry) × Begins part given × IsCutOf given part × Run part)
    → UnderPart failed given Run
by_failed false given Run goes cut = whole_run false given given Run refl (goes refl)
by_failed true given Run goes cut =
    let part = cut refl in (part.0, part.1, part.2, λ is. absurd (true≢false is), part.3)

-- the bytes of a world
pub printed_at : (w : World) (program : List ℕ) (schedule : List Entry)
    → w ≡ world program schedule → w.printed ≡ printed program schedule
unfolding printed
printed_at w program schedule same = ap (λ (w : World). w.printed) same

-- a run under its own schedule
pub replay_whole : (asks : Status → Around → Scene → Asked) (program : List ℕ) (report : Report)
    → report.printed.items ≡ printed program report.schedule.items
    → is_memory report.outcome ≡ false
    → EndsAs (world program report.schedule.items) true ⊥ report.outcome
    → IsUncollected report → IsReplayOf asks program report.schedule.items report
replay_whole asks program report prints known ends uncollected = record {
  prints = prints;
  begins = begins-whole report.schedule.items;
  cut = cut_whole report.schedule.items;
  whole = λ _. refl;
  refused = λ memory. absurd (true≢false (sym memory ∙ known));
  ends = ends_used (world program report.schedule.items) _ report.outcome ends;
  uncollected = uncollected;
}

-- a run that ended for want of memory
pub memory_ends : (now : World) (Starved : Type 0) (outcome : Outcome) → is_memory outcome ≡ true
    → is_all_over now ≡ false → Starved → EndsAs now (not (is_memory outcome)) Starved outcome
memory_ends now Starved Finished memory left starved = absurd (true≢false (sym memory))
memory_ends now Starved Faulted memory left starved = absurd (true≢false (sym memory))
memory_ends now Starved AllWaiting memory left starved = absurd (true≢false (sym memory))
memory_ends now Starved StepsOut memory left starved = absurd (true≢false (sym memory))
memory_ends now Starved Memory memory left starved = (refl, left, starved)
