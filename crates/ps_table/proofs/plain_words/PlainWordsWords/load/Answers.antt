use Rattle.std.proofs.Common.{arith, ◌≡◌, ℕ, List, sym, ◌∙◌, subst}
use Rattle.std.specs.Prelude.{slice_index}
use Rattle.std.proofs.lemmas.List.{get_or_default}
use mathlib.Core.Option.{none}
use Rattle.atomic_table.specs.Table as table
use Rattle.ps_table.specs.Plain.{AreNoted, DoesPlay}
use Rattle.ps_table.specs.Shown.{SeatState}
use Rattle.ps_table.proofs.Plain.{goes_on}
use Rattle.ps_table.proofs.plain_words.PlainWordsWords.load.Goals as goal

pub note-requires-clause-allows : goal.note-requires-clause-allows
note-requires-clause-allows g c slots id =
    let items = c.args.self.now.items.items in
    let space = c.args.self.now.noted_by.shared.key in
    let m = c.args.seat.now.me in
    let place = c.args.place in
    let is = c.requires.0 in
    let fits = c.type_inv.found.fits in
    let found : c.index-found.result.now ≡ slice_index items place =
    c.index-found.ensures ∙ get_or_default items place c.index-found.result.now 0 c.requires.1 in
    let Tells : ℕ → SeatState → Type 0 =
    λ n m'. g.P.Play.then (table.step {S = Unit {0}} 0 place 0 0 none) m n m' in
    subst (λ (x : ℕ × List ℕ). table.Allows (AreNoted space) slots id m 0 (λ n. n)
    (λ n m'. DoesPlay space g.P.Play.then place 0 x.0 x.1 m m'))
    (λ k. (sym found k, sym c.as_slice.ensures.value k))
    (goes_on space place (λ n. n) items m Tells is.empty is.shown (omega arith)
    (c.requires.2 space 0 0) (c.requires.3 _) slots id)
