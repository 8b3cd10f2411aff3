-- Behind what was shown, a beginning of the rest.
use Rattle.std.proofs.Common.{◌≡◌, Bool, false, true, take, drop, sym, ap, ◌∙◌, subst, take-append-drop}
use Rattle.std.specs.Prelude.{not}
use Rattle.std.specs.Io.KnownBytes.{Appends}
use Rattle.ps_vault.specs.Screens.{AppendsPart, AreSeen, HasShown, Sight}
use Rattle.ps_vault.proofs.Parts.{part_behind, rest_whole}
use Rattle.ps_vault.proofs.screens.Screen.show.Goals as goal

pub returns-else-is_ok-clause-shown : goal.returns-else-is_ok-clause-shown
returns-else-is_ok-clause-shown g c first has =
    let printed = c.args.printed.now in
    let shown = c.self.inside.shown in
    let old : HasShown first _ printed =
    subst (λ s. HasShown first s printed) (sym c.self.view_is) has in
    let going : g.V.Viewer.failed c.self.inside.viewer ≡ false =
    ap (λ (s : Sight). s.failed) c.self.view_is ∙ sym c.has_failed.ensures
    ∙ c.if-has_failed.false in
    let broken : g.V.Viewer.failed c.show.new.self ≡ true =
    c.show.ensures.failed ∙ (c.is_ok.ensures.negation ∙ ap not c.if-is_ok.false) in
    let before : Appends first (g.V.Viewer.seen c.self.inside.viewer) (take shown printed) =
    subst (λ (failed : Bool). AreSeen failed first (g.V.Viewer.seen c.self.inside.viewer) shown
    printed) going old.seen in
    record {
      within = old.within;
      seen = subst (λ (failed : Bool). AreSeen failed first (g.V.Viewer.seen c.show.new.self)
          shown printed) (sym broken) (subst (AppendsPart first (g.V.Viewer.seen c.show.new.self))
          (take-append-drop shown printed)
          (part_behind first (g.V.Viewer.seen c.self.inside.viewer)
          (g.V.Viewer.seen c.show.new.self) (take shown printed) (drop shown printed) before
          (subst (AppendsPart (g.V.Viewer.seen c.self.inside.viewer)
          (g.V.Viewer.seen c.show.new.self)) (rest_whole printed shown) c.show.ensures.part)));
    }
