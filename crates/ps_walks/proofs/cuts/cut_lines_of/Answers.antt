-- The lines that a walk from the start tells.
use Rattle.std.proofs.Common.{◌∙◌, ◌++◌, ap, subst, sym}
use Rattle.ps_language.specs.Worlds.{starting_world}
use Rattle.ps_walks.specs.Cuts.{AreCutLines}
use Rattle.ps_walks.specs.Walks.{world_behind}
use Rattle.ps_walks.proofs.cuts.cut_lines_of.Goals as goal

pub returns : goal.returns
returns g c =
    let told = c.in_ok-tell_cuts.ensures.told (starting_world c.args.run.program.now)
    c.in_ok-walk.ensures.at in
    let text = told.1 ∙ ap (λ text. text ++ told.0) c.new-text.ensures.items in
    let are = rw c.of.ensures at told.2 in
    subst (AreCutLines c.args.run.file.now
    (world_behind c.args.run.program.now c.args.schedule) c.args.cuts.now) (sym text) are
