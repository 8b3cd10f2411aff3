use Rattle.std.proofs.Common.{List, ℕ, ap, subst}
use Rattle.std.specs.Prelude.{get_or}
use Rattle.std.proofs.lemmas.Result.{IfOk-weaker}
use Rattle.ps_worlds.specs.Worlds.{EveryWayEnds, IsToldOf}
use Rattle.ps_worlds.proofs.Ways.{counted_as, each_way, every_way}
use Rattle.ps_worlds.proofs.exploring.explore_worlds.Goals as goal

pub returns-clause-every : goal.returns-clause-every
returns-clause-every g c =
    let same = ap (λ runs. runs.task.program.now) c.in_ok-worlds.ensures in
    IfOk-weaker c.cover.result _ _
    (λ covered every all. subst (λ (p : List ℕ). EveryWayEnds p covered.endings.entries) same
    (every_way c.in_ok-worlds.worlds.runs.now.task.program.now covered.endings.entries
    (every all))) c.cover.ensures.every

pub returns-clause-each : goal.returns-clause-each
returns-clause-each g c =
    let same = ap (λ runs. runs.task.program.now) c.in_ok-worlds.ensures in
    IfOk-weaker c.cover.result _ _
    (λ covered each k d less.
    subst (λ (p : List ℕ). IsToldOf p (get_or covered.endings.entries k d)) same
    (each_way c.in_ok-worlds.worlds.runs.now.task.program.now
    (get_or covered.endings.entries k d) (each k d less))) c.cover.ensures.each

pub returns-clause-worlds : goal.returns-clause-worlds
returns-clause-worlds g c =
    let same = ap (λ runs. runs.task.program.now) c.in_ok-worlds.ensures in
    IfOk-weaker c.cover.result _ _
    (λ covered are. counted_as _ _ _ c.in_ok-worlds.worlds.first.items _ _ _ same are)
    c.cover.ensures.worlds
