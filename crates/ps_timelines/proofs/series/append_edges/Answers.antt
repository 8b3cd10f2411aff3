-- An edge more, each time, and the right edge of the last column.
use Rattle.std.proofs.Common.{◌∙◌, ap, refl, ◌++◌, length, arith}
use Rattle.std.specs.List.{flat_map, range_with_len}
use Rattle.std.proofs.lemmas.Result.{on_ok_weaker}
use Rattle.ps_timelines.specs.Series.{column_text, edges_text}
use Rattle.ps_timelines.proofs.Appended.{front_behind, text_more}
use Rattle.ps_timelines.proofs.Edges.{edge_is, last_edge, next_before}
use Rattle.ps_timelines.proofs.series.append_edges.Goals as goal

pub returns-in_err-append_edge-clause-front : goal.returns-in_err-append_edge-clause-front
returns-in_err-append_edge-clause-front c =
    front_behind c.args.to.now.items c.loop-column.to.items c.append_edge.new.to.items _
    c.loop-column.invariant.is c.append_edge.ensures.front

pub returns-clause-front : goal.returns-clause-front
returns-clause-front c =
    front_behind c.args.to.now.items c.loop-column.to.items c.append_edge-2.new.to.items _
    c.loop-column.invariant.is c.append_edge-2.ensures.front

pub loop-column-preserved : goal.loop-column-preserved
loop-column-preserved c = record {
  is = text_more (column_text c.args.series c.args.levels.now) c.loop-column.column c.args.to.now.items
      c.loop-column.to.items c.append_edge.new.to.items c.loop-column.invariant.is
      (c.in_ok-append_edge.ensures.appended ∙ ap (λ t. c.loop-column.to.items ++ t)
      (edge_is c.args.series c.args.levels.now c.loop-column.column c.loop-column.before _ _
      c.loop-column.invariant.before refl refl));
  before = next_before c.args.levels.now c.loop-column.column;
}

pub returns-clause-appended : goal.returns-clause-appended
unfolding edges_text
returns-clause-appended c =
    on_ok_weaker c.append_edge-2.result
    (λ h. text_more (column_text c.args.series c.args.levels.now) (length c.args.levels.now) c.args.to.now.items
    c.loop-column.to.items c.append_edge-2.new.to.items
    (c.loop-column.invariant.is ∙ ap (λ n. c.args.to.now.items ++ flat_map (column_text c.args.series c.args.levels.now)
    (range_with_len 0 n)) (omega arith))
    (h ∙ ap (λ t. c.loop-column.to.items ++ t)
    (last_edge c.args.series c.args.levels.now c.loop-column.column c.loop-column.before c.requires.some
    (omega arith) c.loop-column.invariant.before)))
    c.append_edge-2.ensures.appended
