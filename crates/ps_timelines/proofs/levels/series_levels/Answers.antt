-- Each column's level is that of its share.
use Rattle.std.proofs.Common.{◌≡◌, ◌∙◌, ap, ◌<◌, slice_index, arith}
use Rattle.std.proofs.lemmas.List.{get_or_read, length-set}
use Rattle.std.proofs.lemmas.List.FromFn.{fill_by_all}
use Rattle.ps_timelines.specs.Columns.{columns, share}
use Rattle.ps_timelines.specs.Levels.{level_of, series_level, series_levels}
use Rattle.ps_timelines.proofs.Covering.{at_most_whole}
use Rattle.ps_timelines.proofs.Tables.{written, unwritten}
use Rattle.ps_timelines.proofs.levels.series_levels.Goals as goal

pub level_of-requires : goal.level_of-requires
level_of-requires c =
    let l = c.loop-column in
    let is : c.index.result.now ≡ share c.args.steps c.args.intervals.now l.column =
    get_or_read l.marked.items l.column c.index.result.now (omega (arith, c.columns-column-end.ensures.is)) c.index.ensures 0
    ∙ l.invariant.rest l.column (omega arith) (omega (arith, c.columns-column-end.ensures.is)) in
    omega (arith, is, at_most_whole c.args.steps l.column c.args.intervals.now)

pub loop-column-preserved : goal.loop-column-preserved
unfolding series_level
loop-column-preserved c =
    let l = c.loop-column in
    let within : l.column < columns c.args.steps = omega (arith, c.columns-column-end.ensures.is) in
    let is : c.index.result.now ≡ share c.args.steps c.args.intervals.now l.column =
    get_or_read l.marked.items l.column c.index.result.now (omega arith) c.index.ensures 0
    ∙ l.invariant.rest l.column (omega arith) within in
    let value : c.level_of.result ≡ series_level c.args.series c.args.steps c.args.intervals.now c.args.longests.now l.column =
    c.level_of.ensures
    ∙ ap (level_of c.args.series c.args.steps (slice_index c.args.longests.now l.column)) is in
    record {
      size = length-set l.marked.items l.column c.level_of.result ∙ l.invariant.size;
      done = written (series_level c.args.series c.args.steps c.args.intervals.now c.args.longests.now) l.marked.items
          (columns c.args.steps) l.column c.level_of.result l.invariant.size within l.invariant.done value;
      rest = unwritten (share c.args.steps c.args.intervals.now) l.marked.items (columns c.args.steps) l.column
          c.level_of.result l.invariant.rest;
    }

pub returns : goal.returns
unfolding series_levels
returns c =
    fill_by_all (series_level c.args.series c.args.steps c.args.intervals.now c.args.longests.now) c.loop-column.marked.items
    (columns c.args.steps) 0 c.loop-column.invariant.size
    (λ k w. c.loop-column.invariant.done k (omega (arith, c.columns-column-end.ensures.is)))
