-- The procedure is entered, the caller is to try again, or its error is noted.
use Rattle.std.proofs.Common.{sym, ap}
use Rattle.std.specs.Prelude.{not}
use Rattle.ps_ops_state.specs.Lent.{Lent, lent_of}
use Rattle.ps_ctx_table.specs.declared.members.Member.{Member}
use Rattle.ps_ctx_table.specs.Desks.{Desk}
use Rattle.ps_ctx.specs.Calls.{over_of}
use Rattle.ps_ctx_operators.proofs.Ending.{runs_by}
use Rattle.ps_ctx_operators.proofs.MonitorDone.{entered, unentered, tries_again}
use Rattle.ps_ctx_operators.proofs.entering.call_monitor.Goals as goal

pub returns-in-Ok-false : goal.returns-in-Ok-false
returns-in-Ok-false g c =
    let d : Desk = over_of g.M.Memory.heap g.M.Memory.grants c.args.runtime.now
    c.args.contexts.now in
    let new : Lent = lent_of g.M.Memory.heap g.M.Memory.grants c.monitor.new.context c.monitor.new.runtime in
    let member : Member = c.get_mut-member.result.now in
    let found = sym c.get_mut-member.ensures.value in
    let runs = runs_by d.members c.args.caller member found c.requires.runs in
    tries_again c.args.caller c.args.attempt c.args.shown d c.requires.steady member found runs new
    c.in-Ok-false.field-0 (ap not c.in-Ok-false.field-0-test) c.in-Ok-false.ensures.entered
    c.in-Ok-false.ensures.acts

pub end-requires-clause-runs : goal.end-requires-clause-runs
end-requires-clause-runs g c =
    let d : Desk = over_of g.M.Memory.heap g.M.Memory.grants c.args.runtime.now
    c.args.contexts.now in
    let new : Lent = lent_of g.M.Memory.heap g.M.Memory.grants c.monitor.new.context c.monitor.new.runtime in
    let member : Member = c.get_mut-member.result.now in
    let found = sym c.get_mut-member.ensures.value in
    let runs = runs_by d.members c.args.caller member found c.requires.runs in
    (entered c.args.caller c.args.attempt c.args.shown d c.requires.steady member found runs new
    c.in-Ok-true.field-0 (ap not c.in-Ok-true.field-0-test) c.in-Ok-true.ensures.entered
    c.in-Ok-true.ensures.acts).runs

pub end-requires-clause-steady : goal.end-requires-clause-steady
end-requires-clause-steady g c =
    let d : Desk = over_of g.M.Memory.heap g.M.Memory.grants c.args.runtime.now
    c.args.contexts.now in
    let new : Lent = lent_of g.M.Memory.heap g.M.Memory.grants c.monitor.new.context c.monitor.new.runtime in
    let member : Member = c.get_mut-member.result.now in
    let found = sym c.get_mut-member.ensures.value in
    let runs = runs_by d.members c.args.caller member found c.requires.runs in
    (entered c.args.caller c.args.attempt c.args.shown d c.requires.steady member found runs new
    c.in-Ok-true.field-0 (ap not c.in-Ok-true.field-0-test) c.in-Ok-true.ensures.entered
    c.in-Ok-true.ensures.acts).steady

pub returns-in-Ok-true : goal.returns-in-Ok-true
returns-in-Ok-true g c =
    let d : Desk = over_of g.M.Memory.heap g.M.Memory.grants c.args.runtime.now
    c.args.contexts.now in
    let new : Lent = lent_of g.M.Memory.heap g.M.Memory.grants c.monitor.new.context c.monitor.new.runtime in
    let member : Member = c.get_mut-member.result.now in
    let found = sym c.get_mut-member.ensures.value in
    let runs = runs_by d.members c.args.caller member found c.requires.runs in
    c.end.ensures c.args.shown d
    (entered c.args.caller c.args.attempt c.args.shown d c.requires.steady member found runs new
    c.in-Ok-true.field-0 (ap not c.in-Ok-true.field-0-test) c.in-Ok-true.ensures.entered
    c.in-Ok-true.ensures.acts)

pub end-requires-in-Err-clause-runs : goal.end-requires-in-Err-clause-runs
end-requires-in-Err-clause-runs g c =
    let d : Desk = over_of g.M.Memory.heap g.M.Memory.grants c.args.runtime.now
    c.args.contexts.now in
    let new : Lent = lent_of g.M.Memory.heap g.M.Memory.grants c.monitor.new.context c.monitor.new.runtime in
    let member : Member = c.get_mut-member.result.now in
    let found = sym c.get_mut-member.ensures.value in
    let runs = runs_by d.members c.args.caller member found c.requires.runs in
    (unentered c.args.caller c.args.attempt c.args.shown d c.requires.steady member found runs new
    c.in-Err.why c.in-Err.ensures.acts).runs

pub end-requires-in-Err-clause-steady : goal.end-requires-in-Err-clause-steady
end-requires-in-Err-clause-steady g c =
    let d : Desk = over_of g.M.Memory.heap g.M.Memory.grants c.args.runtime.now
    c.args.contexts.now in
    let new : Lent = lent_of g.M.Memory.heap g.M.Memory.grants c.monitor.new.context c.monitor.new.runtime in
    let member : Member = c.get_mut-member.result.now in
    let found = sym c.get_mut-member.ensures.value in
    let runs = runs_by d.members c.args.caller member found c.requires.runs in
    (unentered c.args.caller c.args.attempt c.args.shown d c.requires.steady member found runs new
    c.in-Err.why c.in-Err.ensures.acts).steady

pub returns-in-Err : goal.returns-in-Err
returns-in-Err g c =
    let d : Desk = over_of g.M.Memory.heap g.M.Memory.grants c.args.runtime.now
    c.args.contexts.now in
    let new : Lent = lent_of g.M.Memory.heap g.M.Memory.grants c.monitor.new.context c.monitor.new.runtime in
    let member : Member = c.get_mut-member.result.now in
    let found = sym c.get_mut-member.ensures.value in
    let runs = runs_by d.members c.args.caller member found c.requires.runs in
    c.end-in-Err.ensures c.args.shown d
    (unentered c.args.caller c.args.attempt c.args.shown d c.requires.steady member found runs new
    c.in-Err.why c.in-Err.ensures.acts)
