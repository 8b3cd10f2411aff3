-- Each deed by its caller's part.
use Rattle.ps_ctx_operators.proofs.DeedLaws.{currentcontext_deed, vmstatus_deed, vmreclaim_deed, new_deed}
use Rattle.ps_ctx_operators.proofs.DeedLaws.{monitor_deed, monitor_waits, wait_deed, notify_deed, fork_deed}
use Rattle.ps_ctx_operators.proofs.DeedLaws.{join_deed, detach_deed}
use Rattle.ps_ctx_operators.proofs.laws.deed_laws.Goals as goal

pub returns-clause-currentcontext : goal.returns-clause-currentcontext
returns-clause-currentcontext c = currentcontext_deed

pub returns-clause-vmstatus : goal.returns-clause-vmstatus
returns-clause-vmstatus c = vmstatus_deed

pub returns-clause-vmreclaim : goal.returns-clause-vmreclaim
returns-clause-vmreclaim c call = vmreclaim_deed call call.context.operands

pub returns-clause-new : goal.returns-clause-new
returns-clause-new c object call = new_deed call object

pub returns-clause-monitor : goal.returns-clause-monitor
returns-clause-monitor c call = monitor_deed call call.context.operands

pub returns-clause-waits : goal.returns-clause-waits
returns-clause-waits c call = monitor_waits call call.context.operands

pub returns-clause-wait : goal.returns-clause-wait
returns-clause-wait c call = wait_deed call call.context.operands

pub returns-clause-notify : goal.returns-clause-notify
returns-clause-notify c call = notify_deed call call.context.operands

pub returns-clause-fork : goal.returns-clause-fork
returns-clause-fork c call = fork_deed call call.context.operands

pub returns-clause-join : goal.returns-clause-join
returns-clause-join c call = join_deed call call.context.operands

pub returns-clause-detach : goal.returns-clause-detach
returns-clause-detach c call = detach_deed call call.context.operands
