pub mod DeedLaws
pub mod Reading
pub mod Wishing
pub mod Locking
pub mod Fresh
pub mod Singling
pub mod Owning
pub mod WaitLemmas
pub mod NotifyLemmas
pub mod Monitoring
pub mod JoinLemmas
pub mod ForkLemmas
pub mod Parts
pub mod StatusLemmas
pub mod Ending
pub mod Arms
mod AloneDone
mod Others
mod NamedOperand
mod Unchanged
mod WaitEnds
mod DetachDone
mod ForkDone
mod JoinFound
mod JoinDone
mod Among
mod Stopping
mod NotifyDone
mod WaitDone
mod MonitorDone
mod RetakeDone
mod JoinWaits
mod Ready
