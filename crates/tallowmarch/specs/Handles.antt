-- What a host's handle owns, and what run stands in it.
use Rattle.std.specs.Prelude.{Bool, true, false, Option, Some, None}
use base.Fml.{Fml, ftrue}
use denote.RawPtr.{Ptr}
use Rattle.std.specs.contracts.alloc.Global as heap
use Rattle.std.specs.contracts.impls.GlobalAllocator.TheImpl.{ghosts}
use Rattle.std_alloc.specs.Box.Ownership.{box_owns}
use Rattle.ps_vault.specs.Stories.{Story}
use Rattle.tallowmarch.specs.declared.engines.Engine.{Engine}
use Rattle.tallowmarch.specs.contracts.engines.Engine.{the_row}

-- the host's memory: all handles of it are one
abbrev pub memory : heap.the_row.Denot
memory = record { memory = record { seal = tt } }

-- nothing, or a block of that memory at a pointer that has this value
abbrev pub loosely : Ptr → Option Engine → Fml
loosely at None = ftrue
loosely at (Some engine) = box_owns (ghosts.dealloc_token memory) the_row at engine

-- there is one
abbrev pub stands : Option Engine → Bool
stands None = false
stands (Some engine) = true

-- the run that stands, as a vault is seen
abbrev pub told : Option Engine → Option Story
told None = None
told (Some engine) = engine.run
