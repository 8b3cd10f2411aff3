use Rattle.std.proofs.Common.{ℕ, [], Option, sym, ◌∙◌}
use Rattle.std.specs.Prelude.{option_map, slice_get, length}
use Rattle.std.specs.Option.{option_map_or}
use Rattle.ps_language.specs.World.{Context}
use Rattle.ps_ctx_table.specs.Desks.{Desk, IsGoodMember}
use Rattle.ps_ctx_table.proofs.Turning.{member_at}
use Rattle.ps_ctx.specs.Calls.{over_of}
use Rattle.ps_ctx_readers.specs.declared.frames.FrameView.{FrameView}
use Rattle.ps_ctx_readers.specs.Frames.{seen}
use Rattle.ps_ctx_readers.proofs.There.{of_there, of_none}
use Rattle.ps_ctx_readers.proofs.contexts.frame_at.Goals as goal

-- the frame of one that may not be there
abbrev view_in : (depth : ℕ) → Option Context → Option FrameView
view_in depth there =
    option_map seen (slice_get (option_map_or (λ one. one.frames) there []) depth)

pub returns-in_default-clause-view : goal.returns-in_default-clause-view
returns-in_default-clause-view g c = λ w is.
    of_none _ w is c.args.identifier (view_in c.args.depth) c.in_default.ensures.item

pub view_below-requires-clause-held : goal.view_below-requires-clause-held
view_below-requires-clause-held g c =
    let d : Desk = over_of g.M.Memory.heap g.M.Memory.grants c.args.runtime.now
    c.args.contexts.now in (
      length d.program,
      (member_at (IsGoodMember d) d.members c.args.identifier c.in-Some.member.now
          c.requires.steady.members (sym c.in-Some.ensures.item)).good.frames,
    )

pub returns-clause-view : goal.returns-clause-view
returns-clause-view g c = λ w is.
    c.view_below.ensures.view c.args.runtime.now.shared.names
    ∙ of_there _ w is c.args.identifier (view_in c.args.depth) c.in-Some.member.now
    c.in-Some.ensures.item
