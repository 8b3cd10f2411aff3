use Rattle.std.proofs.Common.{◌≡◌, take}
use Rattle.ps_worlds.specs.Images.{members_in}
use Rattle.ps_worlds.proofs.members.images_of.Given as goal

-- those of the identifiers so far
abbrev pub invariant-loop-behind : goal.invariant-loop-behind
invariant-loop-behind l = members_in l.images.items ≡ take l.behind l.table
