-- What the lines of worlds are, by examples that a near neighbour of the definition fails.
use Rattle.std.proofs.Common.{◌≡◌, refl, ◌++◌}
use Rattle.std.specs.Prelude.{codes}
use Rattle.std.specs.Fmt.{decimal}
use Rattle.ps_searches.specs.declared.covers.Extent.TheVariants.{All, Most, Lost}
use Rattle.ps_views.specs.Worlds.{bound_text, extent_line, found_lines, world_ending_line}

race : found_lines (record { worlds = 311; steps = 639; endings = 2; extent = All })
    ≡ ((codes "worlds" ++ (codes " " ++ (decimal 311 ++ codes "\n")))
    ++ ((codes "steps between them" ++ (codes " " ++ (decimal 639 ++ codes "\n")))
    ++ (codes "endings" ++ (codes " " ++ (decimal 2 ++ codes "\n")))))
    ++ codes "all orders\n"
unfolding found_lines
race = refl

-- the worlds that were kept are the bound, and neither the steps nor the endings
met : extent_line (record { worlds = 100; steps = 639; endings = 2; extent = Most })
    ≡ codes "not all orders: more than "
    ++ ((decimal 100 ++ codes " worlds") ++ codes "; --cuts K bounds them otherwise\n")
met = refl

one : bound_text 1 ≡ codes "not all orders: more than "
    ++ ((decimal 1 ++ codes " world") ++ codes "; --cuts K bounds them otherwise\n")
one = refl

lost : extent_line (record { worlds = 100; steps = 639; endings = 2; extent = Lost })
    ≡ codes "not all orders: a run made again came to another world\n"
lost = refl

deadlock : world_ending_line (record { number = 1; steps = 25; printed = 0 })
    (codes "all contexts wait") ≡ (codes "ending " ++ (decimal 1 ++ codes ": "))
    ++ (((decimal 25 ++ codes " steps") ++ (codes ", " ++ (codes "all contexts wait" ++ codes ", ")))
    ++ ((decimal 0 ++ codes " bytes") ++ codes "\n"))
unfolding world_ending_line
deadlock = refl
