-- What the lines of orders are, by examples that a near neighbour of the definition fails.
use Rattle.std.proofs.Common.{◌≡◌, refl, [], ◌++◌}
use Rattle.std.specs.Prelude.{codes}
use Rattle.std.specs.Fmt.{decimal}
use Rattle.ps_views.specs.Orders.{counted, ending_line, limit_text, whole_text}

-- of one thing there is no s
one : counted 1 (codes "cut") ≡ decimal 1 ++ codes " cut"
one = refl

none : counted 0 (codes "cut") ≡ decimal 0 ++ codes " cuts"
none = refl

eleven : counted 11 (codes "cut") ≡ decimal 11 ++ codes " cuts"
eleven = refl

-- those with fewer cuts than two have one at most
whole : whole_text 2 ≡ codes "all orders with at most " ++ (decimal 1 ++ codes " cut")
whole = refl

not_one : whole_text 0 ≡ codes "not all orders with 0 cuts"
not_one = refl

-- as many cuts as there may be
all : limit_text (record { cuts = 1; below = 2; runs = 15 }) ≡ []
all = refl

-- one cut fewer
fewer : limit_text (record { cuts = 1; below = 1; runs = 15 })
    ≡ codes "; more than " ++ (decimal 15 ++ codes " runs")
fewer = refl

deadlock : ending_line (record {
  number = 3;
  cuts = 1;
  steps = 25;
  printed = 0;
}) (codes "all contexts wait") ≡ (codes "ending " ++ (decimal 3 ++ (codes ": " ++ (decimal 1 ++ codes " cut"))))
    ++ (codes ", " ++ (((decimal 25 ++ codes " steps")
    ++ (codes ", " ++ (codes "all contexts wait" ++ codes ", ")))
    ++ ((decimal 0 ++ codes " bytes") ++ codes "\n")))
unfolding ending_line
deadlock = refl
