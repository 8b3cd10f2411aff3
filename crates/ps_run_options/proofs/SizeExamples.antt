-- Sizes of texts, and texts of none.
use Rattle.std.proofs.Common.{◌≡◌, Some, None, codes, refl}
use Rattle.ps_run_options.specs.Sizes.{size_of}

of_digits : size_of (codes "4096") ≡ Some 4096
of_digits = refl

of_zero : size_of (codes "0") ≡ Some 0
of_zero = refl

of_kilo : size_of (codes "64k") ≡ Some 65536
of_kilo = refl

of_mega : size_of (codes "+1M") ≡ Some 1048576
of_mega = refl

of_giga : size_of (codes "03g") ≡ Some 3221225472
of_giga = refl

of_nothing : size_of (codes "") ≡ None
of_nothing = refl

of_a_sign : size_of (codes "+") ≡ None
of_a_sign = refl

of_a_unit : size_of (codes "k") ≡ None
of_a_unit = refl

of_two_units : size_of (codes "1kk") ≡ None
of_two_units = refl

of_digits_behind : size_of (codes "1k5") ≡ None
of_digits_behind = refl

of_another_letter : size_of (codes "1b") ≡ None
of_another_letter = refl
