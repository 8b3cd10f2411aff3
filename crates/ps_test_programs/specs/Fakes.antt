-- What the files and outputs of tests hold.
use Rattle.std.specs.Prelude.{◌||◌, ℕ, List, Option, Some, None, Result, Ok, Err, codes, if◌then◌else◌}
use Rattle.std.specs.Str.{bytes_eq}
use Rattle.std.specs.Borrow.{Bor}
use Rattle.ps_run.specs.declared.files.ReadFault.{ReadFault}

-- the bytes of the one file, where it can be read
abbrev pub bytes_in : Result (Bor (List ℕ)) ReadFault → Option (List ℕ)
bytes_in (Ok bytes) = Some bytes.now
bytes_in (Err fault) = None

-- the bytes of the program's file and of the schedule's, which has two names
abbrev pub known_in : (program schedule : Result (Bor (List ℕ)) ReadFault) → (name : List ℕ)
    → Option (List ℕ)
known_in program schedule name = if bytes_eq name (codes "f") then bytes_in program
    else (if bytes_eq name (codes "s") || bytes_eq name (codes "s.2") then bytes_in schedule
    else None)
