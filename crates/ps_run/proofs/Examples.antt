-- What the definitions of a run say, and their nearest neighbours don't.
use Rattle.std.proofs.Common.{◌≡◌, ℕ, true, false, List, [], ◌∷◌, Option, Some, None, codes, refl, sym, true≢false, arith, ◌++◌, ◌∙◌}
use Rattle.std.specs.Fmt.{decimal}
use Rattle.clap.specs.Words.{Text}
use Rattle.ps_vault.specs.declared.reports.Report.{Report}
use Rattle.ps_run.specs.Driving.{IsLost, IsRecordName, IsUnrecorded, Outputs, agreement, bad_line, ending_lines, lost_line, numbered, unread, unread_lines, unwritten_line}
use Rattle.ps_run.specs.Telling.{Tells, Told}
use Rattle.ps_run.specs.declared.files.ReadFault.TheVariants as fault
use Rattle.ps_run.specs.declared.statuses.Status.{Status}
use Rattle.ps_run.specs.declared.statuses.Status.TheVariants as status

-- ---- what is told

abbrev nothing : Told
nothing = record { bytes = Some []; failed = false }

abbrev some : List ℕ → Told
some text = record { bytes = Some text; failed = false }

-- a line is told whole, where the output takes it
whole : Tells nothing (some lost_line) lost_line
whole = record {
  part = record { part = lost_line; rest = []; is = refl; written = refl };
  whole = λ going. refl;
  silent = λ failed. cc;
}

-- silence is no line, nor is a part of one, nor another
no_silence : ¬ Tells nothing nothing lost_line
no_silence tells = let bad : [] ≡ lost_line = tells.whole refl in cc

no_part : ¬ Tells nothing (some (codes "dpsrun: ")) lost_line
no_part tells = let bad : codes "dpsrun: " ≡ lost_line = tells.whole refl in cc

no_counts : ¬ Tells nothing (some (codes "flips 0\n")) lost_line
no_counts tells = let bad : codes "flips 0\n" ≡ lost_line = tells.whole refl in cc

-- a part is told where the output failed then, and nothing where it had
part : Tells nothing (record { bytes = Some (codes "dps"); failed = true }) lost_line
part = record {
  part = record {
    part = codes "dps";
    rest = codes "run: cannot write output\n";
    is = refl;
    written = refl;
  };
  whole = λ going. cc;
  silent = λ failed. cc;
}

behind : (text : List ℕ) (new : Told)
    → Tells (record { bytes = Some []; failed = true }) new text
    → new ≡ record { bytes = Some []; failed = true }
behind text new tells = tells.silent refl

-- ---- the lines

folder : unread_lines fault.Folder (codes "d")
    ≡ codes "dpsrun: 'd' is a folder\ndpsrun: cannot read d\n"
folder = refl

missing : unread_lines fault.NotFound (codes "a b")
    ≡ codes "dpsrun: 'a b' does not exist\ndpsrun: cannot read a b\n"
missing = refl

wanting : unread_lines fault.Memory (codes "d") ≡ codes "dpsrun: out of memory\n"
wanting = refl

is_usage : unread fault.TooLong ≡ status.Usage
is_usage = refl

is_memory : unread fault.Memory ≡ status.Memory
is_memory = refl

unwritten : unwritten_line (codes "r") ≡ codes "dpsrun: cannot write r\n"
unwritten = refl

bad : bad_line 17 ≡ codes "dpsrun: bad schedule line " ++ (decimal 17 ++ codes "\n")
bad = refl

counted : ending_lines 100 2
    ≡ (codes "runs " ++ (decimal 100 ++ codes "\n")) ++ (codes "endings " ++ (decimal 2 ++ codes "\n"))
counted = refl

-- ---- files

third : numbered (codes "r") 3 ≡ codes "r." ++ decimal 3
third = refl

is_third : IsRecordName (Some (codes "r")) (Some 3) (codes "r." ++ decimal 3)
is_third = (3, omega arith, omega arith, refl)

is_itself : IsRecordName (Some (codes "r")) None (codes "r")
is_itself = refl

-- where memory was wanted for a record, or the output is lost, no file has changed
unrecorded : (name : Option Text) (outputs : Outputs) → IsUnrecorded name status.Memory outputs
    → outputs.files_new ≡ outputs.files_old
unrecorded name outputs is = is.1 refl

lost : (printed : List ℕ) (told : Status) (outputs : Outputs) → IsLost printed told outputs
    → outputs.files_new ≡ outputs.files_old
lost printed told outputs is = is.2

-- a record that isn't asked for is not one that fails
unasked : (told : Status) (outputs : Outputs) → ¬ IsUnrecorded None told outputs
unasked told outputs is = is.0

-- nor is one where no write has failed
unfailed : (name : Text) (outputs : Outputs) → outputs.unwritten ≡ false
    → ¬ IsUnrecorded (Some name) status.Usage outputs
unfailed name outputs none is = absurd (true≢false (sym is.0.0 ∙ none))

-- ---- many runs

alike : (ending : Report) → agreement (ending ∷ []) ≡ status.Finished
alike ending = refl

apart : (first second : Report) → agreement (first ∷ second ∷ []) ≡ status.Faulted
apart first second = refl
