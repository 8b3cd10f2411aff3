-- The names of a program's file, or its text.
use Rattle.ps_run.proofs.reading.read_program.Goals as goal

pub returns-in-File-clause-fault : goal.returns-in-File-clause-fault
returns-in-File-clause-fault g c = rw c.in-File.is c.read_file.ensures.fault

pub returns-in-Text-clause-fault : goal.returns-in-Text-clause-fault
returns-in-Text-clause-fault g c =
    rw (c.in-Text.is, ← c.in-Text.text-is) c.copy_text.ensures.fault
