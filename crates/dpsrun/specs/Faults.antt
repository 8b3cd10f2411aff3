-- What the system's answers mean for files.
use Rattle.std.specs.Prelude.{Bool, true, false}
use Rattle.std.specs.declared.io.ErrorKind.{ErrorKind}
use Rattle.std.specs.declared.io.ErrorKind.TheVariants.{IsADirectory, AlreadyExists, InvalidFilename}
use Rattle.std.specs.declared.io.ErrorKind.TheVariants.{NotFound as NoSuchFile, PermissionDenied, OutOfMemory}
use Rattle.ps_run.specs.declared.files.ReadFault.{ReadFault}
use Rattle.ps_run.specs.declared.files.ReadFault.TheVariants.{NotFound, Folder, Denied, NoRead, Memory}

-- why a file is not read that the system doesn't open or read
abbrev pub fault_of : ErrorKind → ReadFault
fault_of NoSuchFile = NotFound
fault_of IsADirectory = Folder
fault_of PermissionDenied = Denied
fault_of OutOfMemory = Memory
fault_of _ = NoRead

-- a file can't be made beside another for its name's sake: the folder takes no new file, or none of
-- a longer name, or the name is taken
abbrev pub is_of_name : ErrorKind → Bool
is_of_name PermissionDenied = true
is_of_name AlreadyExists = true
is_of_name InvalidFilename = true
is_of_name _ = false
