-- What answers of the system mean, by their numbers in errno(3).
use Rattle.std.proofs.Common.{◌≡◌, true, false, refl}
use Rattle.std.specs.Prelude.{pos}
use Rattle.std.specs.IoError.{os_error_kind}
use Rattle.dpsrun.specs.Faults.{fault_of, is_of_name}
use Rattle.ps_run.specs.declared.files.ReadFault.TheVariants.{NotFound, Folder, Denied, NoRead, Memory}

-- ENOENT, EISDIR, EACCES, EPERM, ENOMEM; ENOTDIR and EIO have no reason of their own
missing : fault_of (os_error_kind (pos 2)) ≡ NotFound
unfolding os_error_kind
missing = refl

folder : fault_of (os_error_kind (pos 21)) ≡ Folder
unfolding os_error_kind
folder = refl

denied : (fault_of (os_error_kind (pos 13)) ≡ Denied) × (fault_of (os_error_kind (pos 1)) ≡ Denied)
unfolding os_error_kind
denied = (refl, refl)

wanting : fault_of (os_error_kind (pos 12)) ≡ Memory
unfolding os_error_kind
wanting = refl

unread : (fault_of (os_error_kind (pos 20)) ≡ NoRead) × (fault_of (os_error_kind (pos 5)) ≡ NoRead)
unfolding os_error_kind
unread = (refl, refl)

-- EACCES, EEXIST and ENAMETOOLONG leave the file's own name; ENOSPC, EROFS and ENOENT don't
named : (is_of_name (os_error_kind (pos 13)) ≡ true) × (is_of_name (os_error_kind (pos 17)) ≡ true)
    × (is_of_name (os_error_kind (pos 36)) ≡ true)
unfolding os_error_kind
named = (refl, refl, refl)

unnamed : (is_of_name (os_error_kind (pos 28)) ≡ false) × (is_of_name (os_error_kind (pos 30)) ≡ false)
    × (is_of_name (os_error_kind (pos 2)) ≡ false)
unfolding os_error_kind
unnamed = (refl, refl, refl)
