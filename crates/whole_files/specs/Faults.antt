-- What is told of a file that isn't read or written.
use Rattle.std.specs.Prelude.{ℕ, List, codes}
use Rattle.whole_files.specs.declared.fault.FileFault.{FileFault}
use Rattle.whole_files.specs.declared.fault.FileFault.TheVariants as fault

-- why a file isn't read or written
abbrev pub file_fault_text : FileFault → List ℕ
file_fault_text fault.Memory = codes "out of memory"
file_fault_text fault.AnotherOwner = codes "another owner"
file_fault_text fault.BadName = codes "a bad name"
file_fault_text fault.Denied = codes "denied"
file_fault_text fault.Failed = codes "failed"
file_fault_text fault.Folder = codes "a folder"
file_fault_text fault.Full = codes "disk full"
file_fault_text fault.Link = codes "a link"
file_fault_text fault.NotFound = codes "not found"
file_fault_text fault.NotPlain = codes "a device or a pipe"
file_fault_text fault.ReadOnly = codes "read-only"
file_fault_text fault.SeveralNames = codes "several names"
