-- How the program ends after each result of a run.
use Rattle.std.specs.Prelude.{ℕ, Bool, true, false, List, [], Result, Ok, Err, codes}
use Rattle.durstr_run.specs.declared.fault.RunFault.{RunFault}
use Rattle.durstr_run.specs.declared.fault.RunFault.TheVariants as faults

abbrev pub status_of : Result Bool RunFault → ℕ
status_of (Ok true) = 0
status_of (Ok false) = 1
status_of (Err faults.Read) = 2
status_of (Err faults.Write) = 2
status_of (Err faults.TooLong) = 2
status_of (Err faults.Memory) = 3

abbrev pub error_line : Result Bool RunFault → List ℕ
error_line (Ok accepted) = []
error_line (Err faults.Read) = codes "durstr: read failed"
error_line (Err faults.Write) = codes "durstr: write failed"
error_line (Err faults.TooLong) = codes "durstr: input too long"
error_line (Err faults.Memory) = codes "durstr: out of memory"
