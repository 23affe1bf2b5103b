-- What contracts see of a folder in memory.
use Rattle.std.specs.Prelude.{ℕ}
use Rattle.outer_io.specs.declared.mem_folder.MemFolder.{MemFolder}
use Rattle.outer_io.specs.Files.{Files}
use Rattle.outer_io.specs.FileMap.{files_of}
use Rattle.outer_io.specs.Plan.{FaultPlan}
use Rattle.outer_io.specs.Calls.{plan_of}

-- the files that the folder keeps in memory
abbrev pub folder_files : MemFolder → Files
folder_files f = files_of f.files

-- which of its calls fail
abbrev pub folder_plan : MemFolder → FaultPlan
folder_plan f = plan_of f.calls

-- how many of its calls failed
abbrev pub folder_faults : MemFolder → ℕ
folder_faults f = f.calls.faults.raised

-- how many times it was read at an offset
abbrev pub folder_reads : MemFolder → ℕ
folder_reads f = f.reads
