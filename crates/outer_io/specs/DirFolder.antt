-- What contracts see of a folder over a directory.
use Rattle.std.specs.Prelude.{◌≡◌, ◌⊎◌, ℕ, ℤ, List, [], ◌∷◌, ◌++◌, Some, string_bytes, codes}
use Rattle.std.specs.Fmt.{signed_decimal}
use Rattle.std.specs.Fd.{file_raw_fd}
use Rattle.std.specs.declared.fs.File.{File}
use Rattle.outer_io.specs.declared.dir_folder.DirFolder.{DirFolder}

-- the path of the directory
abbrev pub directory_path : {R D : Type 0} → DirFolder R D → List ℕ
directory_path f = string_bytes f.dir

-- a path, where the empty one is the directory that the program runs in
abbrev pub path_or_dot : List ℕ → List ℕ
path_or_dot [] = codes "."
path_or_dot (c ∷ cs) = c ∷ cs

-- the path of an open file by its descriptor, in this process (proc_pid_fd(5) of Linux)
abbrev pub descriptor_path : ℤ → List ℕ
descriptor_path fd = codes "/proc/self/fd/" ++ signed_decimal fd

-- the directory is reached by the descriptor that is open for it, or by its path
abbrev pub IsReached : {R D : Type 0} → List ℕ → DirFolder R D → Type 0
IsReached dir f =
    ((file : File) × (f.custody.dir ≡ Some file) × (directory_path f ≡ descriptor_path (file_raw_fd file)))
    ⊎ (directory_path f ≡ path_or_dot dir)

-- how many of its calls failed
abbrev pub directory_faults : {R D : Type 0} → DirFolder R D → ℕ
directory_faults f = f.faults.count.raised

-- how many times it was read at an offset
abbrev pub directory_reads : {R D : Type 0} → DirFolder R D → ℕ
directory_reads f = f.reads

-- no fault and no read was counted, and the directory is the same, by the same handle
pub record StaysCounted {R D : Type 0} (old new : DirFolder R D) : Type 0 where
  pub dir : directory_path new ≡ directory_path old
  pub handle : new.custody.dir ≡ old.custody.dir
  pub faults : directory_faults new ≡ directory_faults old
  pub reads : directory_reads new ≡ directory_reads old
