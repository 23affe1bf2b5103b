-- What the program says of how a run ended.
use Rattle.std.specs.Prelude.{ℕ, List, [], ◌++◌, codes, decimal}
use Rattle.damage_text.specs.Texts.{damage_text}
use Rattle.run_status.specs.declared.status.Status.{Status}
use Rattle.run_status.specs.declared.status.Status.TheVariants as status

-- the exit status of the program
abbrev pub number_of : Status → ℕ
number_of status.Done = 0
number_of status.Usage = 1
number_of (status.SomeRefused count) = 2
number_of status.SourceFault = 3
number_of status.FolderFault = 4
number_of status.SinkFault = 5
number_of (status.Damaged damage) = 6
number_of status.Memory = 7
number_of status.TooLarge = 8

-- the line on standard error
unfoldable pub line_of : Status → List ℕ
line_of status.Done = []
line_of status.Usage =
    codes "usage: bkd FOLDER run|load|explain|check|generate|session|count|ranges|batch|export|info|clean [options]\n"
line_of (status.SomeRefused count) = codes "refused " ++ decimal count ++ codes "\n"
line_of status.SourceFault = codes "source fault\n"
line_of status.FolderFault = codes "folder fault\n"
line_of status.SinkFault = codes "sink fault\n"
line_of (status.Damaged damage) = codes "damaged: " ++ damage_text damage ++ codes "\n"
line_of status.Memory = codes "out of memory\n"
line_of status.TooLarge = codes "input too large\n"
