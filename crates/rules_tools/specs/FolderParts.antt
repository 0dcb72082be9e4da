-- What a folder of rules is made of.
use Rattle.std.specs.Prelude.{Option}
use Rattle.dir_calls.specs.declared.fault.DirFault.{DirFault}
use Rattle.rules_tools.specs.declared.folder.RulesFolder.{RulesFolder}

-- its directory
abbrev pub folder_dir : {D : Type 0} → RulesFolder D → D
folder_dir folder = folder.dir

-- why the last scratch file that was to be taken away may stand still, if it may
abbrev pub folder_left : {D : Type 0} → RulesFolder D → Option DirFault
folder_left folder = folder.left
