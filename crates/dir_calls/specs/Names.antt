-- Which bytes are a name.
use Rattle.std.specs.Prelude.{◌||◌, ℕ, Bool, List, codes, length, nat_eq, nat_lt, Option, None, Some, if◌then◌else◌}
use Rattle.std.specs.List.{list_any}
use Rattle.std.specs.Str.{is_utf8, bytes_eq}
use Rattle.dir_calls.specs.declared.name.NameFault.{NameFault}
use Rattle.dir_calls.specs.declared.name.NameFault.TheVariants.{Empty, TooLong, Slash, Nul, Dots, NotText}

-- `.` or `..`
abbrev pub is_dots : List ℕ → Bool
is_dots bytes = bytes_eq bytes (codes ".") || bytes_eq bytes (codes "..")

-- the first rule for names that these bytes break
abbrev pub name_fault : List ℕ → Option NameFault
name_fault bytes =
    if nat_eq (length bytes) 0 then Some Empty else
    if nat_lt 255 (length bytes) then Some TooLong else
    if list_any (λ byte. nat_eq byte 47) bytes then Some Slash else
    if list_any (λ byte. nat_eq byte 0) bytes then Some Nul else
    if is_dots bytes then Some Dots else
    if is_utf8 bytes then None else Some NotText
