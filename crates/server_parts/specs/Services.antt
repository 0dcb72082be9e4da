-- What a server has by its words: its program, its names, and what its connections take.
use Rattle.std.specs.Prelude.{◌≡◌, ℕ, is_some, option_map, string_bytes}
use Rattle.child_jobs.specs.Programs.{ProgramText}
use Rattle.server_words.specs.Operands.{Service}
use Rattle.server_words.specs.Plans.{ServerPlan}
use Rattle.server_words.specs.declared.mode.Mode.{Mode}
use Rattle.server_words.specs.declared.mode.Mode.TheVariants.{HandedOver, Pumped}
use Rattle.tcp_connections.specs.declared.names.HostNames.{HostNames}
use Rattle.tcp_connections.specs.declared.supply.Supply.{Supply}

-- the program that the words of a server name, with all arguments behind it
abbrev pub program_by : Service → ProgramText
program_by service = record { path = service.path; args = service.args }

-- how the ends of connections get their names: by a host table if `-N` names one; the server's end has the name of
-- `-l`; clients have names (`-h`) or none (`-H`), and those that the table does not confirm are removed (`-p`) or not
pub record AreNamesOf (words : ServerPlan) (names : HostNames) : Type 0 where
  pub hosts : is_some names.hosts ≡ is_some words.hosts
  pub local : option_map string_bytes names.local ≡ words.local
  pub remote : names.remote ≡ words.names_remote
  pub confirm : names.confirm ≡ words.confirms

-- the descriptors that a connection takes until its program runs, and from then on: its own and that of the rules file,
-- if it is handed over; else its own and both ends of two pipes, and then its own and an end of each
abbrev pub to_begin : Mode → ℕ
to_begin HandedOver = 2
to_begin Pumped = 5

abbrev pub to_go_on : Mode → ℕ
to_go_on HandedOver = 0
to_go_on Pumped = 3

-- a connection takes these of what the system gives a server
pub record IsSupplyIn (mode : Mode) (supply : Supply) : Type 0 where
  pub begin : supply.to_begin ≡ to_begin mode
  pub go_on : supply.to_go_on ≡ to_go_on mode
