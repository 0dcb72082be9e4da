-- What a server that has come to its end began with.
use Rattle.std.specs.Prelude.{ℕ, Option}
use Rattle.tcp_connections.specs.declared.served.Served.{Served}
use Rattle.tcp_connections.specs.declared.supply.Supply.{Supply}

-- how many it was to let in, if there is such a number, and what the system gave it
abbrev pub asked_count : Served → Option ℕ
asked_count served = served.count

abbrev pub given_supply : Served → Supply
given_supply served = served.supply
