-- The environment of a child: what it inherits, what its connection tells, and what the deciding rule sets.
use Rattle.std.specs.Prelude.{ℕ, List, [], ◌∷◌, ◌++◌, map, Option, Some, None, codes, decimal}
use Rattle.std.specs.List.{fold}
use Rattle.std.specs.Net.Text.{ipv4_text}
use Rattle.rule_lookup.specs.Settings.{Assignment}
use Rattle.rule_lookup.specs.declared.decision.Decision.{Decision}
use Rattle.rule_lookup.specs.Peers.{Client}
use Rattle.child_jobs.specs.Ends.{LocalEnd}
use Rattle.child_jobs.specs.Variables.{Variable, Variables, with_values, without_value}

-- the names that tell of the client
abbrev pub remote_names : List (List ℕ)
remote_names = codes "TCPREMOTEIP" ∷ codes "TCPREMOTEPORT" ∷ codes "TCPREMOTEHOST" ∷ codes "TCPREMOTEINFO" ∷ []

-- the names that a connection gives, and that are never inherited
abbrev pub own_names : List (List ℕ)
own_names =
    codes "PROTO" ∷ codes "TCPLOCALIP" ∷ codes "TCPLOCALPORT" ∷ codes "TCPLOCALHOST" ∷ remote_names

-- what is inherited
abbrev pub without_own : Variables → Variables
without_own vars = fold without_value vars own_names

-- a variable that may be unknown
abbrev pub where_known : List ℕ → Option (List ℕ) → List Variable
where_known name None = []
where_known name (Some value) = (name, value) ∷ []

-- what the connection tells
abbrev pub of_connection : LocalEnd → Client → List Variable
of_connection local peer =
    (codes "PROTO", codes "TCP") ∷ (codes "TCPLOCALIP", ipv4_text local.ip) ∷ (codes "TCPLOCALPORT", decimal local.port)
    ∷ (codes "TCPREMOTEIP", ipv4_text peer.ip) ∷ (codes "TCPREMOTEPORT", decimal peer.port) ∷ []
    ++ where_known (codes "TCPLOCALHOST") local.host ++ where_known (codes "TCPREMOTEHOST") peer.host ++ where_known (codes "TCPREMOTEINFO") peer.info

-- what a setting sets
abbrev pub assigned : Assignment → Variable
assigned setting = (setting.name, setting.value)

-- the environment: of one name the last of these counts
abbrev pub environment_of : Variables → LocalEnd → Client → Decision → Variables
environment_of inherited local peer decision =
    with_values (with_values (without_own inherited) (of_connection local peer)) (map assigned decision.settings)
