-- What is let in of a connection that was accepted.
use Rattle.std.specs.Prelude.{◌≡◌}
use Rattle.tcp_connections.specs.Names.{client_at, local_at}
use Rattle.tcp_connections.specs.declared.accepting.Accepted.{Accepted}
use Rattle.tcp_connections.specs.declared.names.HostNames.{HostNames}
use Rattle.tcp_service.specs.Greetings.{guest_connection, guest_identity}
use Rattle.tcp_service.specs.declared.guest.Guest.{Guest}

-- the connection is the one that was accepted, and so are the client and the server's end, with their names
pub record IsAccepted {X : Type 0} (names : HostNames) (guest : Guest X) (accepted : Accepted X) : Type 0 where
  pub client : (guest_identity guest).peer ≡ client_at names accepted.ip accepted.port
  pub end : (guest_identity guest).local ≡ local_at names accepted.local.ip accepted.local.port
  pub same : guest_connection guest ≡ accepted.connection
