-- The environment of a child: variables, the two ends of a connection, and what a host table says of names. Programs, children that
-- run with their places, and what a server does with each connection.
pub mod Child
pub mod Ends
pub mod Hosts
pub mod HostMaps
pub mod HostRows
pub mod Variables
pub mod Plans
pub mod Programs
pub mod Runs
pub mod PlacesOut
pub use Rattle.rule_lookup.specs.Peers
