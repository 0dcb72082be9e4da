-- How the tool ends, by how its server did.
use Rattle.std.specs.Prelude.{ℕ, ℤ, Bool, not, nat_le, ◌&&◌, ◌==◌, length, Option, None, Result, Ok, Err, if◌then◌else◌}
use Rattle.server_events.specs.Journals.{Books}
use Rattle.server_events.specs.ServerState.{ServerState}
use Rattle.server_parts.specs.declared.fault.ServerFailure.{ServerFailure}
use Rattle.server_parts.specs.declared.fault.ServerFault.{ServerFault}
use Rattle.server_parts.specs.declared.fault.ServerFault.TheVariants as fault
use Rattle.tcp_connections.specs.declared.served.ServeEnd.{ServeEnd}
use Rattle.tcp_connections.specs.declared.served.ServeEnd.TheVariants.{AcceptFaults, Count, Exhausted}
use Rattle.tcp_connections.specs.declared.served.Served.{Served}

-- a yard with these books and this server has lost a connection if one is alive that is not retired, or if another
-- number had their admission than were let in
abbrev pub has_lost : (let_in : ℕ) → Books → ServerState → Bool
has_lost let_in books server =
    not ((books.report.retired == length server.connections) && (books.report.admitted == let_in))

-- all its places are retired
abbrev pub is_retired : Books → ServerState → Bool
is_retired books server = nat_le server.limit books.report.retired

-- the end by a fault that has no number of the system
abbrev pub failed : ServerFault → Result (Unit {0}) ServerFailure
failed fault = Err (record { fault = fault; error = None })

-- a server that has served all ends well; a fault of accepting has the last error's number, or that for want of
-- descriptors; what else ends a server is that all places are retired, or want of memory
abbrev pub told_by : (retired : Bool) → ServeEnd → (accepting : Option ℤ) → Result (Unit {0}) ServerFailure
told_by retired Count accepting = Ok tt
told_by retired AcceptFaults accepting = Err (record { fault = fault.AcceptFault; error = accepting })
told_by retired Exhausted accepting = if retired then failed fault.NoPlaces else failed fault.OutOfMemory

-- but one that has lost a connection ends by that
abbrev pub told_of : Served → Books → ServerState → Result (Unit {0}) ServerFailure
told_of served books server =
    if has_lost served.let_in books server then failed fault.LostConnection
    else told_by (is_retired books server) served.end served.faults.last
