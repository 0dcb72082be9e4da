-- What a log is told of a yard's events.
use Rattle.std.specs.Prelude.{◌≡◌, ⊤, List, Result, Some}
use Rattle.server_events.specs.ServerState.{peer_of}
use Rattle.server_events.specs.declared.event.Event.{Event}
use Rattle.server_events.specs.declared.event.Event.TheVariants as event
use Rattle.server_events.specs.declared.state.Connection.{Connection}
use Rattle.server_log.specs.declared.fault.LogFault.{LogFault}
use Rattle.server_log.specs.declared.lines.Told.{Told}
use Rattle.server_log.specs.declared.lines.Told.TheVariants as told
use Rattle.server_log.specs.declared.log.Reported.{Reported}
use Rattle.server_yard.specs.Evidence.{asked_event}
use Rattle.server_yard.specs.declared.evidence.Made.{Made}
use Rattle.server_yard.specs.declared.evidence.OutOfTurn.{OutOfTurn}

-- a log that is told this is told this event, as it was
abbrev pub Tells : Told → Event → Type 0
Tells (told.Admitted n ip) (event.Admitted m peer) = (n ≡ m) × (ip ≡ peer.ip)
Tells (told.Decided n verdict local peer file) (event.Decided m decision) = (n ≡ m) × (verdict ≡ decision.verdict)
Tells (told.Started n process) (event.Started m) = n ≡ m
Tells (told.StartFailed n fault cause) (event.StartFailed m why) = (n ≡ m) × (fault ≡ why)
Tells (told.Ended n status signal) (event.Ended m end) = (n ≡ m) × (status ≡ end)
Tells (told.Retired n) (event.Retired m) = n ≡ m
Tells (told.Dropped n cause file words) (event.Dropped m why) = (n ≡ m) × (cause ≡ why)
Tells other event = ⊥

-- a client that it is told of is that of the connection, of these
abbrev pub TellsItsClient : Told → List Connection → Type 0
TellsItsClient (told.Decided n verdict local peer file) connections = peer_of n connections ≡ Some peer.now
TellsItsClient other connections = ⊤

-- what a yard answered, the event that it was asked for, and what became of the lines of the event
abbrev pub reported_answer : Reported → Result Made OutOfTurn
reported_answer reported = reported.answer

abbrev pub reported_event : Reported → Event
reported_event reported = asked_event (reported_answer reported)

abbrev pub reported_lines : Reported → Result (Unit {0}) LogFault
reported_lines reported = reported.lines
