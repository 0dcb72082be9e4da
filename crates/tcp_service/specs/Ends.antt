-- What the values of a connection's life are evidence of.
use Rattle.std.specs.Prelude.{Option, option_map}
use Rattle.std.specs.declared.snapshot.Snapshot.{Snapshot}
use Rattle.server_events.specs.declared.event.Event.{Event}
use Rattle.server_log.specs.Reports.{reported_event}
use Rattle.server_log.specs.declared.log.Reported.{Reported}
use Rattle.tcp_service.specs.declared.telling.Begun.{Begun}
use Rattle.tcp_service.specs.declared.telling.Noted.{Noted}
use Rattle.tcp_service.specs.declared.telling.Over.{Over}

-- the event that notes a decision
abbrev pub noted_event : Noted → Event
noted_event noted = reported_event noted.decision

-- of a connection whose program runs: the event that notes its decision, and the event that was asked for last
abbrev pub begun_decided : Begun → Event
begun_decided begun = reported_event begun.decided.value

abbrev pub begun_last : Begun → Event
begun_last begun = reported_event begun.last.value

-- of a connection that is over: the event that notes its decision, if it ended by that, and the event that ended it
abbrev pub over_decided : Over → Option Event
over_decided over = option_map (λ (decision : Snapshot Reported). reported_event decision.value) over.decided

abbrev pub over_end : Over → Event
over_end over = reported_event over.last.value
