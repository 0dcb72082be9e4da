-- What connections come from, and how their bytes pass.
use Rattle.std.specs.Prelude.{◌≡◌, ℕ, Bool, true, false, Option, option_map}
use Rattle.byte_streams.specs.declared.recording.Way.TheVariants.{Input, Output}
use Rattle.server_words.specs.declared.mode.Mode.{Mode}
use Rattle.server_words.specs.declared.mode.Mode.TheVariants.{HandedOver, Pumped}
use Rattle.server_words.specs.Plans.{ServerPlan}
use Rattle.tcp_streams.specs.Recorders.{Records}
use Rattle.tcp_streams.specs.Wrappers.{IsNewChain}
use Rattle.tcp_streams.specs.declared.passing.Passage.{Passage}
use Rattle.tcp_streams.specs.declared.passing.Passing.{Passing}
use Rattle.tcp_streams.specs.declared.programs.Connection.{Connection}
use Rattle.tcp_streams.specs.declared.programs.ProgramStarter.{ProgramStarter}
use Rattle.tcp_streams.specs.declared.programs.ServiceJob.{ServiceJob}
use Rattle.tcp_streams.specs.declared.sockets.SocketAcceptor.{SocketAcceptor}

-- the socket that an acceptor's connections come from, whether what is written to them is sent at once, and what starts
-- their programs
abbrev pub accepts_from : {R T E : Type 0} → SocketAcceptor R T E → T
accepts_from acceptor = acceptor.listener

abbrev pub accepts_at_once : {R T E : Type 0} → SocketAcceptor R T E → Bool
accepts_at_once acceptor = acceptor.sends_at_once

abbrev pub acceptor_starter : {R T E : Type 0} → SocketAcceptor R T E → ProgramStarter R E
acceptor_starter acceptor = acceptor.starter.now

-- how the bytes of the connections pass whose programs it starts
abbrev pub passing_of : {R E : Type 0} → ProgramStarter R E → Passing
passing_of starter = starter.passing

-- connections are handed over or pumped as the words say; what passes goes through the line wrappers of `-w`, each way
-- in its order, and is recorded where `-w` begins with `recordio`
pub record IsAskedPassing (words : ServerPlan) (passing : Passing) : Type 0 where
  pub mode : passing.mode ≡ words.mode
  pub recording : passing.recording ≡ words.wrapping.records
  pub input : passing.input.now ≡ words.wrapping.input
  pub output : passing.output.now ≡ words.wrapping.output

-- the server passes the bytes of connections on
abbrev pub pumps : Mode → Bool
pumps HandedOver = false
pumps Pumped = true

-- the port of a connection's client, and what starts its program
abbrev pub port_of : {R E : Type 0} → Connection R E → ℕ
port_of connection = connection.port

abbrev pub connection_starter : {R E : Type 0} → Connection R E → ProgramStarter R E
connection_starter connection = connection.starter.now

-- the connection of a job, if it is pumped
abbrev pub passage_of : {R E : Type 0} → ServiceJob R E → Option (Passage R E)
passage_of job = option_map (λ passage. passage.value) job.passage

-- a connection passes through new wrappers, each way by its names in their order; and both ways are recorded with this
-- port exactly if that is asked for
pub record IsNewPassage {R E : Type 0} (passing : Passing) (port : ℕ) (passage : Passage R E) : Type 0 where
  pub input : IsNewChain passing.input.now passage.upward.chain
  pub output : IsNewChain passing.output.now passage.downward.chain
  pub recorded_input : Records passing.recording port Input passage.upward.recorder
  pub recorded_output : Records passing.recording port Output passage.downward.recorder
