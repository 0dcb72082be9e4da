-- Whether what a server has is what its words ask for.
use Rattle.std.specs.Prelude.{◌≡◌, ℕ, List}
use Rattle.fault_hints.specs.declared.voice.Voice.{Voice}
use Rattle.server_log.specs.Logs.{level_of, limit_of, voice_of}
use Rattle.server_log.specs.declared.log.Log.{Log}
use Rattle.server_parts.specs.Asked.{IsAskedPlan}
use Rattle.server_parts.specs.Services.{AreNamesOf, IsSupplyIn}
use Rattle.server_words.specs.Plans.{ServerPlan}
use Rattle.server_words.specs.declared.server_options.ConnectionLimits.{ConnectionLimits}
use Rattle.tcp_streams.specs.Asked.{IsAskedPassing, acceptor_starter, accepts_at_once, accepts_from, passing_of}
use Rattle.tcp_streams.specs.declared.sockets.SocketAcceptor.{SocketAcceptor}
use Rattle.ucspi.specs.declared.serving.ServerParts.{ServerParts}

-- a server has the plan of each connection; the limits of `-c`, `-k` and `-m`; names by `-N`, `-l`, `-h`, `-H` and `-p`;
-- what a connection takes that is handed over or pumped, and how its bytes pass
pub record AreAsked (words : ServerPlan) (server : ServerParts) : Type 0 where
  pub planned : IsAskedPlan words server.plan
  pub limited : server.limits ≡ words.limits
  pub named : AreNamesOf words server.names
  pub supplied : IsSupplyIn words.mode server.supply
  pub passed : IsAskedPassing words server.passing

-- the log has the lines of `-v`, `-Q` or `-q`, in this voice, and tells the limit of `-c`
pub record IsAskedLog {W : Type 0} (words : ServerPlan) (speaker : Voice) (log : Log W) : Type 0 where
  pub level : level_of log ≡ words.level
  pub voice : voice_of log ≡ speaker
  pub limit : limit_of log ≡ words.limits.connections

-- connections come from a socket that listens at the address and the port of the words, what is written to them is sent
-- at once by `-D`, and their bytes pass as the words say
pub record AcceptsAsAsked {R T E : Type 0} (listens : T → List ℕ → ℕ → Type 0) (words : ServerPlan)
    (acceptor : SocketAcceptor R T E) : Type 0 where
  pub from : listens (accepts_from acceptor) words.service.address words.service.port
  pub at_once : accepts_at_once acceptor ≡ words.no_delay
  pub passes : IsAskedPassing words (passing_of (acceptor_starter acceptor))

-- as many connections are let in at once as `-c` says, and as many from one address as `-m` says
abbrev pub AreLimits : ConnectionLimits → (limit per_address : ℕ) → Type 0
AreLimits limits limit per_address = (limit ≡ limits.connections) × (per_address ≡ limits.per_address)
