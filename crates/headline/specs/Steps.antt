-- What each event does to the world.
use Rattle.std.specs.Prelude.{◌≡◌, ◌≢◌, ◌⊎◌, ⊤, ℕ, max, true, is_some, List, [], ◌∷◌, ◌++◌, length, slice_get, Option, Some, None, option_map, Ok}
use Rattle.std.specs.FinMap.{get}
use Rattle.dir_calls.specs.NameTable.{CanBeLeft, Names}
use Rattle.dir_calls.specs.Directory.{Directory, FileState, number_of, scratch_of}
use Rattle.dir_calls.specs.Calls.{Call, makes, renews, appends, patches, syncs, renames, settles, after}
use Rattle.dir_calls.specs.Outcomes.{Passes, Fails}
use Rattle.dir_calls.specs.Images.{IsImage}
use Rattle.cdb_files.specs.Reading.{reading}
use Rattle.rule_lookup.specs.Pairs.{Rule}
use Rattle.rule_lines.specs.Texts.{AreOfText}
use Rattle.rule_lookup.specs.Decisions.{decision_from}
use Rattle.rule_lookup.specs.Peers.{Client}
use Rattle.dir_calls.specs.declared.phase.Phase.{Phase}
use Rattle.dir_calls.specs.declared.phase.Phase.TheVariants.{Fresh, Filling, Synced, Named, Done}
use Rattle.server_events.specs.declared.event.Event.{Event}
use Rattle.server_events.specs.ServerState.{Effect, opens, decides, comes_to, fails_at, ends_all, effect, Follows, Happens, peer_of}
use Rattle.headline.specs.Worlds.{IsOf, RulesName, UnderWay, World, kept_by, missing_in, standing}

-- a name for a scratch file, which is not the rules name; there is none without a rules name
abbrev pub IsScratchName : Option RulesName → List ℕ → Type 0
IsScratchName None tmp = ⊥
IsScratchName (Some r) tmp = tmp ≢ r.name

-- the call by which an installation begins: it makes the scratch file, perhaps after it has taken away what an earlier
-- installation left there, and has made all changes of names lasting
abbrev pub MakesScratch : List ℕ → Call → Type 0
MakesScratch tmp call = (call ≡ makes tmp) ⊎ (call ≡ renews tmp)

-- the one call on the way to a phase, of an installation under way if there has to be one; none without a rules name
abbrev pub IsCallTo : Phase → Option UnderWay → Option RulesName → Call → Type 0
IsCallTo Fresh under_way rules call = (tmp : List ℕ) × IsScratchName rules tmp × MakesScratch tmp call
IsCallTo Filling (Some u) (Some r) call = ((piece : List ℕ) × (call ≡ appends piece))
    ⊎ ((position : ℕ) × (bytes : List ℕ) × (call ≡ patches position bytes))
IsCallTo Synced (Some u) (Some r) call = call ≡ syncs
IsCallTo Named (Some u) (Some r) call = call ≡ renames u.tmp r.name
IsCallTo Done (Some u) (Some r) call = call ≡ settles
IsCallTo phase under_way rules call = ⊥

-- the scratch file is compiled of the rules under way
abbrev pub IsWhole : Directory → UnderWay → Type 0
IsWhole d u = (file : FileState) × (scratch_of d ≡ Some file) × IsOf u.rules file.bytes

-- What a step does. To `Fresh` it begins an installation of the rules of an accepted text, which counts as accepted
-- from then on. To `Filling` it puts any bytes into the scratch file. To `Synced` it syncs the scratch file, if that is
-- whole. To `Named` it moves the file onto the rules name. To `Done` it makes that lasting and acknowledges the text.
abbrev pub Advances : Phase → World → World → Type 0
Advances Fresh w w' =
    (rules : List Rule) × (tmp : List ℕ) × (call : Call) × AreOfText rules × IsScratchName w.rules tmp × MakesScratch tmp call
    × (w' ≡ record w {
      directory = after call w.directory;
      server = w'.server;
      accepted = w.accepted ++ Some rules ∷ [];
      under_way = Some (record { rules = rules; number = length w.accepted; tmp = tmp });
    })
Advances Filling w w' =
    (call : Call) × IsCallTo Filling w.under_way w.rules call × (w' ≡ record w { directory = after call w.directory; server = w'.server })
Advances Synced w w' =
    (u : UnderWay) × (w.under_way ≡ Some u) × (is_some w.rules ≡ true) × IsWhole w.directory u
    × (w' ≡ record w { directory = after syncs w.directory; server = w'.server })
Advances Named w w' =
    (u : UnderWay) × (r : RulesName) × (w.under_way ≡ Some u) × (w.rules ≡ Some r)
    × (w' ≡ record w { directory = after (renames u.tmp r.name) w.directory; server = w'.server })
Advances Done w w' =
    (u : UnderWay) × (w.under_way ≡ Some u) × (is_some w.rules ≡ true)
    × (w' ≡ record w {
      directory = after settles w.directory;
      server = w'.server;
      acknowledged = max w.acknowledged u.number;
      under_way = None;
    })

-- a step that fails leaves of the directory what a failing device leaves of its call, and no installation under way
abbrev pub FailsTo : Phase → World → World → Type 0
FailsTo phase w w' =
    (call : Call) × IsCallTo phase w.under_way w.rules call × Fails call w.directory w'.directory
    × (w' ≡ record w { directory = w'.directory; server = w'.server; under_way = None })

-- a directory as it is now, or at a moment within the call of a phase that may come next
abbrev pub MayBeAt : World → Directory → Type 0
MayBeAt w state =
    (state ≡ w.directory)
    ⊎ ((phase : Phase) × (call : Call) × Follows w.server.phase phase × IsCallTo phase w.under_way w.rules call × Passes call w.directory state)

-- what a stop may leave: an image of the directory at such a moment
abbrev pub MayLeave : World → Directory → Type 0
MayLeave w image = (state : Directory) × MayBeAt w state × IsImage state image

-- what an effect does beside its effect on the state
abbrev pub MovesBy : Effect → World → World → Type 0
MovesBy (opens n there) w w' =
    (there ≡ is_some (standing w)) × (w' ≡ record w { server = w'.server; kept = w.kept ++ record { serial = n; bytes = standing w } ∷ [] })
MovesBy (decides n decision) w w' =
    (bytes : Option (List ℕ)) × (peer : Client) × (kept_by n w.kept ≡ Some bytes) × (peer_of n w.server.connections ≡ Some peer)
    × (decision_from (option_map reading bytes) (missing_in w) peer ≡ Ok decision) × (w' ≡ record w { server = w'.server })
MovesBy (comes_to phase) w w' = Advances phase w w'
MovesBy (fails_at phase) w w' = FailsTo phase w w'
MovesBy ends_all w w' =
    MayLeave w w'.directory × (w' ≡ record w { directory = w'.directory; server = w'.server; under_way = None; kept = [] })
MovesBy _ w w' = w' ≡ record w { server = w'.server }

-- what an event does beside what the table of events says of it
abbrev pub Moves : Event → World → World → Type 0
Moves event w w' = MovesBy (effect event) w w'

-- others leave a name alone: what stands under it stays there, a stop leaves under it only what one might have left
-- before, and each file that it may stand for stays as it is
pub record LeavesAlone (name : List ℕ) (d e : Directory) : Type 0 where
  pub now : number_of e name ≡ number_of d name
  pub left : (names : Names) → CanBeLeft e.names names → (was : Names) × CanBeLeft d.names was × (get names name ≡ get was name)
  pub files : (names : Names) (number : ℕ) → CanBeLeft d.names names → get names name ≡ Some number
      → (file : FileState) → slice_get d.files number ≡ Some file → slice_get e.files number ≡ Some file

-- the rules name, if there is one
abbrev pub LeavesRules : Option RulesName → Directory → Directory → Type 0
LeavesRules None d e = ⊤
LeavesRules (Some r) d e = LeavesAlone r.name d e

-- the scratch file of an installation under way, under its name
abbrev pub LeavesScratch : Option UnderWay → Directory → Directory → Type 0
LeavesScratch None d e = ⊤
LeavesScratch (Some u) d e = LeavesAlone u.tmp d e × (e.scratch ≡ d.scratch)

-- A step of others, which is no event: whatever they do to the directory, they leave the rules name alone, and the
-- scratch file of an installation under way.
pub record Outside (w w' : World) : Type 0 where
  pub rules_alone : LeavesRules w.rules w.directory w'.directory
  pub scratch_alone : LeavesScratch w.under_way w.directory w'.directory
  pub moves : w' ≡ record w { directory = w'.directory }

-- an event leads from one world to the next
pub record Step (w : World) (event : Event) (w' : World) : Type 0 where
  pub table : Happens w.server event w'.server
  pub moves : Moves event w w'

-- a list of events leads from one world to another, with steps of others anywhere between them
pub data Legal : World → List Event → World → Type 0 where
  none : {w : World} → Legal w [] w
  more : {u v w : World} {event : Event} {events : List Event} → Step u event v → Legal v events w → Legal u (event ∷ events) w
  beside : {u v w : World} {events : List Event} → Outside u v → Legal v events w → Legal u events w
