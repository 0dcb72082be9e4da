-- Whether what a server has is what its words ask for, and why it may have none.
use Rattle.std.specs.Prelude.{◌≡◌, ⊤, ℕ, List, Option, IsSome}
use Rattle.child_jobs.specs.Plans.{PlanText}
use Rattle.server_parts.specs.Services.{program_by}
use Rattle.server_parts.specs.declared.fault.ServerFault.{ServerFault}
use Rattle.server_parts.specs.declared.fault.ServerFault.TheVariants.{BadHosts, Device, OutOfMemory, ReadFault}
use Rattle.server_words.specs.Plans.{ServerPlan}

-- all connections have the program of the words, with all its arguments in their order, and the banner of `-B`
pub record IsAskedPlan (words : ServerPlan) (plan : PlanText) : Type 0 where
  pub program : plan.program ≡ program_by words.service
  pub banner : plan.banner ≡ words.banner

-- a host table can't be read, or a line of it is bad, only where `-N` names one
abbrev pub FailsNames : Option (List ℕ) → ServerFault → Type 0
FailsNames hosts OutOfMemory = ⊤
FailsNames hosts ReadFault = IsSome hosts
FailsNames hosts (BadHosts line) = IsSome hosts
FailsNames hosts fault = ⊥

-- a folder of rules can't be used, or there is no memory
abbrev pub FailsRules : ServerFault → Type 0
FailsRules Device = ⊤
FailsRules OutOfMemory = ⊤
FailsRules fault = ⊥
