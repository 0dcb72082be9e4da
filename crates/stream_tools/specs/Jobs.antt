-- Which pipe ends a job has.
use Rattle.std.specs.Prelude.{Bool, is_some}
use Rattle.stream_tools.specs.declared.job.OsJob.{OsJob}

-- it has the ends of its program's pipes to give
abbrev pub has_ends : OsJob → Bool
has_ends job = is_some job.ends
