-- How far bytes may be the beginning of a code.
use Rattle.std.specs.Prelude.{ℕ, ◌==◌, ◌||◌, Bool, true, false, List, [], ◌∷◌, if◌then◌else◌}
use Rattle.cdb_files.specs.declared.stage.Stage.{Stage}
use Rattle.cdb_files.specs.declared.stage.Stage.TheVariants.{Nothing, Verdict, Whole, Plus, Name, Value, NoCode}

-- the stage after one byte more
abbrev pub stage_after : Stage → ℕ → Stage
stage_after Nothing b = if b == 68 then Verdict else (if b == 43 then Plus else NoCode)
stage_after Verdict b = if b == 0 then Whole else NoCode
stage_after Whole b = if b == 43 then Plus else NoCode
stage_after Plus b = if b == 0 || b == 61 then NoCode else Name
stage_after Name b = if b == 0 then NoCode else (if b == 61 then Value else Name)
stage_after Value b = if b == 0 then Whole else Value
stage_after NoCode b = NoCode

-- after these bytes more
abbrev pub stage_from : Stage → List ℕ → Stage
stage_from stage [] = stage
stage_from stage (b ∷ bs) = stage_from (stage_after stage b) bs

-- a code may end after its verdict, or after a setting
abbrev pub may_end : Stage → Bool
may_end Nothing = true
may_end Verdict = false
may_end Whole = true
may_end Plus = false
may_end Name = false
may_end Value = false
may_end NoCode = false
