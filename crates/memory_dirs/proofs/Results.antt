-- Answers with one fact have another.
use Rattle.std.specs.Prelude.{Result, Ok, Err, IfOk}

pub if_ok_then : {T E : Type 0} (result : Result T E) (P Q : T → Type 0) → ((x : T) → P x → Q x) → IfOk result P → IfOk result Q
if_ok_then (Ok x) P Q to has = to x has
if_ok_then (Err e) P Q to has = has
