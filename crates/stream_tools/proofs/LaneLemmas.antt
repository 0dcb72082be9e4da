-- What follows from what is said of an answer that is none of an error.
use Rattle.std.proofs.Common.{Result, Ok, Err, IfOk}

pub ok_then : {X E : Type 0} (r : Result X E) {P Q : X → Type 0} → IfOk r P → ((x : X) → P x → Q x) → IfOk r Q
ok_then (Ok x) holds follows = follows x holds
ok_then (Err e) holds follows = tt
