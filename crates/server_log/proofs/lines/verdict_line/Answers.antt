use Rattle.std.proofs.Common.{◌≡◌, ◌++◌, codes, List, ℕ, refl, append_assoc}
use Rattle.server_log.proofs.lines.verdict_line.Goals as goal

-- the fields of the two ends, in a row
in_a_row : (front host ip port host' ip' info port' : List ℕ)
    → front ++ (host ++ codes ":" ++ ip ++ codes ":" ++ port) ++ codes " " ++ (host' ++ codes ":" ++ ip' ++ codes ":" ++ info ++ codes ":" ++ port') ++ codes "\n"
    ≡ front ++ host ++ codes ":" ++ ip ++ codes ":" ++ port ++ codes " " ++ host' ++ codes ":" ++ ip' ++ codes ":" ++ info ++ codes ":" ++ port' ++ codes "\n"
in_a_row front host ip port host' ip' info port' = simp append_assoc

pub returns : goal.returns
returns c = rw (in_a_row, c.verdict_word.ensures, c.host.ensures, c.ip.ensures, c.from.ensures, c.port.ensures, c.host-2.ensures.value, c.ip-2.ensures, c.info.ensures.value, c.from-2.ensures, c.port-2.ensures) refl
