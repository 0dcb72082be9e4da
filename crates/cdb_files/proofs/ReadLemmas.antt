-- What reads in turn give.
use Rattle.std.proofs.Common.{◌≡◌, ℕ, ◌+◌, ◌≤◌, List, ◌++◌, length, take, drop, arith}
use Rattle.std.proofs.Math.Seq.{take-add, take-append-add}
use Rattle.std.proofs.lemmas.List.{take_at, take-append-le, length-take-le, drop-drop}
use borrow.Rule.Slice.PartMut.{put_mid, post_of}
use Rattle.dir_calls.specs.Files.{Gives}

-- the first n bytes of what a read that gave n bytes left in its buffer
take-given : (file old new : List ℕ) (position n : ℕ) → Gives file position n old new → take n new ≡ take n (drop position file)
take-given file old new position n given =
    rw given.filled (take_at (take n (drop position file)) (drop n old) n (length-take-le n (drop position file) given.inside))

-- a read into the rest of a buffer goes on with the bytes that the buffer holds
pub take-put_mid_given : (file xs old new : List ℕ) (position done n k : ℕ) → done ≤ length xs → length new ≡ length old → take done xs ≡ take done (drop position file) → Gives file (position + done) n old new → take (done + n) (put_mid done k xs new) ≡ take (done + n) (drop position file)
take-put_mid_given file xs old new position done n k within same_length held given =
    let front : length (take done xs) ≡ done = length-take-le done xs within in
    let room : n ≤ length new = omega (arith, given.room) in
    let left : take (length (take done xs) + n) (take done xs ++ (new ++ post_of done k xs)) ≡ take done xs ++ take n (new ++ post_of done k xs) = take-append-add (take done xs) (new ++ post_of done k xs) n in
    let first = rw front at left in
    let second = take-append-le n new (post_of done k xs) room in
    let third = take-given file old new (position + done) n given in
    let fourth = take-add done n (drop position file) in
    let fifth = drop-drop done position file in
    cc
