use Rattle.std.proofs.Common.{length, ◌-◌, ◌≤◌, drop, map, string_bytes, List, ℕ}
use Rattle.batch_words.specs.Words.{items_from}
use Rattle.batch_words.proofs.Agreement.{HasRead}
use Rattle.batch_words.proofs.words.read_rest.Given as goal

abbrev pub invariant-loop-at : goal.invariant-loop-at
invariant-loop-at l =
    let texts : List (List ℕ) = map string_bytes l.words in
    (l.at ≤ length l.words)
    × HasRead l.takes_number l.reading (items_from 1 (drop 1 texts)) (items_from l.at (drop l.at texts))

abbrev pub decreases-loop-at : goal.decreases-loop-at
decreases-loop-at l = length l.words - l.at
