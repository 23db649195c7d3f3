use Rattle.std.proofs.Common.{◌≡◌, ◌+◌, ◌++◌, map, take, vec_len, vec_capacity}
use Rattle.reader_index.specs.Links.{AreLinked}
use Rattle.reader_index.specs.Tasks.{read_by}
use Rattle.reader_index.proofs.links.Links.add_task.Given as goal

abbrev pub invariant-loop-place : goal.invariant-loop-place
invariant-loop-place l =
    AreLinked (l.reader + 1) l.reader l.self.reads.items l.self.earlier.items l.self.last.items
    × (l.self.reads.items ≡ l.initial.self.reads.items ++ map (read_by l.reader) (take l.place l.producers))
    × (vec_len l.self.reads ≡ vec_len l.initial.self.reads + l.place) × (vec_capacity l.self.reads ≡ vec_capacity l.initial.self.reads)
    × (vec_len l.self.earlier ≡ vec_len l.initial.self.earlier + l.place) × (vec_capacity l.self.earlier ≡ vec_capacity l.initial.self.earlier)
    × (vec_len l.self.last ≡ vec_len l.initial.self.last) × (vec_capacity l.self.last ≡ vec_capacity l.initial.self.last)
