use Rattle.std.proofs.Common.{◌≡◌, ◌+◌, ◌≤◌, length, take, drop, vec_len, vec_capacity}
use Rattle.std.specs.List.{sum_by}
use Rattle.reader_index.specs.Links.{IsIndex, tasks_in}
use Rattle.reader_index.specs.Tasks.{with_tasks}
use Rattle.reader_index.proofs.index.Index.add_all.Given as goal

abbrev pub invariant-loop-place : goal.invariant-loop-place
invariant-loop-place l =
    IsIndex (tasks_in l.self.links.reads.items l.self.done.items) l.self.links.earlier.items l.self.links.last.items l.self.ends.items l.self.counts.items l.self.open_tasks
    × (tasks_in l.self.links.reads.items l.self.done.items ≡ with_tasks (tasks_in l.initial.self.links.reads.items l.initial.self.done.items) (take l.place l.tasks))
    × (vec_len l.self.links.reads + sum_by length (drop l.place l.tasks) ≤ vec_capacity l.self.links.reads)
    × (vec_len l.self.links.earlier + sum_by length (drop l.place l.tasks) ≤ vec_capacity l.self.links.earlier)
    × (vec_len l.self.links.last + length (drop l.place l.tasks) ≤ vec_capacity l.self.links.last)
    × (vec_len l.self.ends + length (drop l.place l.tasks) ≤ vec_capacity l.self.ends)
    × (vec_len l.self.counts + length (drop l.place l.tasks) ≤ vec_capacity l.self.counts)
    × (vec_len l.self.done + length (drop l.place l.tasks) ≤ vec_capacity l.self.done)
