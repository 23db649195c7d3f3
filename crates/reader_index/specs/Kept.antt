-- What is kept of an index.
use Rattle.reader_index.specs.Links.{IsIndex, tasks_in}
use Rattle.reader_index.specs.Tasks.{Tasks}
use Rattle.reader_index.specs.declared.index.Index.{Index}

-- its tasks
abbrev pub tasks_of : Index → Tasks
tasks_of index = tasks_in index.links.reads.items index.done.items

-- its parts are those of its tasks
abbrev pub IsKept : Index → Type 0
IsKept index = IsIndex (tasks_of index) index.links.earlier.items index.links.last.items
    index.ends.items index.counts.items index.open_tasks
