use Rattle.std.proofs.Common.{◌≡◌, ℕ, nat_eq, subst}
use Rattle.std.specs.Prelude.{count_by, IfOk}
use Rattle.reader_index.specs.Tasks.{Tasks, is_between}
use Rattle.reader_index.proofs.reader_index.ReaderIndex.readers_of.Goals as goal

pub returns : goal.returns
returns c =
    subst (λ (tasks : Tasks). IfOk c.readers_of.result (λ readers. (n : ℕ) → count_by (nat_eq n) readers.items ≡ count_by (is_between n c.args.task) tasks.reads))
    c.self.view_is c.readers_of.ensures
