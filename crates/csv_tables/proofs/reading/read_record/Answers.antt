use Rattle.std.proofs.Common.{Bor, List, ℕ, Some}
use Rattle.csv.specs.Records.{fields_of}
use Rattle.csv_tables.proofs.Records.{taken, only_stops}
use Rattle.csv_tables.proofs.reading.read_record.Goals as goal

pub returns-in-Ok : goal.returns-in-Ok
returns-in-Ok c = λ text records had.
    taken (λ (s : Bor (List ℕ)). Some s.now) c.args.reader.now c.read_byte_record.new.self c.in-Ok.found text records (fields_of c.read_byte_record.new.row) had
    (c.in-Ok.ensures.reads had.plain had.ready) (c.in-Ok.ensures.ready had.plain) c.in-Ok.ensures.flexible

pub no_memory-requires : goal.no_memory-requires
no_memory-requires c =
    let had = c.requires.1.1 in
    only_stops (λ (s : Bor (List ℕ)). Some s.now) c.args.reader.now c.read_byte_record.new.self _ had.flexible (c.in-Err.ensures.why had.ready)
