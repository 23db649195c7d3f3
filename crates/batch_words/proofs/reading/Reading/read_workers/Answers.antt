use Rattle.std.proofs.Common.{rules, ◌≡◌, false, Some, Ok, Err}
use Rattle.batch_words.specs.Words.{Item}
use Rattle.batch_words.specs.Words.Item.{Workers}
use Rattle.batch_words.proofs.Steps.{after_item}
use Rattle.batch_words.proofs.Agreement.{step_read}
use Rattle.batch_words.proofs.reading.Reading.read_workers.Goals as goal

pub returns-then-at-number_at : goal.returns-then-at-number_at
returns-then-at-number_at c =
    let item : Item = Workers c.args.at (Some (c.args.number_at, c.args.text.now)) in
    let step : after_item false c.args.self.now item ≡ Err c.fault.result = search rules in
    λ takes_number. step_read takes_number c.args.self.now c.args.self.now item (Err c.fault.result) step

pub returns-then-is_none : goal.returns-then-is_none
returns-then-is_none c =
    let item : Item = Workers c.args.at (Some (c.args.number_at, c.args.text.now)) in
    let step : after_item false c.args.self.now item ≡ Err c.fault-then-is_none.result = search rules in
    λ takes_number. step_read takes_number c.args.self.now c.args.self.now item (Err c.fault-then-is_none.result) step

pub returns : goal.returns
returns c =
    let item : Item = Workers c.args.at (Some (c.args.number_at, c.args.text.now)) in
    let step : after_item false c.args.self.now item ≡ Ok (record c.args.self.now { workers = c.read_number-workers.result }) = search rules in
    λ takes_number. step_read takes_number c.args.self.now (record c.args.self.now { workers = c.read_number-workers.result }) item (Ok (tt {0})) step
