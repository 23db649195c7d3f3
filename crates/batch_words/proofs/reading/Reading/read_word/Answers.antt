use Rattle.std.proofs.Common.{rules, ◌≡◌, Ok, Err}
use Rattle.batch_words.specs.Words.{Item, lone_item}
use Rattle.batch_words.proofs.Steps.{after_item}
use Rattle.batch_words.proofs.Agreement.{step_read}
use Rattle.batch_words.proofs.reading.Reading.read_word.Goals as goal

pub returns-then-starts_with : goal.returns-then-starts_with
returns-then-starts_with c =
    let item : Item = lone_item c.args.at c.args.word.now in
    let step : after_item c.args.takes_number c.args.self.now item ≡ Err c.fault.result = search rules in
    step_read c.args.takes_number c.args.self.now c.args.self.now item (Err c.fault.result) step

pub returns-then-is_none : goal.returns-then-is_none
returns-then-is_none c =
    let item : Item = lone_item c.args.at c.args.word.now in
    let step : after_item c.args.takes_number c.args.self.now item ≡ Err c.fault-then-is_none.result = search rules in
    step_read c.args.takes_number c.args.self.now c.args.self.now item (Err c.fault-then-is_none.result) step

pub returns : goal.returns
returns c =
    let item : Item = lone_item c.args.at c.args.word.now in
    let step : after_item c.args.takes_number c.args.self.now item ≡ Ok (record c.args.self.now { number = c.read_number-number.result }) = search rules in
    step_read c.args.takes_number c.args.self.now (record c.args.self.now { number = c.read_number-number.result }) item (Ok (tt {0})) step
