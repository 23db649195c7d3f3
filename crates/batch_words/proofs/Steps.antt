-- How one item is read.
use Rattle.std.specs.Prelude.{ℕ, ◌&&◌, ◌||◌, Bool, nat_lt, if◌then◌else◌, Option, Some, None, is_some, is_none, Result, Ok, Err}
use Rattle.batch_words.specs.Words.{Item, workers_number, generator_number}
use Rattle.batch_words.specs.Words.Item.{Workers, Unknown, Plain}
use Rattle.batch_words.specs.declared.reading.Reading.{Reading}
use Rattle.batch_words.specs.declared.word_error.WordError.{WordError}
use Rattle.batch_words.specs.declared.word_error.WordError.TheVariants.{Fault}
use Rattle.batch_words.specs.declared.word_kind.WordKind.TheVariants.{UnknownWord, MissingNumber, BadNumber, Repeated}

-- the reading with this number, or a bad number at this place
abbrev pub with_number : Option ℕ → ℕ → (ℕ → Reading) → Result Reading WordError
with_number None at reading = Err (Fault at BadNumber)
with_number (Some number) at reading = Ok (reading number)

-- what is read after this item, or its first fault
abbrev pub after_item : Bool → Reading → Item → Result Reading WordError
after_item takes_number reading (Workers at None) = Err (Fault at MissingNumber)
after_item takes_number reading (Workers at (Some number)) =
    if is_some reading.workers && (is_some (workers_number number.1) || nat_lt at number.0) then Err (Fault at Repeated)
    else with_number (workers_number number.1) number.0 (λ workers. record reading { workers = Some workers })
after_item takes_number reading (Unknown at) = Err (Fault at UnknownWord)
after_item takes_number reading (Plain at text) =
    if takes_number && is_none reading.number
    then with_number (generator_number text) at (λ number. record reading { number = Some number })
    else Err (Fault at UnknownWord)
