-- What the words of a command line mean: their first fault, or the order.
use Rattle.std.specs.Prelude.{ℕ, ◌+◌, ◌==◌, ◌&&◌, ◌||◌, Bool, true, false, not, nat_eq, nat_lt, nat_le, if◌then◌else◌, List, [], ◌∷◌, ◌++◌, length, drop, Option, Some, None, is_none, unwrap_or, Result, Ok, Err, codes}
use Rattle.std.specs.Option.{option_or}
use Rattle.std.specs.List.{starts_with, list_all, list_any}
use Rattle.std.specs.Char.{is_ascii_digit}
use Rattle.std.specs.Str.{bytes_eq}
use Rattle.std.specs.Str.Parse.{digits_value}
use Rattle.batch_words.specs.declared.order.Order.{Order}
use Rattle.batch_words.specs.declared.order.Order.TheVariants.{Run, Generate, Check, Plan, Reference, Events}
use Rattle.batch_words.specs.declared.reading.TheConstants.{WORKERS_LIMIT, GENERATOR_LIMIT}
use Rattle.batch_words.specs.declared.word_error.WordError.{WordError}
use Rattle.batch_words.specs.declared.word_error.WordError.TheVariants.{Fault}
use Rattle.batch_words.specs.declared.word_kind.WordKind.{WordKind}
use Rattle.batch_words.specs.declared.word_kind.WordKind.TheVariants.{NoCommand, UnknownCommand, UnknownWord, MissingNumber, BadNumber, Repeated, OtherCall}

-- whether this is 1 to 9 ASCII digits
abbrev pub is_numeral : List ℕ → Bool
is_numeral text = nat_le 1 (length text) && nat_le (length text) 9 && list_all is_ascii_digit text

-- the number that 1 to 9 ASCII digits write, if it is in this range
abbrev pub number_in : ℕ → ℕ → List ℕ → Option ℕ
number_in least greatest text =
    let number = digits_value 10 text in
    if is_numeral text && nat_le least number && nat_le number greatest then Some number else None

-- a number of workers, and a generator's number
abbrev pub workers_number : List ℕ → Option ℕ
workers_number = number_in 0 WORKERS_LIMIT

abbrev pub generator_number : List ℕ → Option ℕ
generator_number = number_in 1 GENERATOR_LIMIT

-- an option with the place and text of its number, another word that begins as an option, or a word
pub data Item : Type 0 where
  Workers : (at : ℕ) (number : Option (ℕ × List ℕ)) → Item
  Unknown : (at : ℕ) → Item
  Plain : (at : ℕ) (text : List ℕ) → Item

-- the option's name
abbrev pub option_name : List ℕ
option_name = codes "--workers"

-- a word that is an item by itself
abbrev pub lone_item : ℕ → List ℕ → Item
lone_item at word =
    if bytes_eq word option_name then Workers at None
    else (if starts_with nat_eq word (codes "--workers=") then Workers at (Some (at, drop 10 word))
    else (if starts_with nat_eq word (codes "--") then Unknown at else Plain at word))

-- the items of these words, of which the first has this place
abbrev pub items_from : ℕ → List (List ℕ) → List Item
items_from at [] = []
items_from at (word ∷ []) = lone_item at word ∷ []
items_from at (word ∷ next ∷ words) =
    if bytes_eq word option_name then Workers at (Some (at + 1, next)) ∷ items_from (at + 2) words
    else lone_item at word ∷ items_from (at + 1) (next ∷ words)

-- whether the item is the option
abbrev pub is_option : Item → Bool
is_option (Workers at number) = true
is_option (Unknown at) = false
is_option (Plain at text) = false

-- whether the item is a word that is no option
abbrev pub is_plain : Item → Bool
is_plain (Workers at number) = false
is_plain (Unknown at) = false
is_plain (Plain at text) = true

-- a place and what is wrong there
abbrev pub FaultAt : Type 0
FaultAt = ℕ × WordKind

-- this fault where the test passes
abbrev pub fault_if : Bool → ℕ → WordKind → List FaultAt
fault_if test at kind = if test then (at, kind) ∷ [] else []

-- the fault of an option's number
abbrev pub number_faults : ℕ → Option (ℕ × List ℕ) → List FaultAt
number_faults at None = (at, MissingNumber) ∷ []
number_faults at (Some number) = fault_if (is_none (workers_number number.1)) number.0 BadNumber

-- the faults of an item that stands after these, where one plain word may be a number or none may
abbrev pub faults_of : Bool → List Item → Item → List FaultAt
faults_of takes_number earlier (Workers at number) =
    number_faults at number ++ fault_if (list_any is_option earlier) at Repeated
faults_of takes_number earlier (Unknown at) = (at, UnknownWord) ∷ []
faults_of takes_number earlier (Plain at text) =
    if takes_number && not (list_any is_plain earlier)
    then fault_if (is_none (generator_number text)) at BadNumber
    else (at, UnknownWord) ∷ []

-- the faults of items that stand after these
abbrev pub faults_after : Bool → List Item → List Item → List FaultAt
faults_after takes_number earlier [] = []
faults_after takes_number earlier (item ∷ items) =
    faults_of takes_number earlier item ++ faults_after takes_number (earlier ++ item ∷ []) items

-- the order of kinds at one place
abbrev pub rank_of : WordKind → ℕ
rank_of NoCommand = 0
rank_of UnknownCommand = 1
rank_of UnknownWord = 2
rank_of MissingNumber = 3
rank_of BadNumber = 4
rank_of Repeated = 5
rank_of OtherCall = 6

-- whether the one fault comes before the other
abbrev pub is_before : FaultAt → FaultAt → Bool
is_before a b = nat_lt a.0 b.0 || (a.0 == b.0 && nat_lt (rank_of a.1) (rank_of b.1))

-- the one that comes first, if there is another
abbrev pub earlier_of : FaultAt → Option FaultAt → Option FaultAt
earlier_of a None = Some a
earlier_of a (Some b) = Some (if is_before b a then b else a)

-- the first of the faults
abbrev pub first_fault : List FaultAt → Option FaultAt
first_fault [] = None
first_fault (fault ∷ faults) = earlier_of fault (first_fault faults)

-- the number of workers that the items give
abbrev pub workers_in : Item → Option ℕ
workers_in (Workers at None) = None
workers_in (Workers at (Some number)) = workers_number number.1
workers_in (Unknown at) = None
workers_in (Plain at text) = None

-- the first number of workers that they give
abbrev pub workers_of : List Item → Option ℕ
workers_of [] = None
workers_of (item ∷ items) = option_or (workers_in item) (workers_of items)

-- the generator's number that the items give
abbrev pub generator_in : Item → Option ℕ
generator_in (Workers at number) = None
generator_in (Unknown at) = None
generator_in (Plain at text) = generator_number text

-- the first generator's number that they give
abbrev pub generator_of : List Item → Option ℕ
generator_of [] = None
generator_of (item ∷ items) = option_or (generator_in item) (generator_of items)

-- this order, unless there is a fault
abbrev pub unless_fault : Option FaultAt → Result Order WordError → Result Order WordError
unless_fault None order = order
unless_fault (Some fault) order = Err (Fault fault.0 fault.1)

-- the order of a generated job, if there is its number
abbrev pub generated : Option ℕ → ℕ → Result Order WordError
generated None workers = Err (Fault 0 MissingNumber)
generated (Some n) workers = Ok (Generate n workers)

-- the order of a run with these items
abbrev pub run_order : List Item → Result Order WordError
run_order items =
    unless_fault (first_fault (faults_after false [] items))
    (Ok (Run (unwrap_or (workers_of items) 0)))

-- a generator's number that is not there is found last
abbrev pub generate_order : List Item → Result Order WordError
generate_order items =
    unless_fault (first_fault (faults_after true [] items))
    (generated (generator_of items) (unwrap_or (workers_of items) 0))

-- the order of a command that takes no further word
abbrev pub alone : Order → List (List ℕ) → Result Order WordError
alone order [] = Ok order
alone order (word ∷ words) = Err (Fault 1 UnknownWord)

-- what the words of a command line ask for
abbrev pub meaning : List (List ℕ) → Result Order WordError
meaning [] = Err (Fault 0 NoCommand)
meaning (command ∷ words) =
    if bytes_eq command (codes "run") then run_order (items_from 1 words)
    else (if bytes_eq command (codes "generate") then generate_order (items_from 1 words)
    else (if bytes_eq command (codes "check") then alone Check words
    else (if bytes_eq command (codes "plan") then alone Plan words
    else (if bytes_eq command (codes "reference") then alone Reference words
    else (if bytes_eq command (codes "events") then alone Events words
    else Err (Fault 0 UnknownCommand))))))
