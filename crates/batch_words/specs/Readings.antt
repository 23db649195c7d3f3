-- What a reading says of the items read so far.
use Rattle.std.specs.Prelude.{◌≡◌, Bool, List, [], ◌++◌, Some, is_some, Result, MatchResult}
use Rattle.std.specs.List.{list_any}
use Rattle.batch_words.specs.Words.{Item, FaultAt, is_option, is_plain, workers_of, generator_of, faults_after, first_fault}
use Rattle.batch_words.specs.declared.reading.Reading.{Reading}
use Rattle.batch_words.specs.declared.word_error.WordError.{WordError}
use Rattle.batch_words.specs.declared.word_error.WordError.TheVariants.{Fault}

-- the reading has the numbers of these items
pub record Holds (reading : Reading) (items : List Item) : Type 0 where
  pub workers : reading.workers ≡ workers_of items
  pub number : reading.number ≡ generator_of items
  pub options : is_some reading.workers ≡ list_any is_option items
  pub plains : is_some reading.number ≡ list_any is_plain items

-- this is the first of the faults
abbrev pub IsFirst : List FaultAt → WordError → Type 0
IsFirst faults error =
    (fault : FaultAt) × (first_fault faults ≡ Some fault) × (error ≡ Fault fault.0 fault.1)

-- behind the items of the old reading, these are read up to those left, or have this first fault
abbrev pub ReadsOn : {T : Type 0} → Bool → Reading → Reading → List Item → (T → List Item)
    → Result T WordError → Type 0
ReadsOn takes_number old new items left result =
    (earlier : List Item) → Holds old earlier → MatchResult result
    (λ x. (read : List Item) × (items ≡ read ++ left x)
    × (faults_after takes_number earlier read ≡ []) × Holds new (earlier ++ read))
    (λ error. IsFirst (faults_after takes_number earlier items) error)
