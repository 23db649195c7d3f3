-- An item that is read, or its first fault; and items that are read one after another.
use Rattle.std.proofs.Common.{◌≡◌, ◌⊎◌, inl, inr, ℕ, Bool, true, false, not, ◌&&◌, ◌||◌, List, [], ◌∷◌, ◌++◌, Option, Some, None, is_some, is_none, Result, Ok, Err, MatchResult, nat_lt, if◌then◌else◌, refl, sym, ap, subst, ◌∙◌, append_assoc, append-nil, arith}
use Rattle.std.specs.Option.{option_or}
use Rattle.std.specs.List.{list_any}
use Rattle.std.proofs.lemmas.List.Folds.{list_any-append}
use Rattle.batch_words.proofs.Places.{InOrder, first_fault_after, first_fault-faults_after}
use Rattle.batch_words.specs.Words.{Item, FaultAt, is_option, is_plain, workers_in, workers_of, generator_in, generator_of, workers_number, generator_number, fault_if, number_faults, faults_of, faults_after, earlier_of, first_fault}
use Rattle.batch_words.specs.Readings.{Holds, IsFirst, ReadsOn}
use Rattle.batch_words.specs.Words.Item.{Workers, Unknown, Plain}
use Rattle.batch_words.proofs.Steps.{after_item, with_number}
use Rattle.std.proofs.lemmas.Bool.Decides.{nat_tests}
use Rattle.batch_words.specs.declared.reading.Reading.{Reading}
use Rattle.batch_words.specs.declared.word_error.WordError.{WordError}
use Rattle.batch_words.specs.declared.word_error.WordError.TheVariants.{Fault}
use Rattle.batch_words.specs.declared.word_kind.WordKind.TheVariants.{UnknownWord, MissingNumber, BadNumber, Repeated}

option_or-assoc : (a b c : Option ℕ) → option_or (option_or a b) c ≡ option_or a (option_or b c)
option_or-assoc None b c = refl
option_or-assoc (Some x) b c = refl

pub workers_of-append : (xs ys : List Item) → workers_of (xs ++ ys) ≡ option_or (workers_of xs) (workers_of ys)
workers_of-append [] ys = refl
workers_of-append (x ∷ xs) ys = ap (option_or (workers_in x)) (workers_of-append xs ys) ∙ sym (option_or-assoc (workers_in x) (workers_of xs) (workers_of ys))

pub generator_of-append : (xs ys : List Item) → generator_of (xs ++ ys) ≡ option_or (generator_of xs) (generator_of ys)
generator_of-append [] ys = refl
generator_of-append (x ∷ xs) ys = ap (option_or (generator_in x)) (generator_of-append xs ys) ∙ sym (option_or-assoc (generator_in x) (generator_of xs) (generator_of ys))

or_none : (a : Option ℕ) → option_or a None ≡ a
or_none None = refl
or_none (Some x) = refl

or_false : (a : Bool) → (a || false) ≡ a
or_false true = refl
or_false false = refl

or_true : (a : Bool) → (a || true) ≡ true
or_true true = refl
or_true false = refl

Holds-option : (reading : Reading) (earlier : List Item) (at place n : ℕ) (text : List ℕ) → Holds reading earlier →
    reading.workers ≡ None → workers_number text ≡ Some n →
    Holds (record reading { workers = Some n }) (earlier ++ Workers at (Some (place, text)) ∷ [])
Holds-option reading earlier at place n text given none is = record {
  workers = rw (workers_of-append earlier (Workers at (Some (place, text)) ∷ []), ← given.workers, none, is) refl;
  number = rw (generator_of-append earlier (Workers at (Some (place, text)) ∷ []), or_none) given.number;
  options = rw (list_any-append is_option earlier (Workers at (Some (place, text)) ∷ []), or_true) refl;
  plains = rw (list_any-append is_plain earlier (Workers at (Some (place, text)) ∷ []), or_false) given.plains;
}

Holds-plain : (reading : Reading) (earlier : List Item) (at n : ℕ) (text : List ℕ) → Holds reading earlier →
    reading.number ≡ None → generator_number text ≡ Some n →
    Holds (record reading { number = Some n }) (earlier ++ Plain at text ∷ [])
Holds-plain reading earlier at n text given none is = record {
  workers = rw (workers_of-append earlier (Plain at text ∷ []), or_none) given.workers;
  number = rw (generator_of-append earlier (Plain at text ∷ []), ← given.number, none, is) refl;
  options = rw (list_any-append is_option earlier (Plain at text ∷ []), or_false) given.options;
  plains = rw (list_any-append is_plain earlier (Plain at text ∷ []), or_true) refl;
}

-- both find this fault
pub record Faulty (first : Option FaultAt) (after : Result Reading WordError) : Type 0 where
  pub fault : FaultAt
  pub first_is : first ≡ Some fault
  pub after_is : after ≡ Err (Fault fault.0 fault.1)

-- neither finds a fault, and the reading holds what the items give
pub record Clean (first : Option FaultAt) (after : Result Reading WordError) (items : List Item) : Type 0 where
  pub reading : Reading
  pub first_is : first ≡ None
  pub after_is : after ≡ Ok reading
  pub given : Holds reading items

abbrev pub Agrees : Option FaultAt → Result Reading WordError → List Item → Type 0
Agrees first after items = Faulty first after ⊎ Clean first after items

and_false : (a : Bool) → (a && false) ≡ false
and_false true = refl
and_false false = refl

-- of an option's two faults the one at the lower place is first, and at one place the number's
bad_or_repeated : (at place : ℕ) (lower : Bool) → nat_lt at place ≡ lower →
    first_fault ((place, BadNumber) ∷ (at, Repeated) ∷ []) ≡ Some (if lower then (at, Repeated) else (place, BadNumber))
bad_or_repeated at place lower is = rw (is, and_false, or_false) refl

missing_first : (at : ℕ) (again : Bool) → first_fault (number_faults at None ++ fault_if again at Repeated) ≡ Some (at, MissingNumber)
missing_first at false = refl
missing_first at true =
    let same : nat_lt at at ≡ false = grind (arith, nat_tests) in
    rw (same, and_false) refl

agrees-option : (reading : Reading) (earlier : List Item) (at : ℕ) (number : ℕ × List ℕ) → Holds reading earlier →
    (workers : Option ℕ) → reading.workers ≡ workers → (value : Option ℕ) → workers_number number.1 ≡ value →
    (lower : Bool) → nat_lt at number.0 ≡ lower →
    Agrees
    (first_fault (fault_if (is_none value) number.0 BadNumber ++ fault_if (is_some workers) at Repeated))
    (if is_some workers && (is_some value || lower) then Err (Fault at Repeated)
    else with_number value number.0 (λ workers. record reading { workers = Some workers }))
    (earlier ++ Workers at (Some number) ∷ [])
agrees-option reading earlier at number given None none None bad lower is =
    inl (record { fault = (number.0, BadNumber); first_is = refl; after_is = refl })
agrees-option reading earlier at number given None none (Some n) good lower is =
    inr (record {
      reading = record reading { workers = Some n };
      first_is = refl;
      after_is = refl;
      given = Holds-option reading earlier at number.0 n number.1 given none good;
    })
agrees-option reading earlier at number given (Some workers) again (Some n) good lower is =
    inl (record { fault = (at, Repeated); first_is = refl; after_is = refl })
agrees-option reading earlier at number given (Some workers) again None bad true is =
    inl (record { fault = (at, Repeated); first_is = bad_or_repeated at number.0 true is; after_is = refl })
agrees-option reading earlier at number given (Some workers) again None bad false is =
    inl (record { fault = (number.0, BadNumber); first_is = bad_or_repeated at number.0 false is; after_is = refl })

agrees-plain : (takes_number : Bool) (reading : Reading) (earlier : List Item) (at : ℕ) (text : List ℕ) → Holds reading earlier →
    (number : Option ℕ) → reading.number ≡ number → (value : Option ℕ) → generator_number text ≡ value →
    Agrees
    (first_fault (if takes_number && not (is_some number) then fault_if (is_none value) at BadNumber else (at, UnknownWord) ∷ []))
    (if takes_number && is_none number then with_number value at (λ number. record reading { number = Some number }) else Err (Fault at UnknownWord))
    (earlier ++ Plain at text ∷ [])
agrees-plain false reading earlier at text given number has value is =
    inl (record { fault = (at, UnknownWord); first_is = refl; after_is = refl })
agrees-plain true reading earlier at text given (Some number) has value is =
    inl (record { fault = (at, UnknownWord); first_is = refl; after_is = refl })
agrees-plain true reading earlier at text given None none None bad =
    inl (record { fault = (at, BadNumber); first_is = refl; after_is = refl })
agrees-plain true reading earlier at text given None none (Some n) good =
    inr (record {
      reading = record reading { number = Some n };
      first_is = refl;
      after_is = refl;
      given = Holds-plain reading earlier at n text given none good;
    })

agrees-item : (takes_number : Bool) (reading : Reading) (earlier : List Item) (item : Item) → Holds reading earlier →
    Agrees (first_fault (faults_of takes_number earlier item)) (after_item takes_number reading item) (earlier ++ item ∷ [])
agrees-item takes_number reading earlier (Workers at None) given =
    inl (record { fault = (at, MissingNumber); first_is = missing_first at (list_any is_option earlier); after_is = refl })
agrees-item takes_number reading earlier (Workers at (Some number)) given =
    rw (← given.options) (agrees-option reading earlier at number given reading.workers refl (workers_number number.1) refl (nat_lt at number.0) refl)
agrees-item takes_number reading earlier (Unknown at) given =
    inl (record { fault = (at, UnknownWord); first_is = refl; after_is = refl })
agrees-item takes_number reading earlier (Plain at text) given =
    rw (← given.plains) (agrees-plain takes_number reading earlier at text given reading.number refl (generator_number text) refl)

no_first : (faults : List FaultAt) → first_fault faults ≡ None → faults ≡ []
no_first [] none = refl
no_first (fault ∷ faults) none = absurd (some (first_fault faults) none)
  where
    some : (rest : Option FaultAt) → earlier_of fault rest ≡ None → ⊥
    some None is = cc
    some (Some other) is = cc

-- an item that is read, or its first fault
pub step_read : (takes_number : Bool) (old new : Reading) (item : Item) (result : Result (Unit {0}) WordError) →
    MatchResult result (λ _. after_item takes_number old item ≡ Ok new) (λ error. after_item takes_number old item ≡ Err error) →
    ReadsOn takes_number old new (item ∷ []) (λ _. []) result
step_read takes_number old new item result step earlier held = by (agrees-item takes_number old earlier item held) result step
  where
    by : Agrees (first_fault (faults_of takes_number earlier item)) (after_item takes_number old item) (earlier ++ item ∷ []) → (result : Result (Unit {0}) WordError) →
        MatchResult result (λ _. after_item takes_number old item ≡ Ok new) (λ error. after_item takes_number old item ≡ Err error) →
        MatchResult result
        (λ x. (read : List Item) × (item ∷ [] ≡ read ++ []) × (faults_after takes_number earlier read ≡ []) × Holds new (earlier ++ read))
        (λ error. IsFirst (faults_after takes_number earlier (item ∷ [])) error)
    by (inl bad) (Ok x) step = absurd cc
    by (inl bad) (Err error) step = (bad.fault, ap first_fault (append-nil (faults_of takes_number earlier item)) ∙ bad.first_is, cc)
    by (inr clean) (Ok x) step = (
      item ∷ [],
      refl,
      append-nil (faults_of takes_number earlier item) ∙ no_first (faults_of takes_number earlier item) clean.first_is,
      (let same : clean.reading ≡ new = cc (clean.after_is, step) in subst (λ (reading : Reading). Holds reading (earlier ++ item ∷ [])) same clean.given),
    )
    by (inr clean) (Err error) step = absurd cc

-- the first of these items is read
pub read_ok : (takes_number : Bool) (old new : Reading) (item : Item) (items rest earlier : List Item) →
    items ≡ item ∷ rest → ReadsOn takes_number old new (item ∷ []) (λ (_ : Unit {0}). []) (Ok tt) → Holds old earlier →
    (read : List Item) × (items ≡ read ++ rest) × (faults_after takes_number earlier read ≡ []) × Holds new (earlier ++ read)
read_ok takes_number old new item items rest earlier are reads held =
    let (read, is, none, holds) = reads earlier held in
    (read, are ∙ ap (λ (front : List Item). front ++ rest) (is ∙ append-nil read), none, holds)

-- the first of these items has a fault: it is their first one
pub read_err : (takes_number : Bool) (old new : Reading) (item : Item) (items rest earlier : List Item) (at : ℕ) (error : WordError) →
    items ≡ item ∷ rest → InOrder at items → ReadsOn takes_number old new (item ∷ []) (λ (_ : Unit {0}). []) (Err error) → Holds old earlier →
    IsFirst (faults_after takes_number earlier items) error
read_err takes_number old new item items rest earlier at error are order reads held =
    let (fault, first, is) = reads earlier held in
    let own : first_fault (faults_of takes_number earlier item) ≡ Some fault = ap first_fault (sym (append-nil (faults_of takes_number earlier item))) ∙ first in (
      fault,
      first_fault-faults_after at takes_number earlier items order ∙ ap (first_fault_after takes_number earlier) are
          ∙ ap (λ (f : Option FaultAt). option_or f (first_fault_after takes_number (earlier ++ item ∷ []) rest)) own,
      is,
    )

-- the faults of items, and of those behind them
pub faults_after-append : (takes_number : Bool) (earlier xs ys : List Item) →
    faults_after takes_number earlier (xs ++ ys) ≡ faults_after takes_number earlier xs ++ faults_after takes_number (earlier ++ xs) ys
faults_after-append takes_number earlier [] ys = ap (λ (before : List Item). faults_after takes_number before ys) (sym (append-nil earlier))
faults_after-append takes_number earlier (x ∷ xs) ys =
    ap (λ (faults : List FaultAt). faults_of takes_number earlier x ++ faults) (faults_after-append takes_number (earlier ++ x ∷ []) xs ys)
    ∙ sym (append_assoc (faults_of takes_number earlier x) (faults_after takes_number (earlier ++ x ∷ []) xs) (faults_after takes_number ((earlier ++ x ∷ []) ++ xs) ys))
    ∙ ap (λ (before : List Item). (faults_of takes_number earlier x ++ faults_after takes_number (earlier ++ x ∷ []) xs) ++ faults_after takes_number before ys) (append_assoc earlier (x ∷ []) xs)

pub Holds-empty : Holds (record { workers = None; number = None }) []
Holds-empty = record { workers = refl; number = refl; options = refl; plains = refl }

-- the items read so far, of which none has a fault
pub record HasRead (takes_number : Bool) (reading : Reading) (items left : List Item) : Type 0 where
  pub read : List Item
  pub are : items ≡ read ++ left
  pub none : faults_after takes_number [] read ≡ []
  pub holds : Holds reading read

pub read_more : (takes_number : Bool) (old new : Reading) (items left later : List Item) (had : HasRead takes_number old items left) →
    (more : List Item) × (left ≡ more ++ later) × (faults_after takes_number had.read more ≡ []) × Holds new (had.read ++ more) → HasRead takes_number new items later
read_more takes_number old new items left later had (more, are, none, holds) = record {
  read = had.read ++ more;
  are = had.are ∙ ap (λ (rest : List Item). had.read ++ rest) are ∙ sym (append_assoc had.read more later);
  none = faults_after-append takes_number [] had.read more ∙ rw (had.none, none) refl;
  holds = holds;
}

-- nothing is left
pub read_all : (takes_number : Bool) (reading : Reading) (items : List Item) → HasRead takes_number reading items [] → (faults_after takes_number [] items ≡ []) × Holds reading items
read_all takes_number reading items had =
    let whole : had.read ≡ items = sym (had.are ∙ append-nil had.read) in
    (sym (ap (faults_after takes_number []) whole) ∙ had.none, subst (Holds reading) whole had.holds)

-- the first fault of what is left is that of all items
pub fault_left : (takes_number : Bool) (reading : Reading) (items left : List Item) (error : WordError) (had : HasRead takes_number reading items left) →
    IsFirst (faults_after takes_number had.read left) error → IsFirst (faults_after takes_number [] items) error
fault_left takes_number reading items left error had (fault, first, is) = (
  fault,
  ap (λ (all : List Item). first_fault (faults_after takes_number [] all)) had.are
      ∙ ap first_fault (faults_after-append takes_number [] had.read left ∙ ap (λ (faults : List FaultAt). faults ++ faults_after takes_number had.read left) had.none) ∙ first,
  is,
)
