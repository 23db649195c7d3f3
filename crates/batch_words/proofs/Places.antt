-- The faults of the items come in the order of their places.
use Rattle.std.proofs.Common.{◌≡◌, ℕ, ◌+◌, ◌<◌, ◌≤◌, ◌==◌, ◌&&◌, Bool, true, false, not, nat_eq, codes, drop, List, [], ◌∷◌, ◌++◌, Option, None, Some, nat_lt, if◌then◌else◌, refl, ap, ◌∙◌, arith}
use Rattle.std.specs.Option.{option_or, is_none}
use Rattle.std.specs.List.{starts_with, list_any}
use Rattle.std.specs.Str.{bytes_eq}
use Rattle.std.proofs.lemmas.Bool.Decides.{nat_tests}
use Rattle.batch_words.specs.Words.{Item, FaultAt, option_name, lone_item, items_from, is_option, is_plain, fault_if, number_faults, faults_of, faults_after, is_before, earlier_of, first_fault, workers_number, generator_number}
use Rattle.batch_words.specs.Words.Item.{Workers, Unknown, Plain}
use Rattle.batch_words.specs.declared.word_kind.WordKind.{WordKind}
use Rattle.batch_words.specs.declared.word_kind.WordKind.TheVariants.{UnknownWord, MissingNumber, BadNumber, Repeated}

-- the first fault of items that stand after these: that of the first item at fault
abbrev pub first_fault_after : Bool → List Item → List Item → Option FaultAt
first_fault_after takes_number earlier [] = None
first_fault_after takes_number earlier (item ∷ items) =
    option_or (first_fault (faults_of takes_number earlier item)) (first_fault_after takes_number (earlier ++ item ∷ []) items)

-- a place from the one place on, below the other
pub record IsBetween (low next at : ℕ) : Type 0 where
  pub from : low ≤ at
  pub below : at < next

abbrev pub ItemBetween : ℕ → ℕ → Item → Type 0
ItemBetween low next (Workers at None) = IsBetween low next at
ItemBetween low next (Workers at (Some number)) = IsBetween low next at × IsBetween low next number.0
ItemBetween low next (Unknown at) = IsBetween low next at
ItemBetween low next (Plain at text) = IsBetween low next at

-- each item stands before the next one
abbrev pub InOrder : ℕ → List Item → Type 0
InOrder low [] = Unit {0}
InOrder low (item ∷ items) = (next : ℕ) × ItemBetween low next item × (low ≤ next) × InOrder next items

here : (at : ℕ) → IsBetween at (at + 1) at
here at = record { from = omega arith; below = omega arith }

choice : (P : Item → Type 0) (test : Bool) (a b : Item) → P a → P b → P (if test then a else b)
choice P true a b first second = first
choice P false a b first second = second

lone_item-between : (at : ℕ) (word : List ℕ) → ItemBetween at (at + 1) (lone_item at word)
lone_item-between at word =
    let P : Item → Type 0 = ItemBetween at (at + 1) in
    let plain : Item = if starts_with nat_eq word (codes "--") then Unknown at else Plain at word in
    let other : Item = if starts_with nat_eq word (codes "--workers=") then Workers at (Some (at, drop 10 word)) else plain in
    choice P (bytes_eq word option_name) (Workers at None) other (here at)
    (choice P (starts_with nat_eq word (codes "--workers=")) (Workers at (Some (at, drop 10 word))) plain (here at, here at)
    (choice P (starts_with nat_eq word (codes "--")) (Unknown at) (Plain at word) (here at) (here at)))

choice_list : (low : ℕ) (test : Bool) (a b : List Item) → InOrder low a → InOrder low b → InOrder low (if test then a else b)
choice_list low true a b first second = first
choice_list low false a b first second = second

pub items_from-InOrder : (at : ℕ) (words : List (List ℕ)) → InOrder at (items_from at words)
items_from-InOrder at [] = tt
items_from-InOrder at (word ∷ []) = (at + 1, lone_item-between at word, omega arith, tt)
items_from-InOrder at (word ∷ next ∷ words) =
    choice_list at (bytes_eq word option_name) (Workers at (Some (at + 1, next)) ∷ items_from (at + 2) words) (lone_item at word ∷ items_from (at + 1) (next ∷ words))
    (at + 2, (record { from = omega arith; below = omega arith }, record { from = omega arith; below = omega arith }), omega arith, items_from-InOrder (at + 2) words)
    (at + 1, lone_item-between at word, omega arith, items_from-InOrder (at + 1) (next ∷ words))

abbrev FaultsBetween : ℕ → ℕ → List FaultAt → Type 0
FaultsBetween low next [] = Unit {0}
FaultsBetween low next (fault ∷ faults) = IsBetween low next fault.0 × FaultsBetween low next faults

abbrev FaultsFrom : ℕ → List FaultAt → Type 0
FaultsFrom low [] = Unit {0}
FaultsFrom low (fault ∷ faults) = (low ≤ fault.0) × FaultsFrom low faults

fault_if-between : (low next : ℕ) (test : Bool) (at : ℕ) (kind : WordKind) → IsBetween low next at → FaultsBetween low next (fault_if test at kind)
fault_if-between low next true at kind between = (between, tt)
fault_if-between low next false at kind between = tt

append-between : (low next : ℕ) (a b : List FaultAt) → FaultsBetween low next a → FaultsBetween low next b → FaultsBetween low next (a ++ b)
append-between low next [] b first second = second
append-between low next (fault ∷ a) b first second = (first.0, append-between low next a b first.1 second)

choice_faults : (low next : ℕ) (test : Bool) (a b : List FaultAt) → FaultsBetween low next a → FaultsBetween low next b → FaultsBetween low next (if test then a else b)
choice_faults low next true a b first second = first
choice_faults low next false a b first second = second

faults_of-between : (low next : ℕ) (takes_number : Bool) (earlier : List Item) (item : Item) → ItemBetween low next item → FaultsBetween low next (faults_of takes_number earlier item)
faults_of-between low next takes_number earlier (Workers at None) between =
    append-between low next ((at, MissingNumber) ∷ []) (fault_if (list_any is_option earlier) at Repeated) (between, tt)
    (fault_if-between low next (list_any is_option earlier) at Repeated between)
faults_of-between low next takes_number earlier (Workers at (Some number)) between =
    append-between low next (number_faults at (Some number)) (fault_if (list_any is_option earlier) at Repeated)
    (fault_if-between low next (is_none (workers_number number.1)) number.0 BadNumber between.1)
    (fault_if-between low next (list_any is_option earlier) at Repeated between.0)
faults_of-between low next takes_number earlier (Unknown at) between = (between, tt)
faults_of-between low next takes_number earlier (Plain at text) between =
    choice_faults low next (takes_number && not (list_any is_plain earlier)) (fault_if (is_none (generator_number text)) at BadNumber) ((at, UnknownWord) ∷ [])
    (fault_if-between low next (is_none (generator_number text)) at BadNumber between) (between, tt)

append-from : (low next : ℕ) (a b : List FaultAt) → FaultsBetween low next a → low ≤ next → FaultsFrom next b → FaultsFrom low (a ++ b)
append-from low next [] [] first le second = tt
append-from low next [] (fault ∷ b) first le second = (omega arith, append-from low next [] b first le second.1)
append-from low next (fault ∷ a) b first le second = (first.0.from, append-from low next a b first.1 le second)

faults_after-from : (low : ℕ) (takes_number : Bool) (earlier items : List Item) → InOrder low items → FaultsFrom low (faults_after takes_number earlier items)
faults_after-from low takes_number earlier [] order = tt
faults_after-from low takes_number earlier (item ∷ items) order =
    append-from low order.0 (faults_of takes_number earlier item) (faults_after takes_number (earlier ++ item ∷ []) items)
    (faults_of-between low order.0 takes_number earlier item order.1) order.2
    (faults_after-from order.0 takes_number (earlier ++ item ∷ []) items order.3)

-- what is first of faults from a place on is from there on
FirstFrom : ℕ → Option FaultAt → Type 0
FirstFrom low None = Unit {0}
FirstFrom low (Some fault) = low ≤ fault.0

choice_from : (low : ℕ) (test : Bool) (a b : FaultAt) → low ≤ a.0 → low ≤ b.0 → low ≤ (if test then a else b).0
choice_from low true a b first second = first
choice_from low false a b first second = second

earlier_of-from : (low : ℕ) (fault : FaultAt) (rest : Option FaultAt) → low ≤ fault.0 → FirstFrom low rest → FirstFrom low (earlier_of fault rest)
unfolding FirstFrom
earlier_of-from low fault None first second = first
earlier_of-from low fault (Some other) first second = choice_from low (is_before other fault) other fault second first

first_fault-from : (low : ℕ) (faults : List FaultAt) → FaultsFrom low faults → FirstFrom low (first_fault faults)
unfolding FirstFrom
first_fault-from low [] all = tt
first_fault-from low (fault ∷ faults) all = earlier_of-from low fault (first_fault faults) all.0 (first_fault-from low faults all.1)

is_before-false : (a b : FaultAt) → b.0 < a.0 → is_before a b ≡ false
is_before-false a b below =
    let lower : nat_lt a.0 b.0 ≡ false = grind (arith, nat_tests) in
    let same : (a.0 == b.0) ≡ false = grind (arith, nat_tests) in
    rw (lower, same) refl

earlier_of-lower : (low next : ℕ) (fault : FaultAt) (rest : Option FaultAt) → IsBetween low next fault.0 → FirstFrom next rest → earlier_of fault rest ≡ Some fault
unfolding FirstFrom
earlier_of-lower low next fault None between from = refl
earlier_of-lower low next fault (Some other) between from = rw (is_before-false other fault (omega arith)) refl

earlier_of-or : (low next : ℕ) (fault : FaultAt) (first rest : Option FaultAt) → IsBetween low next fault.0 → FirstFrom next rest →
    earlier_of fault (option_or first rest) ≡ option_or (earlier_of fault first) rest
earlier_of-or low next fault None rest between from = earlier_of-lower low next fault rest between from
earlier_of-or low next fault (Some other) rest between from = refl

first_fault-append : (low next : ℕ) (a b : List FaultAt) → FaultsBetween low next a → FaultsFrom next b →
    first_fault (a ++ b) ≡ option_or (first_fault a) (first_fault b)
first_fault-append low next [] b first second = refl
first_fault-append low next (fault ∷ a) b first second =
    ap (earlier_of fault) (first_fault-append low next a b first.1 second)
    ∙ earlier_of-or low next fault (first_fault a) (first_fault b) first.0 (first_fault-from next b second)

-- the first of all faults is that of the first item at fault
pub first_fault-faults_after : (low : ℕ) (takes_number : Bool) (earlier items : List Item) → InOrder low items →
    first_fault (faults_after takes_number earlier items) ≡ first_fault_after takes_number earlier items
first_fault-faults_after low takes_number earlier [] order = refl
first_fault-faults_after low takes_number earlier (item ∷ items) order =
    first_fault-append low order.0 (faults_of takes_number earlier item) (faults_after takes_number (earlier ++ item ∷ []) items)
    (faults_of-between low order.0 takes_number earlier item order.1)
    (faults_after-from order.0 takes_number (earlier ++ item ∷ []) items order.3)
    ∙ ap (option_or (first_fault (faults_of takes_number earlier item)))
    (first_fault-faults_after order.0 takes_number (earlier ++ item ∷ []) items order.3)
