-- What the command alone decides, and the answers that are never given.
use Rattle.std.proofs.Common.{◌≡◌, ◌≢◌, ◌<◌, ℕ, Bool, true, false, List, [], ◌∷◌, length, map, get_or, Option, None, Some, Result, Err, String, string_bytes, codes, if◌then◌else◌, arith, refl, ap, IfErr, is_none, not, ◌&&◌, ◌++◌}
use Rattle.std.specs.Bool.{Decides}
use Rattle.std.specs.List.{list_any}
use Rattle.std.specs.Str.{bytes_eq}
use Rattle.std.proofs.lemmas.Slice.Eq.{bytes_eq-Decides}
use Rattle.batch_words.specs.Words.{Item, FaultAt, is_option, is_plain, fault_if, faults_of, faults_after, is_before, earlier_of, first_fault, unless_fault, generated, run_order, generate_order, meaning, workers_number, generator_number}
use Rattle.batch_words.specs.Words.Item.{Workers, Unknown, Plain}
use Rattle.batch_words.specs.declared.order.Order.{Order}
use Rattle.batch_words.specs.declared.word_error.WordError.{WordError}
use Rattle.batch_words.specs.declared.word_error.WordError.TheVariants.{Fault, NoMemory}
use Rattle.batch_words.specs.declared.word_kind.WordKind.TheVariants.{UnknownCommand, MissingNumber, BadNumber, OtherCall}

decides_false : {P : Type 0} (test : Bool) → Decides test P → ¬ P → test ≡ false
decides_false true decides not = absurd (not (decides.0 refl))
decides_false false decides not = refl

differs : (a b : List ℕ) → a ≢ b → bytes_eq a b ≡ false
differs a b not = decides_false (bytes_eq a b) (bytes_eq-Decides a b) not

pub meaning-unknown : {Z : Type 0} (words : List (String Z)) (word : String Z) (command : List ℕ) →
    0 < length words → word ≡ get_or words 0 word → command ≡ string_bytes word →
    command ≢ codes "run" → command ≢ codes "generate" → command ≢ codes "check" → command ≢ codes "plan" → command ≢ codes "reference" → command ≢ codes "events" →
    meaning (map string_bytes words) ≡ Err (Fault 0 UnknownCommand)
meaning-unknown [] word command inside is text run generate check plan reference events = absurd (omega arith)
meaning-unknown (first ∷ words) word command inside is text run generate check plan reference events =
    rw (
      ← ap string_bytes is,
      ← text,
      differs command (codes "run") run,
      differs command (codes "generate") generate,
      differs command (codes "check") check,
      differs command (codes "plan") plan,
      differs command (codes "reference") reference,
      differs command (codes "events") events,
    ) refl

unless_fault-memory : (first : Option FaultAt) (order : Result Order WordError) → order ≢ Err NoMemory → unless_fault first order ≢ Err NoMemory
unless_fault-memory None order not = not
unless_fault-memory (Some fault) order not = λ is. cc

generated-memory : (number : Option ℕ) (workers : ℕ) → generated number workers ≢ Err NoMemory
generated-memory None workers = λ is. cc
generated-memory (Some number) workers = λ is. cc

pub generate_order-memory : (items : List Item) → generate_order items ≢ Err NoMemory
generate_order-memory items = unless_fault-memory _ _ (generated-memory _ _)

-- no fault is that of another call's command
AreKnown : List FaultAt → Type 0
AreKnown [] = Unit {0}
AreKnown (fault ∷ faults) = (fault.1 ≢ OtherCall) × AreKnown faults

append_known : (a b : List FaultAt) → AreKnown a → AreKnown b → AreKnown (a ++ b)
unfolding AreKnown
append_known [] b first second = second
append_known (fault ∷ a) b first second = (first.0, append_known a b first.1 second)

choice_known : (test : Bool) (a b : List FaultAt) → AreKnown a → AreKnown b → AreKnown (if test then a else b)
choice_known true a b first second = first
choice_known false a b first second = second

faults_of_known : (takes_number : Bool) (earlier : List Item) (item : Item) → AreKnown (faults_of takes_number earlier item)
unfolding AreKnown
faults_of_known takes_number earlier (Workers at None) =
    append_known ((at, MissingNumber) ∷ []) _ ((λ is. cc), tt) (choice_known (list_any is_option earlier) _ [] ((λ is. cc), tt) tt)
faults_of_known takes_number earlier (Workers at (Some number)) =
    append_known (fault_if (is_none (workers_number number.1)) number.0 BadNumber) _
    (choice_known (is_none (workers_number number.1)) _ [] ((λ is. cc), tt) tt) (choice_known (list_any is_option earlier) _ [] ((λ is. cc), tt) tt)
faults_of_known takes_number earlier (Unknown at) = ((λ is. cc), tt)
faults_of_known takes_number earlier (Plain at text) =
    choice_known (takes_number && not (list_any is_plain earlier)) _ _ (choice_known (is_none (generator_number text)) _ [] ((λ is. cc), tt) tt) ((λ is. cc), tt)

faults_known : (takes_number : Bool) (earlier items : List Item) → AreKnown (faults_after takes_number earlier items)
unfolding AreKnown
faults_known takes_number earlier [] = tt
faults_known takes_number earlier (item ∷ items) =
    append_known (faults_of takes_number earlier item) _ (faults_of_known takes_number earlier item) (faults_known takes_number (earlier ++ item ∷ []) items)

IsKnown : Option FaultAt → Type 0
IsKnown None = Unit {0}
IsKnown (Some fault) = fault.1 ≢ OtherCall

earlier_known : (fault : FaultAt) (rest : Option FaultAt) → fault.1 ≢ OtherCall → IsKnown rest → IsKnown (earlier_of fault rest)
unfolding IsKnown
earlier_known fault None first second = first
earlier_known fault (Some other) first second = either (is_before other fault)
  where
    either : (test : Bool) → (if test then other else fault).1 ≢ OtherCall
    either true = second
    either false = first

first_known : (faults : List FaultAt) → AreKnown faults → IsKnown (first_fault faults)
unfolding AreKnown IsKnown
first_known [] known = tt
first_known (fault ∷ faults) known = earlier_known fault (first_fault faults) known.0 (first_known faults known.1)

abbrev NeverOtherCall : Result Order WordError → Type 0
NeverOtherCall result = IfErr result (λ fault. (at : ℕ) → fault ≢ Fault at OtherCall)

unless_fault-never : (first : Option FaultAt) (order : Result Order WordError) → IsKnown first → NeverOtherCall order → NeverOtherCall (unless_fault first order)
unfolding IsKnown
unless_fault-never None order known never = never
unless_fault-never (Some fault) order known never = λ at is. known cc

generated-never : (number : Option ℕ) (workers : ℕ) → NeverOtherCall (generated number workers)
generated-never None workers = λ at is. cc
generated-never (Some number) workers = tt

pub run_order-never : (items : List Item) → NeverOtherCall (run_order items)
run_order-never items = unless_fault-never _ _ (first_known _ (faults_known false [] items)) tt

pub generate_order-never : (items : List Item) → NeverOtherCall (generate_order items)
generate_order-never items = unless_fault-never _ _ (first_known _ (faults_known true [] items)) (generated-never _ _)
