-- The items of a list, as a list of values.
use Rattle.std.proofs.Common.{◌≡◌, ◌<◌, ◌≤◌, List, [], ◌∷◌, ◌++◌, length, map, Bool, true, false, ◌&&◌, ◌||◌, IsTrue, Option, None, option_map, Result, Ok, Err, refl, ap, arith}
use Rattle.std.specs.List.{list_all, list_any}
use Rattle.serde_json.specs.View.{view, items_view}
use Rattle.serde_json.specs.declared.value.Value.{Value}
use Rattle.plan_model.specs.declared.node.Node.{Node}
use Rattle.job_json.specs.declared.job_fault.JobFault.{JobFault}
use Rattle.job_json.specs.Members.{items_list, one_of, two_of}

pub items_list_of_view : (vs : List Value) → items_list (items_view vs) ≡ map view vs
items_list_of_view [] = refl
items_list_of_view (v ∷ vs) = ap (λ ds. view v ∷ ds) (items_list_of_view vs)

pub one_of_none : (vs : List Value) → length vs < 1 → one_of (map view vs) ≡ None
one_of_none [] h = refl
one_of_none (v ∷ vs) h = absurd (omega arith)

pub one_of_long : (vs : List Value) → 2 ≤ length vs → one_of (map view vs) ≡ None
one_of_long [] h = refl
one_of_long (v ∷ []) h = absurd (omega arith)
one_of_long (v ∷ w ∷ vs) h = refl

pub two_of_short : (vs : List Value) → length vs < 2 → two_of (map view vs) ≡ None
two_of_short [] h = refl
two_of_short (v ∷ []) h = refl
two_of_short (v ∷ w ∷ vs) h = absurd (omega arith)

pub two_of_long : (vs : List Value) → 3 ≤ length vs → two_of (map view vs) ≡ None
two_of_long [] h = refl
two_of_long (v ∷ []) h = refl
two_of_long (v ∷ w ∷ []) h = absurd (omega arith)
two_of_long (v ∷ w ∷ x ∷ vs) h = refl

-- whether an item passes, seen as a value
pub list_any-map : {X Y : Type 0} (p : Y → Bool) (f : X → Y) (xs : List X) → list_any p (map f xs) ≡ list_any (λ x. p (f x)) xs
list_any-map p f [] = refl
list_any-map p f (x ∷ xs) = ap (λ (rest : Bool). p (f x) || rest) (list_any-map p f xs)

-- what was read before, and then what is read
abbrev pub with_front : {B : Type 0} → List B → Option (List B) → Option (List B)
with_front front read = option_map (λ ys. front ++ ys) read

-- the nodes that were read before, and then those that are read
abbrev pub nodes_then : List Node → Result (List Node) JobFault → Result (List Node) JobFault
nodes_then front (Ok nodes) = Ok (front ++ nodes)
nodes_then front (Err e) = Err e

-- all of these pass, and so does one more
pub list_all_more : {B : Type 0} (p : B → Bool) (ys : List B) (y : B) → IsTrue (list_all p ys) → IsTrue (p y) → IsTrue (list_all p (ys ++ y ∷ []))
list_all_more p [] y all one = rw one refl
list_all_more p (x ∷ ys) y all one = let parts = both (p x) (list_all p ys) all in rw parts.0 (list_all_more p ys y parts.1 one)
  where
    both : (a b : Bool) → (a && b) ≡ true → (a ≡ true) × (b ≡ true)
    both true b e = (refl, e)
    both false b e = absurd (cc e)
