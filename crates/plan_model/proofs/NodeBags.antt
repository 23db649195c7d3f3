-- In a plan without a fault the bag of each node is what its operator gives on the bags of its inputs.
use Rattle.std.proofs.Common.{◌≡◌, ℕ, zero, suc, ◌+◌, ◌<◌, ◌≤◌, Some, List, [], ◌∷◌, ◌++◌, length, map, get_or, slice_get, take, drop, All, refl, sym, subst, ◌∙◌, ap, arith, drop-cons, length-append}
use Rattle.std.proofs.Math.Seq.{get_or-append_seam}
use Rattle.std.proofs.lemmas.List.{length-map, map-append, take-append-drop, get_or_append_left, get_or_default}
use Rattle.std.proofs.lemmas.List.Elements.{All-map}
use Rattle.std.proofs.lemmas.Option.{slice_get_within, get_or_from_slice_get}
use Rattle.plan_model.specs.Checks.{takes, columns_fit, widths_agree, plan_faults}
use Rattle.plan_model.specs.Nodes.{HasItsWidth, IsGood, IsGoodNode, bag_widths, widths_into}
use Rattle.plan_model.specs.Plans.{Bag, bag_at, bag_of, bags_from, bags_of, empty_bag}
use Rattle.plan_model.specs.Widths.{width_of, widths_of, widths_from, input_widths}
use Rattle.plan_model.specs.declared.node.Node.{Node}
use Rattle.plan_model.proofs.GoodNodes.{good_at, earlier_at, long_before}
use Rattle.plan_model.proofs.NodeWidths.{node_of}
use Rattle.plan_model.proofs.RowWidths.{bag_wide, bag_width, width_at}

pub old_at : (bags : List Bag) (bag : Bag) (place : ℕ) → place < length bags → bag_at (bags ++ bag ∷ []) place ≡ bag_at bags place
old_at bags bag place lt = get_or_append_left bags (bag ∷ []) empty_bag place lt

pub new_at : (bags : List Bag) (bag : Bag) (place : ℕ) → place ≡ length bags → bag_at (bags ++ bag ∷ []) place ≡ bag
new_at bags bag place is = ap (bag_at (bags ++ bag ∷ [])) is ∙ get_or-append_seam bags bag [] empty_bag

pub widths_are : (bags : List Bag) (inputs : List ℕ) → bag_widths (map (bag_at bags) inputs) ≡ input_widths (bag_widths bags) inputs
widths_are bags [] = refl
widths_are bags (input ∷ inputs) = λ i. width_at bags input i ∷ widths_are bags inputs i

module _ (files : List ℕ → List (List ℕ)) where
  bags_from-append : (bags : List Bag) (before nodes : List Node) → bags_from files bags (before ++ nodes) ≡ bags_from files (bags_from files bags before) nodes
  bags_from-append bags [] nodes = refl
  bags_from-append bags (node ∷ before) nodes = bags_from-append (bags ++ bag_of files node.op (map (bag_at bags) node.inputs) ∷ []) before nodes

  -- the bags with that of the next node
  pub bags_of-more : (before : List Node) (node : Node) → bags_of files (before ++ node ∷ []) ≡ bags_of files before ++ bag_of files node.op (map (bag_at (bags_of files before)) node.inputs) ∷ []
  bags_of-more before node = bags_from-append [] before (node ∷ [])

  length-bags_from : (bags : List Bag) (nodes : List Node) → length (bags_from files bags nodes) ≡ length bags + length nodes
  length-bags_from bags [] = omega arith
  length-bags_from bags (node ∷ nodes) =
      let rest = length-bags_from (bags ++ bag_of files node.op (map (bag_at bags) node.inputs) ∷ []) nodes in
      let more = length-append bags (bag_of files node.op (map (bag_at bags) node.inputs) ∷ []) in
      omega (arith, rest, more)

  pub one_bag_each : (nodes : List Node) → length (bags_of files nodes) ≡ length nodes
  one_bag_each nodes = let long = length-bags_from [] nodes in omega (arith, long)

  -- bags that stand keep their places
  kept_at : (bags : List Bag) (nodes : List Node) (place : ℕ) → place < length bags → bag_at (bags_from files bags nodes) place ≡ bag_at bags place
  kept_at bags [] place lt = refl
  kept_at bags (node ∷ nodes) place lt =
      let bag = bag_of files node.op (map (bag_at bags) node.inputs) in
      kept_at (bags ++ bag ∷ []) nodes place (let long = length-append bags (bag ∷ []) in omega (arith, lt, long)) ∙ old_at bags bag place lt

  widths_from_bags : (bags : List Bag) (nodes : List Node) → bag_widths (bags_from files bags nodes) ≡ widths_from (bag_widths bags) nodes
  widths_from_bags bags [] = refl
  widths_from_bags bags (node ∷ nodes) =
      let bag = bag_of files node.op (map (bag_at bags) node.inputs) in
      widths_from_bags (bags ++ bag ∷ []) nodes
      ∙ ap (λ (widths : List ℕ). widths_from widths nodes)
      (map-append (λ (bag : Bag). bag.width) bags (bag ∷ [])
      ∙ ap (λ (width : ℕ). bag_widths bags ++ width ∷ []) (bag_width files node.op (map (bag_at bags) node.inputs) ∙ ap (width_of node.op) (widths_are bags node.inputs)))

  pub widths_of_bags : (nodes : List Node) → bag_widths (bags_of files nodes) ≡ widths_of nodes
  widths_of_bags nodes = widths_from_bags [] nodes

same_at : (bags others : List Bag) (inputs : List ℕ) → All (λ input. bag_at bags input ≡ bag_at others input) inputs → map (bag_at bags) inputs ≡ map (bag_at others) inputs
same_at bags others [] each = refl
same_at bags others (input ∷ inputs) each = λ i. each 0 input (omega arith) i ∷ same_at bags others inputs (λ k d lt. each (suc k) d (omega (arith, lt))) i

-- a bag that is not too wide, and whose rows have its width
abbrev IsNarrow : Bag → Type 0
IsNarrow bag = (bag.width ≤ 256) × HasItsWidth bag

module _ (files : List ℕ → List (List ℕ)) (nodes : List Node) (faultless : plan_faults nodes ≡ []) where
  abbrev all : List Bag
  all = bags_of files nodes

  module _ (place : ℕ) (node : Node) (at : slice_get nodes place ≡ Some node) where
    abbrev front : List Bag
    front = bags_of files (take place nodes)

    abbrev own : Bag
    own = bag_of files node.op (map (bag_at front) node.inputs)

    long_front : length front ≡ place
    long_front = one_bag_each files (take place nodes) ∙ long_before nodes place node at

    all_is : all ≡ bags_from files (front ++ own ∷ []) (drop (suc place) nodes)
    all_is =
        let cut : drop place nodes ≡ node ∷ drop (suc place) nodes =
        drop-cons nodes place node (slice_get_within nodes place node at)
        ∙ ap (λ (n : Node). n ∷ drop (suc place) nodes) (get_or_from_slice_get nodes place node node at) in
        ap (bags_of files) (sym (take-append-drop place nodes) ∙ ap (λ (rest : List Node). take place nodes ++ rest) cut)
        ∙ bags_from-append files [] (take place nodes) (node ∷ drop (suc place) nodes)

    front_at : (input : ℕ) → input < place → bag_at all input ≡ bag_at front input
    front_at input low =
        let one = length-append front (own ∷ []) in let same = long_front in
        ap (λ (bags : List Bag). bag_at bags input) all_is
        ∙ kept_at files (front ++ own ∷ []) (drop (suc place) nodes) input (omega (arith, low, one, same))
        ∙ old_at front own input (omega (arith, low, same))

    same_inputs : map (bag_at front) node.inputs ≡ map (bag_at all) node.inputs
    same_inputs = same_at front all node.inputs (λ k d low. sym (front_at _ (earlier_at nodes place node faultless at k d low)))

    pub bag_here : bag_at all place ≡ bag_of files node.op (map (bag_at all) node.inputs)
    bag_here =
        let one = length-append front (own ∷ []) in let same = long_front in
        ap (λ (bags : List Bag). bag_at bags place) all_is
        ∙ kept_at files (front ++ own ∷ []) (drop (suc place) nodes) place (omega (arith, one, same))
        ∙ new_at front own place (sym same)
        ∙ ap (bag_of files node.op) same_inputs

    widths_here : bag_widths (map (bag_at all) node.inputs) ≡ widths_into (take place nodes) node
    widths_here =
        ap bag_widths (sym same_inputs)
        ∙ widths_are front node.inputs
        ∙ ap (λ (widths : List ℕ). input_widths widths node.inputs) (widths_of_bags files (take place nodes))

    good_from : ((input : ℕ) → input < place → IsNarrow (bag_at all input)) → IsGood node.op (map (bag_at all) node.inputs)
    good_from each =
        let good = good_at nodes place node faultless at in
        let earlier = earlier_at nodes place node faultless at in
        record {
          number = ap (takes node.op) (length-map node.inputs (bag_at all)) ∙ good.number;
          columns = ap (columns_fit node.op) widths_here ∙ good.columns;
          agree = ap (widths_agree node.op) widths_here ∙ good.agree;
          narrow = All-map (λ width. width ≤ 256) (λ (bag : Bag). bag.width) (map (bag_at all) node.inputs)
              (All-map (λ bag. bag.width ≤ 256) (bag_at all) node.inputs (λ k d low. (each _ (earlier k d low)).0));
          wide = subst (λ (widths : List ℕ). width_of node.op widths ≤ 256) (sym widths_here) good.narrow;
          fit = All-map HasItsWidth (bag_at all) node.inputs (λ k d low. (each _ (earlier k d low)).1);
        }

    narrow_from : IsGood node.op (map (bag_at all) node.inputs) → IsNarrow (bag_at all place)
    narrow_from good = (
      subst (λ (width : ℕ). width ≤ 256) (sym (ap (λ (bag : Bag). bag.width) bag_here ∙ bag_width files node.op (map (bag_at all) node.inputs))) good.wide,
      subst HasItsWidth (sym bag_here) (bag_wide files node.op (map (bag_at all) node.inputs) good),
    )

  narrow_below : (k : ℕ) → k ≤ length nodes → (place : ℕ) → place < k → IsNarrow (bag_at all place)
  narrow_below zero le place low = absurd (omega (arith, low))
  narrow_below (suc k) le place low =
      let here = node_of nodes place (omega (arith, le, low)) in
      narrow_from place here.0 here.1 (good_from place here.0 here.1 (λ input before. narrow_below k (omega (arith, le)) input (omega (arith, low, before))))

  pub good_here : (place : ℕ) (node : Node) → slice_get nodes place ≡ Some node → IsGood node.op (map (bag_at all) node.inputs)
  good_here place node at =
      good_from place node at (λ input low. narrow_below place (let lt = slice_get_within nodes place node at in omega (arith, lt)) input low)

  pub all_wide : All HasItsWidth all
  all_wide k d lt =
      let within : k < length nodes = let one = one_bag_each files nodes in omega (arith, lt, one) in
      subst HasItsWidth (get_or_default all k empty_bag d lt) (narrow_below (length nodes) (omega arith) k within).1
