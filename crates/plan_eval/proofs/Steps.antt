-- One node more: its rows are the definition's, and so is the text so far.
use Rattle.std.proofs.Common.{◌≡◌, ℕ, zero, suc, ◌<◌, ◌≤◌, true, not, nat_lt, ◌⊎◌, inl, inr, List, [], ◌∷◌, ◌++◌, length, map, get_or, All, IsTrue, refl, sym, subst, ◌∙◌, ap, arith, length-append}
use Rattle.std.proofs.lemmas.Bool.Decides.{nat_tests}
use Rattle.std.proofs.lemmas.List.{length-map, map-append, append_assoc, append-nil}
use Rattle.std.proofs.lemmas.List.Elements.{All-append, All-map}
use Rattle.std.proofs.lemmas.List.Sorted.{All-permutation}
use Rattle.row_core.specs.Bags.{SameBag}
use Rattle.bag_laws.proofs.Laws.{permutation_of_same, same_on, same_refl, same_sym}
use Rattle.plan_model.specs.Checks.{takes, columns_fit, widths_agree, gives_rows, is_sink}
use Rattle.plan_model.specs.Plans.{Bag, bag_at, bag_of, bags_of, empty_bag, sink_section, sink_sections, committed_text}
use Rattle.plan_model.specs.Widths.{width_of, widths_of, input_widths}
use Rattle.plan_model.specs.declared.node.Node.{Node}
use Rattle.plan_model.specs.declared.op.Op.{Op}
use Rattle.plan_model.specs.declared.op.Op.TheVariants.{Source, Filter, Project, Explode, Union, Aggregate, Distinct, Join, Sink}
use Rattle.plan_model.proofs.Laws.{bag_wide, bag_width, bags_long, bags_next, gives_within, new_at, old_at, width_at, widths_are, widths_long, widths_next}
use Rattle.operator_laws.proofs.Laws.{bags_same, section_same}
use Rattle.plan_eval.specs.Evaluated.{Stays}
use Rattle.plan_model.specs.Nodes.{Alike, HasItsWidth, IsGood, IsGoodNode}

alike_itself : (bag : Bag) → Alike bag bag
alike_itself bag = record { width = refl; rows = same_refl bag.rows }

alike_on : (bag other more : Bag) → Alike bag other → Alike other more → Alike bag more
alike_on bag other more one two = record { width = one.width ∙ two.width; rows = same_on one.rows two.rows }

lt_true : (m n : ℕ) → m < n → nat_lt m n ≡ true
lt_true m n lt = grind (arith, nat_tests)

-- ---- the definitions, one node more at a time

sections-more : (nodes : List Node) (bags : List Bag) (node : Node) (bag : Bag) → length bags ≡ length nodes
    → sink_sections (nodes ++ node ∷ []) (bags ++ bag ∷ []) ≡ sink_sections nodes bags ++ sink_section node.op bag
sections-more [] [] node bag long = append-nil (sink_section node.op bag)
sections-more [] (other ∷ bags) node bag long = absurd (omega arith)
sections-more (first ∷ nodes) [] node bag long = absurd (omega arith)
sections-more (first ∷ nodes) (other ∷ bags) node bag long =
    ap (λ (rest : List ℕ). sink_section first.op other ++ rest) (sections-more nodes bags node bag (omega (arith, long)))
    ∙ sym (append_assoc (sink_section first.op other) (sink_sections nodes bags) (sink_section node.op bag))

section_of : (files : List ℕ → List (List ℕ)) (op : Op) (inputs : List Bag) → sink_section op (bag_of files op inputs) ≡ sink_section op (bag_at inputs 0)
section_of files (Source table columns) inputs = refl
section_of files (Filter test) inputs = refl
section_of files (Project exprs) inputs = refl
section_of files (Explode column separator) inputs = refl
section_of files Union inputs = refl
section_of files (Aggregate keys aggs) inputs = refl
section_of files Distinct inputs = refl
section_of files (Join kind keys) inputs = refl
section_of files (Sink name) inputs = refl

-- ---- lists that grow by one

gives-more : (before : List Node) (node : Node) (place : ℕ) → gives_rows (before ++ node ∷ []) place ≡ true
    → (gives_rows before place ≡ true) ⊎ ((place ≡ length before) × (not (is_sink node.op) ≡ true))
gives-more [] node zero gives = inr (refl, gives)
gives-more [] node (suc place) gives = cc
gives-more (first ∷ before) node zero gives = inl gives
gives-more (first ∷ before) node (suc place) gives = elim (gives-more before node place gives) [ inl old ↦ inl old | inr new ↦ inr (ap suc new.0, new.1) ]

one_narrow : (width : ℕ) → width ≤ 256 → All (λ w. w ≤ 256) (width ∷ [])
one_narrow width le zero d lt = le
one_narrow width le (suc k) d lt = omega (arith, lt)

narrow_at : (widths : List ℕ) → All (λ w. w ≤ 256) widths → (place : ℕ) → get_or widths place 0 ≤ 256
narrow_at [] narrow place = omega arith
narrow_at (width ∷ widths) narrow zero = narrow 0 width (omega arith)
narrow_at (width ∷ widths) narrow (suc place) = narrow_at widths (λ k d lt. narrow (suc k) d (omega (arith, lt))) place

pub along : (bags others : List Bag) (inputs : List ℕ) → All (λ input. Alike (bag_at bags input) (bag_at others input)) inputs
    → (place : ℕ) → Alike (bag_at (map (bag_at bags) inputs) place) (bag_at (map (bag_at others) inputs) place)
along bags others [] alike place = alike_itself empty_bag
along bags others (input ∷ inputs) alike zero = alike 0 input (omega arith)
along bags others (input ∷ inputs) alike (suc place) = along bags others inputs (λ k d lt. alike (suc k) d (omega (arith, lt))) place

-- rows of a bag's width, in whatever order
pub fits_too : (bag made : Bag) → made.width ≡ bag.width → SameBag made.rows bag.rows → HasItsWidth bag → HasItsWidth made
fits_too bag made width rows fit =
    subst (λ (width : ℕ). All (λ row. length row ≡ width) made.rows) (sym width)
    (All-permutation (λ row. length row ≡ bag.width) bag.rows made.rows (permutation_of_same bag.rows made.rows (same_sym rows)) fit)

-- ---- the nodes so far

-- the bags that are found for the nodes so far are the definition's, where a node behind them takes them
pub record IsEvaluated (files : List ℕ → List (List ℕ)) (last : List ℕ) (nodes : List Node) (found : List Bag) : Type 0 where
  pub widths : map (λ bag. bag.width) found ≡ widths_of nodes
  pub narrow : All (λ width. width ≤ 256) (widths_of nodes)
  pub alike : (place : ℕ) → gives_rows nodes place ≡ true → length nodes ≤ get_or last place 0 → Alike (bag_at found place) (bag_at (bags_of files nodes) place)
  pub fit : (place : ℕ) → gives_rows nodes place ≡ true → length nodes ≤ get_or last place 0 → HasItsWidth (bag_at found place)

pub long_found : (files : List ℕ → List (List ℕ)) (last : List ℕ) (before : List Node) (found : List Bag) → IsEvaluated files last before found → length found ≡ length before
long_found files last before found so_far =
    let one = length-map found (λ (bag : Bag). bag.width) in let all = widths_long before in
    let same : length (map (λ bag. bag.width) found) ≡ length (widths_of before) = ap (λ (widths : List ℕ). length widths) so_far.widths in
    omega (arith, one, all, same)

pub none_evaluated : (files : List ℕ → List (List ℕ)) (last : List ℕ) → IsEvaluated files last [] []
none_evaluated files last = record {
  widths = refl;
  narrow = λ k d lt. omega (arith, lt);
  alike = λ place gives taken. cc;
  fit = λ place gives taken. cc;
}

module _ (files : List ℕ → List (List ℕ)) (last : List ℕ) (before : List Node) (found : List Bag) (so_far : IsEvaluated files last before found) (node : Node) (sound : IsGoodNode before node)
    (taken : All (λ input. length before ≤ get_or last input 0) node.inputs) where
  abbrev defined : List Bag
  defined = bags_of files before

  abbrev given : List Bag
  given = map (bag_at found) node.inputs

  abbrev owed : List Bag
  owed = map (bag_at defined) node.inputs

  long_defined : length defined ≡ length before
  long_defined = let all = bags_long files before in omega (arith, all)

  each_gives : All (λ input. gives_rows before input ≡ true) node.inputs
  each_gives = sound.rows

  pub earlier : All (λ input. input < length found) node.inputs
  earlier k d lt =
      let within : get_or node.inputs k d < length before = gives_within before (get_or node.inputs k d) (each_gives k d lt) in
      let long = long_found files last before found so_far in omega (arith, within, long)

  given_widths : map (λ bag. bag.width) given ≡ input_widths (widths_of before) node.inputs
  given_widths = widths_are found node.inputs ∙ ap (λ (widths : List ℕ). input_widths widths node.inputs) so_far.widths

  pub good : IsGood node.op given
  good = record {
    number = ap (takes node.op) (length-map node.inputs (bag_at found)) ∙ sound.number;
    columns = ap (columns_fit node.op) given_widths ∙ sound.columns;
    agree = ap (widths_agree node.op) given_widths ∙ sound.agree;
    narrow = subst (λ (widths : List ℕ). All (λ width. width ≤ 256) widths) (sym given_widths)
        (All-map (λ width. width ≤ 256) (λ input. get_or (widths_of before) input 0) node.inputs (λ k d lt. narrow_at (widths_of before) so_far.narrow (get_or node.inputs k d)));
    wide = subst (λ (widths : List ℕ). width_of node.op widths ≤ 256) (sym given_widths) sound.narrow;
    fit = All-map HasItsWidth (bag_at found) node.inputs (λ k d lt. so_far.fit (get_or node.inputs k d) (each_gives k d lt) (taken k d lt));
  }

  inputs_alike : (place : ℕ) → Alike (bag_at given place) (bag_at owed place)
  inputs_alike = along found defined node.inputs (λ k d lt. so_far.alike (get_or node.inputs k d) (each_gives k d lt) (taken k d lt))

  -- the text with this node's section
  pub text_more : committed_text files (before ++ node ∷ []) ≡ committed_text files before ++ sink_section node.op (bag_at given 0)
  text_more =
      ap (sink_sections (before ++ node ∷ [])) (bags_next files before node)
      ∙ sections-more before defined node (bag_of files node.op owed) long_defined
      ∙ ap (λ (section : List ℕ). committed_text files before ++ section)
      (section_of files node.op owed ∙ section_same node.op (bag_at owed 0) (bag_at given 0) (same_sym (inputs_alike 0).rows))

  module _ (made : Bag) (width : made.width ≡ width_of node.op (map (λ bag. bag.width) given))
      (rows : IsTrue (not (is_sink node.op)) → SameBag made.rows (bag_of files node.op given).rows)
      (stays : List Bag) (kept : Stays (λ place. nat_lt (length before) (get_or last place 0) ≡ true) found stays) where
    long_stays : length stays ≡ length before
    long_stays = let one = length-map stays (λ (bag : Bag). bag.width) in let other = length-map found (λ (bag : Bag). bag.width) in
        let same : length (map (λ bag. bag.width) stays) ≡ length (map (λ bag. bag.width) found) = ap (λ (widths : List ℕ). length widths) kept.widths in
        let long = long_found files last before found so_far in omega (arith, one, other, same, long)

    made_width : made.width ≡ (bag_of files node.op given).width
    made_width = width ∙ sym (bag_width files node.op given)

    made_alike : not (is_sink node.op) ≡ true → Alike made (bag_of files node.op owed)
    made_alike gives = alike_on made (bag_of files node.op given) (bag_of files node.op owed)
        (record { width = made_width; rows = rows gives }) (bags_same files node.op given owed inputs_alike)

    made_fits : not (is_sink node.op) ≡ true → HasItsWidth made
    made_fits gives = fits_too (bag_of files node.op given) made made_width (rows gives) (bag_wide files node.op given good)

    more_widths : map (λ bag. bag.width) (stays ++ made ∷ []) ≡ widths_of (before ++ node ∷ [])
    more_widths =
        map-append (λ (bag : Bag). bag.width) stays (made ∷ [])
        ∙ (λ i. (kept.widths ∙ so_far.widths) i ++ (width ∙ ap (width_of node.op) given_widths) i ∷ [])
        ∙ sym (widths_next before node)

    more_narrow : All (λ width. width ≤ 256) (widths_of (before ++ node ∷ []))
    more_narrow =
        let last = width_of node.op (input_widths (widths_of before) node.inputs) in
        subst (λ (widths : List ℕ). All (λ width. width ≤ 256) widths) (sym (widths_next before node))
        (All-append (λ width. width ≤ 256) (widths_of before) (last ∷ []) so_far.narrow (one_narrow last sound.narrow))

    -- a node that is still to be taken keeps its bag
    old_stays : (place : ℕ) → place < length before → bag_at (stays ++ made ∷ []) place ≡ bag_at stays place
    old_stays place lt = old_at stays made place (let long = long_stays in omega (arith, lt, long))

    stays_alike : (place : ℕ) → length (before ++ node ∷ []) ≤ get_or last place 0 → Alike (bag_at stays place) (bag_at found place)
    stays_alike place later = record {
      width = width_at stays place ∙ ap (λ (widths : List ℕ). get_or widths place 0) kept.widths ∙ sym (width_at found place);
      rows = kept.rows place (lt_true (length before) (get_or last place 0) (let more = length-append before (node ∷ []) in omega (arith, later, more)));
    }

    before_too : (place : ℕ) → length (before ++ node ∷ []) ≤ get_or last place 0 → length before ≤ get_or last place 0
    before_too place later = let more = length-append before (node ∷ []) in omega (arith, later, more)

    more_alike : (place : ℕ) → gives_rows (before ++ node ∷ []) place ≡ true → length (before ++ node ∷ []) ≤ get_or last place 0
        → Alike (bag_at (stays ++ made ∷ []) place) (bag_at (defined ++ bag_of files node.op owed ∷ []) place)
    more_alike place gives later = elim (gives-more before node place gives) [
      | inl old ↦
          let lt : place < length before = gives_within before place old in
          let one = old_stays place lt in
          let two = old_at defined (bag_of files node.op owed) place (let long = long_defined in omega (arith, lt, long)) in
          subst (λ (bag : Bag). Alike bag (bag_at (defined ++ bag_of files node.op owed ∷ []) place)) (sym one)
          (subst (λ (bag : Bag). Alike (bag_at stays place) bag) (sym two)
          (alike_on (bag_at stays place) (bag_at found place) (bag_at defined place) (stays_alike place later) (so_far.alike place old (before_too place later))))
      | inr new ↦
          let one = new_at stays made place (new.0 ∙ sym long_stays) in
          let two = new_at defined (bag_of files node.op owed) place (new.0 ∙ sym long_defined) in
          subst (λ (bag : Bag). Alike bag (bag_at (defined ++ bag_of files node.op owed ∷ []) place)) (sym one)
          (subst (λ (bag : Bag). Alike made bag) (sym two) (made_alike new.1))
    ]

    more_fit : (place : ℕ) → gives_rows (before ++ node ∷ []) place ≡ true → length (before ++ node ∷ []) ≤ get_or last place 0 → HasItsWidth (bag_at (stays ++ made ∷ []) place)
    more_fit place gives later = elim (gives-more before node place gives) [
      | inl old ↦
          let lt : place < length before = gives_within before place old in
          subst HasItsWidth (sym (old_stays place lt))
          (fits_too (bag_at found place) (bag_at stays place) (stays_alike place later).width (stays_alike place later).rows (so_far.fit place old (before_too place later)))
      | inr new ↦ subst HasItsWidth (sym (new_at stays made place (new.0 ∙ sym long_stays))) (made_fits new.1)
    ]

    pub one_more : IsEvaluated files last (before ++ node ∷ []) (stays ++ made ∷ [])
    one_more = record {
      widths = more_widths;
      narrow = more_narrow;
      alike = λ place gives later. subst (λ (bags : List Bag). Alike (bag_at (stays ++ made ∷ []) place) (bag_at bags place)) (sym (bags_next files before node)) (more_alike place gives later);
      fit = more_fit;
    }
