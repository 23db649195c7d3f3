use Rattle.std.proofs.Common.{◌≡◌, ◌∙◌, ℕ, List, length, map, take, get_or, sym, ap, subst}
use Rattle.std.specs.Prelude.{IsPermutation}
use Rattle.std.proofs.lemmas.List.{take_all}
use Rattle.graph_model.specs.declared.sub.Sub.{Sub}
use Rattle.graph_model.specs.Indexes.{sub_at}
use Rattle.region_closure.specs.Closing.{ArePicked}
use Rattle.region_closure.proofs.Ascending.{are_picked, picked_more}
use Rattle.region_closure.proofs.picked.picked_subs.Goals as goal

pub loop-number-preserved : goal.loop-number-preserved
loop-number-preserved c =
    c.in_ok-push.ensures.items ∙ picked_more c.args.subs.now c.args.numbers.now c.loop-number.set.items c.loop-number.number-index c.loop-number-test.true c.loop-number.invariant

pub returns : goal.returns
returns c =
    let subs = c.args.subs.now in
    let numbers = c.args.numbers.now in
    let all : c.loop-number.set.items ≡ map (sub_at subs) numbers = c.loop-number.invariant ∙ ap (map (sub_at subs)) (take_all c.loop-number.number-index numbers c.loop-number-test.false) in
    subst (λ (l : List Sub). ArePicked subs numbers l) (sym c.from_vec.ensures)
    (are_picked subs numbers c.sort.new.self.items (subst (λ (l : List Sub). IsPermutation l c.sort.new.self.items) all c.sort.ensures.permutation) c.in_ok-sort.ensures.sorted c.requires.apart)
