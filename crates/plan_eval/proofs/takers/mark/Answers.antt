use Rattle.std.proofs.Common.{◌<◌, ◌≤◌, ◌∙◌, length, take, get_or, subst, All, ℕ, List, arith}
use Rattle.std.proofs.lemmas.List.{take_all}
use Rattle.std.proofs.lemmas.List.Elements.{All-more, All-weaker}
use Rattle.plan_eval.proofs.takers.mark.Goals as goal

pub loop-input-preserved : goal.loop-input-preserved
loop-input-preserved c =
    let had = c.loop-input.invariant in
    let raised = c.raise.ensures in
    let old = c.args.last.now.items in
    let now = c.raise.new.last.items in
    record {
      long = raised.long ∙ had.long;
      raised = λ other. let one = had.raised other in let two = raised.raised other in omega (arith, one, two);
      marked = All-more (λ input. input < length old → c.args.place ≤ get_or now input 0) c.args.inputs.now c.loop-input.input-index 0 c.loop-input-test.true
          (All-weaker (λ input. input < length old → c.args.place ≤ get_or c.loop-input.last.items input 0) (λ input. input < length old → c.args.place ≤ get_or now input 0)
          (λ input mark inside. let one = mark inside in let two = raised.raised input in omega (arith, one, two)) (take c.loop-input.input-index c.args.inputs.now) had.marked)
          (λ inside. raised.marked (let long = had.long in omega (arith, inside, long)));
    }

pub returns-clause-marked : goal.returns-clause-marked
returns-clause-marked c =
    subst (λ (inputs : List ℕ). All (λ input. input < length c.args.last.now.items → c.args.place ≤ get_or c.loop-input.last.items input 0) inputs)
    (take_all c.loop-input.input-index c.args.inputs.now c.loop-input-test.false) c.loop-input.invariant.marked
