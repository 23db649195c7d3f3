use Rattle.std.proofs.Common.{◌≡◌, ℕ, ◌∷◌, [], List, IsTrue, length, map, get_or, sym, subst, ap, ◌∙◌, eqb-true}
use Rattle.std.proofs.lemmas.List.{length-map}
use Rattle.std.proofs.lemmas.Result.{IfOk-weaker}
use Rattle.plan_model.specs.Checks.{takes}
use Rattle.plan_model.specs.Nodes.{IsGood}
use Rattle.plan_model.specs.Plans.{Bag, bag_at}
use Rattle.plan_model.specs.declared.join_kind.JoinKind.{JoinKind}
use Rattle.plan_model.specs.declared.key_pairs.KeyPairs.{KeyPairs}
use Rattle.plan_model.specs.declared.op.Op.{Op}
use Rattle.plan_model.specs.declared.op.Op.TheVariants.{Join}
use Rattle.plan_eval.specs.Evaluated.{IsOutput}
use Rattle.plan_eval.specs.Tables.{files_of}
use Rattle.plan_eval.proofs.Operated.{two_inputs}
use Rattle.plan_eval.proofs.operating.operate.Goals as goal

-- a good join has two inputs
two_of : (op : Op) (kind : JoinKind) (keys : KeyPairs) (bags : List Bag) (inputs : List ℕ) (left right : Bag) → op ≡ Join kind keys → IsGood op (map (bag_at bags) inputs)
    → left ≡ bag_at bags (get_or inputs 0 0) → right ≡ bag_at bags (get_or inputs 1 0) → map (bag_at bags) inputs ≡ left ∷ right ∷ []
two_of op kind keys bags inputs left right is good left_is right_is =
    let long : length inputs ≡ 2 =
    sym (length-map inputs (bag_at bags)) ∙ eqb-true (length (map (bag_at bags) inputs)) 2 (subst (λ (op : Op). IsTrue (takes op (length (map (bag_at bags) inputs)))) is good.number) in
    ap (map (bag_at bags)) (sym (two_inputs inputs long)) ∙ (λ i. sym left_is i ∷ sym right_is i ∷ [])

pub join_sides-requires : goal.join_sides-requires
join_sides-requires c =
    let two = two_of c.args.op.now c.in-Join.kind c.in-Join.keys c.args.outputs.now c.args.inputs.now c.output_at-left.result.now c.output_at-right.result.now c.in-Join.is c.requires.good
    c.output_at-left.ensures c.output_at-right.ensures in
    subst (λ (op : Op). IsGood op (c.output_at-left.result.now ∷ c.output_at-right.result.now ∷ [])) c.in-Join.is (subst (λ (bags : List Bag). IsGood c.args.op.now bags) two c.requires.good)

pub returns-in-Source : goal.returns-in-Source
returns-in-Source c =
    IfOk-weaker c.read_source.result _ _
    (λ output is. subst (λ (op : Op). IsOutput (files_of c.args.tables.now) op (map (bag_at c.args.outputs.now) c.args.inputs.now) output) (sym c.in-Source.is)
    (is (map (bag_at c.args.outputs.now) c.args.inputs.now))) c.read_source.ensures

pub returns-in-Union : goal.returns-in-Union
returns-in-Union c =
    IfOk-weaker c.unite.result _ _
    (λ output is. subst (λ (op : Op). IsOutput (files_of c.args.tables.now) op (map (bag_at c.args.outputs.now) c.args.inputs.now) output) (sym c.in-Union.is)
    (is (files_of c.args.tables.now))) c.unite.ensures

pub returns-in-Join : goal.returns-in-Join
returns-in-Join c =
    let two = two_of c.args.op.now c.in-Join.kind c.in-Join.keys c.args.outputs.now c.args.inputs.now c.output_at-left.result.now c.output_at-right.result.now c.in-Join.is c.requires.good
    c.output_at-left.ensures c.output_at-right.ensures in
    IfOk-weaker c.join_sides.result _ _
    (λ output is. subst (λ (op : Op). IsOutput (files_of c.args.tables.now) op (map (bag_at c.args.outputs.now) c.args.inputs.now) output) (sym c.in-Join.is)
    (subst (λ (bags : List Bag). IsOutput (files_of c.args.tables.now) (Join c.in-Join.kind c.in-Join.keys) bags output) (sym two) (is (files_of c.args.tables.now))))
    c.join_sides.ensures
