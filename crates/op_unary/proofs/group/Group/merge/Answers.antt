use Rattle.std.proofs.Common.{◌≡◌, All, sym, subst, arith, length-append}
use Rattle.std.proofs.lemmas.List.Elements.{All-append}
use Rattle.bag_laws.specs.Rows.{OneRow as Row}
use Rattle.plan_model.specs.Operators.{key_of}
use Rattle.op_unary.proofs.group.Group.merge.Goals as goal

pub returns-clause-rows : goal.returns-clause-rows
returns-clause-rows c = λ keys aggs rows more ours theirs same. record {
  some = omega (arith, ours.some, length-append rows more);
  one_key = All-append (λ row. key_of keys row ≡ c.args.self.key) rows more ours.one_key (subst (λ (key : Row). All (λ row. key_of keys row ≡ key) more) (sym same) theirs.one_key);
  accumulators = c.in_ok-accumulators.ensures aggs rows more ours.accumulators theirs.accumulators;
}
