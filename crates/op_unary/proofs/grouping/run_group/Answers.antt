use Rattle.std.proofs.Common.{◌≡◌, All, sym, subst, arith}
use Rattle.std.proofs.lemmas.List.{length-map}
use Rattle.std.proofs.lemmas.List.Elements.{All-map}
use Rattle.bag_laws.specs.Rows.{OneRow as Row}
use Rattle.plan_model.specs.Operators.{key_of}
use Rattle.op_unary.specs.declared.keyed.Keyed.{Keyed}
use Rattle.op_unary.proofs.grouping.run_group.Goals as goal

pub returns : goal.returns
returns c =
    let now = λ (keyed : Keyed). keyed.row.now in
    let run = c.args.run.now in
    let key = key_of c.args.keys.now in
    record {
      some = omega (arith, c.requires.some, length-map run now);
      one_key = All-map (λ row. key row ≡ c.in_ok-key.key) now run (subst (λ (mine : Row). All (λ keyed. key keyed.row.now ≡ mine) run) (sym c.in_ok-key.ensures) c.requires.one_key);
      accumulators = c.in_ok-accumulators.ensures;
    }
