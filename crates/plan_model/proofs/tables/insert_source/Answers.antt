use Rattle.std.proofs.Common.{sym, ◌∙◌, ap, List, ℕ, ◌++◌}
use Rattle.std.specs.Str.{bytes_eq}
use Rattle.indexmap.specs.IndexSet.{insert_key}
use Rattle.plan_model.specs.declared.op.Op.{Op}
use Rattle.plan_model.specs.TableNames.{each_once, source_table}
use Rattle.plan_model.proofs.Once.{each_once-next}
use Rattle.plan_model.proofs.tables.insert_source.Goals as goal

pub returns-in_ok-insert_name : goal.returns-in_ok-insert_name
returns-in_ok-insert_name c seen same =
    c.in_ok-insert_name.ensures.names
    ∙ ap (λ (keys : List (List ℕ)). insert_key bytes_eq keys c.as_slice.result.now) same
    ∙ ap (λ (name : List ℕ). insert_key bytes_eq (each_once seen) name) c.as_slice.ensures
    ∙ sym (each_once-next seen c.in-Source.table)
    ∙ ap (λ (op : Op). each_once (seen ++ source_table op)) (sym c.in-Source.is)
