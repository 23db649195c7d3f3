use Rattle.std.proofs.Common.{◌≡◌, ◌∙◌, All, List, ℕ, ap, length, map, subst, sym}
use Rattle.plan_eval.specs.Tables.{files_of}
use Rattle.plan_eval.specs.declared.table_files.TableFiles.{TableFiles}
use Rattle.plan_model.specs.Plans.{committed_text}
use Rattle.plan_model.specs.TableNames.{tables_of}
use Rattle.batch_commands.specs.Tables.{with_files}
use Rattle.batch_commands.specs.declared.listed_table.ListedTable.{ListedTable}
use Rattle.batch_commands.proofs.OwnTables.{listed_names, listed_right, text_over_tables}
use Rattle.batch_commands.proofs.tables.text_over.Goals as goal

pub read_tables-requires : goal.read_tables-requires
read_tables-requires g c = λ told.
    let files = (g.I.Inputs.contents c.args.inputs.now).files in
    subst (λ (tables : List ListedTable). All (λ table. table.files ≡ length (files table.table)) tables) (sym (c.requires told)) (listed_right files (tables_of c.args.plan.now))

pub returns-clause-text : goal.returns-clause-text
returns-clause-text g c = λ told.
    let files = (g.I.Inputs.contents c.args.inputs.now).files in
    let plan = c.args.plan.now in
    let names = ap (λ (tables : List ListedTable). map (λ table. table.table) tables) (c.requires told) ∙ listed_names files (tables_of plan) in
    c.in_ok-answer.ensures
    ∙ ap (λ (tables : List TableFiles). committed_text (files_of tables) plan) (c.in_ok-tables.ensures.tables told ∙ ap (λ (n : List (List ℕ)). with_files files n) names)
    ∙ text_over_tables files plan
