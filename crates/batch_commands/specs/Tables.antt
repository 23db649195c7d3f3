-- The tables of a job, with their files.
use Rattle.std.specs.Prelude.{◌≡◌, ℕ, All, List, length, map, Result}
use Rattle.estate.specs.Changes.{InputCause, InputSteady}
use Rattle.estate.specs.Contents.{Contents, KeepsContents}
use Rattle.estate.specs.declared.input_error.InputError.{InputError}
use Rattle.plan_eval.specs.declared.table_files.TableFiles.{TableFiles}
use Rattle.batch_commands.specs.declared.listed_table.ListedTable.{ListedTable}

-- inputs were read: they hold what they held, and counted a fault exactly where reading failed
pub record Reads {T : Type 0} (old new : Contents) (result : Result T InputError) : Type 0 where
  pub keeps : KeepsContents old new
  pub cause : InputCause old.faults new.faults result
  pub steady : InputSteady old.faults new.faults result

-- tables with these files
abbrev pub with_files : (List ℕ → List (List ℕ)) → List (List ℕ) → List TableFiles
with_files files names = map (λ name. record { table = name; rows = files name }) names

-- tables with the numbers of these files
abbrev pub listed : (List ℕ → List (List ℕ)) → List (List ℕ) → List ListedTable
listed files names = map (λ name. record { table = name; files = length (files name) }) names

-- each table has the number of its files
abbrev pub AreListed : (List ℕ → List (List ℕ)) → List ListedTable → Type 0
AreListed files tables = All (λ table. table.files ≡ length (files table.table)) tables
