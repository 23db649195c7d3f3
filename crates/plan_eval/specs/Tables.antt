-- Tables that are given with their files.
use Rattle.std.specs.Prelude.{ℕ, List, [], ◌∷◌, if◌then◌else◌}
use Rattle.std.specs.Str.{bytes_eq}
use Rattle.plan_eval.specs.declared.table_files.TableFiles.{TableFiles}

-- the files of the first entry of a table, or none
abbrev pub files_of : List TableFiles → List ℕ → List (List ℕ)
files_of [] name = []
files_of (entry ∷ entries) name = if bytes_eq entry.table name then entry.rows else files_of entries name
