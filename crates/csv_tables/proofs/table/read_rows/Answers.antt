use Rattle.std.proofs.Common.{◌≡◌, Bor, List, ℕ, Bool, ◌∙◌, sym, ap, subst, map, Some, ◌∷◌, ◌++◌, []}
use Rattle.std.proofs.lemmas.List.{map-append}
use Rattle.csv.specs.Reading.{records as all_records, default_config, strip_bom}
use Rattle.csv.specs.Records.{fields_of}
use Rattle.plan_model.specs.Tables.{row_of}
use Rattle.csv_tables.specs.Reading.{HasRead, TakesRecord}
use Rattle.csv_tables.proofs.table.read_rows.Goals as goal

pub loop-init : goal.loop-init
loop-init c = ([], c.record_reader-reader.ensures, c.new-rows.ensures)

pub read_record-requires : goal.read_record-requires
read_record-requires c = let (records, had, rows) = c.loop.invariant in (c.args.text.now, (records, had))

pub returns-then-not-found : goal.returns-then-not-found
returns-then-not-found c =
    let (records, had, rows) = c.loop.invariant in
    let left_of = λ (s : Bor (List ℕ)). Some s.now in
    let fields = fields_of c.read_record.new.cells in
    let all : all_records default_config (strip_bom c.args.text.now) ≡ records =
    subst (λ (found : Bool). TakesRecord found left_of c.read_record.new.reader c.args.text.now records fields) c.if-not-found.true (c.in_ok-found.ensures c.args.text.now records had) in
    rows ∙ ap (map (row_of c.args.kinds.now)) (sym all)

pub loop-preserved : goal.loop-preserved
loop-preserved c =
    let (records, had, rows) = c.loop.invariant in
    let left_of = λ (s : Bor (List ℕ)). Some s.now in
    let fields = fields_of c.read_record.new.cells in
    let more : HasRead left_of c.read_record.new.reader c.args.text.now (records ++ fields ∷ []) =
    subst (λ (found : Bool). TakesRecord found left_of c.read_record.new.reader c.args.text.now records fields) c.if-not-found.false (c.in_ok-found.ensures c.args.text.now records had) in (
      records ++ fields ∷ [],
      more,
      c.in_ok-push.ensures.ok ∙ (λ i. rows i ++ c.in_ok-read_row.ensures i ∷ []) ∙ sym (map-append (row_of c.args.kinds.now) records (fields ∷ [])),
    )
