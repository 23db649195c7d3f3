use Rattle.std.proofs.Common.{◌≡◌, Bor, List, ℕ, Bool, ◌∙◌, sym, ap, subst, refl, map, length, Some, ◌∷◌, ◌++◌, []}
use Rattle.std.proofs.lemmas.List.{map-append}
use Rattle.csv.specs.Reading.{records as all_records, default_config, strip_bom}
use Rattle.csv.specs.Records.{fields_of}
use Rattle.plan_model.specs.Tables.{row_of}
use Rattle.row_steps.specs.Chained.{chained, ops_of, StepsFit}
use Rattle.row_steps.proofs.Laws.{collects_as, nothing_pushed, more_pushed}
use Rattle.csv_tables.specs.Reading.{HasRead, TakesRecord}
use Rattle.csv_tables.proofs.scan.scan_table.Goals as goal

pub loop-init : goal.loop-init
loop-init g c = (
  [],
  c.record_reader-reader.ensures,
  refl,
  refl,
  nothing_pushed g.C.Collector.holds c.args.out.now (ops_of c.args.steps.now) (length c.args.kinds.now) (g.C.Collector.width c.args.out.now) c.requires.steps,
)

pub read_record-requires : goal.read_record-requires
read_record-requires g c = let (records, had, width, kept, taken) = c.loop.invariant in (c.args.text.now, (records, had))

pub scan_record-requires-clause-steps : goal.scan_record-requires-clause-steps
scan_record-requires-clause-steps g c =
    let (records, had, width, kept, taken) = c.loop.invariant in
    subst (λ (n : ℕ). StepsFit (length c.args.kinds.now) (ops_of c.args.steps.now) n) (sym width) c.requires.steps

pub returns-then-not-found-clause-takes : goal.returns-then-not-found-clause-takes
returns-then-not-found-clause-takes g c =
    let (records, had, width, kept, taken) = c.loop.invariant in
    let left_of = λ (s : Bor (List ℕ)). Some s.now in
    let fields = fields_of c.read_record.new.cells in
    let all : all_records default_config (strip_bom c.args.text.now) ≡ records =
    subst (λ (found : Bool). TakesRecord found left_of c.read_record.new.reader c.args.text.now records fields) c.if-not-found.true (c.in_ok-found.ensures c.args.text.now records had) in
    collects_as g.C.Collector.holds c.args.out.now c.loop.out (chained (ops_of c.args.steps.now) (map (row_of c.args.kinds.now) records)) (chained (ops_of c.args.steps.now) (map (row_of c.args.kinds.now) (all_records default_config (strip_bom c.args.text.now))))
    (ap (λ (some : List (List (List ℕ))). chained (ops_of c.args.steps.now) (map (row_of c.args.kinds.now) some)) (sym all)) taken

pub loop-preserved : goal.loop-preserved
loop-preserved g c =
    let (records, had, width, kept, taken) = c.loop.invariant in
    let left_of = λ (s : Bor (List ℕ)). Some s.now in
    let fields = fields_of c.read_record.new.cells in
    let ops = ops_of c.args.steps.now in
    let holds = g.C.Collector.holds in
    let row = row_of c.args.kinds.now fields in
    let more : HasRead left_of c.read_record.new.reader c.args.text.now (records ++ fields ∷ []) =
    subst (λ (found : Bool). TakesRecord found left_of c.read_record.new.reader c.args.text.now records fields) c.if-not-found.false (c.in_ok-found.ensures c.args.text.now records had) in
    let both = more_pushed holds c.args.out.now c.loop.out c.scan_record.new.out ops (length c.args.kinds.now) (g.C.Collector.width c.args.out.now)
    (map (row_of c.args.kinds.now) records) (row ∷ []) c.requires.steps taken c.in_ok-scan_record.ensures.takes in (
      records ++ fields ∷ [],
      more,
      c.in_ok-scan_record.ensures.width ∙ width,
      c.in_ok-scan_record.ensures.kept ∙ kept,
      collects_as holds c.args.out.now c.scan_record.new.out (chained ops (map (row_of c.args.kinds.now) records ++ row ∷ [])) (chained ops (map (row_of c.args.kinds.now) (records ++ fields ∷ [])))
          (ap (chained ops) (sym (map-append (row_of c.args.kinds.now) records (fields ∷ [])))) both,
    )
