use Rattle.std.proofs.Common.{◌≡◌, ◌<◌, ℕ, List, length, map, sym, ◌∙◌, ap, subst, All}
use Rattle.reader_index.specs.Tasks.{reads_of}
use Rattle.reader_index.specs.declared.read.Read.{Read}
use Rattle.estate.specs.declared.part_name.PartName.{PartName}
use Rattle.graph_model.specs.declared.sub.Sub.{Sub}
use Rattle.graph_model.specs.Indexes.{sub_at}
use Rattle.graph_model.specs.Legal.{IsNamed}
use Rattle.graph_model.specs.Reads.{read_edges}
use Rattle.graph_vertices.specs.Winning.{IsWonBy}
use Rattle.graph_vertices.proofs.Laws.{won_named}
use Rattle.std.specs.List.{AllZip}
use Rattle.event_graph.proofs.Asked.{number_done, number_inside, number_placed, reads_are, reads_inside, reads_won}
use Rattle.std.specs.Prelude.{IsTrue}
use Rattle.graph_model.specs.States.{is_finished}
use Rattle.std.proofs.lemmas.Result.{IfOk-weaker}
use Rattle.event_graph.proofs.asking.parts_read.Goals as goal

pub number-task-requires-clause-vertex : goal.number-task-requires-clause-vertex
number-task-requires-clause-vertex c = number_placed c.args.vertices.now c.args.numbers.now c.requires.numbering c.args.sub c.requires.decided

pub number-task-requires-clause-inside : goal.number-task-requires-clause-inside
number-task-requires-clause-inside c = number_inside c.args.vertices.now c.args.numbers.now c.requires.numbering c.args.sub c.requires.decided

pub reads_of-reads-requires : goal.reads_of-reads-requires
reads_of-reads-requires c =
    let done = number_done c.args.vertices.now c.args.numbers.now c.requires.numbering c.args.sub c.requires.decided in
    subst (λ (n : ℕ). n < length c.args.numbers.now.tasks.done) (sym c.number-task.ensures) done

pub winners_of-requires-clause-inside : goal.winners_of-requires-clause-inside
winners_of-requires-clause-inside c =
    let h = c.requires.numbering in
    let numbering = c.args.numbers.now in
    let reads = c.reads_of-reads.result.now in
    subst (λ (l : List Sub). All (λ (read : Read). read.producer < length l) reads) (sym c.subs.ensures)
    (subst (λ (l : List Read). All (λ (read : Read). read.producer < length numbering.subs) l) (sym c.reads_of-reads.ensures) (reads_inside c.args.vertices.now numbering h c.number-task.result))

pub winners_of-requires-clause-won : goal.winners_of-requires-clause-won
winners_of-requires-clause-won c =
    let vs = c.args.vertices.now in
    let numbering = c.args.numbers.now in
    let won = reads_won vs numbering c.requires.numbering c.args.sub c.requires.decided c.requires.fed in
    subst (λ (l : List Sub). All (λ (read : Read). IsTrue (is_finished vs (sub_at l read.producer))) c.reads_of-reads.result.now) (sym c.subs.ensures)
    (subst (λ (l : List Read). All (λ (read : Read). IsTrue (is_finished vs (sub_at numbering.subs read.producer))) l)
    (sym (c.reads_of-reads.ensures ∙ ap (reads_of numbering.tasks) c.number-task.ensures)) won)

pub returns : goal.returns
returns c =
    let vs = c.args.vertices.now in
    let numbering = c.args.numbers.now in
    let h = c.requires.numbering in
    let sub = c.args.sub in
    let of : List Sub → Read → Sub = λ subs read. sub_at subs read.producer in
    let reads = c.reads_of-reads.result.now in
    let list : map (of c.subs.result.now) reads ≡ map (λ edge. edge.sub) (read_edges vs sub) =
    ap (λ (l : List Sub). map (of l) reads) c.subs.ensures ∙ ap (map (of numbering.subs)) (c.reads_of-reads.ensures ∙ ap (reads_of numbering.tasks) c.number-task.ensures)
    ∙ reads_are vs numbering h sub c.requires.decided in
    IfOk-weaker c.winners_of.result (λ (names : List PartName). AllZip (IsWonBy vs) (map (of c.subs.result.now) reads) names) (λ (names : List PartName). AllZip (IsNamed vs) (read_edges vs sub) names)
    (λ names are. won_named vs (read_edges vs sub) names (subst (λ (l : List Sub). AllZip (IsWonBy vs) l names) list are)) c.winners_of.ensures
