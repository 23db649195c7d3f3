use Rattle.std.proofs.Common.{◌≡◌, ◌+◌, ◌++◌, ◌∷◌, [], List, map, take, get_or, Some, sym, ◌∙◌, ap, subst}
use Rattle.std.specs.List.{AllZip}
use Rattle.std.proofs.lemmas.List.{map-append, take_more}
use Rattle.estate.specs.declared.part_name.PartName.{PartName}
use Rattle.graph_model.specs.declared.made_vertex.MadeVertex.{MadeVertex}
use Rattle.graph_model.specs.declared.sub.Sub.{Sub}
use Rattle.graph_model.specs.Indexes.{sub_at}
use Rattle.graph_model.specs.States.{winner_name}
use Rattle.graph_vertices.specs.Winning.{IsWonBy}
use Rattle.reader_index.specs.Links.{no_read}
use Rattle.reader_index.specs.declared.read.Read.{Read}
use Rattle.event_graph.proofs.winning.winners_of.Goals as goal

won_push : (vs : List MadeVertex) (subs : List Sub) (names : List PartName) (sub : Sub) (name : PartName) → AllZip (IsWonBy vs) subs names → winner_name vs sub ≡ Some name
    → AllZip (IsWonBy vs) (subs ++ sub ∷ []) (names ++ name ∷ [])
won_push vs [] [] sub name are is = (is, tt)
won_push vs [] (n ∷ names) sub name are is = absurd are
won_push vs (s ∷ subs) [] sub name are is = absurd are
won_push vs (s ∷ subs) (n ∷ names) sub name (here, rest) is = (here, won_push vs subs names sub name rest is)

pub loop-place-preserved : goal.loop-place-preserved
loop-place-preserved c =
    let vs = c.args.vertices.now in
    let reads = c.args.reads.now in
    let place = c.loop-place.place in
    let of : Read → Sub = λ read. sub_at c.args.subs.now read.producer in
    let names = c.loop-place.names.items in
    let more : map of (take (place + 1) reads) ≡ map of (take place reads) ++ of (get_or reads place no_read) ∷ [] =
    ap (map of) (take_more reads place no_read c.loop-place-test.true) ∙ map-append of (take place reads) (get_or reads place no_read ∷ []) in
    subst (λ (l : List PartName). AllZip (IsWonBy vs) (map of (take (place + 1) reads)) l) (sym c.in_ok-push.ensures.items)
    (subst (λ (l : List Sub). AllZip (IsWonBy vs) l (names ++ c.winner_of.result ∷ [])) (sym more)
    (won_push vs (map of (take place reads)) names (of (get_or reads place no_read)) c.winner_of.result c.loop-place.invariant c.winner_of.ensures))
