use Rattle.std.proofs.Common.{◌≡◌, ◌<◌, ℕ, map, length, get_or, Some, sym, ◌∙◌, ap, arith, refl, ⊎_elim}
use Rattle.std.proofs.lemmas.Bool.{cases_eq, false≢true}
use Rattle.std.proofs.lemmas.List.{get_or_default, length-map}
use Rattle.estate.specs.declared.part_name.PartName.{PartName}
use Rattle.graph_model.specs.declared.sub.Sub.{Sub}
use Rattle.graph_model.specs.Indexes.{no_sub, sub_at}
use Rattle.graph_model.specs.States.{winner_name}
use Rattle.reader_index.specs.Links.{no_read}
use Rattle.reader_index.specs.declared.read.Read.{Read}
use Rattle.graph_vertices.proofs.Laws.{all_won, at_map, same_long, won_in}
use Rattle.event_graph.proofs.winning.are_winners.Goals as goal

abbrev no_name : PartName
no_name = record { vertex = 0; subtask = 0; epoch = 0; attempt = 0 }

pub returns-then-reads-names : goal.returns-then-reads-names
returns-then-reads-names c =
    let vs = c.args.vertices.now in
    let reads = c.args.reads.now in
    let names = c.args.names.now in
    let f : Read → Sub = λ read. sub_at c.args.subs.now read.producer in
    (λ e. absurd (false≢true e), λ are. absurd (c.if-reads-names.true (sym (length-map reads f) ∙ same_long vs (map f reads) names are)))

pub loop-place-preserved : goal.loop-place-preserved
loop-place-preserved c =
    let vs = c.args.vertices.now in
    let reads = c.args.reads.now in
    let names = c.args.names.now in
    let place = c.loop-place.place in
    let of : Read → Sub = λ read. sub_at c.args.subs.now read.producer in
    λ k read name lt. ⊎_elim
    (λ (same : k ≡ place).
    let at : of (get_or reads k read) ≡ of (get_or reads place no_read) =
    ap (λ (n : ℕ). of (get_or reads n read)) same ∙ ap of (get_or_default reads place read no_read c.loop-place-test.true) in
    let less : place < length names = omega (arith, c.loop-place-test.true, c.if-reads-names.false) in
    ap (winner_name vs) at ∙ c.is_winner.ensures.0 c.if-not-is_winner.false
    ∙ ap (λ (n : PartName). Some n) (get_or_default names place no_name name less ∙ ap (λ (n : ℕ). get_or names n name) (sym same)))
    (λ (ne : k ≡ place → ⊥). c.loop-place.invariant k read name (omega (arith, lt, ne)))
    (cases_eq k place)

pub returns-then-not-is_winner : goal.returns-then-not-is_winner
returns-then-not-is_winner c =
    let vs = c.args.vertices.now in
    let reads = c.args.reads.now in
    let names = c.args.names.now in
    let place = c.loop-place.place in
    let f : Read → Sub = λ read. sub_at c.args.subs.now read.producer in
    let lt : place < length reads = c.loop-place-test.true in
    let long : length (map f reads) ≡ length reads = length-map reads f in
    let at : get_or (map f reads) place no_sub ≡ f (get_or reads place no_read) = at_map f reads place no_read no_sub lt in (
      λ e. absurd (false≢true e),
      λ are. absurd (false≢true (sym c.if-not-is_winner.true
          ∙ c.is_winner.ensures.1 (ap (winner_name vs) (sym at) ∙ won_in vs (map f reads) names are place no_sub no_name (omega (arith, lt, long))))),
    )

pub returns : goal.returns
returns c =
    let vs = c.args.vertices.now in
    let reads = c.args.reads.now in
    let names = c.args.names.now in
    let f : Read → Sub = λ read. sub_at c.args.subs.now read.producer in
    let long : length (map f reads) ≡ length reads = length-map reads f in (
      λ _. all_won vs (map f reads) names (long ∙ c.if-reads-names.false) (λ k sub name lt.
          let less : k < length reads = omega (arith, lt, long) in
          ap (winner_name vs) (at_map f reads k no_read sub less) ∙ c.loop-place.invariant k no_read name (omega (arith, less, c.loop-place-test.false))),
      λ _. refl,
    )
