-- What the number of a decided subtask tells.
use Rattle.std.proofs.Common.{◌≡◌, ℕ, ◌<◌, List, length, map, sym, ◌∙◌, ap, subst, All}
use Rattle.std.specs.Prelude.{IsTrue}
use Rattle.std.specs.List.{list_all}
use Rattle.std.proofs.lemmas.List.Elements.{All-filter}
use Rattle.std.proofs.lemmas.List.Folds.{list_all-map}
use Rattle.std.proofs.lemmas.List.Sums.{AllPass-from_list_all}
use Rattle.graph_model.specs.declared.made_vertex.MadeVertex.{MadeVertex}
use Rattle.graph_model.specs.declared.sub.Sub.{Sub}
use Rattle.graph_model.specs.Indexes.{sub_at}
use Rattle.graph_model.specs.Reads.{reads_from}
use Rattle.graph_model.specs.States.{is_finished, subtasks_at}
use Rattle.graph_model.proofs.Laws.{in_range}
use Rattle.reader_index.specs.Tasks.{is_done, is_of, missing, reads_of}
use Rattle.reader_index.specs.declared.read.Read.{Read}
use Rattle.event_graph.specs.Numbers.{IsNumbering, Numbering, is_fed, number_of}
use Rattle.event_graph.proofs.Feeding.{fed_is}
use Rattle.std.proofs.Common.{arith, nat_eq}

module _ (vs : List MadeVertex) (numbering : Numbering) (h : IsNumbering vs numbering) where
  -- what a task reads from has a number
  pub reads_inside : (n : ℕ) → All (λ read. read.producer < length numbering.subs) (reads_of numbering.tasks n)
  reads_inside n = All-filter (is_of n) (λ (read : Read). read.producer < length numbering.subs) numbering.tasks.reads
      (subst (λ (k : ℕ). All (λ (read : Read). read.producer < k) numbering.tasks.reads) (sym h.subs_len) h.producers)

  module _ (sub : Sub) (decided : sub.subtask < length (subtasks_at vs sub.vertex)) where
    pub number_placed : sub.vertex < length numbering.places
    number_placed = let a = in_range vs sub.vertex (omega (arith, decided)) in let b = h.places_len in omega (arith, a, b)

    pub number_inside : number_of numbering sub < length numbering.subs
    number_inside = (h.numbered sub decided).within

    pub number_done : number_of numbering sub < length numbering.tasks.done
    number_done = subst (λ (k : ℕ). number_of numbering sub < k) h.subs_len number_inside

    pub reads_are : map (λ read. sub_at numbering.subs read.producer) (reads_of numbering.tasks (number_of numbering sub)) ≡ reads_from vs sub
    reads_are = (h.numbers (number_of numbering sub) number_inside).reads ∙ ap (reads_from vs) (h.numbered sub decided).is

    pub done_is : is_done numbering.tasks.done (number_of numbering sub) ≡ is_finished vs sub
    done_is = (h.numbers (number_of numbering sub) number_inside).done ∙ ap (is_finished vs) (h.numbered sub decided).is

    pub is_fed_at : is_fed vs sub ≡ nat_eq (missing numbering.tasks (number_of numbering sub)) 0
    is_fed_at = ap (is_fed vs) (sym (h.numbered sub decided).is) ∙ fed_is vs numbering h (number_of numbering sub) number_inside

    -- where it is fed, all that it reads from have winners
    pub reads_won : IsTrue (is_fed vs sub) → All (λ read. IsTrue (is_finished vs (sub_at numbering.subs read.producer))) (reads_of numbering.tasks (number_of numbering sub))
    reads_won fed =
        let of : Read → Sub = λ read. sub_at numbering.subs read.producer in
        let reads = reads_of numbering.tasks (number_of numbering sub) in
        AllPass-from_list_all (λ read. is_finished vs (of read)) reads (sym (list_all-map (is_finished vs) of reads) ∙ ap (list_all (is_finished vs)) reads_are ∙ fed)
