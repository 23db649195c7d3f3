-- A subtask misses nothing where all that it reads from have winners.
use Rattle.std.proofs.Common.{◌≡◌, ℕ, ◌+◌, ◌<◌, Bool, true, false, not, ◌&&◌, cond, List, [], ◌∷◌, length, filter, get_or, refl, sym, ◌∙◌, ap, arith, nat_eq, All}
use Rattle.std.specs.Prelude.{count_by}
use Rattle.std.specs.List.{list_all}
use Rattle.std.proofs.lemmas.Bool.{false≢true}
use Rattle.std.proofs.lemmas.Bool.Decides.{nat_tests}
use Rattle.std.proofs.lemmas.List.Elements.{All-filter, All-head, All-tail}
use Rattle.std.proofs.lemmas.List.Folds.{list_all-map}
use Rattle.std.proofs.lemmas.List.Sums.{sum_by-cons}
use Rattle.graph_model.specs.declared.made_vertex.MadeVertex.{MadeVertex}
use Rattle.graph_model.specs.declared.sub.Sub.{Sub}
use Rattle.graph_model.specs.Indexes.{sub_at}
use Rattle.graph_model.specs.States.{is_finished}
use Rattle.reader_index.specs.Tasks.{is_done, is_of, is_waiting, missing, reads_of}
use Rattle.reader_index.specs.declared.read.Read.{Read}
use Rattle.event_graph.specs.Numbers.{IsNumbering, Numbering, is_fed}
use Rattle.event_graph.proofs.Counting.{one_if}

-- whether the read is from a producer that is done
abbrev has_come : List Bool → Read → Bool
has_come done read = is_done done read.producer

-- each read of a task that isn't missing
all_come : (done : List Bool) (n : ℕ) (reads : List Read) → count_by (is_waiting done n) reads ≡ 0 → list_all (has_come done) (filter (is_of n) reads) ≡ true
all_come done n [] none = refl
all_come done n (read ∷ reads) none = by (is_of n read) (is_done done read.producer) refl refl (all_come done n reads)
  where
    sum : count_by (is_waiting done n) (read ∷ reads) ≡ one_if (is_waiting done n read) + count_by (is_waiting done n) reads
    sum = sum_by-cons (λ r. one_if (is_waiting done n r)) read reads

    few : count_by (is_waiting done n) reads ≡ 0
    few = let s = sum in omega (arith, s, none)

    by : (of come : Bool) → is_of n read ≡ of → is_done done read.producer ≡ come → (count_by (is_waiting done n) reads ≡ 0 → list_all (has_come done) (filter (is_of n) reads) ≡ true)
        → list_all (has_come done) (cond of (read ∷ filter (is_of n) reads) (filter (is_of n) reads)) ≡ true
    by false come a b rest = rest few
    by true true a b rest = ap (λ (t : Bool). t && list_all (has_come done) (filter (is_of n) reads)) b ∙ rest few
    by true false a b rest =
        let here : one_if (is_waiting done n read) ≡ 1 = ap (λ (t : Bool). one_if (t && not (is_done done read.producer))) a ∙ ap (λ (t : Bool). one_if (not t)) b in
        let s = sum in
        absurd (omega (arith, s, none, here))

none_missing : (done : List Bool) (n : ℕ) (reads : List Read) → list_all (has_come done) (filter (is_of n) reads) ≡ true → count_by (is_waiting done n) reads ≡ 0
none_missing done n [] come = refl
none_missing done n (read ∷ reads) come = by (is_of n read) (is_done done read.producer) refl refl (none_missing done n reads) come
  where
    sum : count_by (is_waiting done n) (read ∷ reads) ≡ one_if (is_waiting done n read) + count_by (is_waiting done n) reads
    sum = sum_by-cons (λ r. one_if (is_waiting done n r)) read reads

    by : (of has : Bool) → is_of n read ≡ of → is_done done read.producer ≡ has → (list_all (has_come done) (filter (is_of n) reads) ≡ true → count_by (is_waiting done n) reads ≡ 0)
        → list_all (has_come done) (cond of (read ∷ filter (is_of n) reads) (filter (is_of n) reads)) ≡ true → count_by (is_waiting done n) (read ∷ reads) ≡ 0
    by false has a b none all =
        let here : one_if (is_waiting done n read) ≡ 0 = ap (λ (t : Bool). one_if (t && not (is_done done read.producer))) a in
        let rest = none all in
        let s = sum in
        omega (arith, s, here, rest)
    by true true a b none all =
        let here : one_if (is_waiting done n read) ≡ 0 = ap (λ (t : Bool). one_if (t && not (is_done done read.producer))) a ∙ ap (λ (t : Bool). one_if (not t)) b in
        let rest = none (ap (λ (t : Bool). t && list_all (has_come done) (filter (is_of n) reads)) (sym b) ∙ all) in
        let s = sum in
        omega (arith, s, here, rest)
    by true false a b none all = absurd (false≢true (ap (λ (t : Bool). t && list_all (has_come done) (filter (is_of n) reads)) (sym b) ∙ all))

same_tests : {X : Type 0} (p q : X → Bool) (xs : List X) → All (λ x. p x ≡ q x) xs → list_all p xs ≡ list_all q xs
same_tests p q [] same = refl
same_tests p q (x ∷ xs) same =
    ap (λ (b : Bool). b && list_all p xs) (All-head (λ x. p x ≡ q x) x xs same)
    ∙ ap (λ (b : Bool). q x && b) (same_tests p q xs (All-tail (λ x. p x ≡ q x) x xs same))

zero_is : (n : ℕ) → n ≡ 0 → nat_eq n 0 ≡ true
zero_is n e = grind (arith, nat_tests)

is_zero : (n : ℕ) → nat_eq n 0 ≡ true → n ≡ 0
is_zero n e = grind (arith, nat_tests)

-- two tests that pass alike
alike : (a b : Bool) → (a ≡ true → b ≡ true) → (b ≡ true → a ≡ true) → a ≡ b
alike true b to from = sym (to refl)
alike false true to from = from refl
alike false false to from = refl

-- nothing is missing where all that the subtask reads from have winners
pub fed_is : (vs : List MadeVertex) (numbering : Numbering) → IsNumbering vs numbering → (n : ℕ) → n < length numbering.subs
    → is_fed vs (sub_at numbering.subs n) ≡ nat_eq (missing numbering.tasks n) 0
fed_is vs numbering h n lt =
    let tasks = numbering.tasks in
    let of : Read → Sub = λ read. sub_at numbering.subs read.producer in
    let reads = (h.numbers n lt).reads in
    let same : All (λ read. is_finished vs (of read) ≡ has_come tasks.done read) (reads_of tasks n) =
    All-filter (is_of n) (λ read. is_finished vs (of read) ≡ has_come tasks.done read) tasks.reads
    (λ k d inside. let under = h.producers k d inside in let long = h.subs_len in sym (h.numbers (get_or tasks.reads k d).producer (omega (arith, under, long))).done) in
    let come : is_fed vs (sub_at numbering.subs n) ≡ list_all (has_come tasks.done) (reads_of tasks n) =
    ap (list_all (is_finished vs)) (sym reads) ∙ list_all-map (is_finished vs) of (reads_of tasks n) ∙ same_tests (λ read. is_finished vs (of read)) (has_come tasks.done) (reads_of tasks n) same in
    come ∙ alike (list_all (has_come tasks.done) (reads_of tasks n)) (nat_eq (missing tasks n) 0)
    (λ all. zero_is (missing tasks n) (none_missing tasks.done n tasks.reads all))
    (λ none. all_come tasks.done n tasks.reads (is_zero (missing tasks n) none))
