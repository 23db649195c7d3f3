-- What tasks read once others were added, and whether they are done.
use Rattle.std.proofs.Common.{◌≡◌, ℕ, zero, suc, ◌+◌, ◌<◌, false, List, [], ◌∷◌, ◌++◌, length, map, filter, get_or, refl, sym, ◌∙◌, ap, subst, arith, All}
use Rattle.std.proofs.lemmas.List.{append-nil, length_push}
use Rattle.std.proofs.lemmas.List.Elements.{All-append, All-cons, All-head, All-nil, All-tail, All-weaker, filter-append}
use Rattle.reader_index.specs.Tasks.{Tasks, is_done, is_of, read_by, reads_of, with_task, with_tasks}
use Rattle.reader_index.specs.declared.read.Read.{Read}
use Rattle.reader_index.proofs.Counting.{all_own, none_of, others_own}
use Rattle.reader_index.proofs.Linking.{push_default}

-- all readers are tasks
abbrev pub AreReaders : Tasks → Type 0
AreReaders tasks = All (λ read. read.reader < length tasks.done) tasks.reads

one_more : (tasks : Tasks) (producers : List ℕ) → length (with_task tasks producers).done ≡ length tasks.done + 1
one_more tasks producers = length_push tasks.done false

-- what an earlier task reads
pub old_reads : (tasks : Tasks) (lists : List (List ℕ)) (n : ℕ) → n < length tasks.done → reads_of (with_tasks tasks lists) n ≡ reads_of tasks n
old_reads tasks [] n lt = refl
old_reads tasks (producers ∷ lists) n lt =
    let count = length tasks.done in
    let more = one_more tasks producers in
    old_reads (with_task tasks producers) lists n (omega (arith, lt, more))
    ∙ filter-append (is_of n) tasks.reads (map (read_by count) producers)
    ∙ ap (λ (l : List Read). reads_of tasks n ++ l) (others_own n count producers (λ same. omega (arith, same, lt)))
    ∙ append-nil (reads_of tasks n)

own_inside : (count : ℕ) (producers : List ℕ) → All (λ read. read.reader < count + 1) (map (read_by count) producers)
own_inside count [] = All-nil (λ (read : Read). read.reader < count + 1)
own_inside count (p ∷ producers) = All-cons (λ (read : Read). read.reader < count + 1) (read_by count p) (map (read_by count) producers) (omega arith) (own_inside count producers)

readers_one : (tasks : Tasks) (producers : List ℕ) → AreReaders tasks → AreReaders (with_task tasks producers)
readers_one tasks producers inside =
    let count = length tasks.done in
    let P : ℕ → Read → Type 0 = λ n read. read.reader < n in
    subst (λ (n : ℕ). All (P n) (with_task tasks producers).reads) (sym (one_more tasks producers))
    (All-append (P (count + 1)) tasks.reads (map (read_by count) producers)
    (All-weaker (P count) (P (count + 1)) (λ read lt. omega (arith, lt)) tasks.reads inside) (own_inside count producers))

pub readers_more : (tasks : Tasks) (lists : List (List ℕ)) → AreReaders tasks → AreReaders (with_tasks tasks lists)
readers_more tasks [] inside = inside
readers_more tasks (producers ∷ lists) inside = readers_more (with_task tasks producers) lists (readers_one tasks producers inside)

-- what an added task reads
pub new_reads : (tasks : Tasks) (lists : List (List ℕ)) (k n : ℕ) → k < length lists → AreReaders tasks → n ≡ length tasks.done + k → reads_of (with_tasks tasks lists) n ≡ map (read_by n) (get_or lists k [])
new_reads tasks [] k n lt inside is = absurd (omega (arith, lt))
new_reads tasks (producers ∷ lists) zero n lt inside is =
    let count = length tasks.done in
    let same : count ≡ n = omega (arith, is) in
    let more = one_more tasks producers in
    subst (λ (m : ℕ). reads_of (with_tasks (with_task tasks producers) lists) m ≡ map (read_by m) producers) same
    (old_reads (with_task tasks producers) lists count (omega (arith, more))
    ∙ filter-append (is_of count) tasks.reads (map (read_by count) producers)
    ∙ ap (λ (l : List Read). l ++ filter (is_of count) (map (read_by count) producers)) (none_of count tasks.reads inside)
    ∙ all_own count producers)
new_reads tasks (producers ∷ lists) (suc k) n lt inside is =
    let more = one_more tasks producers in
    new_reads (with_task tasks producers) lists k n (omega (arith, lt)) (readers_one tasks producers inside) (omega (arith, is, more))

-- nobody is done by it
pub same_done : (tasks : Tasks) (lists : List (List ℕ)) (n : ℕ) → is_done (with_tasks tasks lists).done n ≡ is_done tasks.done n
same_done tasks [] n = refl
same_done tasks (producers ∷ lists) n = same_done (with_task tasks producers) lists n ∙ push_default tasks.done n false

own_producers : (count n : ℕ) (producers : List ℕ) → All (λ p. p < count) producers → All (λ read. read.producer < count) (map (read_by n) producers)
own_producers count n [] inside = All-nil (λ (read : Read). read.producer < count)
own_producers count n (p ∷ producers) inside = All-cons (λ (read : Read). read.producer < count) (read_by n p) (map (read_by n) producers)
    (All-head (λ (q : ℕ). q < count) p producers inside) (own_producers count n producers (All-tail (λ (q : ℕ). q < count) p producers inside))

-- all producers are tasks
pub producers_more : (tasks : Tasks) (lists : List (List ℕ)) → All (λ read. read.producer < length tasks.done) tasks.reads → All (All (λ p. p < length tasks.done)) lists
    → All (λ read. read.producer < length (with_tasks tasks lists).done) (with_tasks tasks lists).reads
producers_more tasks [] inside under = inside
producers_more tasks (producers ∷ lists) inside under =
    let count = length tasks.done in
    let more = one_more tasks producers in
    let P : ℕ → Read → Type 0 = λ n read. read.producer < n in
    let Q : ℕ → List ℕ → Type 0 = λ n list. All (λ p. p < n) list in
    let own = own_producers count count producers (All-head (Q count) producers lists under) in
    let all = All-append (P count) tasks.reads (map (read_by count) producers) inside own in
    producers_more (with_task tasks producers) lists
    (All-weaker (P count) (P (length (with_task tasks producers).done)) (λ read lt. omega (arith, lt, more)) (with_task tasks producers).reads all)
    (All-weaker (Q count) (Q (length (with_task tasks producers).done)) (λ list h. All-weaker (λ (p : ℕ). p < count) (λ (p : ℕ). p < length (with_task tasks producers).done) (λ p lt. omega (arith, lt, more)) list h) lists
    (All-tail (Q count) producers lists under))
