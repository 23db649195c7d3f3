use Rattle.std.proofs.Common.{◌≡◌, ◌+◌, ◌<◌, ℕ, List, [], ◌∷◌, drop, length, map, get_or, string_bytes, true, false, None, Some, Err, arith, sym, ap, ◌∙◌}
use Rattle.std.proofs.lemmas.Result.{err_from_is_err_and}
use Rattle.std.proofs.lemmas.List.{length-map}
use Rattle.std.specs.Str.{bytes_eq}
use Rattle.batch_words.specs.Words.{option_name, lone_item, items_from}
use Rattle.batch_words.specs.Words.Item.{Workers}
use Rattle.batch_words.proofs.Places.{items_from-InOrder}
use Rattle.batch_words.proofs.Items.{items_from-drop_option, items_from-drop_lone, items_from-drop_last}
use Rattle.batch_words.proofs.Agreement.{step_read, read_ok, read_err}
use Rattle.batch_words.proofs.reading.Reading.read.Goals as goal

pub returns-then-at-words-clause-read : goal.returns-then-at-words-clause-read
returns-then-at-words-clause-read c =
    let texts : List (List ℕ) = map string_bytes c.args.words.now in
    let inside : c.args.at < length texts = omega (arith, length-map c.args.words.now string_bytes) in
    let last : length texts ≡ c.args.at + 1 = omega (arith, length-map c.args.words.now string_bytes) in
    let option : bytes_eq (get_or texts c.args.at []) option_name ≡ true = rw (← c.word_at-word.ensures) (sym c.if-eq.ensures) in
    λ earlier held. read_err c.args.takes_number c.args.self.now c.args.self.now (Workers c.args.at None) _ [] earlier c.args.at c.fault.result
    (items_from-drop_last texts c.args.at inside (omega arith) option) (items_from-InOrder c.args.at (drop c.args.at texts))
    (step_read c.args.takes_number c.args.self.now c.args.self.now (Workers c.args.at None) (Err c.fault.result) (ap Err (sym c.fault.ensures))) held

pub returns-in_err-read_workers-clause-read : goal.returns-in_err-read_workers-clause-read
returns-in_err-read_workers-clause-read c =
    let texts : List (List ℕ) = map string_bytes c.args.words.now in
    let p = err_from_is_err_and c.from_residual.result c.from_residual.ensures.1 in
    let inside : c.args.at + 1 < length texts = omega (arith, length-map c.args.words.now string_bytes) in
    let option : bytes_eq (get_or texts c.args.at []) option_name ≡ true = rw (← c.word_at-word.ensures) (sym c.if-eq.ensures) in
    rw (p.1, p.2) (λ earlier held. read_err c.args.takes_number c.args.self.now c.read_workers.new.self (Workers c.args.at (Some (c.args.at + 1, c.word_at-number.result.now))) _ _ earlier c.args.at _
    (items_from-drop_option texts c.args.at inside option ∙ ap (λ (number : List ℕ). Workers c.args.at (Some (c.args.at + 1, number)) ∷ items_from (c.args.at + 2) (drop (c.args.at + 2) texts)) (sym c.word_at-number.ensures)) (items_from-InOrder c.args.at (drop c.args.at texts))
    (c.in_err-read_workers.ensures c.args.takes_number) held)

pub returns-in_err-read_word-clause-read : goal.returns-in_err-read_word-clause-read
returns-in_err-read_word-clause-read c =
    let texts : List (List ℕ) = map string_bytes c.args.words.now in
    let p = err_from_is_err_and c.from_residual-in_err-read_word.result c.from_residual-in_err-read_word.ensures.1 in
    let inside : c.args.at < length texts = omega (arith, length-map c.args.words.now string_bytes) in
    let other : bytes_eq (get_or texts c.args.at []) option_name ≡ false = rw (← c.word_at-word.ensures) (sym c.if-eq.ensures) in
    rw (p.1, p.2) (λ earlier held. read_err c.args.takes_number c.args.self.now c.read_word.new.self (lone_item c.args.at c.word_at-word.result.now) _ _ earlier c.args.at _
    (items_from-drop_lone texts c.args.at inside other ∙ ap (λ (word : List ℕ). lone_item c.args.at word ∷ items_from (c.args.at + 1) (drop (c.args.at + 1) texts)) (sym c.word_at-word.ensures)) (items_from-InOrder c.args.at (drop c.args.at texts))
    c.in_err-read_word.ensures held)

pub returns-in_ok-read_workers-clause-read : goal.returns-in_ok-read_workers-clause-read
returns-in_ok-read_workers-clause-read c =
    let texts : List (List ℕ) = map string_bytes c.args.words.now in
    let inside : c.args.at + 1 < length texts = omega (arith, length-map c.args.words.now string_bytes) in
    let option : bytes_eq (get_or texts c.args.at []) option_name ≡ true = rw (← c.word_at-word.ensures) (sym c.if-eq.ensures) in
    λ earlier held. read_ok c.args.takes_number c.args.self.now c.read_workers.new.self (Workers c.args.at (Some (c.args.at + 1, c.word_at-number.result.now))) _ _ earlier
    (items_from-drop_option texts c.args.at inside option ∙ ap (λ (number : List ℕ). Workers c.args.at (Some (c.args.at + 1, number)) ∷ items_from (c.args.at + 2) (drop (c.args.at + 2) texts)) (sym c.word_at-number.ensures)) (c.in_ok-read_workers.ensures c.args.takes_number) held

pub returns-in_ok-read_word-clause-read : goal.returns-in_ok-read_word-clause-read
returns-in_ok-read_word-clause-read c =
    let texts : List (List ℕ) = map string_bytes c.args.words.now in
    let inside : c.args.at < length texts = omega (arith, length-map c.args.words.now string_bytes) in
    let other : bytes_eq (get_or texts c.args.at []) option_name ≡ false = rw (← c.word_at-word.ensures) (sym c.if-eq.ensures) in
    λ earlier held. read_ok c.args.takes_number c.args.self.now c.read_word.new.self (lone_item c.args.at c.word_at-word.result.now) _ _ earlier
    (items_from-drop_lone texts c.args.at inside other ∙ ap (λ (word : List ℕ). lone_item c.args.at word ∷ items_from (c.args.at + 1) (drop (c.args.at + 1) texts)) (sym c.word_at-word.ensures)) c.in_ok-read_word.ensures held
