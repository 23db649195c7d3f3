-- What `parse` gives of 1 to 9 ASCII digits.
use Rattle.std.proofs.Common.{◌≡◌, ℕ, ◌<◌, List, length, true, Result, Ok, arith, rules}
use Rattle.std.specs.List.{list_all}
use Rattle.std.specs.Char.{is_ascii_digit}
use Rattle.std.specs.Str.Parse.{digits_value, ParsesUnsigned}
use Rattle.std.proofs.lemmas.Str.Parse.{IsNumeralModel, numerals_by_value, parse_gives, digits_value_short}
use Rattle.batch_words.specs.Words.{is_numeral}

own : IsNumeralModel (λ text. list_all is_ascii_digit text ≡ true) (digits_value 10)
own = numerals_by_value _ (search rules)

pub parse-numeral : {E : Type 0} (text : List ℕ) (parsed : Result ℕ E) → ParsesUnsigned 32 10 text parsed → is_numeral text ≡ true → parsed ≡ Ok (digits_value 10 text)
parse-numeral text parsed parses numeral =
    let digits : list_all is_ascii_digit text ≡ true = grind (arith, numeral) in
    let some : 0 < length text = grind (arith, numeral) in
    let short : length text < 10 = grind (arith, numeral) in
    parse_gives own 32 text parsed parses digits some (omega (arith, digits_value_short own text 9 digits (omega arith)))
