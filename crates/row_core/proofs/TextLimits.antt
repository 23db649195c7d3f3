-- Texts within the limit: of rows that have a spelling, and of keys.
use Rattle.std.proofs.Common.{ℕ, zero, suc, List, [], ◌∷◌, get_or}
use Rattle.std.specs.List.{AllByRecursion}
use Rattle.row_core.specs.declared.value.Value.{Value}
use Rattle.row_core.specs.declared.value.Value.TheVariants.{Null, Int, Text}
use Rattle.row_core.specs.Encoding.{TextFits, ValueFits}
use Rattle.row_core.specs.Hashing.{key_of}

text_fits : (value : Value) → ValueFits value → TextFits value
text_fits Null fits = tt
text_fits (Int n) fits = tt
text_fits (Text t) fits = fits

pub values_texts_fit : (row : List Value) → AllByRecursion ValueFits row → AllByRecursion TextFits row
values_texts_fit [] fit = tt
values_texts_fit (value ∷ row) fit = (text_fits value fit.0, values_texts_fit row fit.1)

column_fits : (row : List Value) (column : ℕ) → AllByRecursion TextFits row → TextFits (get_or row column Null)
column_fits [] column fit = tt
column_fits (value ∷ row) zero fit = fit.0
column_fits (value ∷ row) (suc column) fit = column_fits row column fit.1

pub key_texts_fit : (row : List Value) (columns : List ℕ) → AllByRecursion TextFits row → AllByRecursion TextFits (key_of columns row)
key_texts_fit row [] fit = tt
key_texts_fit row (column ∷ columns) fit = (column_fits row column fit, key_texts_fit row columns fit)
