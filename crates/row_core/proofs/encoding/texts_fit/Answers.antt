use Rattle.row_core.proofs.TextLimits.{values_texts_fit, key_texts_fit}
use Rattle.row_core.proofs.encoding.texts_fit.Goals as goal

pub returns-clause-row : goal.returns-clause-row
returns-clause-row c = λ row fits. values_texts_fit row fits.values

pub returns-clause-key : goal.returns-clause-key
returns-clause-key c = λ row columns fit. key_texts_fit row columns fit
