use Rattle.rect_cover.proofs.Places.{matches_of_places, meets_of_places}
use Rattle.rect_cover.proofs.laws.column_law.Goals as goal

pub returns : goal.returns
returns c = record { meets = meets_of_places; matches = λ matches place other left right same lefts rights. matches_of_places matches place other left right same lefts rights }
