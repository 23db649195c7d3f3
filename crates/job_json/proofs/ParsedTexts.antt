-- What JSON's reader says of a text.
use Rattle.std.proofs.Common.{◌≡◌, Bool, true, false, List, ℕ, Option, Some, None, IsUtf8, refl}
use Rattle.std.proofs.lemmas.Str.{is_utf8-from_IsUtf8, IsUtf8-from_is_utf8}
use Rattle.std.specs.Str.{is_utf8}
use Rattle.serde_json.specs.Data.{Data}
use Rattle.serde_json.specs.Read.{read}
use Rattle.job_json.specs.Texts.{json_of, text_if}

pub parsed : (text : List ℕ) (d : Data) → IsUtf8 text → read text ≡ Some d → json_of text ≡ Some d
parsed text d utf8 e = rw (is_utf8-from_IsUtf8 text utf8) e

at : (b : Bool) (o : Option Data) → (b ≡ true → o ≡ None) → text_if b o ≡ None
at true o h = h refl
at false o h = refl

pub not_parsed : (text : List ℕ) → (IsUtf8 text → read text ≡ None) → json_of text ≡ None
not_parsed text none = at (is_utf8 text) (read text) (λ e. none (IsUtf8-from_is_utf8 text e))
