use Rattle.std.proofs.lemmas.Str.{IsUtf8-from_is_utf8}
use Rattle.std.proofs.Common.{rules, sym, subst, IsUtf8}
use Rattle.expr_json.proofs.leaf.write_literal.Goals as goal

pub write_text-requires : goal.write_text-requires
write_text-requires c = subst IsUtf8 (sym c.as_slice.ensures) (IsUtf8-from_is_utf8 c.in-Text.text (search rules))
