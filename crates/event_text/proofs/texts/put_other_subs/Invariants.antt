use Rattle.std.proofs.Common.{◌≡◌, ◌++◌, take}
use Rattle.event_text.specs.Lines.{sub_text, behind_commas}
use Rattle.event_text.proofs.texts.put_other_subs.Given as goal

abbrev pub invariant-loop-sub : goal.invariant-loop-sub
invariant-loop-sub l = l.text ≡ l.fn.text ++ behind_commas sub_text (take l.sub-index l.subs)
