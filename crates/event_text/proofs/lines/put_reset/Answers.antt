use Rattle.std.proofs.Common.{append_assoc}
use Rattle.std.proofs.lemmas.Result.{IfOk-equal}
use Rattle.event_text.proofs.lines.put_reset.Goals as goal

pub returns : goal.returns
returns c = IfOk-equal c.put_subs.result c.put_subs.new.text _ _ c.put_subs.ensures
    (simp (c.as_slice-2.ensures, c.in_ok-extend.ensures.ok, c.in_ok-put_labelled.ensures, c.as_slice.ensures, append_assoc))
