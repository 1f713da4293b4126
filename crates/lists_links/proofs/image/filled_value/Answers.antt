use Rattle.lists_links.proofs.Values.{filled_missing, filled_none, filled_some}
use Rattle.lists_links.proofs.image.filled_value.Goals.{in_default-via-in-Some+else-trim_end-ne0, in_default-via-in_default}
use Rattle.lists_links.proofs.image.filled_value.Goals as goal

pub returns-in-Some : goal.returns-in-Some
returns-in-Some c = filled_some c.in-Some.ensures c.trim_end.ensures c.if-trim_end-ne0.true

pub returns-in_default : goal.returns-in_default
returns-in_default c =
    elim c.in_default.branch [
      | in_default-via-in-Some+else-trim_end-ne0 w ↦ filled_none w.in-Some.ensures w.trim_end.ensures w.if-trim_end-ne0.false
      | in_default-via-in_default w ↦ filled_missing w.in_default.ensures
    ]
