-- What a name leads to is there.
use Rattle.std.specs.Prelude.{◌≡◌, ℕ, true, List, Some}
use Rattle.afr_base.specs.declared.ids.Gfid.{Gfid}
use Rattle.afr_base.specs.declared.ids.NameId.{NameId}
use Rattle.afr_object.specs.declared.entry.Entry.{Entry}
use Rattle.afr_lines.specs.declared.line.Line.{Line}
use Rattle.afr_plan.specs.declared.plan.Plan.{Plan}
use Rattle.afr_model.specs.Sums.{has_object}
use Rattle.afr_model.specs.Tables.{entry_at, holds}

-- after any log a brick that has an entry has the object to which it leads
abbrev pub EntriesHaveCopies : Type 0
EntriesHaveCopies = (p : Plan) (log : List Line) (b : ℕ) (dir : Gfid) (name : NameId) (e : Entry) → entry_at dir name (holds p log b) ≡ Some e → has_object p log e.gfid b ≡ true
