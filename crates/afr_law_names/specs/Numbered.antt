-- The numbers of what names lead to.
use Rattle.std.specs.Prelude.{◌≡◌, ℕ, ◌==◌, ◌≤◌, false, List, Some, length}
use Rattle.afr_base.specs.declared.ids.Gfid.{Gfid}
use Rattle.afr_base.specs.declared.ids.NameId.{NameId}
use Rattle.afr_object.specs.declared.entry.Entry.{Entry}
use Rattle.afr_lines.specs.declared.line.Line.{Line}
use Rattle.afr_model.specs.Honest.{Honest}
use Rattle.afr_model.specs.Tables.{entry_at, holds}
use Rattle.afr_plan.specs.declared.plan.Plan.{Plan}
use Rattle.afr_law.specs.Exactly.{IsLawfulExactly}

-- no entry leads to the number 0
abbrev pub EntriesAreNumbered : Type 0
EntriesAreNumbered =
    (p : Plan) (log : List Line) (b : ℕ) (dir : Gfid) (name : NameId) (e : Entry) → p.shape.n ≤ 5 → length log ≤ 4000000 → Honest p log → IsLawfulExactly p log
    → entry_at dir name (holds p log b) ≡ Some e → (e.gfid.0 == 0) ≡ false
