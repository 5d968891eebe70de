use Rattle.afr_report.proofs.own.note_at.Goals as goal

pub returns : goal.returns
returns c = record { ok = rw c.told_line_at.ensures at c.note.ensures.ok }
