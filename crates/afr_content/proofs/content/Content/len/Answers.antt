-- A file's length is the number of its bytes.
use Rattle.std.proofs.Common.{sym}
use Rattle.afr_content.specs.Kept.{kept}
use Rattle.afr_content.proofs.WholeFile.{length-bytes_below}
use Rattle.afr_content.proofs.content.Content.len.Goals as goal

pub returns : goal.returns
returns c = rw (← c.self.view_is) (sym (length-bytes_below c.self.inside.len (kept c.self.inside.pages.entries)))
