-- What a cut leaves of a file, by what it leaves in its pages.
use Rattle.std.proofs.Common.{arith}
use Rattle.afr_content.specs.Kept.{kept}
use Rattle.afr_content.proofs.Calls.{bytes_after_cut, bytes_after_no_cut, file_after_cut, numbers_after_cut, numbers_after_no_cut}
use Rattle.afr_content.proofs.content.Content.cut.Goals as goal

pub cut-requires : goal.cut-requires
cut-requires c = record { few = omega (arith, c.self.invariant.few); short = c.self.invariant.short }

pub returns-then-before-len-clause-bytes : goal.returns-then-before-len-clause-bytes
returns-then-before-len-clause-bytes c = rw (← c.self.view_is) (bytes_after_no_cut c.self.inside.len (kept c.self.inside.pages.entries) c.self.invariant c.args.len (omega arith))

pub returns-then-before-len-clause-pages : goal.returns-then-before-len-clause-pages
returns-then-before-len-clause-pages c = rw (← c.self.view_is) (numbers_after_no_cut c.self.inside.len (kept c.self.inside.pages.entries) c.self.invariant c.args.len (omega arith))

pub invariant_of-self : goal.invariant_of-self
invariant_of-self c = file_after_cut c.self.inside.len (kept c.self.inside.pages.entries) (kept c.cut.new.pages.entries) c.self.invariant c.args.len (omega arith) c.cut.ensures

pub returns-clause-bytes : goal.returns-clause-bytes
returns-clause-bytes c = rw (← c.self.view_is) (bytes_after_cut c.self.inside.len (kept c.self.inside.pages.entries) (kept c.cut.new.pages.entries) c.self.invariant c.args.len (omega arith) c.cut.ensures)

pub returns-clause-pages : goal.returns-clause-pages
returns-clause-pages c = rw (← c.self.view_is) (numbers_after_cut c.self.inside.len (kept c.self.inside.pages.entries) (kept c.cut.new.pages.entries) c.self.invariant c.args.len (omega arith) c.cut.ensures)
