-- What zeros leave of a file, by what they leave in its pages.
use Rattle.std.proofs.Common.{arith, sym}
use Rattle.afr_content.specs.Kept.{bytes_below, kept}
use Rattle.afr_content.proofs.Calls.{bytes_after_zero, file_after_zero, numbers_after_zero, zeroed_past}
use Rattle.afr_content.proofs.WholeFile.{length-bytes_below}
use Rattle.afr_content.proofs.content.Content.zero.Goals as goal

pub zero-requires-clause-short : goal.zero-requires-clause-short
zero-requires-clause-short c = c.self.invariant.short

pub invariant_of-self : goal.invariant_of-self
invariant_of-self c = file_after_zero c.self.inside.len (kept c.self.inside.pages.entries) (kept c.zero.new.pages.entries) c.args.from c.args.to c.zero.ensures c.self.invariant

pub returns-clause-bytes : goal.returns-clause-bytes
returns-clause-bytes c = rw (← c.self.view_is) (bytes_after_zero c.self.inside.len (kept c.self.inside.pages.entries) (kept c.zero.new.pages.entries) c.args.from c.args.to c.zero.ensures c.self.invariant)

pub returns-clause-pages : goal.returns-clause-pages
returns-clause-pages c = rw (← c.self.view_is) (numbers_after_zero c.self.inside.len (kept c.self.inside.pages.entries) (kept c.zero.new.pages.entries) c.args.from c.args.to c.zero.ensures)

pub returns-then-present-from-clause-bytes : goal.returns-then-present-from-clause-bytes
returns-then-present-from-clause-bytes c =
    rw (← c.self.view_is) (sym (zeroed_past c.args.from c.args.to (bytes_below c.self.inside.len (kept c.self.inside.pages.entries)) (omega (arith, length-bytes_below c.self.inside.len (kept c.self.inside.pages.entries)))))
