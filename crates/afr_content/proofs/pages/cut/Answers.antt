-- What a cut leaves in each page.
use Rattle.afr_content.specs.Kept.{kept}
use Rattle.afr_content.proofs.Places.{shortened_by_parts}
use Rattle.afr_content.proofs.pages.cut.Goals as goal

pub returns : goal.returns
returns c = shortened_by_parts c.args.len c.page_count.result (kept c.args.pages.now.entries) (kept c.drop_from.new.pages.entries) (kept c.cut_in.new.pages.entries) c.page_count.ensures c.requires.short c.drop_from.ensures.below c.drop_from.ensures.above c.cut_in.ensures.bytes c.cut_in.ensures.others
