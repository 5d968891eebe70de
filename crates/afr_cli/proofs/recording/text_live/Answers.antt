-- The volume crawls where the form does.
use Rattle.std.proofs.Common.{◌∙◌, ap}
use Rattle.afr_cli.specs.Crawl.{crawls}
use Rattle.afr_cli.proofs.recording.text_live.Goals as goal

pub rounds_report-requires : goal.rounds_report-requires
rounds_report-requires c = record { plain = c.requires.form ∙ ap crawls c.in-Live.is }

pub crawl_report-requires : goal.crawl_report-requires
crawl_report-requires c = record { crawl = c.requires.form ∙ ap crawls c.in-Crawl.is }

pub image_text-requires-clause-plain : goal.image_text-requires-clause-plain
image_text-requires-clause-plain c = c.requires.form ∙ ap crawls c.in-Record.is
