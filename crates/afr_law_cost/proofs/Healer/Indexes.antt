-- The index that a line was given is the one that its brick's tables show.
use Rattle.std.proofs.Common.{refl}
use Rattle.afr_lines.specs.declared.request.Request.TheVariants.{Index}
use Rattle.afr_law_cost.specs.Healer.Laws.{IndexIsShown}
use Rattle.afr_servers.specs.Needs.{AnswersAreRead}

pub index_shown : AnswersAreRead → IndexIsShown
index_shown answers crawl p a log servers new x y line m b before asked told = answers p log a x.visit.met x.visit.epochs asked.epochs b Index asked.load servers new asked.given before.served asked.served refl told
