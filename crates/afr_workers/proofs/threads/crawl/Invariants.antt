use Rattle.afr_workers.proofs.threads.crawl.Given as goal

abbrev pub ghosts-crawl_as : goal.ghosts-crawl_as
ghosts-crawl_as g a = record { plan = a.volume.plan }
