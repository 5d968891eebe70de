use Rattle.afr_live.proofs.threads.live.Given as goal

abbrev pub ghosts-live_as-J-Run : goal.ghosts-live_as-J-Run
ghosts-live_as-J-Run g a = record { plan = a.volume.plan }

abbrev pub ghosts-live_as-J-Ledger : goal.ghosts-live_as-J-Ledger
ghosts-live_as-J-Ledger g a = record { name = a.blank.name; parts = a.blank.parts }
