-- What overlaps is of the same directory, and is the name itself or the whole directory.
use Rattle.afr_name_locks.proofs.NameLemmas.{of_a_name, on_one_directory, whole_reaches}
use Rattle.afr_name_locks.specs.Names.{place_of}
use Rattle.afr_name_locks.proofs.names.DirNameLockable.reach.Goals as goal

pub returns-in-Some-clause-object : goal.returns-in-Some-clause-object
returns-in-Some-clause-object c = on_one_directory c.args.self.now

pub returns-in-Some-clause-start : goal.returns-in-Some-clause-start
returns-in-Some-clause-start c = λ other e small. of_a_name c.args.self.now other _ c.start_of-start.result c.in-Some.is c.start_of-start.ensures e

pub returns-in-None-clause-object : goal.returns-in-None-clause-object
returns-in-None-clause-object c = on_one_directory c.args.self.now

pub returns-in-None-clause-start : goal.returns-in-None-clause-start
returns-in-None-clause-start c = λ other e small. whole_reaches (place_of other).start small
