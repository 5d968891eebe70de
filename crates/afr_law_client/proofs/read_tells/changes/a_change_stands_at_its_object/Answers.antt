use Rattle.afr_law_client.proofs.Read.ChangeWords as words
use Rattle.afr_law_client.proofs.read_tells.changes.a_change_stands_at_its_object.Goals as goal

pub returns-clause-stands : goal.returns-clause-stands
returns-clause-stands c = words.stands

pub returns-clause-large : goal.returns-clause-large
returns-clause-large c = words.large

pub returns-clause-directory : goal.returns-clause-directory
returns-clause-directory c = words.directory

pub returns-clause-nothing : goal.returns-clause-nothing
returns-clause-nothing c = words.nothing

pub returns-clause-path : goal.returns-clause-path
returns-clause-path c = words.keeps_path
