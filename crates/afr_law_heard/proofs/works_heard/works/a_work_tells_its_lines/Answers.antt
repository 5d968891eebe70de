use Rattle.afr_law_heard.proofs.Works.WorkTold.{about, begins, begun, blamed, blames, ends, keeps_name, more}
use Rattle.afr_law_heard.proofs.works_heard.works.a_work_tells_its_lines.Goals as goal

pub returns-clause-begins : goal.returns-clause-begins
returns-clause-begins c = begins c.a_rename_tells_its_lines.ensures.begins

pub returns-clause-more : goal.returns-clause-more
returns-clause-more c = more c.a_rename_tells_its_lines.ensures.more

pub returns-clause-begun : goal.returns-clause-begun
returns-clause-begun c = begun c.a_rename_tells_its_lines.ensures.begun

pub returns-clause-about : goal.returns-clause-about
returns-clause-about c = about c.a_rename_tells_its_lines.ensures.about

pub returns-clause-blames : goal.returns-clause-blames
returns-clause-blames c = blames c.a_rename_tells_its_lines.ensures.blamed

pub returns-clause-blamed : goal.returns-clause-blamed
returns-clause-blamed c = blamed c.a_rename_tells_its_lines.ensures.blamed

pub returns-clause-ends : goal.returns-clause-ends
returns-clause-ends c = ends c.a_rename_tells_its_lines.ensures.ends

pub returns-clause-names : goal.returns-clause-names
returns-clause-names c = keeps_name c.a_rename_tells_its_lines.ensures.names
