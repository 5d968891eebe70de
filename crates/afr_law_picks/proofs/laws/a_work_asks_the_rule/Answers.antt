use Rattle.afr_law_picks.proofs.Kept.{end_reads, line_reads, line_rule, one_of}
use Rattle.afr_law_picks.proofs.laws.a_work_asks_the_rule.Goals as goal

pub returns-clause-among : goal.returns-clause-among
returns-clause-among g c = one_of g.G.Fn c.args.rule.now

pub returns-clause-asks : goal.returns-clause-asks
returns-clause-asks g c =
    line_rule g.G.Fn c.args.rule.now c.a_work_stays_sound.ensures.stays c.a_work_stays_sound.ensures.asks_more c.a_work_tells_its_lines.ensures.more c.a_work_tells_its_lines.ensures.about

pub returns-clause-reads : goal.returns-clause-reads
returns-clause-reads g c = line_reads g.G.Fn c.args.rule.now

pub returns-clause-ends : goal.returns-clause-ends
returns-clause-ends g c = end_reads g.G.Fn c.args.rule.now
