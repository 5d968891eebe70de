use Rattle.afr_law_picks.proofs.Sources.Line.{line_keeps}
use Rattle.afr_law_picks.proofs.source_picks.laws.a_line_keeps_its_source.Goals as goal

pub returns : goal.returns
returns g c = record { keeps = line_keeps g.F.Fn c.args.rule.now c.a_healer_keeps_its_round.ensures.can c.a_healer_keeps_its_round.ensures.keeps c.a_heal_stays_sound.ensures.source }
