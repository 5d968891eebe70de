use Rattle.std.proofs.Common.{sym, ap, ◌∙◌}
use Rattle.afr_plan_line.specs.Seen.{seen}
use Rattle.afr_plan_read.specs.Broken.{seen_ok}
use Rattle.afr_plan_read.proofs.RulesLemmas.{judged_ok, judged-line}
use Rattle.afr_plan_read.proofs.lines.Lines.take_line.Goals as goal

pub push-requires : goal.push-requires
push-requires c =
    let said_so = sym c.judge.ensures ∙ ap seen_ok c.in-Ok.is in
    record {
      place = (judged-line c.args.self.now c.args.line.now (seen c.in-Ok.spoken) said_so).place;
      fits = (judged_ok c.args.self.now c.args.line.now (seen c.in-Ok.spoken) said_so).fits;
    }
