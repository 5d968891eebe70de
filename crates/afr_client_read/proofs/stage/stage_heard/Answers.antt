use Rattle.std.proofs.Common.{refl, sym, ◌∙◌}
use Rattle.afr_lines.specs.Told.{told_by}
use Rattle.afr_client_walk.specs.Choosing.{reader_of}
use Rattle.afr_client_walk.proofs.ChoosingLemmas.{answers_among}
use Rattle.afr_client_read.proofs.LookupLemmas.{asked_is, looks_end, looks_on}
use Rattle.afr_client_read.proofs.stage.stage_heard.Goals as goal

pub returns-then-not-is_over-clause-kept : goal.returns-then-not-is_over-clause-kept
returns-then-not-is_over-clause-kept g c = looks_on c.look_noted.new.walk c.in-Looking.looks c.hear.new.self (told_by c.args.answer.now) c.look_noted.ensures.kept c.hear.ensures (sym c.is_over.ensures ∙ c.if-not-is_over.true)

pub returns-else-not-is_over-clause-picked : goal.returns-else-not-is_over-clause-picked
returns-else-not-is_over-clause-picked g c =
    asked_is g.G.Fn c.args.rule.now c.args.stage.now c.in-Looking.looks c.hear.new.self c.args.answer.now (told_by c.args.answer.now) c.args.job c.args.walk.now c.look_noted.new.walk c.args.at c.look_over.result c.in-Looking.is c.look_noted.ensures.walk
    refl c.hear.ensures (c.look_over.ensures.picked _ refl)

pub returns-else-not-is_over-clause-kept : goal.returns-else-not-is_over-clause-kept
returns-else-not-is_over-clause-kept g c =
    looks_end (reader_of c.look_over.result) c.look_noted.new.walk c.in-Looking.looks c.hear.new.self (told_by c.args.answer.now) c.args.job c.look_over.new.stage c.look_noted.ensures.kept c.hear.ensures (c.look_over.ensures.stage _ refl)
    (answers_among g.G.Fn c.args.rule.now _ c.look_over.result (c.look_over.ensures.picked _ refl))

pub returns-in-Reading-clause-kept : goal.returns-in-Reading-clause-kept
returns-in-Reading-clause-kept g c = rw c.end_read.ensures (c.read_noted.ensures.kept _)
