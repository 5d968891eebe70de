use Rattle.std.proofs.Common.{List, subst, ◌∙◌}
use Rattle.afr_rule.specs.declared.candidate.Candidate.{Candidate}
use Rattle.afr_client_walk.specs.Choosing.{RuleAnswers, reader_of}
use Rattle.afr_client_entry.proofs.Removals.NoteLemmas.{asks_elsewhere}
use Rattle.afr_client_entry.proofs.HeardLemmas.{removing_offers, removing_told}
use Rattle.afr_client_entry.proofs.stage.removal_heard.Goals as goal

pub hear-requires-clause-asking : goal.hear-requires-clause-asking
hear-requires-clause-asking g c = asks_elsewhere c.args.removal.now.stage c.args.removal.now c.args.brick c.args.request.now c.requires.asked

pub returns-clause-picked : goal.returns-clause-picked
returns-clause-picked g c =
    subst (λ (cs : List Candidate). RuleAnswers g.G.Fn c.args.rule.now cs c.hear.result)
    (removing_offers c.args.removal.now c.args.answer.now c.args.at (asks_elsewhere c.args.removal.now.stage c.args.removal.now c.args.brick c.args.request.now c.requires.asked)) c.hear.ensures.picked

pub returns-clause-value : goal.returns-clause-value
returns-clause-value g c =
    c.hear.ensures.value
    ∙ removing_told (reader_of c.hear.result) c.args.removal.now c.args.answer.now c.args.at (asks_elsewhere c.args.removal.now.stage c.args.removal.now c.args.brick c.args.request.now c.requires.asked)
