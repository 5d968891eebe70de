use Rattle.std.proofs.Common.{List, None, refl, sym, subst}
use Rattle.afr_rule.specs.declared.candidate.Candidate.{Candidate}
use Rattle.afr_client_walk.specs.Choosing.{RuleAnswers}
use Rattle.afr_client_entry.specs.declared.stage.Found.{Found}
use Rattle.afr_client_entry.specs.Renames.Under.{choices_under}
use Rattle.afr_client_entry.proofs.Renames.HeardLemmas.{found_asks, found_offers, found_same, found_told}
use Rattle.afr_client_entry.proofs.HeardLemmas.{name_read}
use Rattle.afr_client_entry.proofs.renaming.under.heard_under.Goals as goal

pub returns-in-Unread-clause-picked : goal.returns-in-Unread-clause-picked
returns-in-Unread-clause-picked g c =
    subst (λ (found : Found). RuleAnswers g.G.Fn c.args.rule.now (choices_under found c.args.told.now c.args.at c.args.transaction.now) c.unread_heard.result.1) (sym c.in-Unread.is) c.unread_heard.ensures.picked

pub hears-requires : goal.hears-requires
hears-requires g c = found_asks c.args.asked c.args.transaction.now c.args.found c.args.brick c.args.request.now c.args.at (name_read c.args.found c.in-Fits.is) c.requires.line

pub returns-in-Fits : goal.returns-in-Fits
returns-in-Fits g c = record {
  transaction = found_told c.args.why c.args.asked c.args.transaction.now c.hears.new.transaction c.args.found c.args.at c.args.told.now (name_read c.args.found c.in-Fits.is) c.hears.ensures.asked c.hears.ensures.value;
  picked = subst (λ (cs : List Candidate). RuleAnswers g.G.Fn c.args.rule.now cs None) (found_offers c.args.found c.args.transaction.now c.args.at c.args.told.now (name_read c.args.found c.in-Fits.is)) refl;
  found = found_same _ c.args.found c.args.why c.args.transaction.now.stage (name_read c.args.found c.in-Fits.is);
}
