use Rattle.std.proofs.Common.{List, Option, None, refl, ap, sym, subst, ◌∙◌}
use Rattle.afr_rule.specs.declared.candidate.Candidate.{Candidate}
use Rattle.afr_client_walk.specs.Choosing.{RuleAnswers}
use Rattle.afr_client_entry.specs.Entry.{found_by, settled}
use Rattle.afr_client_entry.specs.declared.refusal.Refusal.{Refusal}
use Rattle.afr_client_entry.specs.declared.stage.Found.TheVariants.{Unread}
use Rattle.afr_client_entry.proofs.HeardLemmas.{found_named, found_unread, name_heard, name_reads, name_small, names_fed, nothing_offered, offered_fed, progress_fed, unread_asks}
use Rattle.afr_client_entry.proofs.stage.unread_heard.Goals as goal

pub hears-requires : goal.hears-requires
hears-requires g c =
    unread_asks c.args.walk.now c.args.job c.args.transaction.now c.args.reader c.args.brick c.args.request.now c.args.at (sym c.is_beginning.ensures ∙ c.if-not-is_beginning.true) c.requires.asked

pub picked_under-picked-requires-clause-names : goal.picked_under-picked-requires-clause-names
picked_under-picked-requires-clause-names g c =
    names_fed c.args.walk.now c.args.job c.args.transaction.now c.hears.new.transaction (Unread c.args.reader) c.args.at c.told_of-told.result c.requires.sound.ready c.hears.ensures.value

pub returns-then-not-is_beginning-clause-transaction : goal.returns-then-not-is_beginning-clause-transaction
returns-then-not-is_beginning-clause-transaction g c =
    progress_fed c.args.walk.now c.args.job c.args.transaction.now c.hears.new.transaction c.args.reader c.args.at c.args.answer.now c.told_of-told.result (sym c.is_beginning.ensures ∙ c.if-not-is_beginning.true) c.told_of-told.ensures c.hears.ensures.value

pub returns-then-not-is_beginning-clause-picked : goal.returns-then-not-is_beginning-clause-picked
returns-then-not-is_beginning-clause-picked g c =
    subst (λ (cs : List Candidate). RuleAnswers g.G.Fn c.args.rule.now cs c.picked_under-picked.result)
    (offered_fed c.args.transaction.now c.hears.new.transaction c.args.reader c.args.at c.args.answer.now c.told_of-told.result (sym c.is_beginning.ensures ∙ c.if-not-is_beginning.true) c.told_of-told.ensures c.hears.ensures.value) c.picked_under-picked.ensures

pub returns-then-not-is_beginning-clause-found : goal.returns-then-not-is_beginning-clause-found
returns-then-not-is_beginning-clause-found g c =
    found_unread _ c.reader_of.result c.args.reader c.args.answer.now c.args.job c.args.transaction.now.stage (sym c.is_beginning.ensures ∙ c.if-not-is_beginning.true) c.reader_of.ensures

pub note_read-requires-clause-small : goal.note_read-requires-clause-small
note_read-requires-clause-small g c =
    name_small c.args.walk.now c.args.job c.args.transaction.now c.args.reader c.args.brick c.args.request.now c.args.at c.requires.sound.ready (sym c.is_beginning.ensures ∙ c.if-not-is_beginning.false) c.requires.asked

pub note_read-requires-clause-reads : goal.note_read-requires-clause-reads
note_read-requires-clause-reads g c =
    name_reads c.args.walk.now c.args.job c.args.transaction.now c.args.reader c.args.brick c.args.request.now c.args.at (sym c.is_beginning.ensures ∙ c.if-not-is_beginning.false) c.requires.asked

pub returns-clause-transaction : goal.returns-clause-transaction
returns-clause-transaction g c =
    name_heard c.args.walk.now c.args.job c.args.transaction.now c.note_read.new.self c.settle.new.transaction c.args.reader c.args.brick c.args.request.now c.args.at c.args.answer.now c.told_of-told.result
    (sym c.is_beginning.ensures ∙ c.if-not-is_beginning.false) c.requires.asked c.told_of-told.ensures c.note_read.ensures (c.settle.ensures.transaction ∙ ap (λ (why : Option Refusal). settled why c.note_read.new.self) c.ruled_out-why.ensures)

pub returns-clause-picked : goal.returns-clause-picked
returns-clause-picked g c =
    subst (λ (cs : List Candidate). RuleAnswers g.G.Fn c.args.rule.now cs None) (nothing_offered c.args.transaction.now c.args.reader c.args.at c.args.answer.now (sym c.is_beginning.ensures ∙ c.if-not-is_beginning.false)) refl

pub returns-clause-found : goal.returns-clause-found
returns-clause-found g c =
    found_named _ c.args.reader c.settle.result c.args.answer.now c.args.job c.args.transaction.now.stage (sym c.is_beginning.ensures ∙ c.if-not-is_beginning.false) (c.settle.ensures.found ∙ ap found_by c.ruled_out-why.ensures)
