use Rattle.std.proofs.Common.{List, None, refl, sym, subst, ◌∙◌}
use Rattle.afr_rule.specs.declared.candidate.Candidate.{Candidate}
use Rattle.afr_client_walk.specs.Choosing.{RuleAnswers}
use Rattle.afr_client_entry.proofs.Renames.HeardLemmas.{found_named, found_unread, name_heard, name_reads, name_small, names_fed, nothing_offered, offered_fed, progress_fed, unread_asks}
use Rattle.afr_client_entry.proofs.renaming.under.unread_heard.Goals as goal

pub hears-requires : goal.hears-requires
hears-requires g c = unread_asks c.args.asked c.args.transaction.now c.args.reader c.args.brick c.args.request.now c.args.at (sym c.is_beginning.ensures ∙ c.if-not-is_beginning.true) c.requires.line

pub picked_under-picked-requires-clause-names : goal.picked_under-picked-requires-clause-names
picked_under-picked-requires-clause-names g c = names_fed c.args.transaction.now c.hears.new.transaction c.args.at c.args.told.now c.requires.names c.hears.ensures.value

pub returns-then-not-is_beginning-clause-transaction : goal.returns-then-not-is_beginning-clause-transaction
returns-then-not-is_beginning-clause-transaction g c =
    progress_fed c.args.why c.args.asked c.args.transaction.now c.hears.new.transaction c.args.reader c.args.at c.args.told.now (sym c.is_beginning.ensures ∙ c.if-not-is_beginning.true) c.hears.ensures.value

pub returns-then-not-is_beginning-clause-picked : goal.returns-then-not-is_beginning-clause-picked
returns-then-not-is_beginning-clause-picked g c =
    subst (λ (cs : List Candidate). RuleAnswers g.G.Fn c.args.rule.now cs c.picked_under-picked.result)
    (offered_fed c.args.transaction.now c.hears.new.transaction c.args.reader c.args.at c.args.told.now (sym c.is_beginning.ensures ∙ c.if-not-is_beginning.true) c.hears.ensures.value) c.picked_under-picked.ensures

pub returns-then-not-is_beginning-clause-found : goal.returns-then-not-is_beginning-clause-found
returns-then-not-is_beginning-clause-found g c =
    found_unread _ c.reader_of.result c.args.reader c.args.why c.args.transaction.now.stage (sym c.is_beginning.ensures ∙ c.if-not-is_beginning.true) c.reader_of.ensures

pub note_read-requires-clause-small : goal.note_read-requires-clause-small
note_read-requires-clause-small g c =
    name_small c.args.transaction.now.change c.args.asked c.args.transaction.now c.args.reader c.args.brick c.args.request.now c.args.at c.requires.sound (sym c.is_beginning.ensures ∙ c.if-not-is_beginning.false) c.requires.line

pub note_read-requires-clause-reads : goal.note_read-requires-clause-reads
note_read-requires-clause-reads g c =
    name_reads c.args.asked c.args.transaction.now c.args.reader c.args.brick c.args.request.now c.args.at c.requires.reads (sym c.is_beginning.ensures ∙ c.if-not-is_beginning.false) c.requires.line

pub returns-clause-transaction : goal.returns-clause-transaction
returns-clause-transaction g c =
    name_heard c.args.why c.args.asked c.args.transaction.now c.note_read.new.self c.settle.new.transaction c.args.reader c.args.brick c.args.request.now c.args.at c.args.told.now
    (sym c.is_beginning.ensures ∙ c.if-not-is_beginning.false) c.requires.line c.note_read.ensures c.settle.ensures.transaction

pub returns-clause-picked : goal.returns-clause-picked
returns-clause-picked g c =
    subst (λ (cs : List Candidate). RuleAnswers g.G.Fn c.args.rule.now cs None) (nothing_offered c.args.transaction.now c.args.reader c.args.at c.args.told.now (sym c.is_beginning.ensures ∙ c.if-not-is_beginning.false)) refl

pub returns-clause-found : goal.returns-clause-found
returns-clause-found g c =
    found_named _ c.args.reader c.settle.result c.args.why c.args.transaction.now.stage (sym c.is_beginning.ensures ∙ c.if-not-is_beginning.false) c.settle.ensures.found
