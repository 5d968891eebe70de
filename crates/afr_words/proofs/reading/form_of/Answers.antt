-- What the parse gives.
use Rattle.std.proofs.Common.{rules}
use Rattle.afr_words.proofs.FormLemmas.{failed_is_no_form, named_is_form, parsed_names, refused_is_no_form, unnamed_is_no_form, untold}
use Rattle.afr_words.proofs.reading.form_of.Goals as goal

pub returns-then-are_refused-clause-none : goal.returns-then-are_refused-clause-none
returns-then-are_refused-clause-none c = λ e. refused_is_no_form c.args.words.now (c.are_refused.ensures.0 c.if-are_refused.true)

pub returns-in-Ok-clause-some : goal.returns-in-Ok-clause-some
returns-in-Ok-clause-some c = λ form e.
    let plain = untold _ c.are_refused.ensures.1 c.if-are_refused.false in
    let names = parsed_names _ c.args.words.now c.in-Ok.matches c.in_ok-program.ensures plain c.in-Ok.ensures.kinds c.in-Ok.ensures.matches in
    named_is_form c.args.words.now c.in-Ok.matches c.form_met.result names c.form_met.ensures.some form cc

pub returns-in-Ok-clause-refused : goal.returns-in-Ok-clause-refused
returns-in-Ok-clause-refused c = λ refused. absurd (untold _ c.are_refused.ensures.1 c.if-are_refused.false refused)

pub returns-in-Ok-clause-none : goal.returns-in-Ok-clause-none
returns-in-Ok-clause-none c = λ e.
    let plain = untold _ c.are_refused.ensures.1 c.if-are_refused.false in
    let names = parsed_names _ c.args.words.now c.in-Ok.matches c.in_ok-program.ensures plain c.in-Ok.ensures.kinds c.in-Ok.ensures.matches in
    unnamed_is_no_form c.args.words.now c.in-Ok.matches names (c.form_met.ensures.none cc)

pub returns-in-Err-2-clause-none : goal.returns-in-Err-2-clause-none
returns-in-Err-2-clause-none c = λ e. failed_is_no_form _ c.args.words.now _ c.in_ok-program.ensures c.in-Err.ensures.passes (λ m. search rules) (c.load_asked.ensures.none cc) (c.replay_asked.ensures.none cc)
