use Rattle.std.proofs.Common.{◌≡◌, true, false, sym, subst}
use Rattle.afr_discipline.specs.Free.{is_ask}
use Rattle.afr_client.specs.Work.{is_over, next_of}
use Rattle.afr_client.specs.declared.work.WorkMachine.{WorkMachine}
use Rattle.afr_client.proofs.WorkLemmas.{read_over}
use Rattle.afr_client.proofs.work.WorkMachine.begins.Goals as goal

pub returns-in-Lookup-clause-none : goal.returns-in-Lookup-clause-none
returns-in-Lookup-clause-none c = λ none.
    subst (λ (w : WorkMachine). is_ask (next_of c.args.at w) ≡ false → is_over w ≡ true) (sym c.in-Lookup.is) (read_over c.in-Lookup.field-0.stage c.in-Lookup.field-0.walk)
