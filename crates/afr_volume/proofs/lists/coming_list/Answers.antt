-- Where the crawler asks nobody, nothing is shown.
use Rattle.afr_heal_round.specs.Rounding.{next_of}
use Rattle.std.proofs.Common.{IfOk, Ok, Err, Result, refl}
use Rattle.afr_volume.proofs.ListLemmas.{shows_none}
use Rattle.afr_volume.proofs.lists.coming_list.Goals as goal

pub returns-in-None-clause-shows : goal.returns-in-None-clause-shows
returns-in-None-clause-shows c = λ x m crawls there is. shows_none c.args.servers.now (next_of m) (λ b asked e. c.in-None.ensures.none x m b asked refl there is e)

mapped : {A E : Type 0} {P Q : A → Type 0} (r : Result A E) → ((x : A) → P x → Q x) → IfOk r P → IfOk r Q
mapped (Ok x) f h = f x h
mapped (Err e) f h = tt

pub returns-in-Some-clause-shows : goal.returns-in-Some-clause-shows
returns-in-Some-clause-shows c = mapped c.list_of.result (λ shown shows x m crawls there is. let asks = c.in-Some.ensures.some c.in-Some.brick x m refl there is in shows (next_of m) asks.0 asks.1) c.list_of.ensures.shows
