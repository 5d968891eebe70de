use Rattle.std.proofs.Common.{sym, ap, ◌∙◌, map}
use Rattle.afr_plan_read.proofs.NamesLemmas.{place-map, insert-map, bytes}
use Rattle.afr_plan_read.proofs.names.NameTable.add.Goals as goal

pub returns-clause-ok : goal.returns-clause-ok
returns-clause-ok c = rw (← c.self.view_is) (c.in_ok-id.ensures.ok ∙ c.in_ok-index.ensures.index ∙ sym (place-map c.args.word.bytes.items c.self.inside.set.keys))

pub returns-clause-value : goal.returns-clause-value
returns-clause-value c = rw (← c.self.view_is) (ap (map bytes) c.in_ok-index.ensures.keys ∙ insert-map c.args.word c.self.inside.set.keys)
