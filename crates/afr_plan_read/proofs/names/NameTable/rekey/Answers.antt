use Rattle.std.proofs.Common.{ap, ◌∙◌, map}
use Rattle.indexmap.specs.IndexSet.{insert_all}
use Rattle.afr_plan_read.proofs.NamesLemmas.{bytes, same_name, inserted_again}
use Rattle.afr_plan_read.proofs.names.NameTable.rekey.Goals as goal

pub returns : goal.returns
returns c =
    let names = c.self.inside.set.keys in
    rw (← c.self.view_is) (ap (map bytes) (c.in_ok-append.ensures.keys ∙ ap (λ l. insert_all same_name l names) c.in_ok-set.ensures.empty ∙ inserted_again names c.len.ensures.unique))
