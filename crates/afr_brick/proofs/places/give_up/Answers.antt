use Rattle.afr_base.specs.declared.ids.What.TheVariants.{File}
use Rattle.afr_object.specs.Tables.{new_object}
use Rattle.afr_brick.proofs.PlacesLemmas.{apart-remove, apart_dropped, table-remove, table_dropped, within}
use Rattle.afr_brick.proofs.places.give_up.Goals as goal

pub empty-requires : goal.empty-requires
empty-requires c = within c.args.g _ c.args.places.now.entries c.in-Some.place c.requires c.in-Some.ensures.value

pub returns-in-Some-clause-table : goal.returns-in-Some-clause-table
returns-in-Some-clause-table c = rw (c.in-Some.ensures.entries, c.empty.ensures) (table_dropped c.args.g (new_object File) c.args.objects.now.items c.args.places.now.entries c.in-Some.place c.requires c.in-Some.ensures.value)

pub returns-in-Some-clause-apart : goal.returns-in-Some-clause-apart
returns-in-Some-clause-apart c = rw (c.in-Some.ensures.entries, c.empty.ensures) (apart_dropped c.args.g (new_object File) c.args.objects.now.items c.args.places.now.entries c.in-Some.place c.requires)

pub returns-in-None-clause-table : goal.returns-in-None-clause-table
returns-in-None-clause-table c = rw c.remove.ensures.entries (table-remove c.args.g c.args.objects.now.items c.args.places.now.entries)

pub returns-in-None-clause-apart : goal.returns-in-None-clause-apart
returns-in-None-clause-apart c = rw c.remove.ensures.entries (apart-remove _ c.args.g c.args.places.now.entries c.requires)
