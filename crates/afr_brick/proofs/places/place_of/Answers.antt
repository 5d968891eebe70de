use Rattle.std.proofs.Common.{refl}
use Rattle.afr_brick.proofs.PlacesLemmas.{is_place_of, known_at, place_or_none}
use Rattle.afr_brick.proofs.places.place_of.Goals as goal

pub returns-in-Some : goal.returns-in-Some
returns-in-Some c =
    is_place_of c.args.g c.args.objects.now.items c.args.places.now.entries c.args.shortcuts.now c.in-Some.place c.requires
    (known_at c.args.g c.args.objects.now.items c.args.places.now.entries c.args.shortcuts.now c.in-Some.place c.requires (c.in-Some.ensures c.in-Some.place refl))

pub returns-in-None : goal.returns-in-None
returns-in-None c = place_or_none c.args.g c.args.objects.now.items c.args.places.now.entries c.args.shortcuts.now c.searched.result c.requires c.searched.ensures
