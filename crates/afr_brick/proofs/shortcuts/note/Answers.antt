use Rattle.afr_brick.proofs.ShortcutsLemmas.{replaced}
use Rattle.afr_brick.proofs.shortcuts.note.Goals as goal

pub returns-then-at-len : goal.returns-then-at-len
returns-then-at-len c = replaced c.args.others.now.items c.slot_of-at.result c.args.g c.args.place
