use Rattle.std.proofs.Common.{◌-◌, vec_len}
use Rattle.afr_brick.proofs.ShortcutsLemmas.{filled_if}
use Rattle.afr_brick.proofs.shortcuts.fill.Goals as goal

pub returns : goal.returns
returns c = rw c.resize.ensures.items (filled_if _ 256 (256 - vec_len c.args.others.now) c.args.g c.args.place c.args.others.now.items)
