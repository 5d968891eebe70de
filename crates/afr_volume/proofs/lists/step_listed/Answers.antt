-- The line that was made is the one that is noted.
use Rattle.std.proofs.Common.{◌∙◌, ap}
use Rattle.afr_volume.proofs.LogLemmas.{newest_at}
use Rattle.afr_volume.specs.Lists.{noted}
use Rattle.afr_volume.proofs.lists.step_listed.Goals as goal

pub returns-clause-ok : goal.returns-clause-ok
returns-clause-ok g c =
    let adds = c.in_ok-step_healer.ensures.ok in
    record {
      line = adds.line;
      added = adds.added;
      is_so = (
        adds.is_so,
        record {
          shown = c.in_ok-shown.shown;
          value = c.note_list.ensures adds.line (newest_at c.args.log.now.items c.step_healer.new.log.items adds.line c.args.position adds.added c.requires.position) ∙ ap (noted c.in_ok-shown.shown adds.line) c.coming_list.ensures.items;
          none = c.in_ok-shown.ensures.none;
          shows = c.in_ok-shown.ensures.shows;
        },
      );
    }
