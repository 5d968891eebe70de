use Rattle.std.proofs.Common.{◌≡◌, sym, subst}
use Rattle.afr_lines.specs.Told.{told_by}
use Rattle.afr_lines.specs.declared.reply.Reply.{Reply}
use Rattle.afr_client_walk.specs.Walk.{noted}
use Rattle.afr_client_walk.specs.declared.walk.Walk.{Walk}
use Rattle.afr_client_read.specs.Lookup.{IsLookup, asked_at}
use Rattle.afr_client_read.specs.declared.stage.LookupStage.TheVariants.{Reading, Ending}
use Rattle.afr_client_read.proofs.LookupLemmas.{free_request, read_kept}
use Rattle.afr_client_read.proofs.stage.read_noted.Goals as goal

pub note-requires : goal.note-requires
note-requires c = c.requires.sound

noted_walk : (c : goal.After-note) → c.note.new.self ≡ noted (asked_at (Reading c.args.reader c.args.content) c.args.walk.now) (told_by c.args.answer.now) c.args.at c.args.walk.now
noted_walk c = c.note.ensures.value (asked_at (Reading c.args.reader c.args.content) c.args.walk.now) (told_by c.args.answer.now) c.args.at (free_request c.args.walk.now.object.gfid c.args.content)

pub returns : goal.returns
returns c = record {
  walk = noted_walk c;
  kept = λ (said : Reply). subst (λ (w : Walk). IsLookup w (Ending said)) (sym (noted_walk c))
      (read_kept c.args.walk.now c.args.reader c.args.content c.args.answer.now c.args.at said c.requires);
}
