use Rattle.std.proofs.Common.{◌≡◌, refl, sym, subst}
use Rattle.afr_lines.specs.Told.{told_by}
use Rattle.afr_client_walk.specs.Walk.{noted}
use Rattle.afr_client_walk.specs.declared.walk.Walk.{Walk}
use Rattle.afr_client_read.specs.Lookup.{IsLookup, asked_at}
use Rattle.afr_client_read.specs.declared.stage.LookupStage.TheVariants.{Looking}
use Rattle.afr_client_read.proofs.LookupLemmas.{look_kept}
use Rattle.afr_client_read.proofs.stage.look_noted.Goals as goal

pub note-requires : goal.note-requires
note-requires c = c.requires.sound

noted_walk : (c : goal.After-note) → c.note.new.self ≡ noted (asked_at (Looking c.args.looks.now) c.args.walk.now) (told_by c.args.answer.now) c.args.at c.args.walk.now
noted_walk c = c.note.ensures.value (asked_at (Looking c.args.looks.now) c.args.walk.now) (told_by c.args.answer.now) c.args.at refl

pub returns : goal.returns
returns c = record {
  walk = noted_walk c;
  kept = subst (λ (w : Walk). IsLookup w (Looking c.args.looks.now)) (sym (noted_walk c)) (look_kept c.args.walk.now c.args.looks.now c.args.answer.now c.args.at c.requires);
}
