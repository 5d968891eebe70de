use Rattle.afr_discipline.proofs.FreeLemmas.{noted_free, opened_free}
use Rattle.afr_discipline.proofs.notes.note_free.Goals as goal

pub returns : goal.returns
returns c = record {
  value = λ at b request told h. noted_free c.args.register.now at b request told c.requires h;
  kept = opened_free c.args.register.now c.requires;
}
