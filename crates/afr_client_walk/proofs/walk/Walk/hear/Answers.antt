use Rattle.std.proofs.Common.{refl}
use Rattle.afr_lines.specs.Told.{told_by}
use Rattle.afr_client_walk.specs.Choosing.{reader_of}
use Rattle.afr_client_walk.specs.Walk.{next_in}
use Rattle.afr_client_walk.proofs.WalkLemmas.{answers_noted, asks_free, heard_is}
use Rattle.afr_client_walk.proofs.walk.Walk.hear.Goals as goal

pub returns : goal.returns
returns g c = record {
  picked = answers_noted g.G.Fn c.args.rule.now c.args.self.now c.note.new.self c.args.answer.now (next_in c.args.self.now) (told_by c.args.answer.now) c.args.at c.go_on.result
      (c.note.ensures.value (next_in c.args.self.now) (told_by c.args.answer.now) c.args.at (asks_free c.args.self.now c.requires.walk c.requires.walking).0) c.go_on.ensures.picked;
  value = heard_is (reader_of c.go_on.result) c.args.self.now c.note.new.self c.go_on.new.self c.args.answer.now (told_by c.args.answer.now) (next_in c.args.self.now) c.args.at refl refl
      (c.note.ensures.value (next_in c.args.self.now) (told_by c.args.answer.now) c.args.at (asks_free c.args.self.now c.requires.walk c.requires.walking).0) c.go_on.ensures.value;
  kept = c.go_on.ensures.kept;
}
