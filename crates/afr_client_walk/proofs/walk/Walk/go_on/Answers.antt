use Rattle.std.proofs.Common.{refl, sym, subst, ◌∙◌}
use Rattle.afr_lines.specs.Told.{told_by}
use Rattle.afr_client_walk.specs.Choosing.{reader_of}
use Rattle.afr_client_walk.specs.Walk.{IsWalk}
use Rattle.afr_client_walk.specs.declared.walk.Walk.{Walk}
use Rattle.afr_client_walk.proofs.ChoosingLemmas.{answers_among}
use Rattle.afr_client_walk.proofs.WalkLemmas.{asked_is, looks_end, looks_on, name_kept}
use Rattle.afr_client_walk.proofs.walk.Walk.go_on.Goals as goal

pub returns-then-not-is_over-clause-kept : goal.returns-then-not-is_over-clause-kept
returns-then-not-is_over-clause-kept g c =
    looks_on c.args.self.now c.in-Looking.looks c.hear.new.self (told_by c.args.answer.now) c.in-Looking.is c.hear.ensures (sym c.is_over.ensures ∙ c.if-not-is_over.true) c.requires.walk

pub returns-else-not-is_over-clause-picked : goal.returns-else-not-is_over-clause-picked
returns-else-not-is_over-clause-picked g c =
    asked_is g.G.Fn c.args.rule.now c.args.self.now c.args.answer.now c.in-Looking.looks c.hear.new.self (told_by c.args.answer.now) c.look_over.result c.in-Looking.is refl c.hear.ensures (c.look_over.ensures.picked _ refl)

pub returns-else-not-is_over-clause-kept : goal.returns-else-not-is_over-clause-kept
returns-else-not-is_over-clause-kept g c =
    looks_end (reader_of c.look_over.result) c.args.self.now c.in-Looking.looks c.hear.new.self (told_by c.args.answer.now) c.look_over.new.step c.in-Looking.is c.hear.ensures (c.look_over.ensures.step _ refl)
    (answers_among g.G.Fn c.args.rule.now _ c.look_over.result (c.look_over.ensures.picked _ refl)) c.requires.walk

pub returns-in-Naming-clause-kept : goal.returns-in-Naming-clause-kept
returns-in-Naming-clause-kept g c = subst (λ (w : Walk). IsWalk w) (sym c.name_heard.ensures) (name_kept c.args.self.now c.in-Naming.field-0 c.args.answer.now c.in-Naming.is c.requires.walk)
