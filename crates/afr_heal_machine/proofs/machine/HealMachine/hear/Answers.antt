use Rattle.std.proofs.Common.{◌≡◌, ◌∙◌, ap, refl, subst, sym}
use Rattle.afr_discipline.specs.Notes.{noted_ask}
use Rattle.afr_lines.specs.Told.{told_by}
use Rattle.afr_lines.specs.declared.answer.Told.{Told}
use Rattle.afr_heal.specs.Engine.{Ask}
use Rattle.afr_heal_machine.proofs.HearLemmas.{heard_allowed, heard_can, heard_fed, heard_outcome, heard_small, heard_source, heard_stays}
use Rattle.afr_heal_machine.specs.Healing.{Healing, IsFed, coming}
use Rattle.afr_heal_machine.proofs.machine.HealMachine.hear.Goals as goal

pub note_answer-requires-clause-small : goal.note_answer-requires-clause-small
note_answer-requires-clause-small g c =
    heard_small c.a_heal_stays_sound.ensures.low (record { gfid = c.self.inside.gfid; kind = c.self.inside.kind; register = c.self.inside.register; source = c.self.inside.source; outcome = c.self.inside.outcome; contents = c.self.inside.contents }) c.self.invariant c.args.brick.0 c.args.request.now
    (subst (λ (m : Healing). coming m ≡ Ask c.args.brick.0 c.args.request.now) (sym c.self.view_is) c.requires.asked)

pub note_answer-requires-clause-allowed : goal.note_answer-requires-clause-allowed
note_answer-requires-clause-allowed g c =
    heard_allowed c.a_heal_stays_sound.ensures.allowed (record { gfid = c.self.inside.gfid; kind = c.self.inside.kind; register = c.self.inside.register; source = c.self.inside.source; outcome = c.self.inside.outcome; contents = c.self.inside.contents }) c.self.invariant c.args.brick c.args.request
    (subst (λ (m : Healing). coming m ≡ Ask c.args.brick.0 c.args.request.now) (sym c.self.view_is) c.requires.asked)

pub source_after-self-inside-requires-clause-found : goal.source_after-self-inside-requires-clause-found
source_after-self-inside-requires-clause-found g c =
    heard_source c.a_heal_stays_sound.ensures.source (record { gfid = c.self.inside.gfid; kind = c.self.inside.kind; register = c.self.inside.register; source = c.self.inside.source; outcome = c.self.inside.outcome; contents = c.self.inside.contents }) c.args.brick.0 c.args.request.now c.args.answer.now c.args.at c.self.invariant
    (subst (λ (m : Healing). coming m ≡ Ask c.args.brick.0 c.args.request.now) (sym c.self.view_is) c.requires.asked)
    (heard_can (record { gfid = c.self.inside.gfid; kind = c.self.inside.kind; register = c.self.inside.register; source = c.self.inside.source; outcome = c.self.inside.outcome; contents = c.self.inside.contents }) c.args.self.now c.self.view_is c.args.answer.now c.requires.can c.args.brick.0 c.args.request.now (subst (λ (m : Healing). coming m ≡ Ask c.args.brick.0 c.args.request.now) (sym c.self.view_is) c.requires.asked))
    c.note_answer.new.register (c.note_answer.ensures.value ∙ ap (λ (told : Told). noted_ask c.self.inside.register c.args.at c.args.brick.0 c.args.request.now told) c.put_told.ensures) c.note_answer.ensures.shape

pub keep-requires : goal.keep-requires
keep-requires g c =
    heard_small c.a_heal_stays_sound.ensures.low (record { gfid = c.self.inside.gfid; kind = c.self.inside.kind; register = c.self.inside.register; source = c.self.inside.source; outcome = c.self.inside.outcome; contents = c.self.inside.contents }) c.self.invariant c.args.brick.0 c.args.request.now
    (subst (λ (m : Healing). coming m ≡ Ask c.args.brick.0 c.args.request.now) (sym c.self.view_is) c.requires.asked)

pub invariant_of-self : goal.invariant_of-self
invariant_of-self g c =
    heard_stays g.F.Fn c.args.rule.now (record { gfid = c.self.inside.gfid; kind = c.self.inside.kind; register = c.self.inside.register; source = c.self.inside.source; outcome = c.self.inside.outcome; contents = c.self.inside.contents }) c.args.brick.0 c.args.request.now c.args.answer.now c.args.at c.note_answer.new.register c.source_after-self-inside.result c.outcome_after-self-inside.result c.keep.new.contents
    (c.note_answer.ensures.value ∙ ap (λ (told : Told). noted_ask c.self.inside.register c.args.at c.args.brick.0 c.args.request.now told) c.put_told.ensures)
    c.note_answer.ensures.shape c.source_after-self-inside.ensures.chosen c.source_after-self-inside.ensures.kept
    (heard_outcome c.self.inside.register c.note_answer.new.register c.self.inside.source.0 c.self.inside.kind c.args.request.now (told_by c.args.answer.now) c.put_told.new.told c.self.inside.outcome c.outcome_after-self-inside.result _ c.present_part-part.result c.note_answer.ensures.shape c.present_part-part.ensures c.put_told.ensures refl c.outcome_after-self-inside.ensures)
    c.keep.ensures
    c.a_heal_stays_sound.ensures.stays c.self.invariant
    (subst (λ (m : Healing). coming m ≡ Ask c.args.brick.0 c.args.request.now) (sym c.self.view_is) c.requires.asked)
    (heard_can (record { gfid = c.self.inside.gfid; kind = c.self.inside.kind; register = c.self.inside.register; source = c.self.inside.source; outcome = c.self.inside.outcome; contents = c.self.inside.contents }) c.args.self.now c.self.view_is c.args.answer.now c.requires.can c.args.brick.0 c.args.request.now (subst (λ (m : Healing). coming m ≡ Ask c.args.brick.0 c.args.request.now) (sym c.self.view_is) c.requires.asked))

pub returns : goal.returns
returns g c =
    subst (λ (m : Healing). IsFed g.F.Fn c.args.rule.now c.args.answer.now c.args.at m (record { gfid = c.self.inside.gfid; kind = c.self.inside.kind; register = c.note_answer.new.register; source = c.source_after-self-inside.result; outcome = c.outcome_after-self-inside.result; contents = c.keep.new.contents })) c.self.view_is
    (heard_fed g.F.Fn c.args.rule.now (record { gfid = c.self.inside.gfid; kind = c.self.inside.kind; register = c.self.inside.register; source = c.self.inside.source; outcome = c.self.inside.outcome; contents = c.self.inside.contents }) c.args.brick.0 c.args.request.now c.args.answer.now c.args.at c.note_answer.new.register c.source_after-self-inside.result c.outcome_after-self-inside.result c.keep.new.contents
    (c.note_answer.ensures.value ∙ ap (λ (told : Told). noted_ask c.self.inside.register c.args.at c.args.brick.0 c.args.request.now told) c.put_told.ensures)
    c.note_answer.ensures.shape c.source_after-self-inside.ensures.chosen c.source_after-self-inside.ensures.kept
    (heard_outcome c.self.inside.register c.note_answer.new.register c.self.inside.source.0 c.self.inside.kind c.args.request.now (told_by c.args.answer.now) c.put_told.new.told c.self.inside.outcome c.outcome_after-self-inside.result _ c.present_part-part.result c.note_answer.ensures.shape c.present_part-part.ensures c.put_told.ensures refl c.outcome_after-self-inside.ensures)
    c.keep.ensures
    (subst (λ (m : Healing). coming m ≡ Ask c.args.brick.0 c.args.request.now) (sym c.self.view_is) c.requires.asked))
