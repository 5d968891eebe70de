-- What was written of a run, the text that was cut off, and what a source that tells its bytes is answered with.
use Rattle.std.proofs.Common.{ap, sym, refl, ◌∙◌, inl, inr, arith}
use Rattle.afr_volume.proofs.PlainLemmas.{plain_right}
use Rattle.afr_volume.specs.State.{State}
use Rattle.afr_words.specs.declared.form.Form.TheVariants as kind
use Rattle.afr_words.proofs.FormLemmas.{refused_is_no_check, untold}
use Rattle.afr_cli.proofs.CheckLemmas.{answers, refuses_part}
use Rattle.afr_cli.proofs.FormLemmas.{is_load, no_replay, plan_is_spelled, reading_is_not, reads_too, replay_is, replay_or_not}
use Rattle.afr_cli.proofs.ReplayLemmas.{no_status, not_ended, refuses_image, replays}
use Rattle.afr_cli.proofs.StatusLemmas.{nothing_ordered, other_status, planned_or_none, reports, stops_at_usage}
use Rattle.afr_cli.proofs.ToldLemmas.{refuses, runs}
use Rattle.afr_cli.proofs.program.afr_top.Goals.{in-Ok-Some, in-Ok-None, in-Err}
use Rattle.afr_cli.proofs.program.afr_top.Goals as goal

pub serve-status-requires-clause-asked : goal.serve-status-requires-clause-asked
serve-status-requires-clause-asked g c = (c.args.words.now, c.in-Ok-Some.ensures.some c.in-Ok-Some.form cc)

pub returns-clause-ok : goal.returns-clause-ok
returns-clause-ok g c = elim c.match-form_of.branch [
  | in-Ok-Some w ↦ λ e other. let ran = w.serve-status.ensures.ok (sym w.status-is ∙ e) in
      rw (w.source-is, w.sink-is, w.volume-is) (reports _ _ _ _ _ _ _ (w.in-Ok-Some.ensures.some w.in-Ok-Some.form cc) ran.0 ran.1, ran.2, ran.3)
  | in-Ok-None w ↦ λ e other. absurd (other_status _ _ 0 _ w.answer-status.ensures.whole (λ h. cc) (λ h. cc) (sym w.status-is ∙ e))
  | in-Err w ↦ λ e other. absurd (omega (arith, w.status-is, e))
]

pub returns-clause-unfinished : goal.returns-clause-unfinished
returns-clause-unfinished g c = elim c.match-form_of.branch [
  | in-Ok-Some w ↦ λ e. let ran = w.serve-status.ensures.unfinished (sym w.status-is ∙ e) in
      rw (w.source-is, w.sink-is, w.volume-is) (reports _ _ _ _ _ _ _ (w.in-Ok-Some.ensures.some w.in-Ok-Some.form cc) ran.0 ran.1, ran.2, ran.3)
  | in-Ok-None w ↦ λ e. absurd (other_status _ _ 7 _ w.answer-status.ensures.whole (λ h. cc) (λ h. cc) (sym w.status-is ∙ e))
  | in-Err w ↦ λ e. absurd (omega (arith, w.status-is, e))
]

pub returns-clause-short : goal.returns-clause-short
returns-clause-short g c = elim c.match-form_of.branch [
  | in-Ok-Some w ↦ λ e none. rw w.volume-is (w.serve-status.ensures.short (sym w.status-is ∙ e) (no_replay c.args.words.now _ (w.in-Ok-Some.ensures.some w.in-Ok-Some.form cc) none))
  | in-Ok-None w ↦ λ e none. absurd (other_status _ _ 7 _ w.answer-status.ensures.whole (λ h. cc) (λ h. cc) (sym w.status-is ∙ e))
  | in-Err w ↦ λ e none. absurd (omega (arith, w.status-is, e))
]

pub returns-clause-write : goal.returns-clause-write
returns-clause-write g c = elim c.match-form_of.branch [
  | in-Ok-Some w ↦ λ e. let cut = w.serve-status.ensures.write (sym w.status-is ∙ e) in
      rw (w.source-is, w.sink-is, w.volume-is) (cut.0, cut.1 c.args.words.now (w.in-Ok-Some.ensures.some w.in-Ok-Some.form cc))
  | in-Ok-None w ↦ λ e. let cut = w.answer-status.ensures.fault (sym w.status-is ∙ e) in
      rw w.sink-is (cut.0, stops_at_usage c.args.words.now _ _ _ _ _ _ (w.in-Ok-None.ensures.none cc) (untold _ c.is_check.ensures.1 c.if-is_check.false) w.source-is (w.volume-is ∙ c.requires.fresh) cut.1)
  | in-Err w ↦ λ e. absurd (omega (arith, w.status-is, e))
]

pub returns-clause-generated : goal.returns-clause-generated
returns-clause-generated g c = λ n. elim c.match-form_of.branch [
  | in-Ok-Some w ↦ λ load. let (m, is) = is_load c.args.words.now n _ load (w.in-Ok-Some.ensures.some w.in-Ok-Some.form cc) in
      rw (w.source-is, w.status-is) (w.serve-status.ensures.generated m is)
  | in-Ok-None w ↦ let none = w.in-Ok-None.ensures.none cc in λ load. (w.source-is, inr (inr (absurd (none (kind.Gen n, load)))))
  | in-Err w ↦ λ load. (w.source-is, inr (inr w.status-is))
]

pub returns-clause-faulty : goal.returns-clause-faulty
returns-clause-faulty g c = λ bytes fault. elim c.match-form_of.branch [
  | in-Ok-Some w ↦ λ given wrong. let r = w.serve-status.ensures in
      let reading = reads_too c.args.words.now _ given.asked.form (w.in-Ok-Some.ensures.some w.in-Ok-Some.form cc) given.asked.asked given.asked.reading in
      rw (w.status-is, w.sink-is) (refuses bytes _ _ _ _ _ _ given.told fault wrong (r.others (reading_is_not _ reading)) (λ e. plan_is_spelled _ _ _ _ reading (r.ok e).0) (λ e. (r.refused e).0) (λ e. given.sound (rw w.source-is (r.read e).0)) (λ e. plan_is_spelled _ _ _ _ reading (r.unfinished e).0))
  | in-Ok-None w ↦ let none = w.in-Ok-None.ensures.none cc in λ given wrong. inr (inr (absurd (none (given.asked.form, given.asked.asked))))
  | in-Err w ↦ λ given wrong. inr (inr w.status-is)
]

pub returns-clause-spelled : goal.returns-clause-spelled
returns-clause-spelled g c = λ bytes plan. elim c.match-form_of.branch [
  | in-Ok-Some w ↦ λ given few spells. let r = w.serve-status.ensures in
      let reading = reads_too c.args.words.now _ given.asked.form (w.in-Ok-Some.ensures.some w.in-Ok-Some.form cc) given.asked.asked given.asked.reading in
      rw w.status-is (runs bytes _ _ _ _ _ plan given.told plan few spells (r.others (reading_is_not _ reading)) (λ e. (r.refused e).0) (λ e. given.sound (rw w.source-is (r.read e).0)))
  | in-Ok-None w ↦ let none = w.in-Ok-None.ensures.none cc in λ given few spells. inr (inr (inr (absurd (none (given.asked.form, given.asked.asked)))))
  | in-Err w ↦ λ given few spells. inr (inr (inr w.status-is))
]

pub returns-clause-plan : goal.returns-clause-plan
returns-clause-plan g c = elim c.match-form_of.branch [
  | in-Ok-Some w ↦ rw (w.source-is, w.volume-is) (planned_or_none c.args.words.now _ _ _ _ (w.in-Ok-Some.ensures.some w.in-Ok-Some.form cc) w.serve-status.ensures.plan)
  | in-Ok-None w ↦ inl (w.volume-is ∙ c.requires.fresh)
  | in-Err w ↦ inl (w.volume-is ∙ c.requires.fresh)
]

pub returns-clause-ordered : goal.returns-clause-ordered
returns-clause-ordered g c = elim c.match-form_of.branch [
  | in-Ok-Some w ↦ λ none. rw w.volume-is (w.serve-status.ensures.ordered (no_replay c.args.words.now _ (w.in-Ok-Some.ensures.some w.in-Ok-Some.form cc) none))
  | in-Ok-None w ↦ λ none. nothing_ordered _ (w.volume-is ∙ c.requires.fresh)
  | in-Err w ↦ λ none. nothing_ordered _ (w.volume-is ∙ c.requires.fresh)
]

pub returns-clause-repeats : goal.returns-clause-repeats
returns-clause-repeats g c = λ turns. elim c.match-form_of.branch [
  | in-Ok-Some w ↦ λ replay ended. let is = replay_is c.args.words.now turns _ replay (w.in-Ok-Some.ensures.some w.in-Ok-Some.form cc) in
      rw (w.source-is, w.volume-is) (w.serve-status.ensures.repeats turns is (rw w.status-is at ended))
  | in-Ok-None w ↦ let none = w.in-Ok-None.ensures.none cc in λ replay ended. absurd (none (kind.Replay turns, replay))
  | in-Err w ↦ λ replay ended. absurd (not_ended _ w.status-is ended)
]

pub returns-clause-image : goal.returns-clause-image
returns-clause-image g c = elim c.match-form_of.branch [
  | in-Ok-Some w ↦ λ e. let nine = sym w.status-is ∙ e in let r = w.serve-status.ensures in elim (replay_or_not w.in-Ok-Some.form) [
    | inl (turns, is) ↦ let refused = r.image turns is nine in
        rw (w.source-is, w.sink-is, w.volume-is) (turns, rw is at (w.in-Ok-Some.ensures.some w.in-Ok-Some.form cc), refused.0, refused.1)
    | inr other ↦ absurd (no_status _ 9 (inl refl) (r.others other) nine)
  ]
  | in-Ok-None w ↦ λ e. absurd (other_status _ _ 9 _ w.answer-status.ensures.whole (λ h. cc) (λ h. cc) (sym w.status-is ∙ e))
  | in-Err w ↦ λ e. absurd (omega (arith, w.status-is, e))
]

pub returns-clause-differs : goal.returns-clause-differs
returns-clause-differs g c = elim c.match-form_of.branch [
  | in-Ok-Some w ↦ λ e. let ten = sym w.status-is ∙ e in let r = w.serve-status.ensures in elim (replay_or_not w.in-Ok-Some.form) [
    | inl (turns, is) ↦ rw (w.source-is, w.sink-is, w.volume-is) (turns, rw is at (w.in-Ok-Some.ensures.some w.in-Ok-Some.form cc), r.differs turns is ten)
    | inr other ↦ absurd (no_status _ 10 (inr refl) (r.others other) ten)
  ]
  | in-Ok-None w ↦ λ e. absurd (other_status _ _ 10 _ w.answer-status.ensures.whole (λ h. cc) (λ h. cc) (sym w.status-is ∙ e))
  | in-Err w ↦ λ e. absurd (omega (arith, w.status-is, e))
]

pub returns-clause-replay : goal.returns-clause-replay
returns-clause-replay g c = elim c.match-form_of.branch [
  | in-Ok-Some w ↦ λ replay. let is = replay_is c.args.words.now replay.0 _ replay.1 (w.in-Ok-Some.ensures.some w.in-Ok-Some.form cc) in
      rw w.status-is (w.serve-status.ensures.replay replay.0 is)
  | in-Ok-None w ↦ let none = w.in-Ok-None.ensures.none cc in λ replay. absurd (none (kind.Replay replay.0, replay.1))
  | in-Err w ↦ λ replay. inr (inr (inr (inl w.status-is)))
]

pub returns-clause-faulty_image : goal.returns-clause-faulty_image
returns-clause-faulty_image g c = λ turns bytes fault. elim c.match-form_of.branch [
  | in-Ok-Some w ↦ λ given wrong. let r = w.serve-status.ensures in
      let is = replay_is c.args.words.now turns _ given.asked (w.in-Ok-Some.ensures.some w.in-Ok-Some.form cc) in
      rw (w.status-is, w.sink-is) (refuses_image turns bytes _ _ _ _ _ _ given.told fault wrong (r.replay turns is) (r.repeats turns is) (λ four. given.sound (rw w.source-is (r.read four).0)) (λ nine. (r.image turns is nine).0) (r.differs turns is))
  | in-Ok-None w ↦ let none = w.in-Ok-None.ensures.none cc in λ given wrong. absurd (none (kind.Replay turns, given.asked))
  | in-Err w ↦ λ given wrong. inr (inr w.status-is)
]

pub returns-clause-imaged : goal.returns-clause-imaged
returns-clause-imaged g c = λ turns bytes image. elim c.match-form_of.branch [
  | in-Ok-Some w ↦ λ given few spelled. let r = w.serve-status.ensures in
      let is = replay_is c.args.words.now turns _ given.asked (w.in-Ok-Some.ensures.some w.in-Ok-Some.form cc) in
      rw w.status-is (replays turns bytes _ _ _ _ _ w.serve-status.new.volume given.told image few spelled (r.replay turns is) (λ four. given.sound (rw w.source-is (r.read four).0)) (λ nine. (r.image turns is nine).0))
  | in-Ok-None w ↦ let none = w.in-Ok-None.ensures.none cc in λ given few spelled. absurd (none (kind.Replay turns, given.asked))
  | in-Err w ↦ λ given few spelled. inr (inr (inr (inr w.status-is)))
]

pub returns-clause-plain : goal.returns-clause-plain
returns-clause-plain g c = elim c.match-form_of.branch [
  | in-Ok-Some w ↦ rw w.volume-is w.serve-status.ensures.plain
  | in-Ok-None w ↦ ap (λ (s : State). s.crawl) (w.volume-is ∙ c.requires.fresh)
  | in-Err w ↦ ap (λ (s : State). s.crawl) (w.volume-is ∙ c.requires.fresh)
]

pub returns-clause-right : goal.returns-clause-right
returns-clause-right g c = plain_right c.match-form_of.volume (returns-clause-plain g c) c.every_line-2.ensures.right

-- ---- the words ask for a check
pub returns-then-is_check-clause-faulty_part : goal.returns-then-is_check-clause-faulty_part
returns-then-is_check-clause-faulty_part g c = λ bytes fault given wrong. let r = c.read_and_check-status.ensures in
    refuses_part bytes _ _ _ _ _ given.told r.checked (λ four. given.sound (r.read four).0) r.refused fault wrong r.few

pub returns-then-is_check-clause-traced : goal.returns-then-is_check-clause-traced
returns-then-is_check-clause-traced g c = λ bytes plan trace given few h. let r = c.read_and_check-status.ensures in
    answers bytes _ _ _ _ _ given.told r.checked (λ four. given.sound (r.read four).0) r.refused plan trace few h r.few

pub returns-then-is_check-clause-others : goal.returns-then-is_check-clause-others
returns-then-is_check-clause-others g c = let check = c.is_check.ensures.0 c.if-is_check.true in
    (λ no_form unchecked. absurd (unchecked check), λ refused. absurd (refused_is_no_check c.args.words.now refused check))
