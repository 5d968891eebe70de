-- What was written of a run, the text that was cut off, and what a source that tells its bytes is answered with.
use Rattle.std.proofs.Common.{◌≡◌, ◌∙◌, false, ap, sym, inl}
use Rattle.afr_cli.proofs.EndLemmas.{nothing_eager}
use Rattle.afr_cli.proofs.LiveLemmas.{can_as_asked, crawls_as_asked, leaves_live, live_planned, live_stops_at_usage, refuses_live, reports_live, runs_live}
use Rattle.afr_cli.proofs.RecordLemmas.{ended_has, is_recorded}
use Rattle.afr_cli.proofs.StatusLemmas.{other_status, run_is_spelled}
use Rattle.afr_volume.proofs.PlainLemmas.{plain_right}
use Rattle.afr_volume.specs.State.{State}
use Rattle.afr_cli.proofs.live.afr_live.Goals.{in-Some, in-None}
use Rattle.afr_cli.proofs.live.afr_live.Goals as goal

pub returns-clause-ok : goal.returns-clause-ok
returns-clause-ok g c = elim c.match-live_form_of.branch [
  | in-Some w ↦ λ e. let ran = w.read_and_run-status.ensures.ok (sym w.status-is ∙ e) in
      rw (w.source-is, w.sink-is, w.volume-is) (reports_live _ _ _ _ _ _ _ (w.in-Some.ensures.some w.in-Some.form cc) ran.0 ran.1, ran.2.complete, ran.3)
  | in-None w ↦ λ e. absurd (other_status _ _ 0 _ w.answer-status.ensures.whole (λ h. cc) (λ h. cc) (sym w.status-is ∙ e))
]

pub returns-clause-crawled : goal.returns-clause-crawled
returns-clause-crawled g c = elim c.match-live_form_of.branch [
  | in-Some w ↦ λ e. rw w.volume-is (w.read_and_run-status.ensures.crawled (sym w.status-is ∙ e))
  | in-None w ↦ λ e. absurd (other_status _ _ 0 _ w.answer-status.ensures.whole (λ h. cc) (λ h. cc) (sym w.status-is ∙ e))
]

pub returns-clause-unfinished : goal.returns-clause-unfinished
returns-clause-unfinished g c = elim c.match-live_form_of.branch [
  | in-Some w ↦ λ e. let ran = w.read_and_run-status.ensures.unfinished (sym w.status-is ∙ e) in
      rw (w.source-is, w.sink-is, w.volume-is) (reports_live _ _ _ _ _ _ _ (w.in-Some.ensures.some w.in-Some.form cc) ran.0 ran.1, ran.3, ran.4)
  | in-None w ↦ λ e. absurd (other_status _ _ 7 _ w.answer-status.ensures.whole (λ h. cc) (λ h. cc) (sym w.status-is ∙ e))
]

pub returns-clause-healers : goal.returns-clause-healers
returns-clause-healers g c = elim c.match-live_form_of.branch [
  | in-Some w ↦ λ e. let told = w.read_and_run-status.ensures.healers (sym w.status-is ∙ e) in
      rw (w.source-is, w.sink-is, w.volume-is) (told.0 c.args.words.now (w.in-Some.ensures.some w.in-Some.form cc), told.1)
  | in-None w ↦ λ e. absurd (other_status _ _ 8 _ w.answer-status.ensures.whole (λ h. cc) (λ h. cc) (sym w.status-is ∙ e))
]

pub returns-clause-write : goal.returns-clause-write
returns-clause-write g c = elim c.match-live_form_of.branch [
  | in-Some w ↦ λ e. let cut = w.read_and_run-status.ensures.write (sym w.status-is ∙ e) in
      rw (w.source-is, w.sink-is, w.volume-is) (cut.0, cut.1 c.args.words.now (w.in-Some.ensures.some w.in-Some.form cc))
  | in-None w ↦ let none = w.in-None.ensures.none cc in λ e. let cut = w.answer-status.ensures.fault (sym w.status-is ∙ e) in
      rw w.sink-is (cut.0, live_stops_at_usage c.args.words.now _ _ _ _ _ _ none w.source-is (w.volume-is ∙ c.requires.fresh) cut.1)
]

pub returns-clause-faulty : goal.returns-clause-faulty
returns-clause-faulty g c = λ bytes fault. elim c.match-live_form_of.branch [
  | in-Some w ↦ λ given wrong. let r = w.read_and_run-status.ensures in let asked = w.in-Some.ensures.some w.in-Some.form cc in
      rw (w.status-is, w.sink-is) (refuses_live c.args.words.now bytes _ _ _ _ _ _ given.told fault wrong r.few (λ e. (r.ok e).0) (λ e. (r.refused e).0) (λ e. given.sound (rw w.source-is (r.read e).0)) (λ e. (r.unfinished e).0) (λ e. (r.healers e).0 c.args.words.now asked))
  | in-None w ↦ let none = w.in-None.ensures.none cc in λ given wrong. absurd (none given.asked)
]

pub returns-clause-spelled : goal.returns-clause-spelled
returns-clause-spelled g c = λ bytes plan. elim c.match-live_form_of.branch [
  | in-Some w ↦ λ given few spells can. let r = w.read_and_run-status.ensures in let asked = w.in-Some.ensures.some w.in-Some.form cc in
      rw w.status-is (runs_live c.args.words.now bytes _ _ _ _ _ plan given.told plan few spells can r.few (λ e. (r.refused e).0) (λ e. given.sound (rw w.source-is (r.read e).0)) (λ e. (r.healers e).0 c.args.words.now asked))
  | in-None w ↦ let none = w.in-None.ensures.none cc in λ given few spells can. absurd (none given.asked)
]

pub returns-clause-uncrawled : goal.returns-clause-uncrawled
returns-clause-uncrawled g c = λ bytes plan. elim c.match-live_form_of.branch [
  | in-Some w ↦ λ given few spells crawl cannot. let r = w.read_and_run-status.ensures in let asked = w.in-Some.ensures.some w.in-Some.form cc in
      rw (w.status-is, w.sink-is) (leaves_live c.args.words.now bytes _ _ _ _ _ _ given.told plan few spells cannot r.few
      (λ e. ((r.ok e).0, can_as_asked c.args.words.now w.in-Some.form _ asked crawl (r.ok e).2)) (λ e. (r.refused e).0) (λ e. given.sound (rw w.source-is (r.read e).0))
      (λ e. ((r.unfinished e).0, can_as_asked c.args.words.now w.in-Some.form _ asked crawl (r.unfinished e).2)) (λ e. (r.healers e).0 c.args.words.now asked))
  | in-None w ↦ let none = w.in-None.ensures.none cc in λ given few spells crawl cannot. absurd (none given.asked)
]

pub returns-clause-short : goal.returns-clause-short
returns-clause-short g c = elim c.match-live_form_of.branch [
  | in-Some w ↦ λ e. rw w.volume-is (w.read_and_run-status.ensures.short (sym w.status-is ∙ e))
  | in-None w ↦ λ e. absurd (other_status _ _ 7 _ w.answer-status.ensures.whole (λ h. cc) (λ h. cc) (sym w.status-is ∙ e))
]

pub returns-clause-eager : goal.returns-clause-eager
returns-clause-eager g c = elim c.match-live_form_of.branch [
  | in-Some w ↦ rw w.volume-is w.read_and_run-status.ensures.eager
  | in-None w ↦ λ plain. nothing_eager _ (w.volume-is ∙ c.requires.fresh)
]

pub returns-clause-plan : goal.returns-clause-plan
returns-clause-plan g c = elim c.match-live_form_of.branch [
  | in-Some w ↦ rw (w.source-is, w.volume-is) (live_planned c.args.words.now w.in-Some.form _ _ _ (w.in-Some.ensures.some w.in-Some.form cc) w.read_and_run-status.ensures.plan)
  | in-None w ↦ inl (w.volume-is ∙ c.requires.fresh)
]

pub returns-clause-crawls : goal.returns-clause-crawls
returns-clause-crawls g c = λ form again. elim c.match-live_form_of.branch [
  | in-Some w ↦ rw w.volume-is (crawls_as_asked c.args.words.now w.in-Some.form form _ _ _ (w.in-Some.ensures.some w.in-Some.form cc) again w.read_and_run-status.ensures.plan)
  | in-None w ↦ inl (w.volume-is ∙ c.requires.fresh)
]

pub returns-clause-recorded : goal.returns-clause-recorded
returns-clause-recorded g c = elim c.match-live_form_of.branch [
  | in-Some w ↦ λ ended plain. let r = w.read_and_run-status.ensures in let v = c.every_line.ensures in
      is_recorded _ _ _ _ (run_is_spelled _ _ _ (ended_has _ (λ zero. (r.ok zero).0) (λ seven. (r.unfinished seven).0) (rw w.status-is at ended)) _ (ap (λ (s : State). s.plan) w.volume-is))
      v.few v.clients v.healers v.turns v.room (plain_right c.match-live_form_of.volume plain v.right)
  | in-None w ↦ λ ended. absurd (ended_has _ (λ zero. other_status _ _ 0 _ w.answer-status.ensures.whole (λ h. cc) (λ h. cc) (sym w.status-is ∙ zero))
      (λ seven. other_status _ _ 7 _ w.answer-status.ensures.whole (λ h. cc) (λ h. cc) (sym w.status-is ∙ seven)) ended)
]
