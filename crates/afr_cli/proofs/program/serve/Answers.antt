-- The plan of the form that was served, and its text that was cut off.
use Rattle.std.proofs.Common.{◌≡◌, inl, inr, refl, true}
use Rattle.afr_cli.proofs.LoadLemmas.{not_full}
use Rattle.afr_cli.specs.Forms.{is_replay}
use Rattle.afr_cli.proofs.ReplayLemmas.{form_plan, form_plan_or_none, form_text}
use Rattle.afr_cli.proofs.StatusLemmas.{stops_at_summary}
use Rattle.afr_cli.proofs.program.serve.Goals as goal

pub returns-in-Gen-clause-write : goal.returns-in-Gen-clause-write
returns-in-Gen-clause-write g c = λ e. let cut = c.make_and_run.ensures.write e in (
  cut.0,
  λ words asked. stops_at_summary words _ _ _ _ _ _ _ c.in-Gen.n c.in-Gen.is asked (c.make_and_run.ensures.ran (λ h. cc)) cut.2 cut.3 cut.1,
)

pub returns-in-Gen-clause-unfinished : goal.returns-in-Gen-clause-unfinished
returns-in-Gen-clause-unfinished g c = λ e. absurd (not_full _ c.make_and_run.ensures.few e)

pub returns-in-Gen-clause-short : goal.returns-in-Gen-clause-short
returns-in-Gen-clause-short g c = λ e plain. absurd (not_full _ c.make_and_run.ensures.few e)

pub returns-in-Replay-clause-ok : goal.returns-in-Replay-clause-ok
returns-in-Replay-clause-ok g c = λ e. let r = c.read_and_replay.ensures.ok e in
    (form_plan _ c.in-Replay.is (c.read_and_replay.ensures.repeats (inl e)), form_text _ _ _ _ _ _ c.in-Replay.is r.0, r.1, r.2)

pub returns-in-Replay-clause-unfinished : goal.returns-in-Replay-clause-unfinished
returns-in-Replay-clause-unfinished g c = λ e. let r = c.read_and_replay.ensures.unfinished e in
    (form_plan _ c.in-Replay.is (c.read_and_replay.ensures.repeats (inr e)), form_text _ _ _ _ _ _ c.in-Replay.is r.0, r.1, r.2)

pub returns-in-Replay-clause-write : goal.returns-in-Replay-clause-write
returns-in-Replay-clause-write g c = λ e. let cut = c.read_and_replay.ensures.write e in (cut.0, λ words asked. cut.1 words (rw c.in-Replay.is at asked))

pub returns-in-Replay-clause-plan : goal.returns-in-Replay-clause-plan
returns-in-Replay-clause-plan g c = form_plan_or_none _ c.in-Replay.is c.read_and_replay.ensures.plan

pub returns-in-Replay-clause-repeats : goal.returns-in-Replay-clause-repeats
returns-in-Replay-clause-repeats g c = λ turns is ended. let same : c.in-Replay.turns ≡ turns = cc in rw same at (c.read_and_replay.ensures.repeats ended)

pub returns-in-Replay-clause-image : goal.returns-in-Replay-clause-image
returns-in-Replay-clause-image g c = λ turns is nine. let same : c.in-Replay.turns ≡ turns = cc in rw same at (c.read_and_replay.ensures.refused nine)

pub returns-in-Replay-clause-differs : goal.returns-in-Replay-clause-differs
returns-in-Replay-clause-differs g c = λ turns is ten. let same : c.in-Replay.turns ≡ turns = cc in rw same at (c.read_and_replay.ensures.differs ten)

pub returns-in-Replay-clause-others : goal.returns-in-Replay-clause-others
returns-in-Replay-clause-others g c = λ plain. let yes : is_replay c.args.form ≡ true = rw c.in-Replay.is refl in absurd (cc)

pub returns-in-Replay-clause-short : goal.returns-in-Replay-clause-short
returns-in-Replay-clause-short g c = λ e plain. let yes : is_replay c.args.form ≡ true = rw c.in-Replay.is refl in absurd (cc)

pub returns-in-Replay-clause-ordered : goal.returns-in-Replay-clause-ordered
returns-in-Replay-clause-ordered g c = λ plain. let yes : is_replay c.args.form ≡ true = rw c.in-Replay.is refl in absurd (cc)
