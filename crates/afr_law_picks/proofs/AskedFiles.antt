-- What the rule is asked for by a read, a write, a cut or a setattr is what its lines say.
use Rattle.std.proofs.Common.{◌≡◌, ◌∙◌, ℕ, ◌<◌, ◌≤◌, nat_lt, Bool, true, false, List, [], ◌∷◌, Option, None, Some, refl, sym, ap, subst, arith, length}
use Rattle.afr_base.specs.Bricks.{added, lowest}
use Rattle.afr_base.specs.declared.ids.ActorId.{ActorId}
use Rattle.afr_base.specs.declared.ids.BrickId.{BrickId}
use Rattle.afr_base.specs.declared.ids.Gfid.{Gfid}
use Rattle.afr_base.specs.declared.ids.Kind.{Kind}
use Rattle.afr_base.specs.declared.ids.NameId.{NameId}
use Rattle.afr_base.specs.declared.ids.Shape.{Shape}
use Rattle.afr_base.proofs.TestLemmas.{not_below_itself}
use Rattle.afr_client_read.specs.Job.{kind_of, request_of}
use Rattle.afr_client_read.specs.Lookup as lookup
use Rattle.afr_client_read.specs.Lookup.{IsLookup, Lookup, is_asking}
use Rattle.afr_client_read.specs.declared.job.Wanted.{Wanted}
use Rattle.afr_client_read.specs.declared.job.Wanted.TheVariants as content
use Rattle.afr_client_read.specs.declared.job.LookupJob.{LookupJob}
use Rattle.afr_client_read.specs.declared.job.LookupJob.TheVariants.{GetAttr, Ls, Read, Stat}
use Rattle.afr_client_read.specs.declared.stage.LookupStage.{LookupStage}
use Rattle.afr_client_read.specs.declared.stage.LookupStage.TheVariants as reading
use Rattle.afr_law_client.proofs.Read.LookHeard.{LookTells, look_known, look_line}
use Rattle.afr_law_client.proofs.Read.ReadsTell.{large_none, path_is, refusal_looks, whole_of}
use Rattle.afr_law_client.proofs.Read.Walking.{place_whole, steps_whole}
use Rattle.afr_law_client.specs.Read.ReadTelling.{ReadTells, TellsIn, command_of}
use Rattle.afr_client_write.specs.Write as write
use Rattle.afr_client_write.specs.Write.{IsWrite, Write}
use Rattle.afr_client_write.specs.declared.stage.WriteStage.{WriteStage}
use Rattle.afr_client_write.specs.declared.stage.WriteStage.TheVariants as writing
use Rattle.afr_lines.specs.Told.{told_by}
use Rattle.afr_lines.specs.Work.{Work}
use Rattle.afr_lines.specs.declared.answer.Answer.{Answer}
use Rattle.afr_lines.specs.declared.answer.Told.{Told}
use Rattle.afr_lines.specs.declared.line.Line.{Line}
use Rattle.afr_lines.specs.declared.line.Line.TheVariants.{Ask}
use Rattle.afr_lines.specs.declared.line.Next.TheVariants as next
use Rattle.afr_lines.specs.declared.request.Request.{Request}
use Rattle.afr_lines.specs.declared.request.Request.TheVariants as request
use Rattle.afr_model.specs.Chosen.{Picks}
use Rattle.afr_model.specs.Commands.{change_on, is_on_name, path_of, steps_of}
use Rattle.afr_model.specs.Refusals.{too_large}
use Rattle.afr_model.specs.Showing.{Path, At, path_by}
use Rattle.afr_object.specs.declared.change.Change.{Change}
use Rattle.afr_object.specs.declared.entry.Entry.{Entry}
use Rattle.afr_plan.specs.declared.command.Command.{Command}
use Rattle.afr_plan.specs.declared.plan.Plan.{Plan}
use Rattle.afr_law_picks.proofs.Asked.{AsksAs, StepAsked, WalksFor, looks_ask, walk_asks}
use Rattle.afr_law_picks.proofs.Asks.{ask_same}
use Rattle.afr_law_picks.proofs.Read.{kind_shown}
use Rattle.afr_law_picks.specs.Picked.{PickedRead, PickedStep, PickedWrite}
use Rattle.afr_law_picks.specs.Readings.{asked_at, kind_here}
use Rattle.afr_client_transaction.proofs.Parts.{lt_test}
use Rattle.afr_client_walk.specs.Choosing.{choices_after}
use Rattle.afr_client_walk.specs.Looks.{IsLooks, heard_look, left_to_look}
use Rattle.afr_client_walk.specs.Walk.{choices_of, next_in}
use Rattle.afr_client_walk.specs.declared.looks.Looks.{Looks}
use Rattle.afr_client_walk.specs.declared.walk.Walk.{Walk}
use Rattle.afr_client_walk.specs.declared.walk.WalkStep.{WalkStep}
use Rattle.afr_client_walk.specs.declared.walk.WalkStep.TheVariants.{Arrived, Looking, Naming, Stopped}
use Rattle.afr_law_client.specs.Write.WriteTelling as write_telling
use Rattle.afr_law_client.specs.Write.WriteTelling.{WriteTells}

-- ---- a walk
-- a command whose whole path is walked
pub walks_whole : (p : Plan) (c : Command) (w : Walk) (lines : Work) → is_on_name c ≡ false → too_large c ≡ None → w.path ≡ path_of c → WalksFor p c w lines
walks_whole p c w lines whole small path = record {
  small = small;
  steps = λ l. lt_test w.read (steps_of c) (subst (λ (n : ℕ). w.read < n) (sym (steps_whole c whole)) (subst (λ (x : List NameId). w.read < length x) path l));
  names = λ l. lt_test w.read (length (path_of c)) (subst (λ (x : List NameId). w.read < length x) path l);
  place = λ line log l now was. place_whole p c ((line, log) ∷ lines) whole ∙ now;
}

-- a walk that looks has asked those that its lines have
pub step_asked : (picks : Picks) (p : Plan) (step : WalkStep) (g : Gfid) (lines : Work) → PickedStep picks p step g lines → StepAsked step lines
step_asked picks p (Looking s) g lines k = k
step_asked picks p (Naming b) g lines k = tt
step_asked picks p Arrived g lines k = tt
step_asked picks p (Stopped why) g lines k = tt

-- ---- a read
-- a good copy of what is read is one of the job's kind
kind_at : (job : LookupJob) (path : List NameId) (read : ℕ) (object : Entry) → read ≡ length path → kind_here (command_of job path) (At read object) ≡ Some (kind_of job object.what)
kind_at job path read object e =
    ap (λ (n : ℕ). kind_here (command_of job path) (At n object)) e ∙ by job
  where
    test : nat_lt (length path) (length path) ≡ false
    test = not_below_itself (length path)

    by : (job : LookupJob) → kind_here (command_of job path) (At (length path) object) ≡ Some (kind_of job object.what)
    by (Read at len) = rw test refl
    by (GetAttr key) = rw test refl
    by Ls = rw test refl
    by Stat = (rw test refl) ∙ ap (λ (x : Kind). Some x) (kind_shown path object.what)

no_look : (p : Plan) (c : Command) (g : Gfid) (of : Wanted) (more : Work) → AsksAs p c (request_of g of) more []
no_look p c g (content.Bytes at len) more = refl
no_look p c g (content.Value key) more = refl
no_look p c g content.Names more = refl

pub read_asks : (picks : Picks) (p : Plan) (m : Lookup) (lines : Work) (a : ActorId) (heard : Answer) (took : Bool) (log : List Line) → IsLookup m.walk m.stage → is_asking m.stage ≡ true → ReadTells p m lines → PickedRead picks p m.job m.stage m.walk lines
    → AsksAs p (command_of m.job m.walk.path) (lookup.asked_at m.stage m.walk).1 ((Ask a (lookup.asked_at m.stage m.walk).0 (lookup.asked_at m.stage m.walk).1 (told_by heard) took, log) ∷ lines) (lookup.choices_of heard m)
read_asks picks p m lines a heard took log sound asks k was = by m.stage asks sound.ready k.stage was
  where
    c : Command
    c = command_of m.job m.walk.path

    few : p.shape.n ≤ 5
    few = subst (λ (x : Shape). x.n ≤ 5) k.shape sound.sound.few

    by : (stage : LookupStage) → is_asking stage ≡ true → lookup.IsStage m.walk.shape.n m.walk.step stage → TellsIn p m.job stage m.walk lines → PickedRead picks p m.job stage m.walk lines
        → AsksAs p (command_of m.job m.walk.path) (lookup.asked_at stage m.walk).1 ((Ask a (lookup.asked_at stage m.walk).0 (lookup.asked_at stage m.walk).1 (told_by heard) took, log) ∷ lines) (lookup.choices_at stage heard m.job m.walk)
    by reading.Walking h i t was =
        walk_asks p (command_of m.job m.walk.path) (command_of m.job m.walk.path) m.walk lines a heard took log sound.sound i t
        (walks_whole p (command_of m.job m.walk.path) m.walk lines (whole_of m.job m.walk.path) (large_none m.job m.walk.path) (sym (path_is m.job m.walk.path)))
        (step_asked picks p m.walk.step m.walk.object.gfid lines was)
    by (reading.Looking s) h i (there, agree, but) was =
        subst (λ (x : Shape). AsksAs p (command_of m.job m.walk.path) (request.Look m.walk.object.gfid) ((Ask a (record { 0 = lowest (left_to_look x.n s) }) (request.Look m.walk.object.gfid) (told_by heard) took, log) ∷ lines)
        (choices_after x (kind_of m.job m.walk.object.what) (heard_look x.n (told_by heard) s))) (sym k.shape)
        (looks_ask p (command_of m.job m.walk.path) m.walk.read m.walk.object after more (kind_of m.job m.walk.object.what) known (ap (added (lowest (left_to_look p.shape.n s))) was) (kind_at m.job m.walk.path m.walk.read m.walk.object there.whole)
        (refusal_looks p few m.job m.walk.path m.walk.read m.walk.object more (record { goes = known.goes; whole = there.whole; suited = there.suited })))
      where
        after : Looks
        after = heard_look p.shape.n (told_by heard) s

        more : Work
        more = look_line p m.walk.object a took log s (told_by heard) lines

        known : LookTells p m.walk.read m.walk.object after more
        known = look_known p few m.walk.read m.walk.object lines a took log s (told_by heard) (subst (λ (x : Shape). IsLooks x.n s) k.shape i) there.goes agree but
    by (reading.Reading b of) h i t was = no_look p (command_of m.job m.walk.path) m.walk.object.gfid of ((Ask a b (request_of m.walk.object.gfid of) (told_by heard) took, log) ∷ lines)
    by (reading.Ending said) h i t was = absurd (cc h)

-- ---- a write, a cut or a setattr
-- its looks at its object ask for nothing
change_asks : (p : Plan) (c : Command) (object : Entry) (change : Change) (lines : Work) (a : ActorId) (b : BrickId) (asked : Request) (told : Told) (took : Bool) (log : List Line) → path_by p lines ≡ At (length (path_of c)) object → change_on object.gfid c ≡ Some change
    → AsksAs p c asked ((Ask a b asked told took, log) ∷ lines) []
change_asks p c object change lines a b (request.Look g) told took log led named =
    ap (λ (x : Path). asked_at p c g (kind_here c x) ((Ask a b (request.Look g) told took, log) ∷ lines)) led
    ∙ ap (λ (x : Option Kind). asked_at p c g x ((Ask a b (request.Look g) told took, log) ∷ lines)) none
  where
    none : kind_here c (At (length (path_of c)) object) ≡ None
    none = rw (not_below_itself (length (path_of c)), named) refl
change_asks p c object change lines a b asked told took log led named = refl

pub write_asks : (picks : Picks) (p : Plan) (c : Command) (m : Write) (lines : Work) (a : ActorId) (b : BrickId) (asked : Request) (heard : Answer) (took : Bool) (log : List Line) (at : ℕ) → IsWrite m.walk m.stage → WriteTells p c m lines
    → write.next_of at m ≡ next.Ask b asked → PickedWrite picks p m.stage m.walk lines → AsksAs p c asked ((Ask a b asked (told_by heard) took, log) ∷ lines) (write.choices_at m.stage heard m.walk)
write_asks picks p c m lines a b asked heard took log at sound k e was = by m.stage sound.ready k.stage e was
  where
    by : (stage : WriteStage) → write.IsStage m.walk stage → write_telling.TellsIn p c stage m.walk lines → write.next_at at stage m.walk ≡ next.Ask b asked → PickedWrite picks p stage m.walk lines
        → AsksAs p c asked ((Ask a b asked (told_by heard) took, log) ∷ lines) (write.choices_at stage heard m.walk)
    by (writing.Walking job) i t e was =
        ask_same (λ x r. AsksAs p c r ((Ask a x r (told_by heard) took, log) ∷ lines) (choices_of heard m.walk)) (next_in m.walk).0 b (next_in m.walk).1 asked e
        (walk_asks p c c m.walk lines a heard took log sound.sound i.0 t.tells (walks_whole p c m.walk lines t.tells.whole t.small t.tells.path) (step_asked picks p m.walk.step m.walk.object.gfid lines was))
    by (writing.Changing t) i k e was = change_asks p c m.walk.object t.change lines a b asked (told_by heard) took log k.led.led k.words.named
    by (writing.Ending said) i k e was = absurd (cc e)
