-- What the rule is asked for by looks without a lock is what the lines say.
use Rattle.std.proofs.Common.{◌≡◌, ◌∙◌, ℕ, ◌<◌, ◌≤◌, ◌&&◌, nat_lt, not, Bool, true, false, List, [], ◌∷◌, Option, None, Some, refl, sym, ap, subst, length, map, if◌then◌else◌}
use Rattle.std.specs.Prelude.{is_some}
use Rattle.afr_base.specs.Bricks.{added, is_nothing, lowest}
use Rattle.afr_base.specs.declared.ids.ActorId.{ActorId}
use Rattle.afr_base.specs.declared.ids.BrickId.{BrickId}
use Rattle.afr_base.specs.declared.ids.Kind.{Kind}
use Rattle.afr_base.specs.declared.ids.Kind.TheVariants.{Names}
use Rattle.afr_base.specs.declared.ids.NameId.{NameId}
use Rattle.afr_base.specs.declared.ids.Shape.{Shape}
use Rattle.afr_choice.specs.Verdict.{verdict_of}
use Rattle.afr_choice.specs.declared.looked.Looked.{Looked}
use Rattle.afr_choice.specs.declared.verdict.Verdict.{Verdict}
use Rattle.afr_choice.specs.declared.verdict.Verdict.TheVariants.{Bare, Short, Sources, Split}
use Rattle.afr_law_client.proofs.Read.LookHeard.{LookTells, look_known, look_line}
use Rattle.afr_law_client.proofs.Read.Quiet.{locks_none}
use Rattle.afr_law_client.specs.Read.Lines.{is_look}
use Rattle.afr_law_client.specs.Read.WalkTelling.{TellsAt, WalkTells}
use Rattle.afr_lines.specs.Told.{told_by}
use Rattle.afr_lines.specs.Work.{Work}
use Rattle.afr_lines.specs.declared.answer.Answer.{Answer}
use Rattle.afr_lines.specs.declared.answer.Told.{Told}
use Rattle.afr_lines.specs.declared.line.Line.{Line}
use Rattle.afr_lines.specs.declared.line.Line.TheVariants.{Ask}
use Rattle.afr_lines.specs.declared.reply.Reply.{Reply}
use Rattle.afr_lines.specs.declared.request.Request.{Request}
use Rattle.afr_lines.specs.declared.request.Request.TheVariants as request
use Rattle.afr_model.specs.Chosen as model
use Rattle.afr_model.specs.Commands.{path_of, steps_of}
use Rattle.afr_model.specs.Parts.{Makes, Part, Removes, Walks, part_at, the_make, the_removal, the_walk}
use Rattle.afr_model.specs.Refusals.{by_looks, by_path, or_else, read_refused, refusal, too_large, without_source}
use Rattle.afr_model.specs.Showing.{Path, At, among, has, looked_by, path_by, refuses_read}
use Rattle.afr_model.specs.Standing.{place_by}
use Rattle.afr_object.specs.Tables.{is_dir}
use Rattle.afr_object.specs.declared.entry.Entry.{Entry}
use Rattle.afr_plan.specs.declared.command.Command.{Command}
use Rattle.afr_plan.specs.declared.command.Command.TheVariants as command
use Rattle.afr_plan.specs.declared.plan.Plan.{Plan}
use Rattle.afr_law_picks.proofs.Rule.{candidates_are, numbers_of}
use Rattle.afr_law_picks.specs.Readings.{are_over, asked_at, asked_by, asked_by_part, asked_for, asked_for_command, asked_for_rename, kind_here, looked_here, or_before}
use Rattle.afr_rule.specs.declared.candidate.Candidate.{Candidate}
use Rattle.afr_client_walk.specs.Choosing.{candidates_of, choices, choices_after, has_sources}
use Rattle.afr_client_walk.specs.Looks.{IsLooks, heard_look, left_to_look}
use Rattle.afr_client_walk.specs.Walk.{IsStep, IsWalk, choices_at, choices_of, is_walking, next_at, next_in}
use Rattle.afr_client_walk.specs.declared.looks.Looks.{Looks}
use Rattle.afr_client_walk.specs.declared.walk.Walk.{Walk}
use Rattle.afr_client_walk.specs.declared.walk.WalkStep.{WalkStep}
use Rattle.afr_client_walk.specs.declared.walk.WalkStep.TheVariants.{Arrived, Looking, Naming, Stopped}

-- by a request: a look asks the rule for what the lines say, and else it isn't asked
abbrev pub AsksAs : Plan → Command → Request → Work → List Candidate → Type 0
AsksAs p c (request.Look g) more from = asked_at p c g (kind_here c (path_by p more)) more ≡ map numbers_of from
AsksAs p c asked more from = from ≡ []

-- the same of the lines of any command's work; a rename's are in parts
abbrev pub AsksOf : Plan → Command → Request → Work → List Candidate → Type 0
AsksOf p c (request.Look g) more from = asked_for_command p c more ≡ map numbers_of from
AsksOf p c asked more from = from ≡ []

-- the command isn't a rename
abbrev pub HasOnePath : Command → Type 0
HasOnePath (command.Rename from to) = ⊥
HasOnePath c = Unit {0}

asked_one : (p : Plan) (c : Command) (w : Work) → HasOnePath c → asked_for_command p c w ≡ asked_for p c w
asked_one p (command.Rename from to) w one = absurd one
asked_one p c w one = refl

pub asks_one : (p : Plan) (c : Command) (asked : Request) (a : ActorId) (b : BrickId) (told : Told) (took : Bool) (log : List Line) (lines : Work) (from : List Candidate) → HasOnePath c → AsksAs p c asked ((Ask a b asked told took, log) ∷ lines) from
    → AsksOf p c asked ((Ask a b asked told took, log) ∷ lines) from
asks_one p c (request.Look g) a b told took log lines from one k = asked_one p c ((Ask a b (request.Look g) told took, log) ∷ lines) one ∙ k
asks_one p c asked a b told took log lines from one k = k

-- a line looks
abbrev pub is_look_line : Line → Bool
is_look_line (Ask a b asked told took) = is_look asked
is_look_line line = false

-- a line that doesn't asks the rule for nothing new
unasked : (p : Plan) (c : Command) (line : Line) (w : Work) → is_look_line line ≡ false → asked_by p c line w ≡ None
unasked p c (Ask a b (request.Look g) told took) w e = absurd (cc e)
unasked p c line w e = refl

unasked_part : (part : Part) (p : Plan) (from to : List NameId) (line : Line) (w : Work) → is_look_line line ≡ false → asked_by_part part p from to line w ≡ None
unasked_part Walks p from to line w e = unasked p (command.Stat from) line (the_walk from w) e
unasked_part Makes p from to line w e = unasked p (command.Create to) line (the_make from w) e
unasked_part Removes p from to line w e = unasked p (command.Unlink from) line (the_removal from w) e

pub asked_before : (p : Plan) (c : Command) (line : Line) (log : List Line) (w : Work) → is_look_line line ≡ false → asked_for_command p c ((line, log) ∷ w) ≡ asked_for_command p c w
asked_before p (command.Rename from to) line log w e = ap (λ (x : Option (List (ℕ × ℕ))). or_before x (asked_for_rename p from to w)) (unasked_part (part_at from line w) p from to line ((line, log) ∷ w) e)
asked_before p c line log w e = ap (λ (x : Option (List (ℕ × ℕ))). or_before x (asked_for p c w)) (unasked p c line ((line, log) ∷ w) e)

-- a verdict has sources where it refuses nothing
sources_pass : (v : Verdict) (looked : Looked) → not (is_some (without_source v looked.views)) ≡ has_sources v
sources_pass Short looked = refl
sources_pass Bare looked = refl
sources_pass Split looked = refl
sources_pass (Sources s) looked = refl

-- while it looks, a walk has asked those that its lines have
abbrev pub StepAsked : WalkStep → Work → Type 0
StepAsked (Looking s) lines = s.asked ≡ among looked_here lines
StepAsked step lines = Unit {0}

module _ (p : Plan) (c : Command) where
  -- ---- looks without a lock
  pub looks_ask : (read : ℕ) (object : Entry) (after : Looks) (more : Work) (kind : Kind) → LookTells p read object after more → after.asked ≡ among looked_here more → kind_here c (At read object) ≡ Some kind
      → refusal p c more ≡ by_looks p.shape kind (looked_by object.gfid more) → asked_at p c object.gfid (kind_here c (path_by p more)) more ≡ map numbers_of (choices_after p.shape kind after)
  looks_ask read object after more kind known asked here refused =
      ap (λ (x : Path). asked_at p c object.gfid (kind_here c x) more) known.goes.path ∙ ap (λ (x : Option Kind). asked_at p c object.gfid x more) here ∙ ends
    where
      over_is : are_over p c object.gfid more ≡ is_nothing (left_to_look p.shape.n after)
      over_is = let none = locks_none p.shape.n object.gfid more known.goes.only in rw (none, sym asked) refl

      pass_is : not (is_some (refusal p c more)) ≡ has_sources (verdict_of p.shape (looked_by object.gfid more) kind)
      pass_is = ap (λ (x : Option Reply). not (is_some x)) refused ∙ sources_pass (verdict_of p.shape (looked_by object.gfid more) kind) (looked_by object.gfid more)

      go : (e : Bool) → is_nothing (left_to_look p.shape.n after) ≡ e
          → (if e && has_sources (verdict_of p.shape (looked_by object.gfid more) kind) then model.candidates_of p.shape kind (looked_by object.gfid more) else []) ≡ map numbers_of (if e then choices p.shape after.looked kind else [])
      go false over = refl
      go true over =
          by_sources (has_sources (verdict_of p.shape (looked_by object.gfid more) kind))
          ∙ ap (λ (x : Looked). map numbers_of (choices p.shape x kind)) (sym (known.same over))
        where
          by_sources : (s : Bool) → (if s then model.candidates_of p.shape kind (looked_by object.gfid more) else []) ≡ map numbers_of (if s then candidates_of p.shape (looked_by object.gfid more) kind else [])
          by_sources true = sym (candidates_are p.shape (looked_by object.gfid more) kind)
          by_sources false = refl

      ends : asked_at p c object.gfid (Some kind) more ≡ map numbers_of (choices_after p.shape kind after)
      ends =
          ap (λ (x : Bool). if x && not (is_some (refusal p c more)) then model.candidates_of p.shape kind (looked_by object.gfid more) else []) over_is
          ∙ ap (λ (x : Bool). if is_nothing (left_to_look p.shape.n after) && x then model.candidates_of p.shape kind (looked_by object.gfid more) else []) pass_is
          ∙ go (is_nothing (left_to_look p.shape.n after)) refl

  -- ---- on the way
  -- what refuses a command whose path has led to a directory on its way
  way_refuses : (read : ℕ) (object : Entry) (w : Work) → too_large c ≡ None → has refuses_read w ≡ false → place_by p c w ≡ At read object → nat_lt read (steps_of c) ≡ true → is_dir object.what ≡ true
      → refusal p c w ≡ by_looks p.shape Names (looked_by object.gfid w)
  way_refuses read object w large unrefused place before dir =
      ap (λ (x : Option Reply). or_else x (or_else (read_refused w) (by_path p c (place_by p c w) w))) large
      ∙ ap (λ (x : Path). or_else (read_refused w) (by_path p c x w)) place
      ∙ (rw (unrefused, before, dir) refl)

  -- the path of a walk goes through these steps of the command, and stands where the command's does
  pub record WalksFor (w : Walk) (lines : Work) : Type 0 where
    pub small : too_large c ≡ None
    pub steps : w.read < length w.path → nat_lt w.read (steps_of c) ≡ true
    pub names : w.read < length w.path → nat_lt w.read (length (path_of c)) ≡ true
    pub place : (line : Line) (log : List Line) → w.read < length w.path → path_by p ((line, log) ∷ lines) ≡ At w.read w.object → path_by p lines ≡ At w.read w.object → place_by p c ((line, log) ∷ lines) ≡ At w.read w.object

  pub walk_asks : (of : Command) (w : Walk) (lines : Work) (a : ActorId) (heard : Answer) (took : Bool) (log : List Line) → IsWalk w → is_walking w.step ≡ true → WalkTells p of w lines → WalksFor w lines → StepAsked w.step lines
      → AsksAs p c (next_in w).1 ((Ask a (next_in w).0 (next_in w).1 (told_by heard) took, log) ∷ lines) (choices_of heard w)
  walk_asks of w lines a heard took log sound walks k fits was = by w.step walks sound.step k.step was
    where
      few : p.shape.n ≤ 5
      few = subst (λ (x : Shape). x.n ≤ 5) k.shape sound.few

      by : (step : WalkStep) → is_walking step ≡ true → IsStep w.shape.n (length w.path) w.read step → TellsAt p of step w.read w.object lines → StepAsked step lines
          → AsksAs p c (next_at step w).1 ((Ask a (next_at step w).0 (next_at step w).1 (told_by heard) took, log) ∷ lines) (choices_at step heard w)
      by (Looking s) h i (goes, dir, agree, but) was =
          subst (λ (x : Shape). AsksAs p c (request.Look w.object.gfid) ((Ask a (record { 0 = lowest (left_to_look x.n s) }) (request.Look w.object.gfid) (told_by heard) took, log) ∷ lines) (choices_after x Names (heard_look x.n (told_by heard) s))) (sym k.shape)
          (looks_ask w.read w.object after more Names known (ap (added (lowest (left_to_look p.shape.n s))) was) (rw (fits.names i.1) refl)
          (way_refuses w.read w.object more fits.small known.goes.unrefused (fits.place (Ask a (record { 0 = lowest (left_to_look p.shape.n s) }) (request.Look w.object.gfid) (told_by heard) took) log i.1 known.goes.path goes.path) (fits.steps i.1) dir))
        where
          after : Looks
          after = heard_look p.shape.n (told_by heard) s

          more : Work
          more = look_line p w.object a took log s (told_by heard) lines

          known : LookTells p w.read w.object after more
          known = look_known p few w.read w.object lines a took log s (told_by heard) (subst (λ (x : Shape). IsLooks x.n s) k.shape i.0) goes agree but
      by (Naming b) h i t was = refl
      by Arrived h i t was = absurd (cc h)
      by (Stopped why) h i t was = absurd (cc h)
