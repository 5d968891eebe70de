-- What the lines show after one look more, at an object on the way or at the path's end.
use Rattle.std.proofs.Common.{◌≡◌, ℕ, ◌<◌, ◌≤◌, ◌&&◌, Bool, true, List, [], ◌∷◌, refl, sym, subst, arith, if◌then◌else◌}
use Rattle.std.proofs.lemmas.Bool.{and_from, lt-ltb}
use Rattle.afr_base.specs.Bricks.{added, lowest, is_nothing, member}
use Rattle.afr_base.specs.declared.ids.ActorId.{ActorId}
use Rattle.afr_base.specs.declared.ids.BrickId.{BrickId}
use Rattle.afr_base.specs.declared.ids.Kind.{Kind}
use Rattle.afr_object.specs.declared.entry.Entry.{Entry}
use Rattle.afr_choice.specs.declared.looked.Looked.{Looked}
use Rattle.afr_lines.specs.Work.{Work}
use Rattle.afr_lines.specs.declared.answer.Told.{Told}
use Rattle.afr_lines.specs.declared.line.Line.{Line}
use Rattle.afr_lines.specs.declared.line.Line.TheVariants.{Ask}
use Rattle.afr_lines.specs.declared.request.Request.{Request}
use Rattle.afr_lines.specs.declared.request.Request.TheVariants.{Look}
use Rattle.afr_plan.specs.declared.plan.Plan.{Plan}
use Rattle.afr_model.specs.Showing.{among, looked_by, looking}
use Rattle.afr_client_walk.specs.Choosing.{IsAmong, choices, choices_after}
use Rattle.afr_discipline.specs.Free.{is_free}
use Rattle.afr_client_walk.specs.Looks.{left_to_look, heard_look, IsLooks}
use Rattle.afr_client_walk.specs.declared.looks.Looks.{Looks}
use Rattle.afr_client_walk.proofs.WalkLemmas.{asked_below}
use Rattle.afr_law_client.specs.Read.Lines.{LookedAll, LookedBut, OnlyReads}
use Rattle.afr_law_client.specs.Read.Looks.{Agree, LooksAgree}
use Rattle.afr_law_client.specs.Read.WalkTelling.{GoesOn}
use Rattle.afr_law_client.proofs.Read.LooksMore.{agree_more, all_asked, looks_are}
use Rattle.afr_law_client.proofs.Read.Quiet.{all_from_but, looked_but_more, looked_more, looking_more, plain_by}

-- a look or a read joins a work of looks and reads
pub only_more : (n : ℕ) (a : ActorId) (b : BrickId) (request : Request) (told : Told) (took : Bool) (log : List Line) (w : Work) → b.0 < n → is_free request ≡ true → OnlyReads n w
    → OnlyReads n ((Ask a b request told took, log) ∷ w)
only_more n a b request told took log w low free k = (and_from _ _ (lt-ltb b.0 n low) free, k)

-- the lines with a look of the lowest brick that is left
abbrev pub look_line : Plan → Entry → ActorId → Bool → List Line → Looks → Told → Work → Work
look_line p object a took log s told lines = (Ask a (record { 0 = lowest (left_to_look p.shape.n s) }) (Look object.gfid) told took, log) ∷ lines

-- what they show then; where nobody is left to ask, the machine's looks are theirs
pub record LookTells (p : Plan) (read : ℕ) (object : Entry) (after : Looks) (more : Work) : Type 0 where
  pub goes : GoesOn p read object more
  pub agree : LooksAgree p.shape.n object.gfid after more
  pub but : LookedBut p.shape.n object.gfid more
  pub own : is_nothing (left_to_look p.shape.n after) ≡ true → (b : ℕ) → b < p.shape.n → member (among (looking object.gfid) more) b ≡ true
  pub all : is_nothing (left_to_look p.shape.n after) ≡ true → LookedAll p.shape.n more
  pub same : is_nothing (left_to_look p.shape.n after) ≡ true → after.looked ≡ looked_by object.gfid more

-- where nobody is left to ask, what is chosen is chosen by the last looks of the lines
pub among_lines : (p : Plan) (read : ℕ) (object : Entry) (after : Looks) (more : Work) (kind : Kind) (chosen : BrickId) → LookTells p read object after more → is_nothing (left_to_look p.shape.n after) ≡ true
    → IsAmong (choices_after p.shape kind after) chosen → IsAmong (choices p.shape (looked_by object.gfid more) kind) chosen
among_lines p read object after more kind chosen known over among =
    subst (λ (x : Looked). IsAmong (choices p.shape x kind) chosen) (known.same over) (subst (λ (x : Bool). IsAmong (if x then choices p.shape after.looked kind else []) chosen) over among)

module _ (p : Plan) (few : p.shape.n ≤ 5) (read : ℕ) (object : Entry) (lines : Work) (a : ActorId) (took : Bool) (log : List Line) (s : Looks) (told : Told) (looks : IsLooks p.shape.n s) (goes : GoesOn p read object lines) (agree : LooksAgree p.shape.n object.gfid s lines) (but : LookedBut p.shape.n object.gfid lines) where
  abbrev n : ℕ
  n = p.shape.n

  abbrev asked : BrickId
  asked = record { 0 = lowest (left_to_look n s) }

  abbrev after : Looks
  after = heard_look n told s

  abbrev more : Work
  more = look_line p object a took log s told lines

  goes_more : GoesOn p read object more
  goes_more = record { only = only_more n a asked (Look object.gfid) told took log lines (asked_below n s looks.left) refl goes.only; unread = goes.unread; unrefused = goes.unrefused; path = goes.path }

  agrees : LooksAgree n object.gfid after more
  agrees =
      subst (λ (x : List ℕ). Agree n after x (looked_by object.gfid more)) (sym (looking_more object.gfid a asked told took log lines))
      (subst (λ (x : Looked). Agree n after (added asked.0 (among (looking object.gfid) lines)) x) (sym (looked_more object.gfid a asked told took log lines))
      (agree_more n told s (among (looking object.gfid) lines) (looked_by object.gfid lines) few (asked_below n s looks.left) (plain_by n object.gfid lines few goes.only) agree))

  but_more : LookedBut n object.gfid more
  but_more = looked_but_more n object.gfid a asked told took log lines but

  own : is_nothing (left_to_look n after) ≡ true → (b : ℕ) → b < n → member (among (looking object.gfid) more) b ≡ true
  own over = all_asked n after (among (looking object.gfid) more) (looked_by object.gfid more) few over agrees

  pub look_known : LookTells p read object after more
  look_known = record {
    goes = goes_more;
    agree = agrees;
    but = but_more;
    own = own;
    all = λ over. all_from_but n object.gfid more but_more (own over);
    same = λ over. looks_are n after (among (looking object.gfid) more) (looked_by object.gfid more) few over (plain_by n object.gfid more few goes_more.only) agrees;
  }
