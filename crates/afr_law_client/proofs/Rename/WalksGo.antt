-- After one line more of a walk the lines of a rename show where it stands.
use Rattle.std.proofs.Common.{◌≡◌, ℕ, Bool, true, List, [], ◌∷◌, ◌++◌, length, refl, sym, ap, ◌∙◌, subst}
use Rattle.afr_base.specs.declared.ids.ActorId.{ActorId}
use Rattle.afr_base.specs.declared.ids.BrickId.{BrickId}
use Rattle.afr_base.specs.declared.ids.NameId.{NameId}
use Rattle.afr_lines.specs.Told.{told_by}
use Rattle.afr_lines.specs.Work.{Work}
use Rattle.afr_lines.specs.declared.answer.Answer.{Answer}
use Rattle.afr_lines.specs.declared.line.Line.{Line}
use Rattle.afr_lines.specs.declared.line.Line.TheVariants.{Ask}
use Rattle.afr_lines.specs.declared.line.Next.TheVariants as next
use Rattle.afr_lines.specs.declared.request.Request.{Request}
use Rattle.afr_plan.specs.declared.command.Command.{Command}
use Rattle.afr_plan.specs.declared.command.Command.TheVariants as command
use Rattle.afr_plan.specs.declared.plan.Plan.{Plan}
use Rattle.afr_model.specs.Parts.{the_make}
use Rattle.afr_model.specs.Renamed.{AreLegs}
use Rattle.afr_model.proofs.Cut.Cut.{first_all, make_grows, make_waits, walk_grows}
use Rattle.afr_client_walk.specs.Choosing.{IsAmong}
use Rattle.afr_client_walk.specs.Walk.{choices_of, is_walking, next_in, walked}
use Rattle.afr_client_walk.specs.declared.walk.Walk.{Walk}
use Rattle.afr_client_entry.specs.Entry.{after_walk}
use Rattle.afr_client_entry.specs.declared.job.EntryJob.TheVariants.{Create}
use Rattle.afr_law_client.specs.Read.Lines.{CanAnswer, OnlyReads}
use Rattle.afr_law_client.proofs.Read.ReadsMore.{asks_same}
use Rattle.afr_law_client.proofs.Read.Walking.{walk_tells_more}
use Rattle.afr_law_client.specs.Entry.EntryTelling as entry
use Rattle.afr_law_client.specs.Entry.EntryTelling.{command_of as job_command}
use Rattle.afr_law_client.proofs.Entry.Walks.{walks_more}
use Rattle.afr_client_entry.specs.Renames.Paths.{IsPaths, first_walked, second_walked}
use Rattle.afr_client_entry.specs.Renames.Rename.{after_first, after_second}
use Rattle.afr_client_entry.specs.declared.renaming.paths.Paths.{Paths}
use Rattle.afr_client_entry.proofs.Renames.RenameLemmas.{first_paths, walked_path}
use Rattle.afr_law_client.specs.Rename.RenameTelling.{CanFind, IsLeg, OnFirst, RenameTells, WalksOn, WalksToFile, command_of, to_of}
use Rattle.afr_law_client.proofs.Rename.MakingWalked.{first_more_on}
use Rattle.afr_law_client.proofs.Rename.Walks.{finds_again, finds_walk, legs_more, not_all_asked, only_of, walks_again}
use Rattle.afr_law_client.proofs.Rename.WalksLeave.{AsCreate, first_moved, second_moved}
use Rattle.afr_law_client.proofs.Rename.WalksMore.{Stands, asked_more, led_more, on_way_more}

-- ---- a line of the first walk
module _ (p : Plan) (c : Command) (x : Paths) (lines : Work) (a : ActorId) (chosen : BrickId) (heard : Answer) (took : Bool) (log : List Line) (paths : IsPaths x) (walks : is_walking x.first.step ≡ true) (shape : x.first.shape ≡ p.shape) (named : c ≡ command_of x) (k : WalksToFile p x lines) where
  abbrev at : ℕ
  at = length log

  abbrev after : Paths
  after = first_walked chosen heard at x

  abbrev line : Line
  line = Ask a (next_in x.first).0 (next_in x.first).1 (told_by heard) took

  abbrev more : Work
  more = (line, log) ∷ lines

  kept : (walked chosen heard at x.first).path ≡ x.first.path
  kept = walked_path chosen heard at x.first

  stands : CanFind p (next_in x.first).0.0 (next_in x.first).1 log heard → IsAmong (choices_of heard x.first) chosen → Stands p x.first.path (walked chosen heard at x.first) x.first.object.gfid more
  stands can among =
      let legs = legs_more p.shape x.first lines a chosen heard took log at k.tells.shape paths.first.few walks k.leg k.legs in
      record {
        tells = walk_tells_more p (command.Stat x.first.path) x.first lines a chosen heard took log at paths.first walks k.tells can.answers among;
        whole = walk_grows x.first.path (line, log) lines (not_all_asked p x lines k paths.first walks) ∙ ap (λ (w : Work). (line, log) ∷ w) (finds_walk p x lines k paths.first walks);
        alone = make_waits x.first.path (line, log) lines (not_all_asked p x lines k paths.first walks) (finds_again p x lines k paths.first walks a (told_by heard) took);
        asked = asked_more p x.first lines a chosen heard took log at x.first.step walks k.asked;
        on = on_way_more p x.first lines a chosen heard took log at (command.Stat x.first.path) x.first.step walks paths.first.step k.tells.step can.answers;
        led = led_more p x.first lines a chosen heard took log at (command.Stat x.first.path) x.first.step walks k.tells.step k.asked can.numbered;
        legs = legs.0;
        leg = legs.1;
      }

  first_more_is : CanFind p (next_in x.first).0.0 (next_in x.first).1 log heard → IsAmong (choices_of heard x.first) chosen → RenameTells p c (record { paths = after; stage = after_first after }) more
  first_more_is can among =
      let s = stands can among in
      record {
        shape = s.tells.shape;
        named = named ∙ ap (λ (path : List NameId). command.Rename path (to_of x)) (sym kept);
        stage = first_moved p after more (first_paths chosen heard at x paths walks among) (ap (λ (w : Walk). record w { register = (walked chosen heard at x.first).register }) k.waits)
            (subst (λ (path : List NameId). Stands p path (walked chosen heard at x.first) x.first.object.gfid more) (sym kept) s);
      }

  -- whatever it was told
  pub finding_more : (b : BrickId) (request : Request) → next.Ask (next_in x.first).0 (next_in x.first).1 ≡ next.Ask b request → CanFind p b.0 request log heard → IsAmong (choices_of heard x.first) chosen
      → RenameTells p c (record { paths = first_walked chosen heard (length log) x; stage = after_first (first_walked chosen heard (length log) x) }) ((Ask a b request (told_by heard) took, log) ∷ lines)
  finding_more b request e can among =
      asks_same (λ (b : BrickId) (r : Request). CanFind p b.0 r log heard → RenameTells p c (record { paths = after; stage = after_first after }) ((Ask a b r (told_by heard) took, log) ∷ lines))
      (next_in x.first).0 b (next_in x.first).1 request e (λ can. first_more_is can among) can

-- ---- a line of the second walk
-- the first walk stays as it was
pub on_first_kept : (p : Plan) (x : Paths) (second : Walk) (lines : Work) → OnFirst p x lines → OnFirst p (record x { second = second }) lines
on_first_kept p x second lines k = record {
  walked = record {
    all = k.walked.all;
    goes = k.walked.goes;
    found = k.walked.found;
    in_dir = k.walked.in_dir;
    numbered = k.walked.numbered;
    unlocked = k.walked.unlocked;
    walked = k.walked.walked;
    legs = k.walked.legs;
  };
  first = k.first;
}

module _ (p : Plan) (c : Command) (x : Paths) (lines : Work) (a : ActorId) (chosen : BrickId) (heard : Answer) (took : Bool) (log : List Line) (paths : IsPaths x) (walks : is_walking x.second.step ≡ true) (shape : x.first.shape ≡ p.shape) (named : c ≡ command_of x) (k : WalksOn p x lines) where
  abbrev at2 : ℕ
  at2 = length log

  abbrev w : Walk
  w = walked chosen heard at2 x.second

  abbrev on_line : Line
  on_line = Ask a (next_in x.second).0 (next_in x.second).1 (told_by heard) took

  abbrev lines2 : Work
  lines2 = (on_line, log) ∷ lines

  abbrev make2 : Work
  make2 = (on_line, log) ∷ the_make x.first.path lines

  second_kept : w.path ≡ x.second.path
  second_kept = walked_path chosen heard at2 x.second

  grows : the_make x.first.path lines2 ≡ make2
  grows = make_grows x.first.path (on_line, log) lines k.on.walked.all k.on.first (walks_again p x lines k paths.second walks a (told_by heard) took)

  legs2 : AreLegs p.shape.n lines2 × IsLeg p.shape.n w.step w.object.gfid lines2
  legs2 = legs_more p.shape x.second lines a chosen heard took log at2 k.tells.tells.shape paths.second.few walks k.leg (subst (λ (v : Work). AreLegs p.shape.n v) (first_all lines k.on.first) k.on.walked.legs)

  on_first : OnFirst p (second_walked chosen heard at2 x) lines2
  on_first = on_first_kept p x w lines2 (first_more_on p x lines k.on on_line log (walks_again p x lines k paths.second walks a (told_by heard) took) legs2.0)

  module _ (can : CanAnswer p (next_in x.second).0.0 (next_in x.second).1 log heard) (among : IsAmong (choices_of heard x.second) chosen) where
    only2 : OnlyReads p.shape.n make2
    only2 = let t = walk_tells_more p (command.Ls x.second.path) x.second (the_make x.first.path lines) a chosen heard took log at2 paths.second walks k.tells.tells can among in only_of p (command.Ls x.second.path) w.step w.read w.object make2 t.step

    create2 : AsCreate p (second_walked chosen heard at2 x) make2
    create2 =
        let t = walks_more p x.second (the_make x.first.path lines) a chosen heard took log paths.second k.tells (job_command (Create x.new_name) x.second.path) (Create x.new_name) walks refl can among in
        subst (λ (path : List NameId). entry.TellsIn p (command.Create (path ++ x.new_name ∷ [])) (Create x.new_name) (after_walk (Create x.new_name) w) w make2) (sym second_kept) t.stage

    second_more_is : RenameTells p c (record { paths = second_walked chosen heard at2 x; stage = after_second (second_walked chosen heard at2 x) }) lines2
    second_more_is = record {
      shape = shape;
      named = named ∙ ap (λ (path : List NameId). command.Rename x.first.path (path ++ x.new_name ∷ [])) (sym second_kept);
      stage = second_moved p (second_walked chosen heard at2 x) lines2 on_first (subst (λ (v : Work). OnlyReads p.shape.n v) (sym grows) only2) legs2.1 (subst (λ (v : Work). AsCreate p (second_walked chosen heard at2 x) v) (sym grows) create2);
    }

  -- whatever it was told
  pub walking_more : (b : BrickId) (request : Request) → next.Ask (next_in x.second).0 (next_in x.second).1 ≡ next.Ask b request → CanAnswer p b.0 request log heard → IsAmong (choices_of heard x.second) chosen
      → RenameTells p c (record { paths = second_walked chosen heard (length log) x; stage = after_second (second_walked chosen heard (length log) x) }) ((Ask a b request (told_by heard) took, log) ∷ lines)
  walking_more b request e can among =
      asks_same (λ (b : BrickId) (r : Request). CanAnswer p b.0 r log heard → RenameTells p c (record { paths = second_walked chosen heard at2 x; stage = after_second (second_walked chosen heard at2 x) }) ((Ask a b r (told_by heard) took, log) ∷ lines))
      (next_in x.second).0 b (next_in x.second).1 request e (λ can. second_more_is can among) can
